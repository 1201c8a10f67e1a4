-- Equations in order, and nets that a small text can state.
use Rattle.std.specs.Prelude.{◌≡◌, ◌<◌, ◌==◌, ℕ, Bool, false, ◌||◌, List, [], ◌∷◌, length, IsTrue, codes, nat_eq}
use Rattle.std.specs.List.{AllByRecursion, starts_with}
use Rattle.agm_net.specs.Formula.{Formula, f_zero, f_one, f_wire, f_not, f_and, f_xor, stands}
use Rattle.agm_net.specs.Plain.{Line, PlainNet}
use Rattle.agm_net.specs.PlainForm.{IsWire, IsPlain}

-- each wire that stands in a formula is known
abbrev pub ReadsKnown : (ℕ → Bool) → Formula → Type 0
ReadsKnown known f = (w : ℕ) → IsTrue (stands w f) → IsTrue (known w)

-- each equation reads known wires, or wires of equations before it
abbrev pub InOrder : (ℕ → Bool) → List Line → Type 0
InOrder known [] = Unit {0}
InOrder known (l ∷ ls) = ReadsKnown known l.1 × InOrder (λ w. (w == l.0) || known w) ls

-- the same, where each equation is for a wire that is not known before
abbrev pub IsFresh : (ℕ → Bool) → List Line → Type 0
IsFresh known [] = Unit {0}
IsFresh known (l ∷ ls) = (known l.0 ≡ false) × ReadsKnown known l.1 × IsFresh (λ w. (w == l.0) || known w) ls

-- what an assign or a cell of the small form states: a constant, a wire, or an inversion, product or exclusive or of wires
abbrev pub IsCell : Formula → Type 0
IsCell f_zero = Unit {0}
IsCell f_one = Unit {0}
IsCell (f_wire a) = Unit {0}
IsCell (f_not (f_wire a)) = Unit {0}
IsCell (f_and (f_wire a) (f_wire b)) = Unit {0}
IsCell (f_xor (f_wire a) (f_wire b)) = Unit {0}
IsCell _ = Prim.⊥

-- A net that a small text can state, up to the order of its wires: it is plain, and has a port; an assign or a cell states each
-- equation, and each register stores a wire; and no name begins with `agm_u`, as those of instances do.
pub record IsSmallNet (net : PlainNet) : Type 0 where
  pub is_plain : IsPlain net
  pub has_port : 0 < length net.ports
  pub cells : AllByRecursion (λ l. IsCell l.1) net.lines
  pub stored : AllByRecursion (λ r. IsWire r.next) net.registers
  pub wires_named : AllByRecursion (λ name. starts_with nat_eq name (codes "agm_u") ≡ false) net.wires
  pub ports_named : AllByRecursion (λ p. starts_with nat_eq p.name (codes "agm_u") ≡ false) net.ports
