-- Which gadgets there are, and whether they are whole.
use Rattle.std.specs.Prelude.{◌≡◌, ◌≤◌, ◌<◌, ◌+◌, ◌^◌, ◌↔◌, ◌==◌, ℕ, Bool, false, cond, min, nat_le, List, Option, Some, None, IsTrue, nat_eq}
use Rattle.std.specs.List.{AllByRecursion, list_any}
use Rattle.agm_net.specs.Label.{pair_number, part}
use Rattle.agm_net.specs.Network.{HasGadget, HasPart, IsPastGap, IsWhole}
use Rattle.agm_net.specs.Plain.{PlainNet}
use Rattle.agm_net.specs.declared.label.PartKind.{PartKind}
use Rattle.agm_net.specs.declared.label.PartKind.TheVariants.{R}
use Rattle.hpc2_audit.specs.Parts.{HasIndices}
use Rattle.hpc2_audit.specs.declared.spelled.Spelled.{Spelled}
use Rattle.hpc2_audit.specs.declared.spelled.Spelled.TheVariants.{OfPart}

-- the first number in the name of a part
abbrev pub first_number : ℕ → PartKind → ℕ → ℕ → ℕ
first_number d R i j = pair_number (d + 1) i j
first_number d _ i j = i

module _ (net : PlainNet) (d g : ℕ) where
  abbrev pub HasRow : PartKind → ℕ → Type 0
  HasRow kind i = (j : ℕ) → HasIndices d kind i j → HasPart net d (part g kind i j)

  abbrev pub HasKind : PartKind → Type 0
  HasKind kind = (i : ℕ) → HasRow kind i

  abbrev pub HasKinds : List PartKind → Type 0
  HasKinds kinds = AllByRecursion HasKind kinds

-- all these gadgets are whole
abbrev pub AreWhole : PlainNet → ℕ → List ℕ → Type 0
AreWhole net d gadgets = (g : ℕ) → IsTrue (list_any (nat_eq g) gadgets) → IsWhole net d g

-- whether a name says that its wire is a part of gadget g
abbrev pub is_of : ℕ → Spelled → Bool
is_of g (OfPart p) = p.gadget == g
is_of g _ = false

-- the numbers of gadgets by what names say
abbrev pub AreGadgets : List Spelled → List ℕ → Type 0
AreGadgets said gadgets = (g : ℕ) → list_any (nat_eq g) gadgets ≡ list_any (is_of g) said

-- the first number below 2^32 that is none of these, or 2^32
pub record IsFirstMissing (gadgets : List ℕ) (m : ℕ) : Type 0 where
  pub small : m ≤ 2 ^ 32
  pub before : (g : ℕ) → g < m → IsTrue (list_any (nat_eq g) gadgets)
  pub none : m < 2 ^ 32 → list_any (nat_eq m) gadgets ≡ false

-- the lower of two numbers, of which the second counts where it is above a third
abbrev pub lower : Option ℕ → ℕ → ℕ → Option ℕ
lower None m g = cond (nat_le g m) None (Some g)
lower (Some n) m g = cond (nat_le g m) (Some n) (Some (min n g))

-- the lowest gadget above a number, by what names say
abbrev pub IsLowestAbove : List Spelled → ℕ → Option ℕ → Type 0
IsLowestAbove said m None = (g : ℕ) → m < g → list_any (is_of g) said ≡ false
IsLowestAbove said m (Some n) = (m < n) × IsTrue (list_any (is_of n) said) × ((g : ℕ) → m < g → g < n → list_any (is_of g) said ≡ false)

-- How gadgets are numbered: each number below m is one's, and m is none's. Where gadgets stand behind that gap the lowest of them is told.
pub record IsNumbering (net : PlainNet) (d m : ℕ) (behind : Option ℕ) : Type 0 where
  pub before : (g : ℕ) → g < m → HasGadget net d g
  pub none : HasGadget net d m → Prim.⊥
  pub no_gap : behind ≡ None → (g : ℕ) → m < g → HasGadget net d g → Prim.⊥
  pub behind_gap : (g : ℕ) → behind ≡ Some g → HasGadget net d g
  pub lowest : (g : ℕ) → HasGadget net d g → IsPastGap net d g ↔ (behind ≡ Some g)
