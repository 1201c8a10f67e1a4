-- How what events give is put together.
use Rattle.std.proofs.Common.{◌≡◌, ◌++◌, ℕ, Bool, cond, true, false, List, [], ◌∷◌, Option, Some, None, Ok, Err, refl, ap, sym, ◌∙◌, subst, Result}
use Rattle.form_bits.specs.Forms.{Text, or_else}
use Rattle.form_bits.specs.declared.types.Bit.{Bit}
use Rattle.module_rules.specs.Items.{is_among}
use Rattle.bound_items.specs.Events.{Event, wire, broken, line, flop, pin, first_broken}
use Rattle.bound_items.specs.Items.{plain_lines, unless, bit_formula}
use Rattle.bound_items.specs.State.{State, state_of, after, with_wire, with_line, with_flop, with_pin, UnlessMemory, Gives}
use Rattle.bound_items.specs.declared.netlist.Netlist.{Netlist}
use Rattle.bound_items.specs.declared.fault.BindFault.{BindFault}
use Rattle.bound_items.specs.declared.fault.BindFault.TheVariants.{UnknownCell, UnknownPin, UnknownWire, Driven, Width, Top, Recursive, BarredCell, Clash, Memory}

pub after_append : (s : State) (xs ys : List Event) → after s (xs ++ ys) ≡ after (after s xs) ys
after_append s [] ys = refl
after_append s (wire n ∷ es) ys = after_append (with_wire s n) es ys
after_append s (broken f ∷ es) ys = after_append s es ys
after_append s (line l ∷ es) ys = after_append (with_line s l) es ys
after_append s (flop f ∷ es) ys = after_append (with_flop s f) es ys
after_append s (pin n d ∷ es) ys = after_append (with_pin s n d) es ys

cond_or : {X : Type 0} (b : Bool) (x : X) (o p : Option X) → cond b (Some x) (or_else o p) ≡ or_else (cond b (Some x) o) p
cond_or true x o p = refl
cond_or false x o p = refl

pub broken_append : (s : State) (xs ys : List Event) → first_broken s.names (xs ++ ys) ≡ or_else (first_broken s.names xs) (first_broken (after s xs).names ys)
broken_append s [] ys = refl
broken_append s (wire n ∷ es) ys =
    ap (λ o. cond (is_among s.names n) (Some (Clash n)) o) (broken_append (with_wire s n) es ys)
    ∙ cond_or (is_among s.names n) (Clash n) (first_broken (s.names ++ n ∷ []) es) (first_broken (after (with_wire s n) es).names ys)
broken_append s (broken f ∷ es) ys = refl
broken_append s (line l ∷ es) ys = broken_append (with_line s l) es ys
broken_append s (flop f ∷ es) ys = broken_append (with_flop s f) es ys
broken_append s (pin n d ∷ es) ys = broken_append (with_pin s n d) es ys

pub map_unless : (f : BindFault) (P Q : Type 0) → (P → Q) → UnlessMemory f P → UnlessMemory f Q
map_unless (UnknownCell i c) P Q g p = g p
map_unless (UnknownPin i c) P Q g p = g p
map_unless (UnknownWire n) P Q g p = g p
map_unless (Driven n d) P Q g p = g p
map_unless (Width l r) P Q g p = g p
map_unless (Top n) P Q g p = g p
map_unless (Recursive m) P Q g p = g p
map_unless (BarredCell i c b) P Q g p = g p
map_unless (Clash n) P Q g p = g p
map_unless Memory P Q g p = tt

-- more events behind those of a call
pub gives_then : (s : State) (xs ys : List Event) (m n : Netlist) → Gives s xs (Ok m) → first_broken (state_of m).names ys ≡ None → state_of n ≡ after (state_of m) ys
    → Gives s (xs ++ ys) (Ok n)
gives_then s xs ys m n g quiet now = (
  broken_append s xs ys
      ∙ (ap (λ o. or_else o (first_broken (after s xs).names ys)) g.0 ∙ (sym (ap (λ (t : State). first_broken t.names ys) g.1) ∙ quiet)),
  now ∙ (ap (λ t. after t ys) g.1 ∙ sym (after_append s xs ys)),
)

pub gives_broken : (s : State) (xs ys : List Event) (f : BindFault) → Gives s xs (Err f) → Gives s (xs ++ ys) (Err f)
gives_broken s xs ys f g =
    map_unless f (first_broken s.names xs ≡ Some f) (first_broken s.names (xs ++ ys) ≡ Some f)
    (λ e. broken_append s xs ys ∙ ap (λ o. or_else o (first_broken (after s xs).names ys)) e) g

-- events behind a check
pub unless_broken : (s : State) (o : Option BindFault) (es : List Event) (f : BindFault) → UnlessMemory f (o ≡ Some f) → Gives s (unless o es) (Err f)
unless_broken s o es f h =
    map_unless f (o ≡ Some f) (first_broken s.names (unless o es) ≡ Some f) (λ e. ap (λ p. first_broken s.names (unless p es)) e) h

pub unless_gives : (s : State) (o : Option BindFault) (es : List Event) (r : Result Netlist BindFault) → o ≡ None → Gives s es r → Gives s (unless o es) r
unless_gives s o es r e g = subst (λ (p : Option BindFault). Gives s (unless p es) r) (sym e) g

-- plain equations break no rule
pub plain_quiet : (names : List Text) (ts vs : List Bit) → first_broken names (plain_lines ts vs) ≡ None
plain_quiet names [] vs = refl
plain_quiet names (t ∷ ts) [] = refl
plain_quiet names (t ∷ ts) (v ∷ vs) = plain_quiet names ts vs
