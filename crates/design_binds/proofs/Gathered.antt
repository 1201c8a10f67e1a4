-- What becomes of a walk that comes to wires, equations and registers.
use Rattle.std.proofs.Common.{◌≡◌, ℕ, false, List, [], ◌∷◌, ◌++◌, map, None, refl, sym, ap, subst, append_assoc}
use Rattle.std.specs.Str.{bytes_eq}
use Rattle.std.proofs.lemmas.Bool.{or_left}
use Rattle.agm_net.specs.Plain.{Line, Stored}
use Rattle.form_bits.specs.declared.types.Bit.TheVariants as formed
use Rattle.module_rules.specs.Items.{is_among}
use Rattle.wire_drivers.specs.Wiring.{PlainLine, PlainFlop}
use Rattle.bound_items.specs.Events.{Event, wire, line, flop, first_broken, wires_in, lines_in, flops_in, first_pin}
use Rattle.design_binds.proofs.Among.{Apart, name_itself, apart_sides}

-- an equation and a register of wires
abbrev pub line_of : Line → PlainLine
line_of l = (formed.Wire l.0, l.1)

abbrev pub flop_of : Stored → PlainFlop
flop_of r = record { q = formed.Wire r.q; next = r.next; clock = formed.Wire r.clock }

abbrev pub line_event : Line → Event
line_event l = line (line_of l)

abbrev pub flop_event : Stored → Event
flop_event r = flop (flop_of r)

abbrev pub stated : List Line → List Stored → List Event
stated ls rs = map line_event ls ++ map flop_event rs

abbrev pub walked : List (List ℕ) → List Line → List Stored → List Event
walked names ls rs = map (λ t. wire t) names ++ stated ls rs

-- no rule is broken

flops_unbroken : (rs : List Stored) (earlier : List (List ℕ)) → first_broken earlier (map flop_event rs) ≡ None
flops_unbroken [] earlier = refl
flops_unbroken (r ∷ rs) earlier = flops_unbroken rs earlier

unbroken : (ls : List Line) (rs : List Stored) (earlier : List (List ℕ)) → first_broken earlier (stated ls rs) ≡ None
unbroken [] rs earlier = flops_unbroken rs earlier
unbroken (l ∷ ls) rs earlier = unbroken ls rs earlier

broken_none : (earlier names : List (List ℕ)) (ls : List Line) (rs : List Stored) → Apart (earlier ++ names) → first_broken earlier (walked names ls rs) ≡ None
broken_none earlier [] ls rs a = unbroken ls rs earlier
broken_none earlier (n ∷ ns) ls rs a =
    let new : is_among earlier n ≡ false = apart_sides earlier (n ∷ ns) n a (or_left (bytes_eq n n) (is_among ns n) (name_itself n)) in
    rw new (broken_none (earlier ++ n ∷ []) ns ls rs (subst Apart (sym (append_assoc earlier (n ∷ []) ns)) a))

pub none_broken : (names : List (List ℕ)) (ls : List Line) (rs : List Stored) → Apart names → first_broken [] (walked names ls rs) ≡ None
none_broken names ls rs a = broken_none [] names ls rs a

-- wires

flop_wires : (rs : List Stored) → wires_in (map flop_event rs) ≡ []
flop_wires [] = refl
flop_wires (r ∷ rs) = flop_wires rs

no_wires : (ls : List Line) (rs : List Stored) → wires_in (stated ls rs) ≡ []
no_wires [] rs = flop_wires rs
no_wires (l ∷ ls) rs = no_wires ls rs

pub the_wires : (names : List (List ℕ)) (ls : List Line) (rs : List Stored) → wires_in (walked names ls rs) ≡ names
the_wires [] ls rs = no_wires ls rs
the_wires (n ∷ ns) ls rs = ap (λ k. n ∷ k) (the_wires ns ls rs)

-- equations

no_lines : (rs : List Stored) → lines_in (map flop_event rs) ≡ []
no_lines [] = refl
no_lines (r ∷ rs) = no_lines rs

lines_stated : (ls : List Line) (rs : List Stored) → lines_in (stated ls rs) ≡ map line_of ls
lines_stated [] rs = no_lines rs
lines_stated (l ∷ ls) rs = ap (λ ks. line_of l ∷ ks) (lines_stated ls rs)

pub the_lines : (names : List (List ℕ)) (ls : List Line) (rs : List Stored) → lines_in (walked names ls rs) ≡ map line_of ls
the_lines [] ls rs = lines_stated ls rs
the_lines (n ∷ ns) ls rs = the_lines ns ls rs

-- registers

flops_alone : (rs : List Stored) → flops_in (map flop_event rs) ≡ map flop_of rs
flops_alone [] = refl
flops_alone (r ∷ rs) = ap (λ fs. flop_of r ∷ fs) (flops_alone rs)

flops_stated : (ls : List Line) (rs : List Stored) → flops_in (stated ls rs) ≡ map flop_of rs
flops_stated [] rs = flops_alone rs
flops_stated (l ∷ ls) rs = flops_stated ls rs

pub the_flops : (names : List (List ℕ)) (ls : List Line) (rs : List Stored) → flops_in (walked names ls rs) ≡ map flop_of rs
the_flops [] ls rs = flops_stated ls rs
the_flops (n ∷ ns) ls rs = the_flops ns ls rs

-- no pin counts as a wire

flop_pins : (rs : List Stored) → first_pin (map flop_event rs) ≡ None
flop_pins [] = refl
flop_pins (r ∷ rs) = flop_pins rs

no_pins : (ls : List Line) (rs : List Stored) → first_pin (stated ls rs) ≡ None
no_pins [] rs = flop_pins rs
no_pins (l ∷ ls) rs = no_pins ls rs

pub no_pin : (names : List (List ℕ)) (ls : List Line) (rs : List Stored) → first_pin (walked names ls rs) ≡ None
no_pin [] ls rs = no_pins ls rs
no_pin (n ∷ ns) ls rs = no_pin ns ls rs
