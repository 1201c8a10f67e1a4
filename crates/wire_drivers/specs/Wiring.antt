-- Wires with what drives and reads them, the first that is wrong, and the net without those that nothing drives.
use Rattle.std.specs.Prelude.{◌≡◌, ◌==◌, ◌&&◌, ◌||◌, ◌++◌, ℕ, Bool, true, false, not, cond, List, [], ◌∷◌, Option, Some, None, map, filter, length, count_by, nat_lt, nat_le, slice_index, slice_index_or}
use Rattle.std.specs.List.{flat_map, range_with_len, find}
use Rattle.std.specs.Option.{option_map}
use Rattle.agm_net.specs.Formula.{Formula, f_zero, f_one, f_wire, f_not, f_and, f_or, f_xor, f_mux}
use Rattle.agm_net.specs.Plain.{Line, Stored, PlainNet, is_input}
use Rattle.agm_net.specs.Renumbered.{renumbered, renumbered_port}
use Rattle.agm_net.specs.declared.port.Port.{Port}
use Rattle.form_bits.specs.declared.types.Bit.{Bit}
use Rattle.form_bits.specs.declared.types.Bit.TheVariants.{Constant, Wire}
use Rattle.wire_drivers.specs.declared.types.Wrong.{Wrong}

-- a bit that is given a value, and the formula of the value; where the bit is a constant the formula is read and drives nothing
abbrev pub PlainLine : Type 0
PlainLine = Bit × Formula

-- a register: its output, its next value and its clock
pub record PlainFlop : Type 0 where
  pub q : Bit
  pub next : Formula
  pub clock : Bit

-- wires are the numbers below the count of `wires`, which has their names
pub record Wiring : Type 0 where
  pub ports : List Port
  pub wires : List (List ℕ)
  pub lines : List PlainLine
  pub flops : List PlainFlop

abbrev pub wires_of : Bit → List ℕ
wires_of (Constant b) = []
wires_of (Wire w) = w ∷ []

-- the wires that stand in a formula, each as often as it does
abbrev pub wires_in : Formula → List ℕ
wires_in f_zero = []
wires_in f_one = []
wires_in (f_wire w) = w ∷ []
wires_in (f_not x) = wires_in x
wires_in (f_and x y) = wires_in x ++ wires_in y
wires_in (f_or x y) = wires_in x ++ wires_in y
wires_in (f_xor x y) = wires_in x ++ wires_in y
wires_in (f_mux s x y) = wires_in s ++ (wires_in x ++ wires_in y)

abbrev pub is_output : Port → Bool
is_output p = not (is_input p)

-- the wires that are driven: bits of input ports, those of equations, outputs of registers
abbrev pub driven : Wiring → List ℕ
driven w = flat_map (λ p. p.bits) (filter is_input w.ports) ++ (flat_map (λ l. wires_of l.0) w.lines ++ flat_map (λ f. wires_of f.q) w.flops)

-- the wires that are read: bits of output ports, those in formulas, the clocks of registers
abbrev pub read : Wiring → List ℕ
read w = flat_map (λ p. p.bits) (filter is_output w.ports) ++ (flat_map (λ l. wires_in l.1) w.lines ++ flat_map (λ f. wires_in f.next ++ wires_of f.clock) w.flops)

abbrev pub times : ℕ → List ℕ → ℕ
times wire wires = count_by (λ v. v == wire) wires

abbrev pub drivers : Wiring → ℕ → ℕ
drivers w wire = times wire (driven w)

-- by the counts of drivers and readers: no driver and a reader, or two drivers
abbrev pub is_wrong_count : (drivers readers : ℕ) → Bool
is_wrong_count d r = (d == 0 && nat_lt 0 r) || nat_le 2 d

abbrev pub is_wrong : Wiring → ℕ → Bool
is_wrong w wire = is_wrong_count (drivers w wire) (times wire (read w))

-- the first wire that is wrong, with its count of drivers
abbrev pub first_wrong : Wiring → Option Wrong
first_wrong w = option_map (λ wire. record { wire = wire; drivers = drivers w wire }) (find (is_wrong w) (range_with_len 0 (length w.wires)))

-- a wire is kept where something drives it
abbrev pub is_kept : Wiring → ℕ → Bool
is_kept w wire = nat_lt 0 (drivers w wire)

-- the numbers of the wires among those that are kept
abbrev pub numbers : Wiring → List ℕ
numbers w = map (λ wire. count_by (is_kept w) (range_with_len 0 wire)) (range_with_len 0 (length w.wires))

abbrev pub kept_name : Wiring → ℕ → List (List ℕ)
kept_name w wire = cond (is_kept w wire) (slice_index_or w.wires wire [] ∷ []) []

abbrev pub kept_line : (ℕ → ℕ) → PlainLine → List Line
kept_line there (Constant b, f) = []
kept_line there (Wire w, f) = (there w, renumbered there f) ∷ []

abbrev pub kept_bits : (ℕ → ℕ) → Bit → Formula → Bit → List Stored
kept_bits there (Wire q) next (Wire clock) = record { q = there q; next = renumbered there next; clock = there clock } ∷ []
kept_bits there _ next _ = []

abbrev pub kept_flop : (ℕ → ℕ) → PlainFlop → List Stored
kept_flop there f = kept_bits there f.q f.next f.clock

-- The net of wires of which none is wrong, without those that nothing drives.
abbrev pub kept_net : Wiring → Option ℕ → PlainNet
kept_net w clock =
    let there : ℕ → ℕ = λ wire. slice_index (numbers w) wire in
    record {
      ports = map (renumbered_port there) w.ports;
      wires = flat_map (kept_name w) (range_with_len 0 (length w.wires));
      lines = flat_map (kept_line there) w.lines;
      registers = flat_map (kept_flop there) w.flops;
      clock = clock;
    }
