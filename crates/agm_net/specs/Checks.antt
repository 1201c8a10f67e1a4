-- What the checks of a net's parts compute, as functions of lists.
use Rattle.std.specs.Prelude.{◌≡◌, ◌≤◌, ◌<◌, ◌+◌, ◌-◌, ◌==◌, ◌&&◌, ◌||◌, ◌++◌, ℕ, Bool, true, false, not, if◌then◌else◌, List, [], ◌∷◌, Option, Some, None, IsTrue, length, map, filter, take, fold, min, nat_le, nat_lt, slice_get, slice_set, slice_index, slice_index_or, replicate}
use Rattle.std.specs.List.{list_all, list_any, flat_map, range_with_len}
use Rattle.std.specs.Option.{option_map_or}
use Rattle.std.specs.Str.{bytes_eq}
use Rattle.agm_net.specs.Formula.{Formula, formula_of, f_zero, f_one, f_wire, f_not, f_and, f_or, f_xor, f_mux}
use Rattle.agm_net.specs.Plain.{PlainNet, bit_names, is_input}
use Rattle.agm_net.specs.WellFormed.{IsRight, is_clock_port}
use Rattle.agm_net.specs.Writable.{is_graphic}
use Rattle.agm_net.specs.declared.port.Port.{Port}
use Rattle.agm_net.specs.declared.port.Range.{Range}
use Rattle.agm_net.specs.declared.expr.Equation.{Equation}
use Rattle.agm_net.specs.declared.expr.Register.{Register}

abbrev pub Texts : Type 0
Texts = List (List ℕ)

-- whether no place before k has the name at k
abbrev pub is_new : Texts → ℕ → Bool
is_new names k = not (list_any (λ n. bytes_eq n (slice_index_or names k [])) (take k names))

-- the first place whose name an earlier place has, or the number of names
pub record IsFirstRepeated (names : Texts) (i : ℕ) : Type 0 where
  pub within : i ≤ length names
  pub new_before : (k : ℕ) → k < i → IsTrue (is_new names k)
  pub repeated : i < length names → is_new names i ≡ false

-- whether each name is new
abbrev pub names_differ : Texts → Bool
names_differ names = list_all (is_new names) (range_with_len 0 (length names))

-- whether wire b is one and has a name
abbrev pub has_name : Texts → ℕ → List ℕ → Bool
has_name wires b name = option_map_or (λ w. bytes_eq w name) (slice_get wires b) false

-- whether bits and names are as many, and each bit's wire has the bit's name
abbrev pub are_named : Texts → List ℕ → Texts → Bool
are_named wires [] [] = true
are_named wires [] (n ∷ ns) = false
are_named wires (b ∷ bs) [] = false
are_named wires (b ∷ bs) (n ∷ ns) = has_name wires b n && are_named wires bs ns

abbrev pub is_named : Texts → Port → Bool
is_named wires p = are_named wires p.bits (bit_names p.name p.range)

-- the number of the i-th bit of a range
abbrev pub number_at : (msb lsb i : ℕ) → ℕ
number_at msb lsb i = if nat_le lsb msb then msb - i else msb + i

-- the counts after one more use of wire w: 255 stands for as many or more, and a number past the last wire counts nowhere
abbrev pub counted : List ℕ → ℕ → List ℕ
counted counts w = slice_set counts w (min (slice_index counts w + 1) 255)

-- how often each of n wires stands in a list
abbrev pub uses : ℕ → List ℕ → List ℕ
uses n ws = fold counted (replicate n 0) ws

-- whether no count is above 1
abbrev pub at_most_once : List ℕ → Bool
at_most_once counts = list_all (λ c. nat_le c 1) counts

-- whether wire k is not the repeated one and has one use
abbrev pub is_once : List ℕ → ℕ → ℕ → Bool
is_once counts repeated k = not (k == repeated) && (slice_index counts k == 1)

abbrev pub OnceBelow : List ℕ → ℕ → ℕ → Type 0
OnceBelow counts repeated n = (k : ℕ) → k < n → IsTrue (is_once counts repeated k)

-- the first wire that is repeated or has not one use
pub record IsFirstNotOnce (counts : List ℕ) (repeated w : ℕ) : Type 0 where
  pub within : w < length counts
  pub wrong : is_once counts repeated w ≡ false
  pub below : OnceBelow counts repeated w

-- whether the clock, where there is one, is an input port without a range
abbrev pub clock_fits : List Port → Option ℕ → Bool
clock_fits ports clock = option_map_or (λ c. option_map_or is_clock_port (slice_get ports c) false) clock true

-- the bits of all ports
abbrev pub port_bits : List Port → List ℕ
port_bits ports = flat_map (λ p. p.bits) ports

-- whether ports are right, by these checks
abbrev pub ports_fit : List Port → Texts → Option ℕ → Bool
ports_fit ports wires clock =
    names_differ (map (λ p. p.name) ports)
    && (list_all (is_named wires) ports && (at_most_once (uses (length wires) (port_bits ports)) && clock_fits ports clock))

-- the wires that ports, equations and registers drive
abbrev pub driven : List Port → List Equation → List Register → List ℕ
driven ports equations registers = flat_map (λ p. p.bits) (filter is_input ports) ++ (map (λ e. e.wire) equations ++ map (λ r. r.q) registers)

-- the first wire that is not right
pub record IsFirstWrong (net : PlainNet) (w : ℕ) : Type 0 where
  pub within : w < length net.wires
  pub right_before : (v : ℕ) → v < w → IsRight net v
  pub wrong : IsRight net w → Prim.⊥

-- every wire is right
abbrev pub AllRight : PlainNet → Type 0
AllRight net = (v : ℕ) → v < length net.wires → IsRight net v

-- whether a formula is a wire
abbrev pub is_wire : Formula → Bool
is_wire (f_wire w) = true
is_wire _ = false

-- whether a formula is this wire
abbrev pub is_this_wire : ℕ → Formula → Bool
is_this_wire q (f_wire w) = w == q
is_this_wire q _ = false

-- whether a formula is a constant, a wire, or one operator over wires
abbrev pub is_one_operator : Formula → Bool
is_one_operator f_zero = true
is_one_operator f_one = true
is_one_operator (f_wire w) = true
is_one_operator (f_not x) = is_wire x
is_one_operator (f_and x y) = is_wire x && is_wire y
is_one_operator (f_or x y) = is_wire x && is_wire y
is_one_operator (f_xor x y) = is_wire x && is_wire y
is_one_operator (f_mux s x y) = is_wire s && (is_wire x && is_wire y)

-- whether a formula is a wire, or a choice between wires that keeps q
abbrev pub is_next_of : ℕ → Formula → Bool
is_next_of q (f_wire w) = true
is_next_of q (f_mux s x y) = is_wire s && (is_this_wire q x && is_wire y)
is_next_of q _ = false

-- whether a name has a byte, and each byte is seen
abbrev pub is_writable : List ℕ → Bool
is_writable name = not (length name == 0) && list_all is_graphic name

-- whether the numbers of a range are at most 65,535
abbrev pub range_fits : Option Range → Bool
range_fits None = true
range_fits (Some r) = nat_le r.msb 65535 && nat_le r.lsb 65535

-- whether a port's name can be written and its range fits
abbrev pub is_plain_port : Port → Bool
is_plain_port p = is_writable p.name && range_fits p.range

-- whether a wire has another name than these, or is counted
abbrev pub is_other_or_counted : Texts → List ℕ → ℕ → Bool
is_other_or_counted names name count = not (list_any (λ n. bytes_eq n name) names) || nat_lt 0 count

-- whether a net's parts are plain, apart from wires that have the names of ports
abbrev pub parts_plain : List Port → Texts → List Equation → List Register → Bool
parts_plain ports wires equations registers =
    list_all (λ e. is_one_operator (formula_of e.expr)) equations
    && (list_all (λ r. is_next_of r.q (formula_of r.next)) registers && (list_all is_plain_port ports && list_all is_writable wires))
