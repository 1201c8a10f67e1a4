-- The worked example: the masked toggle.
use Rattle.std.proofs.Common.{◌≡◌, ◌<◌, ◌+◌, ◌*◌, ◌==◌, ◌++◌, ℕ, zero, suc, true, false, List, [], ◌∷◌, Option, None, Some, map, length, reverse, IsTrue, nat_lt, slice_get, refl, sym, ap, subst, arith, codes, decimal}
use Rattle.std.proofs.lemmas.Fmt.{decimal_digit}
use Rattle.std.specs.Option.{option_map_or}
use Rattle.std.proofs.lemmas.Bool.{eqb-true}
use Rattle.agm_net.specs.Loop.{HasNoLoop}
use Rattle.agm_net.specs.Plain.{bit_names}
use Rattle.agm_net.specs.Trace.{Row, row_at, bit_at, IsTrace}
use Rattle.agm_net.specs.WellFormed.{WellFormed, drivers, is_clock_port}
use Rattle.agm_net.specs.declared.port.Port.{Port}
use Rattle.agm_net.specs.declared.port.Range.{Range}
use Rattle.agm_net.specs.declared.port.Way.{Way}
use Rattle.agm_net.specs.declared.port.Way.TheVariants.{Input, Output}
use Rattle.agm_net.proofs.InOrder.{no_loop_in_order}
use Rattle.agm_net.proofs.Lists.{all_of_one}
use Rattle.share_wiring.specs.Recombine.{xor_rows, port_value}
use Rattle.share_wiring.specs.Shape.{Shape, Header, header_of}
use Rattle.share_wiring.specs.Schedule.{Drives, chosen, input_values, stream_at}
use Rattle.share_wiring.specs.Worked.{one_wide, toggle, toggle_report, masked_toggle, toggle_streams, masked_power, masked_tape, masked_table}
use Rattle.share_wiring.proofs.Lists.{row_once}
use Rattle.share_wiring.proofs.Decide.{each_passes, names_differ, they_are_fresh, trace_from, same_row, rows_same}

-- the bits of a port are named as the port
abbrev IsNamed : Port → Type 0
IsNamed p = map (slice_get masked_toggle.wires) p.bits ≡ map (λ name. Some name) (bit_names p.name p.range)

-- the digits 0 and 1
zero_digit : decimal 0 ≡ 48 ∷ []
zero_digit = decimal_digit 0 (omega arith)

one_digit : decimal 1 ≡ 49 ∷ []
one_digit = decimal_digit 1 (omega arith)

-- what holds with these digits holds with the numbers
pub with_digits : (P : List ℕ → List ℕ → Type 0) → P (48 ∷ []) (49 ∷ []) → P (decimal 0) (decimal 1)
with_digits P h = subst (λ ds. P ds (decimal 1)) (sym zero_digit) (subst (P (48 ∷ [])) (sym one_digit) h)

-- and back
pub from_digits : (P : List ℕ → List ℕ → Type 0) → P (decimal 0) (decimal 1) → P (48 ∷ []) (49 ∷ [])
from_digits P h = subst (λ ds. P ds (49 ∷ [])) zero_digit (subst (P (decimal 0)) one_digit h)

-- the name of the one bit of a port with the range [0:0]
one_wide_named : (name : List ℕ) → Some (name ++ 91 ∷ 48 ∷ 93 ∷ []) ∷ [] ≡ map (λ n. Some n) (bit_names name one_wide)
one_wide_named name = ap (λ ds. Some (name ++ 91 ∷ (ds ++ 93 ∷ [])) ∷ []) (sym zero_digit)

pub is_net : WellFormed masked_toggle
is_net = record {
  in_range = refl;
  ports_right = record {
    ports_differ = names_differ (map (λ p. p.name) masked_toggle.ports) refl;
    bits_named = λ n p at. all_of_one IsNamed masked_toggle.ports n p (refl, (refl, (one_wide_named (codes "agm_r"), (one_wide_named (codes "agm_q_s0"), (one_wide_named (codes "agm_q_s1"), (refl, (refl, (refl, (refl, (refl, (refl, tt))))))))))) at;
    one_port = λ w. row_once 0 11 w;
    clock_fits = λ c e. (let is : 0 ≡ c = cc in subst (λ k. IsTrue (option_map_or is_clock_port (slice_get masked_toggle.ports k) false)) is refl);
  };
  wires_differ = names_differ masked_toggle.wires refl;
  one_driver = λ w lt. eqb-true (drivers masked_toggle w) 1 (each_passes (λ v. drivers masked_toggle v == 1) 30 w refl lt);
}

-- the names with a share index, by the index's digits
abbrev pub state_port : List ℕ → List ℕ
state_port ds = codes "agm_q_s" ++ ds

abbrev pub share_port : List ℕ → List ℕ → List ℕ
share_port ds name = codes "agm_s" ++ (ds ++ (95 ∷ name))

abbrev header : List ℕ → Way → Option Range → Header
header name way range = record { name = name; way = way; range = range }

abbrev headers : List ℕ → List ℕ → List Header
headers first second =
    header (codes "agm_clk") Input None ∷ header (codes "agm_load") Input None ∷ header (codes "agm_r") Input one_wide
    ∷ header (state_port first) Input one_wide ∷ header (state_port second) Input one_wide
    ∷ header (share_port first (codes "x")) Input None ∷ header (share_port second (codes "x")) Input None
    ∷ header (share_port first (codes "y")) Input None ∷ header (share_port second (codes "y")) Input None
    ∷ header (share_port first (codes "q")) Output None ∷ header (share_port second (codes "q")) Output None ∷ []

pub has_shape : Shape toggle toggle_report masked_toggle
has_shape = record { headers = with_digits (λ first second. map header_of masked_toggle.ports ≡ headers first second) refl; clock = refl }

pub has_no_loop : HasNoLoop masked_toggle
has_no_loop = no_loop_in_order masked_toggle (λ w. nat_lt w 28) (they_are_fresh (λ w. nat_lt w 28) masked_toggle.lines refl)

pub runs : IsTrace masked_toggle masked_power masked_tape masked_table
runs = trace_from masked_toggle masked_power masked_tape masked_table refl

-- ---- the schedule

-- what the ports of two shares recombine to in a cycle
abbrev sum_at : List ℕ → List ℕ → ℕ → Row
sum_at first second t = xor_rows (port_value masked_toggle first (bit_at masked_table t)) (port_value masked_toggle second (bit_at masked_table t))

abbrev sum_of_shares : List ℕ → List ℕ → List ℕ → ℕ → Row
sum_of_shares first second name t = sum_at (share_port first name) (share_port second name) t

-- the load signal is 1 in the first three cycles
loaded : (t : ℕ) → t < 9 → port_value masked_toggle (codes "agm_load") (bit_at masked_table t) ≡ nat_lt t 3 ∷ []
loaded t lt =
    rows_same (port_value masked_toggle (codes "agm_load") (bit_at masked_table t)) (nat_lt t 3 ∷ [])
    (each_passes (λ k. same_row (port_value masked_toggle (codes "agm_load") (bit_at masked_table k)) (nat_lt k 3 ∷ [])) 9 t refl lt)

-- the state of each stream
states : (s : ℕ) → s < 3 → reverse (sum_at (state_port (48 ∷ [])) (state_port (49 ∷ [])) s) ≡ chosen true (true ∷ []) (stream_at toggle_streams s).initial
states zero lt = refl
states (suc zero) lt = refl
states (suc (suc zero)) lt = refl
states (suc (suc (suc s))) lt = absurd (omega arith)

-- there is no public one
no_state : (s : ℕ) → s < 3 → reverse (port_value masked_toggle (codes "agm_q_p") (bit_at masked_table s)) ≡ chosen false (true ∷ []) (stream_at toggle_streams s).initial
no_state zero lt = refl
no_state (suc zero) lt = refl
no_state (suc (suc zero)) lt = refl
no_state (suc (suc (suc s))) lt = absurd (omega arith)

long_streams : (s : ℕ) → s < 3 → length (stream_at toggle_streams s).steps ≡ 2
long_streams zero lt = refl
long_streams (suc zero) lt = refl
long_streams (suc (suc zero)) lt = refl
long_streams (suc (suc (suc s))) lt = absurd (omega arith)

-- the inputs of each step
inputs : (s k : ℕ) → s < 3 → k < 2
    → sum_of_shares (48 ∷ []) (49 ∷ []) (codes "x") (1 + s + 3 * k) ++ (sum_of_shares (48 ∷ []) (49 ∷ []) (codes "y") (1 + s + 3 * k) ++ []) ≡ row_at (stream_at toggle_streams s).steps k
inputs zero zero lt less = refl
inputs zero (suc zero) lt less = refl
inputs (suc zero) zero lt less = refl
inputs (suc zero) (suc zero) lt less = refl
inputs (suc (suc zero)) zero lt less = refl
inputs (suc (suc zero)) (suc zero) lt less = refl
inputs (suc (suc (suc s))) k lt less = absurd (omega arith)
inputs s (suc (suc k)) lt less = absurd (omega arith)

pub drives : Drives toggle (true ∷ []) toggle_report masked_toggle toggle_streams 2 masked_table
drives = record {
  as_many = refl;
  as_long = long_streams;
  load = loaded;
  public_state = no_state;
  secret_state = with_digits (λ first second. (s : ℕ) → s < 3 → reverse (sum_at (state_port first) (state_port second) s) ≡ chosen true (true ∷ []) (stream_at toggle_streams s).initial) states;
  inputs = λ s k t lt less is.
      let P : ℕ → Type 0 = λ c. input_values toggle toggle_report masked_toggle (bit_at masked_table c) ≡ row_at (stream_at toggle_streams s).steps k in
      subst P (sym is)
      (with_digits (λ first second. sum_of_shares first second (codes "x") (1 + s + 3 * k) ++ (sum_of_shares first second (codes "y") (1 + s + 3 * k) ++ []) ≡ row_at (stream_at toggle_streams s).steps k)
      (inputs s k lt less));
  is_read = λ s k lt less. (let long : length masked_table ≡ 9 = refl in omega arith);
}
