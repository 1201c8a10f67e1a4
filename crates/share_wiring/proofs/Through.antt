-- The second worked example, and one that is wrong.
use Rattle.std.proofs.Common.{◌≡◌, ◌<◌, ◌+◌, ◌*◌, ◌==◌, ◌++◌, ℕ, zero, suc, Bool, false, List, [], ◌∷◌, Some, None, map, length, reverse, IsTrue, slice_get, nat_lt, refl, sym, ap, ap₂, ◌∙◌, subst, arith, codes, eqb-true}
use Rattle.std.specs.Option.{option_map_or}
use Rattle.agm_net.specs.Formula.{xor}
use Rattle.agm_net.specs.Loop.{HasNoLoop}
use Rattle.agm_net.specs.Plain.{bit_names}
use Rattle.agm_net.specs.Trace.{Row, row_at, bit_at, Holds, IsTrace}
use Rattle.agm_net.specs.WellFormed.{WellFormed, drivers, is_clock_port}
use Rattle.agm_net.specs.declared.port.Port.{Port}
use Rattle.agm_net.specs.declared.port.Way.{Way}
use Rattle.agm_net.specs.declared.port.Way.TheVariants.{Input, Output}
use Rattle.agm_net.proofs.InOrder.{no_loop_in_order}
use Rattle.agm_net.proofs.Lists.{all_of_one}
use Rattle.share_wiring.specs.Recombine.{xor_rows, port_value, masked_value}
use Rattle.share_wiring.specs.Shape.{Shape, Header, header_of}
use Rattle.share_wiring.specs.Schedule.{Stream, stream_at, input_values, Drives}
use Rattle.share_wiring.specs.Same.{Same}
use Rattle.share_wiring.specs.Inverted.{IsUnread, IsShareOf, IsDriven}
use Rattle.share_wiring.specs.Worked.{port, bits}
use Rattle.share_wiring.specs.WorkedWire.{through, through_marks, through_report, masked_through}
use Rattle.share_wiring.proofs.Lists.{row_once}
use Rattle.share_wiring.proofs.Decide.{each_passes, names_differ, they_are_fresh, trace_from}
use Rattle.share_wiring.proofs.MaskedToggle.{share_port, with_digits}

abbrev IsNamed : List (List ℕ) → Port → Type 0
IsNamed wires p = map (slice_get wires) p.bits ≡ map (λ name. Some name) (bit_names p.name p.range)

pub is_net : WellFormed through
is_net = record {
  in_range = refl;
  ports_right = record {
    ports_differ = names_differ (map (λ p. p.name) through.ports) refl;
    bits_named = λ n p at. all_of_one (IsNamed through.wires) through.ports n p (refl, (refl, tt)) at;
    one_port = λ w. row_once 0 2 w;
    clock_fits = λ c e. absurd (cc);
  };
  wires_differ = names_differ through.wires refl;
  one_driver = λ w lt. eqb-true (drivers through w) 1 (each_passes (λ v. drivers through v == 1) 2 w refl lt);
}

pub masked_is_net : WellFormed masked_through
masked_is_net = record {
  in_range = refl;
  ports_right = record {
    ports_differ = names_differ (map (λ p. p.name) masked_through.ports) refl;
    bits_named = λ n p at. all_of_one (IsNamed masked_through.wires) masked_through.ports n p (refl, (refl, (refl, (refl, (refl, (refl, tt)))))) at;
    one_port = λ w. row_once 0 6 w;
    clock_fits = λ c e. (let is : 0 ≡ c = cc in subst (λ k. IsTrue (option_map_or is_clock_port (slice_get masked_through.ports k) false)) is refl);
  };
  wires_differ = names_differ masked_through.wires refl;
  one_driver = λ w lt. eqb-true (drivers masked_through w) 1 (each_passes (λ v. drivers masked_through v == 1) 6 w refl lt);
}

abbrev header : List ℕ → Way → Header
header name way = record { name = name; way = way; range = None }

abbrev headers : List ℕ → List ℕ → List Header
headers first second =
    header (codes "agm_clk") Input ∷ header (codes "agm_load") Input
    ∷ header (share_port first (codes "x")) Input ∷ header (share_port second (codes "x")) Input
    ∷ header (share_port first (codes "y")) Output ∷ header (share_port second (codes "y")) Output ∷ []

has_shape : Shape through through_report masked_through
has_shape = record { headers = with_digits (λ first second. map header_of masked_through.ports ≡ headers first second) refl; clock = refl }

has_no_loop : HasNoLoop masked_through
has_no_loop = no_loop_in_order masked_through (λ w. nat_lt w 4) (they_are_fresh (λ w. nat_lt w 4) masked_through.lines refl)

-- what the ports of two shares recombine to
abbrev sum : List ℕ → List ℕ → List ℕ → (ℕ → Bool) → Row
sum name first second bit = xor_rows (port_value masked_through (share_port first name) bit) (port_value masked_through (share_port second name) bit)

x_is : (bit : ℕ → Bool) → masked_value masked_through through_report (codes "x") bit ≡ xor (bit 2) (bit 3) ∷ []
x_is bit = with_digits (λ first second. sum (codes "x") first second bit ≡ xor (bit 2) (bit 3) ∷ []) refl

y_is : (bit : ℕ → Bool) → masked_value masked_through through_report (codes "y") bit ≡ xor (bit 4) (bit 5) ∷ []
y_is bit = with_digits (λ first second. sum (codes "y") first second bit ≡ xor (bit 4) (bit 5) ∷ []) refl

pub is_same : Same through through_marks through_report masked_through
is_same = record {
  shape = has_shape;
  no_loop = has_no_loop;
  outputs = λ power tape table secrets streams steps trace told driven s k first lt less runs n p at way.
      by_port n p table streams steps driven s k first lt less runs (λ t below. trace.equations_hold t below) at way;
}
  where
    by_port : (n : ℕ) (p : Port) (table : List Row) (streams : List Stream) (steps : ℕ) {secrets : List Bool} → Drives through secrets through_report masked_through streams steps table
        → (s k : ℕ) (first : List Row) → s < length streams → k < steps → IsTrace through (stream_at streams s).initial (stream_at streams s).steps first
        → ((t : ℕ) → t < length table → Holds (bit_at table t) masked_through.lines) → slice_get through.ports n ≡ Some p → p.way ≡ Output
        → masked_value masked_through through_report p.name (bit_at table (1 + s + 1 * k + 0)) ≡ map (bit_at first k) p.bits
    by_port zero p table streams steps driven s k first lt less runs holds at way =
        let is : port (codes "x") Input None 0 ≡ p = cc in
        absurd (let no : Input ≡ Output = ap (λ (q : Port). q.way) is ∙ way in cc)
    by_port (suc zero) p table streams steps driven s k first lt less runs holds at way =
        let is : port (codes "y") Output None 1 ≡ p = cc in
        let c = 1 + s + 1 * k in
        let read = driven.is_read s k lt less in
        let same : c + 0 ≡ c = omega arith in
        let within : c < length table = omega (arith, read) in
        let long = driven.as_long s lt in
        let count = runs.as_long in
        let row_within : k < length first = omega (arith, long, count, less) in
        let given : xor (bit_at table c 2) (bit_at table c 3) ∷ [] ≡ bit_at first k 0 ∷ [] =
        ap (λ xs. xs ++ []) (sym (x_is (bit_at table c))) ∙ (driven.inputs s k c lt less refl ∙ sym (runs.inputs_given k row_within)) in
        let bit : xor (bit_at table c 2) (bit_at table c 3) ≡ bit_at first k 0 = cc in
        let out : bit_at first k 1 ≡ bit_at first k 0 = (runs.equations_hold k row_within).0 in
        let here : xor (bit_at table c 4) (bit_at table c 5) ∷ [] ≡ bit_at first k 1 ∷ [] =
        ap (λ x. x ∷ []) (ap₂ xor (holds c within).0 (holds c within).1.0 ∙ (bit ∙ sym out)) in
        subst (λ q. masked_value masked_through through_report q.name (bit_at table (c + 0)) ≡ map (bit_at first k) q.bits) is
        (ap (λ t. masked_value masked_through through_report (codes "y") (bit_at table t)) same ∙ (y_is (bit_at table c) ∙ here))
    by_port (suc (suc n)) p table streams steps driven s k first lt less runs holds at way = absurd (cc)

-- ---- share 0 of y

pub is_share : IsShareOf through through_report masked_through 1 0 4 4 (port (codes "y") Output None 1) (port (codes "agm_s0_y") Output None 4)
is_share = record {
  at = refl;
  way = refl;
  shared = refl;
  index = omega arith;
  there = refl;
  named = with_digits (λ first second. codes "agm_s0_y" ≡ share_port first (codes "y")) refl;
  own = refl;
}

pub is_unread : IsUnread masked_through 4
is_unread = ((refl, (refl, tt)), tt)

abbrev streams : List Stream
streams = record { initial = []; steps = bits (codes "1") ∷ [] } ∷ []

abbrev table : List Row
table = bits (codes "010000") ∷ bits (codes "001010") ∷ []

drives : Drives through [] through_report masked_through streams 1 table
drives = record {
  as_many = refl;
  as_long = long;
  load = loaded;
  public_state = λ s lt. refl;
  secret_state = λ s lt. with_digits (λ first second. reverse (xor_rows (port_value masked_through (codes "agm_q_s" ++ first) (bit_at table s)) (port_value masked_through (codes "agm_q_s" ++ second) (bit_at table s))) ≡ []) refl;
  inputs = inputs;
  is_read = λ s k lt less. omega arith;
}
  where
    long : (s : ℕ) → s < 1 → length (stream_at streams s).steps ≡ 1
    long zero lt = refl
    long (suc s) lt = absurd (omega arith)

    loaded : (t : ℕ) → t < 2 → port_value masked_through (codes "agm_load") (bit_at table t) ≡ nat_lt t 1 ∷ []
    loaded zero lt = refl
    loaded (suc zero) lt = refl
    loaded (suc (suc t)) lt = absurd (omega arith)

    inputs : (s k t : ℕ) → s < 1 → k < 1 → t ≡ 1 + s + 1 * k → input_values through through_report masked_through (bit_at table t) ≡ row_at (stream_at streams s).steps k
    inputs zero zero t lt less at =
        let one : t ≡ 1 = omega (arith, at) in
        subst (λ c. input_values through through_report masked_through (bit_at table c) ≡ bits (codes "1")) (sym one) (ap (λ xs. xs ++ []) (x_is (bit_at table 1)))
    inputs (suc s) k t lt less at = absurd (omega arith)
    inputs s (suc k) t lt less at = absurd (omega arith)

pub is_driven : IsDriven through through_marks through_report masked_through
is_driven = record {
  power = [];
  tape = bits (codes "100") ∷ bits (codes "010") ∷ [];
  table = table;
  secrets = [];
  streams = streams;
  steps = 1;
  stream = 0;
  step = 0;
  first = bits (codes "11") ∷ [];
  trace = trace_from masked_through [] (bits (codes "100") ∷ bits (codes "010") ∷ []) table refl;
  tells = record { one_each = refl; tells = λ n r at. absurd (cc) };
  drives = drives;
  within = (omega arith, omega arith);
  runs = trace_from through [] (bits (codes "1") ∷ []) (bits (codes "11") ∷ []) refl;
}
