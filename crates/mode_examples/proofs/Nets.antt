-- Nets of ports of one bit, and an order of their equations, by tests.
use Rattle.std.proofs.Common.{◌≡◌, ◌==◌, ℕ, Bool, true, false, not, ◌&&◌, List, map, length, IsTrue, slice_get, Option, Some, None, ap, subst}
use Rattle.std.specs.List.{AllByRecursion, list_all, list_any, flat_map, range_with_len}
use Rattle.std.specs.Option.{option_map_or}
use Rattle.std.proofs.lemmas.Bool.{and_parts, eqb-true, both_ways, not-true}
use Rattle.agm_net.proofs.Lists.{all_of_one}
use Rattle.agm_net.specs.Plain.{PlainNet, bit_names}
use Rattle.agm_net.specs.Secret.{is_secure}
use Rattle.agm_net.specs.WellFormed.{WellFormed, numbers_fit, drivers, is_clock_port}
use Rattle.agm_net.specs.declared.mark.Mark.{Mark}
use Rattle.agm_net.specs.declared.port.Port.{Port}
use Rattle.logic_graph.specs.Searching.{IsOrder, is_unset, line_at}
use Rattle.secrecy_spread.specs.Clock.{ClockIsOpen}
use Rattle.share_wiring.proofs.Decide.{apart, each_passes, names_differ, fresh, they_are_fresh}
use Rattle.mode_examples.proofs.Tests.{all_below, are_below, are_once, all_once}

abbrev pub bits_of_ports : PlainNet → List ℕ
bits_of_ports net = flat_map (λ p. p.bits) net.ports

-- the bits of a port are named as the port
abbrev pub IsNamed : PlainNet → Port → Type 0
IsNamed net p = map (slice_get net.wires) p.bits ≡ map (λ name. Some name) (bit_names p.name p.range)

abbrev ports_differ : PlainNet → Bool
ports_differ net = apart (map (λ p. p.name) net.ports)

abbrev all_driven : PlainNet → Bool
all_driven net = list_all (λ w. drivers net w == 1) (range_with_len 0 (length net.wires))

abbrev is_clock : List Port → ℕ → Bool
is_clock ports c = option_map_or is_clock_port (slice_get ports c) false

abbrev has_clock : PlainNet → Bool
has_clock net = option_map_or (is_clock net.ports) net.clock true

abbrev pub is_net : PlainNet → Bool
is_net net = numbers_fit net && (ports_differ net && (apart net.wires && (are_once (bits_of_ports net) && (all_driven net && has_clock net))))

-- a test of the clock's port
passes_of : (test : ℕ → Bool) (o : Option ℕ) → IsTrue (option_map_or test o true) → (c : ℕ) → o ≡ Some c → IsTrue (test c)
passes_of test None h c is = absurd (cc)
passes_of test (Some d) h c is = subst (λ k. IsTrue (test k)) (let same : d ≡ c = cc in same) h

pub well : (net : PlainNet) → AllByRecursion (IsNamed net) net.ports → IsTrue (is_net net) → WellFormed net
well net named h =
    let one = and_parts (numbers_fit net) (ports_differ net && (apart net.wires && (are_once (bits_of_ports net) && (all_driven net && has_clock net)))) h in
    let two = and_parts (ports_differ net) (apart net.wires && (are_once (bits_of_ports net) && (all_driven net && has_clock net))) one.1 in
    let three = and_parts (apart net.wires) (are_once (bits_of_ports net) && (all_driven net && has_clock net)) two.1 in
    let four = and_parts (are_once (bits_of_ports net)) (all_driven net && has_clock net) three.1 in
    let five = and_parts (all_driven net) (has_clock net) four.1 in
    record {
      in_range = one.0;
      ports_right = record {
        ports_differ = names_differ (map (λ p. p.name) net.ports) two.0;
        bits_named = λ n p at. all_of_one (IsNamed net) net.ports n p named at;
        one_port = all_once (bits_of_ports net) four.0;
        clock_fits = passes_of (is_clock net.ports) net.clock five.1;
      };
      wires_differ = names_differ net.wires three.0;
      one_driver = λ w lt. eqb-true (drivers net w) 1 (each_passes (λ v. drivers net v == 1) (length net.wires) w five.0 lt);
    }

-- the equations in their own order
abbrev pub places : PlainNet → List ℕ
places net = range_with_len 0 (length net.lines)

abbrev are_fresh : PlainNet → Bool
are_fresh net = fresh (is_unset net.lines) (map (line_at net.lines) (places net))

abbrev are_whole : PlainNet → Bool
are_whole net = list_all (λ i. list_any (λ j. j == i) (places net)) (places net)

abbrev pub is_ordered : PlainNet → Bool
is_ordered net = are_fresh net && (are_whole net && are_below (length net.lines) (places net))

pub ordered : (net : PlainNet) → IsTrue (is_ordered net) → IsOrder net.lines (places net)
ordered net h =
    let one = and_parts (are_fresh net) (are_whole net && are_below (length net.lines) (places net)) h in
    let two = and_parts (are_whole net) (are_below (length net.lines) (places net)) one.1 in
    record {
      fresh = they_are_fresh (is_unset net.lines) (map (line_at net.lines) (places net)) one.0;
      whole = λ i lt. each_passes (λ k. list_any (λ j. j == k) (places net)) (length net.lines) i two.0 lt;
      within = all_below (length net.lines) (places net) two.1;
    }

-- the clock's port is not marked secure
abbrev is_open : List Mark → ℕ → Bool
is_open marks c = not (option_map_or is_secure (slice_get marks c) false)

abbrev pub has_open_clock : PlainNet → List Mark → Bool
has_open_clock net marks = option_map_or (is_open marks) net.clock true

pub clock_is_open : (net : PlainNet) (marks : List Mark) → IsTrue (has_open_clock net marks) → ClockIsOpen net marks
clock_is_open net marks h c is secure =
    both_ways (option_map_or is_secure (slice_get marks c) false) (not-true (option_map_or is_secure (slice_get marks c) false) (passes_of (is_open marks) net.clock h c is))
    (ap (λ o. option_map_or is_secure o false) secure)
