-- What probes see. The model is the robust probing model with glitches: a probe of a wire sees each input bit and each register's
-- output that combinational steps lead from. Faust, Grosso, Merino Del Pozo, Paglialonga and Standaert, "Composable Masking Schemes
-- in the Presence of Physical Defaults and the Robust Probing Model", IACR Transactions on Cryptographic Hardware and Embedded
-- Systems, 2018. Transitions and couplings are not seen.
use Rattle.std.specs.Prelude.{◌==◌, ℕ, zero, suc, Bool, true, false, not, ◌&&◌, ◌||◌, List, length, map, filter, ◌++◌}
use Rattle.std.specs.List.{flat_map, list_any, range_with_len}
use Rattle.agm_net.specs.Plain.{PlainNet, is_input}
use Rattle.agm_net.specs.Loop.{reads}
use Rattle.agm_net.specs.Run.{Driver, d_input, d_register, driver}
use Rattle.agm_net.specs.declared.port.Port.{Port}
use Rattle.probe_cones.specs.Shares.{is_share}
use Rattle.probe_cones.specs.declared.probe.Probe.{Probe}

-- whether a wire is an input bit or the output of a register
abbrev pub is_source : Driver → Bool
is_source (d_input n) = true
is_source (d_register n next) = true
is_source _ = false

abbrev pub wire_numbers : PlainNet → List ℕ
wire_numbers net = range_with_len 0 (length net.wires)

-- these wires and those that an equation of theirs reads, ascending
abbrev pub with_reads : PlainNet → List ℕ → List ℕ
with_reads net found = filter (λ v. list_any (λ u. (u == v) || reads net u v) found) (wire_numbers net)

-- the wires from which at most n steps lead to a wire, each step a read
abbrev pub within : PlainNet → ℕ → ℕ → List ℕ
within net w zero = filter (λ v. w == v) (wire_numbers net)
within net w (suc n) = with_reads net (within net w n)

-- The cone of a wire: the input bits and register outputs from which steps lead to it, ascending.
abbrev pub cone : PlainNet → ℕ → List ℕ
cone net w = filter (λ v. is_source (driver net v)) (within net w (length net.wires))

-- the bits of those of some ports that are output ports with share i
abbrev pub output_bits_in : ℕ → List Port → List ℕ
output_bits_in i ports = flat_map (λ p. p.bits) (filter (λ p. not (is_input p) && is_share i p.name) ports)

abbrev pub output_bits_of : PlainNet → ℕ → List ℕ
output_bits_of net i = output_bits_in i net.ports

-- What probes and listed output shares see of T cycles with the bits x: for each probe its cone in its cycle, and then for each
-- listed index, in each cycle, the cones of all output bits of that share.
abbrev pub observed : PlainNet → List Probe → List ℕ → ℕ → (ℕ → ℕ → Bool) → List Bool
observed net probes A T x =
    flat_map (λ p. map (x p.cycle) (cone net p.wire)) probes
    ++ flat_map (λ i. flat_map (λ t. flat_map (λ w. map (x t) (cone net w)) (output_bits_of net i)) (range_with_len 0 T)) A
