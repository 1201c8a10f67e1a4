use Rattle.std.proofs.Common.{◌≡◌, Some, List, length, sym, ap, subst, subst₂, ◌∙◌}
use Rattle.agm_net.proofs.Made.{made_with}
use Rattle.agm_net.specs.Plain.{PlainNet}
use Rattle.agm_net.specs.WellFormed.{WellFormed}
use Rattle.agm_net.specs.Loop.{HasNoLoop}
use Rattle.agm_net.specs.Trace.{Row, IsTrace, bit_at}
use Rattle.share_wiring.specs.Wiring.{Wiring, IsRun, net_of}
use Rattle.share_wiring.proofs.FinishedNet.{well_formed, no_loop, runs, finished}
use Rattle.agm_net.specs.PlainForm.{IsPlain}
use Rattle.agm_net.specs.Small.{IsSmallNet}
use Rattle.share_wiring.specs.Cells.{AreCells}
use Rattle.share_wiring.proofs.SmallNet.{is_plain, is_small}
use Rattle.std.proofs.Common.{ℕ}
use Rattle.agm_net.specs.Network.{Hpc2, HasGadgets}
use Rattle.share_wiring.specs.Adds.{random_bits}
use Rattle.share_wiring.specs.Networks.{IsNetwork}
use Rattle.share_wiring.proofs.Networked.{networked, has_gadgets}
use Rattle.share_wiring.proofs.builder.Builder.finish.Goals as goal

pub from_parts-requires : goal.from_parts-requires
from_parts-requires c =
    let old : Wiring = record { ports = c.self.inside.ports.items; wires = c.self.inside.wires.items; gadgets = c.self.inside.gadgets; given = c.self.inside.given } in
    subst WellFormed (sym (finished old c.from_vec.result c.in_ok-names.names _ _ _ _ c.from_vec.ensures c.in_ok-names.ensures c.as_slice.ensures.value c.as_slice-2.ensures.value c.in_ok-equations.ensures c.in_ok-registers.ensures))
    (well_formed old c.self.invariant.0)

pub returns-clause-net : goal.returns-clause-net
returns-clause-net c =
    let old : Wiring = record { ports = c.self.inside.ports.items; wires = c.self.inside.wires.items; gadgets = c.self.inside.gadgets; given = c.self.inside.given } in
    let same = finished old c.from_vec.result c.in_ok-names.names _ _ _ _ c.from_vec.ensures c.in_ok-names.ensures c.as_slice.ensures.value c.as_slice-2.ensures.value c.in_ok-equations.ensures c.in_ok-registers.ensures in
    made_with c.from_vec.result c.in_ok-names.names c.in_ok-equations.equations c.in_ok-registers.registers (Some 0) (λ (net : PlainNet). net ≡ net_of c.args.self) c.from_parts.result c.from_parts.ensures (same ∙ ap net_of c.self.view_is)

pub returns-clause-no_loop : goal.returns-clause-no_loop
returns-clause-no_loop c =
    let old : Wiring = record { ports = c.self.inside.ports.items; wires = c.self.inside.wires.items; gadgets = c.self.inside.gadgets; given = c.self.inside.given } in
    let same = finished old c.from_vec.result c.in_ok-names.names _ _ _ _ c.from_vec.ensures c.in_ok-names.ensures c.as_slice.ensures.value c.as_slice-2.ensures.value c.in_ok-equations.ensures c.in_ok-registers.ensures in
    made_with c.from_vec.result c.in_ok-names.names c.in_ok-equations.equations c.in_ok-registers.registers (Some 0) HasNoLoop c.from_parts.result c.from_parts.ensures (subst HasNoLoop (sym same) (no_loop old c.self.invariant.0))

pub returns-clause-runs : goal.returns-clause-runs
returns-clause-runs c =
    let old : Wiring = record { ports = c.self.inside.ports.items; wires = c.self.inside.wires.items; gadgets = c.self.inside.gadgets; given = c.self.inside.given } in
    let same = finished old c.from_vec.result c.in_ok-names.names _ _ _ _ c.from_vec.ensures c.in_ok-names.ensures c.as_slice.ensures.value c.as_slice-2.ensures.value c.in_ok-equations.ensures c.in_ok-registers.ensures in
    made_with c.from_vec.result c.in_ok-names.names c.in_ok-equations.equations c.in_ok-registers.registers (Some 0) (λ (net : PlainNet). (power : Row) (tape table : List Row) → IsTrace net power tape table → IsRun c.args.self.wires (length table) (bit_at table)) c.from_parts.result c.from_parts.ensures
    (λ power tape table trace. subst (λ (net : Wiring). IsRun net.wires (length table) (bit_at table)) c.self.view_is (runs old power tape table (subst (λ net. IsTrace net power tape table) same trace)))

pub returns-clause-plain : goal.returns-clause-plain
returns-clause-plain c =
    let old : Wiring = record { ports = c.self.inside.ports.items; wires = c.self.inside.wires.items; gadgets = c.self.inside.gadgets; given = c.self.inside.given } in
    let same = finished old c.from_vec.result c.in_ok-names.names _ _ _ _ c.from_vec.ensures c.in_ok-names.ensures c.as_slice.ensures.value c.as_slice-2.ensures.value c.in_ok-equations.ensures c.in_ok-registers.ensures in
    made_with c.from_vec.result c.in_ok-names.names c.in_ok-equations.equations c.in_ok-registers.registers (Some 0) IsPlain c.from_parts.result c.from_parts.ensures (subst IsPlain (sym same) (is_plain old c.self.invariant.0))

pub returns-clause-small : goal.returns-clause-small
returns-clause-small c =
    let old : Wiring = record { ports = c.self.inside.ports.items; wires = c.self.inside.wires.items; gadgets = c.self.inside.gadgets; given = c.self.inside.given } in
    let same = finished old c.from_vec.result c.in_ok-names.names _ _ _ _ c.from_vec.ensures c.in_ok-names.ensures c.as_slice.ensures.value c.as_slice-2.ensures.value c.in_ok-equations.ensures c.in_ok-registers.ensures in
    made_with c.from_vec.result c.in_ok-names.names c.in_ok-equations.equations c.in_ok-registers.registers (Some 0) (λ (net : PlainNet). AreCells c.args.self.wires → IsSmallNet net) c.from_parts.result c.from_parts.ensures
    (λ cells. subst IsSmallNet (sym same) (is_small old c.self.invariant.0 (subst (λ (net : Wiring). AreCells net.wires) (sym c.self.view_is) cells)))

pub returns-clause-network : goal.returns-clause-network
returns-clause-network c =
    let old : Wiring = record { ports = c.self.inside.ports.items; wires = c.self.inside.wires.items; gadgets = c.self.inside.gadgets; given = c.self.inside.given } in
    let same = finished old c.from_vec.result c.in_ok-names.names _ _ _ _ c.from_vec.ensures c.in_ok-names.ensures c.as_slice.ensures.value c.as_slice-2.ensures.value c.in_ok-equations.ensures c.in_ok-registers.ensures in
    made_with c.from_vec.result c.in_ok-names.names c.in_ok-equations.equations c.in_ok-registers.registers (Some 0)
    (λ (net : PlainNet). (d : ℕ) → IsNetwork d c.args.self → c.args.self.given ≡ length (random_bits c.args.self.ports) → Hpc2 net d) c.from_parts.result c.from_parts.ensures
    (λ d rules given. subst (λ net. Hpc2 net d) (sym same)
    (networked d old c.self.invariant.0 (subst (IsNetwork d) (sym c.self.view_is) rules) (subst (λ (net : Wiring). net.given ≡ length (random_bits net.ports)) (sym c.self.view_is) given)))

pub returns-clause-gadgets : goal.returns-clause-gadgets
returns-clause-gadgets c =
    let old : Wiring = record { ports = c.self.inside.ports.items; wires = c.self.inside.wires.items; gadgets = c.self.inside.gadgets; given = c.self.inside.given } in
    let same = finished old c.from_vec.result c.in_ok-names.names _ _ _ _ c.from_vec.ensures c.in_ok-names.ensures c.as_slice.ensures.value c.as_slice-2.ensures.value c.in_ok-equations.ensures c.in_ok-registers.ensures in
    made_with c.from_vec.result c.in_ok-names.names c.in_ok-equations.equations c.in_ok-registers.registers (Some 0)
    (λ (net : PlainNet). (d : ℕ) → IsNetwork d c.args.self → c.args.self.given ≡ length (random_bits c.args.self.ports) → HasGadgets net d c.args.self.gadgets) c.from_parts.result c.from_parts.ensures
    (λ d rules given. subst₂ (λ net m. HasGadgets net d m) (sym same) (ap (λ (net : Wiring). net.gadgets) c.self.view_is)
    (has_gadgets d old c.self.invariant.0 (subst (IsNetwork d) (sym c.self.view_is) rules) (subst (λ (net : Wiring). net.given ≡ length (random_bits net.ports)) (sym c.self.view_is) given)))
