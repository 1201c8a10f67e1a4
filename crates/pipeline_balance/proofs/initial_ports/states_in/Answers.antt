use Rattle.std.proofs.Common.{◌≡◌, List, ℕ, [], true, Some, length, map, replicate, sym, ap, subst, subst₂, ◌∙◌, arith}
use Rattle.agm_net.specs.Plain.{bit_names}
use Rattle.agm_net.specs.Role.{state_name, IsOfShare}
use Rattle.share_wiring.specs.Own.{upto}
use Rattle.share_wiring.specs.Shape.{header_of}
use Rattle.share_wiring.proofs.OwnWires.{length-upto}
use Rattle.pipeline_balance.specs.Ports.{row_of}
use Rattle.pipeline_balance.specs.Entering.{FitInOrder, Enters, named_headers, shared_row}
use Rattle.pipeline_balance.proofs.Sizes.{value_fits}
use Rattle.pipeline_balance.proofs.EnteringRegisters.{of_state, states_are, no_states, some_states}
use Rattle.pipeline_balance.proofs.initial_ports.states_in.Goals as goal

pub returns-then-count-eq0 : goal.returns-then-count-eq0
returns-then-count-eq0 g c = no_states g.row.S c.args.builder.now c.args.count c.new.result c.if-count-eq0.true c.new.ensures

pub shared_in-requires : goal.shared_in-requires
shared_in-requires g c =
    let n = g.row.S in
    let olds = map header_of c.args.builder.now.ports in
    let no = c.if-count-eq0.false in
    let mine : List (List ℕ) = upto n state_name in
    let names : c.as_slice.result.now ≡ mine = c.as_slice.ensures ∙ c.in_ok-names.ensures in (
      value_fits n c.requires.size.1,
      (
        c.requires.size,
        (
          ap length names ∙ length-upto n state_name,
          (
            (λ i lt. subst (λ ns. IsOfShare i (row_of ns i)) (sym names) (of_state n c.requires.size.1 i lt)),
            subst₂ (λ ns r. FitInOrder olds (named_headers (Some r) ns)) (sym names) (sym c.falling.ensures)
                (subst (FitInOrder olds) (states_are n c.args.count c.requires.size.0 (omega (arith, no))) c.requires.fit),
          ),
        ),
      ),
    )

pub returns : goal.returns
returns g c =
    let n = g.row.S in
    let old = c.args.builder.now in
    let now = c.shared_in.new.builder in
    let no = c.if-count-eq0.false in
    let mine : List (List ℕ) = upto n state_name in
    let names : c.as_slice.result.now ≡ mine = c.as_slice.ensures ∙ c.in_ok-names.ensures in
    some_states n old now c.args.count c.in_ok-values.values c.requires.size.0 (omega (arith, no))
    (subst₂ (λ ns r. Enters n old now (named_headers (Some r) ns) (replicate (length (bit_names [] (Some r))) true) (shared_row n ns) c.in_ok-values.values) names c.falling.ensures c.in_ok-values.ensures)
