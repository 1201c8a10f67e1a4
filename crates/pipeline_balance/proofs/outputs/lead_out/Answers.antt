use Rattle.std.proofs.Common.{◌≡◌, ◌<◌, ◌≤◌, ◌+◌, ◌^◌, ℕ, Bool, Option, List, [], false, cond, map, filter, take, drop, get_or, length, sym, ap, subst, subst₂, ◌∙◌, arith}
use Rattle.std.proofs.lemmas.List.{get_or-map}
use Rattle.agm_net.specs.Plain.{is_input, data_ports}
use Rattle.agm_net.specs.View.{plain_of}
use Rattle.agm_net.specs.declared.port.Port.{Port}
use Rattle.share_wiring.specs.Recombine.{is_shared}
use Rattle.share_wiring.specs.Wiring.{Wiring}
use Rattle.share_wiring.specs.declared.report.Report.{Report}
use Rattle.pipeline_balance.specs.declared.values.Value.{Value}
use Rattle.pipeline_balance.specs.Chained.{value_at}
use Rattle.pipeline_balance.specs.Leaving.{is_clock, made_count, CanLeave, HasLeft}
use Rattle.pipeline_balance.proofs.Adding.{value_still}
use Rattle.pipeline_balance.proofs.LeavingLists.{data_from, data_are, outputs}
use Rattle.pipeline_balance.proofs.LeavingOrder.{Leading, leading_first}
use Rattle.pipeline_balance.proofs.LeavingAll.{can_leave, leading_more, leading_last}
use Rattle.pipeline_balance.proofs.Sizes.{value_fits}
use Rattle.pipeline_balance.proofs.outputs.lead_out.Goals as goal

-- the flag of a port
flag_at : (report : Report) (ports : List Port) (flags : List Bool) (k : ℕ) (p : Port) → flags ≡ map (λ q. is_shared report q.name) ports → k < length ports → p ≡ get_or ports k p
    → get_or flags k false ≡ is_shared report p.name
flag_at report ports flags k p are lt at = ap (λ fs. get_or fs k false) are ∙ (get_or-map (λ (q : Port). is_shared report q.name) ports k p false lt ∙ ap (λ (q : Port). is_shared report q.name) (sym at))

-- the invariant, by the net's own ports
abbrev IsLeading : (n : ℕ) → Report → List (Value n) → (clock : Option ℕ) → (old now : Wiring) → (place at k : ℕ) → List Port → Type 0
IsLeading n report values clock old now place at k ports =
    Leading n report values old now place at (data_from clock 0 (take k ports)) (outputs (data_from clock 0 (take k ports))) (filter is_input (data_from clock k (drop k ports)))

pub loop-k-init : goal.loop-k-init
loop-k-init g c =
    let net = plain_of c.args.net.now in
    let report = c.args.report.now in
    subst (Leading g.row.S report c.args.values.now c.args.builder.now c.args.builder.now c.first_count-place.result 0 [] [])
    (ap (filter is_input) (data_are net.clock net.ports ∙ ap (data_from net.clock 0) (sym c.as_slice-ports.ensures)))
    (leading_first g.row.S report c.requires.shares c.args.values.now c.args.builder.now c.first_count-place.result (filter is_input (data_ports net)) c.first_count-place.ensures c.requires.entered)

pub leave-requires : goal.leave-requires
leave-requires g c =
    let n = g.row.S in
    let net = plain_of c.args.net.now in
    let report = c.args.report.now in
    let values = c.args.values.now in
    let old = c.args.builder.now in
    let now = c.loop-k.builder in
    let place = c.loop-k.place in
    let at = c.loop-k.at in
    let k = c.loop-k.k in
    let p = c.index-ports-k.result in
    let same = c.as_slice-ports.ensures in
    let size = c.requires.shares in
    let limits = c.requires.limits.order in
    let lt : k < length net.ports = subst (λ ps. k < length ps) same c.loop-k-test.true in
    let is : p ≡ get_or net.ports k p = subst (λ ps. p ≡ get_or ps k p) same c.index-ports-k.is in
    let before = subst (IsLeading n report values net.clock old now place at k) same c.loop-k.invariant in
    let flag = flag_at report net.ports c.args.shared.now k p c.requires.shared lt is in
    let room : place + cond (is_clock net.clock k) 0 (made_count n (is_shared report p.name)) < 2 ^ 64 =
    subst (λ m. place + m < 2 ^ 64) (c.ports_for.ensures ∙ ap (λ s. cond (is_clock net.clock k) 0 (made_count n s)) flag) c.in_ok-next.ensures.1 in
    let few : n ≤ 16 = (let most = limits.1 in omega (arith, size, most)) in
    let two : 2 ≤ n = (let least = limits.0 in omega (arith, size, least)) in (
      value_fits n few,
      (
        λ out. subst (λ s. CanLeave n s p values place at now) (sym flag)
            (can_leave n net report size c.requires.names values k p lt is old now place at before out
            (c.headers_are_apart.ensures.all net report c.requires.names c.requires.limits) (c.headers_are_made.ensures.all net report c.requires.names c.requires.limits) c.requires.outputs room),
        ((λ i less. value_still n old now (value_at values i) c.loop-k.invariant.extends (c.requires.values i less)), (two, few)),
      ),
    )

pub loop-k-preserved : goal.loop-k-preserved
loop-k-preserved g c =
    let n = g.row.S in
    let net = plain_of c.args.net.now in
    let report = c.args.report.now in
    let values = c.args.values.now in
    let old = c.args.builder.now in
    let now = c.loop-k.builder in
    let new = c.leave.new.builder in
    let place = c.loop-k.place in
    let at = c.loop-k.at in
    let k = c.loop-k.k in
    let p = c.index-ports-k.result in
    let same = c.as_slice-ports.ensures in
    let lt : k < length net.ports = subst (λ ps. k < length ps) same c.loop-k-test.true in
    let is : p ≡ get_or net.ports k p = subst (λ ps. p ≡ get_or ps k p) same c.index-ports-k.is in
    let before = subst (IsLeading n report values net.clock old now place at k) same c.loop-k.invariant in
    let flag = flag_at report net.ports c.args.shared.now k p c.requires.shared lt is in
    subst₂ (λ next ps. IsLeading n report values net.clock old new next c.in_ok-at.at (k + 1) ps) (sym c.in_ok-next.ensures.0) (sym same)
    (leading_more n net report c.requires.shares c.requires.names values k p lt is old now place at before new c.in_ok-at.at c.ports_for.result
    (c.headers_are_apart.ensures.all net report c.requires.names c.requires.limits)
    (c.ports_for.ensures ∙ ap (λ s. cond (is_clock net.clock k) 0 (made_count n s)) flag)
    (subst (λ s. HasLeft n s p values place at now new c.in_ok-at.at) flag c.in_ok-at.ensures))

pub returns : goal.returns
returns g c =
    let n = g.row.S in
    let net = plain_of c.args.net.now in
    let same = c.as_slice-ports.ensures in
    let k = c.loop-k.k in
    let no = c.loop-k-test.false in
    let past : length net.ports ≤ k = (let longer : length c.as_slice-ports.result.now ≤ k = omega (arith, no) in subst (λ (ps : List Port). length ps ≤ k) same longer) in
    leading_last n net c.args.report.now c.requires.shares c.requires.names c.args.values.now k c.args.builder.now c.loop-k.builder c.loop-k.place c.loop-k.at past c.requires.outputs c.clock-clock.ensures.built
    (subst (IsLeading n c.args.report.now c.args.values.now net.clock c.args.builder.now c.loop-k.builder c.loop-k.place c.loop-k.at k) same c.loop-k.invariant)
