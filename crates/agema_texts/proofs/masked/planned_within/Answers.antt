use Rattle.std.proofs.Common.{◌≤◌, refl, subst}
use Rattle.std.proofs.lemmas.Result.{err_from_is_err_and}
use Rattle.agm_net.specs.View.{plain_of}
use Rattle.agema_texts.specs.Marked.{IsTooWide, IsTooBig}
use Rattle.agema_texts.specs.Original.{EndsBy}
use Rattle.agema_texts.specs.Width.{width_of, width_limit}
use Rattle.agema_texts.proofs.Costs.{costs_of, entries_of, registers_told, few_enough, planned_gadgets}
use Rattle.agema_texts.proofs.Ends.{handed_by, too_wide}
use Rattle.agema_texts.proofs.masked.planned_within.Goals as goal

pub plan_naive-requires : goal.plan_naive-requires
plan_naive-requires c =
    let secrets = c.requires.secrets_of in
    record {
      fits = secrets.fits;
      entries = entries_of (plain_of c.args.read.now.net) c.args.read.now.graph c.args.marks.now.kinds c.args.secrets.now c.requires.graph_of secrets;
    }

pub check_width-requires-clause-few : goal.check_width-requires-clause-few
check_width-requires-clause-few c =
    let net = plain_of c.args.read.now.net in
    let graph = c.args.read.now.graph in
    let s = c.args.secrets.now in
    let plan = c.in-Ok.planned.plan in
    few_enough net graph s c.args.order plan.gadgets c.requires.graph_of
    (planned_gadgets graph s c.in-Ok.planned.xan plan c.in-Ok.ensures.made c.in-Ok.ensures.planned) c.in_ok-check_size.ensures.ok

pub returns-in_err-check_width-clause-err : goal.returns-in_err-check_width-clause-err
returns-in_err-check_width-clause-err c =
    let net = plain_of c.args.read.now.net in
    let marks = c.args.marks.now.kinds in
    let s = c.args.secrets.now in
    let plan = c.in-Ok.planned.plan in
    let order = c.args.order in
    let costs = costs_of net c.args.read.now.graph marks s c.in-Ok.planned.xan plan c.requires.graph_of c.requires.secrets_of c.in-Ok.ensures.made c.in-Ok.ensures.planned in
    handed_by (IsTooWide order plan.gadgets s.registers) (IsTooBig net marks order) c.from_residual-in_err-check_width.result c.in_err-check_width.field-0.0
    (err_from_is_err_and c.from_residual-in_err-check_width.result c.from_residual-in_err-check_width.ensures.1)
    (too_wide net marks order plan.gadgets plan.depth s.registers c.in_ok-check_size.ensures.ok costs (registers_told net c.args.read.now.graph marks s c.requires.secrets_of))
    (subst (λ rs. EndsBy (IsTooWide order plan.gadgets rs) c.in_err-check_width.field-0.0) c.as_slice.ensures c.in_err-check_width.ensures.err)

pub returns-clause-fits : goal.returns-clause-fits
returns-clause-fits c =
    let net = plain_of c.args.read.now.net in
    let marks = c.args.marks.now.kinds in
    let s = c.args.secrets.now in
    let plan = c.in-Ok.planned.plan in
    let costs = costs_of net c.args.read.now.graph marks s c.in-Ok.planned.xan plan c.requires.graph_of c.requires.secrets_of c.in-Ok.ensures.made c.in-Ok.ensures.planned in
    let told = registers_told net c.args.read.now.graph marks s c.requires.secrets_of in
    let within : width_of c.args.order plan.gadgets s.registers ≤ width_limit =
    subst (λ rs. width_of c.args.order plan.gadgets rs ≤ width_limit) c.as_slice.ensures c.in_ok-check_width.ensures.ok in
    (c.in_ok-check_size.ensures.ok, (width_of c.args.order plan.gadgets s.registers, (plan.gadgets, plan.depth, s.registers, costs, told, refl), within))
