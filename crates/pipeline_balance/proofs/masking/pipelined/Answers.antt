use Rattle.std.proofs.Common.{sym, ap, ap₂, subst, ◌∙◌}
use Rattle.agm_net.specs.Network.{HasGadgets}
use Rattle.agm_net.specs.View.{plain_of}
use Rattle.share_wiring.specs.ReportOf.{ReportOf}
use Rattle.share_wiring.specs.declared.report.Balance.TheVariants.{Pipe}
use Rattle.share_wiring.specs.declared.report.Report.{Report}
use Rattle.pipeline_balance.specs.Ready.{FitsOrder}
use Rattle.pipeline_balance.specs.Reporting.{pipe_report}
use Rattle.pipeline_balance.proofs.Flags.{pipe_reports}
use Rattle.pipeline_balance.proofs.Joined.{sourced}
use Rattle.pipeline_balance.proofs.masking.pipelined.Goals as goal

pub layout_of-requires : goal.layout_of-requires
layout_of-requires c = record {
  sources = sourced (plain_of c.args.net.now) c.args.graph.now c.args.marks.now.kinds c.args.secrets.now c.args.xan.now c.requires.graph_of c.requires.secrets c.requires.among;
  plan = c.requires.plan;
}

pub report_of-requires : goal.report_of-requires
report_of-requires c = (let secrets = c.requires.secrets in record { flags = secrets.one_port_each; order = c.requires.order; few = c.requires.random })

pub masked_at-requires : goal.masked_at-requires
masked_at-requires c =
    let report = c.in_ok-report.report in
    let is = c.in_ok-report.ensures in
    let mode = ap (λ (r : Report). r.mode) is in
    let order = ap (λ (r : Report). r.order) is in
    record {
      piped = record {
        names = c.requires.names;
        no_loop = c.requires.no_loop;
        graph_of = c.requires.graph_of;
        marked = c.requires.marked;
        secrets = c.requires.secrets;
        same = c.requires.same;
        among = c.requires.among;
        stays_public = c.requires.public;
        planned = c.requires.plan;
      };
      fits =
          subst (FitsOrder c.args.secrets.now c.args.plan.now) (sym order)
          (record { within = c.requires.order; random = c.requires.random; publics = c.requires.publics; secrets = c.requires.hidden });
      laid = c.in_ok-layout.ensures;
      report = is ∙ ap₂ (pipe_report c.args.secrets.now c.args.plan.now c.args.net.now.ports) (sym mode) (sym order);
    }

pub returns-clause-report : goal.returns-clause-report
returns-clause-report c =
    let net = plain_of c.args.net.now in
    let marks = c.args.marks.now.kinds in
    subst (λ r. ReportOf net marks c.args.order c.args.mode Pipe c.args.plan.now.gadgets c.args.plan.now.depth r) (sym c.in_ok-report.ensures)
    (pipe_reports net c.args.graph.now marks c.args.secrets.now c.args.net.now.well_formed c.requires.graph_of c.requires.marked c.requires.secrets c.args.plan.now c.args.mode c.args.order)

pub returns-clause-gadgets : goal.returns-clause-gadgets
returns-clause-gadgets c =
    let order = ap (λ (r : Report). r.order) c.in_ok-report.ensures in
    subst (λ d. HasGadgets (plain_of c.in_ok-masked.masked) d c.in_ok-report.report.gadgets) order c.in_ok-masked.ensures.gadgets
