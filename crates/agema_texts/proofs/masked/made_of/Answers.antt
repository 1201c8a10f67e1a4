use Rattle.std.proofs.Common.{ℕ, subst}
use Rattle.agm_net.specs.Network.{HasGadgets}
use Rattle.agm_net.specs.View.{plain_of}
use Rattle.agema_texts.proofs.Costs.{costs_of, width_parts}
use Rattle.agema_texts.proofs.Written.{made_net}
use Rattle.agema_texts.proofs.masked.made_of.Goals as goal

pub pipelined-requires : goal.pipelined-requires
pipelined-requires c =
    let known = c.requires.original in
    let made = known.is_made in
    let widths = width_parts c.args.order c.args.planned.now.plan.gadgets c.args.secrets.now.registers known.narrow in
    record {
      names = known.names;
      no_loop = known.no_loop;
      graph_of = known.is_graph;
      marked = known.marked;
      secrets = known.are_secrets;
      same = made.same;
      among = made.among;
      public = made.stays_public;
      plan = known.is_planned;
      order = (known.first, known.last);
      random = widths.0;
      publics = widths.1;
      hidden = widths.2;
    }

pub returns : goal.returns
returns c =
    let net = plain_of c.args.read.now.net in
    let known = c.requires.original in
    let masked = c.in_ok-masked.ensures in
    let plan = c.args.planned.now.plan in
    let marks = c.args.marks.now.kinds in
    let N : ℕ → Type 0 = λ n. HasGadgets (plain_of c.in_ok-masked.masked.net) c.args.order n in
    made_net net marks c.args.order c.in_ok-out.out
    (plain_of c.in_ok-masked.masked.net) c.in_ok-masked.masked.report plan.gadgets plan.depth c.renumbered_is_same.ensures
    c.renumbered_is_net.ensures c.renumbered_is_network.ensures c.renumbered_has_gadgets.ensures c.named_networks_are_secure.ensures known.names c.in_ok-masked.masked.net.well_formed
    masked.network (subst N masked.report.gadgets_are masked.gadgets) known.last
    (costs_of net c.args.read.now.graph marks c.args.secrets.now c.args.planned.now.xan plan known.is_graph known.are_secrets known.is_made known.is_planned)
    masked.report masked.same c.in_ok-out.ensures
