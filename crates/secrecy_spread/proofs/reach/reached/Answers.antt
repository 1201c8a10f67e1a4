use Rattle.std.proofs.Common.{sym, subst}
use Rattle.secrecy_spread.specs.Reach.{state, AreReached}
use Rattle.secrecy_spread.proofs.Reaching.{ran}
use Rattle.secrecy_spread.proofs.reach.reached.Goals as goal

pub returns : goal.returns
returns c =
    let edges = c.args.edges.now in
    let starts = c.args.starts.now in
    let started = c.in_ok-spreading.ensures in
    let all = ran edges starts (state c.in_ok-spreading.spreading) (state c.run.new.self) c.in_ok-run.ensures started.kept (started.spreads edges) in
    subst (AreReached c.args.n edges starts) (sym c.from_vec.ensures) (subst (λ n. AreReached n edges starts c.run.new.self.marked.items) started.as_many all)
