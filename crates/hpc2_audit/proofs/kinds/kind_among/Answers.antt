use Rattle.std.proofs.Common.{arith}
use Rattle.std.proofs.lemmas.Option.{slice_get_within}
use Rattle.hpc2_audit.proofs.kinds.kind_among.Goals as goal

pub returns : goal.returns
returns c = λ k. (
    let at = c.requires k in
    let lt = slice_get_within c.args.kinds.now at.0 k at.1 in
    c.loop-kind.invariant at.0 k (omega arith) at.1)
