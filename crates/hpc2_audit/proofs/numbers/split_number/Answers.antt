use Rattle.std.proofs.Common.{take, drop}
use Rattle.std.proofs.lemmas.List.{take-append-drop}
use Rattle.hpc2_audit.proofs.Cutting.{split_none}
use Rattle.hpc2_audit.proofs.numbers.split_number.Goals as goal

pub returns-in-None : goal.returns-in-None
returns-in-None c =
    let bytes = c.args.bytes.now in
    let end = c.run_end-end.result in
    split_none bytes (take end bytes) (drop end bytes) (take-append-drop end bytes) c.run_end-end.ensures.run c.run_end-end.ensures.ends c.in-None.ensures
