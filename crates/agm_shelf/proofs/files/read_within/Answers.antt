use Rattle.std.proofs.Common.{arith}
use Rattle.agm_shelf.proofs.Taken.{all_read}
use Rattle.agm_shelf.proofs.files.read_within.Goals as goal

pub returns-in-Ok-2-clause-whole : goal.returns-in-Ok-2-clause-whole
returns-in-Ok-2-clause-whole g c =
    let small = c.read_to_end.new.buf.small in
    let test = c.if-len-limit.false in
    let long = c.len.ensures in
    let most = c.saturating_add-most.ensures in
    let ok = c.read_to_end.new.buf.ok in
    all_read g.F.Read.remaining c.take.result c.args.file c.saturating_add-most.result c.read_to_end.new.buf.items c.new-bytes.result.items c.take.ensures.limit c.take.ensures.inner c.new-bytes.ensures.items (omega arith) c.in-Ok-2.ensures.bytes
