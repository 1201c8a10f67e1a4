use Rattle.std.proofs.Common.{map, arith}
use Rattle.cell_library.specs.Spelled.{cell_of}
use Rattle.cell_library.proofs.Answered.{named_reads}
use Rattle.cell_library.proofs.Kept.{spelled_kept}
use Rattle.cell_library.proofs.WholeText.{none_spelled, read_is_spelled}
use Rattle.cell_library.proofs.read.read_library.Goals as goal

pub library-requires : goal.library-requires
library-requires c = spelled_kept c.args.bytes.now (map cell_of c.in-Ok.cells) (read_is_spelled c.args.bytes.now (map cell_of c.in-Ok.cells) c.in-Ok.ensures)

pub returns-in-Ok : goal.returns-in-Ok
returns-in-Ok c = named_reads c.args.bytes.now c.in-Ok.cells c.library.result c.in-Ok.ensures c.library.ensures

pub returns-in-Err-Wrong : goal.returns-in-Err-Wrong
returns-in-Err-Wrong c = (none_spelled c.args.bytes.now (rw c.in-Err-Wrong.field-0-is at c.in-Err-Wrong.ensures), omega arith)
