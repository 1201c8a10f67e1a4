use Rattle.std.proofs.Common.{length, arith}
use Rattle.cell_function.specs.Reading.{function_of}
use Rattle.cell_function.proofs.Whole.{spelled_is_read}
use Rattle.cell_function.proofs.read.spelled_is_function.Goals as goal

pub returns : goal.returns
unfolding function_of
returns c = λ text f h. spelled_is_read (length text) text f (omega arith) h
