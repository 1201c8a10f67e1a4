use Rattle.std.proofs.Common.{length, arith}
use Rattle.cell_function.specs.Reading.{function_of}
use Rattle.cell_function.proofs.Whole.{read_is_spelled}
use Rattle.cell_function.proofs.read.function_is_spelled.Goals as goal

pub returns : goal.returns
unfolding function_of
returns c = λ text f h. read_is_spelled (length text) text f h
