use Rattle.twin_tape.proofs.Counting.{sum_causal}
use Rattle.twin_tape.proofs.laws.sums_stay.Goals as goal

pub returns : goal.returns
returns c = sum_causal
