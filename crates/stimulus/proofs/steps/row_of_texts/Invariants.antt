use Rattle.std.proofs.Common.{◌≡◌, take, flat_map, [], unwrap_or}
use Rattle.stimulus.specs.Answer.{bits_in}
use Rattle.stimulus.proofs.steps.row_of_texts.Given as goal

abbrev pub invariant-loop-text : goal.invariant-loop-text
invariant-loop-text l = l.row ≡ flat_map (λ t. bits_in (unwrap_or t [])) (take l.text-index l.texts)
