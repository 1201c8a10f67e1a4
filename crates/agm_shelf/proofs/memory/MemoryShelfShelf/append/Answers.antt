use Rattle.std.proofs.Common.{ap, ◌∙◌}
use Rattle.agm_shelf.proofs.Entries.{open-front}
use Rattle.agm_shelf.proofs.memory.MemoryShelfShelf.append.Goals as goal

pub returns-then-takes_turn-clause-front : goal.returns-then-takes_turn-clause-front
returns-then-takes_turn-clause-front c =
    let same = ap (λ s. s.entries) c.fails_to_write.ensures.counted ∙ ap (λ s. s.entries) c.takes_turn.ensures.turn in rw same (open-front _ _ _ c.requires)

pub returns-in-Err-clause-front : goal.returns-in-Err-clause-front
returns-in-Err-clause-front c =
    let same = c.in-Err.ensures.err ∙ ap (λ s. s.entries) c.takes_turn.ensures.turn in rw same (open-front _ _ _ c.requires)
