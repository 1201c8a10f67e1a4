use Rattle.std.proofs.Common.{◌≡◌, ap, sym, subst, map, get_or, ◌∙◌, None, Some}
use Rattle.agm_net.specs.Plain.{line_of}
use Rattle.agm_net.specs.Formula.{formula_of}
use Rattle.logic_graph.specs.Searching.{state, HasTurned, line_at, waiting}
use Rattle.logic_graph.proofs.Turns.{awaits, awaits_none, line_is}
use Rattle.logic_graph.proofs.search.Search.turn.Goals as goal
use Rattle.logic_graph.proofs.search.Search.turn.Goals.{in-None+in_ok-close-in-None, in-Some+in_ok-follow-in-Some}

pub follow-requires-clause-awaited : goal.follow-requires-clause-awaited
follow-requires-clause-awaited c =
    let lines = map line_of c.args.equations.now in
    let i = c.number_at-number.result in
    let s = state c.args.self.now in
    let is : line_at lines i ≡ line_of (get_or c.args.equations.now i c.index-equations-number.result) = line_is c.args.equations.now i c.index-equations-number.result c.number_at-number.ensures.placed in
    let read : waiting s.marks (line_at lines i).1 ≡ Some c.in-Some.read = ap (λ l. waiting s.marks l.1) is ∙ (ap (λ ms. waiting ms (formula_of (get_or c.args.equations.now i c.index-equations-number.result).expr)) (sym c.as_slice.ensures) ∙ sym c.in-Some.ensures) in
    awaits lines s c.last_open-wire.result i c.in-Some.read c.number_at-number.ensures.at c.last_open-wire.ensures read

pub returns-clause-ok : goal.returns-clause-ok
returns-clause-ok c =
    let lines = map line_of c.args.equations.now in
    let i = c.number_at-number.result in
    let s = state c.args.self.now in
    let is : line_at lines i ≡ line_of (get_or c.args.equations.now i c.index-equations-number.result) = line_is c.args.equations.now i c.index-equations-number.result c.number_at-number.ensures.placed in
    elim c.match-read.branch [
      | in-None+in_ok-close-in-None w ↦ (
          let none : waiting s.marks (line_at lines i).1 ≡ None = ap (λ l. waiting s.marks l.1) is ∙ (ap (λ ms. waiting ms (formula_of (get_or c.args.equations.now i c.index-equations-number.result).expr)) (sym c.as_slice.ensures) ∙ sym w.in-None.ensures) in
          subst (HasTurned lines s) (sym (ap state w.self-is ∙ w.in_ok-close-in-None.ensures)) (awaits_none lines s c.last_open-wire.result i c.requires.searched c.number_at-number.ensures.at c.last_open-wire.ensures none))
      | in-Some+in_ok-follow-in-Some w ↦ subst (λ now. HasTurned lines s (state now)) (sym w.self-is) w.in_ok-follow-in-Some.ensures.ok
    ]
