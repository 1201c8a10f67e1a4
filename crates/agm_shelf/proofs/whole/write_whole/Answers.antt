use Rattle.std.proofs.Common.{◌≡◌, length, inr, arith, Some, take, IsTrue}
use Rattle.std.proofs.lemmas.Grind.{common_steps}
use Rattle.agm_shelf.specs.Shelf.{IsFrontOrOld}
use Rattle.agm_shelf.proofs.Fronts.{on_err_any}
use Rattle.agm_shelf.proofs.whole.write_whole.Goals as goal

pub returns-clause-front : goal.returns-clause-front
returns-clause-front g c =
    let whole : IsTrue (g.H.Shelf.tells c.args.shelf.now) → g.H.Shelf.holds c.end.new.self c.args.name.now ≡ Some (take (length c.args.text.now) c.args.text.now) = grind (arith, common_steps) in
    let front : IsTrue (g.H.Shelf.tells c.args.shelf.now) → IsFrontOrOld c.args.text.now (g.H.Shelf.holds c.args.shelf.now c.args.name.now) (g.H.Shelf.holds c.end.new.self c.args.name.now) = λ told. inr (length c.args.text.now, whole told) in
    on_err_any c.end.result front
