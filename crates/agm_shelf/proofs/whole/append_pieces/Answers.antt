use Rattle.std.proofs.Common.{◌≡◌, ℕ, Some, take, IsTrue, ◌∙◌}
use Rattle.agm_shelf.proofs.Fronts.{on_err_any, front_grows}
use Rattle.agm_shelf.proofs.whole.append_pieces.Goals as goal

pub returns-in_err-append-clause-front : goal.returns-in_err-append-clause-front
returns-in_err-append-clause-front g c =
    let front : IsTrue (g.H.Shelf.tells c.args.shelf.now) → (n : ℕ) × (g.H.Shelf.holds c.append.new.self c.args.name.now ≡ Some (take n c.args.text.now)) =
    λ told. front_grows (g.H.Shelf.holds c.loop-rest.shelf) (g.H.Shelf.holds c.append.new.self) _ _ _ _ c.split_at.result.0.now c.split_at.result.1.now c.loop-rest.invariant.pending (c.loop-rest.invariant.joined told) c.split_at.ensures.by_index.0 (c.in_err-append.ensures.front (c.loop-rest.invariant.goes_on.same_telling ∙ told)) in
    on_err_any c.from_residual.result front
