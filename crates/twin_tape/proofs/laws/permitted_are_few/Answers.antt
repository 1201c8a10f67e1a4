use Rattle.std.proofs.Common.{◌≤◌, length, subst}
use Rattle.twin_tape.specs.Permitted.{sight, sights}
use Rattle.twin_tape.proofs.Sizes.{adds_permitted}
use Rattle.twin_tape.proofs.TwinViews.{length_map}
use Rattle.twin_tape.proofs.laws.permitted_are_few.Goals as goal

pub returns : goal.returns
returns c = λ label probes A T.
    let added = adds_permitted (sights label probes) A T in
    (added.0, added.1, subst (λ n. length added.0 ≤ n) (length_map (λ p. sight (label p.wire) p.cycle) probes) added.2)
