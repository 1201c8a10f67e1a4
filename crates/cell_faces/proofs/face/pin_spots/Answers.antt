use Rattle.cell_faces.proofs.face.pin_spots.Goals as goal
use Rattle.cell_faces.proofs.Finds.{spots_on}

pub loop-first-preserved : goal.loop-first-preserved
loop-first-preserved c = spots_on c.push.new.self c.loop-first.spots c.loop-first.first c.loop-first.invariant c.in_ok-push.ensures.ok
