use Rattle.std.proofs.Common.{◌≡◌, ◌<◌, ℕ, length}
use Rattle.hpc2_audit.specs.Places.{IsPlaceBelow, place_at}
use Rattle.hpc2_audit.proofs.places.note_all.Given as goal

abbrev pub invariant-loop-place : goal.invariant-loop-place
invariant-loop-place l = record {
  as_many : length l.places ≡ length l.fn.places;
  told : (w : ℕ) → w < length l.fn.places → IsPlaceBelow l.place l.wires w (place_at l.places w);
}
