use Rattle.std.proofs.Common.{◌≡◌, ◌∙◌, ◌+◌, length, get_or, sym, subst, arith}
use Rattle.std.proofs.lemmas.Option.{slice_get-get_or}
use Rattle.std.proofs.Math.ListN.{length-set}
use Rattle.hpc2_audit.specs.Places.{IsPlaceBelow, place_at}
use Rattle.hpc2_audit.specs.declared.places.Place.TheVariants.{At}
use Rattle.hpc2_audit.proofs.Placing.{place_more, place_done}
use Rattle.hpc2_audit.proofs.places.note_all.Goals as goal

pub loop-place-preserved : goal.loop-place-preserved
loop-place-preserved c =
    let i = c.loop-place.place in
    let wires = c.args.wires.now in
    let places = c.loop-place.places in
    let u = get_or wires i 0 in
    let inv = c.loop-place.invariant in
    let long = inv.as_many in
    record {
      as_many = subst (λ ps. length ps ≡ length places) (sym c.note.ensures) (length-set places u (At i)) ∙ inv.as_many;
      told = λ w lt. subst (λ ps. IsPlaceBelow (i + 1) wires w (place_at ps w)) (sym c.note.ensures)
          (place_more wires places i u w (slice_get-get_or wires i 0 c.loop-place-test.true) (omega arith) (inv.told w lt));
    }

pub returns : goal.returns
returns c =
    let inv = c.loop-place.invariant in
    record {
      as_many = inv.as_many;
      told = λ w lt. place_done c.args.wires.now c.loop-place.place w (place_at c.loop-place.places w) c.loop-place-test.false (inv.told w lt);
    }
