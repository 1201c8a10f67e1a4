use Rattle.std.proofs.Common.{◌≡◌, All, Bool, List, length, sym, subst}
use Rattle.probe_text.proofs.Texts.{turned_long}
use Rattle.probe_text.proofs.rows.mirrored.Goals as goal

pub invariant_of-result : goal.invariant_of-result
invariant_of-result c =
    let width = c.args.tape.now.width in
    record {
      rectangular = subst (All (λ (row : List Bool). length row ≡ width)) (sym c.loop-row.invariant)
          (turned_long width c.loop-row.row-index c.args.tape.now.rows c.args.tape.now.rectangular);
    }
