use Rattle.std.proofs.Common.{◌≡◌, ◌<◌, ◌==◌, ◌∷◌, [], true, false, List, length, sym, ◌∙◌, arith}
use Rattle.simulation_tests.proofs.fitting.fits.Goals as goal

not_none : {X : Type 0} (xs : List X) → (length xs == 0) ≡ false → 0 < length xs
not_none [] e = absurd (let no : true ≡ false = e in cc)
not_none (x ∷ xs) e = omega arith

pub returns : goal.returns
returns c = λ told.
    let some = c.if-steps-eq0.false in
    record {
      some_stream = not_none c.args.streams.now (sym c.is_empty.ensures ∙ c.if-is_empty.false);
      within = tt;
      steps = c.args.steps;
      some_step = omega arith;
      each = c.streams_fit.ensures told;
    }
