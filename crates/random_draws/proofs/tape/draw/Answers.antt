use Rattle.std.proofs.Common.{◌≡◌, ℕ, ◌+◌, ◌*◌, ◌%◌, ◌^◌, ◌<◌, List, Bool, [], ◌∷◌, ◌++◌, length, get_or, subst, ap, ap₂, sym, ◌∙◌}
use Rattle.rand_chacha.specs.ChaCha.{key_of}
use Rattle.random_draws.specs.Draws.{Turn, random_bits}
use Rattle.random_draws.proofs.Repeats.{each_wide, one_row_more, row_further, same_bits}
use Rattle.random_draws.proofs.tape.draw.Goals as goal

pub invariant_of-result : goal.invariant_of-result
invariant_of-result c =
    let wide = λ (rows : List (List Bool)). (k : ℕ) (d : List Bool) → k < length rows → length (get_or rows k d) ≡ c.args.width in
    record { rectangular = subst wide (sym c.loop.invariant.rows) (each_wide c.args.seed.now c.loop.counter c.args.width) }

pub loop-preserved : goal.loop-preserved
loop-preserved c =
    let seed = c.args.seed.now in let k = c.loop.counter in let w = c.args.width in
    let row : c.in_ok-row.field-0 ≡ random_bits (key_of seed) 0 (k * w) w =
    c.in_ok-row.ensures.row ∙ (ap (λ (u : Turn). random_bits u.key u.stream u.next w) c.loop.invariant.turn ∙ same_bits (key_of seed) 0 (k * w) w) in
    record {
      turn = c.in_ok-row.ensures.after ∙ (ap (λ (u : Turn). record u { next = (u.next + w) % 2 ^ 128 }) c.loop.invariant.turn ∙ ap (λ (n : ℕ). let t : Turn = record { key = key_of seed; stream = 0; next = n } in t) (row_further k w));
      rows = c.in_ok-push.ensures.ok ∙ (ap₂ (λ (rs : List (List Bool)) (r : List Bool). rs ++ r ∷ []) c.loop.invariant.rows row ∙ sym (one_row_more seed k w));
    }
