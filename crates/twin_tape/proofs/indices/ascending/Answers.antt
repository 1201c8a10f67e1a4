use Rattle.std.proofs.Common.{◌≡◌, ◌++◌, ◌∷◌, [], ℕ, Bool, true, false, cond, filter, sym, ap, ◌∙◌}
use Rattle.std.proofs.lemmas.List.{append-nil}
use Rattle.std.specs.List.{range_with_len}
use Rattle.twin_tape.specs.Permitted.{has}
use Rattle.twin_tape.proofs.Stages.{filter_more}
use Rattle.twin_tape.proofs.indices.ascending.Goals as goal
use Rattle.twin_tape.proofs.indices.ascending.Goals.{then-holds+in_ok-push, else-holds}

pub loop-i-preserved : goal.loop-i-preserved
loop-i-preserved c =
    let p : ℕ → Bool = has c.args.indices.now in
    let i = c.loop-i.i in
    let old = c.loop-i.invariant in
    elim c.if-holds.branch [
      | then-holds+in_ok-push w ↦ (
          let yes' : p i ≡ true = sym c.holds.ensures ∙ w.if-holds.true in
          w.found-is ∙ (w.in_ok-push.ensures.ok ∙ (ap (λ xs. xs ++ i ∷ []) old ∙ (ap (λ b. filter p (range_with_len 0 i) ++ cond b (i ∷ []) []) (sym yes') ∙ sym (filter_more p i)))))
      | else-holds w ↦ (
          let no' : p i ≡ false = sym c.holds.ensures ∙ w.if-holds.false in
          w.found-is ∙ (old ∙ (sym (append-nil (filter p (range_with_len 0 i))) ∙ (ap (λ b. filter p (range_with_len 0 i) ++ cond b (i ∷ []) []) (sym no') ∙ sym (filter_more p i)))))
    ]
