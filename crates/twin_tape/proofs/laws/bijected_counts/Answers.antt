use Rattle.std.proofs.Common.{cond, ap, ◌∙◌}
use Rattle.twin_tape.proofs.Bijections.{sum_bijected}
use Rattle.twin_tape.proofs.Counting.{sum_tapes-ext}
use Rattle.twin_tape.proofs.laws.bijected_counts.Goals as goal

pub returns : goal.returns
returns c = λ R T F G inverse p q same.
    sum_tapes-ext R T (λ x. cond (p x) 1 0) (λ x. cond (q (F x)) 1 0) (λ x is. ap (λ b. cond b 1 0) (same x is)) ∙ sum_bijected R T F G inverse (λ x. cond (q x) 1 0)
