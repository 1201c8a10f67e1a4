use Rattle.std.proofs.Common.{◌≡◌, ◌%◌, ◌^◌, ◌/◌, ap, ◌∙◌, arith}
use Rattle.rand_chacha.specs.ChaCha.{word_at}
use Rattle.random_draws.specs.Draws.{random_bit}
use Rattle.random_draws.proofs.Repeats.{bit_of_word, next_word_at}
use Rattle.random_draws.proofs.bits.RandomBits.next_bit.Goals as goal
use Rattle.random_draws.proofs.bits.RandomBits.next_bit.Goals.{then-place-eq0, else-place-eq0}

pub returns-clause-bit : goal.returns-clause-bit
returns-clause-bit c =
    let i = c.self.inside in
    let is : c.if-place-eq0.self-inside.word ≡ word_at 10 i.generator.key i.generator.stream (i.next / 32 % 2 ^ 68) =
    elim c.if-place-eq0.branch [
      | then-place-eq0 w ↦ ap (λ j. j.word) w.self-inside-is ∙ (ap (λ p. p.0) w.next_word-self-inside.ensures ∙ ap (word_at 10 i.generator.key i.generator.stream) (c.self.invariant.0 ∙ next_word_at i.next w.if-place-eq0.true))
      | else-place-eq0 w ↦ ap (λ j. j.word) w.self-inside-is ∙ c.self.invariant.1 (omega arith)
    ] in
    bit_of_word i.generator.key i.generator.stream i.next c.if-place-eq0.self-inside.word is ∙ ap (λ t. random_bit t.key t.stream t.next) c.self.view_is
