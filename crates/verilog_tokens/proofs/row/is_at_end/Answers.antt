use Rattle.std.proofs.Common.{◌≡◌, ◌==◌, ℕ, Bool, IsTrue, sym, ◌∙◌, arith}
use Rattle.std.proofs.lemmas.Bool.Decides.{nat_tests}
use Rattle.verilog_tokens.proofs.TokenRow.{nothing_left, none_left}
use Rattle.verilog_tokens.proofs.row.is_at_end.Goals as goal

none_so : (n : ℕ) (b : Bool) → b ≡ (n == 0) → IsTrue b → n ≡ 0
none_so n b e h = grind (arith, nat_tests)

so_none : (n : ℕ) (b : Bool) → b ≡ (n == 0) → n ≡ 0 → IsTrue b
so_none n b e h = grind (arith, nat_tests)

pub returns : goal.returns
returns c = (
  λ t. sym c.settled.ensures.value ∙ none_left c.settled.result.now (none_so _ _ c.is_empty.ensures t),
  λ e. so_none _ _ c.is_empty.ensures (nothing_left c.settled.result.now c.settled.ensures.settled (c.settled.ensures.value ∙ e)),
)
