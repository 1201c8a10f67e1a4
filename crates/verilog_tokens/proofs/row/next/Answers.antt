use Rattle.std.proofs.Common.{◌∷◌, false, sym, ap, ◌∙◌}
use Rattle.verilog_tokens.specs.View.{token_of}
use Rattle.verilog_tokens.proofs.TokenRow.{no_token, token_tokens}
use Rattle.verilog_tokens.proofs.row.next.Goals as goal

pub returns-in_err-token : goal.returns-in_err-token
returns-in_err-token c = rw c.from_residual.ensures (no_token c.settled.result.now _ c.settled.ensures.value c.settled.ensures.settled (sym c.in_err-token.ensures))

pub returns : goal.returns
returns c =
    sym c.settled.ensures.value
    ∙ (token_tokens false c.settled.result.now (token_of c.in_ok-token.token) c.in_ok-token.rest.now c.settled.ensures.settled (sym c.in_ok-token.ensures)
    ∙ ap (λ w. token_of c.in_ok-token.token ∷ w) (sym c.settled-2.ensures.value))
