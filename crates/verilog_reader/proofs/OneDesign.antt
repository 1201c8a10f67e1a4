-- The bytes spell at most one design, which is the one that is read.
use Rattle.std.proofs.Common.{◌≡◌, ℕ, true, List, Some, None, sym, ap, ◌∙◌, subst}
use Rattle.verilog_tokens.specs.Row.{tokens_from}
use Rattle.verilog_tokens.specs.Token.{Token}
use Rattle.verilog_tokens.proofs.TokenRow.{cut_tokens, one_list, tokens_cut}
use Rattle.verilog_reader.specs.Plain.{PlainDesign}
use Rattle.verilog_reader.specs.Grammar.{IsDesign, Spelled}
use Rattle.verilog_reader.specs.Reading.{design_at}
use Rattle.verilog_reader.proofs.Ahead.{clean_design}
use Rattle.verilog_reader.proofs.FoundDesign.{right_design}
use Rattle.verilog_reader.proofs.AgainDesign.{again_design}

-- no bytes spell two designs
pub one_design : (bytes : List ℕ) (d e : PlainDesign) → Spelled bytes d → Spelled bytes e → d ≡ e
one_design bytes d e p q =
    let same : Some d ≡ Some e = sym (again_design d p.0 p.2) ∙ (ap design_at (one_list true bytes p.0 q.0 p.1 q.1) ∙ again_design e q.0 q.2) in
    cc

-- what is read is spelled
pub read_spelled : (bytes : List ℕ) (ts : List Token) (d : PlainDesign) → ts ≡ tokens_from true bytes → design_at ts ≡ Some d → Spelled bytes d
read_spelled bytes ts d e h =
    let derived = subst (λ (w : List Token). IsDesign d w) e (right_design ts d h) in
    (tokens_from true bytes, tokens_cut true bytes (clean_design d (tokens_from true bytes) derived), derived)

-- where nothing is read nothing is spelled
pub none_spelled : (bytes : List ℕ) (ts : List Token) → ts ≡ tokens_from true bytes → design_at ts ≡ None → (d : PlainDesign) → ¬ Spelled bytes d
none_spelled bytes ts e h d s =
    let read : None ≡ Some d = sym h ∙ (ap design_at (e ∙ cut_tokens true bytes s.0 s.1) ∙ again_design d s.0 s.2) in
    absurd (cc)
