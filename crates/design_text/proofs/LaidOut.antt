-- Parts of a text whose tokens are cut again.
use Rattle.std.proofs.Common.{◌≡◌, ◌++◌, ◌||◌, ◌==◌, ℕ, Bool, true, false, List, [], ◌∷◌, refl}
use Rattle.small_text.specs.Bytes.{is_blank}
use Rattle.small_text.proofs.Runs.{AllOf}
use Rattle.verilog_tokens.specs.Cuts.{Cuts, nothing, gap, token, blank}
use Rattle.verilog_tokens.specs.Token.{Token}
use Rattle.verilog_tokens.proofs.Longest.{found_first}
use Rattle.design_text.specs.Parts.{Part, word, space, parts_text}
use Rattle.design_text.proofs.WrittenTokens.{IsToken, ends, written_found}

-- the tokens among parts
abbrev pub tokens_of : List Part → List Token
tokens_of [] = []
tokens_of (word t ∷ ps) = t ∷ tokens_of ps
tokens_of (space s ∷ ps) = tokens_of ps

-- each token can be written, and what stands behind ends it
abbrev pub IsLaid : List Part → Type 0
IsLaid [] = Unit {0}
IsLaid (word t ∷ ps) = IsToken t × (ends t (parts_text ps) ≡ true) × IsLaid ps
IsLaid (space s ∷ ps) = AllOf is_blank s × IsLaid ps

over_gap : (s rest : List ℕ) (ts : List Token) → AllOf is_blank s → ((b : Bool) → Cuts b rest ts) → (b : Bool) → Cuts b (s ++ rest) ts
over_gap [] rest ts h c b = c b
over_gap (x ∷ xs) rest ts h c b = gap (blank (record { byte = x; whole = refl; blank = h.0 }) refl) (over_gap xs rest ts h.1 c (b || (x == 10)))

-- the text is cut into the tokens
pub laid_cuts : (ps : List Part) → IsLaid ps → (b : Bool) → Cuts b (parts_text ps) (tokens_of ps)
laid_cuts [] h b = nothing
laid_cuts (word t ∷ ps) h b = token (found_first _ _ _ (written_found t (parts_text ps) h.0 h.1)) (laid_cuts ps h.2 false)
laid_cuts (space s ∷ ps) h b = over_gap s (parts_text ps) (tokens_of ps) h.0 (λ c. laid_cuts ps h.1 c) b
