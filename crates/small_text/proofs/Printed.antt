-- The printed text of a module spells it.
use Rattle.std.proofs.Common.{◌≡◌, ℕ, Result, Ok, Err, IfOk, List, [], false, codes, refl, sym, ◌∙◌, subst}
use Rattle.agm_bits.specs.declared.list.Memory.{Memory}
use Rattle.small_text.specs.declared.token.Token.{Token}
use Rattle.small_text.specs.declared.token.Token.TheVariants.{Key}
use Rattle.small_text.specs.declared.small.Small.{Small}
use Rattle.small_text.specs.Cuts.{Cuts}
use Rattle.small_text.specs.Grammar.{IsSmall, HasWritableNames, Spelled}
use Rattle.small_text.specs.Layout.{laid_tokens}
use Rattle.small_text.specs.Written.{parts_text, small_parts}
use Rattle.small_text.proofs.Joined.{joined, joined_text, joined_tokens, joined_laid}
use Rattle.small_text.proofs.Well.{behind_module, well_module}
use Rattle.small_text.proofs.PartTokens.{module_tells}
use Rattle.small_text.proofs.Laid.{laid_out}

-- the text of the parts of a module spells it
pub printed_spells : (s : Small) → IsSmall s → HasWritableNames s → Spelled (parts_text (small_parts s)) s
printed_spells s v w =
    let cut = laid_out (joined (Key (codes "module")) [] (behind_module s)) (joined_laid (behind_module s) (Key (codes "module")) [] false refl tt (λ e. absurd (cc)) (well_module s v w)) in
    let text : List ℕ → Type 0 = λ bytes. Cuts bytes (laid_tokens (joined (Key (codes "module")) [] (behind_module s))) in
    let row : List Token → Type 0 = λ ts. Cuts (parts_text (small_parts s)) ts in
    (subst row (joined_tokens (behind_module s) (Key (codes "module")) [] ∙ module_tells s) (subst text (joined_text (behind_module s) (Key (codes "module")) []) cut), v)

-- what is printed spells the module, unless memory ran out
pub printed_right : (s : Small) (r : Result (List ℕ) Memory) → IsSmall s → HasWritableNames s → IfOk r (λ text. text ≡ parts_text (small_parts s)) → IfOk r (λ text. Spelled text s)
printed_right s (Ok text) v w h = let P : List ℕ → Type 0 = λ bytes. Spelled bytes s in subst P (sym h) (printed_spells s v w)
printed_right s (Err e) v w h = tt
