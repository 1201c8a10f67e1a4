-- Tokens and white space as pieces: each token with the white space behind it.
use Rattle.std.proofs.Common.{◌≡◌, ◌<◌, ◌++◌, ◌⊎◌, ℕ, Bool, true, false, length, List, [], ◌∷◌, IsTrue, refl, ap, ◌∙◌, subst, inl, inr, arith, append_assoc, length-append}
use Rattle.std.specs.List.{AllByRecursion}
use Rattle.small_text.specs.Bytes.{is_blank}
use Rattle.small_text.specs.declared.token.Token.{Token}
use Rattle.small_text.specs.Layout.{Piece, token_text, may_touch, IsToken, IsPiece, IsLaidOut, laid_text, laid_tokens}
use Rattle.small_text.specs.Written.{Part, word, space, parts_text}

-- the pieces of a token, the white space behind it and further parts
abbrev pub joined : Token → List ℕ → List Part → List Piece
joined t gap [] = record { token = t; gap = gap } ∷ []
joined t gap (word u ∷ ps) = record { token = t; gap = gap } ∷ joined u [] ps
joined t gap (space s ∷ ps) = joined t (gap ++ s) ps

-- the tokens among parts
abbrev pub tokens_of : List Part → List Token
tokens_of [] = []
tokens_of (word u ∷ ps) = u ∷ tokens_of ps
tokens_of (space s ∷ ps) = tokens_of ps

-- Parts behind a token may be written so, and end with white space. The test says whether white space stands behind the token.
abbrev pub Well : Token → Bool → List Part → Type 0
Well t any [] = any ≡ true
Well t any (word u ∷ ps) = IsToken u × ((any ≡ true) ⊎ IsTrue (may_touch t u)) × Well u false ps
Well t any (space s ∷ ps) = (0 < length s) × AllByRecursion (λ b. IsTrue (is_blank b)) s × Well t true ps

-- the text of the pieces is that of the parts
pub joined_text : (ps : List Part) (t : Token) (gap : List ℕ) → laid_text (joined t gap ps) ≡ token_text t ++ (gap ++ parts_text ps)
joined_text [] t gap = append_assoc (token_text t) gap []
joined_text (word u ∷ ps) t gap = ap (λ (w : List ℕ). (token_text t ++ gap) ++ w) (joined_text ps u []) ∙ append_assoc (token_text t) gap (token_text u ++ parts_text ps)
joined_text (space s ∷ ps) t gap = joined_text ps t (gap ++ s) ∙ ap (λ (w : List ℕ). token_text t ++ w) (append_assoc gap s (parts_text ps))

-- the tokens of the pieces are those of the parts
pub joined_tokens : (ps : List Part) (t : Token) (gap : List ℕ) → laid_tokens (joined t gap ps) ≡ t ∷ tokens_of ps
joined_tokens [] t gap = refl
joined_tokens (word u ∷ ps) t gap = ap (λ w. t ∷ w) (joined_tokens ps u [])
joined_tokens (space s ∷ ps) t gap = joined_tokens ps t (gap ++ s)

-- one piece more in front
laid_more : (p : Piece) (u : Token) (qs : List Piece) (us : List Token) → laid_tokens qs ≡ u ∷ us → IsPiece p → (0 < length p.gap) ⊎ IsTrue (may_touch p.token u) → IsLaidOut qs → IsLaidOut (p ∷ qs)
laid_more p u [] us e k t l = absurd (cc)
laid_more p u (q ∷ qs) us e k t l =
    let same : u ≡ q.token = cc in
    let P : Token → Type 0 = λ v. (0 < length p.gap) ⊎ IsTrue (may_touch p.token v) in
    (k, subst P same t, l)

blanks_both : (a b : List ℕ) → AllByRecursion (λ c. IsTrue (is_blank c)) a → AllByRecursion (λ c. IsTrue (is_blank c)) b → AllByRecursion (λ c. IsTrue (is_blank c)) (a ++ b)
blanks_both [] b h k = k
blanks_both (x ∷ xs) b h k = (h.0, blanks_both xs b h.1 k)

touch_of : (any : Bool) (gap : List ℕ) (T : Type 0) → (any ≡ true → 0 < length gap) → (any ≡ true) ⊎ T → (0 < length gap) ⊎ T
touch_of any gap T f h = elim h [ inl e ↦ inl (f e) | inr e ↦ inr e ]

-- parts that may be written so are laid out
pub joined_laid : (ps : List Part) (t : Token) (gap : List ℕ) (any : Bool) → IsToken t → AllByRecursion (λ c. IsTrue (is_blank c)) gap → (any ≡ true → 0 < length gap) → Well t any ps → IsLaidOut (joined t gap ps)
joined_laid [] t gap any k b f w = ((k, b), f w)
joined_laid (word u ∷ ps) t gap any k b f w =
    laid_more (record { token = t; gap = gap }) u (joined u [] ps) (tokens_of ps) (joined_tokens ps u []) (k, b) (touch_of any gap (IsTrue (may_touch t u)) f w.1)
    (joined_laid ps u [] false w.0 tt (λ e. absurd (cc)) w.2)
joined_laid (space s ∷ ps) t gap any k b f w = joined_laid ps t (gap ++ s) true k (blanks_both gap s b w.1) (λ e. omega (arith, length-append gap s, w.0)) w.2
