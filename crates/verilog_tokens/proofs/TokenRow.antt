-- The tokens of a text, step by step.
use Rattle.std.proofs.Common.{◌≡◌, ◌==◌, ◌≤◌, ◌<◌, ◌++◌, ◌&&◌, ◌||◌, ℕ, zero, suc, Bool, true, false, cond, length, List, [], ◌∷◌, Option, Some, None, refl, sym, ap, ◌∙◌, subst, inl, inr, IsTrue, arith}
use Rattle.std.proofs.lemmas.Bool.Decides.{nat_tests}
use Rattle.small_text.specs.Bytes.{is_blank, is_letter, is_digit, number_of}
use Rattle.small_text.proofs.Runs.{AllOf}
use Rattle.small_text.proofs.ByteKinds.{chosen, key_simple}
use Rattle.verilog_tokens.specs.Bytes.{is_symbol}
use Rattle.verilog_tokens.specs.Constants.{IsConstant}
use Rattle.verilog_tokens.specs.Cuts.{Spells, First, Cuts, nothing, gap, token}
use Rattle.verilog_tokens.specs.First.{Hit, token_at}
use Rattle.verilog_tokens.specs.Gaps.{within, comment_at, directive_at, gap_at}
use Rattle.verilog_tokens.specs.Row.{with_token, with_gap, row, tokens_from, NoToken, AllTokens}
use Rattle.verilog_tokens.specs.Token.{Token, Name, Key, Number, Constant, Text, Symbol, Open, Close, Stray}
use Rattle.verilog_tokens.proofs.Gaps.{Behind, gap_so, so_gap, gap_shorter}
use Rattle.verilog_tokens.proofs.Longest.{found_first, first_found, found_shorter}

-- bytes that begin tokens
abbrev starts : ℕ → Bool
starts b = is_letter b || (is_digit b || (is_symbol b || ((b == 92) || ((b == 34) || (b == 42)))))

record IsSolid (b : ℕ) : Type 0 where
  blank : is_blank b ≡ false
  slash : (b == 47) ≡ false
  quote : (b == 96) ≡ false

-- no gap begins so
starts_solid : (b : ℕ) → IsTrue (starts b) → IsSolid b
starts_solid b h = record { blank = grind (arith, nat_tests); slash = grind (arith, nat_tests); quote = grind (arith, nat_tests) }

letter_starts : (b : ℕ) → IsTrue (is_letter b) → IsTrue (starts b)
letter_starts b h = rw h refl

digit_starts : (b : ℕ) → IsTrue (is_digit b) → IsTrue (starts b)
digit_starts b h = grind (arith, nat_tests)

symbol_starts : (b : ℕ) → IsTrue (is_symbol b) → IsTrue (starts b)
symbol_starts b h = grind (arith, nat_tests)

abbrev Begins : List ℕ → Type 0
Begins text = (b : ℕ) × (bs : List ℕ) × (text ≡ b ∷ bs) × IsTrue (starts b)

constant_starts : (text : List ℕ) (bits : List Bool) (size : List ℕ) (c : IsConstant text bits) → c.size ≡ size → Begins text
constant_starts text bits [] c e = absurd (omega (arith, c.least, ap number_of e))
constant_starts text bits (b ∷ bs) c e =
    (b, bs ++ 39 ∷ c.mark ∷ c.digits, c.whole ∙ ap (λ w. w ++ 39 ∷ c.mark ∷ c.digits) e, digit_starts b (subst (AllOf is_digit) e c.decimal).0)

-- the first byte of a token
text_starts : (t : Token) (text behind : List ℕ) → Spells t text behind → Begins text
text_starts (Name []) text behind (inl h) = absurd h.1
text_starts (Name (b ∷ bs)) text behind (inl h) = (b, bs, h.0, letter_starts b h.1.0)
text_starts (Name name) text behind (inr h) = (92, name, h.0, refl)
text_starts (Key []) text behind h = absurd (cc (h.1))
text_starts (Key (b ∷ bs)) text behind h = (b, bs, h.0, letter_starts b (key_simple (b ∷ bs) h.1).0)
text_starts (Number n) [] behind h = absurd (omega (arith, h.0))
text_starts (Number n) (b ∷ bs) behind h = (b, bs, refl, digit_starts b h.1.0)
text_starts (Constant bits) text behind h = constant_starts text bits h.size h refl
text_starts (Text string) text behind h = (34, string ++ 34 ∷ [], h.0, refl)
text_starts (Symbol s) text behind h = (s, [], h.0, symbol_starts s h.1)
text_starts Open text behind h = (40, 42 ∷ [], h, refl)
text_starts Close text behind h = (42, 41 ∷ [], h, refl)
text_starts Stray text behind h = absurd h

solid_gap : (line : Bool) (b : ℕ) (bs : List ℕ) → IsSolid b → gap_at line (b ∷ bs) ≡ None
solid_gap line b bs s = rw (s.blank, s.slash, s.quote) refl

-- no gap stands where a token does
no_gap : (line : Bool) (bytes rest : List ℕ) (t : Token) → First bytes t rest → gap_at line bytes ≡ None
no_gap line bytes rest t f =
    let b = text_starts t f.text rest f.spells in
    ap (gap_at line) (f.whole ∙ ap (λ w. w ++ rest) b.2) ∙ solid_gap line b.0 (b.1 ++ rest) (starts_solid b.0 b.3)

no_steps : (k : ℕ) (line : Bool) → row k line [] ≡ []
no_steps zero line = refl
no_steps (suc k) line = refl

same_steps : (j k : ℕ) (line : Bool) (bytes : List ℕ) (g : Option Behind) (t : Option Hit) → gap_at line bytes ≡ g → token_at bytes ≡ t →
    ((p : Bool) (r : List ℕ) → length r < length bytes → row j p r ≡ row k p r) → with_gap (row j) g t ≡ with_gap (row k) g t
same_steps j k line bytes (Some b) t eg et f = f b.0 b.1 (gap_shorter line bytes b.0 b.1 eg)
same_steps j k line bytes None (Some h) eg et f = ap (λ w. h.0 ∷ w) (f false h.1 (found_shorter bytes h.0 h.1 et))
same_steps j k line bytes None None eg et f = refl

-- more steps than bytes give nothing more
enough : (j k : ℕ) (line : Bool) (bytes : List ℕ) → length bytes ≤ j → length bytes ≤ k → row j line bytes ≡ row k line bytes
enough j k line [] a b = no_steps j line ∙ sym (no_steps k line)
enough zero k line (b ∷ bs) a c = absurd (omega arith)
enough (suc j) zero line (b ∷ bs) a c = absurd (omega arith)
enough (suc j) (suc k) line (b ∷ bs) a c =
    same_steps j k line (b ∷ bs) _ _ refl refl (λ p r less. enough j k p r (omega arith) (omega arith))

-- no bytes, no tokens
pub no_tokens : (line : Bool) → tokens_from line [] ≡ []
unfolding tokens_from
no_tokens line = refl

-- a gap adds no token
pub gap_tokens : (line : Bool) (bytes : List ℕ) (behind : Bool) (rest : List ℕ) → gap_at line bytes ≡ Some (behind, rest) → tokens_from line bytes ≡ tokens_from behind rest
unfolding tokens_from
gap_tokens line [] behind rest h = absurd (cc)
gap_tokens line (b ∷ bs) behind rest h =
    let less = gap_shorter line (b ∷ bs) behind rest h in
    ap (λ g. with_gap (row (length bs)) g (token_at (b ∷ bs))) h ∙ enough (length bs) (length rest) behind rest (omega arith) (omega arith)

-- where no gap stands, the token in front is the first
pub token_tokens : (line : Bool) (bytes : List ℕ) (t : Token) (rest : List ℕ) → gap_at line bytes ≡ None → token_at bytes ≡ Some (t, rest) → tokens_from line bytes ≡ t ∷ tokens_from false rest
unfolding tokens_from
token_tokens line [] t rest h e = absurd (cc)
token_tokens line (b ∷ bs) t rest h e =
    let less = found_shorter (b ∷ bs) t rest e in
    ap (λ g. with_gap (row (length bs)) g (token_at (b ∷ bs))) h
    ∙ (ap (with_token (row (length bs) false)) e ∙ ap (λ w. t ∷ w) (enough (length bs) (length rest) false rest (omega arith) (omega arith)))

-- where neither stands, a piece that is no token
pub stray_tokens : (line : Bool) (bytes : List ℕ) → 0 < length bytes → gap_at line bytes ≡ None → token_at bytes ≡ None → tokens_from line bytes ≡ Stray ∷ []
unfolding tokens_from
stray_tokens line [] some h e = absurd (omega arith)
stray_tokens line (b ∷ bs) some h e = ap (λ g. with_gap (row (length bs)) g (token_at (b ∷ bs))) h ∙ ap (with_token (row (length bs) false)) e

-- where no gap stands, it does not matter whether the place begins a line
pub same_line : (line : Bool) (bytes : List ℕ) → gap_at line bytes ≡ None → gap_at false bytes ≡ None → tokens_from false bytes ≡ tokens_from line bytes
unfolding tokens_from
same_line line [] h k = refl
same_line line (b ∷ bs) h k = ap (λ g. with_gap (row (length bs)) g (token_at (b ∷ bs))) (k ∙ sym h)

-- the tokens of a text that is cut
pub cut_tokens : (line : Bool) (bytes : List ℕ) (ts : List Token) → Cuts line bytes ts → tokens_from line bytes ≡ ts
cut_tokens line bytes ts nothing = no_tokens line
cut_tokens line bytes ts (gap {behind = p} {rest = r} g c) = gap_tokens line bytes p r (so_gap line bytes p r g) ∙ cut_tokens p r ts c
cut_tokens line bytes ts (token {rest = r} {t = t} {ts = more} f c) =
    token_tokens line bytes t r (no_gap line bytes r t f) (first_found bytes t r f) ∙ ap (λ w. t ∷ w) (cut_tokens false r more c)

-- no bytes are cut into two lists of tokens
pub one_list : (line : Bool) (bytes : List ℕ) (ts us : List Token) → Cuts line bytes ts → Cuts line bytes us → ts ≡ us
one_list line bytes ts us c d = sym (cut_tokens line bytes ts c) ∙ cut_tokens line bytes us d

no_stray : (t : Token) (ts : List Token) → AllTokens (t ∷ ts) → AllTokens ts
no_stray (Name n) ts h = h
no_stray (Key n) ts h = h
no_stray (Number n) ts h = h
no_stray (Constant n) ts h = h
no_stray (Text n) ts h = h
no_stray (Symbol n) ts h = h
no_stray Open ts h = h
no_stray Close ts h = h
no_stray Stray ts h = absurd h

abbrev CutsAll : ℕ → Type 0
CutsAll k = (line : Bool) (bytes : List ℕ) → length bytes ≤ k → AllTokens (row k line bytes) → Cuts line bytes (row k line bytes)

steps_cut : (k : ℕ) (line : Bool) (bytes : List ℕ) (g : Option Behind) (t : Option Hit) → length bytes ≤ suc k → gap_at line bytes ≡ g → token_at bytes ≡ t → CutsAll k →
    AllTokens (with_gap (row k) g t) → Cuts line bytes (with_gap (row k) g t)
steps_cut k line bytes (Some b) t below eg et f h = gap (gap_so line bytes b.0 b.1 eg) (f b.0 b.1 (omega (arith, below, gap_shorter line bytes b.0 b.1 eg)) h)
steps_cut k line bytes None (Some hit) below eg et f h =
    token (found_first bytes hit.0 hit.1 et) (f false hit.1 (omega (arith, below, found_shorter bytes hit.0 hit.1 et)) (no_stray hit.0 (row k false hit.1) h))
steps_cut k line bytes None None below eg et f h = absurd h

row_cut : (k : ℕ) → CutsAll k
row_cut zero line [] below h = nothing
row_cut zero line (b ∷ bs) below h = absurd (omega arith)
row_cut (suc k) line [] below h = nothing
row_cut (suc k) line (b ∷ bs) below h = steps_cut k line (b ∷ bs) _ _ below refl refl (row_cut k) h

-- a text is cut into its tokens, where each piece is one
pub tokens_cut : (line : Bool) (bytes : List ℕ) → AllTokens (tokens_from line bytes) → Cuts line bytes (tokens_from line bytes)
unfolding tokens_from
tokens_cut line bytes h = row_cut (length bytes) line bytes (omega arith) h

and_false : (a : Bool) → (a && false) ≡ false
and_false true = refl
and_false false = refl

-- where no gap stands at the begin of a line, none stands within one
pub gap_off : (line : Bool) (bytes : List ℕ) → gap_at line bytes ≡ None → gap_at false bytes ≡ None
gap_off line [] h = refl
gap_off line (b ∷ bs) h =
    elim (chosen (is_blank b) (Some (line || (b == 10), bs)) (cond (b == 47) (within (comment_at bs)) (cond ((b == 96) && line) (within (directive_at bs)) None)) None h) [
      | inl e ↦ absurd (cc (e.1))
      | inr e ↦ elim (chosen (b == 47) (within (comment_at bs)) (cond ((b == 96) && line) (within (directive_at bs)) None) None e.1) [
        | inl f ↦ rw (e.0, f.0) f.1
        | inr f ↦ rw (e.0, f.0, and_false (b == 96)) refl
      ]
    ]

-- what stands where no token does
pub no_token : (bytes : List ℕ) (ts : List Token) → tokens_from false bytes ≡ ts → gap_at false bytes ≡ None → token_at bytes ≡ None → NoToken ts
no_token [] ts e h k = subst NoToken (sym (no_tokens false) ∙ e) tt
no_token (b ∷ bs) ts e h k = subst NoToken (sym (stray_tokens false (b ∷ bs) (omega arith) h k) ∙ e) tt

some_case : (bytes : List ℕ) (t : Option Hit) → 0 < length bytes → gap_at false bytes ≡ None → token_at bytes ≡ t → tokens_from false bytes ≡ [] → ⊥
some_case bytes None some h k e = absurd (cc (sym (stray_tokens false bytes some h k) ∙ e))
some_case bytes (Some hit) some h k e = absurd (cc (sym (token_tokens false bytes hit.0 hit.1 h k) ∙ e))

-- where a text has no tokens and no gap stands, nothing stands
pub nothing_left : (bytes : List ℕ) → gap_at false bytes ≡ None → tokens_from false bytes ≡ [] → length bytes ≡ 0
nothing_left [] h e = refl
nothing_left (b ∷ bs) h e = absurd (some_case (b ∷ bs) _ (omega arith) h refl e)

pub none_left : (bytes : List ℕ) → length bytes ≡ 0 → tokens_from false bytes ≡ []
none_left [] e = no_tokens false
none_left (b ∷ bs) e = absurd (omega arith)

within_steps : (k : ℕ) (line : Bool) (bytes : List ℕ) (g : Option Behind) (t : Option Hit) → 0 < length bytes → gap_at line bytes ≡ g → token_at bytes ≡ t →
    ((p : Bool) (r : List ℕ) → length (row k p r) ≤ length r) → length (with_gap (row k) g t) ≤ length bytes
within_steps k line bytes (Some b) t some eg et f = omega (arith, f b.0 b.1, gap_shorter line bytes b.0 b.1 eg)
within_steps k line bytes None (Some hit) some eg et f = omega (arith, f false hit.1, found_shorter bytes hit.0 hit.1 et)
within_steps k line bytes None None some eg et f = omega arith

row_within : (k : ℕ) (line : Bool) (bytes : List ℕ) → length (row k line bytes) ≤ length bytes
row_within zero line bytes = omega arith
row_within (suc k) line [] = omega arith
row_within (suc k) line (b ∷ bs) = within_steps k line (b ∷ bs) _ _ (omega arith) refl refl (λ p r. row_within k p r)

-- a text has no more tokens than bytes
pub tokens_within : (line : Bool) (bytes : List ℕ) → length (tokens_from line bytes) ≤ length bytes
unfolding tokens_from
tokens_within line bytes = row_within (length bytes) line bytes
