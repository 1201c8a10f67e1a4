-- Kinds of bytes, and words of directives, beside those of the small form.
use Rattle.std.specs.Prelude.{◌==◌, ℕ, suc, Bool, false, not, ◌&&◌, ◌||◌, List, [], ◌∷◌, length, Option, Some, None, nat_le, codes}
use Rattle.std.specs.List.{list_any}
use Rattle.std.specs.Str.{bytes_eq}
use Rattle.small_text.specs.Bytes.{is_symbol as is_small_symbol}

-- ( ) [ ] { } , ; : . =
abbrev pub is_symbol : ℕ → Bool
is_symbol b = is_small_symbol b || ((b == 123) || (b == 125))

-- a byte that may stand behind a `\` in a string: 32 to 126
abbrev pub is_printed : ℕ → Bool
is_printed b = nat_le 32 b && nat_le b 126

-- a byte before the end of the line
abbrev pub is_in_line : ℕ → Bool
is_in_line b = not (b == 10)

-- a byte of a line that is read over: bytes above 126 stand in comments alone
abbrev pub is_in_directive : ℕ → Bool
is_in_directive b = not (b == 10) && nat_le b 126

-- the directives whose lines are read over
abbrev pub directives : List (List ℕ)
directives = codes "timescale" ∷ codes "default_nettype" ∷ codes "celldefine" ∷ codes "endcelldefine" ∷ codes "resetall" ∷ []

abbrev pub is_directive : List ℕ → Bool
is_directive word = list_any (λ d. bytes_eq d word) directives

-- at most ten bytes, of which the first is a small letter up to x, as each word is that is no identifier
abbrev pub may_be_key : List ℕ → Bool
may_be_key [] = false
may_be_key (b ∷ bs) = (nat_le 97 b && nat_le b 120) && nat_le (length (b ∷ bs)) 10

abbrev pub one_longer : {S : Type 0} → (S → ℕ) → Option S → ℕ
one_longer count None = 0
one_longer count (Some state) = suc (count state)

-- how many bytes from the front on go on from a state, each to the next state
abbrev pub step_run : {S : Type 0} → (S → ℕ → Option S) → List ℕ → S → ℕ
step_run next [] state = 0
step_run next (b ∷ bs) state = one_longer (step_run next bs) (next state b)
