-- Reading tokens from left to right: what stands in front of a list of tokens, with the tokens behind it.
use Rattle.std.specs.Prelude.{◌≡◌, ◌==◌, ℕ, zero, suc, Bool, true, false, not, cond, List, [], ◌∷◌, ◌++◌, length, drop, Option, Some, None, Result, Ok, Err}
use Rattle.liberty_text.specs.Cuts.{Token, word, text, symbol}
use Rattle.liberty_statements.specs.Grammar.{Arg, quoted, worded, Args, no_args, some_args, Piece, a_word, a_comma, an_open, a_close, Value, quoted_value, pieces, Statement, group, complex, simple, Statements, none, first}
use Rattle.liberty_statements.specs.declared.stop.Stop.{Stop}
use Rattle.liberty_statements.specs.declared.stop.Stop.TheVariants as stops

-- a value and the tokens behind it, None where no such value stands in front
abbrev pub Read : Type 0 → Type 0
Read X = Option (X × List Token)

infixl 10 ◌>>=◌
abbrev pub ◌>>=◌ : {A B : Type 0} → Option A → (A → Option B) → Option B
None >>= f = None
(Some x) >>= f = f x

-- A function stops where reading gives nothing, unless memory ran out.
abbrev pub Fails : {Y : Type 0} → Stop → Option Y → Type 0
Fails stops.Memory read = Unit {0}
Fails (stops.Wrong left) read = read ≡ None

-- what a function returned is what reading gives
abbrev pub Gives : {X Y : Type 0} → (X → Y) → Result X Stop → Option Y → Type 0
Gives view (Ok x) read = read ≡ Some (view x)
Gives view (Err e) read = Fails e read

-- what stands behind a value that is read over
abbrev pub behind : {X : Type 0} → Read X → Option (List Token)
behind None = None
behind (Some x) = Some x.1

-- another value in place of the one that is read
abbrev pub as_value : {X Y : Type 0} → (X → Y) → Read X → Read Y
as_value f None = None
as_value f (Some x) = Some (f x.0, x.1)

-- whether a symbol stands in front
abbrev pub begins : ℕ → List Token → Bool
begins s (symbol c ∷ ts) = c == s
begins s _ = false

abbrev pub symbol_at : ℕ → List Token → Option (List Token)
symbol_at s ts = cond (begins s ts) (Some (drop 1 ts)) None

abbrev pub word_at : List Token → Read (List ℕ)
word_at (word w ∷ ts) = Some (w, ts)
word_at _ = None

-- a list behind a value
abbrev pub with_front : {X : Type 0} → List X → Read (List X) → Read (List X)
with_front front r = r >>= (λ xs. Some (front ++ xs.0, xs.1))

-- values while a test of the tokens holds, at most so many
unfoldable pub many_at : {X : Type 0} → (List Token → Bool) → (List Token → Read X) → ℕ → List Token → Read (List X)
many_at on p zero ts = Some ([], ts)
many_at on p (suc k) ts = cond (on ts) (p ts >>= (λ x. with_front (x.0 ∷ []) (many_at on p k x.1))) (Some ([], ts))

-- values while a test of the tokens holds
unfoldable pub all_at : {X : Type 0} → (List Token → Bool) → (List Token → Read X) → List Token → Read (List X)
all_at on p ts = many_at on p (suc (length ts)) ts

abbrev pub until : ℕ → List Token → Bool
until s ts = not (begins s ts)

-- `: word`
unfoldable pub colon_word_at : List Token → Read (List ℕ)
colon_word_at ts = do
  rest ← symbol_at 58 ts
  word_at rest

abbrev pub words_at : List Token → Read (List (List ℕ))
words_at ts = all_at (begins 58) colon_word_at ts

abbrev pub worded_at : List ℕ → List Token → Read Arg
worded_at w ts = as_value (worded w) (words_at ts)

abbrev pub arg_at : List Token → Read Arg
arg_at (text v ∷ ts) = Some (quoted v, ts)
arg_at (word w ∷ ts) = worded_at w ts
arg_at _ = None

abbrev pub with_comma : Bool → Arg → Bool × Arg
with_comma c a = (c, a)

-- what stands behind a `,` or nothing
abbrev pub behind_comma : List Token → List Token
behind_comma ts = cond (begins 44 ts) (drop 1 ts) ts

-- `[ , ] arg`
abbrev pub next_arg_at : List Token → Read (Bool × Arg)
next_arg_at ts = as_value (with_comma (begins 44 ts)) (arg_at (behind_comma ts))

abbrev pub next_args_at : List Token → Read (List (Bool × Arg))
next_args_at ts = all_at (until 41) next_arg_at ts

unfoldable pub some_args_at : List Token → Read Args
some_args_at ts = do
  a ← arg_at ts
  as_value (some_args a.0) (next_args_at a.1)

-- the arguments in front of `)`
abbrev pub args_at : List Token → Read Args
args_at ts = cond (begins 41 ts) (Some (no_args, ts)) (some_args_at ts)

abbrev pub symbol_piece : ℕ → Option Piece
symbol_piece s = cond (s == 44) (Some a_comma) (cond (s == 40) (Some an_open) (cond (s == 41) (Some a_close) None))

abbrev pub with_rest : {X : Type 0} → Option X → List Token → Read X
with_rest None ts = None
with_rest (Some x) ts = Some (x, ts)

abbrev pub piece_at : List Token → Read Piece
piece_at (word w ∷ ts) = Some (a_word w, ts)
piece_at (symbol s ∷ ts) = with_rest (symbol_piece s) ts
piece_at _ = None

abbrev pub next_pieces_at : List Token → Read (List Piece)
next_pieces_at ts = all_at (until 59) piece_at ts

unfoldable pub pieces_at : List Token → Read Value
pieces_at ts = do
  p ← piece_at ts
  as_value (pieces p.0) (next_pieces_at p.1)

-- the value in front of `;`
abbrev pub value_at : List Token → Read Value
value_at (text v ∷ ts) = Some (quoted_value v, ts)
value_at ts = pieces_at ts

-- `(`, which is true, or `:`
abbrev pub bare_mark_at : List Token → Read Bool
bare_mark_at ts = cond (begins 40 ts) (Some (true, drop 1 ts)) (cond (begins 58 ts) (Some (false, drop 1 ts)) None)

abbrev pub start_of : List ℕ → Bool → List ℕ × Bool
start_of w is_open = (w, is_open)

-- the word that a statement begins with, and the mark behind it
unfoldable pub start_at : List Token → Read (List ℕ × Bool)
start_at ts = do
  w ← word_at ts
  m ← bare_mark_at w.1
  Some (start_of w.0 m.0, m.1)

-- what stands behind a `;` or nothing
abbrev pub ended : List Token → List Token
ended ts = cond (begins 59 ts) (drop 1 ts) ts

-- the text of a value and its `;`
unfoldable pub value_end_at : List Token → Read Value
value_end_at ts = do
  v ← value_at ts
  rest ← symbol_at 59 v.1
  Some (v.0, rest)

-- arguments and their `)`
unfoldable pub args_end_at : List Token → Read Args
args_end_at ts = do
  a ← args_at ts
  rest ← symbol_at 41 a.1
  Some (a.0, rest)

abbrev pub Body : Type 0
Body = List Token → Read Statements

abbrev pub group_of : List ℕ → Args → Read Statements → Read Statement
group_of n xs None = None
group_of n xs (Some b) = Some (group n xs b.0 (begins 59 b.1), ended b.1)

-- what stands behind the `)` of a group or a complex attribute
abbrev pub open_at : Body → List ℕ → Args → List Token → Read Statement
open_at body n xs ts = cond (begins 123 ts) (group_of n xs (body (drop 1 ts))) (Some (complex n xs (begins 59 ts), ended ts))

unfoldable pub paren_at : Body → List ℕ → List Token → Read Statement
paren_at body n ts = do
  a ← args_end_at ts
  open_at body n a.0 a.1

abbrev pub simple_at : List ℕ → List Token → Read Statement
simple_at n ts = as_value (simple n) (value_end_at ts)

-- a statement, with a reader for what stands in the braces of a group
unfoldable pub statement_at : Body → List Token → Read Statement
statement_at body ts = do
  st ← start_at ts
  cond st.0.1 (paren_at body st.0.0 st.1) (simple_at st.0.0 st.1)

abbrev pub listed : List Statement → Statements
listed [] = none
listed (s ∷ ss) = first s (listed ss)

-- statements and their `}`
unfoldable pub statements_at : Body → List Token → Read Statements
statements_at body ts = do
  ss ← all_at (until 125) (statement_at body) ts
  rest ← symbol_at 125 ss.1
  Some (listed ss.0, rest)

-- what stands in the braces of a group in which so many groups nest at most, itself among them
unfoldable pub body_at : ℕ → List Token → Read Statements
body_at zero ts = None
body_at (suc n) ts = statements_at (body_at n) ts

-- a statement that is read over, or the start of a group with its `{`, which is true
abbrev pub open_head : List Token → Read Bool
open_head ts = cond (begins 123 ts) (Some (true, drop 1 ts)) (Some (false, ended ts))

abbrev pub over_value : List Token → Read Bool
over_value ts = behind (value_end_at ts) >>= (λ r. Some (false, r))

abbrev pub over_args : List Token → Read Bool
over_args ts = behind (args_end_at ts) >>= open_head

unfoldable pub head_at : List Token → Read Bool
head_at ts = do
  st ← start_at ts
  cond st.0.1 (over_args st.1) (over_value st.1)
