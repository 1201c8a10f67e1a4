-- What stands there is read.
use Rattle.std.proofs.Common.{◌≡◌, ◌≤◌, ◌<◌, ℕ, zero, suc, Bool, true, false, cond, List, [], ◌∷◌, drop, Some, refl, sym, ap, ◌∙◌, subst, arith}
use Rattle.liberty_text.specs.Cuts.{Token, word, symbol}
use Rattle.liberty_statements.specs.Grammar.{Arg, quoted, worded, Args, no_args, some_args, Piece, a_word, a_comma, an_open, a_close, Value, quoted_value, pieces, Statement, group, complex, simple, Statements, none, first, more_words, arg_tokens, next_arg, more_args, args_tokens, piece_token, more_pieces, value_tokens, end_tokens, statement_tokens, statements_tokens, depth_of, depth_of_all}
use Rattle.liberty_statements.specs.Reading.{◌>>=◌, as_value, begins, all_at, until, colon_word_at, words_at, arg_at, with_comma, next_arg_at, next_args_at, some_args_at, args_at, args_end_at, piece_at, next_pieces_at, pieces_at, value_at, value_end_at, start_at, ended, Body, group_of, statement_at, statements_at, body_at}
use Rattle.liberty_statements.proofs.Many.{On, Reader, Less, hit, all_off, all_go}
use Rattle.liberty_statements.proofs.Less.{colon_word_less, next_arg_less, piece_less, body_no_more, some_it, args_end_it, pieces_it, value_end_it}
use Rattle.liberty_statements.proofs.Steps.{body_is, simple_step, complex_step, group_step, statements_go, statements_end}

-- lists of values: each is read in front of what may stand behind it
again_all : {X : Type 0} (t : X → List Token → List Token) (all : List X → List Token → List Token) (nil : (rest : List Token) → all [] rest ≡ rest) (cons : (x : X) (xs : List X) (rest : List Token) → all (x ∷ xs) rest ≡ t x (all xs rest))
    (Fit : List Token → Type 0) (on : On) (p : Reader X) (less : Less p)
    (fits : (x : X) (rest : List Token) → Fit (t x rest)) (starts : (x : X) (rest : List Token) → on (t x rest) ≡ true) (again : (x : X) (rest : List Token) → Fit rest → p (t x rest) ≡ Some (x, rest))
    (xs : List X) (rest : List Token) → Fit rest → on rest ≡ false → all_at on p (all xs rest) ≡ Some (xs, rest)
again_all t all nil cons Fit on p less fits starts again [] rest f e = ap (all_at on p) (nil rest) ∙ all_off on p less rest e
again_all {X} t all nil cons Fit on p less fits starts again (x ∷ xs) rest f e =
    ap (all_at on p) (cons x xs rest)
    ∙ (all_go on p less (t x (all xs rest)) (x, all xs rest) (starts x (all xs rest)) (again x (all xs rest) (fit_all xs))
    ∙ ap (as_value (λ ys. x ∷ ys)) (again_all t all nil cons Fit on p less fits starts again xs rest f e))
  where
    fit_all : (xs : List X) → Fit (all xs rest)
    fit_all [] = subst Fit (sym (nil rest)) f
    fit_all (y ∷ ys) = subst Fit (sym (cons y ys rest)) (fits y (all ys rest))

abbrev Any : List Token → Type 0
Any ts = Unit {0}

-- arguments
abbrev colon_tokens : List ℕ → List Token → List Token
colon_tokens w rest = symbol 58 ∷ word w ∷ rest

colon_again : (w : List ℕ) (rest : List Token) → Any rest → colon_word_at (colon_tokens w rest) ≡ Some (w, rest)
unfolding colon_word_at
colon_again w rest a = refl

words_again : (ws : List (List ℕ)) (rest : List Token) → begins 58 rest ≡ false → words_at (more_words ws rest) ≡ Some (ws, rest)
words_again ws rest e = again_all colon_tokens more_words (λ r. refl) (λ x xs r. refl) Any (begins 58) colon_word_at colon_word_less (λ x r. tt) (λ x r. refl) colon_again ws rest tt e

abbrev NoColon : List Token → Type 0
NoColon ts = begins 58 ts ≡ false

arg_again : (a : Arg) (rest : List Token) → NoColon rest → arg_at (arg_tokens a rest) ≡ Some (a, rest)
arg_again (quoted v) rest e = refl
arg_again (worded w ws) rest e = ap (as_value (worded w)) (words_again ws rest e)

arg_no_comma : (a : Arg) (rest : List Token) → begins 44 (arg_tokens a rest) ≡ false
arg_no_comma (quoted v) rest = refl
arg_no_comma (worded w ws) rest = refl

next_again : (x : Bool × Arg) (rest : List Token) → NoColon rest → next_arg_at (next_arg x rest) ≡ Some (x, rest)
next_again (true, a) rest e = ap (as_value (with_comma true)) (arg_again a rest e)
next_again (false, a) rest e =
    ap (λ b. as_value (with_comma b) (arg_at (cond b (drop 1 (arg_tokens a rest)) (arg_tokens a rest)))) (arg_no_comma a rest)
    ∙ ap (as_value (with_comma false)) (arg_again a rest e)

next_no_colon : (x : Bool × Arg) (rest : List Token) → NoColon (next_arg x rest)
next_no_colon (true, a) rest = refl
next_no_colon (false, quoted v) rest = refl
next_no_colon (false, worded w ws) rest = refl

next_goes_on : (x : Bool × Arg) (rest : List Token) → until 41 (next_arg x rest) ≡ true
next_goes_on (true, a) rest = refl
next_goes_on (false, quoted v) rest = refl
next_goes_on (false, worded w ws) rest = refl

more_again : (xs : List (Bool × Arg)) (rest : List Token) → next_args_at (more_args xs (symbol 41 ∷ rest)) ≡ Some (xs, symbol 41 ∷ rest)
more_again xs rest = again_all next_arg more_args (λ r. refl) (λ x ys r. refl) NoColon (until 41) next_arg_at next_arg_less next_no_colon next_goes_on next_again xs (symbol 41 ∷ rest) refl refl

more_no_colon : (xs : List (Bool × Arg)) (rest : List Token) → NoColon (more_args xs (symbol 41 ∷ rest))
more_no_colon [] rest = refl
more_no_colon (x ∷ xs) rest = next_no_colon x (more_args xs (symbol 41 ∷ rest))

some_again : (a : Arg) (xs : List (Bool × Arg)) (rest : List Token) → some_args_at (args_tokens (some_args a xs) (symbol 41 ∷ rest)) ≡ Some (some_args a xs, symbol 41 ∷ rest)
unfolding some_args_at
some_again a xs rest =
    ap (λ o. o >>= some_it) (arg_again a (more_args xs (symbol 41 ∷ rest)) (more_no_colon xs rest))
    ∙ ap (as_value (some_args a)) (more_again xs rest)

some_no_end : (a : Arg) (xs : List (Bool × Arg)) (rest : List Token) → begins 41 (args_tokens (some_args a xs) rest) ≡ false
some_no_end (quoted v) xs rest = refl
some_no_end (worded w ws) xs rest = refl

args_again : (xs : Args) (rest : List Token) → args_at (args_tokens xs (symbol 41 ∷ rest)) ≡ Some (xs, symbol 41 ∷ rest)
args_again no_args rest = refl
args_again (some_args a xs) rest =
    ap (λ b. cond b (hit no_args (args_tokens (some_args a xs) (symbol 41 ∷ rest))) (some_args_at (args_tokens (some_args a xs) (symbol 41 ∷ rest)))) (some_no_end a xs (symbol 41 ∷ rest))
    ∙ some_again a xs rest

-- arguments that stand there are read
pub args_end_again : (xs : Args) (rest : List Token) → args_end_at (args_tokens xs (symbol 41 ∷ rest)) ≡ Some (xs, rest)
unfolding args_end_at
args_end_again xs rest = ap (λ o. o >>= args_end_it) (args_again xs rest)

-- values
abbrev piece_tokens : Piece → List Token → List Token
piece_tokens p rest = piece_token p ∷ rest

piece_again : (p : Piece) (rest : List Token) → Any rest → piece_at (piece_tokens p rest) ≡ Some (p, rest)
piece_again (a_word w) rest a = refl
piece_again a_comma rest a = refl
piece_again an_open rest a = refl
piece_again a_close rest a = refl

piece_goes_on : (p : Piece) (rest : List Token) → until 59 (piece_tokens p rest) ≡ true
piece_goes_on (a_word w) rest = refl
piece_goes_on a_comma rest = refl
piece_goes_on an_open rest = refl
piece_goes_on a_close rest = refl

next_pieces_again : (ps : List Piece) (rest : List Token) → next_pieces_at (more_pieces ps (symbol 59 ∷ rest)) ≡ Some (ps, symbol 59 ∷ rest)
next_pieces_again ps rest = again_all piece_tokens more_pieces (λ r. refl) (λ x xs r. refl) Any (until 59) piece_at piece_less (λ x r. tt) piece_goes_on piece_again ps (symbol 59 ∷ rest) tt refl

pieces_again : (p : Piece) (ps : List Piece) (rest : List Token) → pieces_at (piece_token p ∷ more_pieces ps (symbol 59 ∷ rest)) ≡ Some (pieces p ps, symbol 59 ∷ rest)
unfolding pieces_at
pieces_again p ps rest =
    ap (λ o. o >>= pieces_it) (piece_again p (more_pieces ps (symbol 59 ∷ rest)) tt) ∙ ap (as_value (pieces p)) (next_pieces_again ps rest)

value_again : (v : Value) (rest : List Token) → value_at (value_tokens v (symbol 59 ∷ rest)) ≡ Some (v, symbol 59 ∷ rest)
value_again (quoted_value v) rest = refl
value_again (pieces (a_word w) ps) rest = pieces_again (a_word w) ps rest
value_again (pieces a_comma ps) rest = pieces_again a_comma ps rest
value_again (pieces an_open ps) rest = pieces_again an_open ps rest
value_again (pieces a_close ps) rest = pieces_again a_close ps rest

value_end_again : (v : Value) (rest : List Token) → value_end_at (value_tokens v (symbol 59 ∷ rest)) ≡ Some (v, rest)
unfolding value_end_at
value_end_again v rest = ap (λ o. o >>= value_end_it) (value_again v rest)

-- statements
start_again : (n : List ℕ) (o : Bool) (rest : List Token) → start_at (word n ∷ symbol (cond o 40 58) ∷ rest) ≡ Some ((n, o), rest)
unfolding start_at
start_again n true rest = refl
start_again n false rest = refl

-- what may stand behind a statement: neither `;` nor `{`
record Ends (rest : List Token) : Type 0 where
  no_end : begins 59 rest ≡ false
  no_brace : begins 123 rest ≡ false

end_begins : (e : Bool) (rest : List Token) → Ends rest → begins 59 (end_tokens e rest) ≡ e
end_begins true rest h = refl
end_begins false rest h = h.no_end

end_ended : (e : Bool) (rest : List Token) → Ends rest → ended (end_tokens e rest) ≡ rest
end_ended true rest h = refl
end_ended false rest h = ap (λ b. cond b (drop 1 rest) rest) h.no_end

end_no_brace : (e : Bool) (rest : List Token) → Ends rest → begins 123 (end_tokens e rest) ≡ false
end_no_brace true rest h = refl
end_no_brace false rest h = h.no_brace

statement_ends : (s : Statement) (rest : List Token) → Ends (statement_tokens s rest)
statement_ends (group n xs ss e) rest = record { no_end = refl; no_brace = refl }
statement_ends (complex n xs e) rest = record { no_end = refl; no_brace = refl }
statement_ends (simple n v) rest = record { no_end = refl; no_brace = refl }

statement_goes_on : (s : Statement) (rest : List Token) → begins 125 (statement_tokens s rest) ≡ false
statement_goes_on (group n xs ss e) rest = refl
statement_goes_on (complex n xs e) rest = refl
statement_goes_on (simple n v) rest = refl

all_end : (ss : Statements) (rest : List Token) → Ends (statements_tokens ss (symbol 125 ∷ rest))
all_end none rest = record { no_end = refl; no_brace = refl }
all_end (first s ss) rest = statement_ends s (statements_tokens ss (symbol 125 ∷ rest))

complex_again : (body : Body) (n : List ℕ) (xs : Args) (e : Bool) (rest : List Token) → Ends rest → statement_at body (statement_tokens (complex n xs e) rest) ≡ Some (complex n xs e, rest)
complex_again body n xs e rest h =
    complex_step body (statement_tokens (complex n xs e) rest) (args_tokens xs (symbol 41 ∷ end_tokens e rest)) (end_tokens e rest) n xs (start_again n true (args_tokens xs (symbol 41 ∷ end_tokens e rest))) (args_end_again xs (end_tokens e rest)) (end_no_brace e rest h)
    ∙ (ap (λ (b : Bool). hit (complex n xs b) (ended (end_tokens e rest))) (end_begins e rest h) ∙ ap (λ (r : List Token). hit (complex n xs e) r) (end_ended e rest h))

simple_again : (body : Body) (n : List ℕ) (v : Value) (rest : List Token) → statement_at body (statement_tokens (simple n v) rest) ≡ Some (simple n v, rest)
simple_again body n v rest =
    simple_step body (statement_tokens (simple n v) rest) (value_tokens v (symbol 59 ∷ rest)) n (start_again n false (value_tokens v (symbol 59 ∷ rest))) ∙ ap (as_value (simple n)) (value_end_again v rest)

group_again : (body : Body) (n : List ℕ) (xs : Args) (ss : Statements) (e : Bool) (rest : List Token) → Ends rest → body (statements_tokens ss (symbol 125 ∷ end_tokens e rest)) ≡ Some (ss, end_tokens e rest) → statement_at body (statement_tokens (group n xs ss e) rest) ≡ Some (group n xs ss e, rest)
group_again body n xs ss e rest h k =
    let inner : List Token = statements_tokens ss (symbol 125 ∷ end_tokens e rest) in
    group_step body (statement_tokens (group n xs ss e) rest) (args_tokens xs (symbol 41 ∷ symbol 123 ∷ inner)) (symbol 123 ∷ inner) inner n xs (start_again n true (args_tokens xs (symbol 41 ∷ symbol 123 ∷ inner))) (args_end_again xs (symbol 123 ∷ inner)) refl
    ∙ (ap (group_of n xs) k
    ∙ (ap (λ (b : Bool). hit (group n xs ss b) (ended (end_tokens e rest))) (end_begins e rest h) ∙ ap (λ (r : List Token). hit (group n xs ss e) r) (end_ended e rest h)))

mutual
  statement_again : (s : Statement) (d : ℕ) (rest : List Token) → depth_of s ≤ d → Ends rest → statement_at (body_at d) (statement_tokens s rest) ≡ Some (s, rest)
  statement_again (group n xs ss e) zero rest l h = absurd (omega arith)
  statement_again (group n xs ss e) (suc d) rest l h =
      group_again (body_at (suc d)) n xs ss e rest h (body_is (suc d) d (statements_tokens ss (symbol 125 ∷ end_tokens e rest)) refl ∙ statements_again ss d (end_tokens e rest) (omega arith))
  statement_again (complex n xs e) d rest l h = complex_again (body_at d) n xs e rest h
  statement_again (simple n v) d rest l h = simple_again (body_at d) n v rest

  statements_again : (ss : Statements) (d : ℕ) (rest : List Token) → depth_of_all ss ≤ d → statements_at (body_at d) (statements_tokens ss (symbol 125 ∷ rest)) ≡ Some (ss, rest)
  statements_again none d rest l = statements_end (body_at d) (body_no_more d) (symbol 125 ∷ rest) rest refl
  statements_again (first s ss) d rest l =
      let behind : List Token = statements_tokens ss (symbol 125 ∷ rest) in
      statements_go (body_at d) (body_no_more d) (statement_tokens s behind) behind s (statement_goes_on s behind) (statement_again s d behind (omega arith) (all_end ss rest))
      ∙ ap (as_value (first s)) (statements_again ss d rest (omega arith))

-- the inside of a group that stands there is read
pub body_again : (d : ℕ) (ss : Statements) (rest : List Token) → depth_of_all ss < d → body_at d (statements_tokens ss (symbol 125 ∷ rest)) ≡ Some (ss, rest)
body_again zero ss rest l = absurd (omega arith)
body_again (suc d) ss rest l = body_is (suc d) d (statements_tokens ss (symbol 125 ∷ rest)) refl ∙ statements_again ss d rest (omega arith)
