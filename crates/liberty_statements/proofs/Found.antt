-- What is read stands there.
use Rattle.std.proofs.Common.{◌≡◌, ◌==◌, ◌≤◌, ◌<◌, ℕ, zero, suc, max, Bool, true, false, cond, List, [], ◌∷◌, length, drop, Option, Some, None, refl, sym, ap, ◌∙◌, subst, inl, inr, arith}
use Rattle.liberty_text.specs.Cuts.{Token, word, text, symbol, wrong}
use Rattle.liberty_text.proofs.Gaps.{same_number}
use Rattle.liberty_text.proofs.Runs.{chosen}
use Rattle.liberty_statements.specs.Grammar.{Arg, quoted, worded, Args, no_args, some_args, Piece, a_word, a_comma, an_open, a_close, Value, quoted_value, pieces, Statement, group, complex, simple, Statements, none, first, more_words, arg_tokens, next_arg, more_args, args_tokens, piece_token, more_pieces, value_tokens, end_tokens, statement_tokens, statements_tokens, depth_of, depth_of_all}
use Rattle.liberty_statements.specs.Reading.{Read, begins, symbol_at, word_at, all_at, until, colon_word_at, words_at, arg_at, behind_comma, with_comma, next_arg_at, next_args_at, some_args_at, args_at, args_end_at, symbol_piece, with_rest, piece_at, next_pieces_at, pieces_at, value_at, value_end_at, start_at, ended, Body, group_of, open_at, paren_at, simple_at, statement_at, statements_at, body_at}
use Rattle.liberty_statements.specs.declared.stop.Stop.TheVariants as stops
use Rattle.liberty_statements.proofs.Many.{On, Reader, Less, NoMore, hit, got, bind_some, as_some, all_off, all_go, all_fails}
use Rattle.liberty_statements.proofs.Less.{begins_is, symbol_is, word_is, start_is, group_is, colon_word_less, next_arg_less, piece_less, statement_less, body_no_more, some_it, args_end_on, args_end_it, pieces_it, value_end_on, value_end_it, open_it, statement_it}
use Rattle.liberty_statements.proofs.Steps.{statements_go, statements_end, statements_fail}

-- lists of values
right_case : {X : Type 0} (t : X → List Token → List Token) (all : List X → List Token → List Token) (nil : (rest : List Token) → all [] rest ≡ rest) (cons : (x : X) (xs : List X) (rest : List Token) → all (x ∷ xs) rest ≡ t x (all xs rest))
    (on : On) (p : Reader X) (less : Less p) (right : (ts : List Token) (x : X × List Token) → p ts ≡ Some x → ts ≡ t x.0 x.1)
    (ts : List Token) (again : (rest : List Token) → length rest < length ts → (y : List X × List Token) → all_at on p rest ≡ Some y → rest ≡ all y.0 y.1)
    (y : List X × List Token) → all_at on p ts ≡ Some y → (b : Bool) → on ts ≡ b → (o : Read X) → p ts ≡ o → ts ≡ all y.0 y.1
right_case {X} t all nil cons on p less right ts again y h false e o k =
    let g = got [] ts y (sym (all_off on p less ts e) ∙ h) in
    sym (nil ts) ∙ (ap (λ (xs : List X). all xs ts) g.0 ∙ ap (all y.0) g.1)
right_case t all nil cons on p less right ts again y h true e None k =
    let none : all_at on p ts ≡ None = all_fails (stops.Wrong 0) on p less ts e k in
    absurd (cc)
right_case {X} t all nil cons on p less right ts again y h true e (Some x) k =
    let z = as_some (λ xs. x.0 ∷ xs) (all_at on p x.1) y (sym (all_go on p less ts x e k) ∙ h) in
    right ts x k
    ∙ (ap (t x.0) (again x.1 (less ts x k) z.0 z.1)
    ∙ (sym (cons x.0 z.0.0 z.0.1) ∙ (ap (λ (xs : List X). all xs z.0.1) z.2 ∙ ap (all y.0) z.3)))

right_below : {X : Type 0} (t : X → List Token → List Token) (all : List X → List Token → List Token) (nil : (rest : List Token) → all [] rest ≡ rest) (cons : (x : X) (xs : List X) (rest : List Token) → all (x ∷ xs) rest ≡ t x (all xs rest))
    (on : On) (p : Reader X) (less : Less p) (right : (ts : List Token) (x : X × List Token) → p ts ≡ Some x → ts ≡ t x.0 x.1)
    (n : ℕ) (ts : List Token) → length ts < n → (y : List X × List Token) → all_at on p ts ≡ Some y → ts ≡ all y.0 y.1
right_below t all nil cons on p less right zero ts l y h = absurd (omega arith)
right_below t all nil cons on p less right (suc n) ts l y h =
    right_case t all nil cons on p less right ts (λ rest k z e. right_below t all nil cons on p less right n rest (omega arith) z e) y h (on ts) refl (p ts) refl

right_all : {X : Type 0} (t : X → List Token → List Token) (all : List X → List Token → List Token) (nil : (rest : List Token) → all [] rest ≡ rest) (cons : (x : X) (xs : List X) (rest : List Token) → all (x ∷ xs) rest ≡ t x (all xs rest))
    (on : On) (p : Reader X) (less : Less p) (right : (ts : List Token) (x : X × List Token) → p ts ≡ Some x → ts ≡ t x.0 x.1)
    (ts : List Token) (y : List X × List Token) → all_at on p ts ≡ Some y → ts ≡ all y.0 y.1
right_all t all nil cons on p less right ts y h = right_below t all nil cons on p less right (suc (length ts)) ts (omega arith) y h

-- arguments
abbrev colon_tokens : List ℕ → List Token → List Token
colon_tokens w rest = symbol 58 ∷ word w ∷ rest

right_colon : (ts : List Token) (x : List ℕ × List Token) → colon_word_at ts ≡ Some x → ts ≡ colon_tokens x.0 x.1
unfolding colon_word_at
right_colon ts x h = let r = bind_some (symbol_at 58 ts) word_at x h in symbol_is 58 ts r.0 r.1 ∙ ap (λ w. symbol 58 ∷ w) (word_is r.0 x r.2)

right_words : (ts : List Token) (y : List (List ℕ) × List Token) → words_at ts ≡ Some y → ts ≡ more_words y.0 y.1
right_words = right_all colon_tokens more_words (λ rest. refl) (λ x xs rest. refl) (begins 58) colon_word_at colon_word_less right_colon

right_arg : (ts : List Token) (x : Arg × List Token) → arg_at ts ≡ Some x → ts ≡ arg_tokens x.0 x.1
right_arg [] x h = absurd (cc)
right_arg (text v ∷ ts) x h = let g = got (quoted v) ts x h in ap (λ (a : Arg). arg_tokens a ts) g.0 ∙ ap (arg_tokens x.0) g.1
right_arg (word w ∷ ts) x h =
    let y = as_some (worded w) (words_at ts) x h in
    ap (λ r. word w ∷ r) (right_words ts y.0 y.1) ∙ (ap (λ (a : Arg). arg_tokens a y.0.1) y.2 ∙ ap (arg_tokens x.0) y.3)
right_arg (symbol s ∷ ts) x h = absurd (cc)
right_arg (wrong ∷ ts) x h = absurd (cc)

comma_is : (b : Bool) (ts : List Token) (a : Arg) (rest : List Token) → begins 44 ts ≡ b → behind_comma ts ≡ arg_tokens a rest → ts ≡ next_arg (b, a) rest
comma_is true ts a rest e h = begins_is 44 ts e ∙ ap (λ r. symbol 44 ∷ r) (sym (ap (λ c. cond c (drop 1 ts) ts) e) ∙ h)
comma_is false ts a rest e h = sym (ap (λ c. cond c (drop 1 ts) ts) e) ∙ h

right_next : (ts : List Token) (x : (Bool × Arg) × List Token) → next_arg_at ts ≡ Some x → ts ≡ next_arg x.0 x.1
right_next ts x h =
    let y = as_some (with_comma (begins 44 ts)) (arg_at (behind_comma ts)) x h in
    comma_is (begins 44 ts) ts y.0.0 y.0.1 refl (right_arg (behind_comma ts) y.0 y.1)
    ∙ (ap (λ (a : Bool × Arg). next_arg a y.0.1) y.2 ∙ ap (next_arg x.0) y.3)

right_next_args : (ts : List Token) (y : List (Bool × Arg) × List Token) → next_args_at ts ≡ Some y → ts ≡ more_args y.0 y.1
right_next_args = right_all next_arg more_args (λ rest. refl) (λ x xs rest. refl) (until 41) next_arg_at next_arg_less right_next

right_some : (ts : List Token) (x : Args × List Token) → some_args_at ts ≡ Some x → ts ≡ args_tokens x.0 x.1
unfolding some_args_at
right_some ts x h =
    let a = bind_some (arg_at ts) some_it x h in
    let y = as_some (some_args a.0.0) (next_args_at a.0.1) x a.2 in
    right_arg ts a.0 a.1 ∙ (ap (arg_tokens a.0.0) (right_next_args a.0.1 y.0 y.1) ∙ (ap (λ (z : Args). args_tokens z y.0.1) y.2 ∙ ap (args_tokens x.0) y.3))

right_args : (ts : List Token) (x : Args × List Token) → args_at ts ≡ Some x → ts ≡ args_tokens x.0 x.1
right_args ts x h = elim (chosen (begins 41 ts) (hit no_args ts) (some_args_at ts) (Some x) h) [
  | inl e ↦ let g = got no_args ts x e.1 in ap (λ (z : Args). args_tokens z ts) g.0 ∙ ap (args_tokens x.0) g.1
  | inr e ↦ right_some ts x e.1
]

-- arguments that are read stand there
pub right_args_end : (ts : List Token) (x : Args × List Token) → args_end_at ts ≡ Some x → ts ≡ args_tokens x.0 (symbol 41 ∷ x.1)
unfolding args_end_at
right_args_end ts x h =
    let a = bind_some (args_at ts) args_end_it x h in
    let r = bind_some (symbol_at 41 a.0.1) (args_end_on a.0) x a.2 in
    let g = got a.0.0 r.0 x r.2 in
    right_args ts a.0 a.1 ∙ (ap (args_tokens a.0.0) (symbol_is 41 a.0.1 r.0 r.1) ∙ (ap (λ (z : Args). args_tokens z (symbol 41 ∷ r.0)) g.0 ∙ ap (λ (z : List Token). args_tokens x.0 (symbol 41 ∷ z)) g.1))

-- values
abbrev piece_tokens : Piece → List Token → List Token
piece_tokens p rest = piece_token p ∷ rest

symbol_piece_is : (s : ℕ) (p : Piece) → symbol_piece s ≡ Some p → symbol s ≡ piece_token p
symbol_piece_is s p h = elim (chosen (s == 44) (Some a_comma) (cond (s == 40) (Some an_open) (cond (s == 41) (Some a_close) None)) (Some p) h) [
  | inl e ↦ ap (λ x. symbol x) (same_number s 44 e.0) ∙ ap piece_token (let f : a_comma ≡ p = cc (e.1) in f)
  | inr e ↦ elim (chosen (s == 40) (Some an_open) (cond (s == 41) (Some a_close) None) (Some p) e.1) [
    | inl f ↦ ap (λ x. symbol x) (same_number s 40 f.0) ∙ ap piece_token (let k : an_open ≡ p = cc (f.1) in k)
    | inr f ↦ elim (chosen (s == 41) (Some a_close) None (Some p) f.1) [
      | inl k ↦ ap (λ x. symbol x) (same_number s 41 k.0) ∙ ap piece_token (let m : a_close ≡ p = cc (k.1) in m)
      | inr k ↦ absurd (cc (k.1))
    ]
  ]
]

rest_case : (o : Option Piece) (s : ℕ) (ts : List Token) (x : Piece × List Token) → ((p : Piece) → o ≡ Some p → symbol s ≡ piece_token p) → with_rest o ts ≡ Some x → symbol s ∷ ts ≡ piece_tokens x.0 x.1
rest_case (Some p) s ts x f h = let g = got p ts x h in ap (λ t. t ∷ ts) (f p refl) ∙ (ap (λ (q : Piece). piece_tokens q ts) g.0 ∙ ap (piece_tokens x.0) g.1)
rest_case None s ts x f h = absurd (cc)

right_piece : (ts : List Token) (x : Piece × List Token) → piece_at ts ≡ Some x → ts ≡ piece_tokens x.0 x.1
right_piece [] x h = absurd (cc)
right_piece (word w ∷ ts) x h = let g = got (a_word w) ts x h in ap (λ (q : Piece). piece_tokens q ts) g.0 ∙ ap (piece_tokens x.0) g.1
right_piece (symbol s ∷ ts) x h = rest_case (symbol_piece s) s ts x (symbol_piece_is s) h
right_piece (text w ∷ ts) x h = absurd (cc)
right_piece (wrong ∷ ts) x h = absurd (cc)

right_next_pieces : (ts : List Token) (y : List Piece × List Token) → next_pieces_at ts ≡ Some y → ts ≡ more_pieces y.0 y.1
right_next_pieces = right_all piece_tokens more_pieces (λ rest. refl) (λ x xs rest. refl) (until 59) piece_at piece_less right_piece

right_pieces : (ts : List Token) (x : Value × List Token) → pieces_at ts ≡ Some x → ts ≡ value_tokens x.0 x.1
unfolding pieces_at
right_pieces ts x h =
    let p = bind_some (piece_at ts) pieces_it x h in
    let y = as_some (pieces p.0.0) (next_pieces_at p.0.1) x p.2 in
    right_piece ts p.0 p.1 ∙ (ap (piece_tokens p.0.0) (right_next_pieces p.0.1 y.0 y.1) ∙ (ap (λ (z : Value). value_tokens z y.0.1) y.2 ∙ ap (value_tokens x.0) y.3))

right_value : (ts : List Token) (x : Value × List Token) → value_at ts ≡ Some x → ts ≡ value_tokens x.0 x.1
right_value [] x h = right_pieces [] x h
right_value (text v ∷ ts) x h = let g = got (quoted_value v) ts x h in ap (λ (z : Value). value_tokens z ts) g.0 ∙ ap (value_tokens x.0) g.1
right_value (word w ∷ ts) x h = right_pieces (word w ∷ ts) x h
right_value (symbol s ∷ ts) x h = right_pieces (symbol s ∷ ts) x h
right_value (wrong ∷ ts) x h = right_pieces (wrong ∷ ts) x h

right_value_end : (ts : List Token) (x : Value × List Token) → value_end_at ts ≡ Some x → ts ≡ value_tokens x.0 (symbol 59 ∷ x.1)
unfolding value_end_at
right_value_end ts x h =
    let v = bind_some (value_at ts) value_end_it x h in
    let r = bind_some (symbol_at 59 v.0.1) (value_end_on v.0) x v.2 in
    let g = got v.0.0 r.0 x r.2 in
    right_value ts v.0 v.1 ∙ (ap (value_tokens v.0.0) (symbol_is 59 v.0.1 r.0 r.1) ∙ (ap (λ (z : Value). value_tokens z (symbol 59 ∷ r.0)) g.0 ∙ ap (λ (z : List Token). value_tokens x.0 (symbol 59 ∷ z)) g.1))

-- statements
pub end_is : (ts : List Token) → ts ≡ end_tokens (begins 59 ts) (ended ts)
end_is ts = end_case (begins 59 ts) refl
  where
    end_case : (b : Bool) → begins 59 ts ≡ b → ts ≡ end_tokens b (cond b (drop 1 ts) ts)
    end_case true e = begins_is 59 ts e
    end_case false e = refl

-- what is read as a body stands there, and nests no deeper
abbrev pub RightBody : ℕ → Body → Type 0
RightBody d body = (ts : List Token) (b : Statements × List Token) → body ts ≡ Some b → (ts ≡ statements_tokens b.0 (symbol 125 ∷ b.1)) × (depth_of_all b.0 < d)

abbrev Stands : ℕ → List Token → Statement × List Token → Type 0
Stands d ts x = (ts ≡ statement_tokens x.0 x.1) × (depth_of x.0 ≤ d)

stands : (d : ℕ) (ts rest : List Token) (s : Statement) (x : Statement × List Token) → ts ≡ statement_tokens s rest → depth_of s ≤ d → s ≡ x.0 → rest ≡ x.1 → Stands d ts x
stands d ts rest s x h l e f =
    (h ∙ (ap (λ (z : Statement). statement_tokens z rest) e ∙ ap (statement_tokens x.0) f), let P : Statement → Type 0 = λ z. depth_of z ≤ d in subst P e l)

right_open : (d : ℕ) (body : Body) → RightBody d body → (n : List ℕ) (xs : Args) (ts c : List Token) (x : Statement × List Token) → ts ≡ word n ∷ symbol 40 ∷ args_tokens xs (symbol 41 ∷ c) → open_at body n xs c ≡ Some x → Stands d ts x
right_open d body r n xs ts c x e h = elim (chosen (begins 123 c) (group_of n xs (body (drop 1 c))) (hit (complex n xs (begins 59 c)) (ended c)) (Some x) h) [
  | inl f ↦
      let b = group_is n xs (body (drop 1 c)) x f.1 in
      let k = r (drop 1 c) b.0 b.1 in
      let all : c ≡ symbol 123 ∷ statements_tokens b.0.0 (symbol 125 ∷ end_tokens (begins 59 b.0.1) (ended b.0.1)) = begins_is 123 c f.0 ∙ ap (λ z. symbol 123 ∷ z) (k.0 ∙ ap (λ (z : List Token). statements_tokens b.0.0 (symbol 125 ∷ z)) (end_is b.0.1)) in
      stands d ts (ended b.0.1) (group n xs b.0.0 (begins 59 b.0.1)) x (e ∙ ap (λ (z : List Token). word n ∷ symbol 40 ∷ args_tokens xs (symbol 41 ∷ z)) all) (omega (arith, k.1)) (sym b.2) (sym b.3)
  | inr f ↦
      let g = got (complex n xs (begins 59 c)) (ended c) x f.1 in
      stands d ts (ended c) (complex n xs (begins 59 c)) x (e ∙ ap (λ (z : List Token). word n ∷ symbol 40 ∷ args_tokens xs (symbol 41 ∷ z)) (end_is c)) (omega arith) g.0 g.1
]

right_paren : (d : ℕ) (body : Body) → RightBody d body → (n : List ℕ) (ts b : List Token) (x : Statement × List Token) → ts ≡ word n ∷ symbol 40 ∷ b → paren_at body n b ≡ Some x → Stands d ts x
unfolding paren_at
right_paren d body r n ts b x e h =
    let a = bind_some (args_end_at b) (open_it body n) x h in
    right_open d body r n a.0.0 ts a.0.1 x (e ∙ ap (λ (z : List Token). word n ∷ symbol 40 ∷ z) (right_args_end b a.0 a.1)) a.2

right_simple : (d : ℕ) (n : List ℕ) (ts b : List Token) (x : Statement × List Token) → ts ≡ word n ∷ symbol 58 ∷ b → simple_at n b ≡ Some x → Stands d ts x
right_simple d n ts b x e h =
    let v = as_some (simple n) (value_end_at b) x h in
    stands d ts v.0.1 (simple n v.0.0) x (e ∙ ap (λ (z : List Token). word n ∷ symbol 58 ∷ z) (right_value_end b v.0 v.1)) (omega arith) v.2 v.3

right_kind : (d : ℕ) (body : Body) → RightBody d body → (n : List ℕ) (o : Bool) (ts b : List Token) (x : Statement × List Token) → ts ≡ word n ∷ symbol (cond o 40 58) ∷ b → cond o (paren_at body n b) (simple_at n b) ≡ Some x → Stands d ts x
right_kind d body r n true ts b x e h = right_paren d body r n ts b x e h
right_kind d body r n false ts b x e h = right_simple d n ts b x e h

right_statement : (d : ℕ) (body : Body) → RightBody d body → (ts : List Token) (x : Statement × List Token) → statement_at body ts ≡ Some x → Stands d ts x
unfolding statement_at
right_statement d body r ts x h =
    let st = bind_some (start_at ts) (statement_it body) x h in
    right_kind d body r st.0.0.0 st.0.0.1 ts st.0.1 x (start_is ts st.0 st.1) st.2

max_le : (a b d : ℕ) → a ≤ d → b ≤ d → max a b ≤ d
max_le a b d h k = omega arith

abbrev StandAll : ℕ → List Token → Statements × List Token → Type 0
StandAll d ts y = (ts ≡ statements_tokens y.0 (symbol 125 ∷ y.1)) × (depth_of_all y.0 ≤ d)

stand_case : (d : ℕ) (body : Body) → NoMore body → RightBody d body → (ts : List Token) (again : (rest : List Token) → length rest < length ts → (y : Statements × List Token) → statements_at body rest ≡ Some y → StandAll d rest y)
    → (y : Statements × List Token) → statements_at body ts ≡ Some y → (b : Bool) → begins 125 ts ≡ b → (o : Read Statement) → statement_at body ts ≡ o → StandAll d ts y
stand_case d body l r ts again y h true e o k =
    let g = got none (drop 1 ts) y (sym (statements_end body l ts (drop 1 ts) (begins_is 125 ts e)) ∙ h) in (
      begins_is 125 ts e ∙ (ap (λ (z : Statements). statements_tokens z (symbol 125 ∷ drop 1 ts)) g.0 ∙ ap (λ (z : List Token). statements_tokens y.0 (symbol 125 ∷ z)) g.1),
      let P : Statements → Type 0 = λ z. depth_of_all z ≤ d in subst P g.0 (omega arith),
    )
stand_case d body l r ts again y h false e None k =
    let fails : statements_at body ts ≡ None = statements_fail (stops.Wrong 0) body l ts e k in
    absurd (cc)
stand_case d body l r ts again y h false e (Some x) k =
    let z = as_some (first x.0) (statements_at body x.1) y (sym (statements_go body l ts x.1 x.0 e k) ∙ h) in
    let s = right_statement d body r ts x k in
    let ss = again x.1 (statement_less body l ts x k) z.0 z.1 in (
      s.0 ∙ (ap (statement_tokens x.0) ss.0 ∙ (ap (λ (w : Statements). statements_tokens w (symbol 125 ∷ z.0.1)) z.2 ∙ ap (λ (w : List Token). statements_tokens y.0 (symbol 125 ∷ w)) z.3)),
      let P : Statements → Type 0 = λ w. depth_of_all w ≤ d in subst P z.2 (max_le (depth_of x.0) (depth_of_all z.0.0) d s.1 ss.1),
    )

stand_below : (d : ℕ) (body : Body) → NoMore body → RightBody d body → (n : ℕ) (ts : List Token) → length ts < n → (y : Statements × List Token) → statements_at body ts ≡ Some y → StandAll d ts y
stand_below d body l r zero ts k y h = absurd (omega arith)
stand_below d body l r (suc n) ts k y h =
    stand_case d body l r ts (λ rest i z e. stand_below d body l r n rest (omega arith) z e) y h (begins 125 ts) refl (statement_at body ts) refl

-- what is read as the inside of a group stands there
pub right_body : (d : ℕ) → RightBody d (body_at d)
unfolding body_at
right_body zero ts b h = absurd (cc)
right_body (suc d) ts b h = let s = stand_below d (body_at d) (body_no_more d) (right_body d) (suc (length ts)) ts (omega arith) b h in (s.0, omega (arith, s.1))
