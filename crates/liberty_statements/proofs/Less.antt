-- What is read takes tokens.
use Rattle.std.proofs.Common.{◌≡◌, ◌==◌, ◌≤◌, ◌<◌, ℕ, zero, suc, Bool, true, false, cond, List, [], ◌∷◌, length, drop, Option, Some, None, refl, sym, ap, ◌∙◌, inl, inr, arith}
use Rattle.liberty_text.specs.Cuts.{Token, word, text, symbol, wrong}
use Rattle.liberty_text.proofs.Gaps.{same_number}
use Rattle.liberty_text.proofs.Runs.{chosen}
use Rattle.liberty_statements.specs.Grammar.{Arg, quoted, worded, Args, no_args, some_args, Piece, a_word, Value, quoted_value, pieces, Statement, group, complex, simple, Statements}
use Rattle.liberty_statements.specs.Reading.{Read, ◌>>=◌, as_value, begins, symbol_at, word_at, all_at, until, colon_word_at, words_at, arg_at, behind_comma, with_comma, next_arg_at, next_args_at, some_args_at, args_at, args_end_at, symbol_piece, with_rest, piece_at, next_pieces_at, pieces_at, value_at, value_end_at, bare_mark_at, start_of, start_at, ended, Body, group_of, open_at, paren_at, simple_at, statement_at, listed, statements_at, body_at}
use Rattle.liberty_statements.proofs.Many.{Less, NoMore, bind_some, hit, got, as_some, all_no_more}

pub begins_is : (s : ℕ) (ts : List Token) → begins s ts ≡ true → ts ≡ symbol s ∷ drop 1 ts
begins_is s [] h = absurd (cc)
begins_is s (symbol c ∷ ts) h = ap (λ x. symbol x ∷ ts) (same_number c s h)
begins_is s (word n ∷ ts) h = absurd (cc)
begins_is s (text n ∷ ts) h = absurd (cc)
begins_is s (wrong ∷ ts) h = absurd (cc)

pub symbol_is : (s : ℕ) (ts rest : List Token) → symbol_at s ts ≡ Some rest → ts ≡ symbol s ∷ rest
symbol_is s ts rest h = elim (chosen (begins s ts) (Some (drop 1 ts)) None (Some rest) h) [
  | inl e ↦ begins_is s ts e.0 ∙ ap (λ r. symbol s ∷ r) (let f : drop 1 ts ≡ rest = cc (e.1) in f)
  | inr e ↦ absurd (cc (e.1))
]

pub word_is : (ts : List Token) (x : List ℕ × List Token) → word_at ts ≡ Some x → ts ≡ word x.0 ∷ x.1
word_is [] x h = absurd (cc)
word_is (word w ∷ ts) x h = let g = got w ts x h in ap (λ v. word v ∷ ts) g.0 ∙ ap (λ r. word x.0 ∷ r) g.1
word_is (text w ∷ ts) x h = absurd (cc)
word_is (symbol w ∷ ts) x h = absurd (cc)
word_is (wrong ∷ ts) x h = absurd (cc)

symbol_less : (s : ℕ) (ts rest : List Token) → symbol_at s ts ≡ Some rest → length rest < length ts
symbol_less s ts rest h = omega (arith, ap length (symbol_is s ts rest h))

as_no_more : {X Y : Type 0} (f : X → Y) (o : Read X) (n : ℕ) → ((x : X × List Token) → o ≡ Some x → length x.1 ≤ n) → (y : Y × List Token) → as_value f o ≡ Some y → length y.1 ≤ n
as_no_more f o n h y e = let x = as_some f o y e in omega (arith, h x.0 x.1, ap length x.3)

pub colon_word_less : Less colon_word_at
unfolding colon_word_at
colon_word_less ts x h =
    let r = bind_some (symbol_at 58 ts) word_at x h in
    omega (arith, symbol_less 58 ts r.0 r.1, ap length (word_is r.0 x r.2))

words_no_more : NoMore words_at
words_no_more ts x h = all_no_more (begins 58) colon_word_at colon_word_less ts x h

pub arg_less : Less arg_at
arg_less [] x h = absurd (cc)
arg_less (text v ∷ ts) x h = omega (arith, ap length (got (quoted v) ts x h).1)
arg_less (word w ∷ ts) x h = omega (arith, as_no_more (worded w) (words_at ts) (length ts) (λ y e. words_no_more ts y e) x h)
arg_less (symbol s ∷ ts) x h = absurd (cc)
arg_less (wrong ∷ ts) x h = absurd (cc)

comma_no_more : (ts : List Token) → length (behind_comma ts) ≤ length ts
comma_no_more [] = omega arith
comma_no_more (word w ∷ ts) = omega arith
comma_no_more (text w ∷ ts) = omega arith
comma_no_more (wrong ∷ ts) = omega arith
comma_no_more (symbol s ∷ ts) = comma_case (s == 44)
  where
    comma_case : (b : Bool) → length (cond b ts (symbol s ∷ ts)) ≤ suc (length ts)
    comma_case true = omega arith
    comma_case false = omega arith

pub next_arg_less : Less next_arg_at
next_arg_less ts x h =
    let y = as_some (with_comma (begins 44 ts)) (arg_at (behind_comma ts)) x h in
    omega (arith, arg_less (behind_comma ts) y.0 y.1, comma_no_more ts, ap length y.3)

next_args_no_more : NoMore next_args_at
next_args_no_more ts x h = all_no_more (until 41) next_arg_at next_arg_less ts x h

abbrev pub some_it : Arg × List Token → Read Args
some_it a = as_value (some_args a.0) (next_args_at a.1)

some_args_no_more : NoMore some_args_at
unfolding some_args_at
some_args_no_more ts x h =
    let a = bind_some (arg_at ts) some_it x h in
    omega (arith, arg_less ts a.0 a.1, as_no_more (some_args a.0.0) (next_args_at a.0.1) (length a.0.1) (λ y e. next_args_no_more a.0.1 y e) x a.2)

args_no_more : NoMore args_at
args_no_more ts x h = elim (chosen (begins 41 ts) (hit no_args ts) (some_args_at ts) (Some x) h) [
  | inl e ↦ omega (arith, ap length (got no_args ts x e.1).1)
  | inr e ↦ some_args_no_more ts x e.1
]

abbrev pub args_end_on : Args × List Token → List Token → Read Args
args_end_on a rest = Some (a.0, rest)

abbrev pub args_end_it : Args × List Token → Read Args
args_end_it a = symbol_at 41 a.1 >>= args_end_on a

pub args_end_less : Less args_end_at
unfolding args_end_at
args_end_less ts x h =
    let a = bind_some (args_at ts) args_end_it x h in
    let r = bind_some (symbol_at 41 a.0.1) (args_end_on a.0) x a.2 in
    omega (arith, args_no_more ts a.0 a.1, symbol_less 41 a.0.1 r.0 r.1, ap length (got a.0.0 r.0 x r.2).1)

with_rest_is : {X : Type 0} (o : Option X) (ts : List Token) (x : X × List Token) → with_rest o ts ≡ Some x → (o ≡ Some x.0) × (ts ≡ x.1)
with_rest_is {X} (Some y) ts x h = let g = got y ts x h in (ap (λ (z : X). Some z) g.0, g.1)
with_rest_is None ts x h = absurd (cc)

pub piece_less : Less piece_at
piece_less [] x h = absurd (cc)
piece_less (word w ∷ ts) x h = omega (arith, ap length (got (a_word w) ts x h).1)
piece_less (symbol s ∷ ts) x h = omega (arith, ap length (with_rest_is (symbol_piece s) ts x h).1)
piece_less (text w ∷ ts) x h = absurd (cc)
piece_less (wrong ∷ ts) x h = absurd (cc)

next_pieces_no_more : NoMore next_pieces_at
next_pieces_no_more ts x h = all_no_more (until 59) piece_at piece_less ts x h

abbrev pub pieces_it : Piece × List Token → Read Value
pieces_it p = as_value (pieces p.0) (next_pieces_at p.1)

pieces_no_more : NoMore pieces_at
unfolding pieces_at
pieces_no_more ts x h =
    let p = bind_some (piece_at ts) pieces_it x h in
    omega (arith, piece_less ts p.0 p.1, as_no_more (pieces p.0.0) (next_pieces_at p.0.1) (length p.0.1) (λ y e. next_pieces_no_more p.0.1 y e) x p.2)

value_no_more : NoMore value_at
value_no_more [] x h = pieces_no_more [] x h
value_no_more (text v ∷ ts) x h = omega (arith, ap length (got (quoted_value v) ts x h).1)
value_no_more (word w ∷ ts) x h = pieces_no_more (word w ∷ ts) x h
value_no_more (symbol w ∷ ts) x h = pieces_no_more (symbol w ∷ ts) x h
value_no_more (wrong ∷ ts) x h = pieces_no_more (wrong ∷ ts) x h

abbrev pub value_end_on : Value × List Token → List Token → Read Value
value_end_on v rest = Some (v.0, rest)

abbrev pub value_end_it : Value × List Token → Read Value
value_end_it v = symbol_at 59 v.1 >>= value_end_on v

pub value_end_less : Less value_end_at
unfolding value_end_at
value_end_less ts x h =
    let v = bind_some (value_at ts) value_end_it x h in
    let r = bind_some (symbol_at 59 v.0.1) (value_end_on v.0) x v.2 in
    omega (arith, value_no_more ts v.0 v.1, symbol_less 59 v.0.1 r.0 r.1, ap length (got v.0.0 r.0 x r.2).1)

-- what stands in front of a mark
pub mark_is : (ts : List Token) (x : Bool × List Token) → bare_mark_at ts ≡ Some x → ts ≡ symbol (cond x.0 40 58) ∷ x.1
mark_is ts x h = elim (chosen (begins 40 ts) (hit true (drop 1 ts)) (cond (begins 58 ts) (hit false (drop 1 ts)) None) (Some x) h) [
  | inl e ↦ let g = got true (drop 1 ts) x e.1 in begins_is 40 ts e.0 ∙ (ap (λ r. symbol 40 ∷ r) g.1 ∙ ap (λ b. symbol (cond b 40 58) ∷ x.1) g.0)
  | inr e ↦ elim (chosen (begins 58 ts) (hit false (drop 1 ts)) None (Some x) e.1) [
    | inl f ↦ let g = got false (drop 1 ts) x f.1 in begins_is 58 ts f.0 ∙ (ap (λ r. symbol 58 ∷ r) g.1 ∙ ap (λ b. symbol (cond b 40 58) ∷ x.1) g.0)
    | inr f ↦ absurd (cc (f.1))
  ]
]

abbrev start_on : List ℕ × List Token → Bool × List Token → Read (List ℕ × Bool)
start_on w m = Some (start_of w.0 m.0, m.1)

abbrev start_it : List ℕ × List Token → Read (List ℕ × Bool)
start_it w = bare_mark_at w.1 >>= start_on w

pub start_is : (ts : List Token) (x : (List ℕ × Bool) × List Token) → start_at ts ≡ Some x → ts ≡ word x.0.0 ∷ symbol (cond x.0.1 40 58) ∷ x.1
unfolding start_at
start_is ts x h =
    let w = bind_some (word_at ts) start_it x h in
    let m = bind_some (bare_mark_at w.0.1) (start_on w.0) x w.2 in
    let g = got (start_of w.0.0 m.0.0) m.0.1 x m.2 in
    word_is ts w.0 w.1 ∙ (ap (λ r. word w.0.0 ∷ r) (mark_is w.0.1 m.0 m.1)
    ∙ (ap (λ (y : List ℕ × Bool). word y.0 ∷ symbol (cond y.1 40 58) ∷ m.0.1) g.0 ∙ ap (λ (r : List Token). word x.0.0 ∷ symbol (cond x.0.1 40 58) ∷ r) g.1))

pub ended_no_more : (ts : List Token) → length (ended ts) ≤ length ts
ended_no_more [] = omega arith
ended_no_more (word w ∷ ts) = omega arith
ended_no_more (text w ∷ ts) = omega arith
ended_no_more (wrong ∷ ts) = omega arith
ended_no_more (symbol s ∷ ts) = end_case (s == 59)
  where
    end_case : (b : Bool) → length (cond b ts (symbol s ∷ ts)) ≤ suc (length ts)
    end_case true = omega arith
    end_case false = omega arith

pub group_is : (n : List ℕ) (xs : Args) (o : Read Statements) (x : Statement × List Token) → group_of n xs o ≡ Some x → (b : Statements × List Token) × (o ≡ Some b) × (x.0 ≡ group n xs b.0 (begins 59 b.1)) × (x.1 ≡ ended b.1)
group_is n xs (Some b) x h = let g = got (group n xs b.0 (begins 59 b.1)) (ended b.1) x h in (b, refl, sym g.0, sym g.1)
group_is n xs None x h = absurd (cc)

pub drop_no_more : (ts : List Token) → length (drop 1 ts) ≤ length ts
drop_no_more [] = omega arith
drop_no_more (t ∷ ts) = omega arith

open_no_more : (body : Body) → NoMore body → (n : List ℕ) (xs : Args) → NoMore (open_at body n xs)
open_no_more body s n xs ts x h = elim (chosen (begins 123 ts) (group_of n xs (body (drop 1 ts))) (hit (complex n xs (begins 59 ts)) (ended ts)) (Some x) h) [
  | inl e ↦ let b = group_is n xs (body (drop 1 ts)) x e.1 in omega (arith, s (drop 1 ts) b.0 b.1, drop_no_more ts, ended_no_more b.0.1, ap length b.3)
  | inr e ↦ omega (arith, ended_no_more ts, ap length (got (complex n xs (begins 59 ts)) (ended ts) x e.1).1)
]

abbrev pub open_it : Body → List ℕ → Args × List Token → Read Statement
open_it body n a = open_at body n a.0 a.1

paren_no_more : (body : Body) → NoMore body → (n : List ℕ) → NoMore (paren_at body n)
unfolding paren_at
paren_no_more body s n ts x h =
    let a = bind_some (args_end_at ts) (open_it body n) x h in
    omega (arith, args_end_less ts a.0 a.1, open_no_more body s n a.0.0 a.0.1 x a.2)

abbrev pub statement_it : Body → (List ℕ × Bool) × List Token → Read Statement
statement_it body st = cond st.0.1 (paren_at body st.0.0 st.1) (simple_at st.0.0 st.1)

pub statement_less : (body : Body) → NoMore body → Less (statement_at body)
unfolding statement_at
statement_less body s ts x h =
    let st = bind_some (start_at ts) (statement_it body) x h in
    elim (chosen st.0.0.1 (paren_at body st.0.0.0 st.0.1) (simple_at st.0.0.0 st.0.1) (Some x) st.2) [
      | inl e ↦ omega (arith, ap length (start_is ts st.0 st.1), paren_no_more body s st.0.0.0 st.0.1 x e.1)
      | inr e ↦ omega (arith, ap length (start_is ts st.0 st.1), as_no_more (simple st.0.0.0) (value_end_at st.0.1) (length st.0.1) (λ y f. omega (arith, value_end_less st.0.1 y f)) x e.1)
    ]

abbrev pub statements_on : List Statement × List Token → List Token → Read Statements
statements_on ss rest = Some (listed ss.0, rest)

abbrev pub statements_it : List Statement × List Token → Read Statements
statements_it ss = symbol_at 125 ss.1 >>= statements_on ss

statements_less : (body : Body) → NoMore body → Less (statements_at body)
unfolding statements_at
statements_less body s ts x h =
    let ss = bind_some (all_at (until 125) (statement_at body) ts) statements_it x h in
    let r = bind_some (symbol_at 125 ss.0.1) (statements_on ss.0) x ss.2 in
    omega (arith, all_no_more (until 125) (statement_at body) (statement_less body s) ts ss.0 ss.1, symbol_less 125 ss.0.1 r.0 r.1, ap length (got (listed ss.0.0) r.0 x r.2).1)

pub body_no_more : (n : ℕ) → NoMore (body_at n)
unfolding body_at
body_no_more zero ts x h = absurd (cc)
body_no_more (suc n) ts x h = let l = statements_less (body_at n) (body_no_more n) ts x h in omega arith
