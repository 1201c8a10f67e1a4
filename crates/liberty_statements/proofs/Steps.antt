-- Statements, step by step.
use Rattle.std.proofs.Common.{◌≡◌, ℕ, suc, Bool, true, false, not, cond, List, ◌∷◌, drop, Option, Some, None, refl, sym, ap, ◌∙◌, subst}
use Rattle.liberty_text.specs.Cuts.{Token, symbol}
use Rattle.liberty_statements.specs.Grammar.{Args, Statement, Statements, complex, simple, none, first}
use Rattle.liberty_statements.specs.Reading.{Read, ◌>>=◌, Fails, as_value, begins, symbol_at, until, all_at, ended, args_end_at, start_at, value_end_at, Body, group_of, open_at, paren_at, simple_at, statement_at, statements_at, body_at}
use Rattle.liberty_statements.specs.declared.stop.Stop.{Stop}
use Rattle.liberty_statements.specs.declared.stop.Stop.TheVariants as stops
use Rattle.liberty_statements.proofs.Less.{open_it, statement_it, statements_on, statements_it, statement_less}
use Rattle.liberty_statements.proofs.Many.{NoMore, hit, all_off, all_go, all_fails, fails_bind}

pub body_is : (n m : ℕ) (ts : List Token) → n ≡ suc m → body_at n ts ≡ statements_at (body_at m) ts
unfolding body_at
body_is n m ts e = ap (λ i. body_at i ts) e

pub body_none : (n : ℕ) (ts : List Token) → n ≡ 0 → body_at n ts ≡ None
unfolding body_at
body_none n ts e = ap (λ i. body_at i ts) e

-- a statement and what stands behind it
pub statement_is : (body : Body) (ts : List Token) (st : (List ℕ × Bool) × List Token) → start_at ts ≡ Some st → statement_at body ts ≡ cond st.0.1 (paren_at body st.0.0 st.1) (simple_at st.0.0 st.1)
unfolding statement_at
statement_is body ts st h = ap (λ o. o >>= statement_it body) h

pub start_fails : (s : Stop) (body : Body) (ts : List Token) → Fails s (start_at ts) → Fails s (statement_at body ts)
unfolding statement_at
start_fails s body ts h = fails_bind s (start_at ts) (statement_it body) h

pub simple_step : (body : Body) (ts b : List Token) (n : List ℕ) → start_at ts ≡ Some ((n, false), b) → statement_at body ts ≡ as_value (simple n) (value_end_at b)
simple_step body ts b n h = statement_is body ts ((n, false), b) h

paren_is : (body : Body) (n : List ℕ) (b : List Token) (a : Args × List Token) → args_end_at b ≡ Some a → paren_at body n b ≡ open_at body n a.0 a.1
unfolding paren_at
paren_is body n b a h = ap (λ o. o >>= open_it body n) h

pub args_fail : (s : Stop) (body : Body) (ts b : List Token) (n : List ℕ) → start_at ts ≡ Some ((n, true), b) → Fails s (args_end_at b) → Fails s (statement_at body ts)
unfolding paren_at
args_fail s body ts b n h k = subst (Fails s) (sym (statement_is body ts ((n, true), b) h)) (fails_bind s (args_end_at b) (open_it body n) k)

pub paren_step : (body : Body) (ts b c : List Token) (n : List ℕ) (xs : Args) → start_at ts ≡ Some ((n, true), b) → args_end_at b ≡ Some (xs, c) → statement_at body ts ≡ open_at body n xs c
paren_step body ts b c n xs h k = statement_is body ts ((n, true), b) h ∙ paren_is body n b (xs, c) k

pub complex_step : (body : Body) (ts b c : List Token) (n : List ℕ) (xs : Args) → start_at ts ≡ Some ((n, true), b) → args_end_at b ≡ Some (xs, c) → begins 123 c ≡ false → statement_at body ts ≡ Some (complex n xs (begins 59 c), ended c)
complex_step body ts b c n xs h k e =
    paren_step body ts b c n xs h k ∙ ap (λ q. cond q (group_of n xs (body (drop 1 c))) (hit (complex n xs (begins 59 c)) (ended c))) e

pub group_step : (body : Body) (ts b c d : List Token) (n : List ℕ) (xs : Args) → start_at ts ≡ Some ((n, true), b) → args_end_at b ≡ Some (xs, c) → c ≡ symbol 123 ∷ d → statement_at body ts ≡ group_of n xs (body d)
group_step body ts b c d n xs h k e = paren_step body ts b c n xs h k ∙ ap (open_at body n xs) e

pub group_none : (s : Stop) (n : List ℕ) (xs : Args) (o : Read Statements) → Fails s o → Fails s (group_of n xs o)
group_none stops.Memory n xs o h = tt
group_none (stops.Wrong left) n xs o h = ap (group_of n xs) h

-- statements up to `}`
statements_is : (body : Body) (ts : List Token) → statements_at body ts ≡ all_at (until 125) (statement_at body) ts >>= statements_it
unfolding statements_at
statements_is body ts = refl

pub statements_go : (body : Body) → NoMore body → (ts r : List Token) (s : Statement) → begins 125 ts ≡ false → statement_at body ts ≡ Some (s, r) → statements_at body ts ≡ as_value (first s) (statements_at body r)
statements_go body l ts r s h k =
    statements_is body ts
    ∙ (ap (λ o. o >>= statements_it) (all_go (until 125) (statement_at body) (statement_less body l) ts (s, r) (ap not h) k)
    ∙ (one_more (all_at (until 125) (statement_at body) r) ∙ ap (as_value (first s)) (sym (statements_is body r))))
  where
    closed : (ss : List Statement) (o : Option (List Token)) → o >>= statements_on (s ∷ ss, r) ≡ as_value (first s) (o >>= statements_on (ss, r))
    closed ss (Some rest) = refl
    closed ss None = refl

    one_more : (o : Read (List Statement)) → as_value (λ xs. s ∷ xs) o >>= statements_it ≡ as_value (first s) (o >>= statements_it)
    one_more (Some ss) = closed ss.0 (symbol_at 125 ss.1)
    one_more None = refl

pub statements_end : (body : Body) → NoMore body → (ts r : List Token) → ts ≡ symbol 125 ∷ r → statements_at body ts ≡ Some (none, r)
statements_end body l ts r e =
    ap (statements_at body) e
    ∙ (statements_is body (symbol 125 ∷ r) ∙ ap (λ o. o >>= statements_it) (all_off (until 125) (statement_at body) (statement_less body l) (symbol 125 ∷ r) refl))

pub statements_fail : (s : Stop) (body : Body) → NoMore body → (ts : List Token) → begins 125 ts ≡ false → Fails s (statement_at body ts) → Fails s (statements_at body ts)
statements_fail s body l ts h k =
    subst (Fails s) (sym (statements_is body ts)) (fails_bind s (all_at (until 125) (statement_at body) ts) statements_it (all_fails s (until 125) (statement_at body) (statement_less body l) ts (ap not h) k))
