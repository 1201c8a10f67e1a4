-- Statements that are read over.
use Rattle.std.proofs.Common.{◌≡◌, ◌≤◌, ◌<◌, ℕ, Bool, true, false, cond, List, length, drop, Option, Some, None, refl, sym, ap, ◌∙◌, subst, inl, inr, arith}
use Rattle.liberty_text.specs.Cuts.{Token}
use Rattle.liberty_text.proofs.Runs.{chosen}
use Rattle.liberty_statements.specs.Grammar.{Args, Statement, simple, complex}
use Rattle.liberty_statements.specs.Reading.{Read, ◌>>=◌, behind, as_value, begins, ended, args_end_at, start_at, value_end_at, Body, group_of, statement_at, open_head, over_value, over_args, head_at}
use Rattle.liberty_statements.specs.declared.stop.Stop.{Stop}
use Rattle.liberty_statements.specs.Reading.{Fails}
use Rattle.liberty_statements.specs.declared.stop.Stop.TheVariants as stops
use Rattle.liberty_statements.proofs.Less.{begins_is, start_is, args_end_less, value_end_less, ended_no_more, drop_no_more}
use Rattle.liberty_statements.proofs.Many.{bind_some, hit, got, behind_some, behind_none}
use Rattle.liberty_statements.proofs.Steps.{start_fails, simple_step, args_fail, complex_step, group_step}

abbrev head_it : (List ℕ × Bool) × List Token → Read Bool
head_it st = cond st.0.1 (over_args st.1) (over_value st.1)

abbrev value_it : List Token → Read Bool
value_it r = Some (false, r)

-- what a head says of a statement
abbrev pub Says : Body → List Token → Bool × List Token → Type 0
Says body ts (false, r) = (s : Statement) × (statement_at body ts ≡ Some (s, r))
Says body ts (true, d) = (n : List ℕ) × (xs : Args) × (statement_at body ts ≡ group_of n xs (body d))

says_moved : (body : Body) (ts : List Token) (y : Bool × List Token) (b : Bool) (r : List Token) → Says body ts (b, r) → hit b r ≡ Some y → Says body ts y
says_moved body ts y b r h e =
    let a : Bool × List Token = (b, r) in
    let same : a ≡ y = cc in
    subst (λ (c : Bool × List Token). Says body ts c) same h

value_says : (body : Body) (ts : List Token) (n : List ℕ) (b : List Token) (y : Bool × List Token) → start_at ts ≡ Some ((n, false), b) → over_value b ≡ Some y → Says body ts y
value_says body ts n b y h e =
    let r = bind_some (behind (value_end_at b)) value_it y e in
    let v = behind_some (value_end_at b) r.0 r.1 in
    says_moved body ts y false r.0 (simple n v.0, simple_step body ts b n h ∙ ap (as_value (simple n)) v.1) r.2

args_say : (body : Body) (ts : List Token) (n : List ℕ) (b : List Token) (y : Bool × List Token) → start_at ts ≡ Some ((n, true), b) → over_args b ≡ Some y → Says body ts y
args_say body ts n b y h e =
    let c = bind_some (behind (args_end_at b)) open_head y e in
    let a = behind_some (args_end_at b) c.0 c.1 in
    elim (chosen (begins 123 c.0) (hit true (drop 1 c.0)) (hit false (ended c.0)) (Some y) c.2) [
      | inl f ↦ says_moved body ts y true (drop 1 c.0) (n, a.0, group_step body ts b c.0 (drop 1 c.0) n a.0 h a.1 (begins_is 123 c.0 f.0)) f.1
      | inr f ↦ says_moved body ts y false (ended c.0) (complex n a.0 (begins 59 c.0), complex_step body ts b c.0 n a.0 h a.1 f.0) f.1
    ]

says_case : (body : Body) (ts : List Token) (n : List ℕ) (o : Bool) (b : List Token) (y : Bool × List Token) → start_at ts ≡ Some ((n, o), b) → cond o (over_args b) (over_value b) ≡ Some y → Says body ts y
says_case body ts n true b y h e = args_say body ts n b y h e
says_case body ts n false b y h e = value_says body ts n b y h e

pub head_says : (body : Body) (ts : List Token) (y : Bool × List Token) → head_at ts ≡ Some y → Says body ts y
unfolding head_at
head_says body ts y h = let st = bind_some (start_at ts) head_it y h in says_case body ts st.0.0.0 st.0.0.1 st.0.1 y st.1 st.2

-- a head takes tokens
over_value_less : (b : List Token) (y : Bool × List Token) → over_value b ≡ Some y → length y.1 < length b
over_value_less b y e =
    let r = bind_some (behind (value_end_at b)) value_it y e in
    let v = behind_some (value_end_at b) r.0 r.1 in
    omega (arith, value_end_less b (v.0, r.0) v.1, ap length (got false r.0 y r.2).1)

ended_length : (ts : List Token) → length (ended ts) ≤ length ts
ended_length ts = ended_no_more ts

drop_length : (ts : List Token) → length (drop 1 ts) ≤ length ts
drop_length ts = drop_no_more ts

over_args_less : (b : List Token) (y : Bool × List Token) → over_args b ≡ Some y → length y.1 < length b
over_args_less b y e =
    let c = bind_some (behind (args_end_at b)) open_head y e in
    let a = behind_some (args_end_at b) c.0 c.1 in
    let less = args_end_less b (a.0, c.0) a.1 in
    elim (chosen (begins 123 c.0) (hit true (drop 1 c.0)) (hit false (ended c.0)) (Some y) c.2) [
      | inl f ↦ omega (arith, less, drop_length c.0, ap length (got true (drop 1 c.0) y f.1).1)
      | inr f ↦ omega (arith, less, ended_length c.0, ap length (got false (ended c.0) y f.1).1)
    ]

pub head_less : (ts : List Token) (y : Bool × List Token) → head_at ts ≡ Some y → length y.1 < length ts
unfolding head_at
head_less ts y h =
    let st = bind_some (start_at ts) head_it y h in
    elim (chosen st.0.0.1 (over_args st.0.1) (over_value st.0.1) (Some y) st.2) [
      | inl f ↦ omega (arith, ap length (start_is ts st.0 st.1), over_args_less st.0.1 y f.1)
      | inr f ↦ omega (arith, ap length (start_is ts st.0 st.1), over_value_less st.0.1 y f.1)
    ]

-- where no head is read there is no statement
value_none : (b : List Token) → over_value b ≡ None → value_end_at b ≡ None
value_none b h = none_of (behind (value_end_at b)) refl h
  where
    none_of : (o : Option (List Token)) → behind (value_end_at b) ≡ o → o >>= value_it ≡ None → value_end_at b ≡ None
    none_of None e k = behind_none (value_end_at b) e
    none_of (Some r) e k = absurd (cc)

args_none : (b : List Token) → over_args b ≡ None → args_end_at b ≡ None
args_none b h = none_of (behind (args_end_at b)) refl h
  where
    open_some : (r : List Token) (q : Bool) → cond q (hit true (drop 1 r)) (hit false (ended r)) ≡ None → ⊥
    open_some r true k = cc
    open_some r false k = cc

    none_of : (o : Option (List Token)) → behind (args_end_at b) ≡ o → o >>= open_head ≡ None → args_end_at b ≡ None
    none_of None e k = behind_none (args_end_at b) e
    none_of (Some r) e k = absurd (open_some r (begins 123 r) k)

case_none : (body : Body) (ts : List Token) (n : List ℕ) (o : Bool) (b : List Token) → start_at ts ≡ Some ((n, o), b) → cond o (over_args b) (over_value b) ≡ None → statement_at body ts ≡ None
case_none body ts n true b h e = args_fail (stops.Wrong 0) body ts b n h (args_none b e)
case_none body ts n false b h e = simple_step body ts b n h ∙ ap (as_value (simple n)) (value_none b e)

head_none : (body : Body) (ts : List Token) → head_at ts ≡ None → (o : Read (List ℕ × Bool)) → start_at ts ≡ o → statement_at body ts ≡ None
unfolding head_at
head_none body ts h None e = start_fails (stops.Wrong 0) body ts e
head_none body ts h (Some st) e = case_none body ts st.0.0 st.0.1 st.1 e (ap (λ p. p >>= head_it) (sym e) ∙ h)

pub head_fails : (s : Stop) (body : Body) (ts : List Token) → Fails s (head_at ts) → Fails s (statement_at body ts)
head_fails stops.Memory body ts h = tt
head_fails (stops.Wrong left) body ts h = head_none body ts h (start_at ts) refl
