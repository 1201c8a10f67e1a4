-- What stands behind `(`.
use Rattle.std.proofs.Common.{◌≡◌, ℕ, Bool, true, false, cond, inl, inr, List, [], drop, Some, None, refl, sym, ap, ◌∙◌}
use Rattle.liberty_text.specs.Cuts.{Token}
use Rattle.liberty_statements.specs.Grammar.{Args, Value, Statement, Statements, group, complex, simple}
use Rattle.liberty_statements.specs.Reading.{Read, ◌>>=◌, Fails, behind, as_value, begins, symbol_at, ended, args_end_at, start_at, value_end_at, Body, group_of, open_at, paren_at, statement_at, body_at}
use Rattle.liberty_statements.specs.declared.stop.Stop.{Stop}
use Rattle.liberty_statements.specs.declared.stop.Stop.TheVariants as stops
use Rattle.liberty_text.proofs.Runs.{chosen}
use Rattle.cell_library.specs.Steps.{over_open}
use Rattle.liberty_statements.proofs.Less.{open_it, group_is, symbol_is}
use Rattle.liberty_statements.proofs.Many.{hit, got, bind_some, behind_some, behind_none, fails_bind, fails_as, fails_behind, fails_of_behind, fails_moved, as_twice}
use Rattle.liberty_statements.proofs.Steps.{statement_is, start_fails, simple_step}

-- the name makes no difference to what stands behind
group_behind : (n m : List ℕ) (xs : Args) (o : Read Statements) → behind (group_of n xs o) ≡ behind (group_of m xs o)
group_behind n m xs (Some b) = refl
group_behind n m xs None = refl

open_behind : (body : Body) (n m : List ℕ) (xs : Args) (ts : List Token) (b : Bool) → begins 123 ts ≡ b → behind (open_at body n xs ts) ≡ behind (open_at body m xs ts)
open_behind body n m xs ts true e =
    ap (λ q. behind (cond q (group_of n xs (body (drop 1 ts))) (hit (complex n xs (begins 59 ts)) (ended ts)))) e
    ∙ (group_behind n m xs (body (drop 1 ts)) ∙ sym (ap (λ q. behind (cond q (group_of m xs (body (drop 1 ts))) (hit (complex m xs (begins 59 ts)) (ended ts)))) e))
open_behind body n m xs ts false e =
    ap (λ q. behind (cond q (group_of n xs (body (drop 1 ts))) (hit (complex n xs (begins 59 ts)) (ended ts)))) e
    ∙ sym (ap (λ q. behind (cond q (group_of m xs (body (drop 1 ts))) (hit (complex m xs (begins 59 ts)) (ended ts)))) e)

bind_behind : (body : Body) (n m : List ℕ) (o : Read Args) → behind (o >>= open_it body n) ≡ behind (o >>= open_it body m)
bind_behind body n m (Some a) = open_behind body n m a.0 a.1 (begins 123 a.1) refl
bind_behind body n m None = refl

pub paren_behind : (body : Body) (n m : List ℕ) (ts : List Token) → behind (paren_at body n ts) ≡ behind (paren_at body m ts)
unfolding paren_at
paren_behind body n m ts = bind_behind body n m (args_end_at ts)

-- a group or a complex attribute that is read over
over_args : (d : ℕ) (ts c : List Token) → behind (args_end_at ts) ≡ Some c → (xs : Args) × (args_end_at ts ≡ Some (xs, c)) × (over_open d ts ≡ behind (open_at (body_at d) [] xs c))
unfolding paren_at
over_args d ts c h = let a = behind_some (args_end_at ts) c h in (a.0, a.1, ap (λ o. behind (o >>= open_it (body_at d) [])) a.1)

pub over_args_fail : (s : Stop) (d : ℕ) (ts : List Token) → Fails s (behind (args_end_at ts)) → Fails s (over_open d ts)
unfolding paren_at
over_args_fail s d ts h = fails_behind s (paren_at (body_at d) [] ts) (fails_bind s (args_end_at ts) (open_it (body_at d) []) (fails_of_behind s (args_end_at ts) h))

open_true : (d : ℕ) (xs : Args) (c i : List Token) → begins 123 c ≡ true → symbol_at 123 c ≡ Some i → open_at (body_at d) [] xs c ≡ group_of [] xs (body_at d i)
open_true d xs c i e k = ap (open_at (body_at d) [] xs) (symbol_is 123 c i k)

group_over : (xs : Args) (o : Read Statements) (r : List Token) → behind o ≡ Some r → behind (group_of [] xs o) ≡ Some (ended r)
group_over xs o r h = let b = behind_some o r h in ap (λ p. behind (group_of [] xs p)) b.1

group_fails : (s : Stop) (xs : Args) (o : Read Statements) → Fails s (behind o) → Fails s (behind (group_of [] xs o))
group_fails stops.Memory xs o h = tt
group_fails (stops.Wrong left) xs o h = ap (λ p. behind (group_of [] xs p)) (behind_none o h)

pub over_group : (d : ℕ) (ts c i r : List Token) → behind (args_end_at ts) ≡ Some c → begins 123 c ≡ true → symbol_at 123 c ≡ Some i → behind (body_at d i) ≡ Some r → over_open d ts ≡ Some (ended r)
over_group d ts c i r h e k b = let a = over_args d ts c h in a.2 ∙ (ap behind (open_true d a.0 c i e k) ∙ group_over a.0 (body_at d i) r b)

pub over_group_fails : (s : Stop) (d : ℕ) (ts c i : List Token) → behind (args_end_at ts) ≡ Some c → begins 123 c ≡ true → symbol_at 123 c ≡ Some i → Fails s (behind (body_at d i)) → Fails s (over_open d ts)
over_group_fails s d ts c i h e k b =
    let a = over_args d ts c h in
    fails_moved s (behind (group_of [] a.0 (body_at d i))) (over_open d ts) (sym (a.2 ∙ ap behind (open_true d a.0 c i e k))) (group_fails s a.0 (body_at d i) b)

pub over_complex : (d : ℕ) (ts c : List Token) → behind (args_end_at ts) ≡ Some c → begins 123 c ≡ false → over_open d ts ≡ Some (ended c)
over_complex d ts c h e =
    let a = over_args d ts c h in
    a.2 ∙ ap (λ q. behind (cond q (group_of [] a.0 (body_at d (drop 1 c))) (hit (complex [] a.0 (begins 59 c)) (ended c)))) e

-- a statement that is read over keeps what was kept
abbrev Kept : {A : Type 0} → (Statement → A) → A → Statement → Type 0
Kept f a s = f s ≡ a

open_kept_case : {A : Type 0} (f : Statement → A) (a : A) (body : Body) (n : List ℕ) → ((xs : Args) (ss : Statements) (e : Bool) → f (group n xs ss e) ≡ a) → ((xs : Args) (e : Bool) → f (complex n xs e) ≡ a)
    → (xs : Args) (c : List Token) (x : Statement × List Token) → open_at body n xs c ≡ Some x → f x.0 ≡ a
open_kept_case f a body n g k xs c x h = elim (chosen (begins 123 c) (group_of n xs (body (drop 1 c))) (hit (complex n xs (begins 59 c)) (ended c)) (Some x) h) [
  | inl e ↦ let b = group_is n xs (body (drop 1 c)) x e.1 in ap f b.2 ∙ g xs b.0.0 (begins 59 b.0.1)
  | inr e ↦ ap f (sym (got (complex n xs (begins 59 c)) (ended c) x e.1).0) ∙ k xs (begins 59 c)
]

paren_kept : {A : Type 0} (f : Statement → A) (a : A) (body : Body) (n : List ℕ) → ((xs : Args) (ss : Statements) (e : Bool) → f (group n xs ss e) ≡ a) → ((xs : Args) (e : Bool) → f (complex n xs e) ≡ a)
    → (b : List Token) (x : Statement × List Token) → paren_at body n b ≡ Some x → f x.0 ≡ a
unfolding paren_at
paren_kept f a body n g k b x h = let y = bind_some (args_end_at b) (open_it body n) x h in open_kept_case f a body n g k y.0.0 y.0.1 x y.2

pub open_kept : {A : Type 0} (f : Statement → A) (a : A) (d : ℕ) (ts b r : List Token) (n : List ℕ) (o : Bool) → ((xs : Args) (ss : Statements) (e : Bool) → f (group n xs ss e) ≡ a) → ((xs : Args) (e : Bool) → f (complex n xs e) ≡ a)
    → start_at ts ≡ Some ((n, o), b) → o ≡ true → over_open d b ≡ Some r → as_value f (statement_at (body_at d) ts) ≡ Some (a, r)
open_kept {A} f a d ts b r n o g k h e v =
    let start : start_at ts ≡ Some ((n, true), b) = h ∙ ap (λ q. hit (name_and n q) b) e in
    let s = behind_some (paren_at (body_at d) n b) r (paren_behind (body_at d) n [] b ∙ v) in
    ap (as_value f) (statement_is (body_at d) ts ((n, true), b) start ∙ s.1)
    ∙ ap (λ (c : A). hit c r) (paren_kept f a (body_at d) n g k b (s.0, r) s.1)
  where
    name_and : List ℕ → Bool → List ℕ × Bool
    name_and n q = (n, q)

pub open_fails : {A : Type 0} (s : Stop) (f : Statement → A) (d : ℕ) (ts b : List Token) (n : List ℕ) (o : Bool) → start_at ts ≡ Some ((n, o), b) → o ≡ true → Fails s (over_open d b) → Fails s (as_value f (statement_at (body_at d) ts))
open_fails s f d ts b n o h e v =
    let start : start_at ts ≡ Some ((n, true), b) = h ∙ ap (λ q. hit (name_and n q) b) e in
    fails_as s f (statement_at (body_at d) ts)
    (fails_moved s (paren_at (body_at d) n b) (statement_at (body_at d) ts) (sym (statement_is (body_at d) ts ((n, true), b) start))
    (fails_of_behind s (paren_at (body_at d) n b) (fails_moved s (over_open d b) (behind (paren_at (body_at d) n b)) (paren_behind (body_at d) [] n b) v)))
  where
    name_and : List ℕ → Bool → List ℕ × Bool
    name_and n q = (n, q)

pub simple_kept : {A : Type 0} (f : Statement → A) (d : ℕ) (ts b : List Token) (n : List ℕ) (o : Bool) → start_at ts ≡ Some ((n, o), b) → o ≡ false → as_value f (statement_at (body_at d) ts) ≡ as_value (λ v. f (simple n v)) (value_end_at b)
simple_kept f d ts b n o h e =
    let start : start_at ts ≡ Some ((n, false), b) = h ∙ ap (λ q. hit (name_and n q) b) e in
    ap (as_value f) (simple_step (body_at d) ts b n start) ∙ as_twice f (simple n) (value_end_at b)
  where
    name_and : List ℕ → Bool → List ℕ × Bool
    name_and n q = (n, q)

pub start_kept_fails : {A : Type 0} (s : Stop) (f : Statement → A) (d : ℕ) (ts : List Token) → Fails s (start_at ts) → Fails s (as_value f (statement_at (body_at d) ts))
start_kept_fails s f d ts h = fails_as s f (statement_at (body_at d) ts) (start_fails s (body_at d) ts h)

-- a simple attribute that is read over
pub value_kept : {A : Type 0} (f : Statement → A) (a : A) (d : ℕ) (ts b r : List Token) (n : List ℕ) (o : Bool) → ((v : Value) → f (simple n v) ≡ a) → start_at ts ≡ Some ((n, o), b) → o ≡ false → behind (value_end_at b) ≡ Some r → as_value f (statement_at (body_at d) ts) ≡ Some (a, r)
value_kept {A} f a d ts b r n o k h e v =
    let x = behind_some (value_end_at b) r v in
    simple_kept f d ts b n o h e ∙ (ap (as_value (λ w. f (simple n w))) x.1 ∙ ap (λ (c : A). hit c r) (k x.0))

pub value_fails : {A : Type 0} (s : Stop) (f : Statement → A) (d : ℕ) (ts b : List Token) (n : List ℕ) (o : Bool) → start_at ts ≡ Some ((n, o), b) → o ≡ false → Fails s (behind (value_end_at b)) → Fails s (as_value f (statement_at (body_at d) ts))
value_fails s f d ts b n o h e v =
    fails_moved s (as_value (λ w. f (simple n w)) (value_end_at b)) (as_value f (statement_at (body_at d) ts)) (sym (simple_kept f d ts b n o h e))
    (fails_as s (λ w. f (simple n w)) (value_end_at b) (fails_of_behind s (value_end_at b) v))
