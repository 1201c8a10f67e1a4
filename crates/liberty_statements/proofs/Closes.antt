-- Groups that are read over without a stack: several of them are open at a place.
use Rattle.std.proofs.Common.{◌≡◌, ◌-◌, ℕ, zero, suc, false, List, ◌∷◌, Option, Some, None, refl, sym, ap, ◌∙◌, subst, arith}
use Rattle.liberty_text.specs.Cuts.{Token, symbol}
use Rattle.liberty_statements.specs.Grammar.{Args, Statement, Statements, group, first}
use Rattle.liberty_statements.specs.Reading.{Read, ◌>>=◌, Fails, behind, begins, ended, group_of, statement_at, statements_at, body_at}
use Rattle.liberty_statements.specs.declared.stop.Stop.{Stop}
use Rattle.liberty_statements.specs.declared.stop.Stop.TheVariants as stops
use Rattle.liberty_statements.proofs.Less.{body_no_more}
use Rattle.liberty_statements.proofs.Many.{behind_as, fails_behind, fails_bind}
use Rattle.liberty_statements.proofs.Steps.{body_is, body_none, statements_go, statements_end, statements_fail, group_none}

abbrev closes_on : (ℕ → List Token → Option (List Token)) → ℕ → List Token → Option (List Token)
closes_on again free r = again (suc free) (ended r)

-- What stands behind the last of some open groups. In the innermost so many further groups may nest.
abbrev pub closes : (groups free : ℕ) → List Token → Option (List Token)
closes zero free ts = Some ts
closes (suc zero) free ts = behind (statements_at (body_at free) ts)
closes (suc (suc m)) free ts = behind (statements_at (body_at free) ts) >>= (λ r. closes (suc m) (suc free) (ended r))

-- what stands behind the innermost group decides
same_inner : (m free : ℕ) (ts us : List Token) → behind (statements_at (body_at free) ts) ≡ behind (statements_at (body_at free) us) → closes (suc m) free ts ≡ closes (suc m) free us
same_inner zero free ts us e = e
same_inner (suc m) free ts us e = ap (λ o. o >>= (λ r. closes (suc m) (suc free) (ended r))) e

inner_fails : (s : Stop) (m free : ℕ) (ts : List Token) → Fails s (behind (statements_at (body_at free) ts)) → Fails s (closes (suc m) free ts)
inner_fails s zero free ts h = h
inner_fails s (suc m) free ts h = fails_bind s (behind (statements_at (body_at free) ts)) (λ r. closes (suc m) (suc free) (ended r)) h

-- one group is open at first
pub closes_first : (n m : ℕ) (ts : List Token) → n ≡ suc m → closes (n - m) m ts ≡ behind (body_at n ts)
closes_first n m ts e = let one : n - m ≡ 1 = omega arith in ap (λ i. closes i m ts) one ∙ ap behind (sym (body_is n m ts e))

-- over a statement of the innermost group
pub closes_over : (k m free : ℕ) (ts r : List Token) (s : Statement) → k ≡ suc m → begins 125 ts ≡ false → statement_at (body_at free) ts ≡ Some (s, r) → closes k free ts ≡ closes k free r
closes_over k m free ts r s i h e =
    ap (λ j. closes j free ts) i
    ∙ (same_inner m free ts r (ap behind (statements_go (body_at free) (body_no_more free) ts r s h e) ∙ behind_as (first s) (statements_at (body_at free) r))
    ∙ ap (λ j. closes j free r) (sym i))

pub closes_fails : (t : Stop) (k m free : ℕ) (ts : List Token) → k ≡ suc m → begins 125 ts ≡ false → Fails t (statement_at (body_at free) ts) → Fails t (closes k free ts)
closes_fails t k m free ts i h e =
    subst (λ j. Fails t (closes j free ts)) (sym i)
    (inner_fails t m free ts (fails_behind t (statements_at (body_at free) ts) (statements_fail t (body_at free) (body_no_more free) ts h e)))

-- the end of the innermost group, and of the last
pub closes_last : (k free : ℕ) (ts r : List Token) → k ≡ 1 → ts ≡ symbol 125 ∷ r → closes k free ts ≡ Some r
closes_last k free ts r i e = ap (λ j. closes j free ts) i ∙ ap behind (statements_end (body_at free) (body_no_more free) ts r e)

pub closes_one : (k m free : ℕ) (ts r : List Token) → k ≡ suc (suc m) → ts ≡ symbol 125 ∷ r → closes k free ts ≡ closes (suc m) (suc free) (ended r)
closes_one k m free ts r i e =
    ap (λ j. closes j free ts) i
    ∙ ap (λ o. behind o >>= (λ u. closes (suc m) (suc free) (ended u))) (statements_end (body_at free) (body_no_more free) ts r e)

-- a further group
open_case : (m f : ℕ) (ts d : List Token) (n : List ℕ) (xs : Args) → begins 125 ts ≡ false → statement_at (body_at (suc f)) ts ≡ group_of n xs (body_at (suc f) d) → (o : Read Statements) → statements_at (body_at f) d ≡ o → closes (suc m) (suc f) ts ≡ closes (suc (suc m)) f d
open_case m f ts d n xs h e None k =
    let none_read : statement_at (body_at (suc f)) ts ≡ None = e ∙ ap (group_of n xs) (body_is (suc f) f d refl ∙ k) in
    none_same m (closes (suc m) (suc f) ts) (inner_fails (stops.Wrong 0) m (suc f) ts (ap behind (statements_fail (stops.Wrong 0) (body_at (suc f)) (body_no_more (suc f)) ts h none_read)))
    ∙ sym (ap (λ o. behind o >>= (λ r. closes (suc m) (suc f) (ended r))) k)
  where
    none_same : (m : ℕ) (o : Option (List Token)) → o ≡ None → o ≡ None
    none_same m o h = h
open_case m f ts d n xs h e (Some b) k =
    let read : statement_at (body_at (suc f)) ts ≡ Some (group n xs b.0 (begins 59 b.1), ended b.1) = e ∙ ap (group_of n xs) (body_is (suc f) f d refl ∙ k) in
    same_inner m (suc f) ts (ended b.1) (ap behind (statements_go (body_at (suc f)) (body_no_more (suc f)) ts (ended b.1) (group n xs b.0 (begins 59 b.1)) h read) ∙ behind_as (first (group n xs b.0 (begins 59 b.1))) (statements_at (body_at (suc f)) (ended b.1)))
    ∙ sym (ap (λ o. behind o >>= (λ r. closes (suc m) (suc f) (ended r))) k)

pub closes_open : (k m free f : ℕ) (ts d : List Token) (n : List ℕ) (xs : Args) → k ≡ suc m → free ≡ suc f → begins 125 ts ≡ false → statement_at (body_at free) ts ≡ group_of n xs (body_at free d) → closes k free ts ≡ closes (suc k) f d
closes_open k m free f ts d n xs i j h e =
    ap (λ a. closes a free ts) i
    ∙ (ap (λ a. closes (suc m) a ts) j
    ∙ (open_case m f ts d n xs h (let P : ℕ → Type 0 = λ a. statement_at (body_at a) ts ≡ group_of n xs (body_at a d) in subst P j e) (statements_at (body_at f) d) refl
    ∙ ap (λ a. closes (suc a) f d) (sym i)))

-- a group where none may open
pub closes_deep : (t : Stop) (k m free : ℕ) (ts d : List Token) (n : List ℕ) (xs : Args) → k ≡ suc m → free ≡ 0 → begins 125 ts ≡ false → statement_at (body_at free) ts ≡ group_of n xs (body_at free d) → Fails t (closes k free ts)
closes_deep t k m free ts d n xs i j h e =
    closes_fails t k m free ts i h (subst (Fails t) (sym e) (group_none t n xs (body_at free d) (none_fails t (body_at free d) (body_none free d j))))
  where
    none_fails : (t : Stop) (o : Read Statements) → o ≡ None → Fails t o
    none_fails stops.Memory o h = tt
    none_fails (stops.Wrong left) o h = h
