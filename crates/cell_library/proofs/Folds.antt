-- Folds over the statements of a group.
use Rattle.std.proofs.Common.{◌≡◌, ◌<◌, ℕ, false, List, length, Some, sym, ap, ◌∙◌, arith}
use Rattle.liberty_text.specs.Cuts.{Token}
use Rattle.liberty_statements.specs.Grammar.{Statement, Statements, first}
use Rattle.liberty_statements.specs.Reading.{Fails, as_value, begins, symbol_at, statement_at, statements_at, body_at}
use Rattle.liberty_statements.specs.declared.stop.Stop.{Stop}
use Rattle.liberty_statements.proofs.Less.{symbol_is, statement_less, body_no_more}
use Rattle.liberty_statements.proofs.Many.{as_some, as_twice, hit, fails_as, fails_of_as, fails_moved}
use Rattle.liberty_statements.proofs.Steps.{statements_go, statements_end, statements_fail}
use Rattle.cell_library.specs.Steps.{fold_all}

-- a statement that is read, by what is kept of it
pub kept_less : {A : Type 0} (d : ℕ) (more : Statement → A) (ts : List Token) (y : A × List Token) → as_value more (statement_at (body_at d) ts) ≡ Some y → length y.1 < length ts
kept_less d more ts y h =
    let x = as_some more (statement_at (body_at d) ts) y h in
    omega (arith, statement_less (body_at d) (body_no_more d) ts x.0 x.1, ap length x.3)

-- one turn of a loop over statements
pub fold_go : {A : Type 0} (d : ℕ) (more : A → Statement → A) (a b : A) (ts r : List Token) → begins 125 ts ≡ false → as_value (more a) (statement_at (body_at d) ts) ≡ Some (b, r)
    → as_value (fold_all more b) (statements_at (body_at d) r) ≡ as_value (fold_all more a) (statements_at (body_at d) ts)
fold_go {A} d more a b ts r h e =
    let x = as_some (more a) (statement_at (body_at d) ts) (b, r) e in
    let read : statement_at (body_at d) ts ≡ Some (x.0.0, r) = x.1 ∙ ap (λ (q : List Token). hit x.0.0 q) x.3 in
    ap (λ (c : A). as_value (fold_all more c) (statements_at (body_at d) r)) (sym x.2)
    ∙ sym (ap (as_value (fold_all more a)) (statements_go (body_at d) (body_no_more d) ts r x.0.0 h read) ∙ as_twice (fold_all more a) (first x.0.0) (statements_at (body_at d) r))

pub fold_fails : {A B : Type 0} (s : Stop) (d : ℕ) (more : Statement → B) (whole : Statements → A) (ts : List Token) → begins 125 ts ≡ false → Fails s (as_value more (statement_at (body_at d) ts)) → Fails s (as_value whole (statements_at (body_at d) ts))
fold_fails s d more whole ts h e =
    fails_as s whole (statements_at (body_at d) ts) (statements_fail s (body_at d) (body_no_more d) ts h (fails_of_as s more (statement_at (body_at d) ts) e))

pub fold_end : {A : Type 0} (d : ℕ) (more : A → Statement → A) (a : A) (ts r : List Token) → symbol_at 125 ts ≡ Some r → as_value (fold_all more a) (statements_at (body_at d) ts) ≡ Some (a, r)
fold_end d more a ts r e = ap (as_value (fold_all more a)) (statements_end (body_at d) (body_no_more d) ts r (symbol_is 125 ts r e))

pub whole_fails : {A B : Type 0} (s : Stop) (d : ℕ) (f g : Statements → A) (h : Statements → B) (ts us : List Token) → as_value f (statements_at (body_at d) ts) ≡ as_value g (statements_at (body_at d) us) → Fails s (as_value f (statements_at (body_at d) ts)) → Fails s (as_value h (statements_at (body_at d) us))
whole_fails s d f g h ts us e k =
    fails_as s h (statements_at (body_at d) us) (fails_of_as s g (statements_at (body_at d) us) (fails_moved s (as_value f (statements_at (body_at d) ts)) (as_value g (statements_at (body_at d) us)) e k))
