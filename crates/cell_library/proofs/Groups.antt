-- Groups of which something is kept.
use Rattle.std.proofs.Common.{◌≡◌, ℕ, suc, Bool, true, false, cond, List, drop, Some, None, sym, ap, ◌∙◌, subst}
use Rattle.std.specs.Str.{bytes_eq}
use Rattle.std.proofs.lemmas.Slice.Eq.{bytes_eq-Decides}
use Rattle.liberty_text.specs.Cuts.{Token}
use Rattle.liberty_statements.specs.Grammar.{Args, Statement, Statements, group, complex, names_of}
use Rattle.liberty_statements.specs.Reading.{◌>>=◌, Fails, behind, as_value, begins, symbol_at, ended, args_end_at, start_at, group_of, open_at, paren_at, statement_at, statements_at, body_at}
use Rattle.liberty_statements.specs.declared.stop.Stop.{Stop}
use Rattle.liberty_statements.proofs.Less.{open_it, symbol_is}
use Rattle.liberty_statements.proofs.Many.{hit, as_some, behind_some, fails_bind, fails_as, fails_of_as, fails_of_behind, fails_moved}
use Rattle.liberty_statements.proofs.Steps.{statement_is, body_is, body_none, group_none}

name_and : List ℕ → Bool → List ℕ × Bool
name_and n q = (n, q)

-- a statement with `(` behind its word
pub statement_open : (d : ℕ) (ts b : List Token) (n : List ℕ) (o : Bool) → start_at ts ≡ Some ((n, o), b) → o ≡ true → statement_at (body_at d) ts ≡ paren_at (body_at d) n b
statement_open d ts b n o h e = let P : Bool → Type 0 = λ q. start_at ts ≡ Some ((n, q), b) in statement_is (body_at d) ts ((n, true), b) (subst P e h)

pub paren_args : (d : ℕ) (n : List ℕ) (ts c : List Token) (xs : Args) → args_end_at ts ≡ Some (xs, c) → paren_at (body_at d) n ts ≡ open_at (body_at d) n xs c
unfolding paren_at
paren_args d n ts c xs h = ap (λ o. o >>= open_it (body_at d) n) h

pub paren_fails : (s : Stop) (d : ℕ) (n : List ℕ) (ts : List Token) → Fails s (args_end_at ts) → Fails s (paren_at (body_at d) n ts)
unfolding paren_at
paren_fails s d n ts h = fails_bind s (args_end_at ts) (open_it (body_at d) n) h

open_group : (d : ℕ) (n : List ℕ) (xs : Args) (c i : List Token) → symbol_at 123 c ≡ Some i → open_at (body_at d) n xs c ≡ group_of n xs (body_at d i)
open_group d n xs c i h = ap (open_at (body_at d) n xs) (symbol_is 123 c i h)

open_complex : (d : ℕ) (n : List ℕ) (xs : Args) (c : List Token) → begins 123 c ≡ false → open_at (body_at d) n xs c ≡ Some (complex n xs (begins 59 c), ended c)
open_complex d n xs c h = ap (λ q. cond q (group_of n xs (body_at d (drop 1 c))) (hit (complex n xs (begins 59 c)) (ended c))) h

brace_is : (d : ℕ) (n : List ℕ) (xs : Args) (c : List Token) → begins 123 c ≡ true → open_at (body_at d) n xs c ≡ group_of n xs (body_at d (drop 1 c))
brace_is d n xs c h = ap (λ q. cond q (group_of n xs (body_at d (drop 1 c))) (hit (complex n xs (begins 59 c)) (ended c))) h

-- what is kept where the arguments' names are read
pub kept_args_fail : {A : Type 0} (s : Stop) (f : Statement → A) (d : ℕ) (n : List ℕ) (ts : List Token) → Fails s (as_value names_of (args_end_at ts)) → Fails s (as_value f (paren_at (body_at d) n ts))
kept_args_fail s f d n ts h = fails_as s f (paren_at (body_at d) n ts) (paren_fails s d n ts (fails_of_as s names_of (args_end_at ts) h))

args_of : (ts c : List Token) (names : List (List ℕ)) → as_value names_of (args_end_at ts) ≡ Some (names, c) → (xs : Args) × (args_end_at ts ≡ Some (xs, c)) × (names_of xs ≡ names)
args_of ts c names h = let a = as_some names_of (args_end_at ts) (names, c) h in (a.0.0, a.1 ∙ ap (λ (r : List Token). hit a.0.0 r) a.3, a.2)

pub kept_complex : {A : Type 0} (f : Statement → A) (a : A) (d : ℕ) (n : List ℕ) (ts c : List Token) (names : List (List ℕ)) → as_value names_of (args_end_at ts) ≡ Some (names, c) → begins 123 c ≡ false → ((xs : Args) (e : Bool) → f (complex n xs e) ≡ a) → as_value f (paren_at (body_at d) n ts) ≡ Some (a, ended c)
kept_complex {A} f a d n ts c names h e k =
    let x = args_of ts c names h in
    ap (as_value f) (paren_args d n ts c x.0 x.1 ∙ open_complex d n x.0 c e) ∙ ap (λ (b : A). hit b (ended c)) (k x.0 (begins 59 c))

pub kept_deep : {A : Type 0} (f : Statement → A) (d : ℕ) (n : List ℕ) (ts c : List Token) (names : List (List ℕ)) → as_value names_of (args_end_at ts) ≡ Some (names, c) → begins 123 c ≡ true → d ≡ 0 → as_value f (paren_at (body_at d) n ts) ≡ None
kept_deep f d n ts c names h e z =
    let x = args_of ts c names h in
    ap (as_value f) (paren_args d n ts c x.0 x.1 ∙ (brace_is d n x.0 c e ∙ ap (group_of n x.0) (body_none d (drop 1 c) z)))

pub kept_body_fails : {A B : Type 0} (s : Stop) (f : Statement → A) (g : Statements → B) (d m : ℕ) (n : List ℕ) (ts c i : List Token) (names : List (List ℕ)) → as_value names_of (args_end_at ts) ≡ Some (names, c) → symbol_at 123 c ≡ Some i → d ≡ suc m → Fails s (as_value g (statements_at (body_at m) i)) → Fails s (as_value f (paren_at (body_at d) n ts))
kept_body_fails s f g d m n ts c i names h e z k =
    let x = args_of ts c names h in
    fails_as s f (paren_at (body_at d) n ts)
    (fails_moved s (group_of n x.0 (body_at d i)) (paren_at (body_at d) n ts) (sym (paren_args d n ts c x.0 x.1 ∙ open_group d n x.0 c i e))
    (group_none s n x.0 (body_at d i) (fails_moved s (statements_at (body_at m) i) (body_at d i) (sym (body_is d m i z)) (fails_of_as s g (statements_at (body_at m) i) k))))

pub kept_group : {A B : Type 0} (f : Statement → A) (g : Statements → B) (a : A) (b : B) (d m : ℕ) (n : List ℕ) (ts c i r : List Token) (names : List (List ℕ)) → as_value names_of (args_end_at ts) ≡ Some (names, c) → symbol_at 123 c ≡ Some i → d ≡ suc m → as_value g (statements_at (body_at m) i) ≡ Some (b, r)
    → ((xs : Args) (ss : Statements) (e : Bool) → names_of xs ≡ names → g ss ≡ b → f (group n xs ss e) ≡ a) → as_value f (paren_at (body_at d) n ts) ≡ Some (a, ended r)
kept_group {A} f g a b d m n ts c i r names h e z k v =
    let x = args_of ts c names h in
    let y = as_some g (statements_at (body_at m) i) (b, r) k in
    let body : body_at d i ≡ Some (y.0.0, r) = body_is d m i z ∙ (y.1 ∙ ap (λ (q : List Token). hit y.0.0 q) y.3) in
    ap (as_value f) (paren_args d n ts c x.0 x.1 ∙ (open_group d n x.0 c i e ∙ ap (group_of n x.0) body))
    ∙ ap (λ (q : A). hit q (ended r)) (v x.0 y.0.0 (begins 59 r) x.2 y.2)

-- what is kept of a group that is read over
pub over_args_kept : {A : Type 0} (s : Stop) (f : Statement → A) (d : ℕ) (n : List ℕ) (ts : List Token) → Fails s (behind (args_end_at ts)) → Fails s (as_value f (paren_at (body_at d) n ts))
over_args_kept s f d n ts h = fails_as s f (paren_at (body_at d) n ts) (paren_fails s d n ts (fails_of_behind s (args_end_at ts) h))

pub over_complex_kept : {A : Type 0} (f : Statement → A) (a : A) (d : ℕ) (n : List ℕ) (ts c : List Token) → behind (args_end_at ts) ≡ Some c → begins 123 c ≡ false → ((xs : Args) (e : Bool) → f (complex n xs e) ≡ a) → as_value f (paren_at (body_at d) n ts) ≡ Some (a, ended c)
over_complex_kept {A} f a d n ts c h e k =
    let x = behind_some (args_end_at ts) c h in
    ap (as_value f) (paren_args d n ts c x.0 x.1 ∙ open_complex d n x.0 c e) ∙ ap (λ (b : A). hit b (ended c)) (k x.0 (begins 59 c))

pub over_group_fails_kept : {A : Type 0} (s : Stop) (f : Statement → A) (d : ℕ) (n : List ℕ) (ts c i : List Token) → behind (args_end_at ts) ≡ Some c → symbol_at 123 c ≡ Some i → Fails s (behind (body_at d i)) → Fails s (as_value f (paren_at (body_at d) n ts))
over_group_fails_kept s f d n ts c i h e k =
    let x = behind_some (args_end_at ts) c h in
    fails_as s f (paren_at (body_at d) n ts)
    (fails_moved s (group_of n x.0 (body_at d i)) (paren_at (body_at d) n ts) (sym (paren_args d n ts c x.0 x.1 ∙ open_group d n x.0 c i e))
    (group_none s n x.0 (body_at d i) (fails_of_behind s (body_at d i) k)))

pub over_group_kept : {A : Type 0} (f : Statement → A) (a : A) (d : ℕ) (n : List ℕ) (ts c i r : List Token) → behind (args_end_at ts) ≡ Some c → symbol_at 123 c ≡ Some i → behind (body_at d i) ≡ Some r → ((xs : Args) (ss : Statements) (e : Bool) → f (group n xs ss e) ≡ a) → as_value f (paren_at (body_at d) n ts) ≡ Some (a, ended r)
over_group_kept {A} f a d n ts c i r h e k v =
    let x = behind_some (args_end_at ts) c h in
    let y = behind_some (body_at d i) r k in
    ap (as_value f) (paren_args d n ts c x.0 x.1 ∙ (open_group d n x.0 c i e ∙ ap (group_of n x.0) y.1))
    ∙ ap (λ (q : A). hit q (ended r)) (v x.0 y.0 (begins 59 r))

-- a statement with `(` behind a given word
pub statement_named : (d : ℕ) (ts b : List Token) (n w : List ℕ) (o : Bool) → start_at ts ≡ Some ((n, o), b) → o ≡ true → bytes_eq n w ≡ true → statement_at (body_at d) ts ≡ paren_at (body_at d) w b
statement_named d ts b n w o h e k = statement_open d ts b n o h e ∙ ap (λ (m : List ℕ). paren_at (body_at d) m b) ((bytes_eq-Decides n w).0 k)
