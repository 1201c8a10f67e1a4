-- What stands there is read: lists.
use Rattle.std.proofs.Common.{◌≡◌, ◌≤◌, ℕ, Bool, true, false, length, List, [], ◌∷◌, Some, refl, sym, ap, ◌∙◌, arith}
use Rattle.std.specs.List.{flat_map}
use Rattle.verilog_tokens.specs.Token.{Token, Symbol}
use Rattle.verilog_reader.specs.Grammar.{Row, Next, Listed, IsIdent}
use Rattle.verilog_reader.specs.Reading.{Read, begins, ident_at, with_front, single, many_in, many_at, next_at, more_at, listed_at}
use Rattle.std.proofs.Common.{◌-◌}
use Rattle.verilog_reader.proofs.OneToken.{hit}
use Rattle.verilog_reader.proofs.FoundLists.{flat_single, listed_first}
use Rattle.verilog_reader.proofs.Many.{stop_many, next_many}
use Rattle.verilog_reader.proofs.Ahead.{Solid, solid_next}

-- what stands there is read, where the rest does not begin with a token that would be read on
abbrev pub Again : {X : Type 0} → (List Token → Bool) → (X → List Token → List Token → Type 0) → (List Token → Read X) → Type 0
Again {X} bad P p = (x : X) (ts rest : List Token) → P x ts rest → bad rest ≡ false → p ts ≡ Some (x, rest)

-- no token is read on
abbrev pub never : List Token → Bool
never ts = false

-- a value begins with a token that the loop's test takes, and no value before it reads on
abbrev pub Begins : {X : Type 0} → (on bad : List Token → Bool) → (X → List Token → List Token → Type 0) → Type 0
Begins {X} on bad P = (x : X) (ts rest : List Token) → P x ts rest → (on ts ≡ true) × (bad ts ≡ false)

row_follow : {X : Type 0} (on bad : List Token → Bool) (P : X → List Token → List Token → Type 0) → Begins on bad P → (xs : List X) (mid rest : List Token) → Row P xs mid rest → bad rest ≡ false → bad mid ≡ false
row_follow on bad P b [] mid rest h e = ap bad h ∙ e
row_follow on bad P b (x ∷ xs) mid rest h e = (b x mid h.0 h.1).1

pub again_many : {X Y : Type 0} (f : X → List Y) (on bad : List Token → Bool) (P : X → List Token → List Token → Type 0) (p : List Token → Read X) → Solid 1 P → Again bad P p → Begins on bad P →
    (xs : List X) (k : ℕ) (ts rest : List Token) → length ts ≤ k → Row P xs ts rest → on rest ≡ false → bad rest ≡ false → many_in f on p k ts ≡ hit (flat_map f xs) rest
again_many {X} {Y} f on bad P p s a b [] k ts rest below h off e = stop_many f on p k ts (ap on h ∙ off) ∙ ap (hit {X = List Y} []) h
again_many {X} {Y} f on bad P p s a b (x ∷ xs) k ts rest below h off e =
    let first = a x ts h.0 h.1 (row_follow on bad P b xs h.0 rest h.2 e) in
    let less = (s x ts h.0 h.1).count in
    next_many f on p k ts h.0 x (omega (arith, less)) (b x ts h.0 h.1).0 first
    ∙ ap (with_front (f x)) (again_many f on bad P p s a b xs (k - 1) h.0 rest (omega (arith, less)) h.2 off e)

pub again_row : {X : Type 0} (on bad : List Token → Bool) (P : X → List Token → List Token → Type 0) (p : List Token → Read X) → Solid 1 P → Again bad P p → Begins on bad P →
    (xs : List X) (ts rest : List Token) → Row P xs ts rest → on rest ≡ false → bad rest ≡ false → many_at single on p ts ≡ hit xs rest
again_row {X} on bad P p s a b xs ts rest h off e =
    again_many single on bad P p s a b xs (length ts) ts rest (omega arith) h off e ∙ ap (λ (w : List X). hit w rest) (flat_single xs)

-- a comma stands before each further value
pub next_behind : {X : Type 0} (p : List Token → Read X) (mid : List Token) → next_at p (Symbol 44 ∷ mid) ≡ p mid
unfolding next_at
next_behind p mid = refl

again_next : {X : Type 0} (bad : List Token → Bool) (P : X → List Token → List Token → Type 0) (p : List Token → Read X) → Again bad P p → Again bad (Next P) (next_at p)
again_next bad P p a x ts rest h e = ap (next_at p) h.1 ∙ (next_behind p h.0 ∙ a x h.0 rest h.2 e)

begins_next : {X : Type 0} (bad : List Token → Bool) (P : X → List Token → List Token → Type 0) → ((mid : List Token) → bad (Symbol 44 ∷ mid) ≡ false) → Begins (begins 44) bad (Next P)
begins_next bad P c x ts rest h = (ap (begins 44) h.1, ap bad h.1 ∙ c h.0)

pub again_more : {X : Type 0} (bad : List Token → Bool) (P : X → List Token → List Token → Type 0) (p : List Token → Read X) → Solid 1 P → Again bad P p → ((mid : List Token) → bad (Symbol 44 ∷ mid) ≡ false) →
    (xs : List X) (ts rest : List Token) → Row (Next P) xs ts rest → begins 44 rest ≡ false → bad rest ≡ false → more_at p ts ≡ hit xs rest
again_more bad P p s a c xs ts rest h off e = again_row (begins 44) bad (Next P) (next_at p) (solid_next P s) (again_next bad P p a) (begins_next bad P c) xs ts rest h off e

pub again_listed : {X : Type 0} (bad : List Token → Bool) (P : X → List Token → List Token → Type 0) (p : List Token → Read X) → Solid 1 P → Again bad P p → ((mid : List Token) → bad (Symbol 44 ∷ mid) ≡ false) →
    (xs : List X) (ts rest : List Token) → Listed P xs ts rest → begins 44 rest ≡ false → bad rest ≡ false → listed_at p ts ≡ hit xs rest
again_listed bad P p s a c [] ts rest h off e = absurd h
again_listed bad P p s a c (x ∷ xs) ts rest h off e =
    let first = a x ts h.0 h.1 (row_follow (begins 44) bad (Next P) (begins_next bad P c) xs h.0 rest h.2 e) in
    sym (listed_first p ts h.0 x first) ∙ ap (with_front (single x)) (again_more bad P p s a c xs h.0 rest h.2 off e)

pub again_ident : Again never IsIdent ident_at
again_ident name ts rest h e = ap ident_at h
