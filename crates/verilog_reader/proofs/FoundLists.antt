-- What is read stands there: lists.
use Rattle.std.proofs.Common.{◌≡◌, ◌++◌, ℕ, zero, suc, Bool, length, List, [], ◌∷◌, Some, refl, sym, ap, ◌∙◌, subst, inl, inr}
use Rattle.std.specs.List.{flat_map}
use Rattle.verilog_tokens.specs.Token.{Token}
use Rattle.verilog_reader.specs.Grammar.{Row, Next, Listed, Perhaps}
use Rattle.verilog_reader.specs.Reading.{Read, ◌>>=◌, begins, symbol_at, with_front, single, many_in, next_at, more_at, listed_at}
use Rattle.verilog_reader.proofs.OneToken.{hit, chosen, bind_some, got, symbol_is}

-- a reader is right where what it reads stands there
abbrev pub Right : {X : Type 0} → (X → List Token → List Token → Type 0) → (List Token → Read X) → Type 0
Right {X} P p = (ts : List Token) (y : X × List Token) → p ts ≡ Some y → P y.0 ts y.1

pub moved : {X : Type 0} (P : X → List Token → List Token → Type 0) (ts : List Token) (x : X) (rest : List Token) (y : X × List Token) → P x ts rest → hit x rest ≡ Some y → P y.0 ts y.1
moved {X} P ts x rest y e h =
    let g = got x rest y h in
    subst (λ (r : List Token). P y.0 ts r) g.1 (subst (λ (w : X). P w ts rest) g.0 e)

-- lists
pub flat_single : {X : Type 0} (xs : List X) → flat_map single xs ≡ xs
flat_single [] = refl
flat_single (x ∷ xs) = ap (λ w. x ∷ w) (flat_single xs)

abbrev pub many_2 : {X Y : Type 0} → (X → List Y) → X × List Token → List Y × List Token → Read (List Y)
many_2 f x xs = Some (f x.0 ++ xs.0, xs.1)

abbrev pub many_1 : {X Y : Type 0} → (X → List Y) → (List Token → Bool) → (List Token → Read X) → ℕ → X × List Token → Read (List Y)
many_1 f on p k x = many_in f on p k x.1 >>= many_2 f x

-- the values of a loop that was read
abbrev pub Rowed : {X Y : Type 0} → (X → List Y) → (X → List Token → List Token → Type 0) → List Y → List Token → List Token → Type 0
Rowed {X} f P ys ts rest = (xs : List X) × (ys ≡ flat_map f xs) × Row P xs ts rest

pub right_many : {X Y : Type 0} (f : X → List Y) (P : X → List Token → List Token → Type 0) (on : List Token → Bool) (p : List Token → Read X) (k : ℕ) → Right P p → Right (Rowed f P) (many_in f on p k)
unfolding many_in
right_many f P on p zero r ts y h = moved (Rowed f P) ts [] ts y ([], refl, refl) h
right_many {X} f P on p (suc k) r ts y h =
    elim (chosen (on ts) (p ts >>= many_1 f on p k) (hit [] ts) (Some y) h) [
      | inl e ↦
          let x = bind_some (p ts) (many_1 f on p k) y e.1 in
          let xs = bind_some (many_in f on p k x.0.1) (many_2 f x.0) y x.2 in
          let head = r ts x.0 x.1 in
          let tail = right_many f P on p k r x.0.1 xs.0 xs.1 in
          moved (Rowed f P) ts (f x.0.0 ++ xs.0.0) xs.0.1 y (x.0.0 ∷ tail.0, ap (λ w. f x.0.0 ++ w) tail.1, (x.0.1, head, tail.2)) xs.2
      | inr e ↦ moved (Rowed f P) ts [] ts y ([], refl, refl) e.1
    ]

-- single values
pub right_row : {X : Type 0} (P : X → List Token → List Token → Type 0) (on : List Token → Bool) (p : List Token → Read X) (k : ℕ) → Right P p → Right (Row P) (many_in single on p k)
right_row {X} P on p k r ts y h =
    let m = right_many single P on p k r ts y h in
    let e : m.0 ≡ y.0 = sym (m.1 ∙ flat_single m.0) in
    subst (λ (xs : List X). Row P xs ts y.1) e m.2

pub right_next : {X : Type 0} (P : X → List Token → List Token → Type 0) (p : List Token → Read X) → Right P p → Right (Next P) (next_at p)
unfolding next_at
right_next P p r ts y h =
    let a = bind_some (symbol_at 44 ts) p y h in
    (a.0, symbol_is 44 ts a.0 a.1, r a.0 y a.2)

pub right_more : {X : Type 0} (P : X → List Token → List Token → Type 0) (p : List Token → Read X) → Right P p → Right (Row (Next P)) (more_at p)
right_more P p r ts y h = right_row (Next P) (begins 44) (next_at p) (length ts) (right_next P p r) ts y h

abbrev pub listed_1 : {X : Type 0} → (List Token → Read X) → X × List Token → Read (List X)
listed_1 p x = more_at p x.1 >>= many_2 single x

pub right_listed : {X : Type 0} (P : X → List Token → List Token → Type 0) (p : List Token → Read X) → Right P p → Right (Listed P) (listed_at p)
unfolding listed_at
right_listed P p r ts y h =
    let x = bind_some (p ts) (listed_1 p) y h in
    let xs = bind_some (more_at p x.0.1) (many_2 single x.0) y x.2 in
    moved (Listed P) ts (x.0.0 ∷ xs.0.0) xs.0.1 y (x.0.1, r ts x.0 x.1, right_more P p r x.0.1 xs.0 xs.1) xs.2

-- a list that is not empty is one that may be
pub perhaps : {X : Type 0} (P : X → List Token → List Token → Type 0) (xs : List X) (ts rest : List Token) → Listed P xs ts rest → Perhaps P xs ts rest
perhaps P [] ts rest h = absurd h
perhaps P (x ∷ xs) ts rest h = h

-- a list whose first value is read
pub listed_first : {X : Type 0} (p : List Token → Read X) (ts rest : List Token) (x : X) → p ts ≡ Some (x, rest) → with_front (single x) (more_at p rest) ≡ listed_at p ts
unfolding listed_at
listed_first p ts rest x h = rw h refl
