-- Lists of values, read one behind the other.
use Rattle.std.proofs.Common.{◌≡◌, ◌≤◌, ◌<◌, ◌++◌, ℕ, zero, suc, Bool, true, false, cond, List, [], ◌∷◌, length, Option, Some, None, refl, sym, ap, ◌∙◌, subst, inl, inr, arith}
use Rattle.liberty_text.specs.Cuts.{Token}
use Rattle.liberty_text.proofs.Runs.{chosen}
use Rattle.liberty_statements.specs.Reading.{Read, ◌>>=◌, Fails, behind, as_value, many_at, all_at}
use Rattle.liberty_statements.specs.declared.stop.Stop.{Stop}
use Rattle.liberty_statements.specs.declared.stop.Stop.TheVariants as stops

abbrev pub On : Type 0
On = List Token → Bool

abbrev pub Reader : Type 0 → Type 0
Reader X = List Token → Read X

-- what is read takes at least one token
abbrev pub Less : {X : Type 0} → Reader X → Type 0
Less {X} p = (ts : List Token) (x : X × List Token) → p ts ≡ Some x → length x.1 < length ts

-- what is read gives no token back
abbrev pub NoMore : {X : Type 0} → Reader X → Type 0
NoMore {X} p = (ts : List Token) (x : X × List Token) → p ts ≡ Some x → length x.1 ≤ length ts

pub bind_some : {A B : Type 0} (o : Option A) (f : A → Option B) (y : B) → o >>= f ≡ Some y → (x : A) × (o ≡ Some x) × (f x ≡ Some y)
bind_some (Some x) f y h = (x, refl, h)
bind_some None f y h = absurd (cc)

abbrev pub hit : {X : Type 0} → X → List Token → Read X
hit x rest = Some (x, rest)

pub got : {X : Type 0} (x : X) (rest : List Token) (y : X × List Token) → hit x rest ≡ Some y → (x ≡ y.0) × (rest ≡ y.1)
got {X} x rest y h =
    let a : X × List Token = (x, rest) in
    let e : a ≡ y = cc in
    (ap (λ (p : X × List Token). p.0) e, ap (λ (p : X × List Token). p.1) e)

-- another value in place of the one that is read
pub as_some : {X Y : Type 0} (f : X → Y) (o : Read X) (y : Y × List Token) → as_value f o ≡ Some y → (x : X × List Token) × (o ≡ Some x) × (f x.0 ≡ y.0) × (x.1 ≡ y.1)
as_some f (Some x) y h = let g = got (f x.0) x.1 y h in (x, refl, g.0, g.1)
as_some f None y h = absurd (cc)

pub as_none : {X Y : Type 0} (f : X → Y) (o : Read X) → as_value f o ≡ None → o ≡ None
as_none f (Some x) h = absurd (cc)
as_none f None h = refl

pub as_same : {X Y : Type 0} (f g : X → Y) (o : Read X) → ((x : X) → f x ≡ g x) → as_value f o ≡ as_value g o
as_same {X} {Y} f g (Some x) h = ap (λ (y : Y). hit y x.1) (h x.0)
as_same f g None h = refl

pub as_twice : {X Y Z : Type 0} (f : Y → Z) (g : X → Y) (o : Read X) → as_value f (as_value g o) ≡ as_value (λ x. f (g x)) o
as_twice f g (Some x) = refl
as_twice f g None = refl

pub behind_as : {X Y : Type 0} (f : X → Y) (o : Read X) → behind (as_value f o) ≡ behind o
behind_as f (Some x) = refl
behind_as f None = refl

pub behind_some : {X : Type 0} (o : Read X) (r : List Token) → behind o ≡ Some r → (x : X) × (o ≡ Some (x, r))
behind_some {X} (Some x) r h = (x.0, ap (λ (s : List Token). hit x.0 s) (let e : x.1 ≡ r = cc in e))
behind_some None r h = absurd (cc)

pub behind_none : {X : Type 0} (o : Read X) → behind o ≡ None → o ≡ None
behind_none (Some x) h = absurd (cc)
behind_none None h = refl

pub fails_as : {X Y : Type 0} (s : Stop) (f : X → Y) (o : Read X) → Fails s o → Fails s (as_value f o)
fails_as stops.Memory f o h = tt
fails_as (stops.Wrong left) f o h = ap (as_value f) h

pub fails_behind : {X : Type 0} (s : Stop) (o : Read X) → Fails s o → Fails s (behind o)
fails_behind stops.Memory o h = tt
fails_behind (stops.Wrong left) o h = ap behind h

pub fails_of_as : {X Y : Type 0} (s : Stop) (f : X → Y) (o : Read X) → Fails s (as_value f o) → Fails s o
fails_of_as stops.Memory f o h = tt
fails_of_as (stops.Wrong left) f o h = as_none f o h

pub fails_of_behind : {X : Type 0} (s : Stop) (o : Read X) → Fails s (behind o) → Fails s o
fails_of_behind stops.Memory o h = tt
fails_of_behind (stops.Wrong left) o h = behind_none o h

pub fails_bind : {A B : Type 0} (s : Stop) (o : Option A) (f : A → Option B) → Fails s o → Fails s (o >>= f)
fails_bind stops.Memory o f h = tt
fails_bind (stops.Wrong left) o f h = ap (λ p. p >>= f) h

-- lists
abbrev front_on : {X : Type 0} → X → List X × List Token → Read (List X)
front_on x xs = Some ((x ∷ []) ++ xs.0, xs.1)

abbrev many_on : {X : Type 0} → On → Reader X → ℕ → X × List Token → Read (List X)
many_on on p k x = many_at on p k x.1 >>= front_on x.0

step_same : {X : Type 0} (on : On) (p : Reader X) (n m : ℕ) (ts : List Token) → ((x : X × List Token) → p ts ≡ Some x → many_at on p n x.1 ≡ many_at on p m x.1)
    → (b : Bool) → (o : Read X) → p ts ≡ o → cond b (o >>= many_on on p n) (hit [] ts) ≡ cond b (o >>= many_on on p m) (hit [] ts)
step_same on p n m ts h false o e = refl
step_same on p n m ts h true None e = refl
step_same on p n m ts h true (Some x) e = ap (λ o. o >>= front_on x.0) (h x e)

enough : {X : Type 0} (on : On) (p : Reader X) → Less p → (n m : ℕ) (ts : List Token) → length ts < n → length ts < m → many_at on p n ts ≡ many_at on p m ts
unfolding many_at
enough on p s zero m ts h k = absurd (omega arith)
enough on p s (suc n) zero ts h k = absurd (omega arith)
enough on p s (suc n) (suc m) ts h k = step_same on p n m ts (λ x e. enough on p s n m x.1 (omega (arith, s ts x e)) (omega (arith, s ts x e))) (on ts) (p ts) refl

abbrev all_on : {X : Type 0} → On → Reader X → X × List Token → Read (List X)
all_on on p x = all_at on p x.1 >>= front_on x.0

-- a list by its first value
all_is : {X : Type 0} (on : On) (p : Reader X) → Less p → (ts : List Token) → all_at on p ts ≡ cond (on ts) (p ts >>= all_on on p) (hit [] ts)
unfolding all_at many_at
all_is {X} on p s ts = whole (on ts) (p ts) refl
  where
    whole : (b : Bool) (o : Read X) → p ts ≡ o → cond b (o >>= many_on on p (length ts)) (hit [] ts) ≡ cond b (o >>= all_on on p) (hit [] ts)
    whole false o e = refl
    whole true None e = refl
    whole true (Some x) e = ap (λ o. o >>= front_on x.0) (enough on p s (length ts) (suc (length x.1)) x.1 (s ts x e) (omega arith))

pub all_off : {X : Type 0} (on : On) (p : Reader X) → Less p → (ts : List Token) → on ts ≡ false → all_at on p ts ≡ hit [] ts
all_off on p s ts h = all_is on p s ts ∙ ap (λ b. cond b (p ts >>= all_on on p) (hit [] ts)) h

pub all_step : {X : Type 0} (on : On) (p : Reader X) → Less p → (ts : List Token) → on ts ≡ true → all_at on p ts ≡ p ts >>= all_on on p
all_step on p s ts h = all_is on p s ts ∙ ap (λ b. cond b (p ts >>= all_on on p) (hit [] ts)) h

pub all_go : {X : Type 0} (on : On) (p : Reader X) → Less p → (ts : List Token) (x : X × List Token) → on ts ≡ true → p ts ≡ Some x → all_at on p ts ≡ as_value (λ xs. x.0 ∷ xs) (all_at on p x.1)
all_go {X} on p s ts x h e = all_step on p s ts h ∙ (ap (λ o. o >>= all_on on p) e ∙ front_is (all_at on p x.1))
  where
    front_is : (o : Read (List X)) → o >>= front_on x.0 ≡ as_value (λ xs. x.0 ∷ xs) o
    front_is (Some xs) = refl
    front_is None = refl

pub all_fails : {X : Type 0} (t : Stop) (on : On) (p : Reader X) → Less p → (ts : List Token) → on ts ≡ true → Fails t (p ts) → Fails t (all_at on p ts)
all_fails t on p s ts h f = subst (Fails t) (sym (all_step on p s ts h)) (fails_bind t (p ts) (all_on on p) f)

many_no_more : {X : Type 0} (on : On) (p : Reader X) → Less p → (k : ℕ) → NoMore (many_at on p k)
unfolding many_at
many_no_more on p s zero ts x h = omega (arith, ap length (got [] ts x h).1)
many_no_more on p s (suc k) ts x h = elim (chosen (on ts) (p ts >>= many_on on p k) (hit [] ts) (Some x) h) [
  | inl e ↦
      let y = bind_some (p ts) (many_on on p k) x e.1 in
      let z = bind_some (many_at on p k y.0.1) (front_on y.0.0) x y.2 in
      omega (arith, s ts y.0 y.1, many_no_more on p s k y.0.1 z.0 z.1, ap length (got ((y.0.0 ∷ []) ++ z.0.0) z.0.1 x z.2).1)
  | inr e ↦ omega (arith, ap length (got [] ts x e.1).1)
]

pub all_no_more : {X : Type 0} (on : On) (p : Reader X) → Less p → NoMore (all_at on p)
unfolding all_at
all_no_more on p s ts x h = many_no_more on p s (suc (length ts)) ts x h

-- the answers of loops that read over a list
pub over_go : {X : Type 0} (on : On) (p : Reader X) → Less p → (ts r : List Token) → on ts ≡ true → behind (p ts) ≡ Some r → behind (all_at on p r) ≡ behind (all_at on p ts)
over_go on p s ts r h e =
    let x = behind_some (p ts) r e in
    sym (ap behind (all_go on p s ts (x.0, r) h x.1) ∙ behind_as (λ xs. x.0 ∷ xs) (all_at on p r))

pub over_off : {X : Type 0} (on : On) (p : Reader X) → Less p → (ts : List Token) → on ts ≡ false → behind (all_at on p ts) ≡ Some ts
over_off on p s ts h = ap behind (all_off on p s ts h)

pub over_fails : {X : Type 0} (t : Stop) (on : On) (p : Reader X) → Less p → (ts : List Token) → on ts ≡ true → Fails t (behind (p ts)) → Fails t (behind (all_at on p ts))
over_fails t on p s ts h f = fails_behind t (all_at on p ts) (all_fails t on p s ts h (fails_of_behind t (p ts) f))

-- the answers of loops that keep something of each value of a list
pub keep_go : {X Y : Type 0} (on : On) (p : Reader X) → Less p → (f g : List X → Y) (ts : List Token) (x : X × List Token) → on ts ≡ true → p ts ≡ Some x → ((xs : List X) → g xs ≡ f (x.0 ∷ xs)) → as_value g (all_at on p x.1) ≡ as_value f (all_at on p ts)
keep_go on p s f g ts x h e k =
    as_same g (λ xs. f (x.0 ∷ xs)) (all_at on p x.1) k
    ∙ sym (ap (as_value f) (all_go on p s ts x h e) ∙ as_twice f (λ xs. x.0 ∷ xs) (all_at on p x.1))

pub keep_off : {X Y : Type 0} (on : On) (p : Reader X) → Less p → (f : List X → Y) (ts : List Token) → on ts ≡ false → as_value f (all_at on p ts) ≡ Some (f [], ts)
keep_off on p s f ts h = ap (as_value f) (all_off on p s ts h)

pub keep_fails : {X Y : Type 0} (t : Stop) (on : On) (p : Reader X) → Less p → (f : List X → Y) (ts : List Token) → on ts ≡ true → Fails t (p ts) → Fails t (as_value f (all_at on p ts))
keep_fails t on p s f ts h e = fails_as t f (all_at on p ts) (all_fails t on p s ts h e)

pub fails_moved : {X : Type 0} (t : Stop) (o p : Option X) → o ≡ p → Fails t o → Fails t p
fails_moved {X} t o p e h = subst (λ (q : Option X). Fails t q) e h

pub over_less : {X : Type 0} (p : Reader X) → Less p → (ts r : List Token) → behind (p ts) ≡ Some r → length r < length ts
over_less p s ts r h = let x = behind_some (p ts) r h in s ts (x.0, r) x.1
