-- Loops that read one value after another.
use Rattle.std.proofs.Common.{◌≡◌, ◌≤◌, ◌<◌, ◌-◌, ◌++◌, ℕ, zero, suc, Bool, true, false, cond, length, List, [], ◌∷◌, Some, None, refl, sym, ap, ◌∙◌, arith, append_assoc, append-nil}
use Rattle.verilog_tokens.specs.Token.{Token}
use Rattle.verilog_reader.specs.declared.stop.Stop.{Stop}
use Rattle.verilog_reader.specs.declared.stop.Stop.TheVariants as stops
use Rattle.verilog_reader.specs.Reading.{Read, ◌>>=◌, with_front, many_in, many_at, Fails}

-- what a reader leaves is shorter
abbrev pub Shrinks : {X : Type 0} → (List Token → Read X) → Type 0
Shrinks {X} p = (ts : List Token) (y : X × List Token) → p ts ≡ Some y → length y.1 < length ts

-- two fronts are one
front_front : {X : Type 0} (f g : List X) (r : Read (List X)) → with_front f (with_front g r) ≡ with_front (f ++ g) r
front_front f g (Some xs) = ap (λ w. Some (w, xs.1)) (sym (append_assoc f g xs.0))
front_front f g None = refl

-- no front is none
pub no_front : {X : Type 0} (r : Read (List X)) → with_front [] r ≡ r
no_front (Some xs) = refl
no_front None = refl

-- where the test fails nothing more is read
pub stop_many : {X Y : Type 0} (f : X → List Y) (on : List Token → Bool) (p : List Token → Read X) (k : ℕ) (ts : List Token) → on ts ≡ false → many_in f on p k ts ≡ Some ([], ts)
unfolding many_in
stop_many f on p zero ts h = refl
stop_many f on p (suc k) ts h = rw h refl

-- in no steps nothing is read
no_many : {X Y : Type 0} (f : X → List Y) (on : List Token → Bool) (p : List Token → Read X) (ts : List Token) → many_in f on p 0 ts ≡ Some ([], ts)
unfolding many_in
no_many f on p ts = refl

-- where the test holds, one value is read, and then the others
pub next_many : {X Y : Type 0} (f : X → List Y) (on : List Token → Bool) (p : List Token → Read X) (k : ℕ) (ts rest : List Token) (x : X) → 0 < k → on ts ≡ true → p ts ≡ Some (x, rest) → many_in f on p k ts ≡ with_front (f x) (many_in f on p (k - 1) rest)
unfolding many_in
next_many f on p zero ts rest x n h e = absurd (omega arith)
next_many f on p (suc k) ts rest x n h e = rw (h, e) (ap (λ m. with_front (f x) (many_in f on p m rest)) (omega arith))

-- where the test holds and no value is read, nothing is
none_many : {X Y : Type 0} (f : X → List Y) (on : List Token → Bool) (p : List Token → Read X) (k : ℕ) (ts : List Token) → 0 < k → on ts ≡ true → p ts ≡ None → many_in f on p k ts ≡ None
unfolding many_in
none_many f on p zero ts n h e = absurd (omega arith)
none_many f on p (suc k) ts n h e = rw (h, e) refl

enough_read : {X Y : Type 0} (f : X → List Y) (on : List Token → Bool) (p : List Token → Read X) (j k : ℕ) (ts : List Token) (o : Read X) → p ts ≡ o →
    ((y : X × List Token) → p ts ≡ Some y → many_in f on p j y.1 ≡ many_in f on p k y.1) →
    (o >>= (λ x. with_front (f x.0) (many_in f on p j x.1))) ≡ (o >>= (λ x. with_front (f x.0) (many_in f on p k x.1)))
enough_read f on p j k ts None e g = refl
enough_read f on p j k ts (Some y) e g = ap (with_front (f y.0)) (g y e)

-- more steps than tokens give nothing more
pub enough : {X Y : Type 0} (f : X → List Y) (on : List Token → Bool) (p : List Token → Read X) → Shrinks p → on [] ≡ false → (j k : ℕ) (ts : List Token) → length ts ≤ j → length ts ≤ k → many_in f on p j ts ≡ many_in f on p k ts
unfolding many_in
enough f on p s none j k [] a b = stop_many f on p j [] none ∙ sym (stop_many f on p k [] none)
enough f on p s none zero k (t ∷ ts) a b = absurd (omega arith)
enough f on p s none (suc j) zero (t ∷ ts) a b = absurd (omega arith)
enough f on p s none (suc j) (suc k) (t ∷ ts) a b =
    ap (λ r. cond (on (t ∷ ts)) r (Some ([], t ∷ ts)))
    (enough_read f on p j k (t ∷ ts) (p (t ∷ ts)) refl (λ y e. let less = s (t ∷ ts) y e in enough f on p s none j k y.1 (omega arith) (omega arith)))

-- a loop of more steps than tokens begins
pub begun : {X Y : Type 0} (f : X → List Y) (on : List Token → Bool) (p : List Token → Read X) → Shrinks p → on [] ≡ false → (front new : List Y) (k : ℕ) (ts : List Token) → new ≡ front → length ts ≤ k →
    with_front new (many_in f on p k ts) ≡ with_front front (many_at f on p ts)
begun f on p s none front new k ts e h = ap (λ w. with_front w (many_in f on p k ts)) e ∙ ap (with_front front) (enough f on p s none k (length ts) ts h (omega arith))

-- a turn that reads a value
pub go_on : {X Y : Type 0} (f : X → List Y) (on : List Token → Bool) (p : List Token → Read X) (k m : ℕ) (front new : List Y) (ts rest : List Token) (x : X) (whole : Read (List Y)) →
    with_front front (many_in f on p k ts) ≡ whole → 0 < k → on ts ≡ true → p ts ≡ Some (x, rest) → new ≡ front ++ f x → m ≡ k - 1 → with_front new (many_in f on p m rest) ≡ whole
go_on f on p k m front new ts rest x whole i n h e a b =
    ap (λ w. with_front w (many_in f on p m rest)) a ∙ (ap (λ j. with_front (front ++ f x) (many_in f on p j rest)) b
    ∙ (sym (front_front front (f x) (many_in f on p (k - 1) rest)) ∙ (ap (with_front front) (sym (next_many f on p k ts rest x n h e)) ∙ i)))

-- a turn where the test fails
pub stops_here : {X Y : Type 0} (f : X → List Y) (on : List Token → Bool) (p : List Token → Read X) (k : ℕ) (front : List Y) (ts : List Token) (whole : Read (List Y)) →
    with_front front (many_in f on p k ts) ≡ whole → on ts ≡ false → whole ≡ Some (front, ts)
stops_here f on p k front ts whole i h = sym i ∙ (ap (with_front front) (stop_many f on p k ts h) ∙ ap (λ w. Some (w, ts)) (append-nil front))

-- the end of the turns
pub at_end : {X Y : Type 0} (f : X → List Y) (on : List Token → Bool) (p : List Token → Read X) (k : ℕ) (front : List Y) (ts : List Token) (whole : Read (List Y)) →
    with_front front (many_in f on p k ts) ≡ whole → k ≡ 0 → whole ≡ Some (front, ts)
at_end f on p k front ts whole i z = sym i ∙ (ap (λ n. with_front front (many_in f on p n ts)) z ∙ (ap (with_front front) (no_many f on p ts) ∙ ap (λ w. Some (w, ts)) (append-nil front)))

-- a turn that stops
pub fails_here : {X Y : Type 0} (f : X → List Y) (on : List Token → Bool) (p : List Token → Read X) (k : ℕ) (front : List Y) (ts : List Token) (whole : Read (List Y)) (e : Stop) →
    with_front front (many_in f on p k ts) ≡ whole → 0 < k → on ts ≡ true → Fails e (p ts) → Fails e whole
fails_here f on p k front ts whole stops.Memory i n h g = tt
fails_here f on p k front ts whole (stops.Wrong left) i n h g = sym i ∙ ap (with_front front) (none_many f on p k ts n h g)
