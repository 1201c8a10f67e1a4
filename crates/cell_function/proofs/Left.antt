-- Steps of the loops that read.
use Rattle.std.proofs.Common.{◌≡◌, ◌+◌, ℕ, zero, suc, Bool, true, false, cond, List, drop, Option, Some, None, refl, sym, ap, ◌∙◌, subst}
use Rattle.cell_function.specs.Cuts.{Part}
use Rattle.cell_function.specs.Tree.{Tree, t_not, t_or}
use Rattle.cell_function.specs.Reading.{Read, Reader, Fails, ◌>>=◌, begins, sign_at, behind_or, left_go, left_at, inside_at, primes_at, bangs_at, nots, product_at, sum_over, sum_at, inner_at}
use Rattle.cell_function.specs.declared.stop.Stop.{Stop}
use Rattle.cell_function.specs.declared.stop.Stop.TheVariants as stops

abbrev pub Behind : Type 0
Behind = List Part → Option (List Part)

abbrev pub Hit : Type 0
Hit = Tree × List Part

-- a sign that stands in front, or does not
pub sign_some : (s : ℕ) (ps qs : List Part) → Some qs ≡ sign_at s ps → (begins s ps ≡ true) × (drop 1 ps ≡ qs)
sign_some s ps qs h = some_case (begins s ps) refl
  where
    some_case : (b : Bool) → begins s ps ≡ b → (begins s ps ≡ true) × (drop 1 ps ≡ qs)
    some_case true e = (e, let f : Some qs ≡ Some (drop 1 ps) = h ∙ ap (λ b. cond b (Some (drop 1 ps)) None) e in cc)
    some_case false e = let f : Some qs ≡ None = h ∙ ap (λ b. cond b (Some (drop 1 ps)) None) e in absurd (cc)

pub sign_none : (s : ℕ) (ps : List Part) → None ≡ sign_at s ps → begins s ps ≡ false
sign_none s ps h = none_case (begins s ps) refl
  where
    none_case : (b : Bool) → begins s ps ≡ b → begins s ps ≡ false
    none_case false e = e
    none_case true e = let f : None ≡ Some (drop 1 ps) = h ∙ ap (λ b. cond b (Some (drop 1 ps)) None) e in absurd (cc)

-- operands behind operators
pub stops_here : (behind : Behind) (join : Tree → Tree → Tree) (next : Reader) (n : ℕ) (tree : Tree) (ps : List Part) → None ≡ behind ps → left_at behind join next n tree ps ≡ Some (tree, ps)
unfolding left_at
stops_here behind join next zero tree ps h = refl
stops_here behind join next (suc n) tree ps h = ap (λ o. left_go o (Some (tree, ps)) (λ qs. next qs >>= (λ x. left_at behind join next n (join tree x.0) x.1))) (sym h)

pub goes_on : (behind : Behind) (join : Tree → Tree → Tree) (next : Reader) (n m : ℕ) (tree : Tree) (ps qs : List Part) (x : Hit) → n ≡ suc m → Some qs ≡ behind ps → next qs ≡ Some x → left_at behind join next n tree ps ≡ left_at behind join next m (join tree x.0) x.1
unfolding left_at
goes_on behind join next n m tree ps qs x e h k =
    ap (λ i. left_at behind join next i tree ps) e
    ∙ (ap (λ o. left_go o (Some (tree, ps)) (λ rs. next rs >>= (λ y. left_at behind join next m (join tree y.0) y.1))) (sym h)
    ∙ ap (λ o. o >>= (λ y. left_at behind join next m (join tree y.0) y.1)) k)

pub at_end : (behind : Behind) (join : Tree → Tree → Tree) (next : Reader) (n : ℕ) (tree : Tree) (ps : List Part) → n ≡ 0 → left_at behind join next n tree ps ≡ Some (tree, ps)
unfolding left_at
at_end behind join next n tree ps e = ap (λ i. left_at behind join next i tree ps) e

none_fails : (s : Stop) (o : Read) → o ≡ None → Fails s o
none_fails stops.Memory o e = tt
none_fails stops.Wrong o e = e

fails_none : (s : Stop) (o : Read) (go : Hit → Read) → Fails s o → Fails s (o >>= go)
fails_none stops.Memory o go h = tt
fails_none stops.Wrong o go h = ap (λ p. p >>= go) h

pub fails_here : (s : Stop) (behind : Behind) (join : Tree → Tree → Tree) (next : Reader) (n m : ℕ) (tree : Tree) (ps qs : List Part) (whole : Read) → left_at behind join next n tree ps ≡ whole → n ≡ suc m → Some qs ≡ behind ps → Fails s (next qs) → Fails s whole
unfolding left_at
fails_here s behind join next n m tree ps qs whole w e h k =
    let go : Hit → Read = λ y. left_at behind join next m (join tree y.0) y.1 in
    let same : left_at behind join next n tree ps ≡ next qs >>= go =
    ap (λ i. left_at behind join next i tree ps) e
    ∙ ap (λ o. left_go o (Some (tree, ps)) (λ rs. next rs >>= go)) (sym h) in
    subst (Fails s) (sym same ∙ w) (fails_none s (next qs) go k)

-- inversions
pub primes_on : (n m : ℕ) (tree : Tree) (ps qs : List Part) → n ≡ suc m → Some qs ≡ sign_at 39 ps → primes_at n tree ps ≡ primes_at m (t_not tree) qs
unfolding primes_at
primes_on n m tree ps qs e h =
    let s = sign_some 39 ps qs h in
    ap (λ i. primes_at i tree ps) e
    ∙ (ap (λ b. cond b (primes_at m (t_not tree) (drop 1 ps)) (tree, ps)) s.0 ∙ ap (primes_at m (t_not tree)) s.1)

pub primes_stop : (n : ℕ) (tree : Tree) (ps : List Part) → None ≡ sign_at 39 ps → primes_at n tree ps ≡ (tree, ps)
unfolding primes_at
primes_stop zero tree ps h = refl
primes_stop (suc n) tree ps h = ap (λ b. cond b (primes_at n (t_not tree) (drop 1 ps)) (tree, ps)) (sign_none 39 ps h)

pub primes_end : (n : ℕ) (tree : Tree) (ps : List Part) → n ≡ 0 → primes_at n tree ps ≡ (tree, ps)
unfolding primes_at
primes_end n tree ps e = ap (λ i. primes_at i tree ps) e

pub bangs_on : (n m count : ℕ) (ps qs : List Part) → n ≡ suc m → Some qs ≡ sign_at 33 ps → bangs_at n count ps ≡ bangs_at m (count + 1) qs
unfolding bangs_at
bangs_on n m count ps qs e h =
    let s = sign_some 33 ps qs h in
    ap (λ i. bangs_at i count ps) e
    ∙ (ap (λ b. cond b (bangs_at m (count + 1) (drop 1 ps)) (count, ps)) s.0 ∙ ap (bangs_at m (count + 1)) s.1)

pub bangs_stop : (n count : ℕ) (ps : List Part) → None ≡ sign_at 33 ps → bangs_at n count ps ≡ (count, ps)
unfolding bangs_at
bangs_stop zero count ps h = refl
bangs_stop (suc n) count ps h = ap (λ b. cond b (bangs_at n (count + 1) (drop 1 ps)) (count, ps)) (sign_none 33 ps h)

pub bangs_end : (n count : ℕ) (ps : List Part) → n ≡ 0 → bangs_at n count ps ≡ (count, ps)
unfolding bangs_at
bangs_end n count ps e = ap (λ i. bangs_at i count ps) e

pub nots_on : (n m : ℕ) (tree : Tree) → n ≡ suc m → nots n tree ≡ nots m (t_not tree)
unfolding nots
nots_on n m tree e = ap (λ i. nots i tree) e

pub nots_end : (n : ℕ) (tree : Tree) → n ≡ 0 → nots n tree ≡ tree
unfolding nots
nots_end n tree e = ap (λ i. nots i tree) e

-- parentheses
inner_is : (n m : ℕ) (ps : List Part) → n ≡ suc m → inner_at n ps ≡ sum_at m ps
unfolding inner_at
inner_is n m ps e = ap (λ i. inner_at i ps) e

abbrev close_on : Hit → List Part → Read
close_on x rest = Some (x.0, rest)

abbrev close_it : Hit → Read
close_it x = sign_at 41 x.1 >>= close_on x

inside_is : (n m : ℕ) (ps : List Part) → n ≡ suc m → inside_at (inner_at n) ps ≡ sum_at m ps >>= close_it
unfolding inside_at
inside_is n m ps e = ap (λ o. o >>= close_it) (inner_is n m ps e)

pub inside_none : (n : ℕ) (ps : List Part) → n ≡ 0 → inside_at (inner_at n) ps ≡ None
unfolding inside_at inner_at
inside_none n ps e = ap (λ i. inside_at (inner_at i) ps) e

pub inside_fails : (s : Stop) (n m : ℕ) (ps : List Part) → n ≡ suc m → Fails s (sum_at m ps) → Fails s (inside_at (inner_at n) ps)
inside_fails s n m ps e h = subst (Fails s) (sym (inside_is n m ps e)) (fails_none s (sum_at m ps) close_it h)

pub inside_some : (n m : ℕ) (ps rest : List Part) (x : Hit) → n ≡ suc m → sum_at m ps ≡ Some x → Some rest ≡ sign_at 41 x.1 → inside_at (inner_at n) ps ≡ Some (x.0, rest)
inside_some n m ps rest x e h k = inside_is n m ps e ∙ (ap (λ o. o >>= close_it) h ∙ ap (λ o. o >>= close_on x) (sym k))

pub inside_open : (n m : ℕ) (ps : List Part) (x : Hit) → n ≡ suc m → sum_at m ps ≡ Some x → None ≡ sign_at 41 x.1 → inside_at (inner_at n) ps ≡ None
inside_open n m ps x e h k = inside_is n m ps e ∙ (ap (λ o. o >>= close_it) h ∙ ap (λ o. o >>= close_on x) (sym k))

-- sums
pub sum_is : (n : ℕ) (ps : List Part) → sum_at n ps ≡ sum_over n (inner_at n) ps
unfolding sum_at inner_at
sum_is zero ps = refl
sum_is (suc n) ps = refl

abbrev more_it : ℕ → Hit → Read
more_it n x = left_at behind_or t_or (product_at n (inner_at n)) n x.0 x.1

over_is : (n : ℕ) (ps : List Part) → sum_over n (inner_at n) ps ≡ product_at n (inner_at n) ps >>= more_it n
unfolding sum_over
over_is n ps = refl

pub sum_fails : (s : Stop) (n : ℕ) (ps : List Part) → Fails s (product_at n (inner_at n) ps) → Fails s (sum_at n ps)
sum_fails s n ps h = subst (Fails s) (sym (sum_is n ps ∙ over_is n ps)) (fails_none s (product_at n (inner_at n) ps) (more_it n) h)

pub sum_after : (n : ℕ) (ps : List Part) (x : Hit) → product_at n (inner_at n) ps ≡ Some x → sum_at n ps ≡ left_at behind_or t_or (product_at n (inner_at n)) n x.0 x.1
sum_after n ps x h = sum_is n ps ∙ (over_is n ps ∙ ap (λ o. o >>= more_it n) h)
