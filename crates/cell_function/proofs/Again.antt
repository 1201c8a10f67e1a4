-- What is derived is read.
use Rattle.std.proofs.Common.{◌≡◌, ◌≤◌, ◌<◌, ◌+◌, ℕ, zero, suc, true, false, cond, List, [], ◌∷◌, length, drop, Some, None, refl, ap, ◌∙◌, arith}
use Rattle.cell_function.specs.Cuts.{Part, sign}
use Rattle.cell_function.specs.Tree.{Tree, t_not, t_and, t_or, t_xor}
use Rattle.cell_function.specs.Grammar.{Sum, Product, Chain, Factor, Primed, Operand, product, plus, bar, chain, star, ampersand, beside, factor, caret, primed, bang, operand, prime, pin, constant, inside, sum_parts, product_parts, chain_parts, factor_parts, primed_parts, operand_parts, sum_tree, product_tree, chain_tree, factor_tree, primed_tree, operand_tree}
use Rattle.cell_function.specs.Reading.{Read, Reader, ◌>>=◌, begins, behind_or, behind_and, behind_xor, left_at, operand_at, primes_at, primed_at, bangs_at, nots, factor_at, chain_at, product_at, sum_at, inner_at}
use Rattle.cell_function.proofs.Left.{Behind, Hit, stops_here, goes_on, inside_some, sum_after}
use Rattle.cell_function.proofs.Found.{nots_out}

abbrev hit : Tree → List Part → Read
hit t rest = Some (t, rest)

abbrev factor_it : ℕ → Hit → Read
factor_it k x = Some (nots k x.0, x.1)

-- nothing is shorter than what stands behind it
abbrev mutual
  sum_longer : (s : Sum) (rest : List Part) → length rest < length (sum_parts s rest)
  sum_longer (product p) rest = product_longer p rest
  sum_longer (plus s p) rest = omega (arith, sum_longer s (sign 43 ∷ product_parts p rest), product_longer p rest)
  sum_longer (bar s p) rest = omega (arith, sum_longer s (sign 124 ∷ product_parts p rest), product_longer p rest)

  product_longer : (p : Product) (rest : List Part) → length rest < length (product_parts p rest)
  product_longer (chain c) rest = chain_longer c rest
  product_longer (star p c) rest = omega (arith, product_longer p (sign 42 ∷ chain_parts c rest), chain_longer c rest)
  product_longer (ampersand p c) rest = omega (arith, product_longer p (sign 38 ∷ chain_parts c rest), chain_longer c rest)
  product_longer (beside p c) rest = omega (arith, product_longer p (chain_parts c rest), chain_longer c rest)

  chain_longer : (c : Chain) (rest : List Part) → length rest < length (chain_parts c rest)
  chain_longer (factor f) rest = factor_longer f rest
  chain_longer (caret c f) rest = omega (arith, chain_longer c (sign 94 ∷ factor_parts f rest), factor_longer f rest)

  factor_longer : (f : Factor) (rest : List Part) → length rest < length (factor_parts f rest)
  factor_longer (primed p) rest = primed_longer p rest
  factor_longer (bang f) rest = omega (arith, factor_longer f rest)

  primed_longer : (p : Primed) (rest : List Part) → length rest < length (primed_parts p rest)
  primed_longer (operand o) rest = operand_longer o rest
  primed_longer (prime p) rest = omega (arith, primed_longer p (sign 39 ∷ rest))

  operand_longer : (o : Operand) (rest : List Part) → length rest < length (operand_parts o rest)
  operand_longer (pin n) rest = omega arith
  operand_longer (constant v) rest = omega arith
  operand_longer (inside s) rest = omega (arith, sum_longer s (sign 41 ∷ rest))

-- what begins an operand goes on as a product alone
record Opens (ps : List Part) : Type 0 where
  no_prime : begins 39 ps ≡ false
  no_xor : None ≡ behind_xor ps
  beside_is : Some ps ≡ behind_and ps

operand_opens : (o : Operand) (rest : List Part) → Opens (operand_parts o rest)
operand_opens (pin n) rest = record { no_prime = refl; no_xor = refl; beside_is = refl }
operand_opens (constant true) rest = record { no_prime = refl; no_xor = refl; beside_is = refl }
operand_opens (constant false) rest = record { no_prime = refl; no_xor = refl; beside_is = refl }
operand_opens (inside s) rest = record { no_prime = refl; no_xor = refl; beside_is = refl }

operand_no_bang : (o : Operand) (rest : List Part) → begins 33 (operand_parts o rest) ≡ false
operand_no_bang (pin n) rest = refl
operand_no_bang (constant true) rest = refl
operand_no_bang (constant false) rest = refl
operand_no_bang (inside s) rest = refl

primed_opens : (p : Primed) (rest : List Part) → Opens (primed_parts p rest)
primed_opens (operand o) rest = operand_opens o rest
primed_opens (prime p) rest = primed_opens p (sign 39 ∷ rest)

primed_no_bang : (p : Primed) (rest : List Part) → begins 33 (primed_parts p rest) ≡ false
primed_no_bang (operand o) rest = operand_no_bang o rest
primed_no_bang (prime p) rest = primed_no_bang p (sign 39 ∷ rest)

factor_opens : (f : Factor) (rest : List Part) → Opens (factor_parts f rest)
factor_opens (primed p) rest = primed_opens p rest
factor_opens (bang f) rest = record { no_prime = refl; no_xor = refl; beside_is = refl }

chain_opens : (c : Chain) (rest : List Part) → Opens (chain_parts c rest)
chain_opens (factor f) rest = factor_opens f rest
chain_opens (caret c f) rest = chain_opens c (sign 94 ∷ factor_parts f rest)

-- inversions in front
abbrev bangs : Factor → ℕ
bangs (primed p) = 0
bangs (bang f) = suc (bangs f)

abbrev core : Factor → Primed
core (primed p) = p
core (bang f) = core f

core_longer : (f : Factor) (rest : List Part) → length (primed_parts (core f) rest) ≤ length (factor_parts f rest)
core_longer (primed p) rest = omega arith
core_longer (bang f) rest = omega (arith, core_longer f rest)

core_tree : (f : Factor) → nots (bangs f) (primed_tree (core f)) ≡ factor_tree f
unfolding nots
core_tree (primed p) = refl
core_tree (bang f) = nots_out (bangs f) (primed_tree (core f)) ∙ ap t_not (core_tree f)

bangs_again : (f : Factor) (n count : ℕ) (rest : List Part) → length (factor_parts f rest) ≤ n → bangs_at n count (factor_parts f rest) ≡ (count + bangs f, primed_parts (core f) rest)
unfolding bangs_at
bangs_again (primed p) zero count rest h = absurd (omega (arith, primed_longer p rest))
bangs_again (primed p) (suc n) count rest h = rw (primed_no_bang p rest) (ap (λ (k : ℕ). counted k (primed_parts p rest)) (omega arith))
  where
    counted : ℕ → List Part → ℕ × List Part
    counted k ps = (k, ps)
bangs_again (bang f) zero count rest h = absurd (omega arith)
bangs_again (bang f) (suc n) count rest h = bangs_again f n (count + 1) rest (omega arith) ∙ ap (λ (k : ℕ). counted k (primed_parts (core f) rest)) (omega arith)
  where
    counted : ℕ → List Part → ℕ × List Part
    counted k ps = (k, ps)

-- how a reader goes on behind what is derived: with a loop that has turns enough
abbrev Looped : (ℕ → Read) → Read → List Part → Type 0
Looped loop read rest = (k : ℕ) × (length rest ≤ k) × (read ≡ loop k)

primes_stop : (k : ℕ) (t : Tree) (rest : List Part) → begins 39 rest ≡ false → primes_at k t rest ≡ (t, rest)
unfolding primes_at
primes_stop zero t rest h = refl
primes_stop (suc k) t rest h = ap (λ b. cond b (primes_at k (t_not t) (drop 1 rest)) (t, rest)) h

abbrev primed_loop : Tree → List Part → ℕ → Read
primed_loop t rest k = Some (primes_at k t rest)

abbrev chain_loop : ℕ → Tree → List Part → ℕ → Read
chain_loop n t rest k = left_at behind_xor t_xor (factor_at n (inner_at n)) k t rest

abbrev product_loop : ℕ → Tree → List Part → ℕ → Read
product_loop n t rest k = left_at behind_and t_and (chain_at n (inner_at n)) k t rest

abbrev sum_loop : ℕ → Tree → List Part → ℕ → Read
sum_loop n t rest k = left_at behind_or t_or (product_at n (inner_at n)) k t rest

primed_first : (n : ℕ) (o : Operand) (rest : List Part) → operand_at (inner_at n) (operand_parts o rest) ≡ Some (operand_tree o, rest) → primed_at n (inner_at n) (operand_parts o rest) ≡ Some (primes_at n (operand_tree o) rest)
unfolding primed_at
primed_first n o rest h = ap (λ r. r >>= (λ x. Some (primes_at n x.0 x.1))) h

primed_next : (n : ℕ) (t : Tree) (ps rest : List Part) → Looped (primed_loop t (sign 39 ∷ rest)) (primed_at n (inner_at n) ps) (sign 39 ∷ rest) → Looped (primed_loop (t_not t) rest) (primed_at n (inner_at n) ps) rest
unfolding primes_at
primed_next n t ps rest (zero, l, e) = absurd (omega arith)
primed_next n t ps rest (suc k, l, e) = (k, omega arith, e)

factor_done : (n : ℕ) (f : Factor) (rest : List Part) → length (factor_parts f rest) ≤ n → begins 39 rest ≡ false
    → Looped (primed_loop (primed_tree (core f)) rest) (primed_at n (inner_at n) (primed_parts (core f) rest)) rest
    → factor_at n (inner_at n) (factor_parts f rest) ≡ Some (factor_tree f, rest)
unfolding factor_at
factor_done n f rest l h p =
    let b : bangs_at n 0 (factor_parts f rest) ≡ (bangs f, primed_parts (core f) rest) = bangs_again f n 0 rest l ∙ ap (λ (k : ℕ). counted k (primed_parts (core f) rest)) (omega arith) in
    let read : primed_at n (inner_at n) (primed_parts (core f) rest) ≡ Some (primed_tree (core f), rest) = p.2 ∙ ap (λ (x : Hit). Some x) (primes_stop p.0 (primed_tree (core f)) rest h) in
    ap (λ (y : ℕ × List Part). primed_at n (inner_at n) y.1 >>= factor_it y.0) b
    ∙ (ap (λ o. o >>= factor_it (bangs f)) read ∙ ap (λ (t : Tree). hit t rest) (core_tree f))
  where
    counted : ℕ → List Part → ℕ × List Part
    counted k ps = (k, ps)

chain_first : (n : ℕ) (f : Factor) (rest : List Part) → factor_at n (inner_at n) (factor_parts f rest) ≡ Some (factor_tree f, rest) → chain_at n (inner_at n) (factor_parts f rest) ≡ chain_loop n (factor_tree f) rest n
unfolding chain_at
chain_first n f rest h = ap (λ r. r >>= (λ x. chain_loop n x.0 x.1 n)) h

product_first : (n : ℕ) (c : Chain) (rest : List Part) → chain_at n (inner_at n) (chain_parts c rest) ≡ Some (chain_tree c, rest) → product_at n (inner_at n) (chain_parts c rest) ≡ product_loop n (chain_tree c) rest n
unfolding product_at
product_first n c rest h = ap (λ r. r >>= (λ x. product_loop n x.0 x.1 n)) h

-- one more turn of a loop
loop_next : (behind : Behind) (join : Tree → Tree → Tree) (next : Reader) (read : Read) (t u : Tree) (ps qs rest : List Part) → length rest < length ps → Some qs ≡ behind ps → next qs ≡ Some (u, rest)
    → Looped (λ k. left_at behind join next k t ps) read ps → Looped (λ k. left_at behind join next k (join t u) rest) read rest
loop_next behind join next read t u ps qs rest s b h (zero, l, e) = absurd (omega arith)
loop_next behind join next read t u ps qs rest s b h (suc k, l, e) = (k, omega arith, e ∙ goes_on behind join next (suc k) k t ps qs (u, rest) refl b h)

-- the end of a loop
loop_done : (behind : Behind) (join : Tree → Tree → Tree) (next : Reader) (read : Read) (t : Tree) (rest : List Part) → None ≡ behind rest → Looped (λ k. left_at behind join next k t rest) read rest → read ≡ Some (t, rest)
loop_done behind join next read t rest b p = p.2 ∙ stops_here behind join next p.0 t rest b

-- each part in front of a rest
mutual
  operand_again : (o : Operand) (n : ℕ) (rest : List Part) → length (operand_parts o rest) ≤ n → operand_at (inner_at n) (operand_parts o rest) ≡ Some (operand_tree o, rest)
  operand_again (pin m) n rest l = refl
  operand_again (constant true) n rest l = refl
  operand_again (constant false) n rest l = refl
  operand_again (inside s) zero rest l = absurd (omega arith)
  operand_again (inside s) (suc n) rest l =
      let p = sum_again s n (sign 41 ∷ rest) (omega arith) refl refl refl in
      let read : sum_at n (sum_parts s (sign 41 ∷ rest)) ≡ Some (sum_tree s, sign 41 ∷ rest) = loop_done behind_or t_or (product_at n (inner_at n)) (sum_at n (sum_parts s (sign 41 ∷ rest))) (sum_tree s) (sign 41 ∷ rest) refl p in
      inside_some (suc n) n (sum_parts s (sign 41 ∷ rest)) rest (sum_tree s, sign 41 ∷ rest) refl read refl

  primed_again : (p : Primed) (n : ℕ) (rest : List Part) → length (primed_parts p rest) ≤ n → Looped (primed_loop (primed_tree p) rest) (primed_at n (inner_at n) (primed_parts p rest)) rest
  primed_again (operand o) n rest l = (n, omega (arith, operand_longer o rest), primed_first n o rest (operand_again o n rest l))
  primed_again (prime p) n rest l = primed_next n (primed_tree p) (primed_parts p (sign 39 ∷ rest)) rest (primed_again p n (sign 39 ∷ rest) l)

  core_again : (f : Factor) (n : ℕ) (rest : List Part) → length (factor_parts f rest) ≤ n → Looped (primed_loop (primed_tree (core f)) rest) (primed_at n (inner_at n) (primed_parts (core f) rest)) rest
  core_again (primed p) n rest l = primed_again p n rest l
  core_again (bang f) n rest l = core_again f n rest (omega arith)

  chain_again : (c : Chain) (n : ℕ) (rest : List Part) → length (chain_parts c rest) ≤ n → begins 39 rest ≡ false → Looped (chain_loop n (chain_tree c) rest) (chain_at n (inner_at n) (chain_parts c rest)) rest
  chain_again (factor f) n rest l h = (n, omega (arith, factor_longer f rest), chain_first n f rest (factor_done n f rest l h (core_again f n rest l)))
  chain_again (caret c f) n rest l h =
      let short : length (factor_parts f rest) ≤ n = omega (arith, chain_longer c (sign 94 ∷ factor_parts f rest)) in
      loop_next behind_xor t_xor (factor_at n (inner_at n)) (chain_at n (inner_at n) (chain_parts c (sign 94 ∷ factor_parts f rest))) (chain_tree c) (factor_tree f) (sign 94 ∷ factor_parts f rest) (factor_parts f rest) rest
      (omega (arith, factor_longer f rest)) refl (factor_done n f rest short h (core_again f n rest short))
      (chain_again c n (sign 94 ∷ factor_parts f rest) l refl)

  product_again : (p : Product) (n : ℕ) (rest : List Part) → length (product_parts p rest) ≤ n → begins 39 rest ≡ false → None ≡ behind_xor rest → Looped (product_loop n (product_tree p) rest) (product_at n (inner_at n) (product_parts p rest)) rest
  product_again (chain c) n rest l h x =
      (n, omega (arith, chain_longer c rest), product_first n c rest (loop_done behind_xor t_xor (factor_at n (inner_at n)) (chain_at n (inner_at n) (chain_parts c rest)) (chain_tree c) rest x (chain_again c n rest l h)))
  product_again (star p c) n rest l h x =
      let short : length (chain_parts c rest) ≤ n = omega (arith, product_longer p (sign 42 ∷ chain_parts c rest)) in
      loop_next behind_and t_and (chain_at n (inner_at n)) (product_at n (inner_at n) (product_parts p (sign 42 ∷ chain_parts c rest))) (product_tree p) (chain_tree c) (sign 42 ∷ chain_parts c rest) (chain_parts c rest) rest
      (omega (arith, chain_longer c rest)) refl
      (loop_done behind_xor t_xor (factor_at n (inner_at n)) (chain_at n (inner_at n) (chain_parts c rest)) (chain_tree c) rest x (chain_again c n rest short h))
      (product_again p n (sign 42 ∷ chain_parts c rest) l refl refl)
  product_again (ampersand p c) n rest l h x =
      let short : length (chain_parts c rest) ≤ n = omega (arith, product_longer p (sign 38 ∷ chain_parts c rest)) in
      loop_next behind_and t_and (chain_at n (inner_at n)) (product_at n (inner_at n) (product_parts p (sign 38 ∷ chain_parts c rest))) (product_tree p) (chain_tree c) (sign 38 ∷ chain_parts c rest) (chain_parts c rest) rest
      (omega (arith, chain_longer c rest)) refl
      (loop_done behind_xor t_xor (factor_at n (inner_at n)) (chain_at n (inner_at n) (chain_parts c rest)) (chain_tree c) rest x (chain_again c n rest short h))
      (product_again p n (sign 38 ∷ chain_parts c rest) l refl refl)
  product_again (beside p c) n rest l h x =
      let short : length (chain_parts c rest) ≤ n = omega (arith, product_longer p (chain_parts c rest)) in
      let o = chain_opens c rest in
      loop_next behind_and t_and (chain_at n (inner_at n)) (product_at n (inner_at n) (product_parts p (chain_parts c rest))) (product_tree p) (chain_tree c) (chain_parts c rest) (chain_parts c rest) rest
      (omega (arith, chain_longer c rest)) o.beside_is
      (loop_done behind_xor t_xor (factor_at n (inner_at n)) (chain_at n (inner_at n) (chain_parts c rest)) (chain_tree c) rest x (chain_again c n rest short h))
      (product_again p n (chain_parts c rest) l o.no_prime o.no_xor)

  sum_again : (s : Sum) (n : ℕ) (rest : List Part) → length (sum_parts s rest) ≤ n → begins 39 rest ≡ false → None ≡ behind_xor rest → None ≡ behind_and rest → Looped (sum_loop n (sum_tree s) rest) (sum_at n (sum_parts s rest)) rest
  sum_again (product p) n rest l h x a =
      (n, omega (arith, product_longer p rest), sum_after n (product_parts p rest) (product_tree p, rest) (loop_done behind_and t_and (chain_at n (inner_at n)) (product_at n (inner_at n) (product_parts p rest)) (product_tree p) rest a (product_again p n rest l h x)))
  sum_again (plus s p) n rest l h x a =
      let short : length (product_parts p rest) ≤ n = omega (arith, sum_longer s (sign 43 ∷ product_parts p rest)) in
      loop_next behind_or t_or (product_at n (inner_at n)) (sum_at n (sum_parts s (sign 43 ∷ product_parts p rest))) (sum_tree s) (product_tree p) (sign 43 ∷ product_parts p rest) (product_parts p rest) rest
      (omega (arith, product_longer p rest)) refl
      (loop_done behind_and t_and (chain_at n (inner_at n)) (product_at n (inner_at n) (product_parts p rest)) (product_tree p) rest a (product_again p n rest short h x))
      (sum_again s n (sign 43 ∷ product_parts p rest) l refl refl refl)
  sum_again (bar s p) n rest l h x a =
      let short : length (product_parts p rest) ≤ n = omega (arith, sum_longer s (sign 124 ∷ product_parts p rest)) in
      loop_next behind_or t_or (product_at n (inner_at n)) (sum_at n (sum_parts s (sign 124 ∷ product_parts p rest))) (sum_tree s) (product_tree p) (sign 124 ∷ product_parts p rest) (product_parts p rest) rest
      (omega (arith, product_longer p rest)) refl
      (loop_done behind_and t_and (chain_at n (inner_at n)) (product_at n (inner_at n) (product_parts p rest)) (product_tree p) rest a (product_again p n rest short h x))
      (sum_again s n (sign 124 ∷ product_parts p rest) l refl refl refl)

-- a sum that is derived is read
pub sum_is_read : (s : Sum) (n : ℕ) → length (sum_parts s []) ≤ n → sum_at n (sum_parts s []) ≡ Some (sum_tree s, [])
sum_is_read s n l =
    loop_done behind_or t_or (product_at n (inner_at n)) (sum_at n (sum_parts s [])) (sum_tree s) [] refl (sum_again s n [] l refl refl refl)
