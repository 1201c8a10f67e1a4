-- What is read is derived.
use Rattle.std.proofs.Common.{◌≡◌, ◌==◌, ◌+◌, ◌⊎◌, ◌||◌, ℕ, zero, suc, Bool, true, false, cond, List, [], ◌∷◌, drop, Option, Some, None, refl, sym, ap, ◌∙◌, inl, inr, arith}
use Rattle.liberty_text.proofs.Gaps.{same_number}
use Rattle.liberty_text.proofs.Runs.{chosen}
use Rattle.cell_function.specs.Cuts.{Part, name, sign, wrong}
use Rattle.cell_function.specs.Tree.{Tree, t_constant, t_pin, t_not, t_and, t_or, t_xor}
use Rattle.cell_function.specs.Grammar.{Sum, Product, Chain, Factor, Primed, product, plus, bar, chain, star, ampersand, beside, factor, caret, primed, bang, operand, prime, pin, constant, inside, sum_parts, product_parts, chain_parts, factor_parts, primed_parts, operand_parts, sum_tree, product_tree, chain_tree, factor_tree, primed_tree, operand_tree}
use Rattle.cell_function.specs.Reading.{Read, Reader, ◌>>=◌, begins, sign_at, opens, behind_or, behind_and, behind_xor, left_go, left_at, inside_at, constant_at, operand_at, primes_at, primed_at, bangs_at, nots, factor_at, chain_at, product_at, sum_over, sum_at}
use Rattle.cell_function.proofs.Left.{Behind, Hit}

abbrev hit : Tree → List Part → Read
hit t rest = Some (t, rest)

got : (t : Tree) (rest : List Part) (y : Hit) → hit t rest ≡ Some y → (t ≡ y.0) × (rest ≡ y.1)
got t rest y h =
    let a : Hit = (t, rest) in
    let e : a ≡ y = cc in
    (ap (λ (p : Hit). p.0) e, ap (λ (p : Hit). p.1) e)

-- the two steps of a chain
pub bind_some : {A B : Type 0} (o : Option A) (f : A → Option B) (y : B) → o >>= f ≡ Some y → (x : A) × (o ≡ Some x) × (f x ≡ Some y)
bind_some (Some x) f y h = (x, refl, h)
bind_some None f y h = absurd (cc)

begins_is : (s : ℕ) (ps : List Part) → begins s ps ≡ true → ps ≡ sign s ∷ drop 1 ps
begins_is s [] h = absurd (cc)
begins_is s (sign c ∷ ps) h = ap (λ x. sign x ∷ ps) (same_number c s h)
begins_is s (name n ∷ ps) h = absurd (cc)
begins_is s (wrong ∷ ps) h = absurd (cc)

pub sign_is : (s : ℕ) (ps qs : List Part) → sign_at s ps ≡ Some qs → ps ≡ sign s ∷ qs
sign_is s ps qs h = elim (chosen (begins s ps) (Some (drop 1 ps)) None (Some qs) h) [
  | inl e ↦ begins_is s ps e.0 ∙ ap (λ rest. sign s ∷ rest) (let f : drop 1 ps ≡ qs = cc (e.1) in f)
  | inr e ↦ absurd (cc (e.1))
]

or_true : (a b : Bool) → (a || b) ≡ true → (a ≡ true) ⊎ (b ≡ true)
or_true true b h = inl refl
or_true false b h = inr h

either_is : (s t : ℕ) (ps qs : List Part) → cond (begins s ps || begins t ps) (Some (drop 1 ps)) None ≡ Some qs → (ps ≡ sign s ∷ qs) ⊎ (ps ≡ sign t ∷ qs)
either_is s t ps qs h = elim (chosen (begins s ps || begins t ps) (Some (drop 1 ps)) None (Some qs) h) [
  | inl e ↦
      let f : drop 1 ps ≡ qs = cc (e.1) in
      elim (or_true (begins s ps) (begins t ps) e.0) [
        | inl k ↦ inl (begins_is s ps k ∙ ap (λ rest. sign s ∷ rest) f)
        | inr k ↦ inr (begins_is t ps k ∙ ap (λ rest. sign t ∷ rest) f)
      ]
  | inr e ↦ absurd (cc (e.1))
]

-- a reader is right where what it reads is derived
abbrev pub Derived : {A : Type 0} → (A → List Part → List Part) → (A → Tree) → List Part → Hit → Type 0
Derived {A} parts tree ps x = (a : A) × (ps ≡ parts a x.1) × (x.0 ≡ tree a)

abbrev pub Right : {A : Type 0} → (A → List Part → List Part) → (A → Tree) → Reader → Type 0
Right parts tree read = (ps : List Part) (x : Hit) → read ps ≡ Some x → Derived parts tree ps x

-- operands
abbrev close_on : Hit → List Part → Read
close_on x rest = Some (x.0, rest)

abbrev close_it : Hit → Read
close_it x = sign_at 41 x.1 >>= close_on x

right_inside : (sum : Reader) → Right sum_parts sum_tree sum → (ps : List Part) (x : Hit) → inside_at sum ps ≡ Some x → Derived operand_parts operand_tree (sign 40 ∷ ps) x
unfolding inside_at
right_inside sum r ps x h =
    let s = bind_some (sum ps) close_it x h in
    let e = bind_some (sign_at 41 s.0.1) (close_on s.0) x s.2 in
    let d = r ps s.0 s.1 in
    let g = got s.0.0 e.0 x e.2 in (
      inside d.0,
      ap (λ w. sign 40 ∷ w) (d.1 ∙ ap (sum_parts d.0) (sign_is 41 s.0.1 e.0 e.1 ∙ ap (λ w. sign 41 ∷ w) g.1)),
      sym g.0 ∙ d.2,
    )

right_constant : (sum : Reader) → Right sum_parts sum_tree sum → (c : ℕ) (ps : List Part) (x : Hit) → constant_at c sum ps ≡ Some x → Derived operand_parts operand_tree (sign c ∷ ps) x
right_constant sum r c ps x h =
    elim (chosen (c == 48) (hit (t_constant false) ps) (cond (c == 49) (hit (t_constant true) ps) (cond (c == 40) (inside_at sum ps) None)) (Some x) h) [
      | inl e ↦ let g = got (t_constant false) ps x e.1 in (constant false, ap (λ b. sign b ∷ ps) (same_number c 48 e.0) ∙ ap (λ w. sign 48 ∷ w) g.1, sym g.0)
      | inr e ↦ elim (chosen (c == 49) (hit (t_constant true) ps) (cond (c == 40) (inside_at sum ps) None) (Some x) e.1) [
        | inl f ↦ let g = got (t_constant true) ps x f.1 in (constant true, ap (λ b. sign b ∷ ps) (same_number c 49 f.0) ∙ ap (λ w. sign 49 ∷ w) g.1, sym g.0)
        | inr f ↦ elim (chosen (c == 40) (inside_at sum ps) None (Some x) f.1) [
          | inl k ↦ let d = right_inside sum r ps x k.1 in (d.0, ap (λ b. sign b ∷ ps) (same_number c 40 k.0) ∙ d.1, d.2)
          | inr k ↦ absurd (cc (k.1))
        ]
      ]
    ]

right_operand : (sum : Reader) → Right sum_parts sum_tree sum → Right operand_parts operand_tree (operand_at sum)
right_operand sum r [] x h = absurd (cc)
right_operand sum r (name n ∷ ps) x h = let g = got (t_pin n) ps x h in (pin n, ap (λ w. name n ∷ w) g.1, sym g.0)
right_operand sum r (sign c ∷ ps) x h = right_constant sum r c ps x h
right_operand sum r (wrong ∷ ps) x h = absurd (cc)

-- inversions
abbrev Primes : Primed → List Part → Hit → Type 0
Primes p ps x = (q : Primed) × (primed_parts p ps ≡ primed_parts q x.1) × (x.0 ≡ primed_tree q)

prime_case : (p : Primed) (ps : List Part) (y : Hit) → Primes (prime p) (drop 1 ps) y → (b : Bool) → begins 39 ps ≡ b → Primes p ps (cond b y (primed_tree p, ps))
prime_case p ps y d true e = (d.0, ap (primed_parts p) (begins_is 39 ps e) ∙ d.1, d.2)
prime_case p ps y d false e = (p, refl, refl)

right_primes : (n : ℕ) (p : Primed) (ps : List Part) → Primes p ps (primes_at n (primed_tree p) ps)
unfolding primes_at
right_primes zero p ps = (p, refl, refl)
right_primes (suc n) p ps = prime_case p ps (primes_at n (t_not (primed_tree p)) (drop 1 ps)) (right_primes n (prime p) (drop 1 ps)) (begins 39 ps) refl

abbrev primed_it : ℕ → Hit → Read
primed_it n x = Some (primes_at n x.0 x.1)

right_primed : (n : ℕ) (sum : Reader) → Right sum_parts sum_tree sum → Right primed_parts primed_tree (primed_at n sum)
unfolding primed_at
right_primed n sum r ps x h =
    let o = bind_some (operand_at sum ps) (primed_it n) x h in
    let d = right_operand sum r ps o.0 o.1 in
    let e : primes_at n (operand_tree d.0) o.0.1 ≡ x = ap (λ t. primes_at n t o.0.1) (sym d.2) ∙ cc (o.2) in
    let k = right_primes n (operand d.0) o.0.1 in
    (k.0, d.1 ∙ (k.1 ∙ ap (λ (y : Hit). primed_parts k.0 y.1) e), ap (λ (y : Hit). y.0) (sym e) ∙ k.2)

-- so many `!`
abbrev bang_signs : ℕ → List Part → List Part
bang_signs zero rest = rest
bang_signs (suc n) rest = sign 33 ∷ bang_signs n rest

abbrev bangs_of : ℕ → Factor → Factor
bangs_of zero f = f
bangs_of (suc n) f = bang (bangs_of n f)

bangs_parts : (k : ℕ) (f : Factor) (rest : List Part) → factor_parts (bangs_of k f) rest ≡ bang_signs k (factor_parts f rest)
bangs_parts zero f rest = refl
bangs_parts (suc k) f rest = ap (λ w. sign 33 ∷ w) (bangs_parts k f rest)

pub nots_out : (k : ℕ) (t : Tree) → nots k (t_not t) ≡ t_not (nots k t)
unfolding nots
nots_out zero t = refl
nots_out (suc k) t = nots_out k (t_not t)

bangs_tree : (k : ℕ) (f : Factor) → factor_tree (bangs_of k f) ≡ nots k (factor_tree f)
unfolding nots
bangs_tree zero f = refl
bangs_tree (suc k) f = ap t_not (bangs_tree k f) ∙ sym (nots_out k (factor_tree f))

abbrev Bangs : ℕ → List Part → ℕ × List Part → Type 0
Bangs count ps r = (k : ℕ) × (r.0 ≡ count + k) × (ps ≡ bang_signs k r.1)

bang_case : (count : ℕ) (ps : List Part) (r : ℕ × List Part) → Bangs (count + 1) (drop 1 ps) r → (b : Bool) → begins 33 ps ≡ b → Bangs count ps (cond b r (count, ps))
bang_case count ps r d true e = (suc d.0, omega (arith, d.1), begins_is 33 ps e ∙ ap (λ w. sign 33 ∷ w) d.2)
bang_case count ps r d false e = (0, omega arith, refl)

right_bangs : (n count : ℕ) (ps : List Part) → Bangs count ps (bangs_at n count ps)
unfolding bangs_at
right_bangs zero count ps = (0, omega arith, refl)
right_bangs (suc n) count ps = bang_case count ps (bangs_at n (count + 1) (drop 1 ps)) (right_bangs n (count + 1) (drop 1 ps)) (begins 33 ps) refl

abbrev factor_it : ℕ → Hit → Read
factor_it k x = Some (nots k x.0, x.1)

right_factor : (n : ℕ) (sum : Reader) → Right sum_parts sum_tree sum → Right factor_parts factor_tree (factor_at n sum)
unfolding factor_at
right_factor n sum r ps x h =
    let b = right_bangs n 0 ps in
    let o = bind_some (primed_at n sum (bangs_at n 0 ps).1) (factor_it (bangs_at n 0 ps).0) x h in
    let d = right_primed n sum r (bangs_at n 0 ps).1 o.0 o.1 in
    let g = got (nots (bangs_at n 0 ps).0 o.0.0) o.0.1 x o.2 in
    let count : (bangs_at n 0 ps).0 ≡ b.0 = omega (arith, b.1) in (
      bangs_of b.0 (primed d.0),
      b.2 ∙ (ap (bang_signs b.0) (d.1 ∙ ap (primed_parts d.0) g.1) ∙ sym (bangs_parts b.0 (primed d.0) x.1)),
      sym g.0 ∙ (ap (λ k. nots k o.0.0) count ∙ (ap (nots b.0) d.2 ∙ sym (bangs_tree b.0 (primed d.0)))),
    )

-- operands behind operators
abbrev Grows : {A : Type 0} → (A → List Part → List Part) → (A → Tree) → A → List Part → Hit → Type 0
Grows {A} parts tree a ps x = (d : A) × (parts a ps ≡ parts d x.1) × (x.0 ≡ tree d)

abbrev left_on : Behind → (Tree → Tree → Tree) → Reader → ℕ → Tree → Hit → Read
left_on behind join next n t y = left_at behind join next n (join t y.0) y.1

left_case : {A B : Type 0} (a_parts : A → List Part → List Part) (a_tree : A → Tree) (b_parts : B → List Part → List Part) (b_tree : B → Tree)
    (behind : Behind) (join : Tree → Tree → Tree) (next : Reader)
    (grow : (a : A) (b : B) (ps qs rest : List Part) → behind ps ≡ Some qs → qs ≡ b_parts b rest → (d : A) × (a_parts a ps ≡ a_parts d rest) × (join (a_tree a) (b_tree b) ≡ a_tree d))
    (right : Right b_parts b_tree next)
    (n : ℕ) (again : (a : A) (ps : List Part) (x : Hit) → left_at behind join next n (a_tree a) ps ≡ Some x → Grows a_parts a_tree a ps x)
    (a : A) (ps : List Part) (x : Hit) (o : Option (List Part)) → behind ps ≡ o → left_go o (Some (a_tree a, ps)) (λ qs. next qs >>= left_on behind join next n (a_tree a)) ≡ Some x → Grows a_parts a_tree a ps x
left_case {A} {B} a_parts a_tree b_parts b_tree behind join next grow right n again a ps x None e k = let g = got (a_tree a) ps x k in (a, ap (a_parts a) g.1, sym g.0)
left_case {A} {B} a_parts a_tree b_parts b_tree behind join next grow right n again a ps x (Some qs) e k =
    let y = bind_some (next qs) (left_on behind join next n (a_tree a)) x k in
    let b = right qs y.0 y.1 in
    let d = grow a b.0 ps qs y.0.1 e b.1 in
    let tree : join (a_tree a) y.0.0 ≡ a_tree d.0 = ap (join (a_tree a)) b.2 ∙ d.2 in
    let more : left_at behind join next n (a_tree d.0) y.0.1 ≡ Some x = ap (λ t. left_at behind join next n t y.0.1) (sym tree) ∙ y.2 in
    let f = again d.0 y.0.1 x more in
    (f.0, d.1 ∙ f.1, f.2)

right_left : {A B : Type 0} (a_parts : A → List Part → List Part) (a_tree : A → Tree) (b_parts : B → List Part → List Part) (b_tree : B → Tree)
    (behind : Behind) (join : Tree → Tree → Tree) (next : Reader)
    (grow : (a : A) (b : B) (ps qs rest : List Part) → behind ps ≡ Some qs → qs ≡ b_parts b rest → (d : A) × (a_parts a ps ≡ a_parts d rest) × (join (a_tree a) (b_tree b) ≡ a_tree d))
    (right : Right b_parts b_tree next)
    (n : ℕ) (a : A) (ps : List Part) (x : Hit) → left_at behind join next n (a_tree a) ps ≡ Some x → Grows a_parts a_tree a ps x
unfolding left_at
right_left a_parts a_tree b_parts b_tree behind join next grow right zero a ps x h = let g = got (a_tree a) ps x h in (a, ap (a_parts a) g.1, sym g.0)
right_left a_parts a_tree b_parts b_tree behind join next grow right (suc n) a ps x h =
    left_case a_parts a_tree b_parts b_tree behind join next grow right n (λ d qs y k. right_left a_parts a_tree b_parts b_tree behind join next grow right n d qs y k) a ps x (behind ps) refl h

grow_chain : (a : Chain) (b : Factor) (ps qs rest : List Part) → behind_xor ps ≡ Some qs → qs ≡ factor_parts b rest → (d : Chain) × (chain_parts a ps ≡ chain_parts d rest) × (t_xor (chain_tree a) (factor_tree b) ≡ chain_tree d)
grow_chain a b ps qs rest h e = (caret a b, ap (chain_parts a) (sign_is 94 ps qs h ∙ ap (λ w. sign 94 ∷ w) e), refl)

grow_product : (a : Product) (b : Chain) (ps qs rest : List Part) → behind_and ps ≡ Some qs → qs ≡ chain_parts b rest → (d : Product) × (product_parts a ps ≡ product_parts d rest) × (t_and (product_tree a) (chain_tree b) ≡ product_tree d)
grow_product a b ps qs rest h e =
    elim (chosen (begins 42 ps || begins 38 ps) (Some (drop 1 ps)) (cond (opens ps) (Some ps) None) (Some qs) h) [
      | inl f ↦
          elim (either_is 42 38 ps qs (ap (λ c. cond c (Some (drop 1 ps)) None) f.0 ∙ f.1)) [
            | inl k ↦ (star a b, ap (product_parts a) (k ∙ ap (λ w. sign 42 ∷ w) e), refl)
            | inr k ↦ (ampersand a b, ap (product_parts a) (k ∙ ap (λ w. sign 38 ∷ w) e), refl)
          ]
      | inr f ↦
          elim (chosen (opens ps) (Some ps) None (Some qs) f.1) [
            | inl k ↦ (beside a b, ap (product_parts a) ((let s : ps ≡ qs = cc (k.1) in s) ∙ e), refl)
            | inr k ↦ absurd (cc (k.1))
          ]
    ]

grow_sum : (a : Sum) (b : Product) (ps qs rest : List Part) → behind_or ps ≡ Some qs → qs ≡ product_parts b rest → (d : Sum) × (sum_parts a ps ≡ sum_parts d rest) × (t_or (sum_tree a) (product_tree b) ≡ sum_tree d)
grow_sum a b ps qs rest h e = elim (either_is 43 124 ps qs h) [
  | inl k ↦ (plus a b, ap (sum_parts a) (k ∙ ap (λ w. sign 43 ∷ w) e), refl)
  | inr k ↦ (bar a b, ap (sum_parts a) (k ∙ ap (λ w. sign 124 ∷ w) e), refl)
]

abbrev chain_it : ℕ → Reader → Hit → Read
chain_it n sum x = left_at behind_xor t_xor (factor_at n sum) n x.0 x.1

right_chain : (n : ℕ) (sum : Reader) → Right sum_parts sum_tree sum → Right chain_parts chain_tree (chain_at n sum)
unfolding chain_at
right_chain n sum r ps x h =
    let o = bind_some (factor_at n sum ps) (chain_it n sum) x h in
    let d = right_factor n sum r ps o.0 o.1 in
    let again = ap (λ t. left_at behind_xor t_xor (factor_at n sum) n t o.0.1) (sym d.2) ∙ o.2 in
    let f = right_left chain_parts chain_tree factor_parts factor_tree behind_xor t_xor (factor_at n sum) grow_chain (right_factor n sum r) n (factor d.0) o.0.1 x again in
    (f.0, d.1 ∙ f.1, f.2)

abbrev product_it : ℕ → Reader → Hit → Read
product_it n sum x = left_at behind_and t_and (chain_at n sum) n x.0 x.1

right_product : (n : ℕ) (sum : Reader) → Right sum_parts sum_tree sum → Right product_parts product_tree (product_at n sum)
unfolding product_at
right_product n sum r ps x h =
    let o = bind_some (chain_at n sum ps) (product_it n sum) x h in
    let d = right_chain n sum r ps o.0 o.1 in
    let again = ap (λ t. left_at behind_and t_and (chain_at n sum) n t o.0.1) (sym d.2) ∙ o.2 in
    let f = right_left product_parts product_tree chain_parts chain_tree behind_and t_and (chain_at n sum) grow_product (right_chain n sum r) n (chain d.0) o.0.1 x again in
    (f.0, d.1 ∙ f.1, f.2)

abbrev sum_it : ℕ → Reader → Hit → Read
sum_it n sum x = left_at behind_or t_or (product_at n sum) n x.0 x.1

right_over : (n : ℕ) (sum : Reader) → Right sum_parts sum_tree sum → Right sum_parts sum_tree (sum_over n sum)
unfolding sum_over
right_over n sum r ps x h =
    let o = bind_some (product_at n sum ps) (sum_it n sum) x h in
    let d = right_product n sum r ps o.0 o.1 in
    let again = ap (λ t. left_at behind_or t_or (product_at n sum) n t o.0.1) (sym d.2) ∙ o.2 in
    let f = right_left sum_parts sum_tree product_parts product_tree behind_or t_or (product_at n sum) grow_sum (right_product n sum r) n (product d.0) o.0.1 x again in
    (f.0, d.1 ∙ f.1, f.2)

-- a sum that is read is derived
pub right_sum : (n : ℕ) → Right sum_parts sum_tree (sum_at n)
unfolding sum_at
right_sum zero ps x h = right_over zero (λ qs. None) (λ qs y k. absurd (cc)) ps x h
right_sum (suc n) ps x h = right_over (suc n) (sum_at n) (right_sum n) ps x h
