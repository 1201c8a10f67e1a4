-- Reading parts from left to right: what stands in front of a list of parts, with the parts behind it.
use Rattle.std.specs.Prelude.{◌≡◌, ◌==◌, ◌||◌, ◌+◌, ℕ, zero, suc, Bool, true, false, cond, List, [], ◌∷◌, drop, length, Option, Some, None, Result, Ok, Err}
use Rattle.cell_function.specs.Cuts.{Part, name, sign}
use Rattle.cell_function.specs.Parts.{parts_of}
use Rattle.cell_function.specs.Tree.{Tree, t_constant, t_pin, t_not, t_and, t_or, t_xor}
use Rattle.cell_function.specs.declared.stop.Stop.{Stop}
use Rattle.cell_function.specs.declared.stop.Stop.TheVariants as stops

abbrev pub Read : Type 0
Read = Option (Tree × List Part)

abbrev pub Reader : Type 0
Reader = List Part → Read

-- A function stops where reading gives nothing, unless memory ran out.
abbrev pub Fails : {Y : Type 0} → Stop → Option Y → Type 0
Fails stops.Memory read = Unit {0}
Fails stops.Wrong read = read ≡ None

-- what a function returned is what reading gives
abbrev pub Gives : {X Y : Type 0} → (X → Y) → Result X Stop → Option Y → Type 0
Gives view (Ok x) read = read ≡ Some (view x)
Gives view (Err e) read = Fails e read

infixl 10 ◌>>=◌
abbrev pub ◌>>=◌ : {A B : Type 0} → Option A → (A → Option B) → Option B
None >>= f = None
(Some x) >>= f = f x

-- whether a sign stands in front
abbrev pub begins : ℕ → List Part → Bool
begins s (sign c ∷ ps) = c == s
begins s _ = false

-- what stands behind a sign
abbrev pub sign_at : ℕ → List Part → Option (List Part)
sign_at s ps = cond (begins s ps) (Some (drop 1 ps)) None

-- whether an operand stands in front, or `!`
abbrev pub opens : List Part → Bool
opens (name n ∷ ps) = true
opens (sign c ∷ ps) = (c == 48) || ((c == 49) || ((c == 33) || (c == 40)))
opens _ = false

-- what stands behind an operator, None where none stands in front
abbrev pub behind_or : List Part → Option (List Part)
behind_or ps = cond (begins 43 ps || begins 124 ps) (Some (drop 1 ps)) None

abbrev pub behind_and : List Part → Option (List Part)
behind_and ps = cond (begins 42 ps || begins 38 ps) (Some (drop 1 ps)) (cond (opens ps) (Some ps) None)

abbrev pub behind_xor : List Part → Option (List Part)
behind_xor ps = sign_at 94 ps

-- operands behind operators, joined to the left, at most so many
abbrev pub left_go : Option (List Part) → Read → Reader → Read
left_go None stop go = stop
left_go (Some ps) stop go = go ps

unfoldable pub left_at : (List Part → Option (List Part)) → (Tree → Tree → Tree) → Reader → ℕ → Tree → Reader
left_at behind join next zero tree ps = Some (tree, ps)
left_at behind join next (suc n) tree ps = left_go (behind ps) (Some (tree, ps)) (λ qs. next qs >>= (λ x. left_at behind join next n (join tree x.0) x.1))

-- `sum )`, behind `(`
unfoldable pub inside_at : Reader → Reader
inside_at sum ps = do
  x ← sum ps
  rest ← sign_at 41 x.1
  Some (x.0, rest)

abbrev pub constant_at : ℕ → Reader → Reader
constant_at c sum ps = cond (c == 48) (Some (t_constant false, ps)) (cond (c == 49) (Some (t_constant true, ps)) (cond (c == 40) (inside_at sum ps) None))

abbrev pub operand_at : Reader → Reader
operand_at sum (name n ∷ ps) = Some (t_pin n, ps)
operand_at sum (sign c ∷ ps) = constant_at c sum ps
operand_at sum _ = None

-- `'` as often as it comes, at most so often
unfoldable pub primes_at : ℕ → Tree → List Part → Tree × List Part
primes_at zero tree ps = (tree, ps)
primes_at (suc n) tree ps = cond (begins 39 ps) (primes_at n (t_not tree) (drop 1 ps)) (tree, ps)

unfoldable pub primed_at : ℕ → Reader → Reader
primed_at n sum ps = operand_at sum ps >>= (λ x. Some (primes_at n x.0 x.1))

-- how often `!` comes, added to a number
unfoldable pub bangs_at : ℕ → ℕ → List Part → ℕ × List Part
bangs_at zero count ps = (count, ps)
bangs_at (suc n) count ps = cond (begins 33 ps) (bangs_at n (count + 1) (drop 1 ps)) (count, ps)

-- so many inversions
unfoldable pub nots : ℕ → Tree → Tree
nots zero tree = tree
nots (suc n) tree = nots n (t_not tree)

unfoldable pub factor_at : ℕ → Reader → Reader
factor_at n sum ps = primed_at n sum (bangs_at n 0 ps).1 >>= (λ x. Some (nots (bangs_at n 0 ps).0 x.0, x.1))

unfoldable pub chain_at : ℕ → Reader → Reader
chain_at n sum ps = factor_at n sum ps >>= (λ x. left_at behind_xor t_xor (factor_at n sum) n x.0 x.1)

unfoldable pub product_at : ℕ → Reader → Reader
product_at n sum ps = chain_at n sum ps >>= (λ x. left_at behind_and t_and (chain_at n sum) n x.0 x.1)

unfoldable pub sum_over : ℕ → Reader → Reader
sum_over n sum ps = product_at n sum ps >>= (λ x. left_at behind_or t_or (product_at n sum) n x.0 x.1)

-- A sum. The number bounds how deep it nests and how many operands and signs stand in a row in it.
unfoldable pub sum_at : ℕ → Reader
sum_at zero ps = sum_over zero (λ qs. None) ps
sum_at (suc n) ps = sum_over (suc n) (sum_at n) ps

-- the sums that may stand in parentheses
unfoldable pub inner_at : ℕ → Reader
inner_at zero ps = None
inner_at (suc n) ps = sum_at n ps

-- the function that the parts spell
abbrev pub ended : Tree → List Part → Option Tree
ended tree [] = Some tree
ended tree (p ∷ ps) = None

unfoldable pub function_at : ℕ → List Part → Option Tree
function_at n ps = do
  x ← sum_at n ps
  ended x.0 x.1

-- the function of a text
unfoldable pub function_of : List ℕ → Option Tree
function_of text = function_at (length text) (parts_of text)
