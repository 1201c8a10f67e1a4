-- The grammar of function texts. Inversion binds closest, then `^`, then and, then or; all are grouped to the left.
use Rattle.std.specs.Prelude.{◌≡◌, ℕ, Bool, cond, List, [], ◌∷◌}
use Rattle.cell_function.specs.Cuts.{Part, name, sign, Cuts}
use Rattle.cell_function.specs.Tree.{Tree, t_constant, t_pin, t_not, t_and, t_or, t_xor}

-- one derivation of a text for each way of writing it
mutual
  -- product | sum "+" product | sum "|" product
  pub data Sum : Type 0 where
    product : Product → Sum
    plus : Sum → Product → Sum
    bar : Sum → Product → Sum

  -- chain | product "*" chain | product "&" chain | product chain
  pub data Product : Type 0 where
    chain : Chain → Product
    star : Product → Chain → Product
    ampersand : Product → Chain → Product
    beside : Product → Chain → Product

  -- factor | chain "^" factor
  pub data Chain : Type 0 where
    factor : Factor → Chain
    caret : Chain → Factor → Chain

  -- primed | "!" factor
  pub data Factor : Type 0 where
    primed : Primed → Factor
    bang : Factor → Factor

  -- operand | primed "'"
  pub data Primed : Type 0 where
    operand : Operand → Primed
    prime : Primed → Primed

  -- name | "0" | "1" | "(" sum ")"
  pub data Operand : Type 0 where
    pin : List ℕ → Operand
    constant : Bool → Operand
    inside : Sum → Operand

-- what stands in front of a rest where a sum and so on is written there
abbrev mutual
  pub sum_parts : Sum → List Part → List Part
  sum_parts (product p) rest = product_parts p rest
  sum_parts (plus s p) rest = sum_parts s (sign 43 ∷ product_parts p rest)
  sum_parts (bar s p) rest = sum_parts s (sign 124 ∷ product_parts p rest)

  pub product_parts : Product → List Part → List Part
  product_parts (chain c) rest = chain_parts c rest
  product_parts (star p c) rest = product_parts p (sign 42 ∷ chain_parts c rest)
  product_parts (ampersand p c) rest = product_parts p (sign 38 ∷ chain_parts c rest)
  product_parts (beside p c) rest = product_parts p (chain_parts c rest)

  pub chain_parts : Chain → List Part → List Part
  chain_parts (factor f) rest = factor_parts f rest
  chain_parts (caret c f) rest = chain_parts c (sign 94 ∷ factor_parts f rest)

  pub factor_parts : Factor → List Part → List Part
  factor_parts (primed p) rest = primed_parts p rest
  factor_parts (bang f) rest = sign 33 ∷ factor_parts f rest

  pub primed_parts : Primed → List Part → List Part
  primed_parts (operand o) rest = operand_parts o rest
  primed_parts (prime p) rest = primed_parts p (sign 39 ∷ rest)

  pub operand_parts : Operand → List Part → List Part
  operand_parts (pin n) rest = name n ∷ rest
  operand_parts (constant v) rest = sign (cond v 49 48) ∷ rest
  operand_parts (inside s) rest = sign 40 ∷ sum_parts s (sign 41 ∷ rest)

-- the function that is written
abbrev mutual
  pub sum_tree : Sum → Tree
  sum_tree (product p) = product_tree p
  sum_tree (plus s p) = t_or (sum_tree s) (product_tree p)
  sum_tree (bar s p) = t_or (sum_tree s) (product_tree p)

  pub product_tree : Product → Tree
  product_tree (chain c) = chain_tree c
  product_tree (star p c) = t_and (product_tree p) (chain_tree c)
  product_tree (ampersand p c) = t_and (product_tree p) (chain_tree c)
  product_tree (beside p c) = t_and (product_tree p) (chain_tree c)

  pub chain_tree : Chain → Tree
  chain_tree (factor f) = factor_tree f
  chain_tree (caret c f) = t_xor (chain_tree c) (factor_tree f)

  pub factor_tree : Factor → Tree
  factor_tree (primed p) = primed_tree p
  factor_tree (bang f) = t_not (factor_tree f)

  pub primed_tree : Primed → Tree
  primed_tree (operand o) = operand_tree o
  primed_tree (prime p) = t_not (primed_tree p)

  pub operand_tree : Operand → Tree
  operand_tree (pin n) = t_pin n
  operand_tree (constant v) = t_constant v
  operand_tree (inside s) = sum_tree s

-- A text spells a function: it is cut into the parts of a sum with that function.
pub record Spelled (bytes : List ℕ) (tree : Tree) : Type 0 where
  pub sum : Sum
  pub cut : Cuts bytes (sum_parts sum [])
  pub means : tree ≡ sum_tree sum
