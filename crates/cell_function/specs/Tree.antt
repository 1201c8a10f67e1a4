-- What a function text spells: inversion, and, or and exclusive or over constants and pins.
use Rattle.std.specs.Prelude.{ℕ, Bool, List}
use Rattle.cell_function.specs.declared.function.Function.{Function, Constant, Pin, Not', And', Or', Xor'}

-- a function apart from where its parts lie in memory
pub data Tree : Type 0 where
  t_constant : Bool → Tree
  t_pin : List ℕ → Tree
  t_not : Tree → Tree
  t_and : Tree → Tree → Tree
  t_or : Tree → Tree → Tree
  t_xor : Tree → Tree → Tree

abbrev pub tree_of : Function → Tree
tree_of (Constant v) = t_constant v
tree_of (Pin n) = t_pin n
tree_of (Not' p x) = t_not (tree_of x)
tree_of (And' p x q y) = t_and (tree_of x) (tree_of y)
tree_of (Or' p x q y) = t_or (tree_of x) (tree_of y)
tree_of (Xor' p x q y) = t_xor (tree_of x) (tree_of y)
