use Rattle.std.proofs.Common.{◌≡◌, ◌-◌, ◌+◌, ◌*◌}
use Rattle.cell_function.specs.Parts.{parts_of}
use Rattle.cell_function.specs.Reading as spec
use Rattle.cell_function.specs.Tree.{tree_of, t_and, t_or, t_xor}
use Rattle.cell_function.proofs.sums.+sums.Given as goal

abbrev pub decreases-inside : goal.decreases-inside
decreases-inside l = 10 * l.limit

abbrev pub decreases-operand : goal.decreases-operand
decreases-operand l = 10 * l.limit + 1

abbrev pub decreases-primed : goal.decreases-primed
decreases-primed l = 10 * l.limit + 2

abbrev pub decreases-factor : goal.decreases-factor
decreases-factor l = 10 * l.limit + 3

abbrev pub decreases-more_factors : goal.decreases-more_factors
decreases-more_factors l = 10 * l.limit + 4

abbrev pub decreases-chain : goal.decreases-chain
decreases-chain l = 10 * l.limit + 5

abbrev pub decreases-more_chains : goal.decreases-more_chains
decreases-more_chains l = 10 * l.limit + 6

abbrev pub decreases-product : goal.decreases-product
decreases-product l = 10 * l.limit + 7

abbrev pub decreases-more_products : goal.decreases-more_products
decreases-more_products l = 10 * l.limit + 8

abbrev pub decreases-sum : goal.decreases-sum
decreases-sum l = 10 * l.limit + 9

abbrev pub invariant-more_factors-loop : goal.invariant-more_factors-loop
invariant-more_factors-loop l =
    spec.left_at spec.behind_xor t_xor (spec.factor_at l.limit (spec.inner_at l.limit)) (l.limit - l.counter) (tree_of l.chain) (parts_of l.rest)
    ≡ spec.left_at spec.behind_xor t_xor (spec.factor_at l.limit (spec.inner_at l.limit)) l.limit (tree_of l.fn.first) (parts_of l.text)

abbrev pub invariant-more_chains-loop : goal.invariant-more_chains-loop
invariant-more_chains-loop l =
    spec.left_at spec.behind_and t_and (spec.chain_at l.limit (spec.inner_at l.limit)) (l.limit - l.counter) (tree_of l.product) (parts_of l.rest)
    ≡ spec.left_at spec.behind_and t_and (spec.chain_at l.limit (spec.inner_at l.limit)) l.limit (tree_of l.fn.first) (parts_of l.text)

abbrev pub invariant-more_products-loop : goal.invariant-more_products-loop
invariant-more_products-loop l =
    spec.left_at spec.behind_or t_or (spec.product_at l.limit (spec.inner_at l.limit)) (l.limit - l.counter) (tree_of l.sum) (parts_of l.rest)
    ≡ spec.left_at spec.behind_or t_or (spec.product_at l.limit (spec.inner_at l.limit)) l.limit (tree_of l.fn.first) (parts_of l.text)
