use Rattle.std.proofs.Common.{◌-◌, ◌+◌, sym, ap, ◌∙◌, arith}
use Rattle.std.proofs.lemmas.Result.{err_from_is_err_and}
use Rattle.cell_function.specs.Parts.{parts_of}
use Rattle.cell_function.specs.Reading.{behind_or, behind_and, behind_xor, left_at, factor_at, chain_at, product_at, inner_at}
use Rattle.cell_function.specs.Tree.{tree_of, t_and, t_or, t_xor}
use Rattle.cell_function.proofs.Left.{stops_here, goes_on, at_end, fails_here, inside_none, inside_fails, inside_some, inside_open, sum_fails, sum_after}
use Rattle.cell_function.proofs.sums.+sums.Goals as goal

pub inside-returns-then-limit-eq0 : goal.inside-returns-then-limit-eq0
inside-returns-then-limit-eq0 t c = inside_none c.args.limit (parts_of c.args.text.now) (omega arith)

pub inside-returns-in_err-function : goal.inside-returns-in_err-function
inside-returns-in_err-function t c =
    let p = err_from_is_err_and c.from_residual.result c.from_residual.ensures.1 in
    rw (p.1, p.2) (inside_fails c.in_err-function.field-0.0 c.args.limit (c.args.limit - 1) (parts_of c.args.text.now) (omega arith) c.in_err-function.ensures)

pub inside-returns-in-Some : goal.inside-returns-in-Some
inside-returns-in-Some t c =
    inside_some c.args.limit (c.args.limit - 1) (parts_of c.args.text.now) (parts_of c.in-Some.behind.now) (tree_of c.in_ok-function.function, parts_of c.in_ok-function.rest.now) (omega arith) c.in_ok-function.ensures c.in-Some.ensures

pub inside-returns-in-None : goal.inside-returns-in-None
inside-returns-in-None t c =
    inside_open c.args.limit (c.args.limit - 1) (parts_of c.args.text.now) (tree_of c.in_ok-function.function, parts_of c.in_ok-function.rest.now) (omega arith) c.in_ok-function.ensures c.in-None.ensures

pub sum-returns-in_err-first : goal.sum-returns-in_err-first
sum-returns-in_err-first t c =
    let p = err_from_is_err_and c.from_residual.result c.from_residual.ensures.1 in
    rw (p.1, p.2) (sum_fails c.in_err-first.field-0.0 c.args.limit (parts_of c.args.text.now) c.in_err-first.ensures)

pub sum-returns : goal.sum-returns
sum-returns t c =
    rw (sum_after c.args.limit (parts_of c.args.text.now) (tree_of c.in_ok-first.first, parts_of c.in_ok-first.rest.now) c.in_ok-first.ensures) c.more_products.ensures

pub more_factors-returns-in_err-next-in-Some : goal.more_factors-returns-in_err-next-in-Some
more_factors-returns-in_err-next-in-Some t c =
    let p = err_from_is_err_and c.from_residual.result c.from_residual.ensures.1 in
    rw (p.1, p.2) (fails_here c.in_err-next-in-Some.field-0.0 behind_xor t_xor (factor_at c.args.limit (inner_at c.args.limit)) (c.args.limit - c.loop.counter) (c.args.limit - (c.loop.counter + 1)) (tree_of c.loop.chain) (parts_of c.loop.rest.now) (parts_of c.in-Some.behind.now) (left_at behind_xor t_xor (factor_at c.args.limit (inner_at c.args.limit)) c.args.limit (tree_of c.args.first) (parts_of c.args.text.now)) c.loop.invariant (omega arith) c.in-Some.ensures c.in_err-next-in-Some.ensures)

pub more_factors-returns-in-None : goal.more_factors-returns-in-None
more_factors-returns-in-None t c = sym c.loop.invariant ∙ stops_here behind_xor t_xor (factor_at c.args.limit (inner_at c.args.limit)) (c.args.limit - c.loop.counter) (tree_of c.loop.chain) (parts_of c.loop.rest.now) c.in-None.ensures

pub more_factors-loop-preserved : goal.more_factors-loop-preserved
more_factors-loop-preserved t c =
    ap (λ u. left_at behind_xor t_xor (factor_at c.args.limit (inner_at c.args.limit)) (c.args.limit - (c.loop.counter + 1)) u (parts_of c.in_ok-next-in-Some.behind.now)) c.in_ok-chain-in-Some.ensures
    ∙ (sym (goes_on behind_xor t_xor (factor_at c.args.limit (inner_at c.args.limit)) (c.args.limit - c.loop.counter) (c.args.limit - (c.loop.counter + 1)) (tree_of c.loop.chain) (parts_of c.loop.rest.now) (parts_of c.in-Some.behind.now) (tree_of c.in_ok-next-in-Some.next, parts_of c.in_ok-next-in-Some.behind.now) (omega arith) c.in-Some.ensures c.in_ok-next-in-Some.ensures) ∙ c.loop.invariant)

pub more_factors-returns : goal.more_factors-returns
more_factors-returns t c = sym c.loop.invariant ∙ at_end behind_xor t_xor (factor_at c.args.limit (inner_at c.args.limit)) (c.args.limit - c.loop.counter) (tree_of c.loop.chain) (parts_of c.loop.rest.now) (omega arith)

pub more_chains-returns-in_err-next-in-Some : goal.more_chains-returns-in_err-next-in-Some
more_chains-returns-in_err-next-in-Some t c =
    let p = err_from_is_err_and c.from_residual.result c.from_residual.ensures.1 in
    rw (p.1, p.2) (fails_here c.in_err-next-in-Some.field-0.0 behind_and t_and (chain_at c.args.limit (inner_at c.args.limit)) (c.args.limit - c.loop.counter) (c.args.limit - (c.loop.counter + 1)) (tree_of c.loop.product) (parts_of c.loop.rest.now) (parts_of c.in-Some.behind.now) (left_at behind_and t_and (chain_at c.args.limit (inner_at c.args.limit)) c.args.limit (tree_of c.args.first) (parts_of c.args.text.now)) c.loop.invariant (omega arith) c.in-Some.ensures c.in_err-next-in-Some.ensures)

pub more_chains-returns-in-None : goal.more_chains-returns-in-None
more_chains-returns-in-None t c = sym c.loop.invariant ∙ stops_here behind_and t_and (chain_at c.args.limit (inner_at c.args.limit)) (c.args.limit - c.loop.counter) (tree_of c.loop.product) (parts_of c.loop.rest.now) c.in-None.ensures

pub more_chains-loop-preserved : goal.more_chains-loop-preserved
more_chains-loop-preserved t c =
    ap (λ u. left_at behind_and t_and (chain_at c.args.limit (inner_at c.args.limit)) (c.args.limit - (c.loop.counter + 1)) u (parts_of c.in_ok-next-in-Some.behind.now)) c.in_ok-product-in-Some.ensures
    ∙ (sym (goes_on behind_and t_and (chain_at c.args.limit (inner_at c.args.limit)) (c.args.limit - c.loop.counter) (c.args.limit - (c.loop.counter + 1)) (tree_of c.loop.product) (parts_of c.loop.rest.now) (parts_of c.in-Some.behind.now) (tree_of c.in_ok-next-in-Some.next, parts_of c.in_ok-next-in-Some.behind.now) (omega arith) c.in-Some.ensures c.in_ok-next-in-Some.ensures) ∙ c.loop.invariant)

pub more_chains-returns : goal.more_chains-returns
more_chains-returns t c = sym c.loop.invariant ∙ at_end behind_and t_and (chain_at c.args.limit (inner_at c.args.limit)) (c.args.limit - c.loop.counter) (tree_of c.loop.product) (parts_of c.loop.rest.now) (omega arith)

pub more_products-returns-in_err-next-in-Some : goal.more_products-returns-in_err-next-in-Some
more_products-returns-in_err-next-in-Some t c =
    let p = err_from_is_err_and c.from_residual.result c.from_residual.ensures.1 in
    rw (p.1, p.2) (fails_here c.in_err-next-in-Some.field-0.0 behind_or t_or (product_at c.args.limit (inner_at c.args.limit)) (c.args.limit - c.loop.counter) (c.args.limit - (c.loop.counter + 1)) (tree_of c.loop.sum) (parts_of c.loop.rest.now) (parts_of c.in-Some.behind.now) (left_at behind_or t_or (product_at c.args.limit (inner_at c.args.limit)) c.args.limit (tree_of c.args.first) (parts_of c.args.text.now)) c.loop.invariant (omega arith) c.in-Some.ensures c.in_err-next-in-Some.ensures)

pub more_products-returns-in-None : goal.more_products-returns-in-None
more_products-returns-in-None t c = sym c.loop.invariant ∙ stops_here behind_or t_or (product_at c.args.limit (inner_at c.args.limit)) (c.args.limit - c.loop.counter) (tree_of c.loop.sum) (parts_of c.loop.rest.now) c.in-None.ensures

pub more_products-loop-preserved : goal.more_products-loop-preserved
more_products-loop-preserved t c =
    ap (λ u. left_at behind_or t_or (product_at c.args.limit (inner_at c.args.limit)) (c.args.limit - (c.loop.counter + 1)) u (parts_of c.in_ok-next-in-Some.behind.now)) c.in_ok-sum-in-Some.ensures
    ∙ (sym (goes_on behind_or t_or (product_at c.args.limit (inner_at c.args.limit)) (c.args.limit - c.loop.counter) (c.args.limit - (c.loop.counter + 1)) (tree_of c.loop.sum) (parts_of c.loop.rest.now) (parts_of c.in-Some.behind.now) (tree_of c.in_ok-next-in-Some.next, parts_of c.in_ok-next-in-Some.behind.now) (omega arith) c.in-Some.ensures c.in_ok-next-in-Some.ensures) ∙ c.loop.invariant)

pub more_products-returns : goal.more_products-returns
more_products-returns t c = sym c.loop.invariant ∙ at_end behind_or t_or (product_at c.args.limit (inner_at c.args.limit)) (c.args.limit - c.loop.counter) (tree_of c.loop.sum) (parts_of c.loop.rest.now) (omega arith)
