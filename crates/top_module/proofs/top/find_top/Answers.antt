use Rattle.std.proofs.Common.{ℕ, ◌<◌, ◌≤◌, length, get_or, ap, subst, ◌∙◌}
use Rattle.top_module.proofs.Numbering.{first_within}
use Rattle.top_module.proofs.top.find_top.Goals as goal

pub returns-in-len1-clause-within : goal.returns-in-len1-clause-within
returns-in-len1-clause-within c =
    let some : 1 ≤ length c.as_slice-2.result.now = c.in-len1.len_at_least in
    subst (λ (n : ℕ). get_or c.as_slice-2.result.now 0 0 < n) (ap length c.as_slice.ensures)
    (first_within c.as_slice.result.now c.as_slice-2.result.now (c.as_slice-2.ensures ∙ c.in_ok-candidates.ensures) some)
