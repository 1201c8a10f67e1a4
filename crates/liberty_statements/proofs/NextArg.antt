-- Arguments with a comma before them or none.
use Rattle.std.proofs.Common.{◌≡◌, ℕ, List, Some, sym, ap, ◌∙◌}
use Rattle.liberty_text.specs.Cuts.{Token}
use Rattle.liberty_statements.specs.Grammar.{Arg, arg_name}
use Rattle.liberty_statements.specs.Reading.{Fails, behind, as_value, begins, arg_at, behind_comma, with_comma, next_arg_at}
use Rattle.liberty_statements.specs.declared.stop.Stop.{Stop}
use Rattle.liberty_statements.proofs.Many.{hit, as_some, behind_as, fails_as, fails_of_as, fails_moved}

pub next_behind : (ts us r : List Token) → us ≡ behind_comma ts → behind (arg_at us) ≡ Some r → behind (next_arg_at ts) ≡ Some r
next_behind ts us r e h = behind_as (with_comma (begins 44 ts)) (arg_at (behind_comma ts)) ∙ (ap (λ vs. behind (arg_at vs)) (sym e) ∙ h)

pub next_fails : (s : Stop) (ts us : List Token) → us ≡ behind_comma ts → Fails s (behind (arg_at us)) → Fails s (behind (next_arg_at ts))
next_fails s ts us e h = fails_moved s (behind (arg_at us)) (behind (next_arg_at ts)) (ap (λ vs. behind (arg_at vs)) e ∙ sym (behind_as (with_comma (begins 44 ts)) (arg_at (behind_comma ts)))) h

-- an argument that is read, by its name
pub next_named : (ts us r : List Token) (n : List ℕ) → us ≡ behind_comma ts → as_value arg_name (arg_at us) ≡ Some (n, r) → (a : Arg) × (next_arg_at ts ≡ Some ((begins 44 ts, a), r)) × (arg_name a ≡ n)
next_named ts us r n e h =
    let a = as_some arg_name (arg_at us) (n, r) h in (
      a.0.0,
      ap (λ vs. as_value (with_comma (begins 44 ts)) (arg_at vs)) (sym e) ∙ (ap (as_value (with_comma (begins 44 ts))) a.1 ∙ ap (λ (s : List Token). hit (with_comma (begins 44 ts) a.0.0) s) a.3),
      a.2,
    )

pub named_fails : (s : Stop) (ts us : List Token) → us ≡ behind_comma ts → Fails s (as_value arg_name (arg_at us)) → Fails s (next_arg_at ts)
named_fails s ts us e h = fails_as s (with_comma (begins 44 ts)) (arg_at (behind_comma ts)) (fails_moved s (arg_at us) (arg_at (behind_comma ts)) (ap arg_at e) (fails_of_as s arg_name (arg_at us) h))
