use Rattle.std.proofs.Common.{◌∙◌, ap, is_some, position}
use Rattle.std.specs.Str.{bytes_eq}
use Rattle.module_rules.proofs.names.is_in.Goals as goal
use Rattle.module_rules.proofs.Tables.{found_tells}

pub returns : goal.returns
returns c =
    c.is_some.ensures
    ∙ (ap is_some (c.find.ensures ∙ ap (λ n. position (λ m. bytes_eq m n) c.args.table.now) c.as_slice.ensures)
    ∙ found_tells c.args.table.now c.args.name.now)
