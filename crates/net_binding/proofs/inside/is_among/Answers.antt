use Rattle.std.proofs.Common.{◌∙◌}
use Rattle.net_binding.proofs.inside.is_among.Goals as goal
use Rattle.net_binding.proofs.Stacks.{among_path}

pub returns : goal.returns
returns c = c.has_number.ensures ∙ among_path c.args.frames.now c.args.number
