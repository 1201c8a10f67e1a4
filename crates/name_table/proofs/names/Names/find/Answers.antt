use Rattle.std.proofs.Common.{◌∙◌}
use Rattle.name_table.proofs.Keys.{position_of_key}
use Rattle.name_table.proofs.names.Names.find.Goals as goal

pub returns : goal.returns
returns c = rw (← c.self.view_is) (c.get_index_of.ensures.index ∙ position_of_key c.args.name.now c.self.inside.table.keys)
