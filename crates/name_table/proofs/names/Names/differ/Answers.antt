use Rattle.name_table.proofs.Keys.{names_differ}
use Rattle.name_table.proofs.names.Names.differ.Goals as goal

pub returns : goal.returns
returns c = rw (← c.self.view_is) (names_differ c.self.inside.table.keys c.len.ensures.unique)
