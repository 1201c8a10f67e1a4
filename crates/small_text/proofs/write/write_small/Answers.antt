use Rattle.small_text.proofs.Printed.{printed_right}
use Rattle.small_text.proofs.write.write_small.Goals as goal

pub returns : goal.returns
returns c = printed_right c.args.small.now c.print.result c.requires.small c.requires.names c.print.ensures
