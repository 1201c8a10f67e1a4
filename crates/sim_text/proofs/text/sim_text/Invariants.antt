use Rattle.std.proofs.Common.{take}
use Rattle.agm_net.specs.View.{plain_of}
use Rattle.sim_text.specs.Text.{IsSimText}
use Rattle.sim_text.proofs.text.sim_text.Given as goal

abbrev pub invariant-loop-number : goal.invariant-loop-number
invariant-loop-number l = IsSimText (plain_of l.net) (take l.number l.stimulus.streams) l.text
