use Rattle.std.proofs.Common.{None, codes, refl, arith}
use Rattle.agm_net.specs.declared.port.Way.TheVariants.{Output}
use Rattle.share_wiring.specs.Worked.{port}
use Rattle.share_wiring.specs.WorkedWire.{through, through_marks, through_report, masked_through}
use Rattle.share_wiring.proofs.NotSame as wrong
use Rattle.share_wiring.proofs.Through as example
use Rattle.share_wiring.proofs.wrong.not_all_are_same.Goals as goal

pub returns : goal.returns
returns c = (
  wrong.wrong_well_formed through through_marks through_report masked_through 1 0 4 4 (port (codes "y") Output None 1) (port (codes "agm_s0_y") Output None 4) example.is_net example.masked_is_net example.is_same (omega arith) example.is_share example.is_unread refl,
  wrong.wrong_has_shape through through_marks through_report masked_through 1 0 4 4 (port (codes "y") Output None 1) (port (codes "agm_s0_y") Output None 4) example.is_net example.masked_is_net example.is_same (omega arith) example.is_share example.is_unread refl,
  wrong.wrong_has_no_loop through through_marks through_report masked_through 1 0 4 4 (port (codes "y") Output None 1) (port (codes "agm_s0_y") Output None 4) example.is_net example.masked_is_net example.is_same (omega arith) example.is_share example.is_unread refl,
  wrong.is_not_same through through_marks through_report masked_through 1 0 4 4 (port (codes "y") Output None 1) (port (codes "agm_s0_y") Output None 4) example.is_net example.masked_is_net example.is_same (omega arith) example.is_share example.is_unread refl example.is_driven,
)
