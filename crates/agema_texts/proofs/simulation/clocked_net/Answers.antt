use Rattle.std.proofs.Common.{map}
use Rattle.agm_net.specs.View.{plain_of}
use Rattle.cell_library.specs.Spelled.{cell_of}
use Rattle.verilog_reader.specs.View.{design_view}
use Rattle.agema_texts.proofs.Tops.{bound_top}
use Rattle.agema_texts.proofs.simulation.clocked_net.Goals as goal

pub check_clocks-requires : goal.check_clocks-requires
check_clocks-requires c = bound_top (map cell_of c.args.library.now.cells) (design_view c.in_ok-read.read.design) (plain_of c.in_ok-read.read.net) c.in_ok-read.ensures.ok.0.binds
