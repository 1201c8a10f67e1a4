use Rattle.std.proofs.Common.{ap}
use Rattle.agm_net.specs.declared.port.Way.TheVariants.{Output}
use Rattle.share_wiring.specs.Wiring.{Wiring}
use Rattle.pipeline_balance.proofs.Porting.{fits_new}
use Rattle.pipeline_balance.proofs.LeavingRows.{one_led}
use Rattle.pipeline_balance.proofs.leaving.row_out.Goals as goal

pub port_out-requires-clause-port : goal.port_out-requires-clause-port
port_out-requires-clause-port c = fits_new c.args.builder.now (record { name = c.args.name.now; way = Output; range = c.args.range }) c.clock-clock.ensures.built c.requires.fit

pub returns : goal.returns
returns c =
    let made = c.in_ok-port_out.ensures in
    one_led c.args.builder.now c.port_out.new.self c.args.place c.args.name.now c.args.range c.args.row.now c.requires.fit.new_name c.requires.bits
    (ap (λ (w : Wiring). w.ports) made.made) c.requires.other (ap (λ (w : Wiring). w.gadgets) made.made) (ap (λ (w : Wiring). w.given) made.made) made.network made.extends made.cells made.value
