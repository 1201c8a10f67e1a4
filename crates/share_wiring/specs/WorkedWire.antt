-- A second worked example: a net whose output is its input, and one that was masked by hand.
use Rattle.std.specs.Prelude.{List, [], ◌∷◌, Some, None, codes}
use Rattle.agm_net.specs.Formula.{f_wire}
use Rattle.agm_net.specs.Plain.{PlainNet}
use Rattle.agm_net.specs.declared.mark.Mark.{Mark}
use Rattle.agm_net.specs.declared.mark.Mark.TheVariants.{Unmarked, Secure}
use Rattle.agm_net.specs.declared.port.Way.TheVariants.{Input, Output}
use Rattle.share_wiring.specs.Worked.{port}
use Rattle.share_wiring.specs.declared.report.Report.{Report}
use Rattle.share_wiring.specs.declared.report.Mode.TheVariants.{Naive}
use Rattle.share_wiring.specs.declared.report.Balance.TheVariants.{Pipe}

abbrev pub through : PlainNet
through = record {
  ports = port (codes "x") Input None 0 ∷ port (codes "y") Output None 1 ∷ [];
  wires = codes "x" ∷ codes "y" ∷ [];
  lines = (1, f_wire 0) ∷ [];
  registers = [];
  clock = None;
}

-- x is secret
abbrev pub through_marks : List Mark
through_marks = Secure ∷ Unmarked ∷ []

abbrev pub through_report : Report
through_report = record {
  order = 1;
  mode = Naive;
  balance = Pipe;
  gadgets = 0;
  random = 0;
  latency = 0;
  period = 1;
  streams = 1;
  public_registers = 0;
  secret_registers = 0;
  ports = codes "x" ∷ codes "y" ∷ [];
}

-- masked at order 1: each share of y is that of x
abbrev pub masked_through : PlainNet
masked_through = record {
  ports = port (codes "agm_clk") Input None 0 ∷ port (codes "agm_load") Input None 1 ∷ port (codes "agm_s0_x") Input None 2 ∷ port (codes "agm_s1_x") Input None 3
      ∷ port (codes "agm_s0_y") Output None 4 ∷ port (codes "agm_s1_y") Output None 5 ∷ [];
  wires = codes "agm_clk" ∷ codes "agm_load" ∷ codes "agm_s0_x" ∷ codes "agm_s1_x" ∷ codes "agm_s0_y" ∷ codes "agm_s1_y" ∷ [];
  lines = (4, f_wire 2) ∷ (5, f_wire 3) ∷ [];
  registers = [];
  clock = Some 0;
}
