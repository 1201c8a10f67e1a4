use Rattle.verilog_reader.proofs.OneDesign as law
use Rattle.verilog_reader.proofs.read.one_design.Goals as goal

pub returns : goal.returns
returns c = law.one_design
