use Rattle.std.proofs.Common.{◌≡◌, [], drop, map}
use Rattle.verilog_reader.specs.View.{module_view}
use Rattle.cell_library.specs.Found.{raw_name}
use Rattle.module_rules.specs.Rules.{first_fault}
use Rattle.module_rules.proofs.check.check_modules.Given as goal

abbrev pub invariant-loop-module : goal.invariant-loop-module
invariant-loop-module l = first_fault (map raw_name l.library.cells) l.earlier (map module_view (drop l.module-index l.design.modules)) ≡ first_fault (map raw_name l.library.cells) [] (map module_view l.design.modules)
