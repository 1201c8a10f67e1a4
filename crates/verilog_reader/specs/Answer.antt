-- When each fault comes.
use Rattle.std.specs.Prelude.{◌≤◌, ℕ, List, length}
use Rattle.verilog_reader.specs.Plain.{PlainDesign}
use Rattle.verilog_reader.specs.Grammar.{Spelled}
use Rattle.verilog_reader.specs.declared.design.DesignFault.{DesignFault}
use Rattle.verilog_reader.specs.declared.design.DesignFault.TheVariants.{Syntax, Memory}

-- `Syntax` comes where no design is spelled, with a place in the text or its end
abbrev pub IsFault : List ℕ → DesignFault → Type 0
IsFault bytes (Syntax at) = ((d : PlainDesign) → ¬ Spelled bytes d) × (at ≤ length bytes)
IsFault bytes Memory = Unit {0}
