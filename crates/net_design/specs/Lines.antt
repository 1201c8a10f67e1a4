-- The lines of items.
use Rattle.std.specs.Prelude.{ℕ, List}
use Rattle.std.specs.List.{flat_map}
use Rattle.verilog_reader.specs.Plain.{PlainItem}
use Rattle.design_text.specs.Parts.{parts_text}
use Rattle.design_text.specs.Written.{item_parts}

abbrev pub lines_text : List PlainItem → List ℕ
lines_text items = parts_text (flat_map item_parts items)
