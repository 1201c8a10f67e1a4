use Rattle.std.proofs.Common.{◌≡◌, ℕ, false, ◌||◌, List, take}
use Rattle.top_module.specs.Marks.{is_among}
use Rattle.top_module.proofs.ports.table_of.Given as goal

abbrev pub invariant-loop-own : goal.invariant-loop-own
invariant-loop-own l = (name : List ℕ) → is_among name l.table ≡ (false || is_among name (take l.own-index l.names))
