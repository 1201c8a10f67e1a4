use Rattle.std.proofs.Common.{◌≡◌, ◌++◌, map, take}
use Rattle.agm_net.specs.Plain.{select_name}
use Rattle.module_outlines.proofs.bits.push_numbers.Given as goal

abbrev pub invariant-loop-number : goal.invariant-loop-number
invariant-loop-number l = l.texts ≡ l.initial.texts ++ map (λ t. l.prefix ++ t) (map (select_name l.name) (take l.number-index l.numbers))
