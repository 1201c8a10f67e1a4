use Rattle.std.proofs.Common.{◌≡◌, ◌+◌, ◌%◌, ◌^◌}
use Rattle.random_draws.specs.Draws.{random_bits}
use Rattle.random_draws.proofs.bits.RandomBits.row.Given as goal

abbrev pub invariant-loop : goal.invariant-loop
invariant-loop l = record {
  row : l.row ≡ random_bits l.initial.self.key l.initial.self.stream l.initial.self.next l.counter;
  turn : l.self ≡ record l.initial.self { next = (l.initial.self.next + l.counter) % 2 ^ 128 };
}
