use Rattle.std.proofs.Common.{◌≡◌, ◌*◌, ◌%◌, ◌^◌}
use Rattle.rand_chacha.specs.ChaCha.{key_of}
use Rattle.random_draws.specs.Draws.{random_rows}
use Rattle.random_draws.proofs.tape.draw.Given as goal

abbrev pub invariant-loop : goal.invariant-loop
invariant-loop l = record {
  turn : l.bits ≡ record { key = key_of l.seed; stream = 0; next = l.counter * l.width % 2 ^ 128 };
  rows : l.drawn ≡ random_rows l.seed l.counter l.width;
}
