use Rattle.std.proofs.Common.{◌≡◌, ◌<◌, ℕ, length, get_or}
use Rattle.secrecy_spread.specs.Reach.{last_from, from_at}
use Rattle.secrecy_spread.proofs.reach.chains_of.Given as goal

abbrev pub invariant-loop-i : goal.invariant-loop-i
invariant-loop-i l = record {
  one_each : length l.heads.items ≡ l.n;
  last : (v : ℕ) → v < l.n → get_or l.heads.items v 0 ≡ last_from l.edges l.i v;
  as_many : length l.nexts.items ≡ l.i;
  back : (j : ℕ) → j < l.i → get_or l.nexts.items j 0 ≡ last_from l.edges j (from_at l.edges j);
}
