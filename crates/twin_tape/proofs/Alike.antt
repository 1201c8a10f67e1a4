-- What a longer list of indices sees.
use Rattle.std.proofs.Common.{ℕ, List, IsTrue}
use Rattle.twin_tape.specs.Permitted.{has}
use Rattle.twin_tape.specs.Security.{sees}
use Rattle.probe_cones.specs.Inputs.{BitRole, random_bit, share_bit, open_bit}

pub sees_more : (xs ys : List ℕ) → ((i : ℕ) → IsTrue (has xs i) → IsTrue (has ys i)) → (r : BitRole) → IsTrue (sees xs r) → IsTrue (sees ys r)
sees_more xs ys more random_bit h = h
sees_more xs ys more (share_bit i s) h = more i h
sees_more xs ys more open_bit h = h
