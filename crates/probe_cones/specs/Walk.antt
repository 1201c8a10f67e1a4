-- What a walk along reads has found.
use Rattle.std.specs.Prelude.{◌≡◌, ◌<◌, ◌≤◌, ◌+◌, ◌==◌, ◌++◌, ◌∷◌, [], ℕ, Bool, ◌↔◌, cond, List, length, slice_set, slice_index_or, IsTrue, sum_by, count_by}
use Rattle.std.specs.List.{list_any}
use Rattle.agm_net.specs.Formula.{Formula, f_zero, f_one, f_wire, f_not, f_and, f_or, f_xor, f_mux}
use Rattle.agm_net.specs.Loop.{reads}
use Rattle.agm_net.specs.Plain.{PlainNet}
use Rattle.probe_cones.specs.Laws.{LeadsTo}
use Rattle.probe_cones.specs.declared.walk.Walk.{Walk}

pub record State : Type 0 where
  pub stamps : List ℕ
  pub stamp : ℕ
  pub found : List ℕ

abbrev pub state : Walk → State
state w = record { stamps = w.stamps.items; stamp = w.stamp; found = w.found.items }

abbrev pub is_stamped : State → ℕ → Bool
is_stamped s v = slice_index_or s.stamps v 0 == s.stamp

abbrev pub noted : State → ℕ → State
noted s v = cond (is_stamped s v) s (record { stamps = slice_set s.stamps v s.stamp; stamp = s.stamp; found = s.found ++ v ∷ [] })

abbrev pub reads_noted : Formula → State → State
reads_noted f_zero s = s
reads_noted f_one s = s
reads_noted (f_wire v) s = noted s v
reads_noted (f_not x) s = reads_noted x s
reads_noted (f_and x y) s = reads_noted y (reads_noted x s)
reads_noted (f_or x y) s = reads_noted y (reads_noted x s)
reads_noted (f_xor x y) s = reads_noted y (reads_noted x s)
reads_noted (f_mux c x y) s = reads_noted y (reads_noted x (reads_noted c s))

-- how much is left: one for a wire without the stamp, and one for a wire that was found
abbrev pub weight : State → ℕ
weight s = sum_by (λ m. cond (m == s.stamp) 0 1) s.stamps + length s.found

-- more is found than before, behind what was found
pub record Grows (before now : State) : Type 0 where
  pub as_many : length now.stamps ≡ length before.stamps
  pub same_stamp : now.stamp ≡ before.stamp
  pub kept : (v : ℕ) → IsTrue (is_stamped before v) → IsTrue (is_stamped now v)
  pub longer : length before.found ≤ length now.found
  pub behind : (k : ℕ) → k < length before.found → slice_index_or now.found k 0 ≡ slice_index_or before.found k 0
  pub lighter : weight now ≤ weight before

-- What stands in a walk from wire w: reads lead to each wire with the stamp, no stamp is higher, and those with it are found, once.
pub record IsWalk (net : PlainNet) (w : ℕ) (s : State) : Type 0 where
  pub led : (v : ℕ) → IsTrue (is_stamped s v) → LeadsTo net w v
  pub highest : (v : ℕ) → slice_index_or s.stamps v 0 ≤ s.stamp
  pub counted : (v : ℕ) → count_by (λ x. x == v) s.found ≡ cond (is_stamped s v) 1 0

-- what wire u reads is found
pub record HasTurned (net : PlainNet) (u : ℕ) (before now : State) : Type 0 where
  pub grows : Grows before now
  pub found : (v : ℕ) → IsTrue (reads net u v) → IsTrue (is_stamped now v)
  pub walks : (w : ℕ) → LeadsTo net w u → IsWalk net w before → IsWalk net w now

-- wire w is found
pub record HasBegun (net : PlainNet) (w stamp : ℕ) (before now : State) : Type 0 where
  pub as_many : length now.stamps ≡ length before.stamps
  pub same_stamp : now.stamp ≡ stamp
  pub found : IsTrue (is_stamped now w)
  pub walks : IsWalk net w now

-- a list of the wires to which reads lead from wire w, each once
pub record AreLed (net : PlainNet) (w : ℕ) (found : List ℕ) : Type 0 where
  pub once : (v : ℕ) → count_by (λ x. x == v) found ≤ 1
  pub leads : (v : ℕ) → IsTrue (list_any (λ x. x == v) found) ↔ LeadsTo net w v

-- these are found, and no stamp is higher
pub record HasWalked (net : PlainNet) (w stamp : ℕ) (s : State) : Type 0 where
  pub as_many : length s.stamps ≡ length net.wires
  pub highest : (v : ℕ) → slice_index_or s.stamps v 0 ≤ stamp
  pub found : AreLed net w s.found
