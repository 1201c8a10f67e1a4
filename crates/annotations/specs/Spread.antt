-- How clock wires are found: an index of the equations that copy a wire, and marks that spread along it.
use Rattle.std.specs.Prelude.{◌≡◌, ◌≤◌, ◌<◌, ◌+◌, ◌++◌, ◌||◌, ℕ, Bool, true, false, cond, List, [], ◌∷◌, length, Option, Some, None, slice_get, slice_set, slice_index, slice_index_or}
use Rattle.std.specs.Option.{option_map_or}
use Rattle.agm_net.specs.Formula.{Formula, formula_of, f_zero, f_one, f_wire, f_not, f_and, f_or, f_xor, f_mux}
use Rattle.agm_net.specs.declared.expr.Equation.{Equation}
use Rattle.agm_net.specs.Plain.{PlainNet}
use Rattle.annotations.specs.Clocked.{is_alone, IsClockWire}

-- the wire that a formula is alone
abbrev pub copied : Formula → Option ℕ
copied f_zero = None
copied f_one = None
copied (f_wire v) = Some v
copied (f_not x) = None
copied (f_and x y) = None
copied (f_or x y) = None
copied (f_xor x y) = None
copied (f_mux s x y) = None

-- whether equation e sets its wire to wire v alone
abbrev pub copies_at : List Equation → ℕ → ℕ → Bool
copies_at es e v = option_map_or (λ q. is_alone v (formula_of q.expr)) (slice_get es e) false

-- h is 0 where no equation below i copies wire v, and else one more than the last of them
pub record IsLast (es : List Equation) (v i h : ℕ) : Type 0 where
  pub within : h ≤ i
  pub none_behind : (e : ℕ) → h ≤ e → e < i → copies_at es e v ≡ false
  pub here : (e : ℕ) → h ≡ e + 1 → copies_at es e v ≡ true

-- for each wire its last copy among the equations below i
abbrev pub AreHeads : List Equation → ℕ → List ℕ → Type 0
AreHeads es i heads = (v : ℕ) → v < length heads → IsLast es v i (slice_index heads v)

-- for each copy of a wire below n the one before it
abbrev pub AreLinks : List Equation → ℕ → List ℕ → Type 0
AreLinks es n links = (e v : ℕ) → e < length links → v < n → copies_at es e v ≡ true → IsLast es v e (slice_index links e)

pub record IsIndex (es : List Equation) (n : ℕ) (heads links : List ℕ) : Type 0 where
  pub heads_long : length heads ≡ n
  pub links_long : length links ≡ length es
  pub are_heads : AreHeads es (length es) heads
  pub are_links : AreLinks es n links

-- one more equation's wire after this one, in the index
abbrev pub heads_after : List ℕ → ℕ → Option ℕ → List ℕ
heads_after heads h None = heads
heads_after heads h (Some v) = slice_set heads v h

abbrev pub link_of : List ℕ → Option ℕ → ℕ
link_of heads None = 0
link_of heads (Some v) = slice_index heads v

-- whether a wire is marked
abbrev pub is_set : List Bool → ℕ → Bool
is_set marks w = slice_index_or marks w false

abbrev pub unset : List Bool → ℕ
unset [] = 0
unset (true ∷ marks) = unset marks
unset (false ∷ marks) = unset marks + 1

-- the queue with a wire, if it was not marked
abbrev pub queue_after : List Bool → List ℕ → ℕ → List ℕ
queue_after marks queue w = cond (is_set marks w) queue (queue ++ w ∷ [])

-- Marks of clock wires: the queue has each marked wire, once.
pub record AreReached (net : PlainNet) (marks : List Bool) (queue : List ℕ) : Type 0 where
  pub long : length marks ≡ length net.wires
  pub filled : unset marks + length queue ≡ length net.wires
  pub sound : (w : ℕ) → is_set marks w ≡ true → IsClockWire net w
  pub queued : (w : ℕ) → is_set marks w ≡ true → (j : ℕ) × (j < length queue) × (slice_index queue j ≡ w)
  pub marked : (j : ℕ) → j < length queue → is_set marks (slice_index queue j) ≡ true

-- marks and a queue with more
pub record HasGrown (marks : List Bool) (queue : List ℕ) (marks' : List Bool) (queue' : List ℕ) : Type 0 where
  pub more : (w : ℕ) → is_set marks w ≡ true → is_set marks' w ≡ true
  pub longer : length queue ≤ length queue'
  pub same : (j : ℕ) → j < length queue → slice_index queue' j ≡ slice_index queue j

abbrev pub wire_at : List Equation → ℕ → ℕ
wire_at es e = option_map_or (λ q. q.wire) (slice_get es e) 0

-- the equations from h on that copy wire v set marked wires
abbrev pub MarkedFrom : List Equation → ℕ → ℕ → List Bool → Type 0
MarkedFrom es v h marks = (e : ℕ) → h ≤ e → copies_at es e v ≡ true → is_set marks (wire_at es e) ≡ true

-- the copies of the first i wires of the queue are marked
abbrev pub AreDone : List Equation → ℕ → List Bool → List ℕ → Type 0
AreDone es i marks queue = (j : ℕ) → j < i → MarkedFrom es (slice_index queue j) 0 marks

-- the marks are those of the clock wires
pub record AreClockWires (net : PlainNet) (marks : List Bool) : Type 0 where
  pub long : length marks ≡ length net.wires
  pub sound : (w : ℕ) → is_set marks w ≡ true → IsClockWire net w
  pub complete : (w : ℕ) → IsClockWire net w → is_set marks w ≡ true

-- marks to which those wires are added that pass a test
abbrev pub AreAdded : List Bool → List Bool → (ℕ → Bool) → Type 0
AreAdded old new test = (w : ℕ) → w < length old → is_set new w ≡ (is_set old w || test w)
