-- Which vertices edges lead to, and how they are found.
use Rattle.std.specs.Prelude.{◌≡◌, ◌<◌, ◌≤◌, ◌+◌, ◌-◌, ◌==◌, ◌++◌, ◌∷◌, [], ℕ, zero, suc, Bool, true, false, ◌&&◌, ◌↔◌, cond, List, length, Some, slice_get, slice_set, slice_index_or, IsTrue, sum_by}
use Rattle.std.specs.List.{list_any, AllByRecursion}
use Rattle.agm_net.specs.Loop.{IsChain, last_of}
use Rattle.logic_graph.specs.Settled.{bit_of}
use Rattle.secrecy_spread.specs.declared.reach.Edge.{Edge}
use Rattle.secrecy_spread.specs.declared.reach.Spreading.{Spreading}

abbrev pub is_among : List ℕ → ℕ → Bool
is_among ws w = list_any (λ v. v == w) ws

-- whether an edge leads to vertex w from vertex v
abbrev pub leads : List Edge → ℕ → ℕ → Bool
leads edges w v = list_any (λ e. (e.to == w) && (e.from == v)) edges

-- A vertex is reached when a list of vertices leads from it back to a start, each step against an edge.
abbrev pub IsReached : List Edge → (starts : List ℕ) → ℕ → Type 0
IsReached edges starts w = (ws : List ℕ) × IsChain (leads edges) w ws × IsTrue (is_among starts (last_of w ws))

-- one flag for each of n vertices, which says whether it is reached
pub record AreReached (n : ℕ) (edges : List Edge) (starts : List ℕ) (flags : List Bool) : Type 0 where
  pub one_each : length flags ≡ n
  pub tells : (w : ℕ) → IsTrue (bit_of flags w) ↔ IsReached edges starts w

abbrev pub from_at : List Edge → ℕ → ℕ
from_at edges i = (slice_index_or edges i (record { from = 0; to = 0 })).from

-- the link to the last of the first i edges that leaves vertex v
abbrev pub last_from : List Edge → ℕ → ℕ → ℕ
last_from edges zero v = 0
last_from edges (suc i) v = cond (from_at edges i == v) (suc i) (last_from edges i v)

-- each edge is linked to the one before it that leaves the same vertex
pub record AreLinks (edges : List Edge) (nexts : List ℕ) : Type 0 where
  pub as_many : length nexts ≡ length edges
  pub back : (i : ℕ) → i < length edges → slice_index_or nexts i 0 ≡ last_from edges i (from_at edges i)

pub record AreChains (edges : List Edge) (n : ℕ) (heads nexts : List ℕ) : Type 0 where
  pub one_each : length heads ≡ n
  pub last : (v : ℕ) → v < n → slice_index_or heads v 0 ≡ last_from edges (length edges) v
  pub links : AreLinks edges nexts

-- which vertices are marked, and which of them wait
pub record State : Type 0 where
  pub marked : List Bool
  pub waiting : List ℕ

abbrev pub state : Spreading → State
state s = record { marked = s.marked.items; waiting = s.waiting.items }

abbrev pub noted : State → ℕ → State
noted s v = cond (bit_of s.marked v) s (record { marked = slice_set s.marked v true; waiting = s.waiting ++ v ∷ [] })

-- how much is left: two for a vertex that is not marked, one for one that waits
abbrev pub weight : State → ℕ
weight s = sum_by (λ b. cond b 0 2) s.marked + length s.waiting

-- What stands while the edges of vertex v are followed, from the last to the one at a link: marked vertices are reached, and those that
-- wait are marked. An edge leads from a marked vertex that does not wait to a marked one, unless it leaves v and stands before the link.
pub record IsSpreading (edges : List Edge) (starts : List ℕ) (s : State) (v link : ℕ) : Type 0 where
  pub reached : (w : ℕ) → IsTrue (bit_of s.marked w) → IsReached edges starts w
  pub waits : (w : ℕ) → IsTrue (is_among s.waiting w) → IsTrue (bit_of s.marked w)
  pub closed : (i : ℕ) (e : Edge) → slice_get edges i ≡ Some e → IsTrue (bit_of s.marked e.from) → is_among s.waiting e.from ≡ false
      → (e.from ≡ v → link ≤ i) → IsTrue (bit_of s.marked e.to)

-- there are as many vertices as before, those that were marked are, those that wait are vertices, and no more is left than before
pub record Grows (before now : State) : Type 0 where
  pub as_many : length now.marked ≡ length before.marked
  pub kept : (w : ℕ) → IsTrue (bit_of before.marked w) → IsTrue (bit_of now.marked w)
  pub within : AllByRecursion (λ w. w < length before.marked) before.waiting → AllByRecursion (λ w. w < length now.marked) now.waiting
  pub lighter : weight now ≤ weight before

-- the edges of a vertex are followed from a link on
pub record HasFollowed (edges : List Edge) (link : ℕ) (before now : State) : Type 0 where
  pub grows : Grows before now
  pub spreads : (starts : List ℕ) (v : ℕ) → (0 < link → from_at edges (link - 1) ≡ v) → IsReached edges starts v
      → IsSpreading edges starts before v link → IsSpreading edges starts now v 0

-- the edges of one that waited are followed
pub record HasTurned (edges : List Edge) (before now : State) : Type 0 where
  pub as_many : length now.marked ≡ length before.marked
  pub kept : (w : ℕ) → IsTrue (bit_of before.marked w) → IsTrue (bit_of now.marked w)
  pub within : AllByRecursion (λ w. w < length now.marked) now.waiting
  pub lighter : weight now < weight before
  pub spreads : (starts : List ℕ) → IsSpreading edges starts before 0 0 → IsSpreading edges starts now 0 0

-- no vertex waits
pub record HasRun (edges : List Edge) (before now : State) : Type 0 where
  pub as_many : length now.marked ≡ length before.marked
  pub kept : (w : ℕ) → IsTrue (bit_of before.marked w) → IsTrue (bit_of now.marked w)
  pub done : now.waiting ≡ []
  pub spreads : (starts : List ℕ) → IsSpreading edges starts before 0 0 → IsSpreading edges starts now 0 0

-- the starts of n vertices are marked
pub record HasStarted (n : ℕ) (starts : List ℕ) (s : State) : Type 0 where
  pub as_many : length s.marked ≡ n
  pub within : AllByRecursion (λ w. w < n) s.waiting
  pub kept : (w : ℕ) → IsTrue (is_among starts w) → IsTrue (bit_of s.marked w)
  pub spreads : (edges : List Edge) → IsSpreading edges starts s 0 0
