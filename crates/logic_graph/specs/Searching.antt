-- The search for an order of equations, in which each is behind those that it reads.
use Rattle.std.specs.Prelude.{◌≡◌, ◌<◌, ◌≤◌, ◌+◌, ◌-◌, ◌==◌, ◌++◌, ℕ, Bool, not, ◌&&◌, ◌||◌, cond, List, [], ◌∷◌, Option, Some, None, map, take, length, count_by, slice_get, slice_set, slice_index_or, IsTrue, nat_lt, sum_by}
use Rattle.std.specs.List.{list_any, list_all, AllByRecursion}
use Rattle.agm_net.specs.Formula.{Formula, f_zero, f_one, f_wire, f_not, f_and, f_or, f_xor, f_mux, reads_below}
use Rattle.agm_net.specs.Plain.{Line}
use Rattle.agm_net.specs.Loop.{reads_in, IsChain, last_of}
use Rattle.agm_net.specs.Small.{IsFresh}
use Rattle.logic_graph.specs.declared.ordering.GraphFault.{GraphFault}
use Rattle.logic_graph.specs.declared.ordering.GraphFault.TheVariants.{Loop, Memory}
use Rattle.logic_graph.specs.declared.search.Mark.{Mark}
use Rattle.logic_graph.specs.declared.search.Mark.TheVariants.{New, Open, Done}
use Rattle.logic_graph.specs.declared.search.Search.{Search}

-- whether one of some equations is for wire w
abbrev pub is_set : List Line → ℕ → Bool
is_set lines w = list_any (λ l. l.0 == w) lines

abbrev pub is_unset : List Line → ℕ → Bool
is_unset lines w = not (is_set lines w)

abbrev pub line_at : List Line → ℕ → Line
line_at lines i = slice_index_or lines i (0, f_zero)

-- An order of some equations by their places: each equation of the list stands behind those that it reads, and none is left out.
pub record IsOrder (lines : List Line) (order : List ℕ) : Type 0 where
  pub fresh : IsFresh (is_unset lines) (map (line_at lines) order)
  pub whole : (i : ℕ) → i < length lines → IsTrue (list_any (λ j. j == i) order)
  pub within : AllByRecursion (λ i. i < length lines) order

-- how many steps a wire has before it
abbrev pub steps_left : Mark → ℕ
steps_left (New i) = 2
steps_left (Open i) = 1
steps_left Done = 0

abbrev pub left_at : List Mark → ℕ → ℕ
left_at marks w = steps_left (slice_index_or marks w Done)

abbrev pub number_in : Mark → Option ℕ
number_in (New i) = Some i
number_in (Open i) = Some i
number_in Done = None

abbrev pub new_number : Mark → Option ℕ
new_number (New i) = Some i
new_number _ = None

-- the marks at the start: each wire is done but for those of equations, which are new
abbrev pub marked : ℕ → List Line → List Mark → List Mark
marked i [] marks = marks
marked i (l ∷ ls) marks = marked (i + 1) ls (slice_set marks l.0 (New i))

-- the first of two
abbrev pub either : Option ℕ → Option ℕ → Option ℕ
either (Some w) other = Some w
either None other = other

abbrev pub waiting_wire : List Mark → ℕ → Option ℕ
waiting_wire marks w = cond (left_at marks w == 0) None (Some w)

-- the first wire in a formula that is not done
abbrev pub waiting : List Mark → Formula → Option ℕ
waiting marks f_zero = None
waiting marks f_one = None
waiting marks (f_wire w) = waiting_wire marks w
waiting marks (f_not x) = waiting marks x
waiting marks (f_and x y) = either (waiting marks x) (waiting marks y)
waiting marks (f_or x y) = either (waiting marks x) (waiting marks y)
waiting marks (f_xor x y) = either (waiting marks x) (waiting marks y)
waiting marks (f_mux s x y) = either (waiting marks s) (either (waiting marks x) (waiting marks y))

-- the rest of a list from the first time that w stands there
abbrev pub from_first : ℕ → List ℕ → List ℕ
from_first w [] = []
from_first w (p ∷ ps) = cond (p == w) (p ∷ ps) (from_first w ps)

-- the marks of wires, the path of open wires, and the order so far
pub record State : Type 0 where
  pub marks : List Mark
  pub path : List ℕ
  pub order : List ℕ

abbrev pub state : Search → State
state s = record { marks = s.marks; path = s.path.items; order = s.order }

abbrev pub opened : State → ℕ → ℕ → State
opened s w i = record { marks = slice_set s.marks w (Open i); path = s.path ++ w ∷ []; order = s.order }

abbrev pub closed : State → ℕ → ℕ → State
closed s w i = record { marks = slice_set s.marks w Done; path = take (length s.path - 1) s.path; order = s.order ++ i ∷ [] }

-- each wire of a path reads the next
abbrev pub IsPath : (ℕ → ℕ → Bool) → List ℕ → Type 0
IsPath related [] = Unit {0}
IsPath related (p ∷ ps) = IsChain related p ps

-- What stands in the search: a wire that is not done is that of the equation it is marked with; the equations in the order stand behind
-- what they read; the done wires are those of the order and those without an equation; the path is one, and has the open wires once each.
pub record IsSearch (lines : List Line) (s : State) : Type 0 where
  pub numbered : (w i : ℕ) → number_in (slice_index_or s.marks w Done) ≡ Some i → (l : Line) × (slice_get lines i ≡ Some l) × (l.0 ≡ w)
  pub fresh : IsFresh (is_unset lines) (map (line_at lines) s.order)
  pub within : AllByRecursion (λ i. i < length lines) s.order
  pub is_done : (w : ℕ) → (left_at s.marks w == 0) ≡ (is_set (map (line_at lines) s.order) w || is_unset lines w)
  pub path : IsPath (reads_in lines) s.path
  pub open_once : (w : ℕ) → count_by (λ p. p == w) s.path ≡ cond (left_at s.marks w == 1) 1 0

-- the last open wire of a search
pub record IsLastOpen (s : State) (w : ℕ) : Type 0 where
  pub within : w < length s.marks
  pub is_open : left_at s.marks w ≡ 1
  pub cut : s.path ≡ take (length s.path - 1) s.path ++ w ∷ []

-- what stands in a search at the equation of an open wire
pub record IsAt (lines : List Line) (s : State) (w i : ℕ) : Type 0 where
  pub within : w < length s.marks
  pub placed : i < length lines
  pub own : (line_at lines i).0 ≡ w
  pub mark : slice_index_or s.marks w Done ≡ Open i
  pub reads : IsTrue (reads_below (length s.marks) (line_at lines i).1)

-- The last open wire waits for this one, which is not done.
pub record IsAwaited (lines : List Line) (s : State) (read : ℕ) : Type 0 where
  pub within : read < length s.marks
  pub is_left : 0 < left_at s.marks read
  pub reader : (w : ℕ) × (s.path ≡ take (length s.path - 1) s.path ++ w ∷ []) × IsTrue (reads_in lines w read)

-- no wire has more steps left than before
abbrev pub NoneBack : List Mark → List Mark → Type 0
NoneBack before now = (w : ℕ) → left_at now w ≤ left_at before w

-- A step of the search, which keeps what stands in it, and gets on.
pub record HasTurned (lines : List Line) (before now : State) : Type 0 where
  pub searched : IsSearch lines now
  pub none_back : NoneBack before.marks now.marks
  pub less : sum_by steps_left now.marks < sum_by steps_left before.marks
  pub as_many : length now.marks ≡ length before.marks

-- A search from a wire is done: nothing is on the path, and the wire is done.
pub record HasVisited (lines : List Line) (w : ℕ) (before now : State) : Type 0 where
  pub searched : IsSearch lines now
  pub off_path : now.path ≡ []
  pub none_back : NoneBack before.marks now.marks
  pub is_done : left_at now.marks w ≡ 0
  pub as_many : length now.marks ≡ length before.marks

-- whether equations are for wires below n and read wires below n
abbrev pub fit : ℕ → List Line → Bool
fit n lines = list_all (λ l. nat_lt l.0 n && reads_below n l.1) lines

-- a list of wires in which each reads the next, and the last reads the first
abbrev pub IsLoopIn : List Line → List ℕ → Type 0
IsLoopIn lines [] = Prim.⊥
IsLoopIn lines (w ∷ ws) = IsChain (reads_in lines) w ws × IsTrue (reads_in lines (last_of w ws) w)

abbrev pub TellsLoopIn : List Line → GraphFault → Type 0
TellsLoopIn lines (Loop wires) = IsLoopIn lines wires
TellsLoopIn lines Memory = Unit {0}
