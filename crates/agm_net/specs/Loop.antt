-- Which wires an equation reads, and loops among equations.
use Rattle.std.specs.Prelude.{◌==◌, ◌<◌, ℕ, Bool, ◌&&◌, List, [], ◌∷◌, length, IsTrue}
use Rattle.std.specs.List.{list_any}
use Rattle.agm_net.specs.Formula.{stands}
use Rattle.agm_net.specs.Plain.{Line, PlainNet}

-- whether wire w reads wire v by these equations: v stands in the expression of an equation of w
abbrev pub reads_in : List Line → ℕ → ℕ → Bool
reads_in lines w v = list_any (λ l. (l.0 == w) && stands v l.1) lines

abbrev pub reads : PlainNet → ℕ → ℕ → Bool
reads net = reads_in net.lines

-- each wire of w and the list is related to the one behind it
abbrev pub IsChain : (ℕ → ℕ → Bool) → ℕ → List ℕ → Type 0
IsChain related w [] = Unit {0}
IsChain related w (v ∷ vs) = IsTrue (related w v) × IsChain related v vs

abbrev pub last_of : ℕ → List ℕ → ℕ
last_of w [] = w
last_of w (v ∷ vs) = last_of v vs

-- a loop: a list of wires in which each reads the next one, and the last reads the first
abbrev pub IsLoop : PlainNet → List ℕ → Type 0
IsLoop net [] = Prim.⊥
IsLoop net (w ∷ ws) = IsChain (reads net) w ws × IsTrue (reads net (last_of w ws) w)

abbrev pub HasNoLoop : PlainNet → Type 0
HasNoLoop net = (ws : List ℕ) → IsLoop net ws → Prim.⊥

-- Ranks of wires, each below their number, such that a wire reads only wires of lower rank.
pub record IsRanked (net : PlainNet) : Type 0 where
  pub rank : ℕ → ℕ
  pub few : (w : ℕ) → w < length net.wires → rank w < length net.wires
  pub lower : (w v : ℕ) → IsTrue (reads net w v) → rank v < rank w
