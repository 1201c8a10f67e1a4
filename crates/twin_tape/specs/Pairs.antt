-- The pairs of random bits, with the wires of their factors by name.
use Rattle.std.specs.Prelude.{ℕ, zero, suc, ◌++◌, ◌∷◌, ◌&&◌, Bool, cond, IsTrue, List, [], codes}
use Rattle.std.specs.List.{list_any}
use Rattle.std.specs.Str.{bytes_eq}
use Rattle.agm_net.specs.Label.{gadget_name}
use Rattle.agm_net.specs.Plain.{is_input, select_name}
use Rattle.agm_net.specs.declared.label.Label.{Label}
use Rattle.agm_net.specs.declared.label.Label.TheVariants.{Random}
use Rattle.agm_net.specs.declared.port.Port.{Port}
use Rattle.twin_tape.specs.declared.pairs.Pair.{Pair}
use Rattle.twin_tape.specs.declared.pairs.Side.{Side}

-- the first wire of a name
abbrev pub wire_named : List (List ℕ) → List ℕ → ℕ
wire_named [] name = 0
wire_named (n ∷ ns) name = cond (bytes_eq n name) 0 (suc (wire_named ns name))

-- some wire has the name
abbrev pub HasName : List (List ℕ) → List ℕ → Type 0
HasName names name = IsTrue (list_any (λ n. bytes_eq n name) names)

-- the name of a share of a gadget's factor, which the letter tells
abbrev pub factor_name : ℕ → List ℕ → ℕ → List ℕ
factor_name g letter i = gadget_name g (select_name letter i)

abbrev pub HasSide : List (List ℕ) → ℕ → ℕ → Type 0
HasSide names g i = HasName names (factor_name g (codes "a") i) × HasName names (factor_name g (codes "b") i)

-- a share index of gadget g, with the wires of both factors' shares of it
abbrev pub side_for : List (List ℕ) → ℕ → ℕ → Side
side_for names g i =
    record { index = i; first = wire_named names (factor_name g (codes "a") i); second = wire_named names (factor_name g (codes "b") i) }

abbrev pub HasPair : List (List ℕ) → Label → Type 0
HasPair names (Random g i j) = HasSide names g i × HasSide names g j
HasPair names _ = Prim.⊥

-- the pair of a random bit by its label; of no other label is anything said
abbrev pub pair_for : List (List ℕ) → Label → Pair
pair_for names (Random g i j) = record { gadget = g; low = side_for names g i; high = side_for names g j }
pair_for names _ = record { gadget = 0; low = side_for names 0 0; high = side_for names 0 0 }

abbrev pub is_random_port : Port → Bool
is_random_port p = is_input p && bytes_eq p.name (codes "agm_r")
