-- What the name of a masked net's port says of its bits.
use Rattle.std.specs.Prelude.{◌≡◌, ◌<◌, ◌^◌, ◌⊎◌, ◌++◌, ◌∷◌, ℕ, List, length, codes}
use Rattle.std.specs.Fmt.{decimal}
use Rattle.agm_net.specs.declared.mark.Role.{Role}
use Rattle.agm_net.specs.declared.mark.Role.TheVariants.{Share, Random, Clock, Public}

-- the port with share i of a port of the original
abbrev pub share_name : ℕ → List ℕ → List ℕ
share_name i name = codes "agm_s" ++ (decimal i ++ (95 ∷ name))

-- the port with share i of the initial values of secret registers
abbrev pub state_name : ℕ → List ℕ
state_name i = codes "agm_q_s" ++ decimal i

-- a name `agm_s<i>_` and a rest, or `agm_q_s<i>`, with i below 2^32
abbrev pub IsOfShare : ℕ → List ℕ → Type 0
IsOfShare i name = (i < 2 ^ 32) × (((rest : List ℕ) × (0 < length rest) × (name ≡ share_name i rest)) ⊎ (name ≡ state_name i))

-- the role of a port of this name
abbrev pub HasRole : List ℕ → Role → Type 0
HasRole name (Share i) = IsOfShare i name
HasRole name Random = name ≡ codes "agm_r"
HasRole name Clock = name ≡ codes "agm_clk"
HasRole name Public = ((i : ℕ) → IsOfShare i name → Prim.⊥) × (name ≡ codes "agm_r" → Prim.⊥) × (name ≡ codes "agm_clk" → Prim.⊥)
