-- What a name says of a wire, whatever the net is.
use Rattle.std.specs.Prelude.{◌≡◌, ◌<◌, ◌≤◌, ◌^◌, ◌++◌, ◌∷◌, ℕ, List, codes, length}
use Rattle.std.specs.Fmt.{decimal}
use Rattle.agm_net.specs.Label.{IsBitOf, IsPartName, IsPublicName, IsShareName, IsUserName}
use Rattle.agm_net.specs.Role.{state_name}
use Rattle.agm_net.specs.declared.label.Part.{Part}
use Rattle.hpc2_audit.specs.declared.spelled.Spelled.{Spelled}
use Rattle.hpc2_audit.specs.declared.spelled.Spelled.TheVariants.{OfUser, OfClock, OfPublic, OfRandom, OfShare, OfPart, OfNothing}

-- something stands behind a front
abbrev pub HasFront : List ℕ → List ℕ → Type 0
HasFront front name = (rest : List ℕ) × (0 < length rest) × (name ≡ front ++ rest)

-- a front, a number below 2^32, a mark, and something behind it
abbrev pub IsIndexed : List ℕ → ℕ → ℕ → List ℕ → Type 0
IsIndexed front mark i name = (i < 2 ^ 32) × (rest : List ℕ) × (0 < length rest) × (name ≡ front ++ (decimal i ++ mark ∷ rest))

-- a bit of a port `agm_q_s<i>`
abbrev pub IsStateBit : ℕ → List ℕ → Type 0
IsStateBit i name = (i < 2 ^ 32) × IsBitOf (state_name i) name

-- A name that begins with `agm_`, and is neither the clock's, public, random nor of a share up to the order, unless it is a part's.
pub record IsOther (d : ℕ) (name : List ℕ) : Type 0 where
  pub no_user : IsUserName name → Prim.⊥
  pub no_clock : name ≡ codes "agm_clk" → Prim.⊥
  pub no_public : IsPublicName name → Prim.⊥
  pub no_random : IsBitOf (codes "agm_r") name → Prim.⊥
  pub no_share : (i : ℕ) → i ≤ d → IsShareName i name → Prim.⊥

-- what a name says in a net of order d
abbrev pub Spells : ℕ → List ℕ → Spelled → Type 0
Spells d name OfUser = IsUserName name
Spells d name OfClock = name ≡ codes "agm_clk"
Spells d name OfPublic = IsPublicName name
Spells d name OfRandom = IsBitOf (codes "agm_r") name
Spells d name (OfShare i) = (i ≤ d) × IsShareName i name
Spells d name (OfPart p) = IsPartName d p name
Spells d name OfNothing = IsOther d name × ((p : Part) → IsPartName d p name → Prim.⊥)
