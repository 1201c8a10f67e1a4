-- The shape of what stands behind the letters in a part's name.
use Rattle.std.specs.Prelude.{◌≡◌, ◌<◌, ◌≤◌, ◌+◌, ◌^◌, ◌++◌, ◌∷◌, [], ℕ, List}
use Rattle.std.specs.Fmt.{decimal}
use Rattle.agm_net.specs.Label.{pair_number}
use Rattle.agm_net.specs.declared.label.PartKind.{PartKind}
use Rattle.agm_net.specs.declared.label.PartKind.TheVariants.{Clk, A, B, R, Rr, Bb, Vx, V, Na, Ux, U, Wx, W, Mx, M, S, C}
use Rattle.hpc2_audit.specs.declared.kinds.Shape.{Shape}
use Rattle.hpc2_audit.specs.declared.kinds.Shape.TheVariants.{Bare, Bracket, Single, Double}

-- what stands behind the letters of a kind
abbrev pub shape : PartKind → Shape
shape Clk = Bare
shape A = Bracket
shape B = Bracket
shape R = Bracket
shape Rr = Double
shape Bb = Single
shape Vx = Double
shape V = Double
shape Na = Single
shape Ux = Double
shape U = Double
shape Wx = Double
shape W = Double
shape Mx = Single
shape M = Single
shape S = Double
shape C = Bracket

-- a text of a shape: nothing, `[i]`, `_i` or `_i_j`
abbrev pub shaped : Shape → ℕ → ℕ → List ℕ
shaped Bare i j = []
shaped Bracket i j = 91 ∷ (decimal i ++ 93 ∷ [])
shaped Single i j = 95 ∷ decimal i
shaped Double i j = 95 ∷ (decimal i ++ 95 ∷ decimal j)

-- two numbers of which a shape has only the first, or none, are 0
abbrev pub AreNumbers : Shape → ℕ → ℕ → Type 0
AreNumbers Bare i j = (i ≡ 0) × (j ≡ 0)
AreNumbers Bracket i j = (i < 2 ^ 32) × (j ≡ 0)
AreNumbers Single i j = (i < 2 ^ 32) × (j ≡ 0)
AreNumbers Double i j = (i < 2 ^ 32) × (j < 2 ^ 32)

abbrev pub IsShaped : Shape → ℕ → ℕ → List ℕ → Type 0
IsShaped s i j text = AreNumbers s i j × (text ≡ shaped s i j)

-- the pair of two indices up to d that has a number
abbrev pub IsPair : ℕ → ℕ → ℕ → ℕ → Type 0
IsPair d p i j = (i < j) × (j ≤ d) × (pair_number (d + 1) i j ≡ p)

-- two numbers below 2^32 with a line between, as `3_5`
abbrev pub AreTwo : ℕ → ℕ → List ℕ → Type 0
AreTwo i j text = (i < 2 ^ 32) × (j < 2 ^ 32) × (text ≡ decimal i ++ 95 ∷ decimal j)

-- a number and a dot in front of a text
abbrev pub dotted : ℕ → List ℕ → List ℕ
dotted g text = decimal g ++ 46 ∷ text
