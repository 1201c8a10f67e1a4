-- How the text of a part tells which part it is.
use Rattle.std.specs.Prelude.{◌≡◌, ◌<◌, ◌≤◌, ◌+◌, ◌++◌, ℕ, List}
use Rattle.agm_net.specs.Label.{HasNumbers, pair_number}
use Rattle.agm_net.specs.declared.label.PartKind.{PartKind}
use Rattle.agm_net.specs.declared.label.PartKind.TheVariants.{R}
use Rattle.agm_net.proofs.OnePart.{word}
use Rattle.hpc2_audit.specs.Kinds.{AreNumbers, shape, shaped}

-- a text is the letters of a kind and two numbers in its shape
abbrev pub IsText : PartKind → ℕ → ℕ → List ℕ → Type 0
IsText kind i j text = AreNumbers (shape kind) i j × (text ≡ word kind ++ shaped (shape kind) i j)

-- the numbers that stand in the name of a part of a gadget of order d: its own, or for a random bit that of its pair
abbrev pub Writes : ℕ → PartKind → (a b i j : ℕ) → Type 0
Writes d R a b i j = (pair_number (d + 1) a b ≡ i) × (j ≡ 0)
Writes d kind a b i j = (a ≡ i) × (b ≡ j)

-- the indices of a part, apart from what the number of a pair wants
abbrev pub HasIndices : ℕ → PartKind → ℕ → ℕ → Type 0
HasIndices d R i j = (i < j) × (j ≤ d)
HasIndices d kind i j = HasNumbers d kind i j
