-- The wires that a builder's calls make.
use Rattle.std.specs.Prelude.{◌+◌, ◌==◌, ◌++◌, ◌∷◌, ℕ, zero, suc, cond, List, [], length, slice_index_or, slice_set}
use Rattle.std.specs.Fmt.{decimal}
use Rattle.agm_net.specs.Label.{public_name, inner_share_name}
use Rattle.share_wiring.specs.declared.gate.Gate.TheVariants.{Zero, One, Same, Not, And, Xor}
use Rattle.share_wiring.specs.declared.gate.Source.{Source}
use Rattle.share_wiring.specs.declared.gate.Source.TheVariants.{Input, Equation, Register, Held}
use Rattle.share_wiring.specs.declared.gate.Wire.{Wire}
use Rattle.share_wiring.specs.declared.gate.Step.{Step}
use Rattle.share_wiring.specs.declared.gate.Step.TheVariants as step

-- the name of wire k that is made as share i of n: its number makes it new
abbrev pub own_name : ℕ → ℕ → ℕ → List ℕ
own_name n i k = cond (n == 1) (public_name (decimal k)) (inner_share_name i (decimal k))

-- share i of what a step makes of wires x and y: an inversion inverts share 0 alone
abbrev pub source_of : Step → ℕ → ℕ → ℕ → Source
source_of step.Copy i x y = Equation (Same x)
source_of (step.Constant bit) zero x y = Equation (cond bit One Zero)
source_of (step.Constant bit) (suc i) x y = Equation Zero
source_of step.First zero x y = Equation (Same x)
source_of step.First (suc i) x y = Equation Zero
source_of step.Not zero x y = Equation (Not x)
source_of step.Not (suc i) x y = Equation (Same x)
source_of step.Xor i x y = Equation (Xor x y)
source_of (step.And wire) i x y = Equation (And wire x)
source_of step.Delay i x y = Register x 0
source_of step.Hold i x y = Held

-- the first n of a row
abbrev pub upto : {X : Type 0} → ℕ → (ℕ → X) → List X
upto zero f = []
upto (suc n) f = upto n f ++ f n ∷ []

-- the first m of n wires from number `first` on, the i-th of share i
abbrev pub own_wires : ℕ → ℕ → (ℕ → Source) → ℕ → List Wire
own_wires n first source m = upto m (λ i. record { name = own_name n i (first + i); source = source i })

-- wires of these names, the i-th of `source i`
abbrev pub bit_wires : List (List ℕ) → (ℕ → Source) → List Wire
bit_wires names source = upto (length names) (λ i. record { name = slice_index_or names i []; source = source i })

-- those of an input port, and those that have the bits of other wires
abbrev pub input_wires : List (List ℕ) → List Wire
input_wires names = bit_wires names (λ i. Input)

abbrev pub copy_wires : List (List ℕ) → List ℕ → List Wire
copy_wires names bits = bit_wires names (λ i. Equation (Same (slice_index_or bits i 0)))

-- how many registers a step makes of n shares
abbrev pub step_registers : Step → ℕ → ℕ
step_registers step.Delay n = n
step_registers step.Hold n = n
step_registers _ n = 0

-- the wires where wire w has another source
abbrev pub with_source : List Wire → ℕ → Source → List Wire
with_source wires w source = slice_set wires w (record { name = (slice_index_or wires w (record { name = []; source = Equation Zero })).name; source = source })

-- the wires where each of the first n of `held` is a register of the next value of its index
abbrev pub closed_wires : (n : ℕ) → (held next : ℕ → ℕ) → List Wire → List Wire
closed_wires zero held next wires = wires
closed_wires (suc n) held next wires = with_source (closed_wires n held next wires) (held n) (Register (next n) 0)
