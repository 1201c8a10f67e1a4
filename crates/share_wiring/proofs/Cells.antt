-- The wires that calls add can be stated by the small form.
use Rattle.std.proofs.Common.{◌≡◌, ◌++◌, ℕ, zero, suc, true, false, List, sym, subst}
use Rattle.share_wiring.specs.Cells.{IsCellSource, AreCells, AddsCells}
use Rattle.share_wiring.specs.Own.{bit_wires, source_of}
use Rattle.share_wiring.specs.Wiring.{Wiring, share}
use Rattle.share_wiring.specs.declared.gate.Source.{Source}
use Rattle.share_wiring.specs.declared.gate.Step.{Step}
use Rattle.share_wiring.specs.declared.gate.Step.TheVariants as step
use Rattle.share_wiring.specs.declared.gate.Wire.{Wire}
use Rattle.agm_net.proofs.Lists.{all_joined}
use Rattle.share_wiring.proofs.OwnWires.{step_wires, each_source}
use Rattle.share_wiring.proofs.PortWires.{bit_wire_sources}

pub cells_more : (old new : Wiring) (more : List Wire) → new.wires ≡ old.wires ++ more → AreCells more → AddsCells old new
cells_more old new more e h before = subst AreCells (sym e) (all_joined (λ wire. IsCellSource wire.source) old.wires more before h)

-- what a step makes
step_cell : (s : Step) (i x y : ℕ) → IsCellSource (source_of s i x y)
step_cell step.Copy i x y = tt
step_cell (step.Constant true) zero x y = tt
step_cell (step.Constant false) zero x y = tt
step_cell (step.Constant b) (suc i) x y = tt
step_cell step.First zero x y = tt
step_cell step.First (suc i) x y = tt
step_cell step.Not zero x y = tt
step_cell step.Not (suc i) x y = tt
step_cell step.Xor i x y = tt
step_cell (step.And w) i x y = tt
step_cell step.Delay i x y = tt
step_cell step.Hold i x y = tt

pub step_cells : (old new : Wiring) (n : ℕ) (s : Step) (x y : List ℕ) → new.wires ≡ old.wires ++ step_wires old n s x y → AddsCells old new
step_cells old new n s x y e =
    cells_more old new (step_wires old n s x y) e
    (each_source old n (λ i. source_of s i (share x i) (share y i)) IsCellSource (λ i lt. step_cell s i (share x i) (share y i)))

-- and a port
pub port_cells : (old new : Wiring) (ns : List (List ℕ)) (source : ℕ → Source) → ((i : ℕ) → IsCellSource (source i)) → new.wires ≡ old.wires ++ bit_wires ns source → AddsCells old new
port_cells old new ns source h e = cells_more old new (bit_wires ns source) e (bit_wire_sources IsCellSource ns source (λ i lt. h i))
