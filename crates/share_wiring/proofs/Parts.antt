-- One wire more, a part of a gadget.
use Rattle.std.proofs.Common.{inr, decimal, ◌≡◌, ◌<◌, ◌≤◌, ◌+◌, ◌*◌, ◌^◌, ◌++◌, ℕ, Bool, List, [], ◌∷◌, length, refl, sym, ap, subst, ◌∙◌, arith, IsTrue}
use Rattle.agm_net.specs.Formula.{Formula, reads_below}
use Rattle.share_wiring.specs.Gates.{gate_of, gate_formula, gate_below, IsGate}
use Rattle.share_wiring.specs.Wiring.{Wiring, IsRun, Keeps}
use Rattle.share_wiring.specs.Adds.{AddsRegisters}
use Rattle.share_wiring.specs.Built.{source_fits, IsNewPart, LeavesFree, IsInnerName, input_uses, is_stored, IsBuilt}
use Rattle.share_wiring.specs.declared.gate.Gate.{Gate}
use Rattle.share_wiring.specs.declared.gate.Gate.TheVariants.{Zero, One, Same, Not, And, Or, Xor, Mux}
use Rattle.share_wiring.specs.declared.gate.Source.{Source}
use Rattle.share_wiring.specs.declared.gate.Wire.{Wire}
use Rattle.share_wiring.proofs.Digits.{gadget_apart}
use Rattle.share_wiring.proofs.OwnNames.{gadget_free}
use Rattle.share_wiring.proofs.Grown.{Fit, built_wires}
use Rattle.share_wiring.proofs.Runs.{run_front, run_back, registers_more}

-- what a gate's formula reads
pub same_below : (gate : Gate) (n : ℕ) → reads_below n (gate_formula gate) ≡ gate_below gate n
same_below Zero n = refl
same_below One n = refl
same_below (Same k) n = refl
same_below (Not k) n = refl
same_below (And j k) n = refl
same_below (Or j k) n = refl
same_below (Xor j k) n = refl
same_below (Mux s j k) n = refl

pub gate_fits : (f : Formula) (n : ℕ) → IsGate f → IsTrue (reads_below n f) → IsTrue (gate_below (gate_of f) n)
gate_fits f n is h = sym (same_below (gate_of f) n) ∙ (ap (reads_below n) is ∙ h)

module _ (net : Wiring) (name : List ℕ) (source : Source) where
  part_fits : length net.wires < 2 ^ 64 → net.gadgets ≤ 2 ^ 32 → IsNewPart net name → IsTrue (source_fits source (length net.wires) (length net.wires)) → Fit net ((record { name = name; source = source }) ∷ [])
  part_fits small few part fits =
      let k = part.of_gadget.0 in
      let text = part.of_gadget.1 in
      let begun = part.of_gadget.2 in
      let is = part.of_gadget.3 in
      record {
        read = (fits, tt);
        distinct = (tt, tt);
        new = (part.new, tt);
        free = (subst (LeavesFree (length net.wires + 1)) (sym is) (gadget_free k (length net.wires + 1) text), tt);
        begun = (λ g other below e. (let same = (gadget_apart k g text other (omega arith) below (sym is ∙ e)).0 in omega (arith, same)), tt);
        writable = (part.written, tt);
      }

  part_inner : IsNewPart net name → IsInnerName name
  part_inner part = (decimal part.of_gadget.0 ++ 46 ∷ part.of_gadget.1, inr (inr part.of_gadget.3))

  pub part_built : IsBuilt net → length net.wires < 2 ^ 64 → IsNewPart net name → IsTrue (source_fits source (length net.wires) (length net.wires)) → input_uses source ≡ 0
      → IsBuilt (record net { wires = net.wires ++ (record { name = name; source = source }) ∷ [] })
  part_built built small part fits inner = built_wires net ((record { name = name; source = source }) ∷ []) built (part_fits small built.few part fits) (part_inner part, tt) (inner, tt)

  -- the new wire keeps its source
  pub part_keeps : (cycles : ℕ) (bits : ℕ → ℕ → Bool) → IsRun (net.wires ++ (record { name = name; source = source }) ∷ []) cycles bits → IsRun net.wires cycles bits × Keeps cycles bits (length net.wires) source
  part_keeps cycles bits run =
      let more : List Wire = (record { name = name; source = source }) ∷ [] in
      let none : length net.wires + 0 ≡ length net.wires = omega arith in
      (run_front net.wires more cycles bits run, subst (λ w. Keeps cycles bits w source) none (run_back net.wires more cycles bits run 0 (omega arith)))

  pub part_registers : (new : Wiring) → new.wires ≡ net.wires ++ (record { name = name; source = source }) ∷ [] → AddsRegisters (is_stored source) net new
  part_registers new e =
      let once : 1 * is_stored source ≡ is_stored source = omega arith in
      subst (λ k. AddsRegisters k net new) once (registers_more net new ((record { name = name; source = source }) ∷ []) (is_stored source) e (refl, tt))
