-- Public wires and wires of shares in cycle t + 1 depend on random bits before cycle t alone.
use Rattle.std.proofs.Common.{length, ◌≡◌, ℕ, suc, ◌<◌, ◌≤◌, Bool, not, ◌&&◌, List, refl, ap₂, arith}
use Rattle.agm_net.specs.Formula.{xor}
use Rattle.agm_net.specs.Plain.{PlainNet}
use Rattle.agm_net.specs.Trace.{Row, bit_at}
use Rattle.twin_tape.proofs.Induction.{Ties, alike}
use Rattle.twin_tape.proofs.Network.{IsNetwork, Names}
use Rattle.agm_net.specs.declared.label.PartKind.TheVariants.{A as KA, B as KB}
use Rattle.twin_tape.proofs.Parts.{part_sees}
use Rattle.twin_tape.proofs.ShareReads.{Sees, sees_map}
use Rattle.twin_tape.proofs.Sources.{Ranked}
use Rattle.probe_cones.specs.Inputs.{bit_with}

module _ (net : PlainNet) (names : Names) (d : ℕ) (hpc2 : IsNetwork net names d) (ranked : Ranked net) (power : List Bool) (inputs random other : List Row) (t : ℕ) (same : (b n : ℕ) → b < t → bit_at random b n ≡ bit_at other b n) where
  causal_ties : Ties net names d hpc2 ranked (suc (suc t)) power inputs inputs random other (λ c i. c ≤ suc t)
  causal_ties = record {
    older = λ c i le. omega arith;
    open_in = λ c n below inside e. refl;
    share_in = λ c n i below inside p e. refl;
    cross = λ c g i j below there ne le_i le_j q p earlier.
        let A = names.part g KA i 0 in
        let B = names.part g KB j 0 in
        let same_r : bit_at random c q.number ≡ bit_at other c q.number = same c q.number (omega arith) in
        let same_a : bit_with net power inputs random (suc c) A ≡ bit_with net power inputs other (suc c) A =
        earlier (suc c) (omega arith) A (there KA i 0 (le_i, refl)).0 (part_sees net names d hpc2 ranked (λ k. suc c ≤ suc t) g i 0 KA there (le_i, refl) (omega arith)) in
        let same_b : bit_with net power inputs random c B ≡ bit_with net power inputs other c B =
        earlier c (omega arith) B (there KB j 0 (le_j, refl)).0 (part_sees net names d hpc2 ranked (λ k. c ≤ suc t) g j 0 KB there (le_j, refl) (omega arith)) in
        (ap₂ (λ a r. not a && r) same_a same_r, ap₂ (λ a v. a && v) same_a (ap₂ (λ b r. xor b r) same_b same_r));
  }

  pub depends_before : (c w : ℕ) → c ≤ suc t → w < length net.wires → Sees (λ i. Unit {0}) (names.label w) → bit_with net power inputs random c w ≡ bit_with net power inputs other c w
  depends_before c w le inside sees =
      alike net names d hpc2 ranked (suc (suc t)) power inputs inputs random other (λ c i. c ≤ suc t) causal_ties c (omega arith) w inside
      (sees_map (λ i. Unit {0}) (λ i. c ≤ suc t) (λ i p. le) (names.label w) sees)
