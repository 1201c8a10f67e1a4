-- Each random bit has a pair of its gadget's shares, whose factors have wires.
use Rattle.std.proofs.Common.{◌≡◌, ◌<◌, ◌≤◌, ℕ, zero, true, List, [], Some, length, codes, slice_get, slice_index_or, bytes_eq, refl, sym, ap, ◌∙◌, subst, arith}
use Rattle.std.proofs.lemmas.Option.{slice_get-get_or}
use Rattle.std.proofs.lemmas.Slice.Eq.{bytes_eq-Decides}
use Rattle.agm_net.specs.Label.{name_of, part, part_name, HasLabel, IsPart as IsPartOf}
use Rattle.agm_net.specs.Network.{Hpc2, random_bits_of}
use Rattle.agm_net.specs.Plain.{PlainNet}
use Rattle.agm_net.specs.WellFormed.{WellFormed}
use Rattle.agm_net.specs.declared.label.Label.{Label}
use Rattle.agm_net.specs.declared.label.Label.TheVariants.{Random as l_random}
use Rattle.agm_net.specs.declared.label.PartKind.TheVariants.{A as KA, B as KB}
use Rattle.agm_net.proofs.Lists.{any_at}
use Rattle.agm_net.proofs.OneLabel.{one_label}
use Rattle.twin_tape.specs.Pairs.{HasName, HasPair, HasSide, factor_name}
use Rattle.twin_tape.specs.Permitted.{AreLabels}
use Rattle.twin_tape.proofs.Labels.{label_is, pair_gadget, pair_great, pair_small, random_bits}
use Rattle.twin_tape.proofs.Network.{Names}
use Rattle.twin_tape.proofs.Parts.{There}
use Rattle.twin_tape.proofs.Rules.{is_network}
use Rattle.twin_tape.proofs.Sources.{Ranked}
use Rattle.twin_tape.proofs.TwinIs as twin_is
use Rattle.twin_tape.proofs.TwinMap.{bit_pair}

module _ (net : PlainNet) (d : ℕ) (well : WellFormed net) (hpc2 : Hpc2 net d) (label : ℕ → Label) (labels : AreLabels net d label) where
  abbrev pub own : Names
  own = twin_is.own net d well hpc2 label labels 0 [] [] (λ n p h. absurd (omega (arith, h)))

  abbrev pub ordered : Ranked net
  ordered = twin_is.ordered net d well hpc2 label labels 0 [] [] (λ n p h. absurd (omega (arith, h)))

  abbrev pub In : ℕ → Type 0
  In g = There net own d (is_network net d well hpc2) ordered g

  -- what is known of the wire of a random bit
  pub record IsBit (w : ℕ) : Type 0 where
    pub gadget : ℕ
    pub low : ℕ
    pub high : ℕ
    pub inside : w < length net.wires
    pub has : HasLabel net d w (l_random gadget low high)
    pub label_is : label w ≡ l_random gadget low high
    pub there : In gadget
    pub low_fits : low ≤ d
    pub high_fits : high ≤ d

  pub bit_is : (n w : ℕ) → slice_get (random_bits_of net) n ≡ Some w → IsBit w
  bit_is n w get =
      let small = twin_is.bit_small net d well hpc2 label labels 0 [] [] (λ n p h. absurd (omega (arith, h))) n w get in
      let v = twin_is.wire_at net d well hpc2 label labels 0 [] [] (λ n p h. absurd (omega (arith, h))) n in
      let same : v ≡ w = (let both = sym get ∙ twin_is.bit_wire net d well hpc2 label labels 0 [] [] (λ n p h. absurd (omega (arith, h))) n small in cc) in
      let found = random_bits net d well hpc2 n small in
      let has = twin_is.tag_random net d well hpc2 label labels 0 [] [] (λ n p h. absurd (omega (arith, h))) v (label v) (labels v found.3) found.0 found.1 found.2 (sym (label_is net d well hpc2 v found.3 (label v) (labels v found.3)) ∙ found.5) in
      let pair = bit_pair net own d (is_network net d well hpc2) ordered [] [] 0 [] [] [] n small in
      subst IsBit same
      record {
        gadget = found.0;
        low = found.1;
        high = found.2;
        inside = found.3;
        has = has;
        label_is = one_label net d v (label v) (l_random found.0 found.1 found.2) (labels v found.3) has;
        there = subst In (ap pair_gadget found.5) pair.0;
        low_fits = subst (λ k. k ≤ d) (ap pair_small found.5) pair.1;
        high_fits = subst (λ k. k ≤ d) (ap pair_great found.5) pair.2;
      }

  -- the wires of a gadget's factors
  first_named : (g i : ℕ) → In g → i ≤ d → HasName net.wires (factor_name g (codes "a") i)
  first_named g i there le =
      let w = own.part g KA i 0 in
      let inside = (there KA i 0 (le, refl)).0 in
      let is = twin_is.part_at net d well hpc2 label labels 0 [] [] (λ n p h. absurd (omega (arith, h))) g there KA i 0 (le, refl) in
      any_at (λ n. bytes_eq n (factor_name g (codes "a") i)) net.wires w (name_of net w) (slice_get-get_or net.wires w [] inside) ((bytes_eq-Decides (name_of net w) (factor_name g (codes "a") i)).1 is.4)

  second_named : (g i : ℕ) → In g → i ≤ d → HasName net.wires (factor_name g (codes "b") i)
  second_named g i there le =
      let w = own.part g KB i 0 in
      let inside = (there KB i 0 (le, refl)).0 in
      let is = twin_is.part_at net d well hpc2 label labels 0 [] [] (λ n p h. absurd (omega (arith, h))) g there KB i 0 (le, refl) in
      any_at (λ n. bytes_eq n (factor_name g (codes "b") i)) net.wires w (name_of net w) (slice_get-get_or net.wires w [] inside) ((bytes_eq-Decides (name_of net w) (factor_name g (codes "b") i)).1 is.4)

  pub has_pair : (n w : ℕ) → slice_get (random_bits_of net) n ≡ Some w → HasPair net.wires (label w)
  has_pair n w get =
      let b = bit_is n w get in
      subst (HasPair net.wires) (sym b.label_is)
      ((first_named b.gadget b.low b.there b.low_fits, second_named b.gadget b.low b.there b.low_fits), (first_named b.gadget b.high b.there b.high_fits, second_named b.gadget b.high b.there b.high_fits))
