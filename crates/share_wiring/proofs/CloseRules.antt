-- Held wires that get their next values keep the rules of HPC2 networks.
use Rattle.std.proofs.Common.{◌≡◌, ◌≢◌, ◌<◌, ◌≤◌, ◌+◌, ℕ, zero, suc, List, [], get_or, sym, ap, subst, subst₂, inl, inr, ◌∙◌, arith}
use Rattle.std.proofs.lemmas.Bool.{cases_eq}
use Rattle.agm_net.specs.Label.{part}
use Rattle.share_wiring.specs.Wiring.{Wiring, name_at, source_at, share, IsSharing}
use Rattle.share_wiring.specs.Own.{with_source, closed_wires, own_name}
use Rattle.share_wiring.specs.Adds.{AreHeld}
use Rattle.share_wiring.specs.Networks.{Rule, IsPair, Rules, AreNamed}
use Rattle.share_wiring.specs.declared.gate.Gate.TheVariants.{Same}
use Rattle.share_wiring.specs.declared.gate.Source.{Source}
use Rattle.share_wiring.specs.declared.gate.Source.TheVariants.{Equation, Register, Held}
use Rattle.share_wiring.specs.declared.gate.Step.TheVariants as step
use Rattle.share_wiring.specs.declared.gate.Wire.{Wire}
use Rattle.share_wiring.proofs.Closing.{with_names, with_length, with_here, with_other, held_within, still_held, closed_names}
use Rattle.share_wiring.proofs.Ruling.{stay_names, rule_stays, part_stays}
use Rattle.share_wiring.proofs.StepRules.{step_rule}

-- one wire
one_closed : (d m : ℕ) (wires : List Wire) (w : ℕ) (s : Source) (given : ℕ) (bits : List ℕ) → source_at wires w ≡ Held → Rule d wires (name_at wires w) s → Rules d m wires given bits
    → Rules d m (with_source wires w s) given bits
one_closed d m wires w s given bits held rule before =
    let after = with_source wires w s in
    let same = with_names wires w s in
    let len = with_length wires w s in
    let stay = stay_names wires after same in
    let name_is : (v : ℕ) → name_at after v ≡ name_at wires v = λ v. ap (λ ns. get_or ns v []) same in
    let within = held_within wires w held in
    let reads_other : (k : ℕ) → k < given → before.reader k ≢ w = λ k lt e. (let both : Equation (Same (get_or bits k 0)) ≡ Held = sym (before.reads k lt) ∙ (ap (source_at wires) e ∙ held) in absurd (cc)) in
    record {
      ruled = λ v lt. elim (cases_eq v w) [
        | inl e ↦ subst (λ u. Rule d after (name_at after u) (source_at after u)) (sym e)
            (subst₂ (λ name t. Rule d after name t) (sym (name_is w)) (sym (with_here wires w s within)) (rule_stays d wires after stay (name_at wires w) s rule))
        | inr other ↦ subst₂ (λ name t. Rule d after name t) (sym (name_is v)) (sym (with_other wires w v s other))
            (rule_stays d wires after stay (name_at wires v) (source_at wires v) (before.ruled v (omega (arith, len, lt))))
      ];
      whole = λ g lt kind i j h. (let found = before.whole g lt kind i j h in (found.0, part_stays d wires after stay (part g kind i j) found.0 found.1));
      reader = before.reader;
      within = λ k lt. (let under = before.within k lt in omega (arith, len, under));
      pairs = λ k lt. subst (IsPair d) (sym (name_is (before.reader k))) (before.pairs k lt);
      reads = λ k lt. with_other wires w (before.reader k) s (reads_other k lt) ∙ before.reads k lt;
      others = λ v lt pair. before.others v (omega (arith, len, lt)) (subst (IsPair d) (name_is v) pair);
    }

module _ (net : Wiring) (d m n : ℕ) (held next : List ℕ) (bits : List ℕ) (are : AreHeld n net.wires held) (named : AreNamed n net.wires held) (shared : IsSharing net.wires n next) (le : n ≤ d + 1) (small : n ≤ 16) where
  -- the first of them
  first_closed : (k : ℕ) → k ≤ n → Rules d m net.wires net.given bits → Rules d m (closed_wires k (share held) (share next) net.wires) net.given bits
  first_closed zero under before = before
  first_closed (suc k) under before =
      let now = closed_wires k (share held) (share next) net.wires in
      let w = share held k in
      let s : Source = Register (share next k) 0 in
      let same = closed_names (share held) (share next) net.wires k in
      let is = named k (omega arith) in
      let rule : Rule d net.wires (own_name n k is.0) s = step_rule net.wires d n k is.0 step.Delay next next le small (omega arith) is.1 tt shared shared in
      let moved = rule_stays d net.wires now (stay_names net.wires now same) (own_name n k is.0) s rule in
      let name_is : name_at now w ≡ own_name n k is.0 = ap (λ ns. get_or ns w []) same ∙ is.2 in
      one_closed d m now w s net.given bits
      (still_held (share held) (share next) net.wires k (λ i lt. are.held i (omega arith)) (λ i j lt lt'. are.apart i j (omega arith) (omega arith)))
      (subst (λ name. Rule d now name s) (sym name_is) moved)
      (first_closed k (omega arith) before)

  pub close_rules : Rules d m net.wires net.given bits → Rules d m (closed_wires n (share held) (share next) net.wires) net.given bits
  close_rules = first_closed n (omega arith)
