-- Held wires that get their next values.
use Rattle.std.proofs.Common.{◌≡◌, ◌≢◌, ◌<◌, ◌+◌, ◌++◌, ℕ, zero, suc, Bool, List, [], ◌∷◌, length, get_or, refl, sym, ap, subst, inl, inr, ◌∙◌, arith, IsTrue, nat_lt}
use Rattle.std.specs.List.{AllByRecursion}
use Rattle.std.proofs.lemmas.Bool.{cases_eq, and_from, lt-ltb}
use Rattle.std.proofs.lemmas.List.{get_or-set_same, get_or-set_other, length-set}
use Rattle.share_wiring.specs.Wiring.{Wiring, IsRun, Keeps, source_at, names, share, IsSharing}
use Rattle.share_wiring.specs.Own.{with_source, closed_wires, own_name, upto}
use Rattle.share_wiring.specs.Adds.{AddsStep, AreHeld, Delays}
use Rattle.share_wiring.specs.Built.{source_fits, IsBuilt, LeavesFree, AreDistinct, input_uses}
use Rattle.share_wiring.specs.declared.gate.Source.{Source}
use Rattle.share_wiring.specs.declared.gate.Source.TheVariants.{Equation, Register, Held}
use Rattle.share_wiring.specs.declared.gate.Gate.TheVariants.{Zero}
use Rattle.share_wiring.specs.declared.gate.Wire.{Wire}
use Rattle.share_wiring.specs.declared.gate.Step.TheVariants as step
use Rattle.share_wiring.proofs.Grown.{none, source_back}
use Rattle.share_wiring.proofs.Runs.{run_at}
use Rattle.share_wiring.proofs.OwnWires.{get-upto}

-- names and numbers stay
pub with_names : (wires : List Wire) (w : ℕ) (s : Source) → names (with_source wires w s) ≡ names wires
with_names [] w s = refl
with_names (x ∷ xs) zero s = refl
with_names (x ∷ xs) (suc w) s = ap (λ ns. x.name ∷ ns) (with_names xs w s)

abbrev renewed : List Wire → ℕ → Source → Wire
renewed wires w s = record { name = (get_or wires w none).name; source = s }

pub with_length : (wires : List Wire) (w : ℕ) (s : Source) → length (with_source wires w s) ≡ length wires
with_length wires w s = length-set wires w (renewed wires w s)

pub with_here : (wires : List Wire) (w : ℕ) (s : Source) → w < length wires → source_at (with_source wires w s) w ≡ s
with_here wires w s lt = ap (λ (x : Wire). x.source) (get_or-set_same wires w (renewed wires w s) none lt)

pub with_other : (wires : List Wire) (w v : ℕ) (s : Source) → v ≢ w → source_at (with_source wires w s) v ≡ source_at wires v
with_other wires w v s other = ap (λ (x : Wire). x.source) (get_or-set_other wires w v (renewed wires w s) none other)

-- a wire that is held is one of the wires
pub held_within : (wires : List Wire) (w : ℕ) → source_at wires w ≡ Held → w < length wires
held_within [] w e = absurd (let bad : Equation Zero ≡ Held = e in cc)
held_within (x ∷ xs) zero e = omega arith
held_within (x ∷ xs) (suc w) e = let lt = held_within xs w e in omega arith

-- one wire
one_run : (wires : List Wire) (w : ℕ) (s : Source) (cycles : ℕ) (bits : ℕ → ℕ → Bool) → source_at wires w ≡ Held → IsRun (with_source wires w s) cycles bits → IsRun wires cycles bits
unfolding IsRun
one_run wires w s cycles bits held run v lt =
    let len = with_length wires w s in
    elim (cases_eq v w) [
      | inl same ↦ subst (λ t. Keeps cycles bits v t) (sym (ap (source_at wires) same ∙ held)) tt
      | inr other ↦ subst (λ t. Keeps cycles bits v t) (with_other wires w v s other) (run v (omega (arith, len)))
    ]

one_built : (net : Wiring) (w next : ℕ) → IsBuilt net → source_at net.wires w ≡ Held → next < length net.wires → IsBuilt (record net { wires = with_source net.wires w (Register next 0) })
one_built net w next built held lt =
    let s : Source = Register next 0 in
    let after = with_source net.wires w s in
    let same = with_names net.wires w s in
    let len = with_length net.wires w s in
    let within = held_within net.wires w held in
    let reads : IsTrue (nat_lt next (length after)) = lt-ltb next (length after) (omega (arith, len)) in
    let clocked : IsTrue (nat_lt 0 (length after)) = lt-ltb 0 (length after) (omega (arith, len)) in
    record {
      clocked = built.clocked;
      ordered = λ v below. elim (cases_eq v w) [
        | inl e ↦ subst (λ t. IsTrue (source_fits t v (length after))) (sym (ap (source_at after) e ∙ with_here net.wires w s within)) (and_from (nat_lt next (length after)) (nat_lt 0 (length after)) reads clocked)
        | inr other ↦ subst (λ t. IsTrue (source_fits t v (length after))) (sym (with_other net.wires w v s other)) (subst (λ n. IsTrue (source_fits (source_at net.wires v) v n)) (sym len) (built.ordered v (omega (arith, len))))
      ];
      distinct = subst AreDistinct (sym same) built.distinct;
      free = subst (λ ns. AllByRecursion (LeavesFree (length after)) ns) (sym same) (subst (λ n. AllByRecursion (LeavesFree n) (names net.wires)) (sym len) built.free);
      begun = rw same built.begun;
      writable = rw same built.writable;
      named = rw same built.named;
      ports_made = built.ports_made;
      ports_differ = built.ports_differ;
      bits_named = rw same built.bits_named;
      one_port = built.one_port;
      inputs = λ v. built.inputs v ∙ sym (elim (cases_eq v w) [
        | inl e ↦ ap input_uses (ap (source_at after) e ∙ with_here net.wires w s within) ∙ sym (ap input_uses (ap (source_at net.wires) e ∙ held))
        | inr other ↦ ap input_uses (with_other net.wires w v s other)
      ]);
      few = built.few;
      given = built.given;
    }

module _ (held next : ℕ → ℕ) (wires : List Wire) where
  pub closed_names : (n : ℕ) → names (closed_wires n held next wires) ≡ names wires
  closed_names zero = refl
  closed_names (suc n) = with_names (closed_wires n held next wires) (held n) (Register (next n) 0) ∙ closed_names n

  pub closed_length : (n : ℕ) → length (closed_wires n held next wires) ≡ length wires
  closed_length zero = refl
  closed_length (suc n) = with_length (closed_wires n held next wires) (held n) (Register (next n) 0) ∙ closed_length n

  -- other wires keep their sources
  pub closed_other : (n v : ℕ) → ((i : ℕ) → i < n → v ≢ held i) → source_at (closed_wires n held next wires) v ≡ source_at wires v
  closed_other zero v other = refl
  closed_other (suc n) v other =
      with_other (closed_wires n held next wires) (held n) v (Register (next n) 0) (other n (omega arith)) ∙ closed_other n v (λ i lt. other i (omega arith))

  -- the next one is still held
  pub still_held : (n : ℕ) → ((i : ℕ) → i < suc n → source_at wires (held i) ≡ Held) → ((i j : ℕ) → i < suc n → j < suc n → held i ≡ held j → i ≡ j)
      → source_at (closed_wires n held next wires) (held n) ≡ Held
  still_held n are apart =
      closed_other n (held n) (λ i lt e. (let same = apart n i (omega arith) (omega arith) e in omega (arith, same))) ∙ are n (omega arith)

  pub closed_here : (n : ℕ) → ((i : ℕ) → i < n → source_at wires (held i) ≡ Held) → ((i j : ℕ) → i < n → j < n → held i ≡ held j → i ≡ j)
      → (i : ℕ) → i < n → source_at (closed_wires n held next wires) (held i) ≡ Register (next i) 0
  closed_here zero are apart i lt = absurd (omega arith)
  closed_here (suc n) are apart i lt =
      elim (cases_eq i n) [
        | inl e ↦ subst (λ k. source_at (closed_wires (suc n) held next wires) (held k) ≡ Register (next k) 0) (sym e)
            (with_here (closed_wires n held next wires) (held n) (Register (next n) 0)
            (held_within (closed_wires n held next wires) (held n) (still_held n are apart)))
        | inr other ↦ with_other (closed_wires n held next wires) (held n) (held i) (Register (next n) 0) (λ e. (let same = apart i n lt (omega arith) e in other same))
            ∙ closed_here n (λ k below. are k (omega arith)) (λ k j below below'. apart k j (omega arith) (omega arith)) i (let differs = other in omega (arith, lt, differs))
      ]

  closed_run : (n cycles : ℕ) (bits : ℕ → ℕ → Bool) → ((i : ℕ) → i < n → source_at wires (held i) ≡ Held) → ((i j : ℕ) → i < n → j < n → held i ≡ held j → i ≡ j)
      → IsRun (closed_wires n held next wires) cycles bits → IsRun wires cycles bits
  closed_run zero cycles bits are apart run = run
  closed_run (suc n) cycles bits are apart run =
      closed_run n cycles bits (λ k below. are k (omega arith)) (λ k j below below'. apart k j (omega arith) (omega arith))
      (one_run (closed_wires n held next wires) (held n) (Register (next n) 0) cycles bits (still_held n are apart) run)

closed_built : (net : Wiring) (held next : ℕ → ℕ) (n : ℕ) → IsBuilt net → ((i : ℕ) → i < n → source_at net.wires (held i) ≡ Held) → ((i j : ℕ) → i < n → j < n → held i ≡ held j → i ≡ j)
    → ((i : ℕ) → i < n → next i < length net.wires) → IsBuilt (record net { wires = closed_wires n held next net.wires })
closed_built net held next zero built are apart reads = built
closed_built net held next (suc n) built are apart reads =
    let before : Wiring = record net { wires = closed_wires n held next net.wires } in
    let len = closed_length held next net.wires n in
    let lt = reads n (omega arith) in
    one_built before (held n) (next n)
    (closed_built net held next n built (λ k below. are k (omega arith)) (λ k j below below'. apart k j (omega arith) (omega arith)) (λ k below. reads k (omega arith)))
    (still_held held next net.wires n are apart) (omega (arith, len, lt))

module _ (net : Wiring) (n : ℕ) (held next : List ℕ) (are : AreHeld n net.wires held) where
  pub close_built : IsBuilt net → IsSharing net.wires n next → IsBuilt (record net { wires = closed_wires n (share held) (share next) net.wires })
  close_built built reads = closed_built net (share held) (share next) n built are.held are.apart (λ i lt. (reads i lt).within)

  -- what was said of runs holds on, and the held wires are delayed ones
  pub close_keeps : (cycles : ℕ) (bits : ℕ → ℕ → Bool) → IsRun (closed_wires n (share held) (share next) net.wires) cycles bits → IsRun net.wires cycles bits × Delays n cycles bits next held
  close_keeps cycles bits run = (
    closed_run (share held) (share next) net.wires n cycles bits are.held are.apart run,
    λ t lt i below.
        let len = closed_length (share held) (share next) net.wires n in
        let within = held_within net.wires (share held i) (are.held i below) in
        let kept = run_at (closed_wires n (share held) (share next) net.wires) cycles bits run (share held i) (omega (arith, len, within)) in
        let is = closed_here (share held) (share next) net.wires n are.held are.apart i below in
        let stored : Keeps cycles bits (share held i) (Register (share next i) 0) = subst (λ s. Keeps cycles bits (share held i) s) is kept in
        stored t lt,
  )

-- what the step makes is held
pub held_made : (n : ℕ) (old new : Wiring) (x y z : List ℕ) → AddsStep step.Hold n old new x y z → AreHeld n new.wires z
held_made n old new x y z adds =
    let first = length old.wires in
    let wire : ℕ → Wire = λ i. record { name = own_name n i (first + i); source = Held } in
    let at : (i : ℕ) → i < n → share z i ≡ first + i = λ i lt. ap (λ s. share s i) adds.numbers ∙ get-upto n i (λ k. first + k) 0 lt in
    record {
      held = λ i lt.
          ap (λ (net : Wiring). source_at net.wires (share z i)) adds.made
          ∙ (ap (source_at (old.wires ++ upto n wire)) (at i lt) ∙ (source_back old.wires (upto n wire) i ∙ ap (λ (x : Wire). x.source) (get-upto n i wire none lt)));
      apart = λ i j lt lt' e. (let p = at i lt in let q = at j lt' in omega (arith, p, q, e));
    }
