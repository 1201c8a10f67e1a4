-- Wires that are added keep the rules of HPC2 networks, and those before keep theirs.
use Rattle.std.proofs.Common.{◌-◌, ◌≡◌, ◌≢◌, ◌<◌, ◌≤◌, ◌+◌, ◌==◌, ◌++◌, ◌⊎◌, ℕ, true, false, cond, List, [], ◌∷◌, codes, length, drop, get_or, refl, sym, ap, subst, subst₂, inl, inr, ◌∙◌, arith, length-append, eq-eqb}
use Rattle.std.proofs.lemmas.Bool.{cases_lt, cases_eq, ne_eqb}
use Rattle.std.proofs.lemmas.List.{length-map}
use Rattle.agm_net.specs.Label.{part, IsBitOf, IsPublic, CountsAsShare, IsPartName}
use Rattle.agm_net.specs.Network.{Recipe, the_clock, a_share, a_random_bit, inverse, product, sum, stored, recipe}
use Rattle.agm_net.specs.declared.label.Part.{Part}
use Rattle.agm_net.specs.declared.label.PartKind.TheVariants.{Clk, R}
use Rattle.agm_net.proofs.Lists.{all_from}
use Rattle.share_wiring.specs.Wiring.{Wiring, name_at, source_at, names, IsPublicWire}
use Rattle.share_wiring.specs.Adds.{Extends}
use Rattle.share_wiring.specs.Networks.{source_reads, Serves, IsPartWire, IsRandomWire, IsBy, Rule, is_clock, is_random, is_public, is_share, is_part, IsPair, Rules, IsNetwork, start}
use Rattle.share_wiring.specs.declared.gate.Gate.TheVariants.{Same}
use Rattle.share_wiring.specs.declared.gate.Source.{Source}
use Rattle.share_wiring.specs.declared.gate.Source.TheVariants.{Equation}
use Rattle.share_wiring.specs.declared.gate.Wire.{Wire}
use Rattle.share_wiring.proofs.Grown.{source_front, source_back}
use Rattle.share_wiring.proofs.Runs.{grown, name_front, name_back}

-- ---- names that stay

-- these names stand at the same numbers among others
pub record Stay (old new : List Wire) : Type 0 where
  pub count : length old ≤ length new
  pub same : (w : ℕ) → w < length old → name_at new w ≡ name_at old w

pub stay_more : (old more : List Wire) → Stay old (old ++ more)
stay_more old more = let len = length-append old more in record { count = omega arith; same = λ w lt. name_front old more w lt }

pub stay_names : (old new : List Wire) → names new ≡ names old → Stay old new
stay_names old new e =
    let few = length-map old (λ (x : Wire). x.name) in
    let many = length-map new (λ (x : Wire). x.name) in
    let same = ap (λ (ns : List (List ℕ)). length ns) e in
    record { count = omega arith; same = λ w lt. ap (λ ns. get_or ns w []) e }

pub stay_extends : (old new : Wiring) → Extends old new → Stay old.wires new.wires
stay_extends old new e = subst (Stay old.wires) (sym (grown old.wires new.wires e.wires)) (stay_more old.wires (drop (length old.wires) new.wires))

module _ (d : ℕ) (old new : List Wire) (stay : Stay old new) where
  public_stays : (w : ℕ) → IsPublicWire old w → IsPublicWire new w
  public_stays w h =
      let lt = h.within in
      let count = stay.count in
      record { within = omega arith; named = subst IsPublic (sym (stay.same w lt)) h.named }

  pub serves_stays : (i w : ℕ) → Serves d old i w → Serves d new i w
  serves_stays i w h =
      let lt = h.within in
      let count = stay.count in
      record { within = omega arith; named = subst (λ name. IsPublic name ⊎ CountsAsShare d i name) (sym (stay.same w lt)) h.named }

  pub part_stays : (p : Part) (w : ℕ) → IsPartWire d old p w → IsPartWire d new p w
  part_stays p w h =
      let lt = h.within in
      let count = stay.count in
      record { within = omega arith; named = subst (IsPartName d p) (sym (stay.same w lt)) h.named }

  random_stays : (w : ℕ) → IsRandomWire old w → IsRandomWire new w
  random_stays w h =
      let lt = h.within in
      let count = stay.count in
      record { within = omega arith; named = subst (IsBitOf (codes "agm_r")) (sym (stay.same w lt)) h.named }

  pub by_stays : (r : Recipe) (s : Source) → IsBy d old r s → IsBy d new r s
  by_stays the_clock s h = h
  by_stays (a_share i) s (v, e, served) = (v, e, serves_stays i v served)
  by_stays a_random_bit s (v, e, bit) = (v, e, random_stays v bit)
  by_stays (inverse p) s (v, e, named) = (v, e, part_stays p v named)
  by_stays (product p q) s (u, v, e, first, second) = (u, v, e, part_stays p u first, part_stays q v second)
  by_stays (sum p q) s (u, v, e, first, second) = (u, v, e, part_stays p u first, part_stays q v second)
  by_stays (stored p) s (v, c, e, next, clock) = (v, c, e, part_stays p v next, part_stays (part p.gadget Clk 0 0) c clock)

  pub rule_stays : (name : List ℕ) (s : Source) → Rule d old name s → Rule d new name s
  rule_stays name s (is_clock e f) = is_clock e f
  rule_stays name s (is_random e f) = is_random e f
  rule_stays name s (is_public named reads clocked) = is_public named (all_from (IsPublicWire old) (IsPublicWire new) public_stays (source_reads s) reads) clocked
  rule_stays name s (is_share i le named reads clocked) = is_share i le named (all_from (Serves d old i) (Serves d new i) (serves_stays i) (source_reads s) reads) clocked
  rule_stays name s (is_part p named made) = is_part p named (by_stays (recipe d p.gadget p.kind p.i p.j) s made)

-- ---- wires that are added

-- more wires that keep their rules, none a pair's
pub rules_more : (d m : ℕ) (old more : List Wire) (given : ℕ) (bits bits' : List ℕ) → ((k : ℕ) → k < given → get_or bits' k 0 ≡ get_or bits k 0)
    → ((k : ℕ) → k < length more → Rule d (old ++ more) (name_at more k) (source_at more k))
    → ((k : ℕ) → k < length more → IsPair d (name_at more k) → Prim.⊥)
    → Rules d m old given bits → Rules d m (old ++ more) given bits'
rules_more d m old more given bits bits' same own none before =
    let len = length-append old more in
    let stay = stay_more old more in
    record {
      ruled = λ w lt. elim (cases_lt w (length old)) [
        | inl here ↦ subst₂ (λ name s. Rule d (old ++ more) name s) (sym (name_front old more w here)) (sym (source_front old more w here))
            (rule_stays d old (old ++ more) stay (name_at old w) (source_at old w) (before.ruled w here))
        | inr there ↦ (
            let k = w - length old in
            let at : length old + k ≡ w = omega arith in
            subst (λ v. Rule d (old ++ more) (name_at (old ++ more) v) (source_at (old ++ more) v)) at
            (subst₂ (λ name s. Rule d (old ++ more) name s) (sym (name_back old more k)) (sym (source_back old more k)) (own k (omega arith))))
      ];
      whole = λ g lt kind i j h. (let found = before.whole g lt kind i j h in (found.0, part_stays d old (old ++ more) stay (part g kind i j) found.0 found.1));
      reader = before.reader;
      within = λ k lt. (let under = before.within k lt in omega arith);
      pairs = λ k lt. subst (IsPair d) (sym (name_front old more (before.reader k) (before.within k lt))) (before.pairs k lt);
      reads = λ k lt. source_front old more (before.reader k) (before.within k lt) ∙ (before.reads k lt ∙ ap (λ b. Equation (Same b)) (sym (same k lt)));
      others = λ w lt pair. elim (cases_lt w (length old)) [
        | inl here ↦ before.others w here (subst (IsPair d) (name_front old more w here) pair)
        | inr there ↦ (
            let k = w - length old in
            let at : length old + k ≡ w = omega arith in
            absurd (none k (omega arith) (subst (IsPair d) (ap (name_at (old ++ more)) (sym at) ∙ name_back old more k) pair)))
      ];
    }

-- the part that a pair's next random bit is for
pub rules_pair : (d m : ℕ) (old : List Wire) (given : ℕ) (bits : List ℕ) (g i j : ℕ) (name : List ℕ) → IsPartName d (part g R i j) name → IsRandomWire old (get_or bits given 0)
    → Rules d m old given bits → Rules d m (old ++ (record { name = name; source = Equation (Same (get_or bits given 0)) }) ∷ []) (given + 1) bits
rules_pair d m old given bits g i j name named bit before =
    let b = get_or bits given 0 in
    let more : List Wire = (record { name = name; source = Equation (Same b) }) ∷ [] in
    let new = old ++ more in
    let len = length-append old more in
    let stay = stay_more old more in
    let last : length old + 0 ≡ length old = omega arith in
    let name_is : name_at new (length old) ≡ name = ap (name_at new) (sym last) ∙ name_back old more 0 in
    let source_is : source_at new (length old) ≡ Equation (Same b) = ap (source_at new) (sym last) ∙ source_back old more 0 in
    let made : Rule d new name (Equation (Same b)) = is_part (part g R i j) named (b, refl, random_stays d old new stay b bit) in
    let reader : ℕ → ℕ = λ k. cond (k == given) (length old) (before.reader k) in
    let here : (k : ℕ) → k ≡ given → reader k ≡ length old = λ k e. (let is : (k == given) ≡ true = eq-eqb k given e in rw is refl) in
    let there : (k : ℕ) → k ≢ given → reader k ≡ before.reader k = λ k other. (let no : (k == given) ≡ false = ne_eqb k given other in rw no refl) in
    record {
      ruled = λ w lt. elim (cases_lt w (length old)) [
        | inl earlier ↦ subst₂ (λ n s. Rule d new n s) (sym (name_front old more w earlier)) (sym (source_front old more w earlier))
            (rule_stays d old new stay (name_at old w) (source_at old w) (before.ruled w earlier))
        | inr later ↦ (
            let at : length old ≡ w = omega arith in
            subst (λ v. Rule d new (name_at new v) (source_at new v)) at (subst₂ (λ n s. Rule d new n s) (sym name_is) (sym source_is) made))
      ];
      whole = λ h lt kind k l numbers. (let found = before.whole h lt kind k l numbers in (found.0, part_stays d old new stay (part h kind k l) found.0 found.1));
      reader = reader;
      within = λ k lt. elim (cases_eq k given) [
        | inl e ↦ (let is = here k e in omega arith)
        | inr other ↦ (let is = there k other in let differs = other in let under = before.within k (omega arith) in omega arith)
      ];
      pairs = λ k lt. elim (cases_eq k given) [
        | inl e ↦ subst (λ v. IsPair d (name_at new v)) (sym (here k e)) (subst (IsPair d) (sym name_is) (g, i, j, named))
        | inr other ↦ (let differs = other in let below : k < given = omega arith in
            subst (λ v. IsPair d (name_at new v)) (sym (there k other)) (subst (IsPair d) (sym (name_front old more (before.reader k) (before.within k below))) (before.pairs k below)))
      ];
      reads = λ k lt. elim (cases_eq k given) [
        | inl e ↦ ap (source_at new) (here k e) ∙ (source_is ∙ ap (λ n. Equation (Same (get_or bits n 0))) (sym e))
        | inr other ↦ (let differs = other in let below : k < given = omega arith in
            ap (source_at new) (there k other) ∙ (source_front old more (before.reader k) (before.within k below) ∙ before.reads k below))
      ];
      others = λ w lt pair. elim (cases_lt w (length old)) [
        | inl earlier ↦ (
            let found = before.others w earlier (subst (IsPair d) (name_front old more w earlier) pair) in
            let below = found.1 in
            (found.0, omega arith, found.2 ∙ sym (there found.0 (λ e. (let same = e in omega arith)))))
        | inr later ↦ (let at : w ≡ length old = omega arith in (given, omega arith, at ∙ sym (here given refl)))
      ];
    }

-- ---- the first wire

pub start_rules : (d : ℕ) → IsNetwork d start
start_rules d = record {
  ruled = λ w lt. (let zeroth : 0 ≡ w = omega arith in subst (λ v. Rule d start.wires (name_at start.wires v) (source_at start.wires v)) zeroth (is_clock refl refl));
  whole = λ g lt kind i j h. absurd (omega arith);
  reader = λ k. 0;
  within = λ k lt. absurd (omega arith);
  pairs = λ k lt. absurd (omega arith);
  reads = λ k lt. absurd (omega arith);
  others = λ w lt pair. (let zeroth : w ≡ 0 = omega arith in absurd (no_part (subst (λ v. IsPair d (name_at start.wires v)) zeroth pair)));
}
  where
    no_part : IsPair d (codes "agm_clk") → Prim.⊥
    no_part (g, i, j, h) = let named = h.4 in let r : ◌≡◌ {A = ℕ} 99 103 = cc in absurd (omega (arith, r))
