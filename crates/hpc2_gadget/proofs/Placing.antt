-- Parts that are added keep the rules of HPC2 networks.
use Rattle.std.proofs.Common.{◌≡◌, ◌≢◌, ◌<◌, ◌≤◌, ◌+◌, ◌-◌, ◌*◌, ◌^◌, ◌++◌, ℕ, List, [], ◌∷◌, length, get_or, refl, sym, ap, subst, subst₂, ◌∙◌, arith, length-append}
use Rattle.agm_net.specs.Label.{part, part_name, IsPartName}
use Rattle.agm_net.specs.Network.{recipe, partial_sum}
use Rattle.agm_net.specs.declared.label.Part.{Part}
use Rattle.agm_net.specs.declared.label.PartKind.{PartKind}
use Rattle.agm_net.specs.declared.label.PartKind.TheVariants.{Clk, R, Rr, Vx, V, Ux, U, Wx, W, S}
use Rattle.agm_net.proofs.OnePart.{one_part}
use Rattle.share_wiring.specs.Wiring.{Wiring, name_at, source_at, share}
use Rattle.share_wiring.specs.Adds.{Extends, random_bits}
use Rattle.share_wiring.specs.Networks.{IsPartWire, IsRandomWire, IsBy, IsPair, Rule, is_part, Rules}
use Rattle.share_wiring.specs.declared.gate.Gate.TheVariants.{Same}
use Rattle.share_wiring.specs.declared.gate.Source.{Source}
use Rattle.share_wiring.specs.declared.gate.Source.TheVariants.{Equation}
use Rattle.share_wiring.specs.declared.gate.Wire.{Wire}
use Rattle.share_wiring.proofs.Ruling.{stay_more, stay_extends, part_stays, by_stays, rules_more, rules_pair}
use Rattle.share_wiring.proofs.Runs.{name_back}
use Rattle.hpc2_gadget.specs.Order.{IsIndex, place_of}
use Rattle.hpc2_gadget.specs.Sound.{At, Has, HasSum, Sound, AddsPart, HasHalf, HasPair, AreParts}

-- ---- what stays

module _ (n g : ℕ) (old new : Wiring) (e : Extends old new) where
  pub later : (p : Part) (w : ℕ) → IsPartWire (n - 1) old.wires p w → IsPartWire (n - 1) new.wires p w
  later p w h = part_stays (n - 1) old.wires new.wires (stay_extends old new e) p w h

  pub has_later : (kind : PartKind) (i j : ℕ) → Has n g old kind i j → Has n g new kind i j
  has_later kind i j h = (h.0, later (part g kind i j) h.0 h.1)

  pub sum_later : (i m : ℕ) → HasSum n g old i m → HasSum n g new i m
  sum_later i m h = (h.0, later (partial_sum (n - 1) g i m) h.0 h.1)

  pub half_later : (i j : ℕ) → HasHalf n g old i j → HasHalf n g new i j
  half_later i j h = record {
    masked = has_later Vx i j h.masked;
    masked_later = has_later V i j h.masked_later;
    kept = has_later Ux i j h.kept;
    kept_later = has_later U i j h.kept_later;
    crossed = has_later Wx i j h.crossed;
    crossed_later = has_later W i j h.crossed_later;
    odd = has_later S i (2 * place_of i j + 1) h.odd;
    even = sum_later i (2 * place_of i j + 2) h.even;
  }

  pub pair_later : (i j : ℕ) → HasPair n g old i j → HasPair n g new i j
  pair_later i j h = record { random = has_later R i j h.random; random_later = has_later Rr i j h.random_later; upper = half_later i j h.upper; lower = half_later j i h.lower }

  pub parts_later : (kind : PartKind) (m : ℕ) (shares : List ℕ) → AreParts n g old kind m shares → AreParts n g new kind m shares
  parts_later kind m shares h k lt = later (part g kind k 0) (share shares k) (h k lt)

-- ---- a part more

-- the index of a partial sum
pub sum_index : (n i m : ℕ) → n ≤ 16 → i < n → 0 < m → m < 2 * (n - 1) → IsIndex n S i m
sum_index n i m few lt some below = (omega arith, omega arith, (omega arith, some, below))

named : (n g : ℕ) (kind : PartKind) (i j : ℕ) → 1 ≤ n → g < 2 ^ 32 → IsIndex n kind i j → IsPartName (n - 1) (part g kind i j) (part_name n g kind i j)
named n g kind i j some small index =
    let hi = index.0 in
    let hj = index.1 in
    let same : n ≡ n - 1 + 1 = omega arith in
    (index.2, small, omega arith, omega arith, ap (λ m. part_name m g kind i j) same)

module _ (n g : ℕ) (kind : PartKind) (i j : ℕ) (source : Source) (old new : Wiring) (w : ℕ) (some : 1 ≤ n) (small : g < 2 ^ 32) (index : IsIndex n kind i j) (adds : AddsPart n g kind i j source old new w) where
  pub added_at : At n g new kind i j w
  added_at =
      let len = length-append old.wires ((record { name = part_name n g kind i j; source = source }) ∷ []) in
      let count = ap (λ (ws : List Wire). length ws) adds.wires in
      let at = adds.number in
      let last : length old.wires + 0 ≡ w = omega arith in
      let name_is : name_at new.wires w ≡ part_name n g kind i j =
      ap (λ ws. name_at ws w) adds.wires ∙ (ap (name_at (old.wires ++ (record { name = part_name n g kind i j; source = source }) ∷ [])) (sym last) ∙ name_back old.wires ((record { name = part_name n g kind i j; source = source }) ∷ []) 0) in
      record { within = omega (arith, len, count, at); named = subst (IsPartName (n - 1) (part g kind i j)) (sym name_is) (named n g kind i j some small index) }

  pub added_rules : kind ≢ R → IsBy (n - 1) old.wires (recipe (n - 1) g kind i j) source → Rules (n - 1) g old.wires old.given (random_bits old.ports) → Rules (n - 1) g new.wires new.given (random_bits new.ports)
  added_rules other by before =
      let d = n - 1 in
      let one : List Wire = (record { name = part_name n g kind i j; source = source }) ∷ [] in
      let is : IsPartName d (part g kind i j) (part_name n g kind i j) = named n g kind i j some small index in
      let rule : (k : ℕ) → k < 1 → Rule d (old.wires ++ one) (name_at one k) (source_at one k) =
      λ k lt. (let zeroth : 0 ≡ k = omega (arith, lt) in
      subst (λ v. Rule d (old.wires ++ one) (name_at one v) (source_at one v)) zeroth
      (is_part (part g kind i j) is (by_stays d old.wires (old.wires ++ one) (stay_more old.wires one) (recipe d g kind i j) source by))) in
      let no_pair : (k : ℕ) → k < 1 → IsPair d (name_at one k) → Prim.⊥ =
      λ k lt pair. (let zeroth : k ≡ 0 = omega (arith, lt) in
      let at : IsPair d (part_name n g kind i j) = subst (λ v. IsPair d (name_at one v)) zeroth pair in
      other (ap (λ (p : Part). p.kind) (one_part d (part_name n g kind i j) (part g kind i j) (part at.0 R at.1 at.2) is at.3))) in
      let after = rules_more d g old.wires one old.given (random_bits old.ports) (random_bits old.ports) (λ k lt. refl) rule no_pair before in
      subst (λ ws. Rules d g ws new.given (random_bits new.ports)) (sym adds.wires)
      (subst₂ (λ given ports. Rules d g (old.wires ++ one) given (random_bits ports)) (sym adds.given) (sym adds.ports) after)

  -- a gadget with its clock
  pub added_sound : (clock : ℕ) → Extends old new → kind ≢ R → IsBy (n - 1) old.wires (recipe (n - 1) g kind i j) source → Sound n g clock old → Sound n g clock new
  added_sound clock e other by before = record { rules = added_rules other by before.rules; clocked = later n g old new e (part g Clk 0 0) clock before.clocked }

-- the part of a pair's random bit
pub drawn_sound : (n g i j b w clock : ℕ) (old mid new : Wiring) → 1 ≤ n → g < 2 ^ 32 → IsIndex n R i j → mid ≡ record old { given = old.given + 1 } → b ≡ get_or (random_bits old.ports) old.given 0 → IsRandomWire mid.wires b
    → AddsPart n g R i j (Equation (Same b)) mid new w → Extends mid new → Sound n g clock old → Sound n g clock new
drawn_sound n g i j b w clock old mid new some small index is bit random adds e before =
    let d = n - 1 in
    let wires_are : mid.wires ≡ old.wires = ap (λ (m : Wiring). m.wires) is in
    let ports_are : new.ports ≡ old.ports = adds.ports ∙ ap (λ (m : Wiring). m.ports) is in
    let given_is : new.given ≡ old.given + 1 = adds.given ∙ ap (λ (m : Wiring). m.given) is in
    let one : ℕ → List Wire = λ x. (record { name = part_name n g R i j; source = Equation (Same x) }) ∷ [] in
    let bit_is = get_or (random_bits old.ports) old.given 0 in
    let random_is : IsRandomWire old.wires bit_is = subst₂ (λ ws x. IsRandomWire ws x) wires_are bit random in
    let after = rules_pair d g old.wires old.given (random_bits old.ports) g i j (part_name n g R i j) (named n g R i j some small index) random_is before.rules in
    let new_wires : new.wires ≡ old.wires ++ one bit_is = adds.wires ∙ (ap (λ ws. ws ++ one b) wires_are ∙ ap (λ x. old.wires ++ one x) bit) in
    record {
      rules = subst (λ ws. Rules d g ws new.given (random_bits new.ports)) (sym new_wires)
          (subst₂ (λ given ports. Rules d g (old.wires ++ one bit_is) given (random_bits ports)) (sym given_is) (sym ports_are) after);
      clocked = later n g mid new e (part g Clk 0 0) clock (subst (λ ws. IsPartWire d ws (part g Clk 0 0) clock) (sym wires_are) before.clocked);
    }
