-- The wires that a step makes keep the rules of HPC2 networks.
use Rattle.std.proofs.Common.{◌-◌, ◌≡◌, ◌<◌, ◌≤◌, ◌+◌, ◌==◌, ◌^◌, ◌++◌, ℕ, zero, suc, true, false, List, [], length, get_or, refl, sym, ap, subst, subst₂, inl, inr, ◌∙◌, arith, IsTrue}
use Rattle.std.specs.Fmt.{decimal}
use Rattle.std.specs.List.{AllByRecursion}
use Rattle.std.proofs.lemmas.Bool.{cases_Bool, eqb-true}
use Rattle.agm_net.specs.Label.{IsPublic, IsShareName, CountsAsShare, HasNumbers, is_share_kind, gadget_name, part_text}
use Rattle.agm_net.specs.declared.label.PartKind.{PartKind}
use Rattle.agm_net.specs.declared.label.PartKind.TheVariants.{Clk, A, B, R, Rr, Bb, Vx, V, Na, Ux, U, Wx, W, Mx, M, S, C}
use Rattle.share_wiring.specs.Wiring.{Wiring, name_at, source_at, share, IsPublicWire, IsSharing, MayBeShare}
use Rattle.share_wiring.specs.Own.{own_name, source_of}
use Rattle.share_wiring.specs.Adds.{AddsStep}
use Rattle.share_wiring.specs.Built.{ReadsPublic, ReadsShares}
use Rattle.share_wiring.specs.Networks.{source_reads, IsClocked, Serves, Rule, is_public, is_share, IsPair, Rules, AreNamed}
use Rattle.share_wiring.specs.declared.gate.Source.{Source}
use Rattle.share_wiring.specs.declared.gate.Step.{Step}
use Rattle.share_wiring.specs.declared.gate.Step.TheVariants as step
use Rattle.share_wiring.specs.declared.gate.Wire.{Wire}
use Rattle.share_wiring.proofs.Digits.{decimal_some}
use Rattle.share_wiring.proofs.Grown.{none}
use Rattle.share_wiring.proofs.OwnNames.{own_no_gadget}
use Rattle.share_wiring.proofs.OwnWires.{made_names, made_count, step_wires, get-upto}
use Rattle.share_wiring.proofs.Ruling.{stay_more, rule_stays, rules_more}
use Rattle.share_wiring.proofs.Runs.{name_back}

-- a step reads its public wire and shares of its index
step_reads : (P : ℕ → Type 0) (wires : List Wire) (s : Step) (i n : ℕ) (x y : List ℕ) → ((shares : List ℕ) → IsSharing wires n shares → P (share shares i)) → ((w : ℕ) → IsPublicWire wires w → P w)
    → ReadsPublic wires s → ReadsShares s n wires x → ReadsShares s n wires y → AllByRecursion P (source_reads (source_of s i (share x i) (share y i)))
step_reads P wires step.Copy i n x y f g public hx hy = (f x hx, tt)
step_reads P wires (step.Constant true) zero n x y f g public hx hy = tt
step_reads P wires (step.Constant false) zero n x y f g public hx hy = tt
step_reads P wires (step.Constant b) (suc i) n x y f g public hx hy = tt
step_reads P wires step.First zero n x y f g public hx hy = (f x hx, tt)
step_reads P wires step.First (suc i) n x y f g public hx hy = tt
step_reads P wires step.Not zero n x y f g public hx hy = (f x hx, tt)
step_reads P wires step.Not (suc i) n x y f g public hx hy = (f x hx, tt)
step_reads P wires step.Xor i n x y f g public hx hy = (f x hx, (f y hy, tt))
step_reads P wires (step.And w) i n x y f g public hx hy = (g w public, (f x hx, tt))
step_reads P wires step.Delay i n x y f g public hx hy = (f x hx, tt)
step_reads P wires step.Hold i n x y f g public hx hy = tt

step_clocked : (s : Step) (i x y : ℕ) → IsClocked (source_of s i x y)
step_clocked step.Copy i x y = tt
step_clocked (step.Constant true) zero x y = tt
step_clocked (step.Constant false) zero x y = tt
step_clocked (step.Constant b) (suc i) x y = tt
step_clocked step.First zero x y = tt
step_clocked step.First (suc i) x y = tt
step_clocked step.Not zero x y = tt
step_clocked step.Not (suc i) x y = tt
step_clocked step.Xor i x y = tt
step_clocked (step.And w) i x y = tt
step_clocked step.Delay i x y = refl
step_clocked step.Hold i x y = tt

-- what may be a share of one is public
one_public : (wires : List Wire) (n i w : ℕ) → n ≡ 1 → MayBeShare wires n i w → IsPublicWire wires w
one_public wires n i w one h = elim h.named [
  | inl named ↦ record { within = h.within; named = named }
  | inr other ↦ absurd (other.0 one)
]

-- a part that counts as a share has its numbers and its name at each greater order too
numbers_rise : (c d : ℕ) (kind : PartKind) (i j : ℕ) → c ≤ d → IsTrue (is_share_kind kind) → HasNumbers c kind i j → HasNumbers d kind i j
numbers_rise c d Clk i j le h n = absurd (let no : false ≡ true = h in cc)
numbers_rise c d A i j le h n = (let a = n.0 in omega arith, n.1)
numbers_rise c d B i j le h n = (let a = n.0 in omega arith, n.1)
numbers_rise c d R i j le h n = absurd (let no : false ≡ true = h in cc)
numbers_rise c d Rr i j le h n = absurd (let no : false ≡ true = h in cc)
numbers_rise c d Bb i j le h n = (let a = n.0 in omega arith, n.1)
numbers_rise c d Vx i j le h n = absurd (let no : false ≡ true = h in cc)
numbers_rise c d V i j le h n = absurd (let no : false ≡ true = h in cc)
numbers_rise c d Na i j le h n = (let a = n.0 in omega arith, n.1)
numbers_rise c d Ux i j le h n = absurd (let no : false ≡ true = h in cc)
numbers_rise c d U i j le h n = (let a = n.0 in omega arith, (let b = n.1 in omega arith), n.2)
numbers_rise c d Wx i j le h n = absurd (let no : false ≡ true = h in cc)
numbers_rise c d W i j le h n = (let a = n.0 in omega arith, (let b = n.1 in omega arith), n.2)
numbers_rise c d Mx i j le h n = (let a = n.0 in omega arith, n.1)
numbers_rise c d M i j le h n = (let a = n.0 in omega arith, n.1)
numbers_rise c d S i j le h n = (let a = n.0 in omega arith, n.1, (let b = n.2 in omega arith))
numbers_rise c d C i j le h n = (let a = n.0 in omega arith, n.1)

text_stays : (m n : ℕ) (kind : PartKind) (i j : ℕ) → IsTrue (is_share_kind kind) → part_text m kind i j ≡ part_text n kind i j
text_stays m n Clk i j h = absurd (let no : false ≡ true = h in cc)
text_stays m n A i j h = refl
text_stays m n B i j h = refl
text_stays m n R i j h = absurd (let no : false ≡ true = h in cc)
text_stays m n Rr i j h = absurd (let no : false ≡ true = h in cc)
text_stays m n Bb i j h = refl
text_stays m n Vx i j h = absurd (let no : false ≡ true = h in cc)
text_stays m n V i j h = absurd (let no : false ≡ true = h in cc)
text_stays m n Na i j h = refl
text_stays m n Ux i j h = absurd (let no : false ≡ true = h in cc)
text_stays m n U i j h = refl
text_stays m n Wx i j h = absurd (let no : false ≡ true = h in cc)
text_stays m n W i j h = refl
text_stays m n Mx i j h = refl
text_stays m n M i j h = refl
text_stays m n S i j h = refl
text_stays m n C i j h = refl

counts_rise : (c d i : ℕ) (name : List ℕ) → c ≤ d → CountsAsShare c i name → CountsAsShare d i name
counts_rise c d i name le (inl named) = inl named
counts_rise c d i name le (inr (p, kind, index, h)) =
    inr (p, kind, index, (numbers_rise c d p.kind p.i p.j le kind h.0, h.1, h.2, h.3, h.4 ∙ ap (gadget_name p.gadget) (text_stays (c + 1) (d + 1) p.kind p.i p.j kind)))

-- what may be a share of n serves where the order is no less
pub serves_from : (wires : List Wire) (d n i w : ℕ) → n ≤ d + 1 → MayBeShare wires n i w → Serves d wires i w
serves_from wires d n i w le h = record {
  within = h.within;
  named = elim h.named [ inl public ↦ inl public | inr counts ↦ inr (counts_rise (n - 1) d i (name_at wires w) (omega arith) counts.1) ];
}

pub public_serves : (wires : List Wire) (d i w : ℕ) → IsPublicWire wires w → Serves d wires i w
public_serves wires d i w h = record { within = h.within; named = inl h.named }

-- the rule of what a step makes as share i
pub step_rule : (wires : List Wire) (d n i k : ℕ) (s : Step) (x y : List ℕ) → n ≤ d + 1 → n ≤ 16 → i < n → k < 2 ^ 64 → ReadsPublic wires s → ReadsShares s n wires x → ReadsShares s n wires y
    → Rule d wires (own_name n i k) (source_of s i (share x i) (share y i))
step_rule wires d n i k s x y le small lt fits public hx hy =
    elim (cases_Bool (n == 1)) [
      | inl one ↦ (
          let is : n ≡ 1 = eqb-true n 1 one in
          let named : IsPublic (own_name n i k) = rw one (inl (inr (inr (decimal k, decimal_some k fits, refl)))) in
          is_public named (step_reads (IsPublicWire wires) wires s i n x y (λ shares h. one_public wires n i (share shares i) is (h i lt)) (λ w h. h) public hx hy) (step_clocked s i (share x i) (share y i)))
      | inr more ↦ (
          let named : IsShareName i (own_name n i k) = rw more (inr (omega arith, decimal k, decimal_some k fits, refl)) in
          is_share i (omega arith) named (step_reads (Serves d wires i) wires s i n x y (λ shares h. serves_from wires d n i (share shares i) le (h i lt)) (λ w h. public_serves wires d i w h) public hx hy) (step_clocked s i (share x i) (share y i)))
    ]

-- an own name is no pair's
own_no_pair : (d n i k : ℕ) → IsPair d (own_name n i k) → Prim.⊥
own_no_pair d n i k (g, a, b, h) = own_no_gadget n i k g (part_text (d + 1) R a b) h.4

-- a step keeps the rules
pub step_rules : (old : Wiring) (d m n : ℕ) (s : Step) (x y : List ℕ) (bits : List ℕ) → n ≤ d + 1 → n ≤ 16 → length old.wires + n < 2 ^ 64
    → ReadsPublic old.wires s → ReadsShares s n old.wires x → ReadsShares s n old.wires y
    → Rules d m old.wires old.given bits → Rules d m (old.wires ++ step_wires old n s x y) old.given bits
step_rules old d m n s x y bits le small room public hx hy before =
    let source : ℕ → Source = λ i. source_of s i (share x i) (share y i) in
    let more = step_wires old n s x y in
    let count = made_count old n source in
    let first = length old.wires in
    let name_is : (k : ℕ) → k < n → name_at more k ≡ own_name n k (first + k) = λ k lt. ap (λ ns. get_or ns k []) (made_names old n source) ∙ get-upto n k (λ i. own_name n i (first + i)) [] lt in
    let source_is : (k : ℕ) → k < n → source_at more k ≡ source k = λ k lt. ap (λ (w : Wire). w.source) (get-upto n k (λ i. record { name = own_name n i (first + i); source = source i }) none lt) in
    rules_more d m old.wires more old.given bits bits (λ k lt. refl)
    (λ k lt. let below : k < n = omega (arith, count, lt) in
    subst₂ (λ name t. Rule d (old.wires ++ more) name t) (sym (name_is k below)) (sym (source_is k below))
    (rule_stays d old.wires (old.wires ++ more) (stay_more old.wires more) (own_name n k (first + k)) (source k) (step_rule old.wires d n k (first + k) s x y le small below (omega arith) public hx hy)))
    (λ k lt pair. let below : k < n = omega (arith, count, lt) in own_no_pair d n k (first + k) (subst (IsPair d) (name_is k below) pair))
    before

-- and its wires have the names of shares of n
pub step_named : (s : Step) (n : ℕ) (old new : Wiring) (x y z : List ℕ) → length old.wires + n < 2 ^ 64 → AddsStep s n old new x y z → AreNamed n new.wires z
step_named s n old new x y z room adds i lt =
    let source : ℕ → Source = λ k. source_of s k (share x k) (share y k) in
    let first = length old.wires in
    let more = step_wires old n s x y in
    let at : share z i ≡ first + i = ap (λ t. share t i) adds.numbers ∙ get-upto n i (λ k. first + k) 0 lt in
    let name_is : name_at more i ≡ own_name n i (first + i) = ap (λ ns. get_or ns i []) (made_names old n source) ∙ get-upto n i (λ k. own_name n k (first + k)) [] lt in (
      first + i,
      omega arith,
      ap (λ (net : Wiring). name_at net.wires (share z i)) adds.made ∙ (ap (name_at (old.wires ++ more)) at ∙ (name_back old.wires more i ∙ name_is)),
    )
