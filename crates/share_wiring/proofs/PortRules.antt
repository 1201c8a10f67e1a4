-- The wires of ports keep the rules of HPC2 networks.
use Rattle.std.proofs.Common.{◌≡◌, ◌<◌, ◌≤◌, ◌+◌, ◌++◌, ℕ, zero, suc, true, false, List, [], ◌∷◌, Option, codes, length, get_or, refl, sym, ap, subst, subst₂, inl, inr, ◌∙◌, arith}
use Rattle.std.specs.Fmt.{decimal}
use Rattle.std.specs.List.{AllByRecursion}
use Rattle.std.specs.Str.{bytes_eq}
use Rattle.agm_net.specs.Label.{IsBitOf, IsUserName, part_text}
use Rattle.agm_net.specs.Plain.{bit_names}
use Rattle.agm_net.specs.Role.{IsOfShare}
use Rattle.agm_net.specs.declared.label.PartKind.TheVariants.{R}
use Rattle.agm_net.specs.declared.port.Range.{Range}
use Rattle.agm_net.proofs.Lists.{all_from}
use Rattle.share_wiring.specs.Wiring.{Wiring, name_at, source_at, IsPublicWire}
use Rattle.share_wiring.specs.Own.{bit_wires}
use Rattle.share_wiring.specs.Built.{IsBegun, IsPortName, IsSmallRange, MayBeGiven}
use Rattle.share_wiring.specs.Networks.{source_reads, IsClocked, Serves, Rule, is_public, is_share, is_random, IsPair, Rules, FitsOrder, IsServed}
use Rattle.share_wiring.specs.declared.gate.Gate.TheVariants.{Same}
use Rattle.share_wiring.specs.declared.gate.Source.{Source}
use Rattle.share_wiring.specs.declared.gate.Source.TheVariants.{Input, Equation}
use Rattle.share_wiring.specs.declared.gate.Wire.{Wire}
use Rattle.share_wiring.proofs.Grown.{none}
use Rattle.share_wiring.proofs.OwnWires.{get-upto}
use Rattle.share_wiring.proofs.PortBits.{at_place}
use Rattle.share_wiring.proofs.PortNames.{each_select, bits_begun, user_select}
use Rattle.share_wiring.proofs.PortWires.{bit_wire_names, bit_wire_count}
use Rattle.share_wiring.proofs.Ruling.{stay_more, rule_stays, rules_more}

-- ---- names of ports

-- a name that is none of a share's
abbrev IsUnshared : List ℕ → Type 0
IsUnshared name = (i : ℕ) → IsOfShare i name → Prim.⊥

user_unshared : (name : List ℕ) → IsUserName name → IsUnshared name
user_unshared name user i (small, inl (rest, some, e)) = user (115 ∷ (decimal i ++ 95 ∷ rest)) e
user_unshared name user i (small, inr e) = user (113 ∷ 95 ∷ 115 ∷ decimal i) e

load_unshared : (name : List ℕ) → name ≡ codes "agm_load" → IsUnshared name
load_unshared name is i (small, inl (rest, some, e)) = let r : ◌≡◌ {A = ℕ} 108 115 = (let both = sym is ∙ e in cc) in absurd (omega (arith, r))
load_unshared name is i (small, inr e) = let r : ◌≡◌ {A = ℕ} 108 113 = (let both = sym is ∙ e in cc) in absurd (omega (arith, r))

state_unshared : (name : List ℕ) → name ≡ codes "agm_q_p" → IsUnshared name
state_unshared name is i (small, inl (rest, some, e)) = let r : ◌≡◌ {A = ℕ} 113 115 = (let both = sym is ∙ e in cc) in absurd (omega (arith, r))
state_unshared name is i (small, inr e) = let r : ◌≡◌ {A = ℕ} 112 115 = (let both = sym is ∙ e in cc) in absurd (omega (arith, r))

pub user_bit : (name bit : List ℕ) → IsUserName name → IsBitOf name bit → IsUserName bit
user_bit name bit user (inl e) = subst IsUserName (sym e) user
user_bit name bit user (inr (k, small, e)) = subst IsUserName (sym e) (user_select name (decimal k ++ 93 ∷ []) user)

-- The rule of a bit of a port, whose source is that of an input, or a wire that is public or of the port's share.
bit_rule : (d : ℕ) (wires : List Wire) (name bit : List ℕ) (s : Source) → IsPortName name → IsBitOf name bit → IsClocked s → (name ≡ codes "agm_r" → s ≡ Input)
    → (IsUnshared name → AllByRecursion (IsPublicWire wires) (source_reads s)) → ((i : ℕ) → IsOfShare i name → (i ≤ d) × AllByRecursion (Serves d wires i) (source_reads s)) → Rule d wires bit s
bit_rule d wires name bit s (inl user) of clocked input open_reads shared = is_public (inr (user_bit name bit user of)) (open_reads (user_unshared name user)) clocked
bit_rule d wires name bit s (inr (inl e)) of clocked input open_reads shared =
    is_public (inl (inl (subst (λ n. IsBitOf n bit) e of))) (open_reads (load_unshared name e)) clocked
bit_rule d wires name bit s (inr (inr (inl e))) of clocked input open_reads shared = is_random (subst (λ n. IsBitOf n bit) e of) (input e)
bit_rule d wires name bit s (inr (inr (inr (inl e)))) of clocked input open_reads shared =
    is_public (inl (inr (inl (subst (λ n. IsBitOf n bit) e of)))) (open_reads (state_unshared name e)) clocked
bit_rule d wires name bit s (inr (inr (inr (inr (i, h))))) of clocked input open_reads shared =
    is_share i (shared i h).0 (inl (name, h, of)) (shared i h).1 clocked

pub all_bits : (name : List ℕ) (range : Option Range) → IsSmallRange range → AllByRecursion (IsBitOf name) (bit_names name range)
all_bits name range small = each_select (IsBitOf name) name range small (inl refl) (λ k lt. inr (k, lt, refl))

pub name_place : (P : List ℕ → Type 0) (xs : List (List ℕ)) (k : ℕ) → AllByRecursion P xs → k < length xs → P (get_or xs k [])
name_place P [] k h lt = absurd (omega arith)
name_place P (x ∷ xs) zero h lt = h.0
name_place P (x ∷ xs) (suc k) h lt = name_place P xs k h.1 (omega arith)

-- ---- a port more

module _ (d m : ℕ) (old : Wiring) (name : List ℕ) (range : Option Range) (port : IsPortName name) (small : IsSmallRange range) (source : ℕ → Source) (bits bits' : List ℕ) where
  port_rules : ((k : ℕ) → k < old.given → get_or bits' k 0 ≡ get_or bits k 0) → ((k : ℕ) → IsClocked (source k)) → (name ≡ codes "agm_r" → (k : ℕ) → source k ≡ Input)
      → ((k : ℕ) → k < length (bit_names name range) → IsUnshared name → AllByRecursion (IsPublicWire old.wires) (source_reads (source k)))
      → ((k : ℕ) → k < length (bit_names name range) → (i : ℕ) → IsOfShare i name → (i ≤ d) × AllByRecursion (Serves d old.wires i) (source_reads (source k)))
      → Rules d m old.wires old.given bits → Rules d m (old.wires ++ bit_wires (bit_names name range) source) old.given bits'
  port_rules same clocked input open_reads shared before =
      let ns = bit_names name range in
      let more = bit_wires ns source in
      let count = bit_wire_count ns source in
      let name_is : (k : ℕ) → name_at more k ≡ get_or ns k [] = λ k. ap (λ xs. get_or xs k []) (bit_wire_names ns source) in
      let source_is : (k : ℕ) → k < length ns → source_at more k ≡ source k = λ k lt. ap (λ (w : Wire). w.source) (get-upto (length ns) k (λ i. record { name = get_or ns i []; source = source i }) none lt) in
      rules_more d m old.wires more old.given bits bits' same
      (λ k lt. let below : k < length ns = omega (arith, count, lt) in
      subst₂ (λ x s. Rule d (old.wires ++ more) x s) (sym (name_is k)) (sym (source_is k below))
      (rule_stays d old.wires (old.wires ++ more) (stay_more old.wires more) (get_or ns k []) (source k)
      (bit_rule d old.wires name (get_or ns k []) (source k) port (name_place (IsBitOf name) ns k (all_bits name range small) below) (clocked k) (λ e. input e k) (open_reads k below) (shared k below))))
      (λ k lt pair. let below : k < length ns = omega (arith, count, lt) in
      let begun = name_place (IsBegun 0) ns k (bits_begun name range small port 0) below in
      no_pair (get_or ns k []) begun (subst (IsPair d) (name_is k) pair))
      before
    where
      no_pair : (x : List ℕ) → IsBegun 0 x → IsPair d x → Prim.⊥
      no_pair x begun (g, i, j, h) = let few = h.1 in let lt = begun g (part_text (d + 1) R i j) (omega (arith, few)) h.4 in absurd (omega (arith, lt))

-- an input port
pub input_rules : (d m : ℕ) (old : Wiring) (name : List ℕ) (range : Option Range) (bits bits' : List ℕ) → IsPortName name → IsSmallRange range → FitsOrder d name
    → ((k : ℕ) → k < old.given → get_or bits' k 0 ≡ get_or bits k 0) → Rules d m old.wires old.given bits → Rules d m (old.wires ++ bit_wires (bit_names name range) (λ i. Input)) old.given bits'
input_rules d m old name range bits bits' port small fits same =
    port_rules d m old name range port small (λ i. Input) bits bits' same (λ k. tt) (λ e k. refl) (λ k lt un. tt) (λ k lt i of. (fits i of, tt))

may_serve : (wires : List Wire) (name : List ℕ) (w : ℕ) → IsUnshared name → MayBeGiven wires name w → IsPublicWire wires w
may_serve wires name w un h = elim h.named [
  | inl public ↦ record { within = h.within; named = public }
  | inr shared ↦ absurd (un shared.1 shared.2)
]

-- an output port
pub output_rules : (d m : ℕ) (old : Wiring) (name : List ℕ) (range : Option Range) (bits bits' wires : List ℕ) → IsPortName name → IsSmallRange range → bytes_eq name (codes "agm_r") ≡ false → bits' ≡ bits
    → length wires ≡ length (bit_names name range) → AllByRecursion (MayBeGiven old.wires name) wires → IsServed d old.wires name wires → Rules d m old.wires old.given bits
    → Rules d m (old.wires ++ bit_wires (bit_names name range) (λ i. Equation (Same (get_or wires i 0)))) old.given bits'
output_rules d m old name range bits bits' wires port small other same many given served =
    port_rules d m old name range port small (λ i. Equation (Same (get_or wires i 0))) bits bits' (λ k lt. ap (λ bs. get_or bs k 0) same) (λ k. tt) (λ e k. absurd (let no : true ≡ false = sym (ap (λ n. bytes_eq n (codes "agm_r")) e) ∙ other in cc))
    (λ k lt un. (at_place (IsPublicWire old.wires) wires k (all_from (MayBeGiven old.wires name) (IsPublicWire old.wires) (λ w h. may_serve old.wires name w un h) wires given) (omega (arith, many, lt)), tt))
    (λ k lt i of. ((served i of).0, (at_place (Serves d old.wires i) wires k (served i of).1 (omega (arith, many, lt)), tt)))
