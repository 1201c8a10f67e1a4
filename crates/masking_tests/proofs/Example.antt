-- A net with one random bit, and two bits in two shares.
use Rattle.std.proofs.Common.{◌≡◌, ◌≢◌, ◌<◌, ◌+◌, ◌-◌, ◌++◌, ℕ, zero, suc, List, [], ◌∷◌, Some, codes, length, get_or, refl, sym, ap, subst, inl, inr, ◌∙◌, arith}
use Rattle.agm_net.specs.Plain.{bit_names, select_name}
use Rattle.std.proofs.lemmas.Fmt.{decimal_digit}
use Rattle.agm_net.specs.Role.{share_name}
use Rattle.agm_net.specs.Label.{CountsAsShare}
use Rattle.agm_net.specs.declared.port.Range.{Range}
use Rattle.agm_net.specs.declared.port.Way.TheVariants.{Input as In}
use Rattle.share_wiring.specs.Wiring.{Wiring, MayBeShare, IsSharing, names, name_at}
use Rattle.share_wiring.specs.Own.{input_wires}
use Rattle.share_wiring.specs.Built.{clock_port, IsNew, IsNewPort}
use Rattle.share_wiring.specs.declared.gate.Source.TheVariants.{Input}

-- the net before its ports, and after each
abbrev pub ported : Wiring → List ℕ → Range → List ℕ → Wiring
ported net name range bits =
    record net {
      ports = net.ports ++ (record { name = name; way = In; range = Some range; bits = bits }) ∷ [];
      wires = net.wires ++ input_wires (bit_names name (Some range));
    }

abbrev pub start : Wiring
start = record { ports = clock_port ∷ []; wires = record { name = codes "agm_clk"; source = Input } ∷ []; gadgets = 0; given = 0 }

abbrev pub one_bit : Range
one_bit = record { msb = 0; lsb = 0 }

abbrev pub two_bits : Range
two_bits = record { msb = 1; lsb = 0 }

abbrev pub one : Wiring
one = ported start (codes "agm_r") one_bit (1 ∷ [])

abbrev pub two : Wiring
two = ported one (codes "agm_s0_x") two_bits (2 ∷ 3 ∷ [])

abbrev pub three : Wiring
three = ported two (codes "agm_s1_x") two_bits (4 ∷ 5 ∷ [])

-- names whose bytes at a place differ
apart : (k : ℕ) (x y : List ℕ) → get_or x k 0 ≢ get_or y k 0 → x ≢ y
apart k x y other same = other (ap (λ z. get_or z k 0) same)

-- a share's name with a digit
shared : (i : ℕ) (rest : List ℕ) → i < 10 → codes "agm_s" ++ ((48 + i) ∷ 95 ∷ rest) ≡ share_name i rest
shared i rest small = sym (ap (λ ds. codes "agm_s" ++ (ds ++ 95 ∷ rest)) (decimal_digit i small))

pub second_port : IsNewPort one (codes "agm_s0_x") (Some two_bits)
second_port = record {
  new_port = (apart 4 _ _ (λ e. absurd (omega arith)), (apart 4 _ _ (λ e. absurd (omega arith)), tt));
  new_wires = ((apart 4 _ _ (λ e. absurd (omega arith)), (apart 4 _ _ (λ e. absurd (omega arith)), tt)), ((apart 4 _ _ (λ e. absurd (omega arith)), (apart 4 _ _ (λ e. absurd (omega arith)), tt)), tt));
  written = (omega arith, (refl, (refl, (refl, (refl, (refl, (refl, (refl, (refl, tt)))))))));
  port_name = inr (inr (inr (inr (0, (omega arith, inl (codes "x", omega arith, shared 0 (codes "x") (omega arith)))))));
  small = (omega arith, omega arith);
}

-- a bit of the third port is named as none before
abbrev NewBit : List ℕ → Type 0
NewBit name = IsNew (names two.wires) name

third_bit : (k : ℕ) → NewBit (select_name (codes "agm_s1_x") k)
third_bit k = (apart 4 _ _ (λ e. absurd (omega arith)), (apart 4 _ _ (λ e. absurd (omega arith)), (apart 5 _ _ (λ e. absurd (omega arith)), (apart 5 _ _ (λ e. absurd (omega arith)), tt))))

pub third_port : IsNewPort two (codes "agm_s1_x") (Some two_bits)
third_port = record {
  new_port = (apart 4 _ _ (λ e. absurd (omega arith)), (apart 4 _ _ (λ e. absurd (omega arith)), (apart 5 _ _ (λ e. absurd (omega arith)), tt)));
  new_wires = (third_bit (1 - 0), (third_bit (1 - (0 + 1)), tt));
  written = (omega arith, (refl, (refl, (refl, (refl, (refl, (refl, (refl, (refl, tt)))))))));
  port_name = inr (inr (inr (inr (1, (omega arith, inl (codes "x", omega arith, shared 1 (codes "x") (omega arith)))))));
  small = (omega arith, omega arith);
}

-- a step from a net that is known
pub known : (old new closed : Wiring) (name : List ℕ) (range : Range) (bits shown : List ℕ) → old ≡ closed → new ≡ ported old name range bits → bits ≡ shown → new ≡ ported closed name range shown
known old new closed name range bits shown e f g = f ∙ (ap (λ n. ported n name range bits) e ∙ ap (ported closed name range) g)

of_share : (i w : ℕ) (rest : List ℕ) → i < 10 → 0 < length rest → w < length three.wires → name_at three.wires w ≡ codes "agm_s" ++ ((48 + i) ∷ 95 ∷ rest) → MayBeShare three.wires 2 i w
of_share i w rest small some within at =
    record { within = within; named = inr (λ e. (let same = e in omega arith), subst (CountsAsShare 1 i) (sym (at ∙ shared i rest small)) (inl (inl (share_name i rest, (omega arith, inl (rest, some, refl)), inl refl)))) }

pub high_bits : IsSharing three.wires 2 (2 ∷ 4 ∷ [])
high_bits zero lt = of_share 0 2 (select_name (codes "x") (1 - 0)) (omega arith) (omega arith) (omega arith) refl
high_bits (suc zero) lt = of_share 1 4 (select_name (codes "x") (1 - 0)) (omega arith) (omega arith) (omega arith) refl
high_bits (suc (suc i)) lt = absurd (omega arith)

pub low_bits : IsSharing three.wires 2 (3 ∷ 5 ∷ [])
low_bits zero lt = of_share 0 3 (select_name (codes "x") (1 - (0 + 1))) (omega arith) (omega arith) (omega arith) refl
low_bits (suc zero) lt = of_share 1 5 (select_name (codes "x") (1 - (0 + 1))) (omega arith) (omega arith) (omega arith) refl
low_bits (suc (suc i)) lt = absurd (omega arith)
