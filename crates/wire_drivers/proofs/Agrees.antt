-- What tables of counts tell of wires.
use Rattle.std.proofs.Common.{◌≡◌, ◌≤◌, ◌<◌, ◌+◌, ℕ, Bool, cond, List, [], ◌∷◌, Option, Some, map, length, get_or, slice_index_or, nat_lt, refl, ap, sym, ◌∙◌, arith}
use Rattle.std.specs.List.{flat_map, range_with_len, find}
use Rattle.std.specs.Option.{option_map}
use Rattle.agm_net.specs.Plain.{Line, Stored, PlainNet}
use Rattle.agm_net.specs.Renumbered.{renumbered_port}
use Rattle.agm_net.specs.declared.port.Port.{Port}
use Rattle.wire_drivers.specs.Wiring.{Wiring, driven, read, times, drivers, is_wrong, is_wrong_count, first_wrong, is_kept, numbers, kept_name, kept_line, kept_flop, kept_net}
use Rattle.wire_drivers.specs.Counted.{uses, wrong_at, is_kept_at, number_at, numbers_at, name_at}
use Rattle.wire_drivers.specs.declared.types.Wrong.{Wrong}
use Rattle.wire_drivers.proofs.Counts.{uses_length, uses_times}
use Rattle.wire_drivers.proofs.Ranges.{map_agree, count_agree, found_agree, flat_agree}

abbrev pub net_with : List Port → List (List ℕ) → List Line → List Stored → Option ℕ → PlainNet
net_with p m k r clock = record { ports = p; wires = m; lines = k; registers = r; clock = clock }

abbrev pub ds : Wiring → List ℕ
ds w = uses (length w.wires) (driven w)

abbrev pub rs : Wiring → List ℕ
rs w = uses (length w.wires) (read w)

pub wrong_agree : (w : Wiring) → option_map (λ v. record { wire = v; drivers = get_or (ds w) v 0 }) (find (wrong_at (ds w) (rs w)) (range_with_len 0 (length (ds w)))) ≡ first_wrong w
wrong_agree w =
    let n : ℕ = length w.wires in
    let same : length (ds w) ≡ n = uses_length n (driven w) in
    let u : ℕ → Wrong = λ v. record { wire = v; drivers = get_or (ds w) v 0 } in
    let t : ℕ → Wrong = λ v. record { wire = v; drivers = drivers w v } in
    ap (λ k. option_map u (find (wrong_at (ds w) (rs w)) (range_with_len 0 k))) same
    ∙ found_agree (wrong_at (ds w) (rs w)) (is_wrong w) u t 0 n
    (λ v p q.
    let a : get_or (ds w) v 0 ≡ drivers w v = uses_times n (driven w) v (omega arith) in
    let b : get_or (rs w) v 0 ≡ times v (read w) = uses_times n (read w) v (omega arith) in
    (ap (λ (k : ℕ). is_wrong_count k (get_or (rs w) v 0)) a ∙ ap (λ (k : ℕ). is_wrong_count (drivers w v) k) b, ap (λ (k : ℕ). record { wire = v; drivers = k }) a))

kept_agree : (w : Wiring) (v : ℕ) → v < length w.wires → is_kept_at (ds w) v ≡ is_kept w v
kept_agree w v h = ap (λ (k : ℕ). nat_lt 0 k) (uses_times (length w.wires) (driven w) v h)

pub numbers_agree : (w : Wiring) → numbers_at (ds w) (length (ds w)) ≡ numbers w
numbers_agree w =
    let n : ℕ = length w.wires in
    let same : length (ds w) ≡ n = uses_length n (driven w) in
    ap (λ k. numbers_at (ds w) k) same
    ∙ map_agree (number_at (ds w)) _ 0 n (λ v p q. count_agree (is_kept_at (ds w)) (is_kept w) 0 v (λ k a b. kept_agree w k (omega arith)))

pub names_agree : (w : Wiring) → flat_map (name_at (ds w) w.wires) (range_with_len 0 (length w.wires)) ≡ flat_map (kept_name w) (range_with_len 0 (length w.wires))
names_agree w =
    flat_agree (name_at (ds w) w.wires) (kept_name w) 0 (length w.wires)
    (λ v p q. ap (λ (b : Bool). cond b (slice_index_or w.wires v [] ∷ []) []) (kept_agree w v (omega arith)))

pub wrong_on : (w : Wiring) (d r : List ℕ) → d ≡ ds w → r ≡ rs w
    → option_map (λ v. record { wire = v; drivers = get_or d v 0 }) (find (wrong_at d r) (range_with_len 0 (length d))) ≡ first_wrong w
wrong_on w d r e f =
    ap (λ (ks : List ℕ). option_map (λ v. record { wire = v; drivers = get_or ks v 0 }) (find (wrong_at ks r) (range_with_len 0 (length ks)))) e
    ∙ (ap (λ (ks : List ℕ). option_map (λ v. record { wire = v; drivers = get_or (ds w) v 0 }) (find (wrong_at (ds w) ks) (range_with_len 0 (length (ds w))))) f ∙ wrong_agree w)

made : (p q : List Port) (m n : List (List ℕ)) (k l : List Line) (r s : List Stored) (b clock : Option ℕ) → p ≡ q → m ≡ n → k ≡ l → r ≡ s → b ≡ clock → net_with p m k r b ≡ net_with q n l s clock
made p q m n k l r s b clock e f g h i = cc

pub kept_is : (w : Wiring) (given clock : Option ℕ) (pn ln rn : List ℕ) (ports : List Port) (names : List (List ℕ)) (lines : List Line) (registers : List Stored)
    → pn ≡ numbers w → ln ≡ numbers w → rn ≡ numbers w
    → ports ≡ map (renumbered_port (λ v. get_or pn v 0)) w.ports → names ≡ flat_map (kept_name w) (range_with_len 0 (length w.wires))
    → lines ≡ flat_map (kept_line (λ v. get_or ln v 0)) w.lines → registers ≡ flat_map (kept_flop (λ v. get_or rn v 0)) w.flops → given ≡ clock
    → net_with ports names lines registers given ≡ kept_net w clock
kept_is w given clock pn ln rn ports names lines registers a b d p m l r g =
    let q : ports ≡ map (renumbered_port (λ v. get_or (numbers w) v 0)) w.ports = p ∙ ap (λ (ns : List ℕ). map (renumbered_port (λ v. get_or ns v 0)) w.ports) a in
    let k : lines ≡ flat_map (kept_line (λ v. get_or (numbers w) v 0)) w.lines = l ∙ ap (λ (ns : List ℕ). flat_map (kept_line (λ v. get_or ns v 0)) w.lines) b in
    let s : registers ≡ flat_map (kept_flop (λ v. get_or (numbers w) v 0)) w.flops = r ∙ ap (λ (ns : List ℕ). flat_map (kept_flop (λ v. get_or ns v 0)) w.flops) d in
    made ports _ names _ lines _ registers _ given clock q m k s g
