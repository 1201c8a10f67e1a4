-- The names of ports' bits.
use Rattle.std.proofs.Common.{◌≡◌, ◌<◌, ◌≤◌, ◌+◌, ◌-◌, ◌⊎◌, ◌++◌, ℕ, zero, suc, Bool, true, false, cond, List, [], ◌∷◌, Option, Some, None, length, map, filter, flat_map, take, drop, slice_get, slice_index_or, refl, sym, ap, ◌∙◌, subst, inl, inr, ⊎_elim, arith}
use Rattle.std.proofs.lemmas.Bool.{cases_lt}
use Rattle.std.proofs.lemmas.Option.{get_or_from_slice_get}
use Rattle.std.specs.Fmt.{decimal}
use Rattle.std.specs.List.{AllByRecursion, range_with_len}
use Rattle.agm_net.specs.Label.{name_of}
use Rattle.agm_net.specs.Plain.{PlainNet, bit_names, select_name, range_numbers, is_input, ports_but, data_ports, input_bits}
use Rattle.agm_net.specs.WellFormed.{WellFormed}
use Rattle.agm_net.specs.declared.port.Port.{Port}
use Rattle.agm_net.specs.declared.port.Range.{Range}
use Rattle.agm_net.proofs.Lists.{all_joined, all_places, all_of_one}
use Rattle.probe_cones.specs.Inputs.{BitRole, open_bit, bit_role, port_roles, bit_roles}

-- a name of a bit: that of its port, or that and a number in brackets
abbrev pub IsBitName : List ℕ → List ℕ → Type 0
IsBitName port name = (name ≡ port) ⊎ ((rest : List ℕ) × (name ≡ port ++ 91 ∷ rest))

selected : (port : List ℕ) (ks : List ℕ) → AllByRecursion (IsBitName port) (map (select_name port) ks)
selected port [] = tt
selected port (k ∷ ks) = (inr (decimal k ++ 93 ∷ [], refl), selected port ks)

all_names : (port : List ℕ) (range : Option Range) → AllByRecursion (IsBitName port) (bit_names port range)
all_names port None = (inl refl, tt)
all_names port (Some r) = selected port (range_numbers r.msb r.lsb)

named : (wires : List (List ℕ)) (P : List ℕ → Type 0) (ws : List ℕ) (names : List (List ℕ)) → map (slice_get wires) ws ≡ map (λ name. Some name) names → AllByRecursion P names
    → AllByRecursion (λ w. P (slice_index_or wires w [])) ws
named wires P [] names e all = tt
named wires P (w ∷ ws) [] e all = absurd (let no = e in cc)
named wires P (w ∷ ws) (name ∷ names) e all =
    let head : slice_get wires w ≡ Some name = cc in
    let tail : map (slice_get wires) ws ≡ map (λ name. Some name) names = cc in
    (subst P (sym (get_or_from_slice_get wires w name [] head)) all.0, named wires P ws names tail all.1)

-- each bit of a port has such a name
abbrev pub HasNames : PlainNet → Port → Type 0
HasNames net p = AllByRecursion (λ w. IsBitName p.name (name_of net w)) p.bits

pub port_names : (net : PlainNet) → WellFormed net → AllByRecursion (HasNames net) net.ports
port_names net well =
    all_places (HasNames net) net.ports (λ n p at. named net.wires (IsBitName p.name) p.bits (bit_names p.name p.range) (well.ports_right.bits_named n p at) (all_names p.name p.range))

all_filtered : {X : Type 0} (P : X → Type 0) (test : X → Bool) (xs : List X) → AllByRecursion P xs → AllByRecursion (λ x. P x × (test x ≡ true)) (filter test xs)
all_filtered P test [] h = tt
all_filtered P test (x ∷ xs) h = go (test x) refl (all_filtered P test xs h.1)
  where
    go : (b : Bool) → test x ≡ b → AllByRecursion (λ x. P x × (test x ≡ true)) (filter test xs) → AllByRecursion (λ x. P x × (test x ≡ true)) (cond b (x ∷ filter test xs) (filter test xs))
    go true e rest = ((h.0, e), rest)
    go false e rest = rest

pub all_kept : {X : Type 0} (P : X → Type 0) (test : X → Bool) (xs : List X) → AllByRecursion P xs → AllByRecursion (λ x. P x × (test x ≡ true)) (filter test xs)
all_kept = all_filtered

all_taken : {X : Type 0} (P : X → Type 0) (k : ℕ) (xs : List X) → AllByRecursion P xs → AllByRecursion P (take k xs)
all_taken P zero xs h = tt
all_taken P (suc k) [] h = tt
all_taken P (suc k) (x ∷ xs) h = (h.0, all_taken P k xs h.1)

all_dropped : {X : Type 0} (P : X → Type 0) (k : ℕ) (xs : List X) → AllByRecursion P xs → AllByRecursion P (drop k xs)
all_dropped P zero xs h = h
all_dropped P (suc k) [] h = tt
all_dropped P (suc k) (x ∷ xs) h = all_dropped P k xs h.1

without_clock : (P : Port → Type 0) (clock : Option ℕ) (ports : List Port) → AllByRecursion P ports → AllByRecursion P (ports_but clock ports)
without_clock P None ports h = h
without_clock P (Some c) ports h = all_joined P (take c ports) (drop (c + 1) ports) (all_taken P c ports h) (all_dropped P (c + 1) ports h)

-- the role of an input bit is by the name of a port that it is a bit of
abbrev pub IsBit : PlainNet → ℕ → BitRole → Type 0
IsBit net w role = (port : List ℕ) × (place : ℕ) × IsBitName port (name_of net w) × (role ≡ bit_role port place)

roles_at : (name : List ℕ) (a n m : ℕ) → m < n → slice_index_or (map (bit_role name) (range_with_len a n)) m open_bit ≡ bit_role name (a + m)
roles_at name a zero m h = absurd (omega arith)
roles_at name a (suc n) zero h = ap (bit_role name) (omega arith)
roles_at name a (suc n) (suc m) h = roles_at name (a + 1) n m (omega arith) ∙ ap (bit_role name) (omega arith)

-- an item of two lists in a row
get_left : {X : Type 0} (xs ys : List X) (m : ℕ) → m < length xs → slice_get (xs ++ ys) m ≡ slice_get xs m
get_left [] ys m h = absurd (omega arith)
get_left (x ∷ xs) ys zero h = refl
get_left (x ∷ xs) ys (suc m) h = get_left xs ys m (omega arith)

get_right : {X : Type 0} (xs ys : List X) (m : ℕ) → slice_get (xs ++ ys) (length xs + m) ≡ slice_get ys m
get_right [] ys m = ap (slice_get ys) (omega arith)
get_right (x ∷ xs) ys m = let e : length (x ∷ xs) + m ≡ suc (length xs + m) = omega arith in ap (slice_get (x ∷ (xs ++ ys))) e ∙ get_right xs ys m

at_left : (xs ys : List BitRole) (m : ℕ) → m < length xs → slice_index_or (xs ++ ys) m open_bit ≡ slice_index_or xs m open_bit
at_left [] ys m h = absurd (omega arith)
at_left (x ∷ xs) ys zero h = refl
at_left (x ∷ xs) ys (suc m) h = at_left xs ys m (omega arith)

at_right : (xs ys : List BitRole) (m : ℕ) → slice_index_or (xs ++ ys) (length xs + m) open_bit ≡ slice_index_or ys m open_bit
at_right [] ys m = ap (λ n. slice_index_or ys n open_bit) (omega arith)
at_right (x ∷ xs) ys m = let e : length (x ∷ xs) + m ≡ suc (length xs + m) = omega arith in ap (λ n. slice_index_or (x ∷ (xs ++ ys)) n open_bit) e ∙ at_right xs ys m

roles_long : (name : List ℕ) (a n : ℕ) → length (map (bit_role name) (range_with_len a n)) ≡ n
roles_long name a zero = refl
roles_long name a (suc n) = ap suc (roles_long name (a + 1) n)

pub role_of_bit : (net : PlainNet) (ps : List Port) → AllByRecursion (HasNames net) ps → (m w : ℕ) → slice_get (flat_map (λ p. p.bits) ps) m ≡ Some w
    → IsBit net w (slice_index_or (flat_map port_roles ps) m open_bit)
role_of_bit net [] all m w e = absurd (let no = e in cc)
role_of_bit net (p ∷ ps) all m w e =
    let long = roles_long p.name 0 (length p.bits) in
    ⊎_elim
    (λ (here : m < length p.bits).
    let at : slice_get p.bits m ≡ Some w = sym (get_left p.bits (flat_map (λ p. p.bits) ps) m here) ∙ e in (
      p.name,
      0 + m,
      all_of_one (λ w. IsBitName p.name (name_of net w)) p.bits m w all.0 at,
      at_left (port_roles p) (flat_map port_roles ps) m (omega arith) ∙ roles_at p.name 0 (length p.bits) m here,
    ))
    (λ (past : length p.bits ≤ m).
    let n = m - length p.bits in
    let is : m ≡ length p.bits + n = omega arith in
    let at : slice_get (flat_map (λ p. p.bits) ps) n ≡ Some w = sym (get_right p.bits (flat_map (λ p. p.bits) ps) n) ∙ (ap (slice_get (p.bits ++ flat_map (λ p. p.bits) ps)) (sym is) ∙ e) in
    let is' : m ≡ length (port_roles p) + n = omega arith in
    subst (IsBit net w) (sym (ap (λ k. slice_index_or (port_roles p ++ flat_map port_roles ps) k open_bit) is' ∙ at_right (port_roles p) (flat_map port_roles ps) n)) (role_of_bit net ps all.1 n w at))
    (cases_lt m (length p.bits))

all_first : {X : Type 0} (P Q : X → Type 0) (xs : List X) → AllByRecursion (λ x. P x × Q x) xs → AllByRecursion P xs
all_first P Q [] h = tt
all_first P Q (x ∷ xs) h = (h.0.0, all_first P Q xs h.1)

pub input_role : (net : PlainNet) → WellFormed net → (m w : ℕ) → slice_get (input_bits net) m ≡ Some w → IsBit net w (slice_index_or (bit_roles net) m open_bit)
input_role net well m w e =
    role_of_bit net (filter is_input (data_ports net))
    (all_first (HasNames net) (λ p. is_input p ≡ true) (filter is_input (data_ports net)) (all_filtered (HasNames net) is_input (data_ports net) (without_clock (HasNames net) net.clock net.ports (port_names net well)))) m w e
