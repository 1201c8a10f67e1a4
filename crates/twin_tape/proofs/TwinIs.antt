-- The twin by labels and parts is that of the proof.
use Rattle.std.proofs.Common.{◌≡◌, ◌≢◌, ◌<◌, ◌≤◌, ◌+◌, ◌==◌, ◌⊎◌, ◌&&◌, ◌||◌, ◌++◌, ℕ, zero, suc, Bool, true, false, cond, List, [], ◌∷◌, Option, Some, None, length, map, filter, flat_map, codes, nat_eq, slice_get, slice_index_or, bytes_eq, refl, sym, ap, ap₂, ◌∙◌, subst, inl, inr, ⊎_elim, arith, true≢false, eq-eqb, eqb-true}
use Rattle.std.proofs.lemmas.Bool.{and_parts, or_cases, cases_lt}
use Rattle.std.specs.List.{list_any, range_with_len}
use Rattle.agm_net.specs.Formula.{xor}
use Rattle.agm_net.specs.Label.{part, part_name, HasLabel, IsPart as IsPartOf}
use Rattle.agm_net.specs.Network.{Hpc2, random_bits_of}
use Rattle.agm_net.specs.Plain.{PlainNet, input_bits, is_input, data_ports}
use Rattle.agm_net.specs.Trace.{Row, bit_at}
use Rattle.agm_net.specs.WellFormed.{WellFormed}
use Rattle.agm_net.specs.declared.label.Label.{Label}
use Rattle.agm_net.specs.declared.label.Label.TheVariants.{Clock as l_clock, Public as l_public, Random as l_random, Share as l_share, Inner as l_inner}
use Rattle.agm_net.specs.declared.label.Part.{Part as PartOf}
use Rattle.agm_net.specs.declared.label.PartKind.{PartKind}
use Rattle.agm_net.specs.declared.label.PartKind.TheVariants.{A as KA, B as KB, V as KV, Wx as KWx}
use Rattle.agm_net.specs.declared.port.Port.{Port}
use Rattle.agm_net.proofs.OneLabel.{one_label, has_part_label}
use Rattle.probe_cones.specs.declared.probe.Probe.{Probe}
use Rattle.twin_tape.specs.Permitted.{AreLabels, has, known, half_change, sights}
use Rattle.twin_tape.specs.Security.{AreProbes}
use Rattle.probe_cones.specs.Inputs.{BitRole, random_bit, is_random, share_role, bit_role, port_roles, bit_roles, random_width, bit_with}
use Rattle.twin_tape.specs.Twin as by_label
use Rattle.twin_tape.specs.Twin.{AreFactors, is_crossing, is_crossing_kind, crossing_seen, pair_change}
use Rattle.twin_tape.proofs.Bridge.{part_is}
use Rattle.twin_tape.proofs.Labels.{found_small, label_is, label_at, names, pair_gadget, pair_small, pair_great, part_of_label, random_bits, random_wire, tag, wire_is}
use Rattle.twin_tape.proofs.Network.{HasPart, IsTwin, Names, RandomBit, change, half_at, sights_of, stores_seen}
use Rattle.twin_tape.proofs.Parts.{There}
use Rattle.twin_tape.proofs.PermittedIs.{same_sights}
use Rattle.twin_tape.proofs.Places.{place_of}
use Rattle.twin_tape.proofs.Rules.{is_network}
use Rattle.twin_tape.proofs.Sources.{Ranked, past_end, ranked_by, roles_long}
use Rattle.twin_tape.proofs.TwinMap.{bit_pair}

-- the wires with random roles
abbrev picks : List BitRole → List ℕ → List ℕ
picks [] ws = []
picks (r ∷ rs) [] = []
picks (r ∷ rs) (w ∷ ws) = cond (is_random r) (w ∷ picks rs ws) (picks rs ws)

picks_append : (rs qs : List BitRole) (ws vs : List ℕ) → length rs ≡ length ws → picks (rs ++ qs) (ws ++ vs) ≡ picks rs ws ++ picks qs vs
picks_append [] qs [] vs e = refl
picks_append [] qs (w ∷ ws) vs e = absurd (omega arith)
picks_append (r ∷ rs) qs [] vs e = absurd (omega arith)
picks_append (r ∷ rs) qs (w ∷ ws) vs e = go (is_random r) (picks_append rs qs ws vs (omega arith))
  where
    go : (b : Bool) → picks (rs ++ qs) (ws ++ vs) ≡ picks rs ws ++ picks qs vs → cond b (w ∷ picks (rs ++ qs) (ws ++ vs)) (picks (rs ++ qs) (ws ++ vs)) ≡ cond b (w ∷ picks rs ws) (picks rs ws) ++ picks qs vs
    go true rest = ap (λ l. w ∷ l) rest
    go false rest = rest

role_random : (name : List ℕ) (place : ℕ) → is_random (bit_role name place) ≡ bytes_eq name (codes "agm_r")
role_random name place = go (bytes_eq name (codes "agm_r")) (Rattle.probe_cones.specs.Shares.share_of name)
  where
    go : (b : Bool) (o : Option (ℕ × List ℕ)) → is_random (cond b random_bit (share_role o place)) ≡ b
    go true o = refl
    go false None = refl
    go false (Some s) = refl

picks_port : (name : List ℕ) (a : ℕ) (ws : List ℕ) → picks (map (bit_role name) (range_with_len a (length ws))) ws ≡ cond (bytes_eq name (codes "agm_r")) ws []
picks_port name a [] = go (bytes_eq name (codes "agm_r"))
  where
    go : (b : Bool) → ◌≡◌ {A = List ℕ} [] (cond b [] [])
    go true = refl
    go false = refl
picks_port name a (w ∷ ws) =
    ap (λ b. cond b (w ∷ picks (map (bit_role name) (range_with_len (a + 1) (length ws))) ws) (picks (map (bit_role name) (range_with_len (a + 1) (length ws))) ws)) (role_random name a) ∙
    go (bytes_eq name (codes "agm_r")) (picks_port name (a + 1) ws)
  where
    go : (b : Bool) → picks (map (bit_role name) (range_with_len (a + 1) (length ws))) ws ≡ cond b ws []
        → cond b (w ∷ picks (map (bit_role name) (range_with_len (a + 1) (length ws))) ws) (picks (map (bit_role name) (range_with_len (a + 1) (length ws))) ws) ≡ cond b (w ∷ ws) []
    go true rest = ap (λ l. w ∷ l) rest
    go false rest = rest

port_long : (name : List ℕ) (a n : ℕ) → length (map (bit_role name) (range_with_len a n)) ≡ n
port_long name a zero = refl
port_long name a (suc n) = ap suc (port_long name (a + 1) n)

picks_ports : (ps : List Port) → flat_map (λ p. p.bits) (filter (λ p. is_input p && bytes_eq p.name (codes "agm_r")) ps) ≡ picks (flat_map port_roles (filter is_input ps)) (flat_map (λ p. p.bits) (filter is_input ps))
picks_ports [] = refl
picks_ports (p ∷ ps) = go (is_input p) (bytes_eq p.name (codes "agm_r")) (picks_ports ps) (picks_port p.name 0 p.bits)
  where
    go : (a b : Bool) → flat_map (λ p. p.bits) (filter (λ p. is_input p && bytes_eq p.name (codes "agm_r")) ps) ≡ picks (flat_map port_roles (filter is_input ps)) (flat_map (λ p. p.bits) (filter is_input ps))
        → picks (port_roles p) p.bits ≡ cond b p.bits []
        → flat_map (λ p. p.bits) (cond (a && b) (p ∷ filter (λ p. is_input p && bytes_eq p.name (codes "agm_r")) ps) (filter (λ p. is_input p && bytes_eq p.name (codes "agm_r")) ps))
        ≡ picks (flat_map port_roles (cond a (p ∷ filter is_input ps) (filter is_input ps))) (flat_map (λ p. p.bits) (cond a (p ∷ filter is_input ps) (filter is_input ps)))
    go false b rest here = rest
    go true true rest here =
        ap₂ (λ x y. x ++ y) (sym here) rest ∙ sym (picks_append (port_roles p) (flat_map port_roles (filter is_input ps)) p.bits (flat_map (λ p. p.bits) (filter is_input ps)) (port_long p.name 0 (length p.bits)))
    go true false rest here =
        ap₂ (λ x y. x ++ y) (sym here) rest ∙ sym (picks_append (port_roles p) (flat_map port_roles (filter is_input ps)) p.bits (flat_map (λ p. p.bits) (filter is_input ps)) (port_long p.name 0 (length p.bits)))

picks_long : (rs : List BitRole) (ws : List ℕ) → length rs ≡ length ws → length (picks rs ws) ≡ length (filter is_random rs)
picks_long [] ws e = refl
picks_long (r ∷ rs) [] e = absurd (omega arith)
picks_long (r ∷ rs) (w ∷ ws) e = go (is_random r) (picks_long rs ws (omega arith))
  where
    go : (b : Bool) → length (picks rs ws) ≡ length (filter is_random rs) → length (cond b (w ∷ picks rs ws) (picks rs ws)) ≡ length (cond b (r ∷ filter is_random rs) (filter is_random rs))
    go true rest = ap suc rest
    go false rest = rest

picks_at : (rs : List BitRole) (ws : List ℕ) (n : ℕ) → length rs ≡ length ws → n < length (filter is_random rs) → slice_get (picks rs ws) n ≡ Some (slice_index_or ws (place_of is_random rs n) 0)
picks_at [] ws n e h = absurd (omega arith)
picks_at (r ∷ rs) [] n e h = absurd (omega arith)
picks_at (r ∷ rs) (w ∷ ws) zero e h = go (is_random r) h (λ h. picks_at rs ws zero (omega arith) h)
  where
    go : (b : Bool) → 0 < length (cond b (r ∷ filter is_random rs) (filter is_random rs)) → (0 < length (filter is_random rs) → slice_get (picks rs ws) 0 ≡ Some (slice_index_or ws (place_of is_random rs 0) 0))
        → slice_get (cond b (w ∷ picks rs ws) (picks rs ws)) 0 ≡ Some (slice_index_or (w ∷ ws) (cond b 0 (suc (place_of is_random rs 0))) 0)
    go true h rest = refl
    go false h rest = rest h
picks_at (r ∷ rs) (w ∷ ws) (suc n) e h = go (is_random r) h (λ h. picks_at rs ws n (omega arith) h) (λ h. picks_at rs ws (suc n) (omega arith) h)
  where
    go : (b : Bool) → suc n < length (cond b (r ∷ filter is_random rs) (filter is_random rs)) → (n < length (filter is_random rs) → slice_get (picks rs ws) n ≡ Some (slice_index_or ws (place_of is_random rs n) 0))
        → (suc n < length (filter is_random rs) → slice_get (picks rs ws) (suc n) ≡ Some (slice_index_or ws (place_of is_random rs (suc n)) 0))
        → slice_get (cond b (w ∷ picks rs ws) (picks rs ws)) (suc n) ≡ Some (slice_index_or ws (place_of is_random rs (cond b n (suc n))) 0)
    go true h one two = one (omega arith)
    go false h one two = two h

half_ext : (n n' l p p' a a' b b' c c' : Bool) → n ≡ n' → p ≡ p' → a ≡ a' → b ≡ b' → c ≡ c' → half_change n l p a b c ≡ half_change n' l p' a' b' c'
half_ext n n' l p p' a a' b b' c c' e1 e2 e3 e4 e5 =
    ap₂ (λ n p. half_change n l p a b c) e1 e2 ∙ ap₂ (λ a b. half_change n' l p' a b c) e3 e4 ∙ ap (half_change n' l p' a' b') e5

same_tests : (a b : Bool) → (a ≡ true → b ≡ true) → (b ≡ true → a ≡ true) → a ≡ b
same_tests true b f g = sym (f refl)
same_tests false true f g = g refl
same_tests false false f g = refl

or_first : (a b : Bool) → a ≡ true → (a || b) ≡ true
or_first a b e = grind arith

or_second : (a b : Bool) → b ≡ true → (a || b) ≡ true
or_second a b e = grind arith

crossing_kinds : (k : PartKind) → is_crossing_kind k ≡ true → (k ≡ KV) ⊎ (k ≡ KWx)
crossing_kinds KV e = inl refl
crossing_kinds KWx e = inr refl
crossing_kinds _ e = absurd (true≢false (sym e))

module _ (net : PlainNet) (d : ℕ) (well : WellFormed net) (hpc2 : Hpc2 net d) (label : ℕ → Label) (labels : AreLabels net d label) (T : ℕ) (probes : List Probe) (A : List ℕ) (inside : AreProbes net T probes) where
  abbrev pub own : Names
  own = names net d well hpc2

  abbrev pub ordered : Ranked net
  ordered = ranked_by net well hpc2.no_loop

  abbrev pub In : ℕ → Type 0
  In g = There net own d (is_network net d well hpc2) ordered g

  part_in : (w : ℕ) (p : PartOf) → IsPartOf net d w p → w < length net.wires
  part_in w p is =
      ⊎_elim (λ lt. lt)
      (λ (le : length net.wires ≤ w). absurd (let none : [] ≡ part_name (d + 1) p.gadget p.kind p.i p.j = sym (past_end net.wires w [] le) ∙ is.4 in cc))
      (cases_lt w (length net.wires))

  pub part_at : (g : ℕ) → In g → (k : PartKind) (a b : ℕ) → HasPart d k a b → IsPartOf net d (own.part g k a b) (part g k a b)
  part_at g there k a b fits = let p = there k a b fits in part_of_label net d well hpc2 (own.part g k a b) g k a b p.0 p.1

  abbrev Is : ℕ → ℕ → ℕ → ℕ → Bool
  Is g h o w = nat_eq w (own.part g KV h o) || nat_eq w (own.part g KWx h o)

  found_crossing : (g h o w : ℕ) → w < length net.wires → (a : Label) → HasLabel net d w a → is_crossing g h o a ≡ true → Is g h o w ≡ true
  found_crossing g h o w w_in l_clock h' e = absurd (true≢false (sym e))
  found_crossing g h o w w_in l_public h' e = absurd (true≢false (sym e))
  found_crossing g h o w w_in (l_random x y z) h' e = absurd (true≢false (sym e))
  found_crossing g h o w w_in (l_share x y) h' e = absurd (true≢false (sym e))
  found_crossing g h o w w_in (l_inner p) h' e =
      let one = and_parts (is_crossing_kind p.kind) ((p.gadget == g) && ((p.i == h) && (p.j == o))) e in
      let two = and_parts (p.gadget == g) ((p.i == h) && (p.j == o)) one.1 in
      let three = and_parts (p.i == h) (p.j == o) two.1 in
      let is : (k : PartKind) → p.kind ≡ k → w ≡ own.part g k h o = λ k kind.
      wire_is net d well hpc2 w (part g k h o) w_in (subst (IsPartOf net d w) (part_is p g k h o (eqb-true p.gadget g two.0) kind (eqb-true p.i h three.0) (eqb-true p.j o three.1)) h'.1) in
      ⊎_elim (λ v. or_first (nat_eq w (own.part g KV h o)) (nat_eq w (own.part g KWx h o)) (eq-eqb w (own.part g KV h o) (is KV v)))
      (λ x. or_second (nat_eq w (own.part g KV h o)) (nat_eq w (own.part g KWx h o)) (eq-eqb w (own.part g KWx h o) (is KWx x)))
      (crossing_kinds p.kind one.0)

  crossing_true : (g h o : ℕ) → ((g == g) && ((h == h) && (o == o))) ≡ true
  crossing_true g h o = ap₂ (λ a b. a && b) (eq-eqb g g refl) (ap₂ (λ a b. a && b) (eq-eqb h h refl) (eq-eqb o o refl))

  crossing_is : (g h o w : ℕ) → In g → HasPart d KV h o → w < length net.wires → Is g h o w ≡ is_crossing g h o (label w)
  crossing_is g h o w there fits w_in =
      same_tests (Is g h o w) (is_crossing g h o (label w))
      (λ e. ⊎_elim
      (λ v.
      let part_w : IsPartOf net d w (part g KV h o) = subst (λ u. IsPartOf net d u (part g KV h o)) (sym (eqb-true w (own.part g KV h o) v)) (part_at g there KV h o fits) in
      ap (is_crossing g h o) (one_label net d w (label w) (l_inner (part g KV h o)) (labels w w_in) (has_part_label net d w (part g KV h o) part_w)) ∙ crossing_true g h o)
      (λ x.
      let part_w : IsPartOf net d w (part g KWx h o) = subst (λ u. IsPartOf net d u (part g KWx h o)) (sym (eqb-true w (own.part g KWx h o) x)) (part_at g there KWx h o fits) in
      ap (is_crossing g h o) (one_label net d w (label w) (l_inner (part g KWx h o)) (labels w w_in) (has_part_label net d w (part g KWx h o) part_w)) ∙ crossing_true g h o)
      (or_cases (nat_eq w (own.part g KV h o)) (nat_eq w (own.part g KWx h o)) e))
      (λ e. found_crossing g h o w w_in (label w) (labels w w_in) e)

  stores_is : (g h o t : ℕ) → In g → HasPart d KV h o → (ps : List Probe) → AreProbes net T ps → stores_seen own ps g h o t ≡ list_any (λ p. (p.cycle == t) && is_crossing g h o (label p.wire)) ps
  stores_is g h o t there fits [] all = refl
  stores_is g h o t there fits (p ∷ ps) all =
      ap₂ (λ a b. a || b) (ap (λ b. (p.cycle == t) && b) (crossing_is g h o p.wire there fits (all 0 p (omega arith)).0))
      (stores_is g h o t there fits ps (λ m other h. all (suc m) other (omega arith)))

  module _ (x y : ℕ → ℕ → Bool) (a b : ℕ → ℕ) (g : ℕ) (there : In g) (factors : AreFactors net d g a b) where
    at_a : (h : ℕ) → h ≤ d → own.part g KA h 0 ≡ a h
    at_a h le = let f = (factors h le).0 in sym (wire_is net d well hpc2 (a h) (part g KA h 0) (part_in (a h) (part g KA h 0) f) f)

    at_b : (h : ℕ) → h ≤ d → own.part g KB h 0 ≡ b h
    at_b h le = let f = (factors h le).1 in sym (wire_is net d well hpc2 (b h) (part g KB h 0) (part_in (b h) (part g KB h 0) f) f)

    half_is : (t h o : ℕ) → h ≢ o → h ≤ d → o ≤ d
        → half_at own probes A T x y t g h o ≡ by_label.half_of label probes A T (λ h. x (suc t) (a h)) (λ h. x t (b h)) (λ h. y t (b h)) t g h o
    half_is t h o ne le_h le_o =
        half_ext (has (known (sights_of own probes) A T (suc (suc t))) h) (has (known (sights label probes) A T (suc (suc t))) h) (nat_eq (suc t) T)
        (stores_seen own probes g h o (suc t)) (crossing_seen label probes A T g h o (suc t))
        (x (suc t) (own.part g KA h 0)) (x (suc t) (a h)) (x t (own.part g KB o 0)) (x t (b o)) (y t (own.part g KB o 0)) (y t (b o))
        (ap (λ s. has (known s A T (suc (suc t))) h) (same_sights net d well hpc2 label labels T probes inside))
        (stores_is g h o (suc t) there (ne, le_h, le_o) probes inside)
        (ap (x (suc t)) (at_a h le_h)) (ap (x t) (at_b o le_o)) (ap (y t) (at_b o le_o))

    pub change_is : (t i j : ℕ) → i ≢ j → i ≤ d → j ≤ d
        → change own probes A T x y t g i j ≡ pair_change label probes A T (λ h. x (suc t) (a h)) (λ h. x t (b h)) (λ h. y t (b h)) t g i j
    change_is t i j ne le_i le_j =
        let same = same_sights net d well hpc2 label labels T probes inside in
        ap (λ s. cond (has (known s A T (suc t)) i) (cond (has (known s A T (suc t)) j) false (half_at own probes A T x y t g i j)) (cond (has (known s A T (suc t)) j) (half_at own probes A T x y t g j i) false)) same ∙
        ap₂ (λ u v. cond (has (known (sights label probes) A T (suc t)) i) (cond (has (known (sights label probes) A T (suc t)) j) false u) (cond (has (known (sights label probes) A T (suc t)) j) v false))
        (half_is t i j ne le_i le_j) (half_is t j i (λ e. ne (sym e)) le_j le_i)

  pub tag_random : (w : ℕ) (a : Label) (h : HasLabel net d w a) (g i j : ℕ) → tag net d well hpc2 w a h ≡ RandomBit g i j → HasLabel net d w (l_random g i j)
  tag_random w l_clock (inl e) g i j is = absurd (let no = is in cc)
  tag_random w l_clock (inr p) g i j is = absurd (let no = is in cc)
  tag_random w l_public h g i j is = absurd (let no = is in cc)
  tag_random w (l_random a b c) h g i j is =
      let ea : a ≡ g = cc in let eb : b ≡ i = cc in let ec : c ≡ j = cc in
      subst (λ k. HasLabel net d w (l_random g i k)) ec (subst (λ k. HasLabel net d w (l_random g k c)) eb (subst (λ k. HasLabel net d w (l_random k b c)) ea h))
  tag_random w (l_share i' None) h g i j is = absurd (let no = is in cc)
  tag_random w (l_share i' (Some p)) h g i j is = absurd (let no = is in cc)
  tag_random w (l_inner p) h g i j is = absurd (let no = is in cc)

  abbrev pub wire_at : ℕ → ℕ
  wire_at = random_wire net d well hpc2

  longs : length (bit_roles net) ≡ length (input_bits net)
  longs = roles_long (filter is_input (data_ports net))

  pub bit_wire : (n : ℕ) → n < random_width net → slice_get (random_bits_of net) n ≡ Some (wire_at n)
  bit_wire n small = ap (λ ws. slice_get ws n) (picks_ports (data_ports net)) ∙ picks_at (bit_roles net) (input_bits net) n longs small

  pub bit_small : (n w : ℕ) → slice_get (random_bits_of net) n ≡ Some w → n < random_width net
  bit_small n w e =
      let h = found_small (random_bits_of net) n w e in
      let a = ap (λ ws. length ws) (picks_ports (data_ports net)) in
      let b = picks_long (bit_roles net) (input_bits net) longs in omega arith

  pub bits_long : length (random_bits_of net) ≡ random_width net
  bits_long = ap (λ ws. length ws) (picks_ports (data_ports net)) ∙ picks_long (bit_roles net) (input_bits net) longs

  module _ (power : Row) (first second random twin : List Row) where
    abbrev x : ℕ → ℕ → Bool
    x = bit_with net power first random

    abbrev y : ℕ → ℕ → Bool
    y = bit_with net power second twin

    -- the pair of a random bit, and its factors
    pair_ne : (n : ℕ) → n < random_width net → own.small_of n ≢ own.great_of n
    pair_ne n small e =
        let found = random_bits net d well hpc2 n small in
        let has = tag_random (wire_at n) (label (wire_at n)) (labels (wire_at n) found.3) found.0 found.1 found.2 (sym (label_is net d well hpc2 (wire_at n) found.3 (label (wire_at n)) (labels (wire_at n) found.3)) ∙ found.5) in
        let lt = has.1.1.0.0 in
        let i : own.small_of n ≡ found.1 = ap pair_small found.5 in
        let j : own.great_of n ≡ found.2 = ap pair_great found.5 in
        omega arith

    pub to_labels : IsTwin net own probes A T power first second random twin → by_label.IsTwin net d label probes A T power first second random twin
    to_labels is t n w g i j a b below get has factors =
        let small = bit_small n w get in
        let same_w : w ≡ wire_at n = (let both = sym get ∙ bit_wire n small in cc) in
        let w_in : w < length net.wires = subst (λ v. v < length net.wires) (sym same_w) (random_bits net d well hpc2 n small).3 in
        let tagged : label_at net d well hpc2 (wire_at n) ≡ RandomBit g i j = subst (λ v. label_at net d well hpc2 v ≡ RandomBit g i j) same_w (label_is net d well hpc2 w w_in (l_random g i j) has) in
        let of_g : own.gadget_of n ≡ g = ap pair_gadget tagged in
        let of_i : own.small_of n ≡ i = ap pair_small tagged in
        let of_j : own.great_of n ≡ j = ap pair_great tagged in
        let pair = bit_pair net own d (is_network net d well hpc2) ordered probes A T power first second n small in
        let there : In g = subst In of_g pair.0 in
        is t n below small ∙
        ap (λ k. xor (bit_at random t n) (change own probes A T x y t k (own.small_of n) (own.great_of n))) of_g ∙
        ap₂ (λ i j. xor (bit_at random t n) (change own probes A T x y t g i j)) of_i of_j ∙
        ap (xor (bit_at random t n)) (change_is x y a b g there factors t i j (λ e. pair_ne n small (of_i ∙ e ∙ sym of_j)) (subst (λ k. k ≤ d) of_i pair.1) (subst (λ k. k ≤ d) of_j pair.2))

    pub from_labels : by_label.IsTwin net d label probes A T power first second random twin → IsTwin net own probes A T power first second random twin
    from_labels is t n below small =
        let found = random_bits net d well hpc2 n small in
        let has = tag_random (wire_at n) (label (wire_at n)) (labels (wire_at n) found.3) found.0 found.1 found.2 (sym (label_is net d well hpc2 (wire_at n) found.3 (label (wire_at n)) (labels (wire_at n) found.3)) ∙ found.5) in
        let of_g : own.gadget_of n ≡ found.0 = ap pair_gadget found.5 in
        let of_i : own.small_of n ≡ found.1 = ap pair_small found.5 in
        let of_j : own.great_of n ≡ found.2 = ap pair_great found.5 in
        let pair = bit_pair net own d (is_network net d well hpc2) ordered probes A T power first second n small in
        let there : In found.0 = subst In of_g pair.0 in
        let a : ℕ → ℕ = λ h. own.part found.0 KA h 0 in
        let b : ℕ → ℕ = λ h. own.part found.0 KB h 0 in
        let factors : AreFactors net d found.0 a b = λ h le. (part_at found.0 there KA h 0 (le, refl), part_at found.0 there KB h 0 (le, refl)) in
        is t n (wire_at n) found.0 found.1 found.2 a b below (bit_wire n small) has factors ∙
        sym (
        ap (λ k. xor (bit_at random t n) (change own probes A T x y t k (own.small_of n) (own.great_of n))) of_g ∙
        ap₂ (λ i j. xor (bit_at random t n) (change own probes A T x y t found.0 i j)) of_i of_j ∙
        ap (xor (bit_at random t n)) (change_is x y a b found.0 there factors t found.1 found.2 (λ e. pair_ne n small (of_i ∙ e ∙ sym of_j)) (subst (λ k. k ≤ d) of_i pair.1) (subst (λ k. k ≤ d) of_j pair.2))
        )
