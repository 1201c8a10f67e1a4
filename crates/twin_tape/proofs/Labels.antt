-- The labels of a network as a function, and its random bits with their pairs.
use Rattle.std.proofs.Common.{◌≡◌, ◌<◌, ◌≤◌, ◌+◌, ◌==◌, ◌⊎◌, ◌&&◌, ◌++◌, ℕ, zero, suc, Bool, true, false, cond, List, [], ◌∷◌, Some, None, length, codes, slice_get, slice_index_or, bytes_eq, flat_map, filter, map, refl, sym, ap, ap₂, ◌∙◌, subst, inl, inr, ⊎_elim, arith, true≢false, eqb-true}
use Rattle.std.proofs.lemmas.Bool.{cases_lt, or_cases}
use Rattle.std.proofs.lemmas.List.Folds.{list_any-append}
use Rattle.std.proofs.lemmas.Option.{slice_get-get_or}
use Rattle.std.specs.List.{list_any, range_with_len}
use Rattle.agm_net.specs.Label.{part, part_name, part_label, name_of, IsPart as IsPartOf, HasNumbers, HasLabel}
use Rattle.agm_net.specs.Network.{Hpc2}
use Rattle.agm_net.specs.Plain.{PlainNet, input_bits, is_input, data_ports}
use Rattle.agm_net.specs.Run.{d_input}
use Rattle.agm_net.specs.WellFormed.{WellFormed}
use Rattle.agm_net.specs.declared.label.Label.{Label}
use Rattle.agm_net.specs.declared.label.Label.TheVariants.{Clock as l_clock, Public as l_public, Random as l_random, Share as l_share, Inner as l_inner}
use Rattle.agm_net.specs.declared.label.Part.{Part as PartOf}
use Rattle.agm_net.specs.declared.label.PartKind.{PartKind}
use Rattle.agm_net.specs.declared.label.PartKind.TheVariants.{Clk as KClk, A as KA, B as KB, R as KR, Rr as KRr, Bb as KBb, Vx as KVx, V as KV, Na as KNa, Ux as KUx, U as KU, Wx as KWx, W as KW, Mx as KMx, M as KM, S as KS, C as KC}
use Rattle.agm_net.specs.declared.port.Port.{Port}
use Rattle.agm_net.proofs.Driving.{driven_is_wire, is_driver}
use Rattle.agm_net.proofs.Lists.{place_of_any}
use Rattle.agm_net.proofs.OneLabel.{one_label, has_part_label}
use Rattle.agm_net.proofs.OnePart.{one_part}
use Rattle.agm_net.proofs.OneWire.{one_wire}
use Rattle.probe_cones.specs.Inputs.{BitRole, random_bit, open_bit, is_random, bit_role, share_role, port_roles, bit_roles, random_width}
use Rattle.twin_tape.specs.Pairs.{wire_named}
use Rattle.twin_tape.proofs.Bridge.{named_found, part_is, random_role}
use Rattle.twin_tape.proofs.Heads.{lead, of_random, part_lead, random_label}
use Rattle.twin_tape.proofs.Network.{Tag, ClockWire, Public, RandomBit, Plain, Part, Names}
use Rattle.twin_tape.proofs.Places.{place_of, placed}
use Rattle.twin_tape.proofs.PortNames.{input_role}
use Rattle.twin_tape.proofs.Sources.{Input, Random, source, source_of, is_other, rank_in, roles_long}

pub take_left : {X : Type 0} (xs ys : List X) (m : ℕ) (x : X) → slice_get xs m ≡ Some x → slice_get (xs ++ ys) m ≡ Some x
take_left [] ys m x e = absurd (let no = e in cc)
take_left (y ∷ xs) ys zero x e = e
take_left (y ∷ xs) ys (suc m) x e = take_left xs ys m x e

take_right : {X : Type 0} (xs ys : List X) (m : ℕ) → slice_get (xs ++ ys) (length xs + m) ≡ slice_get ys m
take_right [] ys m = ap (slice_get ys) (omega arith)
take_right (x ∷ xs) ys m = let e : length (x ∷ xs) + m ≡ suc (length xs + m) = omega arith in ap (slice_get (x ∷ (xs ++ ys))) e ∙ take_right xs ys m

role_left : (xs ys : List BitRole) (m : ℕ) → m < length xs → slice_index_or (xs ++ ys) m open_bit ≡ slice_index_or xs m open_bit
role_left [] ys m h = absurd (omega arith)
role_left (x ∷ xs) ys zero h = refl
role_left (x ∷ xs) ys (suc m) h = role_left xs ys m (omega arith)

role_right : (xs ys : List BitRole) (m : ℕ) → slice_index_or (xs ++ ys) (length xs + m) open_bit ≡ slice_index_or ys m open_bit
role_right [] ys m = ap (λ n. slice_index_or ys n open_bit) (omega arith)
role_right (x ∷ xs) ys m = let e : length (x ∷ xs) + m ≡ suc (length xs + m) = omega arith in ap (λ n. slice_index_or (x ∷ (xs ++ ys)) n open_bit) e ∙ role_right xs ys m

random_roles : (name : List ℕ) (a n m : ℕ) → bytes_eq name (codes "agm_r") ≡ true → m < n → slice_index_or (map (bit_role name) (range_with_len a n)) m open_bit ≡ random_bit
random_roles name a zero m e h = absurd (omega arith)
random_roles name a (suc n) zero e h = ap (λ b. cond b random_bit (share_role (Rattle.probe_cones.specs.Shares.share_of name) a)) e
random_roles name a (suc n) (suc m) e h = random_roles name (a + 1) n m e (omega arith)

port_long : (name : List ℕ) (a n : ℕ) → length (map (bit_role name) (range_with_len a n)) ≡ n
port_long name a zero = refl
port_long name a (suc n) = ap suc (port_long name (a + 1) n)

pub found_small : {X : Type 0} (xs : List X) (n : ℕ) (x : X) → slice_get xs n ≡ Some x → n < length xs
found_small [] n x e = absurd (let no = e in cc)
found_small (y ∷ ys) zero x e = omega arith
found_small (y ∷ ys) (suc n) x e = let h = found_small ys n x e in omega arith

-- a bit of the random port stands among the input bits, with the role of one
abbrev pub IsRandomInput : List Port → ℕ → Type 0
IsRandomInput ps w = (m : ℕ) × (slice_get (flat_map (λ p. p.bits) (filter is_input ps)) m ≡ Some w) × (slice_index_or (flat_map port_roles (filter is_input ps)) m open_bit ≡ random_bit)

pub found_random : (ps : List Port) (w : ℕ) → list_any (λ b. b == w) (flat_map (λ p. p.bits) (filter (λ p. is_input p && bytes_eq p.name (codes "agm_r")) ps)) ≡ true → IsRandomInput ps w
found_random [] w e = absurd (true≢false (sym e))
found_random (p ∷ ps) w e = go (is_input p) (bytes_eq p.name (codes "agm_r")) refl e (λ e. found_random ps w e)
  where
    shifted : IsRandomInput ps w → (m : ℕ) × (slice_get (p.bits ++ flat_map (λ p. p.bits) (filter is_input ps)) m ≡ Some w) × (slice_index_or (port_roles p ++ flat_map port_roles (filter is_input ps)) m open_bit ≡ random_bit)
    shifted found =
        let long : length p.bits + found.0 ≡ length (port_roles p) + found.0 = (let l = port_long p.name 0 (length p.bits) in omega arith) in (
          length p.bits + found.0,
          take_right p.bits (flat_map (λ p. p.bits) (filter is_input ps)) found.0 ∙ found.1,
          ap (λ k. slice_index_or (port_roles p ++ flat_map port_roles (filter is_input ps)) k open_bit) long ∙ role_right (port_roles p) (flat_map port_roles (filter is_input ps)) found.0 ∙ found.2,
        )

    go : (a b : Bool) → bytes_eq p.name (codes "agm_r") ≡ b → list_any (λ b. b == w) (flat_map (λ p. p.bits) (cond (a && b) (p ∷ (filter (λ p. is_input p && bytes_eq p.name (codes "agm_r")) ps)) (filter (λ p. is_input p && bytes_eq p.name (codes "agm_r")) ps))) ≡ true
        → (list_any (λ b. b == w) (flat_map (λ p. p.bits) (filter (λ p. is_input p && bytes_eq p.name (codes "agm_r")) ps)) ≡ true → IsRandomInput ps w)
        → (m : ℕ) × (slice_get (flat_map (λ p. p.bits) (cond a (p ∷ (filter is_input ps)) (filter is_input ps))) m ≡ Some w) × (slice_index_or (flat_map port_roles (cond a (p ∷ (filter is_input ps)) (filter is_input ps))) m open_bit ≡ random_bit)
    go false b is e rest = rest e
    go true false is e rest = shifted (rest e)
    go true true is e rest =
        ⊎_elim
        (λ h.
        let at = place_of_any (λ b. b == w) p.bits h in
        let same : at.1 ≡ w = eqb-true at.1 w at.3 in
        let small = found_small p.bits at.0 at.1 at.2 in
        let long = port_long p.name 0 (length p.bits) in (
          at.0,
          take_left p.bits (flat_map (λ p. p.bits) (filter is_input ps)) at.0 w (at.2 ∙ ap (λ k. Some k) same),
          role_left (port_roles p) (flat_map port_roles (filter is_input ps)) at.0 (omega arith) ∙ random_roles p.name 0 (length p.bits) at.0 is small,
        ))
        (λ h. shifted (rest h))
        (or_cases (list_any (λ b. b == w) p.bits) (list_any (λ b. b == w) (flat_map (λ p. p.bits) (filter (λ p. is_input p && bytes_eq p.name (codes "agm_r")) ps))) (sym (list_any-append (λ b. b == w) p.bits (flat_map (λ p. p.bits) (filter (λ p. is_input p && bytes_eq p.name (codes "agm_r")) ps))) ∙ e))

-- the numbers of a pair
abbrev pub pair_gadget : Tag → ℕ
pair_gadget (RandomBit g i j) = g
pair_gadget _ = 0

abbrev pub pair_small : Tag → ℕ
pair_small (RandomBit g i j) = i
pair_small _ = 0

abbrev pub pair_great : Tag → ℕ
pair_great (RandomBit g i j) = j
pair_great _ = 0

module _ (net : PlainNet) (d : ℕ) (well : WellFormed net) (hpc2 : Hpc2 net d) where
  abbrev pub tag : (w : ℕ) (label : Label) → HasLabel net d w label → Tag
  tag w l_clock (inl e) = ClockWire
  tag w l_clock (inr p) = Part p.0.gadget KClk 0 0
  tag w l_public h = Public
  tag w (l_random g i j) h = RandomBit g i j
  tag w (l_share i None) h = Plain i
  tag w (l_share i (Some p)) h = Part p.gadget p.kind p.i p.j
  tag w (l_inner p) h = Part p.gadget p.kind p.i p.j

  tag_same : (w : ℕ) (label : Label) (h k : HasLabel net d w label) → tag w label h ≡ tag w label k
  tag_same w l_clock (inl e) (inl f) = refl
  tag_same w l_clock (inl e) (inr (p, kind, h)) = let r : ◌≡◌ {A = ℕ} 99 103 = sym (ap lead e) ∙ part_lead net d w p h in absurd (omega (arith, r))
  tag_same w l_clock (inr (p, kind, h)) (inl f) = let r : ◌≡◌ {A = ℕ} 99 103 = sym (ap lead f) ∙ part_lead net d w p h in absurd (omega (arith, r))
  tag_same w l_clock (inr (p, kind, h)) (inr (q, kind', k)) = ap (λ (x : PartOf). Part x.gadget KClk 0 0) (one_part d (name_of net w) p q h k)
  tag_same w l_public h k = refl
  tag_same w (l_random g i j) h k = refl
  tag_same w (l_share i None) h k = refl
  tag_same w (l_share i (Some p)) h k = refl
  tag_same w (l_inner p) h k = refl

  tag_any : (w : ℕ) (a b : Label) (h : HasLabel net d w a) (k : HasLabel net d w b) → tag w a h ≡ tag w b k
  tag_any w a b h k = subst (λ c. (k : HasLabel net d w c) → tag w a h ≡ tag w c k) (one_label net d w a b h k) (tag_same w a h) k

  label_by : (w : ℕ) → (w < length net.wires) ⊎ (length net.wires ≤ w) → Tag
  label_by w (inl h) = let own = (hpc2.keeps w h).labelled in tag w own.0 own.1
  label_by w (inr h) = Public

  pub label_at : ℕ → Tag
  label_at w = label_by w (cases_lt w (length net.wires))

  pub label_is : (w : ℕ) → w < length net.wires → (a : Label) (h : HasLabel net d w a) → label_at w ≡ tag w a h
  unfolding label_at label_by
  label_is w inside a h = go (cases_lt w (length net.wires))
    where
      go : (c : (w < length net.wires) ⊎ (length net.wires ≤ w)) → label_by w c ≡ tag w a h
      go (inl in_net) = let own = (hpc2.keeps w in_net).labelled in tag_any w own.0 a own.1 h
      go (inr past) = absurd (omega arith)

  part_tag : (w : ℕ) (p : PartOf) (k : PartKind) → p.kind ≡ k → IsPartOf net d w p → (h : HasLabel net d w (part_label k p)) → tag w (part_label k p) h ≡ Part p.gadget p.kind p.i p.j
  part_tag w p KClk is part (inl e) = let r : ◌≡◌ {A = ℕ} 99 103 = sym (ap lead e) ∙ part_lead net d w p part in absurd (omega (arith, r))
  part_tag w p KClk is part (inr (q, kind, h)) =
      let numbers = subst (λ k. HasNumbers d k p.i p.j) is part.0 in
      ap (λ (x : PartOf). Part x.gadget KClk 0 0) (one_part d (name_of net w) q p h part) ∙ ap (λ k. Part p.gadget k 0 0) (sym is) ∙ ap₂ (λ i j. Part p.gadget p.kind i j) (sym numbers.0) (sym numbers.1)
  part_tag w p KA is part h = refl
  part_tag w p KB is part h = refl
  part_tag w p KR is part h = refl
  part_tag w p KRr is part h = refl
  part_tag w p KBb is part h = refl
  part_tag w p KVx is part h = refl
  part_tag w p KV is part h = refl
  part_tag w p KNa is part h = refl
  part_tag w p KUx is part h = refl
  part_tag w p KU is part h = refl
  part_tag w p KWx is part h = refl
  part_tag w p KW is part h = refl
  part_tag w p KMx is part h = refl
  part_tag w p KM is part h = refl
  part_tag w p KS is part h = refl
  part_tag w p KC is part h = refl

  pub label_of_part : (w : ℕ) (p : PartOf) → w < length net.wires → IsPartOf net d w p → label_at w ≡ Part p.gadget p.kind p.i p.j
  label_of_part w p inside is =
      label_is w inside (part_label p.kind p) (has_part_label net d w p is) ∙ part_tag w p p.kind refl is (has_part_label net d w p is)

  -- and a wire with a part's label is that part
  tag_part : (w : ℕ) (a : Label) (h : HasLabel net d w a) (g : ℕ) (k : PartKind) (i j : ℕ) → tag w a h ≡ Part g k i j → IsPartOf net d w (part g k i j)
  tag_part w l_clock (inl e) g k i j is = absurd (let no = is in cc)
  tag_part w l_clock (inr (p, kind, h)) g k i j is =
      let numbers = subst (λ k. HasNumbers d k p.i p.j) kind h.0 in
      let a : p.gadget ≡ g = cc in let b : KClk ≡ k = cc in let c : 0 ≡ i = cc in let e : 0 ≡ j = cc in
      subst (IsPartOf net d w) (part_is p g k i j a (kind ∙ b) (numbers.0 ∙ c) (numbers.1 ∙ e)) h
  tag_part w l_public h g k i j is = absurd (let no = is in cc)
  tag_part w (l_random x y z) h g k i j is = absurd (let no = is in cc)
  tag_part w (l_share x None) h g k i j is = absurd (let no = is in cc)
  tag_part w (l_share x (Some p)) h g k i j is =
      let a : p.gadget ≡ g = cc in let b : p.kind ≡ k = cc in let c : p.i ≡ i = cc in let e : p.j ≡ j = cc in subst (IsPartOf net d w) (part_is p g k i j a b c e) h.2
  tag_part w (l_inner p) h g k i j is =
      let a : p.gadget ≡ g = cc in let b : p.kind ≡ k = cc in let c : p.i ≡ i = cc in let e : p.j ≡ j = cc in subst (IsPartOf net d w) (part_is p g k i j a b c e) h.1

  pub part_of_label : (w g : ℕ) (k : PartKind) (i j : ℕ) → w < length net.wires → label_at w ≡ Part g k i j → IsPartOf net d w (part g k i j)
  part_of_label w g k i j inside is = let own = (hpc2.keeps w inside).labelled in tag_part w own.0 own.1 g k i j (sym (label_is w inside own.0 own.1) ∙ is)

  -- the wire of the n-th random bit
  abbrev pub random_wire : ℕ → ℕ
  random_wire n = slice_index_or (input_bits net) (place_of is_random (bit_roles net) n) 0

  abbrev pub names : Names
  names = record {
    label = label_at;
    part = λ g k i j. wire_named net.wires (part_name (d + 1) g k i j);
    gadget_of = λ n. pair_gadget (label_at (random_wire n));
    small_of = λ n. pair_small (label_at (random_wire n));
    great_of = λ n. pair_great (label_at (random_wire n));
  }

  pub wire_is : (w : ℕ) (p : PartOf) → w < length net.wires → IsPartOf net d w p → w ≡ wire_named net.wires (part_name (d + 1) p.gadget p.kind p.i p.j)
  wire_is w p inside is =
      let found = named_found net.wires (part_name (d + 1) p.gadget p.kind p.i p.j) w inside is.4 in
      one_wire net well w (wire_named net.wires (part_name (d + 1) p.gadget p.kind p.i p.j)) inside found.0 (is.4 ∙ sym found.1)

  -- an input bit with a random role
  pub random_source : (m w : ℕ) → slice_get (input_bits net) m ≡ Some w → is_random (slice_index_or (bit_roles net) m open_bit) ≡ true
      → (w < length net.wires) × (source net w ≡ Random (rank_in is_random (bit_roles net) m)) × (m < length (bit_roles net))
  random_source m w at is =
      let small : m < length (bit_roles net) = (let h = found_small (input_bits net) m w at in let long = roles_long (filter is_input (data_ports net)) in omega arith) in (
        driven_is_wire net well (d_input m) w at,
        ap (source_of net) (is_driver net well (d_input m) w at) ∙ ap (λ b. cond b (Random (rank_in is_random (bit_roles net) m)) (Input (rank_in is_other (bit_roles net) m))) is,
        small,
      )

  -- the n-th random bit: its wire and its pair
  pub random_bits : (n : ℕ) → n < random_width net → (g i j : ℕ) × (random_wire n < length net.wires) × (source net (random_wire n) ≡ Random n) × (label_at (random_wire n) ≡ RandomBit g i j)
  random_bits n small =
      let m = place_of is_random (bit_roles net) n in
      let at = placed is_random (bit_roles net) n small in
      let fits : m < length (input_bits net) = (let long = roles_long (filter is_input (data_ports net)) in let h = at.0 in omega arith) in
      let here : slice_get (input_bits net) m ≡ Some (random_wire n) = slice_get-get_or (input_bits net) m 0 fits in
      let from = random_source m (random_wire n) here at.1 in
      let bit = input_role net well m (random_wire n) here in
      let lead_is = of_random bit.0 (name_of net (random_wire n)) (random_role bit.0 bit.1 (ap is_random (sym bit.3) ∙ at.1)) bit.2 in
      let own = (hpc2.keeps (random_wire n) from.0).labelled in
      let has = random_label net d (random_wire n) own.0 own.1 lead_is.0 lead_is.1 in
      (has.0, has.1, has.2, from.0, from.1 ∙ ap Random at.2, label_is (random_wire n) from.0 (l_random has.0 has.1 has.2) has.3)
