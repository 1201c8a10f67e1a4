-- HPC2 networks, as the rules say and as the proofs see them.
use Rattle.std.proofs.Common.{◌≡◌, ◌<◌, ◌≤◌, ◌+◌, ◌^◌, ◌*◌, ◌-◌, ◌%◌, ◌==◌, ◌⊎◌, ◌&&◌, ◌||◌, ◌++◌, ℕ, zero, suc, Bool, true, false, not, cond, List, [], ◌∷◌, Option, Some, None, length, codes, min, max, IsTrue, All, slice_get, slice_index_or, flat_map, filter, refl, sym, ap, ap₂, ◌∙◌, subst, inl, inr, ⊎_elim, arith, true≢false, eq-eqb, eqb-true}
use Rattle.std.proofs.lemmas.Bool.{cases_lt, or_cases}
use Rattle.std.proofs.lemmas.Option.{get_or_from_slice_get}
use Rattle.std.specs.List.{AllByRecursion, list_any}
use Rattle.agm_net.specs.Formula.{Formula, f_wire, f_not, f_and, f_xor}
use Rattle.agm_net.specs.Label.{part, part_name, name_of, IsBitOf, IsPart as IsPartOf, HasNumbers, HasLabel, MayServe, is_share_kind, is_reader}
use Rattle.agm_net.specs.Network as network
use Rattle.agm_net.specs.Network.{Hpc2, Recipe, inverse, product, sum, stored, a_share, IsMade, random_bits_of, partial_sum, term}
use Rattle.agm_net.specs.Plain.{PlainNet, input_bits, is_input, data_ports}
use Rattle.agm_net.specs.Run.{Driver, d_input, d_clock, d_equation, d_register, d_nothing, driver, HasDriver}
use Rattle.agm_net.specs.Run as run
use Rattle.agm_net.specs.WellFormed.{WellFormed}
use Rattle.agm_net.specs.declared.label.Label.{Label}
use Rattle.agm_net.specs.declared.label.Label.TheVariants.{Clock as l_clock, Public as l_public, Random as l_random, Share as l_share, Inner as l_inner}
use Rattle.agm_net.specs.declared.label.Part.{Part as PartOf}
use Rattle.agm_net.specs.declared.label.PartKind.{PartKind}
use Rattle.agm_net.specs.declared.label.PartKind.TheVariants.{Clk as KClk, A as KA, B as KB, R as KR, Rr as KRr, Bb as KBb, Vx as KVx, V as KV, Na as KNa, Ux as KUx, U as KU, Wx as KWx, W as KW, Mx as KMx, M as KM, S as KS, C as KC}
use Rattle.agm_net.specs.declared.port.Port.{Port}
use Rattle.agm_net.proofs.Driving.{is_driven, reads_are_wires}
use Rattle.agm_net.proofs.Lists.{all_joined}
use Rattle.agm_net.proofs.Wires.{ports_bits}
use Rattle.agm_net.proofs.OnePart.{one_part}
use Rattle.std.specs.Option.{option_map_or}
use Rattle.std.specs.Fmt.{decimal}
use Rattle.probe_cones.specs.Shares as shares
use Rattle.probe_cones.specs.Shares.{is_share}
use Rattle.probe_cones.specs.Cone.{output_bits_of}
use Rattle.probe_cones.specs.Inputs.{BitRole, Secret, share_bit, open_bit, is_random, bit_roles, roles}
use Rattle.twin_tape.specs.Security.{role_at, sees}
use Rattle.twin_tape.specs.Pairs.{wire_named}
use Rattle.twin_tape.proofs.Bridge.{part_is, random_role, other_role, share_kind_is, to_numbers, from_numbers, IsBounded}
use Rattle.twin_tape.proofs.Heads.{lead, Headed, of_port, of_random, of_share_name, headed_lead, headed_one, not_public, random_label, share_label}
use Rattle.twin_tape.proofs.Labels.{tag, label_at, label_is, label_of_part, part_of_label, random_wire, names, wire_is, random_source, random_bits, found_random, pair_gadget, pair_small, pair_great}
use Rattle.twin_tape.proofs.Network.{Tag, Public, RandomBit, Plain, Part, share_of, Names, MayRead, HasPart, Stores, ReadsShare, IsPart, Keeps, IsNetwork}
use Rattle.twin_tape.proofs.Places.{ranked_place}
use Rattle.twin_tape.proofs.PortNames.{IsBitName, HasNames, input_role, port_names}
use Rattle.twin_tape.proofs.Sources.{has_role, past_end, Input, Random, Equation, Register, source, source_of, is_other, rank_in, reads_ever, ever_of, inside_reads}

module _ (net : PlainNet) (d : ℕ) (well : WellFormed net) (hpc2 : Hpc2 net d) where
  abbrev label : ℕ → Tag
  label = label_at net d well hpc2

  abbrev own : Names
  own = names net d well hpc2

  read_in : (w v : ℕ) (D : Driver) → w < length net.wires → driver net w ≡ D → run.reads_ever D v ≡ true → v < length net.wires
  read_in w v D inside is h = reads_are_wires net well w v inside (subst (λ D. run.reads_ever D v ≡ true) (sym is) h)

  same : (v : ℕ) → (v == v) ≡ true
  same v = eq-eqb v v refl

  left : (a b : ℕ) → ((a == a) || (b == a)) ≡ true
  left a b = ap (λ q. q || (b == a)) (same a)

  right : (a b : ℕ) → ((a == b) || (b == b)) ≡ true
  right a b = or_true (a == b) (b == b) (same b)
    where
      or_true : (x y : Bool) → y ≡ true → (x || y) ≡ true
      or_true x y e = grind arith

  share_part : (v i : ℕ) (p : PartOf) → v < length net.wires → IsPartOf net d v p → IsTrue (is_share_kind p.kind) → p.i ≡ i → share_of (label v) ≡ Some i
  share_part v i p inside is kind e = ap share_of (label_of_part net d well hpc2 v p inside is) ∙ share_kind_is p.kind p.i kind ∙ ap (λ k. Some k) e

  may_read : (v i : ℕ) → v < length net.wires → MayServe net d i v → MayRead (label v) i
  may_read v i inside (inl h) = inl (label_is net d well hpc2 v inside l_public h)
  may_read v i inside (inr (None, h)) = inr (ap share_of (label_is net d well hpc2 v inside (l_share i None) h))
  may_read v i inside (inr (Some p, h)) = inr (share_part v i p inside h.2 h.0 h.1)

  -- the terms of a sum are of one share
  partial_share : (g i n : ℕ) → IsTrue (is_share_kind (partial_sum d g i n).kind) × ((partial_sum d g i n).i ≡ i)
  partial_share g i n = go (n == 0) (n == 2 * d)
    where
      go : (a b : Bool) → IsTrue (is_share_kind (cond a (part g KM i 0) (cond b (part g KC i 0) (part g KS i n))).kind) × ((cond a (part g KM i 0) (cond b (part g KC i 0) (part g KS i n))).i ≡ i)
      go true b = (refl, refl)
      go false true = (refl, refl)
      go false false = (refl, refl)

  term_share : (g i n : ℕ) → IsTrue (is_share_kind (term d g i n).kind)
  term_share g i n = go (n % 2 == 1)
    where
      go : (a : Bool) → IsTrue (is_share_kind (cond a KU KW))
      go true = refl
      go false = refl

  sum_made : (w g i n : ℕ) → w < length net.wires → IsMade net d w (sum (partial_sum d g i (n - 1)) (term d g i n)) → (e : Formula) × (source net w ≡ Equation e) × ReadsShare net own w i
  sum_made w g i n inside (u, v, e, is_u, is_v) =
      let D = d_equation (f_xor (f_wire u) (f_wire v)) in
      let u_in = read_in w u D inside e (left u v) in
      let v_in = read_in w v D inside e (right u v) in
      let kind = partial_share g i (n - 1) in
      let of_u : share_of (label u) ≡ Some i = share_part u i (partial_sum d g i (n - 1)) u_in is_u kind.0 kind.1 in
      let of_v : share_of (label v) ≡ Some i = share_part v i (term d g i n) v_in is_v (term_share g i n) refl in (
        f_xor (f_wire u) (f_wire v),
        ap (source_of net) e,
        λ x h.
            ⊎_elim (λ a. inr (subst (λ k. share_of (label k) ≡ Some i) (eqb-true u x a) of_u)) (λ a. inr (subst (λ k. share_of (label k) ≡ Some i) (eqb-true v x a) of_v))
            (or_cases (u == x) (v == x) (subst (λ s. reads_ever s x ≡ true) (ap (source_of net) e) h)),
      )

  -- the wire of a part
  at : (v : ℕ) (p : PartOf) → v < length net.wires → IsPartOf net d v p → v ≡ wire_named net.wires (part_name (d + 1) p.gadget p.kind p.i p.j)
  at = wire_is net d well hpc2

  stored_made : (w : ℕ) (p : PartOf) → w < length net.wires → IsMade net d w (stored p) → Stores net own w (wire_named net.wires (part_name (d + 1) p.gadget p.kind p.i p.j))
  stored_made w p inside (n, v, e, is) = (n, ap (source_of net) e ∙ ap (λ u. Register n (f_wire u)) (at v p (read_in w v (d_register n (f_wire v)) inside e (same v)) is))

  two_made : (w u v : ℕ) (p q : PartOf) (f : Formula → Formula → Formula) → (D : Driver) → D ≡ d_equation (f (f_wire u) (f_wire v)) → w < length net.wires → driver net w ≡ D
      → u < length net.wires → v < length net.wires → IsPartOf net d u p → IsPartOf net d v q
      → source net w ≡ Equation (f (f_wire (wire_named net.wires (part_name (d + 1) p.gadget p.kind p.i p.j))) (f_wire (wire_named net.wires (part_name (d + 1) q.gadget q.kind q.i q.j))))
  two_made w u v p q f D shape inside e u_in v_in is_u is_v =
      ap (source_of net) (e ∙ shape) ∙ ap₂ (λ a b. Equation (f (f_wire a) (f_wire b))) (at u p u_in is_u) (at v q v_in is_v)

  sum_is : (w : ℕ) (p q : PartOf) → w < length net.wires → IsMade net d w (sum p q)
      → source net w ≡ Equation (f_xor (f_wire (wire_named net.wires (part_name (d + 1) p.gadget p.kind p.i p.j))) (f_wire (wire_named net.wires (part_name (d + 1) q.gadget q.kind q.i q.j))))
  sum_is w p q inside (u, v, e, is_u, is_v) =
      let D = d_equation (f_xor (f_wire u) (f_wire v)) in
      two_made w u v p q f_xor D refl inside e (read_in w u D inside e (left u v)) (read_in w v D inside e (right u v)) is_u is_v

  product_is : (w : ℕ) (p q : PartOf) → w < length net.wires → IsMade net d w (product p q)
      → source net w ≡ Equation (f_and (f_wire (wire_named net.wires (part_name (d + 1) p.gadget p.kind p.i p.j))) (f_wire (wire_named net.wires (part_name (d + 1) q.gadget q.kind q.i q.j))))
  product_is w p q inside (u, v, e, is_u, is_v) =
      let D = d_equation (f_and (f_wire u) (f_wire v)) in
      two_made w u v p q f_and D refl inside e (read_in w u D inside e (left u v)) (read_in w v D inside e (right u v)) is_u is_v

  bit_lead : (v : ℕ) → IsBitOf (codes "agm_r") (name_of net v) → ((rest : List ℕ) × (name_of net v ≡ codes "agm_" ++ rest)) × (lead (name_of net v) ≡ 114)
  bit_lead v (inl e) = ((codes "r", e), ap lead e)
  bit_lead v (inr (k, small, e)) = ((114 ∷ 91 ∷ (decimal k ++ 93 ∷ []), e), ap lead e)

  -- the random bit that a part reads is that of its pair
  random_made : (w g i j v : ℕ) → w < length net.wires → IsPartOf net d w (part g KR i j) → driver net w ≡ d_equation (f_wire v) → IsBitOf (codes "agm_r") (name_of net v) → label v ≡ RandomBit g i j
  random_made w g i j v inside part_w e bit =
      let v_in = read_in w v (d_equation (f_wire v)) inside e (same v) in
      let looks = bit_lead v bit in
      let labelled = (hpc2.keeps v v_in).labelled in
      let has = random_label net d v labelled.0 labelled.1 looks.0 looks.1 in
      let reader = has.3.1 in
      let reads : is_reader net w v ≡ true = ap (λ D. run.reads_ever D v || list_any (λ r. (r.q == w) && (r.clock == v)) net.registers) e ∙ ap (λ b. b || list_any (λ r. (r.q == w) && (r.clock == v)) net.registers) (same v) in
      let here : w ≡ reader.0 = reader.3 w reads in
      let pair : part has.0 KR has.1 has.2 ≡ part g KR i j = one_part d (name_of net w) (part has.0 KR has.1 has.2) (part g KR i j) (subst (λ u. IsPartOf net d u (part has.0 KR has.1 has.2)) (sym here) reader.1) part_w in
      label_is net d well hpc2 v v_in (l_random has.0 has.1 has.2) has.3 ∙ ap (λ (p : PartOf). RandomBit p.gadget p.i p.j) pair

  by_recipe : (w g : ℕ) (k : PartKind) (i j : ℕ) → w < length net.wires → IsPartOf net d w (part g k i j) → IsMade net d w (network.recipe d g k i j) → IsPart net own w g k i j
  by_recipe w g KClk i j inside is (v, e, n) = (v, ap (source_of net) e, label_is net d well hpc2 v (read_in w v (d_equation (f_wire v)) inside e (same v)) l_clock (inl n))
  by_recipe w g KA i j inside is (v, e, serves) = (v, ap (source_of net) e, may_read v i (read_in w v (d_equation (f_wire v)) inside e (same v)) serves)
  by_recipe w g KB i j inside is (v, e, serves) = (v, ap (source_of net) e, may_read v i (read_in w v (d_equation (f_wire v)) inside e (same v)) serves)
  by_recipe w g KR i j inside is (v, e, bit) = (v, ap (source_of net) e, random_made w g i j v inside is e bit)
  by_recipe w g KRr i j inside is made = stored_made w (part g KR i j) inside made
  by_recipe w g KBb i j inside is made = stored_made w (part g KB i 0) inside made
  by_recipe w g KVx i j inside is made = sum_is w (part g KB j 0) (part g KR (min i j) (max i j)) inside made
  by_recipe w g KV i j inside is made = stored_made w (part g KVx i j) inside made
  by_recipe w g KNa i j inside is (v, e, part_v) =
      ap (source_of net) e ∙ ap (λ u. Equation (f_not (f_wire u))) (at v (part g KA i 0) (read_in w v (d_equation (f_not (f_wire v))) inside e (same v)) part_v)
  by_recipe w g KUx i j inside is made = product_is w (part g KNa i 0) (part g KRr (min i j) (max i j)) inside made
  by_recipe w g KU i j inside is made = stored_made w (part g KUx i j) inside made
  by_recipe w g KWx i j inside is made = product_is w (part g KA i 0) (part g KV i j) inside made
  by_recipe w g KW i j inside is made = stored_made w (part g KWx i j) inside made
  by_recipe w g KMx i j inside is made = product_is w (part g KA i 0) (part g KBb i 0) inside made
  by_recipe w g KM i j inside is made = stored_made w (part g KMx i 0) inside made
  by_recipe w g KS i j inside is made = sum_made w g i j inside made
  by_recipe w g KC i j inside is made = sum_made w g i (2 * d) inside made

  made_part : (w g : ℕ) (k : PartKind) (i j : ℕ) → w < length net.wires → IsPartOf net d w (part g k i j) → IsPart net own w g k i j
  made_part w g k i j inside is = by_recipe w g k i j inside is ((hpc2.keeps w inside).made (part g k i j) is)

  bounded : (k : PartKind) → IsBounded k ⊎ (k ≡ KR)
  bounded KR = inr refl
  bounded _ = inl tt

  -- with a part its whole gadget is there
  gadget_has : (w g : ℕ) (k : PartKind) (i j : ℕ) → w < length net.wires → IsPartOf net d w (part g k i j) → (kind : PartKind) (a b : ℕ) → HasPart d kind a b
      → (v : ℕ) × (v < length net.wires) × IsPartOf net d v (part g kind a b)
  gadget_has w g k i j inside is kind a b h = go (bounded kind)
    where
      whole : (kind : PartKind) (a b : ℕ) → HasNumbers d kind a b → (v : ℕ) × (v < length net.wires) × IsPartOf net d v (part g kind a b)
      whole kind a b numbers = (hpc2.keeps w inside).whole g (part g k i j, refl, is) kind a b numbers

      by_stored : HasPart d KR a b → (v : ℕ) × (v < length net.wires) × IsPartOf net d v (part g KR a b)
      by_stored h =
          let rr = whole KRr a b h in
          let made = (hpc2.keeps rr.0 rr.1).made (part g KRr a b) rr.2 in
          (made.1, read_in rr.0 made.1 (d_register made.0 (f_wire made.1)) rr.1 made.2 (same made.1), made.3)

      go : IsBounded kind ⊎ (kind ≡ KR) → (v : ℕ) × (v < length net.wires) × IsPartOf net d v (part g kind a b)
      go (inl small) = whole kind a b (from_numbers d kind a b small h)
      go (inr e) = subst (λ k. HasPart d k a b → (v : ℕ) × (v < length net.wires) × IsPartOf net d v (part g k a b)) (sym e) by_stored h

  whole_gadget : (w g i j : ℕ) (kind : PartKind) → w < length net.wires → label w ≡ Part g kind i j → HasPart d kind i j × (w ≡ own.part g kind i j) ×
      ((k : PartKind) (a b : ℕ) → HasPart d k a b → (own.part g k a b < length net.wires) × (label (own.part g k a b) ≡ Part g k a b))
  whole_gadget w g i j kind inside is =
      let part_w = part_of_label net d well hpc2 w g kind i j inside is in (
        to_numbers d kind i j part_w.0,
        at w (part g kind i j) inside part_w,
        λ k a b h.
            let found = gadget_has w g kind i j inside part_w k a b h in
            let same = at found.0 (part g k a b) found.1 found.2 in
            (subst (λ v. v < length net.wires) same found.1, subst (λ v. label v ≡ Part g k a b) same (label_of_part net d well hpc2 found.0 (part g k a b) found.1 found.2)),
      )

  -- input bits by their sources
  abbrev role : ℕ → BitRole
  role m = slice_index_or (bit_roles net) m open_bit

  given : (w n : ℕ) → w < length net.wires → source net w ≡ Input n → (m : ℕ) × (slice_get (input_bits net) m ≡ Some w) × (is_random (role m) ≡ false) × (rank_in is_other (bit_roles net) m ≡ n)
  given w n inside is = go (driver net w) (is_driven net well w inside) is
    where
      go : (D : Driver) → HasDriver net D w → source_of net D ≡ Input n → (m : ℕ) × (slice_get (input_bits net) m ≡ Some w) × (is_random (role m) ≡ false) × (rank_in is_other (bit_roles net) m ≡ n)
      go (d_input m) drives e = go_role (is_random (role m)) refl e
        where
          go_role : (b : Bool) → is_random (role m) ≡ b → cond b (Random (rank_in is_random (bit_roles net) m)) (Input (rank_in is_other (bit_roles net) m)) ≡ Input n
              → (m : ℕ) × (slice_get (input_bits net) m ≡ Some w) × (is_random (role m) ≡ false) × (rank_in is_other (bit_roles net) m ≡ n)
          go_role true h e = absurd (let no = e in cc)
          go_role false h e = (m, drives, h, (let r : rank_in is_other (bit_roles net) m ≡ n = cc in r))
      go d_clock drives e = absurd (let no = e in cc)
      go (d_equation f) drives e = absurd (let no = e in cc)
      go (d_register m f) drives e = absurd (let no = e in cc)
      go d_nothing drives e = absurd (let no = e in cc)

  drawn : (w n : ℕ) → w < length net.wires → source net w ≡ Random n → (m : ℕ) × (slice_get (input_bits net) m ≡ Some w) × (is_random (role m) ≡ true)
  drawn w n inside is = go (driver net w) (is_driven net well w inside) is
    where
      go : (D : Driver) → HasDriver net D w → source_of net D ≡ Random n → (m : ℕ) × (slice_get (input_bits net) m ≡ Some w) × (is_random (role m) ≡ true)
      go (d_input m) drives e = go_role (is_random (role m)) refl e
        where
          go_role : (b : Bool) → is_random (role m) ≡ b → cond b (Random (rank_in is_random (bit_roles net) m)) (Input (rank_in is_other (bit_roles net) m)) ≡ Random n
              → (m : ℕ) × (slice_get (input_bits net) m ≡ Some w) × (is_random (role m) ≡ true)
          go_role true h e = (m, drives, h)
          go_role false h e = absurd (let no = e in cc)
      go d_clock drives e = absurd (let no = e in cc)
      go (d_equation f) drives e = absurd (let no = e in cc)
      go (d_register m f) drives e = absurd (let no = e in cc)
      go d_nothing drives e = absurd (let no = e in cc)

  placed_role : (w m n : ℕ) → slice_get (input_bits net) m ≡ Some w → is_random (role m) ≡ false → rank_in is_other (bit_roles net) m ≡ n → (n < length (roles net)) × (role_at net n ≡ role m)
  placed_role w m n at is e =
      let small = has_role net m w at in
      let found = ranked_place is_other (bit_roles net) m small (ap not is) in
      (subst (λ k. k < length (roles net)) e found.0, subst (λ k. role_at net k ≡ role m) e found.2)

  input_small : (w n : ℕ) → w < length net.wires → source net w ≡ Input n → n < length (roles net)
  input_small w n inside is = let from = given w n inside is in (placed_role w from.0 n from.1 from.2 from.3).0

  -- an input bit is public, or of a port with a share
  given_role : (w n : ℕ) → w < length net.wires → source net w ≡ Input n
      → (role_at net n ≡ open_bit) ⊎ ((i : ℕ) × (x : Secret) × (i < 2 ^ 32) × Headed i (name_of net w) × (lead (name_of net w) ≡ 115) × (role_at net n ≡ share_bit i x))
  given_role w n inside is =
      let from = given w n inside is in
      let bit = input_role net well from.0 w from.1 in
      let here = (placed_role w from.0 n from.1 from.2 from.3).1 in
      ⊎_elim (λ e. inl (here ∙ bit.3 ∙ e))
      (λ found. let port = of_port bit.0 (name_of net w) found.0 found.1 bit.2 in inr (found.0.0, (found.0.1, bit.1), port.0, port.1, port.2, here ∙ bit.3 ∙ found.2))
      (other_role bit.0 bit.1 (ap is_random (sym bit.3) ∙ from.2))

  drawn_lead : (w n : ℕ) → w < length net.wires → source net w ≡ Random n → ((rest : List ℕ) × (name_of net w ≡ codes "agm_" ++ rest)) × (lead (name_of net w) ≡ 114)
  drawn_lead w n inside is =
      let from = drawn w n inside is in
      let bit = input_role net well from.0 w from.1 in
      of_random bit.0 (name_of net w) (random_role bit.0 bit.1 (ap is_random (sym bit.3) ∙ from.2)) bit.2

  public_kept : (w : ℕ) → w < length net.wires → HasLabel net d w l_public → Keeps net own w Public
  public_kept w inside h = (
    λ v reads.
        let v_in = inside_reads net well w v inside reads in
        label_is net d well hpc2 v v_in l_public ((hpc2.keeps w inside).public_reads h v (sym (ever_of net (driver net w) v) ∙ reads)),
    λ n is.
        ⊎_elim (λ e. e) (λ found. absurd (not_public net d w 115 (inr (inl refl)) (headed_lead found.0 (name_of net w) found.3).0 found.4 h)) (given_role w n inside is),
    λ n is. let looks = drawn_lead w n inside is in not_public net d w 114 (inl refl) looks.0 looks.1 h,
  )

  share_kept : (w i : ℕ) → w < length net.wires → HasLabel net d w (l_share i None) → Keeps net own w (Plain i)
  share_kept w i inside h =
      let mine = of_share_name i (name_of net w) h.1 in (
        λ v reads.
            let v_in = inside_reads net well w v inside reads in
            may_read v i v_in ((hpc2.keeps w inside).share_reads i h v (sym (ever_of net (driver net w) v) ∙ reads)),
        λ n is.
            ⊎_elim (λ e. ap (sees (i ∷ [])) e)
            (λ found. ap (sees (i ∷ [])) found.5 ∙ ap (λ b. b || false) (eq-eqb found.0 i (headed_one found.0 i (name_of net w) found.2 mine.0 found.3 mine.1))) (given_role w n inside is),
        λ n is.
            let looks = drawn_lead w n inside is in
            ⊎_elim (λ a. let r : ◌≡◌ {A = ℕ} 115 114 = sym a ∙ looks.1 in omega (arith, r)) (λ a. let r : ◌≡◌ {A = ℕ} 100 114 = sym a ∙ looks.1 in omega (arith, r))
            (headed_lead i (name_of net w) mine.1).1,
      )

  random_kept : (w g i j : ℕ) → w < length net.wires → HasLabel net d w (l_random g i j) → Keeps net own w (RandomBit g i j)
  random_kept w g i j inside h =
      let found = found_random (data_ports net) w ((hpc2.keeps w inside).is_random h.0) in
      let m = found.0 in
      let small = has_role net m w found.1 in
      let from = random_source net d well hpc2 m w found.1 (ap is_random found.2) in
      let ranked = ranked_place is_random (bit_roles net) m small (ap is_random found.2) in
      let n = rank_in is_random (bit_roles net) m in
      let wire : random_wire net d well hpc2 n ≡ w = ap (λ k. slice_index_or (input_bits net) k 0) ranked.1 ∙ get_or_from_slice_get (input_bits net) m w 0 found.1 in
      let label_w : label (random_wire net d well hpc2 n) ≡ RandomBit g i j = ap label wire ∙ label_is net d well hpc2 w inside (l_random g i j) h in
      let reader = h.1 in
      let r = reader.0 in
      let r_in : r < length net.wires = reader_in r reader.1 in
      (n, from.1, ranked.0, ap pair_gadget label_w, ap pair_small label_w, ap pair_great label_w, reader.1.0.0, r, r_in, label_of_part net d well hpc2 r (part g KR i j) r_in reader.1)
    where
      reader_in : (r : ℕ) → IsPartOf net d r (part g KR i j) → r < length net.wires
      reader_in r is =
          ⊎_elim (λ lt. lt)
          (λ (le : length net.wires ≤ r). absurd (let none : [] ≡ part_name (d + 1) g KR i j = sym (past_end net.wires r [] le) ∙ is.4 in cc))
          (cases_lt r (length net.wires))

  keeps_tag : (w : ℕ) → w < length net.wires → (a : Label) (h : HasLabel net d w a) → Keeps net own w (tag net d well hpc2 w a h)
  keeps_tag w inside l_clock (inl e) = ap (source_of net) ((hpc2.keeps w inside).is_clock e)
  keeps_tag w inside l_clock (inr (p, kind, h)) =
      let numbers = subst (λ k. HasNumbers d k p.i p.j) kind h.0 in
      made_part w p.gadget KClk 0 0 inside (subst (IsPartOf net d w) (part_is p p.gadget KClk 0 0 refl kind numbers.0 numbers.1) h)
  keeps_tag w inside l_public h = public_kept w inside h
  keeps_tag w inside (l_random g i j) h = random_kept w g i j inside h
  keeps_tag w inside (l_share i None) h = share_kept w i inside h
  keeps_tag w inside (l_share i (Some p)) h = made_part w p.gadget p.kind p.i p.j inside h.2
  keeps_tag w inside (l_inner p) h = made_part w p.gadget p.kind p.i p.j inside h.1

  keeps_at : (w : ℕ) → w < length net.wires → Keeps net own w (label w)
  keeps_at w inside =
      let labelled = (hpc2.keeps w inside).labelled in
      subst (Keeps net own w) (sym (label_is net d well hpc2 w inside labelled.0 labelled.1)) (keeps_tag w inside labelled.0 labelled.1)

  -- output bits of a share
  abbrev IsOut : ℕ → ℕ → Type 0
  IsOut i w = (w < length net.wires) × (share_of (label w) ≡ Some i)

  out_bit : (i w : ℕ) (port : List ℕ) → w < length net.wires → IsBitName port (name_of net w) → is_share i port ≡ true → IsOut i w
  out_bit i w port inside bit e = (inside, go (shares.share_of port) refl e)
    where
      go : (o : Option (ℕ × List ℕ)) → shares.share_of port ≡ o → option_map_or (λ s. s.0 == i) o false ≡ true → share_of (label w) ≡ Some i
      go None is e = absurd (true≢false (sym e))
      go (Some s) is e =
          let looks = of_port port (name_of net w) s is bit in
          let labelled = (hpc2.keeps w inside).labelled in
          let has = share_label net d w labelled.0 labelled.1 (headed_lead s.0 (name_of net w) looks.1).0 looks.2 in
          let mine = of_share_name has.0 (name_of net w) has.1.1 in
          let index : has.0 ≡ i = headed_one has.0 s.0 (name_of net w) mine.0 looks.0 mine.1 looks.1 ∙ eqb-true s.0 i e in
          ap share_of (label_is net d well hpc2 w inside (l_share has.0 None) has.1) ∙ ap (λ k. Some k) index

  out_bits : (i : ℕ) (port : List ℕ) (ws : List ℕ) → is_share i port ≡ true → AllByRecursion (λ w. IsBitName port (name_of net w)) ws → AllByRecursion (λ w. w < length net.wires) ws → AllByRecursion (IsOut i) ws
  out_bits i port [] e named fit = tt
  out_bits i port (w ∷ ws) e named fit = (out_bit i w port fit.0 named.0 e, out_bits i port ws e named.1 fit.1)

  out_ports : (i : ℕ) (ps : List Port) → AllByRecursion (HasNames net) ps → AllByRecursion (λ p. AllByRecursion (λ w. w < length net.wires) p.bits) ps
      → AllByRecursion (IsOut i) (flat_map (λ p. p.bits) (filter (λ p. not (is_input p) && is_share i p.name) ps))
  out_ports i [] named fit = tt
  out_ports i (p ∷ ps) named fit = go (is_input p) (is_share i p.name) refl (out_ports i ps named.1 fit.1)
    where
      go : (a b : Bool) → is_share i p.name ≡ b → AllByRecursion (IsOut i) (flat_map (λ p. p.bits) (filter (λ p. not (is_input p) && is_share i p.name) ps))
          → AllByRecursion (IsOut i) (flat_map (λ p. p.bits) (cond (not a && b) (p ∷ filter (λ p. not (is_input p) && is_share i p.name) ps) (filter (λ p. not (is_input p) && is_share i p.name) ps)))
      go true b e rest = rest
      go false false e rest = rest
      go false true e rest = all_joined (IsOut i) p.bits (flat_map (λ p. p.bits) (filter (λ p. not (is_input p) && is_share i p.name) ps)) (out_bits i p.name p.bits e named.0 fit.0) rest

  all_at : (P : ℕ → Type 0) (ws : List ℕ) → AllByRecursion P ws → All P ws
  all_at P [] h m other small = absurd (omega arith)
  all_at P (w ∷ ws) h zero other small = h.0
  all_at P (w ∷ ws) h (suc m) other small = all_at P ws h.1 m other (omega arith)

  pub is_network : IsNetwork net own d
  is_network = record {
    no_loop = hpc2.no_loop;
    inside = inside_reads net well;
    ports = input_small;
    keeps = keeps_at;
    whole = whole_gadget;
    bits = λ n small. let found = random_bits net d well hpc2 n small in (random_wire net d well hpc2 n, found.0, found.1, found.2, found.3, found.4, found.5);
    outputs = λ i. all_at (IsOut i) (output_bits_of net i) (out_ports i net.ports (port_names net well) (ports_bits net well));
  }
