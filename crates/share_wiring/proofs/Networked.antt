-- The net of a builder whose wires keep the rules is an HPC2 network.
use Rattle.std.proofs.Common.{◌≡◌, ◌≢◌, ◌<◌, ◌≤◌, ◌+◌, ◌==◌, ◌&&◌, ◌⊎◌, ℕ, true, false, List, [], ◌∷◌, Some, None, codes, length, get_or, IsTrue, refl, sym, ap, subst, inl, inr, ◌∙◌, arith, eq-eqb}
use Rattle.std.specs.List.{AllByRecursion, list_any}
use Rattle.std.proofs.lemmas.Bool.{or_cases, or_left, and_parts, eqb-true}
use Rattle.std.proofs.lemmas.List.{length-map}
use Rattle.std.proofs.lemmas.Option.{get_or_from_slice_get}
use Rattle.agm_net.specs.Label.{part, IsBitOf, IsPublic, IsShareName, CountsAsShare, IsPartName, HasLabel, HasNumbers, MayServe, is_reader, part_text, part_label}
use Rattle.agm_net.specs.Network.{Recipe, the_clock, a_share, a_random_bit, inverse, product, sum, stored, recipe, IsMade, IsOfGadget, IsWhole, IsPastGap, MayClock, Keeps, Hpc2, HasGadgets}
use Rattle.agm_net.specs.Plain.{Stored}
use Rattle.agm_net.specs.Run.{driver, reads_ever, d_clock}
use Rattle.agm_net.specs.declared.label.Label.{Label}
use Rattle.agm_net.specs.declared.label.Label.TheVariants.{Clock, Public, Random, Share}
use Rattle.agm_net.specs.declared.label.Part.{Part}
use Rattle.agm_net.specs.declared.label.PartKind.{PartKind}
use Rattle.agm_net.specs.declared.label.PartKind.TheVariants.{Clk, A, B, R, Rr, Bb, Vx, V, Na, Ux, U, Wx, W, Mx, M, S, C}
use Rattle.agm_net.proofs.Lists.{all_of_one, found_of_all, place_of_any}
use Rattle.agm_net.proofs.OneLabel.{IsIn, one_family, no_user, public_in, random_in, form_in, part_in, share_form, one_share, has_part_label}
use Rattle.agm_net.proofs.OnePart.{one_part}
use Rattle.share_wiring.specs.Wiring.{Wiring, names, name_at, source_at, stored_below, net_of, IsPublicWire}
use Rattle.share_wiring.specs.Adds.{random_bits}
use Rattle.share_wiring.specs.Built.{IsBuilt, IsBegun}
use Rattle.share_wiring.specs.Networks.{source_reads, IsClocked, Serves, IsBy, Rule, is_clock, is_random, is_public, is_share, is_part, IsPair, IsNetwork}
use Rattle.share_wiring.specs.declared.gate.Gate.TheVariants.{Same, Not, And, Xor}
use Rattle.share_wiring.specs.declared.gate.Source.{Source}
use Rattle.share_wiring.specs.declared.gate.Source.TheVariants.{Input, Equation, Register, Held}
use Rattle.share_wiring.specs.declared.gate.Wire.{Wire}
use Rattle.share_wiring.proofs.FinishedNet.{no_loop}
use Rattle.share_wiring.proofs.NetDrivers.{StoredTold, all_told, ReadsIt, equation_driver, register_driver, reads_told}
use Rattle.share_wiring.proofs.PortRules.{name_place}
use Rattle.share_wiring.proofs.RandomBits.{place_of, random_is_found, random_place, user_is_bit, clock_found, clock_is_zero, clock_driver}

-- ---- names of different families

not_public : (k : ℕ) (name : List ℕ) → k ≢ 2 → IsPublic name → IsIn k name → Prim.⊥
not_public k name other (inl public) is = other (one_family k 2 name is (public_in name public))
not_public k name other (inr user) is = no_user k name user is

apart : (k l : ℕ) (name : List ℕ) → k ≢ l → IsIn k name → IsIn l name → Prim.⊥
apart k l name other is is' = other (one_family k l name is is')

clock_in : (name : List ℕ) → name ≡ codes "agm_clk" → IsIn 1 name
clock_in name e = (codes "clk", e, refl)

share_in : (i : ℕ) (name : List ℕ) → IsShareName i name → IsIn 4 name
share_in i name h = form_in i name (share_form i name h)

-- what counts as a share, or is public, is no random bit
no_random : (d i : ℕ) (name : List ℕ) → IsPublic name ⊎ CountsAsShare d i name → IsBitOf (codes "agm_r") name → Prim.⊥
no_random d i name (inl public) r = not_public 3 name (λ e. omega (arith, e)) public (random_in name r)
no_random d i name (inr (inl share)) r = apart 4 3 name (λ e. omega (arith, e)) (share_in i name share) (random_in name r)
no_random d i name (inr (inr (p, kind, index, named))) r = apart 5 3 name (λ e. omega (arith, e)) (part_in d p name named) (random_in name r)

no_random_part : (d : ℕ) (p : Part) (name : List ℕ) → IsPartName d p name → IsBitOf (codes "agm_r") name → Prim.⊥
no_random_part d p name named r = apart 5 3 name (λ e. omega (arith, e)) (part_in d p name named) (random_in name r)

no_random_clock : (name : List ℕ) → name ≡ codes "agm_clk" → IsBitOf (codes "agm_r") name → Prim.⊥
no_random_clock name e r = apart 1 3 name (λ f. omega (arith, f)) (clock_in name e) (random_in name r)

-- parts `r` alone are made of random bits
random_kind : (d g : ℕ) (kind : PartKind) (i j : ℕ) → recipe d g kind i j ≡ a_random_bit → kind ≡ R
random_kind d g R i j e = refl
random_kind d g Clk i j e = absurd (cc)
random_kind d g A i j e = absurd (cc)
random_kind d g B i j e = absurd (cc)
random_kind d g Rr i j e = absurd (cc)
random_kind d g Bb i j e = absurd (cc)
random_kind d g Vx i j e = absurd (cc)
random_kind d g V i j e = absurd (cc)
random_kind d g Na i j e = absurd (cc)
random_kind d g Ux i j e = absurd (cc)
random_kind d g U i j e = absurd (cc)
random_kind d g Wx i j e = absurd (cc)
random_kind d g W i j e = absurd (cc)
random_kind d g Mx i j e = absurd (cc)
random_kind d g M i j e = absurd (cc)
random_kind d g S i j e = absurd (cc)
random_kind d g C i j e = absurd (cc)

-- and parts `a` and `b` alone of shares
share_kind : (d g : ℕ) (kind : PartKind) (i j k : ℕ) → HasNumbers d kind i j → recipe d g kind i j ≡ a_share k → k ≤ d
share_kind d g Clk i j k n e = absurd (cc)
share_kind d g A i j k n e = let same : i ≡ k = cc in let le = n.0 in omega (arith, same, le)
share_kind d g B i j k n e = let same : i ≡ k = cc in let le = n.0 in omega (arith, same, le)
share_kind d g R i j k n e = absurd (cc)
share_kind d g Rr i j k n e = absurd (cc)
share_kind d g Bb i j k n e = absurd (cc)
share_kind d g Vx i j k n e = absurd (cc)
share_kind d g V i j k n e = absurd (cc)
share_kind d g Na i j k n e = absurd (cc)
share_kind d g Ux i j k n e = absurd (cc)
share_kind d g U i j k n e = absurd (cc)
share_kind d g Wx i j k n e = absurd (cc)
share_kind d g W i j k n e = absurd (cc)
share_kind d g Mx i j k n e = absurd (cc)
share_kind d g M i j k n e = absurd (cc)
share_kind d g S i j k n e = absurd (cc)
share_kind d g C i j k n e = absurd (cc)

-- a register of a part stores a part of its gadget
stored_gadget : (d g : ℕ) (kind : PartKind) (i j : ℕ) (q : Part) → recipe d g kind i j ≡ stored q → q.gadget ≡ g
stored_gadget d g Clk i j q e = absurd (cc)
stored_gadget d g A i j q e = absurd (cc)
stored_gadget d g B i j q e = absurd (cc)
stored_gadget d g R i j q e = absurd (cc)
stored_gadget d g Rr i j q e = let same : part g R i j ≡ q = cc in ap (λ (x : Part). x.gadget) (sym same)
stored_gadget d g Bb i j q e = let same : part g B i 0 ≡ q = cc in ap (λ (x : Part). x.gadget) (sym same)
stored_gadget d g Vx i j q e = absurd (cc)
stored_gadget d g V i j q e = let same : part g Vx i j ≡ q = cc in ap (λ (x : Part). x.gadget) (sym same)
stored_gadget d g Na i j q e = absurd (cc)
stored_gadget d g Ux i j q e = absurd (cc)
stored_gadget d g U i j q e = let same : part g Ux i j ≡ q = cc in ap (λ (x : Part). x.gadget) (sym same)
stored_gadget d g Wx i j q e = absurd (cc)
stored_gadget d g W i j q e = let same : part g Wx i j ≡ q = cc in ap (λ (x : Part). x.gadget) (sym same)
stored_gadget d g Mx i j q e = absurd (cc)
stored_gadget d g M i j q e = let same : part g Mx i 0 ≡ q = cc in ap (λ (x : Part). x.gadget) (sym same)
stored_gadget d g S i j q e = absurd (cc)
stored_gadget d g C i j q e = absurd (cc)

-- a wire that is read is one of those that are
read_one : (P : ℕ → Type 0) (s : Source) (v : ℕ) → AllByRecursion P (source_reads s) → IsTrue (list_any (λ b. b == v) (source_reads s)) → P v
read_one P s v all h = found_of_all P (source_reads s) all v h

module _ (d : ℕ) (net : Wiring) (built : IsBuilt net) (rules : IsNetwork d net) (all_given : net.given ≡ length (random_bits net.ports)) where
  abbrev name : ℕ → List ℕ
  name w = name_at net.wires w

  abbrev source : ℕ → Source
  source w = source_at net.wires w

  abbrev bit : ℕ → ℕ
  bit k = get_or (random_bits net.ports) k 0

  in_net : (w : ℕ) → w < length net.wires → w < length (names net.wires)
  in_net w lt = subst (λ k. w < k) (sym (length-map net.wires (λ (x : Wire). x.name))) lt

  in_wires : (w : ℕ) → w < length (names net.wires) → w < length net.wires
  in_wires w lt = subst (λ k. w < k) (length-map net.wires (λ (x : Wire). x.name)) lt

  clock_name : name 0 ≡ codes "agm_clk"
  clock_name = get_or_from_slice_get (names net.wires) 0 (codes "agm_clk") [] (clock_found net built)

  -- ---- labels

  public_label : (w : ℕ) → w < length net.wires → IsPublic (name w) → HasLabel (net_of net) d w Public
  public_label w lt (inl public) = inl public
  public_label w lt (inr user) = inr (user, user_is_bit net built w lt user)

  is_public_name : (w : ℕ) → HasLabel (net_of net) d w Public → IsPublic (name w)
  is_public_name w (inl public) = inl public
  is_public_name w (inr (user, of)) = inr user

  may_serve : (i v : ℕ) → i ≤ d → Serves d net.wires i v → MayServe (net_of net) d i v
  may_serve i v le h = elim h.named [
    | inl public ↦ inl (public_label v h.within public)
    | inr (inl share) ↦ inr (None, (le, share))
    | inr (inr counts) ↦ inr (Some counts.0, (counts.1, counts.2, counts.3))
  ]

  -- ---- who reads a random bit

  -- a recipe whose source reads a random bit
  by_random : (r : Recipe) (s : Source) (w u : ℕ) → IsBy d net.wires r s → ReadsIt s u w → IsBitOf (codes "agm_r") (name w) → (r ≡ a_random_bit) × (s ≡ Equation (Same w))
  by_random the_clock s w u e (inr (held, same)) r = absurd (let no : Equation (Same 0) ≡ Held = sym e ∙ held in cc)
  by_random the_clock s w u e (inl h) r =
      let reads : IsTrue (list_any (λ b. b == w) (0 ∷ [])) = subst (λ t. IsTrue (list_any (λ b. b == w) (source_reads t))) e h in
      absurd (found_of_all (λ v. IsBitOf (codes "agm_r") (name v) → Prim.⊥) (0 ∷ []) ((λ named. no_random_clock (name 0) clock_name named), tt) w reads r)
  by_random (a_share i) s w u (v, e, served) (inr (held, same)) r = absurd (let no : Equation (Same v) ≡ Held = sym e ∙ held in cc)
  by_random (a_share i) s w u (v, e, served) (inl h) r =
      let reads : IsTrue (list_any (λ b. b == w) (v ∷ [])) = subst (λ t. IsTrue (list_any (λ b. b == w) (source_reads t))) e h in
      absurd (found_of_all (λ v. IsBitOf (codes "agm_r") (name v) → Prim.⊥) (v ∷ []) ((λ named. no_random d i (name v) served.named named), tt) w reads r)
  by_random a_random_bit s w u (v, e, named) (inr (held, same)) r = absurd (let no : Equation (Same v) ≡ Held = sym e ∙ held in cc)
  by_random a_random_bit s w u (v, e, named) (inl h) r =
      let reads : IsTrue (list_any (λ b. b == w) (v ∷ [])) = subst (λ t. IsTrue (list_any (λ b. b == w) (source_reads t))) e h in
      let same : v ≡ w = found_of_all (λ x. v ≡ x) (v ∷ []) (refl, tt) w reads in
      (refl, e ∙ ap (λ x. Equation (Same x)) same)
  by_random (inverse p) s w u (v, e, named) (inr (held, same)) r = absurd (let no : Equation (Not v) ≡ Held = sym e ∙ held in cc)
  by_random (inverse p) s w u (v, e, named) (inl h) r =
      let reads : IsTrue (list_any (λ b. b == w) (v ∷ [])) = subst (λ t. IsTrue (list_any (λ b. b == w) (source_reads t))) e h in
      absurd (found_of_all (λ v. IsBitOf (codes "agm_r") (name v) → Prim.⊥) (v ∷ []) ((λ of. no_random_part d p (name v) named.named of), tt) w reads r)
  by_random (product p q) s w u (x, y, e, first, second) (inr (held, same)) r = absurd (let no : Equation (And x y) ≡ Held = sym e ∙ held in cc)
  by_random (product p q) s w u (x, y, e, first, second) (inl h) r =
      let reads : IsTrue (list_any (λ b. b == w) (x ∷ y ∷ [])) = subst (λ t. IsTrue (list_any (λ b. b == w) (source_reads t))) e h in
      absurd (found_of_all (λ v. IsBitOf (codes "agm_r") (name v) → Prim.⊥) (x ∷ y ∷ []) ((λ of. no_random_part d p (name x) first.named of), ((λ of. no_random_part d q (name y) second.named of), tt)) w reads r)
  by_random (sum p q) s w u (x, y, e, first, second) (inr (held, same)) r = absurd (let no : Equation (Xor x y) ≡ Held = sym e ∙ held in cc)
  by_random (sum p q) s w u (x, y, e, first, second) (inl h) r =
      let reads : IsTrue (list_any (λ b. b == w) (x ∷ y ∷ [])) = subst (λ t. IsTrue (list_any (λ b. b == w) (source_reads t))) e h in
      absurd (found_of_all (λ v. IsBitOf (codes "agm_r") (name v) → Prim.⊥) (x ∷ y ∷ []) ((λ of. no_random_part d p (name x) first.named of), ((λ of. no_random_part d q (name y) second.named of), tt)) w reads r)
  by_random (stored p) s w u (v, c, e, next, clock) (inr (held, same)) r = absurd (let no : Register v c ≡ Held = sym e ∙ held in cc)
  by_random (stored p) s w u (v, c, e, next, clock) (inl h) r =
      let reads : IsTrue (list_any (λ b. b == w) (v ∷ [])) = subst (λ t. IsTrue (list_any (λ b. b == w) (source_reads t))) e h in
      absurd (found_of_all (λ v. IsBitOf (codes "agm_r") (name v) → Prim.⊥) (v ∷ []) ((λ of. no_random_part d p (name v) next.named of), tt) w reads r)

  -- an input reads nothing
  no_reads : (w v : ℕ) → source w ≡ Input → ReadsIt (source w) w v → Prim.⊥
  no_reads w v input (inl h) = let no : false ≡ true = subst (λ t. IsTrue (list_any (λ b. b == v) (source_reads t))) input h in absurd (cc)
  no_reads w v input (inr (held, same)) = let no : Input ≡ Held = sym input ∙ held in absurd (cc)

  -- a wire that reads a random bit is the part `r` of a pair
  pair_reads : (u w : ℕ) → Rule d net.wires (name u) (source u) → ReadsIt (source u) u w → IsBitOf (codes "agm_r") (name w) → IsPair d (name u) × (source u ≡ Equation (Same w))
  pair_reads u w (is_clock e input) reads r = absurd (no_reads u w input reads)
  pair_reads u w (is_random e input) reads r = absurd (no_reads u w input reads)
  pair_reads u w (is_public named all clocked) (inl h) r = absurd (no_random d 0 (name w) (inl (read_one (IsPublicWire net.wires) (source u) w all h).named) r)
  pair_reads u w (is_public named all clocked) (inr (held, same)) r = absurd (no_random d 0 (name u) (inl named) (subst (λ v. IsBitOf (codes "agm_r") (name v)) same r))
  pair_reads u w (is_share i le named all clocked) (inl h) r = absurd (no_random d i (name w) (read_one (Serves d net.wires i) (source u) w all h).named r)
  pair_reads u w (is_share i le named all clocked) (inr (held, same)) r = absurd (no_random d i (name u) (inr (inl named)) (subst (λ v. IsBitOf (codes "agm_r") (name v)) same r))
  pair_reads u w (is_part p named made) reads r =
      let found = by_random (recipe d p.gadget p.kind p.i p.j) (source u) w u made reads r in
      let kind : p.kind ≡ R = random_kind d p.gadget p.kind p.i p.j found.0 in
      ((p.gadget, p.i, p.j, subst (λ k. IsPartName d (part p.gadget k p.i p.j) (name u)) kind named), found.1)

  -- no register has a random bit for its clock
  clocks_apart : (r : Stored) → StoredTold net.wires r → IsBitOf (codes "agm_r") (name r.clock) → Prim.⊥
  clocks_apart r (inr (lt, held, next, zero_clock)) of = no_random_clock (name 0) clock_name (subst (λ v. IsBitOf (codes "agm_r") (name v)) zero_clock of)
  clocks_apart r (inl (lt, told)) of = by_rule (rules.ruled r.q lt)
    where
      by_zero : IsClocked (source r.q) → Prim.⊥
      by_zero clocked = let zero_clock : r.clock ≡ 0 = subst IsClocked told.1 clocked in no_random_clock (name 0) clock_name (subst (λ v. IsBitOf (codes "agm_r") (name v)) zero_clock of)

      by_part : (g : Recipe) → IsBy d net.wires g (source r.q) → Prim.⊥
      by_part the_clock e = let no : Equation (Same 0) ≡ Register told.0 r.clock = sym e ∙ told.1 in absurd (cc)
      by_part (a_share i) (v, e, h) = let no : Equation (Same v) ≡ Register told.0 r.clock = sym e ∙ told.1 in absurd (cc)
      by_part a_random_bit (v, e, h) = let no : Equation (Same v) ≡ Register told.0 r.clock = sym e ∙ told.1 in absurd (cc)
      by_part (inverse p) (v, e, h) = let no : Equation (Not v) ≡ Register told.0 r.clock = sym e ∙ told.1 in absurd (cc)
      by_part (product p q) (u, v, e, h, h') = let no : Equation (And u v) ≡ Register told.0 r.clock = sym e ∙ told.1 in absurd (cc)
      by_part (sum p q) (u, v, e, h, h') = let no : Equation (Xor u v) ≡ Register told.0 r.clock = sym e ∙ told.1 in absurd (cc)
      by_part (stored p) (v, c, e, next, clock) =
          let both : Register v c ≡ Register told.0 r.clock = sym e ∙ told.1 in
          let same : c ≡ r.clock = cc in
          no_random_part d (part p.gadget Clk 0 0) (name r.clock) (subst (λ x. IsPartName d (part p.gadget Clk 0 0) (name x)) same clock.named) of

      by_rule : Rule d net.wires (name r.q) (source r.q) → Prim.⊥
      by_rule (is_clock e input) = let no : Input ≡ Register told.0 r.clock = sym input ∙ told.1 in absurd (cc)
      by_rule (is_random e input) = let no : Input ≡ Register told.0 r.clock = sym input ∙ told.1 in absurd (cc)
      by_rule (is_public named all clocked) = by_zero clocked
      by_rule (is_share i le named all clocked) = by_zero clocked
      by_rule (is_part p named made) = by_part (recipe d p.gadget p.kind p.i p.j) made

  -- bit k is read by its reader, and by no other wire
  only_reader : (k w : ℕ) → k < net.given → bit k ≡ w → IsBitOf (codes "agm_r") (name w) → (u : ℕ) → IsTrue (is_reader (net_of net) u w) → u ≡ rules.reader k
  only_reader k w lt is of u h =
      let registers = stored_below net.wires (length net.wires) in
      elim (or_cases (reads_ever (driver (net_of net) u) w) (list_any (λ r. (r.q == u) && (r.clock == w)) registers) h) [
        | inl reads ↦ (
            let told = reads_told net built u w reads in
            let pair = pair_reads u w (rules.ruled u told.0) told.1 of in
            let found = rules.others u told.0 pair.0 in
            let both : Equation (Same (bit found.0)) ≡ Equation (Same w) = sym (rules.reads found.0 found.1) ∙ (ap (source_at net.wires) (sym found.2) ∙ pair.1) in
            let same : bit found.0 ≡ w = cc in
            let below = found.1 in
            let place = random_place net built found.0 k (omega (arith, below, all_given)) (omega (arith, lt, all_given)) (same ∙ sym is) in
            found.2 ∙ ap rules.reader place)
        | inr clocks ↦ (
            let found = place_of_any (λ (r : Stored). (r.q == u) && (r.clock == w)) registers clocks in
            let at : found.1.clock ≡ w = eqb-true found.1.clock w (and_parts (found.1.q == u) (found.1.clock == w) found.3).1 in
            absurd (clocks_apart found.1 (all_of_one (StoredTold net.wires) registers found.0 found.1 (all_told net.wires) found.2) (subst (λ v. IsBitOf (codes "agm_r") (name v)) (sym at) of)))
      ]

  random_label : (w : ℕ) → w < length net.wires → source w ≡ Input → IsBitOf (codes "agm_r") (name w) → (label : Label) × HasLabel (net_of net) d w label
  random_label w lt input of =
      let place = place_of (random_bits net.ports) w (random_is_found net built w lt input of).1 in
      let k = place.0 in
      let few = place.1 in
      let below : k < net.given = omega (arith, few, all_given) in
      let pair = rules.pairs k below in
      let driven = equation_driver net built (rules.reader k) (Same (bit k)) (rules.within k below) (rules.reads k below) in
      let reads : IsTrue (reads_ever (driver (net_of net) (rules.reader k)) w) =
      subst (λ x. IsTrue (reads_ever x w)) (sym driven) (eq-eqb (bit k) w place.2) in
      let registers = stored_below net.wires (length net.wires) in (
        Random pair.0 pair.1 pair.2,
        (
          of,
          (
            rules.reader k,
            pair.3,
            or_left (reads_ever (driver (net_of net) (rules.reader k)) w) (list_any (λ r. (r.q == rules.reader k) && (r.clock == w)) registers) reads,
            λ u h. only_reader k w below place.2 of u h,
          ),
        ),
      )

  -- ---- the rules of one wire

  labelled_by : (w : ℕ) → w < length net.wires → Rule d net.wires (name w) (source w) → (label : Label) × HasLabel (net_of net) d w label
  labelled_by w lt (is_clock e input) = (Clock, inl e)
  labelled_by w lt (is_random of input) = random_label w lt input of
  labelled_by w lt (is_public named all clocked) = (Public, public_label w lt named)
  labelled_by w lt (is_share i le named all clocked) = (Share i None, (le, named))
  labelled_by w lt (is_part p named made) = (part_label p.kind p, has_part_label (net_of net) d w p named)

  random_by : (w : ℕ) → w < length net.wires → IsBitOf (codes "agm_r") (name w) → Rule d net.wires (name w) (source w) → source w ≡ Input
  random_by w lt of (is_clock e input) = input
  random_by w lt of (is_random of' input) = input
  random_by w lt of (is_public named all clocked) = absurd (no_random d 0 (name w) (inl named) of)
  random_by w lt of (is_share i le named all clocked) = absurd (no_random d i (name w) (inr (inl named)) of)
  random_by w lt of (is_part p named made) = absurd (no_random_part d p (name w) named of)

  public_by : (w v : ℕ) → HasLabel (net_of net) d w Public → ReadsIt (source w) w v → Rule d net.wires (name w) (source w) → HasLabel (net_of net) d v Public
  public_by w v label (inr (held, same)) rule = subst (λ x. HasLabel (net_of net) d x Public) (sym same) label
  public_by w v label (inl h) (is_clock e input) = absurd (no_reads w v input (inl h))
  public_by w v label (inl h) (is_random of input) = absurd (no_reads w v input (inl h))
  public_by w v label (inl h) (is_public named all clocked) = let read = read_one (IsPublicWire net.wires) (source w) v all h in public_label v read.within read.named
  public_by w v label (inl h) (is_share i le named all clocked) = absurd (not_public 4 (name w) (λ e. omega (arith, e)) (is_public_name w label) (share_in i (name w) named))
  public_by w v label (inl h) (is_part p named made) = absurd (not_public 5 (name w) (λ e. omega (arith, e)) (is_public_name w label) (part_in d p (name w) named))

  share_by : (i w v : ℕ) → i ≤ d → IsShareName i (name w) → ReadsIt (source w) w v → Rule d net.wires (name w) (source w) → MayServe (net_of net) d i v
  share_by i w v le share (inr (held, same)) rule = subst (λ x. MayServe (net_of net) d i x) (sym same) (inr (None, (le, share)))
  share_by i w v le share (inl h) (is_clock e input) = absurd (no_reads w v input (inl h))
  share_by i w v le share (inl h) (is_random of input) = absurd (no_reads w v input (inl h))
  share_by i w v le share (inl h) (is_public named all clocked) = absurd (not_public 4 (name w) (λ e. omega (arith, e)) named (share_in i (name w) share))
  share_by i w v le share (inl h) (is_share i' le' named all clocked) =
      let same : i' ≡ i = one_share i' i (name w) named share in
      may_serve i v le (subst (λ k. Serves d net.wires k v) same (read_one (Serves d net.wires i') (source w) v all h))
  share_by i w v le share (inl h) (is_part p named made) = absurd (apart 5 4 (name w) (λ e. omega (arith, e)) (part_in d p (name w) named) (share_in i (name w) share))

  -- a part is made as its recipe says
  made_by : (r : Recipe) (w : ℕ) → w < length net.wires → ((k : ℕ) → r ≡ a_share k → k ≤ d) → IsBy d net.wires r (source w) → IsMade (net_of net) d w r
  made_by the_clock w lt le e = (0, equation_driver net built w (Same 0) lt e, clock_name)
  made_by (a_share k) w lt le (v, e, served) = (v, equation_driver net built w (Same v) lt e, may_serve k v (le k refl) served)
  made_by a_random_bit w lt le (v, e, of) = (v, equation_driver net built w (Same v) lt e, of.named)
  made_by (inverse p) w lt le (v, e, named) = (v, equation_driver net built w (Not v) lt e, named.named)
  made_by (product p q) w lt le (u, v, e, first, second) = (u, v, equation_driver net built w (And u v) lt e, first.named, second.named)
  made_by (sum p q) w lt le (u, v, e, first, second) = (u, v, equation_driver net built w (Xor u v) lt e, first.named, second.named)
  made_by (stored p) w lt le (v, c, e, next, clock) = let at = register_driver net built w v c lt e in (at.0, v, at.1, next.named)

  part_by : (w : ℕ) (p : Part) → w < length net.wires → IsPartName d p (name w) → Rule d net.wires (name w) (source w) → IsMade (net_of net) d w (recipe d p.gadget p.kind p.i p.j)
  part_by w p lt named (is_clock e input) = absurd (apart 5 1 (name w) (λ f. omega (arith, f)) (part_in d p (name w) named) (clock_in (name w) e))
  part_by w p lt named (is_random of input) = absurd (no_random_part d p (name w) named of)
  part_by w p lt named (is_public public all clocked) = absurd (not_public 5 (name w) (λ e. omega (arith, e)) public (part_in d p (name w) named))
  part_by w p lt named (is_share i le share all clocked) = absurd (apart 5 4 (name w) (λ e. omega (arith, e)) (part_in d p (name w) named) (share_in i (name w) share))
  part_by w p lt named (is_part q named' made) =
      let same : q ≡ p = one_part d (name w) q p named' named in
      let by : IsBy d net.wires (recipe d p.gadget p.kind p.i p.j) (source w) = subst (λ (x : Part). IsBy d net.wires (recipe d x.gadget x.kind x.i x.j) (source w)) same made in
      made_by (recipe d p.gadget p.kind p.i p.j) w lt (λ k e. share_kind d p.gadget p.kind p.i p.j k named.0 e) by

  -- a part is one of a gadget that was begun
  begun : (w g : ℕ) → w < length net.wires → IsOfGadget (net_of net) d w g → g < net.gadgets
  begun w g lt (p, of, named) =
      let few = named.1 in
      let below = name_place (IsBegun net.gadgets) (names net.wires) w built.begun (in_net w lt) p.gadget (part_text (d + 1) p.kind p.i p.j) (omega (arith, few)) named.4 in
      subst (λ k. k < net.gadgets) of below

  whole_by : (g : ℕ) → g < net.gadgets → IsWhole (net_of net) d g
  whole_by g lt kind i j numbers = let found = rules.whole g lt kind i j numbers in (found.0, in_net found.0 found.1.within, found.1.named)

  no_gap : (g : ℕ) → g < net.gadgets → IsPastGap (net_of net) d g → Prim.⊥
  no_gap g lt (m, below, first, none) =
      let has = whole_by m (omega (arith, lt, below)) Clk 0 0 (refl, refl) in
      none m (omega arith) below (has.0, has.1, (part m Clk 0 0, refl, has.2))

  clocked_by : (w : ℕ) (r : Stored) → w < length net.wires → StoredTold net.wires r → r.q ≡ w → Rule d net.wires (name w) (source w) → MayClock (net_of net) d w r.clock
  clocked_by w r lt (inr (within, held, next, zero_clock)) at rule = inl (ap name zero_clock ∙ clock_name)
  clocked_by w r lt (inl (within, told)) at rule = by_rule rule
    where
      is : source w ≡ Register told.0 r.clock
      is = ap source (sym at) ∙ told.1

      by_zero : IsClocked (source w) → MayClock (net_of net) d w r.clock
      by_zero clocked = let zero_clock : r.clock ≡ 0 = subst IsClocked is clocked in inl (ap name zero_clock ∙ clock_name)

      by_part : (p : Part) → IsPartName d p (name w) → (g : Recipe) → recipe d p.gadget p.kind p.i p.j ≡ g → IsBy d net.wires g (source w) → MayClock (net_of net) d w r.clock
      by_part p named the_clock f e = let no : Equation (Same 0) ≡ Register told.0 r.clock = sym e ∙ is in absurd (cc)
      by_part p named (a_share i) f (v, e, h) = let no : Equation (Same v) ≡ Register told.0 r.clock = sym e ∙ is in absurd (cc)
      by_part p named a_random_bit f (v, e, h) = let no : Equation (Same v) ≡ Register told.0 r.clock = sym e ∙ is in absurd (cc)
      by_part p named (inverse q) f (v, e, h) = let no : Equation (Not v) ≡ Register told.0 r.clock = sym e ∙ is in absurd (cc)
      by_part p named (product q q') f (u, v, e, h, h') = let no : Equation (And u v) ≡ Register told.0 r.clock = sym e ∙ is in absurd (cc)
      by_part p named (sum q q') f (u, v, e, h, h') = let no : Equation (Xor u v) ≡ Register told.0 r.clock = sym e ∙ is in absurd (cc)
      by_part p named (stored q) f (v, c, e, next, clock) =
          let both : Register v c ≡ Register told.0 r.clock = sym e ∙ is in
          let same : c ≡ r.clock = cc in
          let gadget : q.gadget ≡ p.gadget = stored_gadget d p.gadget p.kind p.i p.j q f in
          inr (
            (0, in_net 0 (omega (arith, lt)), clock_name),
            p.gadget,
            (p, refl, named),
            subst (λ g. IsPartName d (part g Clk 0 0) (name r.clock)) gadget (subst (λ x. IsPartName d (part q.gadget Clk 0 0) (name x)) same clock.named),
          )

      by_rule : Rule d net.wires (name w) (source w) → MayClock (net_of net) d w r.clock
      by_rule (is_clock e input) = let no : Input ≡ Register told.0 r.clock = sym input ∙ is in absurd (cc)
      by_rule (is_random e input) = let no : Input ≡ Register told.0 r.clock = sym input ∙ is in absurd (cc)
      by_rule (is_public named all clocked) = by_zero clocked
      by_rule (is_share i le named all clocked) = by_zero clocked
      by_rule (is_part p named made) = by_part p named (recipe d p.gadget p.kind p.i p.j) refl made

  keeps : (w : ℕ) → w < length net.wires → Keeps (net_of net) d w
  keeps w lt =
      let rule = rules.ruled w lt in
      record {
        labelled = labelled_by w lt rule;
        is_clock = λ e. subst (λ v. driver (net_of net) v ≡ d_clock) (sym (clock_is_zero net built w lt e)) (clock_driver net built);
        is_random = λ of. (random_is_found net built w lt (random_by w lt of rule) of).0;
        public_reads = λ label v h. public_by w v label (reads_told net built w v h).1 rule;
        share_reads = λ i label v h. share_by i w v label.0 label.1 (reads_told net built w v h).1 rule;
        made = λ p named. part_by w p lt named rule;
        whole = λ g of. whole_by g (begun w g lt of);
        numbered = λ g of gap. no_gap g (begun w g lt of) gap;
        clocked = λ r n at is. clocked_by w r lt (all_of_one (StoredTold net.wires) (stored_below net.wires (length net.wires)) n r (all_told net.wires) at) is rule;
      }

  -- its gadgets are those that were begun
  pub has_gadgets : HasGadgets (net_of net) d net.gadgets
  has_gadgets g = (
    λ has. begun has.0 g (in_wires has.0 has.1) has.2,
    λ lt. (let clock = whole_by g lt Clk 0 0 (refl, refl) in (clock.0, clock.1, (part g Clk 0 0, refl, clock.2))),
  )

  pub networked : Hpc2 (net_of net) d
  networked = record { no_loop = no_loop net built; keeps = λ w lt. keeps w (in_wires w lt) }
