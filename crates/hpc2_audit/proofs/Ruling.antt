-- The rules of single wires, by what the tables say.
use Rattle.std.proofs.Common.{◌≡◌, ◌<◌, ◌≤◌, ◌⊎◌, ◌++◌, ◌∷◌, ◌↔◌, ℕ, zero, suc, Bool, true, false, not, List, [], Option, Some, None, length, get_or, slice_get, codes, IsTrue, refl, sym, ap, ap₂, subst, inl, inr, ◌∙◌, arith, eq-eqb}
use Rattle.std.specs.Prelude.{◌==◌, ◌&&◌, ◌||◌}
use Rattle.std.specs.List.{list_any}
use Rattle.std.specs.Fmt.{decimal}
use Rattle.std.proofs.lemmas.Bool.{cases_Bool, cases_lt, eqb-true, and_parts, and_from}
use Rattle.agm_net.specs.Formula.{Formula, f_wire, f_not, f_and, f_xor, stands}
use Rattle.agm_net.specs.Label.{part, IsBitOf, IsPart, HasNumbers, MayServe, is_clock_kind, name_of}
use Rattle.agm_net.specs.Network.{HasGadget, HasWire, IsMade, IsOfGadget, IsPastGap, IsWhole, MayClock, random_bits_of, recipe}
use Rattle.agm_net.specs.Plain.{PlainNet, Stored, clock_bits}
use Rattle.agm_net.specs.Run.{d_clock, d_equation, d_register, HasDriver, driver, reads_ever}
use Rattle.agm_net.specs.WellFormed.{WellFormed}
use Rattle.agm_net.specs.declared.label.Part.{Part}
use Rattle.agm_net.specs.declared.label.PartKind.{PartKind}
use Rattle.agm_net.specs.declared.label.PartKind.TheVariants.{Clk, A, B, R, Rr, Bb, Vx, V, Na, Ux, U, Wx, W, Mx, M, S, C}
use Rattle.agm_net.proofs.Driving.{is_driven, is_driver, reads_are_wires}
use Rattle.hpc2_audit.proofs.Drives.{line_is, form_line, kept_is, form_kept}
use Rattle.hpc2_audit.proofs.Placing.{there_tells}
use Rattle.hpc2_audit.proofs.Reading.{or_left, or_right, or_parts}
use Rattle.hpc2_audit.proofs.Saying.{is_said, said_is, said_within, serves_public, serves_share, stands_to, stands_from}
use Rattle.hpc2_audit.specs.Places.{IsPlace}
use Rattle.hpc2_audit.specs.Recipes.{recipe_of, form_of, FormIs}
use Rattle.hpc2_audit.specs.Rules.{KeepsClock, KeepsMade, KeepsNumber, KeepsPorts, KeepsReads, KeepsWhole}
use Rattle.hpc2_audit.specs.Standing.{AreSaid, IsDriven, said_at, serves, all_stand, asked, part_said, says_clock, says_random, is_own_clock, is_there}
use Rattle.hpc2_audit.specs.declared.drivers.Driven.{Driven}
use Rattle.hpc2_audit.specs.declared.forms.Form.{Form}
use Rattle.hpc2_audit.specs.declared.forms.Form.TheVariants.{Other, Copied, Inverted, Both, Differ, Kept}
use Rattle.hpc2_audit.specs.declared.places.Place.{Place}
use Rattle.hpc2_audit.specs.declared.recipes.Making.{Making}
use Rattle.hpc2_audit.specs.declared.recipes.Making.TheVariants.{OfTheClock, OfAShare, OfARandomBit, OfInverse, OfProduct, OfSum, OfStored}
use Rattle.hpc2_audit.specs.declared.spelled.Spelled.{Spelled}
use Rattle.hpc2_audit.specs.declared.spelled.Spelled.TheVariants.{OfUser, OfClock, OfPublic, OfRandom, OfShare, OfPart, OfNothing}

clock_said : (s : Spelled) → IsTrue (says_clock s) → s ≡ OfClock
clock_said OfUser h = absurd (let wrong : false ≡ true = h in cc)
clock_said OfClock h = refl
clock_said OfPublic h = absurd (let wrong : false ≡ true = h in cc)
clock_said OfRandom h = absurd (let wrong : false ≡ true = h in cc)
clock_said (OfShare i) h = absurd (let wrong : false ≡ true = h in cc)
clock_said (OfPart p) h = absurd (let wrong : false ≡ true = h in cc)
clock_said OfNothing h = absurd (let wrong : false ≡ true = h in cc)

random_said : (s : Spelled) → IsTrue (says_random s) → s ≡ OfRandom
random_said OfUser h = absurd (let wrong : false ≡ true = h in cc)
random_said OfClock h = absurd (let wrong : false ≡ true = h in cc)
random_said OfPublic h = absurd (let wrong : false ≡ true = h in cc)
random_said OfRandom h = refl
random_said (OfShare i) h = absurd (let wrong : false ≡ true = h in cc)
random_said (OfPart p) h = absurd (let wrong : false ≡ true = h in cc)
random_said OfNothing h = absurd (let wrong : false ≡ true = h in cc)

pub said_part : (s : Spelled) (q : Part) → part_said s ≡ Some q → s ≡ OfPart q
said_part OfUser q e = absurd (let wrong : None ≡ Some q = e in cc)
said_part OfClock q e = absurd (let wrong : None ≡ Some q = e in cc)
said_part OfPublic q e = absurd (let wrong : None ≡ Some q = e in cc)
said_part OfRandom q e = absurd (let wrong : None ≡ Some q = e in cc)
said_part (OfShare i) q e = absurd (let wrong : None ≡ Some q = e in cc)
said_part (OfPart p) q e = (let same : p ≡ q = cc in ap (λ r. OfPart r) same)
said_part OfNothing q e = absurd (let wrong : None ≡ Some q = e in cc)

own_parts : (o r : Option Part) → IsTrue (is_own_clock o r) → (p q : Part) × (o ≡ Some p) × (r ≡ Some q) × IsTrue (is_clock_kind q.kind) × (q.gadget ≡ p.gadget)
own_parts None r h = absurd (let wrong : false ≡ true = h in cc)
own_parts (Some p) None h = absurd (let wrong : false ≡ true = h in cc)
own_parts (Some p) (Some q) h = let parts = and_parts (is_clock_kind q.kind) (q.gadget == p.gadget) h in (p, q, refl, refl, parts.0, eqb-true q.gadget p.gadget parts.1)

same_part : (q : Part) (g : ℕ) (k : PartKind) (i j : ℕ) → q.gadget ≡ g → q.kind ≡ k → q.i ≡ i → q.j ≡ j → q ≡ part g k i j
same_part q g k i j e f h l = same (q.gadget) g q.kind k q.i i q.j j e f h l
  where
    same : (a g : ℕ) (b k : PartKind) (x i y j : ℕ) → a ≡ g → b ≡ k → x ≡ i → y ≡ j → part a b x y ≡ part g k i j
    same a g b k x i y j e f h l = cc

clock_kind : (k : PartKind) → IsTrue (is_clock_kind k) → k ≡ Clk
clock_kind Clk h = refl
clock_kind A h = absurd (let wrong : false ≡ true = h in cc)
clock_kind B h = absurd (let wrong : false ≡ true = h in cc)
clock_kind R h = absurd (let wrong : false ≡ true = h in cc)
clock_kind Rr h = absurd (let wrong : false ≡ true = h in cc)
clock_kind Bb h = absurd (let wrong : false ≡ true = h in cc)
clock_kind Vx h = absurd (let wrong : false ≡ true = h in cc)
clock_kind V h = absurd (let wrong : false ≡ true = h in cc)
clock_kind Na h = absurd (let wrong : false ≡ true = h in cc)
clock_kind Ux h = absurd (let wrong : false ≡ true = h in cc)
clock_kind U h = absurd (let wrong : false ≡ true = h in cc)
clock_kind Wx h = absurd (let wrong : false ≡ true = h in cc)
clock_kind W h = absurd (let wrong : false ≡ true = h in cc)
clock_kind Mx h = absurd (let wrong : false ≡ true = h in cc)
clock_kind M h = absurd (let wrong : false ≡ true = h in cc)
clock_kind S h = absurd (let wrong : false ≡ true = h in cc)
clock_kind C h = absurd (let wrong : false ≡ true = h in cc)

-- a wire with a name is one
past_end : (xs : List (List ℕ)) (n : ℕ) → length xs ≤ n → get_or xs n [] ≡ []
past_end [] zero le = refl
past_end [] (suc n) le = refl
past_end (x ∷ xs) zero le = absurd (omega arith)
past_end (x ∷ xs) (suc n) le = past_end xs n (omega arith)

pub named_within : (net : PlainNet) (w c : ℕ) (rest : List ℕ) → name_of net w ≡ c ∷ rest → w < length net.wires
named_within net w c rest e =
    elim (cases_lt w (length net.wires)) [ inl lt ↦ lt | inr ge ↦ absurd (let wrong : [] ≡ c ∷ rest = sym (past_end net.wires w ge) ∙ e in cc) ]

module _ (net : PlainNet) (d : ℕ) (said : List Spelled) (well : WellFormed net) (all : AreSaid net d said) (w : ℕ) (lt : w < length net.wires) where
  -- reading
  pub reads_tell : (f : Formula) (index : Option ℕ) (b : Bool) → ((v : ℕ) → reads_ever (driver net w) v ≡ stands v f) → b ≡ all_stand (λ v. serves index (said_at said v)) f
      → IsTrue b ↔ ((v : ℕ) → IsTrue (reads_ever (driver net w) v) → IsTrue (serves index (said_at said v)))
  reads_tell f index b same is = (
    λ h v read. stands_to (λ v. serves index (said_at said v)) f (sym is ∙ h) v (sym (same v) ∙ read),
    λ h. is ∙ stands_from (λ v. serves index (said_at said v)) f (λ v s. h v (same v ∙ s)),
  )

  pub reads_none : (index : Option ℕ) → ((v : ℕ) → reads_ever (driver net w) v ≡ false) → IsTrue true ↔ ((v : ℕ) → IsTrue (reads_ever (driver net w) v) → IsTrue (serves index (said_at said v)))
  reads_none index none = (λ h v read. absurd (let wrong : false ≡ true = sym (none v) ∙ read in cc), λ h. refl)

  within : (v : ℕ) → IsTrue (reads_ever (driver net w) v) → v < length net.wires
  within v read = reads_are_wires net well w v lt read

  abbrev Serve : Option ℕ → Type 0
  Serve index = (v : ℕ) → IsTrue (reads_ever (driver net w) v) → IsTrue (serves index (said_at said v))

  public_asked : said_at said w ≡ OfPublic → (b : Bool) → (IsTrue b ↔ Serve None) → IsTrue b ↔ KeepsReads net d w
  public_asked e b h = (
    λ yes. (
      λ has v read. (serves_public net d said all v (within v read)).0 (h.0 yes v read),
      λ i has. absurd (let wrong : OfPublic ≡ OfShare i = sym e ∙ is_said net d said all w (OfShare i) lt has in cc),
    ),
    λ keeps. h.1 (λ v read. (serves_public net d said all v (within v read)).1 (keeps.0 (said_is net d said all w OfPublic lt e) v read)),
  )

  share_asked : (i : ℕ) → said_at said w ≡ OfShare i → (b : Bool) → (IsTrue b ↔ Serve (Some i)) → IsTrue b ↔ KeepsReads net d w
  share_asked i e b h = (
    λ yes. (
      λ has. absurd (let wrong : OfShare i ≡ OfPublic = sym e ∙ is_said net d said all w OfPublic lt has in cc),
      λ j has v read. (
          let both : OfShare i ≡ OfShare j = sym e ∙ is_said net d said all w (OfShare j) lt has in
          let same : i ≡ j = cc in
          subst (λ k. MayServe net d k v) same ((serves_share net d said all i v (within v read)).0 (h.0 yes v read))),
    ),
    λ keeps. h.1 (λ v read. (serves_share net d said all i v (within v read)).1 (keeps.1 i (said_is net d said all w (OfShare i) lt e) v read)),
  )

  asked_by : (s : Spelled) → said_at said w ≡ s → (index : Option ℕ) → asked s ≡ Some index → (b : Bool) → (IsTrue b ↔ Serve index) → IsTrue b ↔ KeepsReads net d w
  asked_by OfUser e index is b h = absurd (let wrong : None ≡ Some index = is in cc)
  asked_by OfClock e index is b h = absurd (let wrong : None ≡ Some index = is in cc)
  asked_by OfPublic e index is b h = public_asked e b (subst (λ o. IsTrue b ↔ Serve o) (let same : None ≡ index = cc in sym same) h)
  asked_by OfRandom e index is b h = absurd (let wrong : None ≡ Some index = is in cc)
  asked_by (OfShare i) e index is b h = share_asked i e b (subst (λ o. IsTrue b ↔ Serve o) (let same : Some i ≡ index = cc in sym same) h)
  asked_by (OfPart p) e index is b h = absurd (let wrong : None ≡ Some index = is in cc)
  asked_by OfNothing e index is b h = absurd (let wrong : None ≡ Some index = is in cc)

  pub asked_some : (index : Option ℕ) → asked (said_at said w) ≡ Some index → (b : Bool) → (IsTrue b ↔ Serve index) → IsTrue b ↔ KeepsReads net d w
  asked_some = asked_by (said_at said w) refl

  pub asked_none : asked (said_at said w) ≡ None → IsTrue true ↔ KeepsReads net d w
  asked_none e = (
    λ yes. (
      λ has. absurd (let wrong : None ≡ Some None = sym e ∙ ap asked (is_said net d said all w OfPublic lt has) in cc),
      λ i has. absurd (let wrong : None ≡ Some (Some i) = sym e ∙ ap asked (is_said net d said all w (OfShare i) lt has) in cc),
    ),
    λ keeps. refl,
  )

  -- making
  line_reads : (f : Formula) (v : ℕ) → driver net w ≡ d_equation f → IsTrue (stands v f) → v < length net.wires
  line_reads f v e s = within v (subst (λ x. IsTrue (reads_ever x v)) (sym e) s)

  part_is : (v : ℕ) (p : Part) → said_at said v ≡ OfPart p → IsPart net d v p
  part_is v p h = said_is net d said all v (OfPart p) (said_within net d said all v (OfPart p) (λ no. cc) h) h

  part_said_at : (v : ℕ) (p : Part) → v < length net.wires → IsPart net d v p → said_at said v ≡ OfPart p
  part_said_at v p lt' h = is_said net d said all v (OfPart p) lt' h

  module _ (drv : Driven) (is : IsDriven net w drv) where
    made_to : (m : Making) (f : Form) → form_of drv ≡ f → FormIs said f m → IsMade net d w (recipe_of m)
    made_to OfTheClock Other e h = absurd h
    made_to OfTheClock (Copied v) e h = let lt' = said_within net d said all v OfClock (λ no. cc) h in (v, line_is net w drv (Copied v) (f_wire v) e refl is, said_is net d said all v OfClock lt' h)
    made_to OfTheClock (Inverted v) e h = absurd h
    made_to OfTheClock (Both u v) e h = absurd h
    made_to OfTheClock (Differ u v) e h = absurd h
    made_to OfTheClock (Kept v) e h = absurd h
    made_to (OfAShare i) Other e h = absurd h
    made_to (OfAShare i) (Copied v) e h = let line = line_is net w drv (Copied v) (f_wire v) e refl is in let lt' = line_reads (f_wire v) v line (eq-eqb v v refl) in (v, line, (serves_share net d said all i v lt').0 h)
    made_to (OfAShare i) (Inverted v) e h = absurd h
    made_to (OfAShare i) (Both u v) e h = absurd h
    made_to (OfAShare i) (Differ u v) e h = absurd h
    made_to (OfAShare i) (Kept v) e h = absurd h
    made_to OfARandomBit Other e h = absurd h
    made_to OfARandomBit (Copied v) e h = let lt' = said_within net d said all v OfRandom (λ no. cc) h in (v, line_is net w drv (Copied v) (f_wire v) e refl is, said_is net d said all v OfRandom lt' h)
    made_to OfARandomBit (Inverted v) e h = absurd h
    made_to OfARandomBit (Both u v) e h = absurd h
    made_to OfARandomBit (Differ u v) e h = absurd h
    made_to OfARandomBit (Kept v) e h = absurd h
    made_to (OfInverse p) Other e h = absurd h
    made_to (OfInverse p) (Copied v) e h = absurd h
    made_to (OfInverse p) (Inverted v) e h = (v, line_is net w drv (Inverted v) (f_not (f_wire v)) e refl is, part_is v p h)
    made_to (OfInverse p) (Both u v) e h = absurd h
    made_to (OfInverse p) (Differ u v) e h = absurd h
    made_to (OfInverse p) (Kept v) e h = absurd h
    made_to (OfProduct p q) Other e h = absurd h
    made_to (OfProduct p q) (Copied v) e h = absurd h
    made_to (OfProduct p q) (Inverted v) e h = absurd h
    made_to (OfProduct p q) (Both u v) e h = (u, v, line_is net w drv (Both u v) (f_and (f_wire u) (f_wire v)) e refl is, part_is u p h.0, part_is v q h.1)
    made_to (OfProduct p q) (Differ u v) e h = absurd h
    made_to (OfProduct p q) (Kept v) e h = absurd h
    made_to (OfSum p q) Other e h = absurd h
    made_to (OfSum p q) (Copied v) e h = absurd h
    made_to (OfSum p q) (Inverted v) e h = absurd h
    made_to (OfSum p q) (Both u v) e h = absurd h
    made_to (OfSum p q) (Differ u v) e h = (u, v, line_is net w drv (Differ u v) (f_xor (f_wire u) (f_wire v)) e refl is, part_is u p h.0, part_is v q h.1)
    made_to (OfSum p q) (Kept v) e h = absurd h
    made_to (OfStored p) Other e h = absurd h
    made_to (OfStored p) (Copied v) e h = absurd h
    made_to (OfStored p) (Inverted v) e h = absurd h
    made_to (OfStored p) (Both u v) e h = absurd h
    made_to (OfStored p) (Differ u v) e h = absurd h
    made_to (OfStored p) (Kept v) e h = let own = kept_is net w drv v e is in (own.0, v, own.1, part_is v p h)

    made_from : (m : Making) → IsMade net d w (recipe_of m) → FormIs said (form_of drv) m
    made_from OfTheClock (v, e, named) =
        subst (λ f. FormIs said f OfTheClock) (sym (form_line net w drv (f_wire v) e is)) (is_said net d said all v OfClock (line_reads (f_wire v) v e (eq-eqb v v refl)) named)
    made_from (OfAShare i) (v, e, may) =
        subst (λ f. FormIs said f (OfAShare i)) (sym (form_line net w drv (f_wire v) e is)) ((serves_share net d said all i v (line_reads (f_wire v) v e (eq-eqb v v refl))).1 may)
    made_from OfARandomBit (v, e, named) =
        subst (λ f. FormIs said f OfARandomBit) (sym (form_line net w drv (f_wire v) e is)) (is_said net d said all v OfRandom (line_reads (f_wire v) v e (eq-eqb v v refl)) named)
    made_from (OfInverse p) (v, e, named) =
        subst (λ f. FormIs said f (OfInverse p)) (sym (form_line net w drv (f_not (f_wire v)) e is)) (part_said_at v p (line_reads (f_not (f_wire v)) v e (eq-eqb v v refl)) named)
    made_from (OfProduct p q) (u, v, e, first, second) =
        let f = f_and (f_wire u) (f_wire v) in
        subst (λ x. FormIs said x (OfProduct p q)) (sym (form_line net w drv f e is))
        (part_said_at u p (line_reads f u e (or_left (u == u) (v == u) (eq-eqb u u refl))) first, part_said_at v q (line_reads f v e (or_right (u == v) (v == v) (eq-eqb v v refl))) second)
    made_from (OfSum p q) (u, v, e, first, second) =
        let f = f_xor (f_wire u) (f_wire v) in
        subst (λ x. FormIs said x (OfSum p q)) (sym (form_line net w drv f e is))
        (part_said_at u p (line_reads f u e (or_left (u == u) (v == u) (eq-eqb u u refl))) first, part_said_at v q (line_reads f v e (or_right (u == v) (v == v) (eq-eqb v v refl))) second)
    made_from (OfStored p) (n, v, e, named) =
        subst (λ f. FormIs said f (OfStored p)) (sym (form_kept net w drv n v e is)) (part_said_at v p (within v (subst (λ x. IsTrue (reads_ever x v)) (sym e) (eq-eqb v v refl))) named)

    pub made_tells : (m : Making) (b : Bool) → (IsTrue b ↔ FormIs said (form_of drv) m) → IsTrue b ↔ IsMade net d w (recipe_of m)
    made_tells m b tells = (λ yes. made_to m (form_of drv) refl (tells.0 yes), λ made. tells.1 (made_from m made))

  pub made_some : (p : Part) (b : Bool) → part_said (said_at said w) ≡ Some p → (IsTrue b ↔ IsMade net d w (recipe d p.gadget p.kind p.i p.j)) → IsTrue b ↔ KeepsMade net d w
  made_some p b e h = (
    λ yes q named. (
        let both : Some p ≡ Some q = sym e ∙ ap part_said (part_said_at w q lt named) in
        let same : p ≡ q = cc in
        subst (λ r. IsMade net d w (recipe d r.gadget r.kind r.i r.j)) same (h.0 yes)),
    λ keeps. h.1 (keeps p (part_is w p (said_part (said_at said w) p e))),
  )

  -- ports
  clock_has : driver net w ≡ d_clock → IsTrue (list_any (λ b. b == w) (clock_bits net))
  clock_has e = subst (λ x. HasDriver net x w) e (is_driven net well w lt)

  clock_rule : (place : Place) → IsPlace (clock_bits net) w place → IsTrue (not (says_clock (said_at said w)) || is_there place) ↔ (name_of net w ≡ codes "agm_clk" → driver net w ≡ d_clock)
  clock_rule place at =
      let s = said_at said w in
      elim (cases_Bool (says_clock s)) [
        | inl so ↦ (
            let named = said_is net d said all w OfClock lt (clock_said s so) in
            let same : (not (says_clock s) || is_there place) ≡ is_there place = ap (λ b. not b || is_there place) so in (
              λ h name. is_driver net well d_clock w ((there_tells (clock_bits net) w place at).0 (sym same ∙ h)),
              λ h. same ∙ (there_tells (clock_bits net) w place at).1 (clock_has (h named)),
            ))
        | inr other ↦ (
          λ h name. absurd (let wrong : false ≡ true = sym other ∙ ap says_clock (is_said net d said all w OfClock lt name) in cc),
          λ h. ap (λ b. not b || is_there place) other,
        )
      ]

  random_rule : (place : Place) → IsPlace (random_bits_of net) w place
      → IsTrue (not (says_random (said_at said w)) || is_there place) ↔ (IsBitOf (codes "agm_r") (name_of net w) → IsTrue (list_any (λ b. b == w) (random_bits_of net)))
  random_rule place at =
      let s = said_at said w in
      elim (cases_Bool (says_random s)) [
        | inl so ↦ (
            let named = said_is net d said all w OfRandom lt (random_said s so) in
            let same : (not (says_random s) || is_there place) ≡ is_there place = ap (λ b. not b || is_there place) so in (
              λ h name. (there_tells (random_bits_of net) w place at).0 (sym same ∙ h),
              λ h. same ∙ (there_tells (random_bits_of net) w place at).1 (h named),
            ))
        | inr other ↦ (
          λ h name. absurd (let wrong : false ≡ true = sym other ∙ ap says_random (is_said net d said all w OfRandom lt name) in cc),
          λ h. ap (λ b. not b || is_there place) other,
        )
      ]

  pub ports_tell : (clock random : Place) (b : Bool) → IsPlace (clock_bits net) w clock → IsPlace (random_bits_of net) w random
      → b ≡ ((not (says_clock (said_at said w)) || is_there clock) && (not (says_random (said_at said w)) || is_there random)) → IsTrue b ↔ KeepsPorts net d w
  ports_tell clock random b at at' is =
      let first = not (says_clock (said_at said w)) || is_there clock in
      let second = not (says_random (said_at said w)) || is_there random in
      let p = clock_rule clock at in
      let q = random_rule random at' in (
        λ h. (let parts = and_parts first second (sym is ∙ h) in (p.0 parts.0, q.0 parts.1)),
        λ h. is ∙ and_from first second (p.1 h.0) (q.1 h.1),
      )

  -- clocks
  pub clock_tells : (c : ℕ) (there b : Bool) → (IsTrue there ↔ HasWire net (codes "agm_clk")) → b ≡ (says_clock (said_at said c) || (there && is_own_clock (part_said (said_at said w)) (part_said (said_at said c))))
      → IsTrue b ↔ MayClock net d w c
  clock_tells c there b wire is = (λ h. clock_to (or_parts (says_clock (said_at said c)) (there && is_own_clock (part_said (said_at said w)) (part_said (said_at said c))) (sym is ∙ h)), λ h. is ∙ clock_from h)
    where
      own : IsTrue (is_own_clock (part_said (said_at said w)) (part_said (said_at said c))) → IsTrue there → MayClock net d w c
      own h has =
          let (p, q, e, f, kind, gadget) = own_parts (part_said (said_at said w)) (part_said (said_at said c)) h in
          let first = part_is w p (said_part (said_at said w) p e) in
          let second = part_is c q (said_part (said_at said c) q f) in
          let clk = clock_kind q.kind kind in
          let none = subst (λ k. HasNumbers d k q.i q.j) clk second.0 in
          let same = same_part q p.gadget Clk 0 0 gadget clk none.0 none.1 in
          inr (wire.0 has, p.gadget, (p, refl, first), subst (IsPart net d c) same second)

      clock_to : IsTrue (says_clock (said_at said c)) ⊎ IsTrue (there && is_own_clock (part_said (said_at said w)) (part_said (said_at said c))) → MayClock net d w c
      clock_to (inl h) = let e = clock_said (said_at said c) h in inl (said_is net d said all c OfClock (said_within net d said all c OfClock (λ no. cc) e) e)
      clock_to (inr h) = let parts = and_parts there (is_own_clock (part_said (said_at said w)) (part_said (said_at said c))) h in own parts.1 parts.0

      clock_from : MayClock net d w c → IsTrue (says_clock (said_at said c) || (there && is_own_clock (part_said (said_at said w)) (part_said (said_at said c))))
      clock_from (inl name) =
          let lt' = named_within net c 97 (codes "gm_clk") name in
          or_left (says_clock (said_at said c)) (there && is_own_clock (part_said (said_at said w)) (part_said (said_at said c))) (ap says_clock (is_said net d said all c OfClock lt' name))
      clock_from (inr (has, g, (p, same, named), clk)) =
          let lt' = named_within net c 97 (codes "gm_g" ++ (decimal g ++ 46 ∷ codes "clk")) clk.4 in
          let first : part_said (said_at said w) ≡ Some p = ap part_said (part_said_at w p lt named) in
          let second : part_said (said_at said c) ≡ Some (part g Clk 0 0) = ap part_said (part_said_at c (part g Clk 0 0) lt' clk) in
          let here : is_own_clock (part_said (said_at said w)) (part_said (said_at said c)) ≡ (g == p.gadget) = ap₂ is_own_clock first second in
          or_right (says_clock (said_at said c)) (there && is_own_clock (part_said (said_at said w)) (part_said (said_at said c)))
          (and_from there (is_own_clock (part_said (said_at said w)) (part_said (said_at said c))) (wire.1 has) (here ∙ eq-eqb g p.gadget (sym same)))

  -- gadgets
  own_gadget : (p : Part) → part_said (said_at said w) ≡ Some p → (g : ℕ) → IsOfGadget net d w g → p.gadget ≡ g
  own_gadget p e g (q, same, named) =
      let both : Some p ≡ Some q = sym e ∙ ap part_said (part_said_at w q lt named) in
      let parts : p ≡ q = cc in
      ap (λ (r : Part). r.gadget) parts ∙ same

  pub whole_some : (p : Part) (b : Bool) → part_said (said_at said w) ≡ Some p → (IsTrue b ↔ IsWhole net d p.gadget) → IsTrue b ↔ KeepsWhole net d w
  whole_some p b e h =
      let here = part_is w p (said_part (said_at said w) p e) in (
        λ yes g is. subst (IsWhole net d) (own_gadget p e g is) (h.0 yes),
        λ keeps. h.1 (keeps p.gadget (p, refl, here)),
      )

  no_gadget : part_said (said_at said w) ≡ None → (g : ℕ) → IsOfGadget net d w g → Prim.⊥
  no_gadget e g (q, same, named) = let wrong : None ≡ Some q = sym e ∙ ap part_said (part_said_at w q lt named) in cc

  pub whole_none : part_said (said_at said w) ≡ None → IsTrue true ↔ KeepsWhole net d w
  whole_none e = (λ yes g is. absurd (no_gadget e g is), λ keeps. refl)

  pub made_none : part_said (said_at said w) ≡ None → IsTrue true ↔ KeepsMade net d w
  made_none e = (λ yes q named. absurd (let wrong : None ≡ Some q = sym e ∙ ap part_said (part_said_at w q lt named) in cc), λ keeps. refl)

  pub number_some : (p : Part) (b : Bool) (behind : Option ℕ) → part_said (said_at said w) ≡ Some p → (IsTrue b ↔ (behind ≡ Some p.gadget)) → ((g : ℕ) → HasGadget net d g → IsPastGap net d g ↔ (behind ≡ Some g))
      → IsTrue (not b) ↔ KeepsNumber net d w
  number_some p b behind e tells lowest =
      let here = part_is w p (said_part (said_at said w) p e) in
      let has : HasGadget net d p.gadget = (w, lt, (p, refl, here)) in (
        λ h g is past. (
            let same = own_gadget p e g is in
            not_both b h (tells.1 ((lowest p.gadget has).0 (subst (IsPastGap net d) (sym same) past)))),
        λ keeps. not_from b (λ h. keeps p.gadget (p, refl, here) ((lowest p.gadget has).1 (tells.0 h))),
      )
    where
      not_both : (b : Bool) → IsTrue (not b) → IsTrue b → Prim.⊥
      not_both true h k = let wrong : false ≡ true = h in cc
      not_both false h k = let wrong : false ≡ true = k in cc

      not_from : (b : Bool) → (IsTrue b → Prim.⊥) → IsTrue (not b)
      not_from true h = absurd (h refl)
      not_from false h = refl

  pub number_none : part_said (said_at said w) ≡ None → IsTrue true ↔ KeepsNumber net d w
  number_none e = (λ yes g is. absurd (no_gadget e g is), λ keeps. refl)

  -- registers
  pub no_register : ((n : ℕ) (f : Formula) → driver net w ≡ d_register n f → Prim.⊥) → IsTrue true ↔ KeepsClock net d w
  no_register none = (λ yes r n at q. absurd (none n r.next (is_driver net well (d_register n r.next) w (r, at, q, refl))), λ keeps. refl)

  pub one_register : (n : ℕ) (r : Stored) → slice_get net.registers n ≡ Some r → r.q ≡ w → (b : Bool) → (IsTrue b ↔ MayClock net d w r.clock) → IsTrue b ↔ KeepsClock net d w
  one_register n r at q b tells = (
    λ yes s m there own. (
        let first = is_driver net well (d_register n r.next) w (r, at, q, refl) in
        let second = is_driver net well (d_register m s.next) w (s, there, own, refl) in
        let both : d_register n r.next ≡ d_register m s.next = sym first ∙ second in
        let place : n ≡ m = cc in
        let items : Some r ≡ Some s = sym at ∙ (ap (slice_get net.registers) place ∙ there) in
        let same : r ≡ s = cc in
        subst (λ (x : Stored). MayClock net d w x.clock) same (tells.0 yes)),
    λ keeps. tells.1 (keeps r n at q),
  )
