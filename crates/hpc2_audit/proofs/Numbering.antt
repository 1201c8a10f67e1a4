-- Gadgets: how they are numbered, and whether they are whole.
use Rattle.std.proofs.Common.{◌≡◌, ◌≢◌, ◌<◌, ◌≤◌, ◌+◌, ◌*◌, ◌^◌, ◌++◌, ◌∷◌, ◌↔◌, ℕ, zero, suc, Bool, true, false, cond, min, List, [], Option, Some, None, length, get_or, slice_get, take, IsTrue, refl, sym, ap, subst, inl, inr, ◌∙◌, arith, eq-eqb, true≢false}
use Rattle.std.specs.Prelude.{◌==◌, ◌||◌, nat_eq, nat_le, is_some, position}
use Rattle.std.specs.List.{list_any}
use Rattle.std.specs.Str.{bytes_eq}
use Rattle.std.proofs.lemmas.Bool.{cases_Bool, cases_lt, eqb-true, eqb-false, leb-true, le-leb, false_from_ne_true}
use Rattle.std.proofs.lemmas.Option.{slice_get-get_or, get_or_from_slice_get}
use Rattle.std.proofs.lemmas.List.{take_more}
use Rattle.indexmap.specs.IndexSet.{insert_key}
use Rattle.agm_net.specs.Label.{part, part_name, gadget_name, pairs_before, pair_number, HasNumbers}
use Rattle.agm_net.specs.Network.{HasGadget, HasPart, IsPastGap, IsWhole}
use Rattle.agm_net.specs.Plain.{PlainNet}
use Rattle.agm_net.specs.declared.label.Part.{Part}
use Rattle.agm_net.specs.declared.label.PartKind.{PartKind}
use Rattle.agm_net.specs.declared.label.PartKind.TheVariants.{Clk, A, B, R, Rr, Bb, Vx, V, Na, Ux, U, Wx, W, Mx, M, S, C}
use Rattle.agm_net.proofs.Lists.{any_at, place_of_any}
use Rattle.agm_net.proofs.OnePart.{word}
use Rattle.hpc2_audit.proofs.Finding.{any_more, names_tell, or_known}
use Rattle.hpc2_audit.proofs.Reading.{or_left, or_right, or_parts}
use Rattle.hpc2_audit.proofs.Ruling.{said_part}
use Rattle.hpc2_audit.proofs.Saying.{is_said, said_is, said_within}
use Rattle.hpc2_audit.specs.Gadgets.{AreGadgets, AreWhole, first_number, HasKind, HasKinds, is_of, IsFirstMissing, IsLowestAbove, IsNumbering, lower}
use Rattle.hpc2_audit.specs.Kinds.{shape, shaped}
use Rattle.hpc2_audit.specs.Parts.{HasIndices}
use Rattle.hpc2_audit.specs.Sheet.{AreNamesOf}
use Rattle.hpc2_audit.specs.Standing.{AreSaid, part_said, said_at}
use Rattle.hpc2_audit.specs.declared.spelled.Spelled.{Spelled}
use Rattle.hpc2_audit.specs.declared.spelled.Spelled.TheVariants.{OfUser, OfClock, OfPublic, OfRandom, OfShare, OfPart, OfNothing}

-- whether a name is that of a part of gadget g
of_part : (g : ℕ) (s : Spelled) → IsTrue (is_of g s) → (p : Part) × (s ≡ OfPart p) × (p.gadget ≡ g)
of_part g OfUser h = absurd (let wrong : false ≡ true = h in cc)
of_part g OfClock h = absurd (let wrong : false ≡ true = h in cc)
of_part g OfPublic h = absurd (let wrong : false ≡ true = h in cc)
of_part g OfRandom h = absurd (let wrong : false ≡ true = h in cc)
of_part g (OfShare i) h = absurd (let wrong : false ≡ true = h in cc)
of_part g (OfPart p) h = (p, refl, eqb-true p.gadget g h)
of_part g OfNothing h = absurd (let wrong : false ≡ true = h in cc)

module _ (net : PlainNet) (d : ℕ) (said : List Spelled) (all : AreSaid net d said) where
  gadget_to : (g : ℕ) → IsTrue (list_any (is_of g) said) → HasGadget net d g
  gadget_to g some =
      let found = place_of_any (is_of g) said some in
      let own = of_part g found.1 found.3 in
      let at : said_at said found.0 ≡ OfPart own.0 = get_or_from_slice_get said found.0 found.1 OfUser found.2 ∙ own.1 in
      let lt = said_within net d said all found.0 (OfPart own.0) (λ no. cc) at in
      (found.0, lt, (own.0, own.2, said_is net d said all found.0 (OfPart own.0) lt at))

  gadget_from : (g : ℕ) → HasGadget net d g → IsTrue (list_any (is_of g) said)
  gadget_from g (w, lt, (p, same, named)) =
      let at = is_said net d said all w (OfPart p) lt named in
      let long = all.as_many in
      let within : w < length said = omega arith in
      any_at (is_of g) said w (get_or said w OfUser) (slice_get-get_or said w OfUser within) (ap (is_of g) at ∙ eq-eqb p.gadget g same)

  small : (g : ℕ) → HasGadget net d g → g < 2 ^ 32
  small g (w, lt, (p, same, named)) = subst (λ n. n < 2 ^ 32) same named.1

  module _ (gadgets : List ℕ) (m : ℕ) (behind : Option ℕ) (are : AreGadgets said gadgets) (first : IsFirstMissing gadgets m) (low : IsLowestAbove said m behind) where
    before : (g : ℕ) → g < m → HasGadget net d g
    before g lt = gadget_to g (sym (are g) ∙ first.before g lt)

    none : HasGadget net d m → Prim.⊥
    none has = true≢false (sym (gadget_from m has) ∙ (sym (are m) ∙ first.none (small m has)))

    no_gap : (b : Option ℕ) → IsLowestAbove said m b → b ≡ None → (g : ℕ) → m < g → HasGadget net d g → Prim.⊥
    no_gap None low e g lt has = true≢false (sym (gadget_from g has) ∙ low g lt)
    no_gap (Some n) low e g lt has = let wrong : Some n ≡ None = e in cc

    behind_gap : (b : Option ℕ) → IsLowestAbove said m b → (g : ℕ) → b ≡ Some g → HasGadget net d g
    behind_gap None low g e = absurd (let wrong : None ≡ Some g = e in cc)
    behind_gap (Some n) low g e = let same : n ≡ g = cc in subst (HasGadget net d) same (gadget_to n low.1)

    past_to : (b : Option ℕ) → IsLowestAbove said m b → (g : ℕ) → HasGadget net d g → IsPastGap net d g → b ≡ Some g
    past_to b low g has (k, lt, below, above) =
        let same : k ≡ m = one_gap in
        let lt' : m < g = omega arith in
        go b low lt' (λ n le less. above n (omega arith) less)
      where
        one_gap : k ≡ m
        one_gap =
            elim (cases_lt k m) [
              | inl less ↦ absurd (above k (omega arith) lt (before k less))
              | inr ge ↦ elim (cases_lt m k) [ inl more ↦ absurd (none (below m more)) | inr le ↦ omega arith ]
            ]

        go : (b : Option ℕ) → IsLowestAbove said m b → m < g → ((n : ℕ) → m ≤ n → n < g → HasGadget net d n → Prim.⊥) → b ≡ Some g
        go None low lt' empty = absurd (true≢false (sym (gadget_from g has) ∙ low g lt'))
        go (Some n) low lt' empty =
            let over = low.0 in
            elim (cases_lt n g) [
              | inl less ↦ absurd (empty n (omega arith) less (gadget_to n low.1))
              | inr ge ↦ elim (cases_lt g n) [
                | inl more ↦ absurd (true≢false (sym (gadget_from g has) ∙ low.2 g lt' more))
                | inr le ↦ (let same : n ≡ g = omega arith in ap (λ k. Some k) same)
              ]
            ]

    past_from : (b : Option ℕ) → IsLowestAbove said m b → (g : ℕ) → b ≡ Some g → IsPastGap net d g
    past_from None low g e = absurd (let wrong : None ≡ Some g = e in cc)
    past_from (Some n) low g e =
        let same : n ≡ g = cc in
        let over = low.0 in (
          m,
          omega arith,
          before,
          λ k le less has. elim (cases_lt m k) [
            | inl more ↦ true≢false (sym (gadget_from k has) ∙ low.2 k more (omega arith))
            | inr ge ↦ (let here : k ≡ m = omega arith in none (subst (HasGadget net d) here has))
          ],
        )

    pub numbering_is : IsNumbering net d m behind
    numbering_is = record {
      before = before;
      none = none;
      no_gap = no_gap behind low;
      behind_gap = behind_gap behind low;
      lowest = λ g has. (past_to behind low g has, past_from behind low g);
    }

-- the lowest gadget above a number, one name more
none_more : (g : ℕ) (xs : List Spelled) (s : Spelled) → list_any (is_of g) xs ≡ false → is_of g s ≡ false → list_any (is_of g) (xs ++ s ∷ []) ≡ false
none_more g xs s e f = any_more (is_of g) xs s ∙ (ap (λ b. b || is_of g s) e ∙ f)

-- few pairs
before_small : (n i : ℕ) → n ≤ 16 → pairs_before n i ≤ i * 16
before_small n zero few = omega arith
before_small n (suc i) few = let rest = before_small n i few in omega arith

pair_small : (d i j : ℕ) → d < 16 → i < j → j ≤ d → pair_number (d + 1) i j < 2 ^ 32
pair_small d i j few lt le = let rest = before_small (d + 1) i (omega arith) in omega arith

-- parts by their names
pub numbers_from : (d : ℕ) (k : PartKind) (i j : ℕ) → d < 16 → HasIndices d k i j → HasNumbers d k i j
numbers_from d Clk i j few h = h
numbers_from d A i j few h = h
numbers_from d B i j few h = h
numbers_from d R i j few h = (h.0, h.1, pair_small d i j few h.0 h.1)
numbers_from d Rr i j few h = h
numbers_from d Bb i j few h = h
numbers_from d Vx i j few h = h
numbers_from d V i j few h = h
numbers_from d Na i j few h = h
numbers_from d Ux i j few h = h
numbers_from d U i j few h = h
numbers_from d Wx i j few h = h
numbers_from d W i j few h = h
numbers_from d Mx i j few h = h
numbers_from d M i j few h = h
numbers_from d S i j few h = h
numbers_from d C i j few h = h

pub indices_from : (d : ℕ) (k : PartKind) (i j : ℕ) → HasNumbers d k i j → HasIndices d k i j
indices_from d Clk i j h = h
indices_from d A i j h = h
indices_from d B i j h = h
indices_from d R i j h = (h.0, h.1)
indices_from d Rr i j h = h
indices_from d Bb i j h = h
indices_from d Vx i j h = h
indices_from d V i j h = h
indices_from d Na i j h = h
indices_from d Ux i j h = h
indices_from d U i j h = h
indices_from d Wx i j h = h
indices_from d W i j h = h
indices_from d Mx i j h = h
indices_from d M i j h = h
indices_from d S i j h = h
indices_from d C i j h = h

pub indices_small : (d : ℕ) (k : PartKind) (i j : ℕ) → d < 16 → HasIndices d k i j → (i ≤ d) × (j ≤ 2 * d)
indices_small d Clk i j few h = let p = h.0 in let q = h.1 in (omega arith, omega arith)
indices_small d A i j few h = let p = h.0 in let q = h.1 in (omega arith, omega arith)
indices_small d B i j few h = let p = h.0 in let q = h.1 in (omega arith, omega arith)
indices_small d R i j few h = let p = h.0 in let q = h.1 in (omega arith, omega arith)
indices_small d Rr i j few h = let p = h.0 in let q = h.1 in (omega arith, omega arith)
indices_small d Bb i j few h = let p = h.0 in let q = h.1 in (omega arith, omega arith)
indices_small d Vx i j few h = let p = h.0 in let q = h.1 in let r = h.2 in (omega arith, omega arith)
indices_small d V i j few h = let p = h.0 in let q = h.1 in let r = h.2 in (omega arith, omega arith)
indices_small d Na i j few h = let p = h.0 in let q = h.1 in (omega arith, omega arith)
indices_small d Ux i j few h = let p = h.0 in let q = h.1 in let r = h.2 in (omega arith, omega arith)
indices_small d U i j few h = let p = h.0 in let q = h.1 in let r = h.2 in (omega arith, omega arith)
indices_small d Wx i j few h = let p = h.0 in let q = h.1 in let r = h.2 in (omega arith, omega arith)
indices_small d W i j few h = let p = h.0 in let q = h.1 in let r = h.2 in (omega arith, omega arith)
indices_small d Mx i j few h = let p = h.0 in let q = h.1 in (omega arith, omega arith)
indices_small d M i j few h = let p = h.0 in let q = h.1 in (omega arith, omega arith)
indices_small d S i j few h = let p = h.0 in let q = h.1 in let r = h.2 in (omega arith, omega arith)
indices_small d C i j few h = let p = h.0 in let q = h.1 in (omega arith, omega arith)

part_words : (d g : ℕ) (k : PartKind) (i j : ℕ) → gadget_name g (word k ++ shaped (shape k) (first_number d k i j) j) ≡ part_name (d + 1) g k i j
part_words d g Clk i j = refl
part_words d g A i j = refl
part_words d g B i j = refl
part_words d g R i j = refl
part_words d g Rr i j = refl
part_words d g Bb i j = refl
part_words d g Vx i j = refl
part_words d g V i j = refl
part_words d g Na i j = refl
part_words d g Ux i j = refl
part_words d g U i j = refl
part_words d g Wx i j = refl
part_words d g W i j = refl
part_words d g Mx i j = refl
part_words d g M i j = refl
part_words d g S i j = refl
part_words d g C i j = refl

-- a part is there exactly where its name is
pub part_tells : (net : PlainNet) (d g : ℕ) (k : PartKind) (i j : ℕ) (name : List ℕ) (names : List (List ℕ)) → d < 16 → g < 2 ^ 32 → HasIndices d k i j
    → name ≡ gadget_name g (word k ++ shaped (shape k) (first_number d k i j) j) → AreNamesOf net.wires names → (found : Option ℕ) → found ≡ position (λ n. bytes_eq n name) names
    → IsTrue (is_some found) ↔ HasPart net d (part g k i j)
part_tells net d g k i j name names few gadget has is are found at =
    let tells = names_tell net.wires names name are in
    let range = indices_small d k i j few has in
    let low = range.0 in
    let high = range.1 in
    let full : name ≡ part_name (d + 1) g k i j = is ∙ part_words d g k i j in (
      λ h. (let w = tells.0 (subst (λ o. IsTrue (is_some o)) at h) in (w.0, w.1, (numbers_from d k i j few has, gadget, omega arith, omega arith, w.2 ∙ full))),
      λ h. subst (λ o. IsTrue (is_some o)) (sym at) (tells.1 (h.0, h.1, h.2.4 ∙ sym full)),
    )

-- all kinds
pub kinds_to : (net : PlainNet) (d g : ℕ) (kinds : List PartKind) → ((k : PartKind) → (n : ℕ) × (slice_get kinds n ≡ Some k)) → HasKinds net d g kinds → IsWhole net d g
kinds_to net d g kinds every has = λ k i j numbers. (let at = every k in all_at kinds at.0 k at.1 has i j (indices_from d k i j numbers))
  where
    all_at : (ks : List PartKind) (n : ℕ) (k : PartKind) → slice_get ks n ≡ Some k → HasKinds net d g ks → HasKind net d g k
    all_at [] n k at h = absurd (cc)
    all_at (x ∷ xs) zero k at h = let same : x ≡ k = cc in subst (HasKind net d g) same h.0
    all_at (x ∷ xs) (suc n) k at h = all_at xs n k at h.1

pub kinds_from : (net : PlainNet) (d g : ℕ) (kinds : List PartKind) → d < 16 → IsWhole net d g → HasKinds net d g kinds
kinds_from net d g [] few whole = tt
kinds_from net d g (k ∷ ks) few whole = (λ i j has. whole k i j (numbers_from d k i j few has), kinds_from net d g ks few whole)

-- a set with one number more
or_nothing : (b : Bool) → (b || false) ≡ b
or_nothing true = refl
or_nothing false = refl

eq_turned : (a b : ℕ) → nat_eq a b ≡ (b == a)
eq_turned a b =
    elim (cases_Bool (nat_eq a b)) [
      | inl so ↦ so ∙ sym (eq-eqb b a (sym (eqb-true a b so)))
      | inr other ↦ other ∙ sym (false_from_ne_true (b == a) (λ yes. eqb-false a b other (sym (eqb-true b a yes))))
    ]

inserted : (g : ℕ) (keys : List ℕ) (v : ℕ) → list_any (nat_eq g) (insert_key nat_eq keys v) ≡ (list_any (nat_eq g) keys || nat_eq g v)
inserted g keys v =
    elim (cases_Bool (list_any (nat_eq v) keys)) [
      | inl there ↦ (
          let kept : insert_key nat_eq keys v ≡ keys = ap (λ b. cond b keys (keys ++ v ∷ [])) there in
          ap (λ ks. list_any (nat_eq g) ks) kept ∙ or_known (list_any (nat_eq g) keys) (nat_eq g v) (λ same. subst (λ n. IsTrue (list_any (nat_eq n) keys)) (sym (eqb-true g v same)) there))
      | inr new ↦ (
          let grown : insert_key nat_eq keys v ≡ keys ++ v ∷ [] = ap (λ b. cond b keys (keys ++ v ∷ [])) new in
          ap (λ ks. list_any (nat_eq g) ks) grown ∙ any_more (nat_eq g) keys v)
    ]

not_below : (g m : ℕ) → nat_le g m ≡ false → m < g
not_below g m not_le = elim (cases_lt m g) [ inl lt ↦ lt | inr ge ↦ absurd (true≢false (sym (le-leb g m ge) ∙ not_le)) ]

-- the lowest gadget above a number, with one name more
eq_other : (a b : ℕ) → a ≢ b → (a == b) ≡ false
eq_other a b ne = false_from_ne_true (a == b) (λ yes. ne (eqb-true a b yes))

abbrev joined : List Spelled → Spelled → List Spelled
joined xs s = xs ++ s ∷ []

some_left : (g : ℕ) (xs : List Spelled) (s : Spelled) → IsTrue (list_any (is_of g) xs) → IsTrue (list_any (is_of g) (joined xs s))
some_left g xs s h = any_more (is_of g) xs s ∙ or_left (list_any (is_of g) xs) (is_of g s) h

some_right : (g : ℕ) (xs : List Spelled) (s : Spelled) → IsTrue (is_of g s) → IsTrue (list_any (is_of g) (joined xs s))
some_right g xs s h = any_more (is_of g) xs s ∙ or_right (list_any (is_of g) xs) (is_of g s) h

low_step : (xs : List Spelled) (p : Part) (m : ℕ) (b : Option ℕ) → IsLowestAbove xs m b → IsLowestAbove (joined xs (OfPart p)) m (lower b m p.gadget)
low_step xs p m None low =
    let g = p.gadget in
    let s = OfPart p in
    elim (cases_Bool (nat_le g m)) [
      | inl so ↦ (
          let le : g ≤ m = leb-true g m so in
          subst (IsLowestAbove (joined xs s) m) (sym (ap (λ c. cond c None (Some g)) so)) (λ k lt. none_more k xs s (low k lt) (eq_other g k (λ e. absurd (omega arith)))))
      | inr other ↦ (
          let lt : m < g = not_below g m other in
          subst (IsLowestAbove (joined xs s) m) (sym (ap (λ c. cond c None (Some g)) other))
          (lt, some_right g xs s (eq-eqb g g refl), λ k above less. none_more k xs s (low k above) (eq_other g k (λ e. absurd (omega arith)))))
    ]
low_step xs p m (Some n) low =
    let g = p.gadget in
    let s = OfPart p in
    let over = low.0 in
    elim (cases_Bool (nat_le g m)) [
      | inl so ↦ (
          let le : g ≤ m = leb-true g m so in
          subst (IsLowestAbove (joined xs s) m) (sym (ap (λ c. cond c (Some n) (Some (min n g))) so))
          (over, some_left n xs s low.1, λ k above less. none_more k xs s (low.2 k above less) (eq_other g k (λ e. absurd (omega arith)))))
      | inr other ↦ (
          let lt : m < g = not_below g m other in
          let least : IsTrue (list_any (is_of (min n g)) (joined xs s)) =
          elim (cases_lt n g) [
            | inl less ↦ (let same : n ≡ min n g = omega arith in subst (λ k. IsTrue (list_any (is_of k) (joined xs s))) same (some_left n xs s low.1))
            | inr ge ↦ (let same : g ≡ min n g = omega arith in subst (λ k. IsTrue (list_any (is_of k) (joined xs s))) same (some_right g xs s (eq-eqb g g refl)))
          ] in
          subst (IsLowestAbove (joined xs s) m) (sym (ap (λ c. cond c (Some n) (Some (min n g))) other))
          (omega arith, least, λ k above less. none_more k xs s (low.2 k above (omega arith)) (eq_other g k (λ e. absurd (omega arith)))))
    ]

no_part : (g : ℕ) (s : Spelled) → part_said s ≡ None → is_of g s ≡ false
no_part g OfUser e = refl
no_part g OfClock e = refl
no_part g OfPublic e = refl
no_part g OfRandom e = refl
no_part g (OfShare i) e = refl
no_part g (OfPart p) e = absurd (let wrong : Some p ≡ None = e in cc)
no_part g OfNothing e = refl

low_kept : (xs : List Spelled) (s : Spelled) (m : ℕ) (b : Option ℕ) → part_said s ≡ None → IsLowestAbove xs m b → IsLowestAbove (joined xs s) m b
low_kept xs s m None e low = λ g lt. none_more g xs s (low g lt) (no_part g s e)
low_kept xs s m (Some n) e low = (low.0, some_left n xs s low.1, λ g above less. none_more g xs s (low.2 g above less) (no_part g s e))

module _ (said : List Spelled) (i : ℕ) (s : Spelled) (lt : i < length said) (is : s ≡ get_or said i OfUser) where
  one_more : take (i + 1) said ≡ joined (take i said) s
  one_more = take_more said i OfUser lt ∙ ap (λ x. joined (take i said) x) (sym is)

  pub low_more : (p : Part) (m : ℕ) (b : Option ℕ) → part_said s ≡ Some p → IsLowestAbove (take i said) m b → IsLowestAbove (take (i + 1) said) m (lower b m p.gadget)
  low_more p m b e low =
      subst (λ xs. IsLowestAbove xs m (lower b m p.gadget)) (sym (one_more ∙ ap (λ x. joined (take i said) x) (said_part s p e))) (low_step (take i said) p m b low)

  pub low_same : (m : ℕ) (b : Option ℕ) → part_said s ≡ None → IsLowestAbove (take i said) m b → IsLowestAbove (take (i + 1) said) m b
  low_same m b e low = subst (λ xs. IsLowestAbove xs m b) (sym one_more) (low_kept (take i said) s m b e low)

  -- the set of gadgets with one name more
  pub gadgets_more : (p : Part) (keys : List ℕ) → part_said s ≡ Some p → AreGadgets (take i said) keys → AreGadgets (take (i + 1) said) (insert_key nat_eq keys p.gadget)
  gadgets_more p keys e are = λ g.
      inserted g keys p.gadget
      ∙ (ap (λ b. b || nat_eq g p.gadget) (are g)
      ∙ (ap (λ b. list_any (is_of g) (take i said) || b) (eq_turned g p.gadget)
      ∙ (sym (any_more (is_of g) (take i said) (OfPart p)) ∙ ap (λ xs. list_any (is_of g) xs) (sym (one_more ∙ ap (λ x. joined (take i said) x) (said_part s p e))))))

  pub gadgets_same : (keys : List ℕ) → part_said s ≡ None → AreGadgets (take i said) keys → AreGadgets (take (i + 1) said) keys
  gadgets_same keys e are = λ g.
      are g ∙ (sym (ap (λ b. list_any (is_of g) (take i said) || b) (no_part g s e) ∙ or_nothing (list_any (is_of g) (take i said)))
      ∙ (sym (any_more (is_of g) (take i said) s) ∙ ap (λ xs. list_any (is_of g) xs) (sym one_more)))

-- a number more that is known to be whole
pub whole_more : (net : PlainNet) (d g : ℕ) (keys : List ℕ) → AreWhole net d keys → IsWhole net d g → AreWhole net d (insert_key nat_eq keys g)
whole_more net d g keys known whole = λ n h.
    elim (or_parts (list_any (nat_eq n) keys) (nat_eq n g) (sym (inserted n keys g) ∙ h)) [
      | inl old ↦ known n old
      | inr own ↦ subst (IsWhole net d) (sym (eqb-true n g own)) whole
    ]
