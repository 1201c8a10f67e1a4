-- What the names of wires say of them in a net.
use Rattle.std.proofs.Common.{◌≡◌, ◌≢◌, ◌<◌, ◌≤◌, ◌⊎◌, ◌∷◌, ℕ, zero, suc, Bool, true, false, List, [], Some, None, length, get_or, slice_get, codes, IsTrue, refl, sym, ap, subst, inl, inr, ◌∙◌, arith, eq-eqb}
use Rattle.std.specs.Prelude.{◌==◌, ◌&&◌, ◌||◌}
use Rattle.std.specs.List.{flat_map}
use Rattle.std.proofs.lemmas.Bool.{cases_lt, eqb-true, and_parts, and_from}
use Rattle.agm_net.specs.Formula.{Formula, f_zero, f_one, f_wire, f_not, f_and, f_or, f_xor, f_mux, stands}
use Rattle.agm_net.specs.Label.{IsPart, IsShareName, IsUserName, HasLabel, MayServe, is_share_kind, name_of}
use Rattle.agm_net.specs.Plain.{PlainNet}
use Rattle.agm_net.specs.declared.label.Label.TheVariants.{Public, Share}
use Rattle.agm_net.specs.declared.label.Part.{Part}
use Rattle.agm_net.proofs.Lists.{any_at, place_of_any}
use Rattle.agm_net.proofs.OneLabel.{IsIn, one_family, no_user, public_in, random_in, form_in, share_form, part_in, one_share}
use Rattle.agm_net.proofs.OnePart.{one_part}
use Rattle.hpc2_audit.proofs.Reading.{or_left, or_right, or_parts}
use Rattle.hpc2_audit.specs.Places.{IsPlace}
use Rattle.hpc2_audit.specs.Sheet.{settled}
use Rattle.hpc2_audit.specs.Spelled.{Spells}
use Rattle.hpc2_audit.specs.Standing.{AreSaid, IsUnsaid, Says, said_at, serves, all_stand}
use Rattle.hpc2_audit.specs.declared.places.Place.{Place}
use Rattle.hpc2_audit.specs.declared.places.Place.TheVariants.{Nowhere, At}
use Rattle.hpc2_audit.specs.declared.spelled.Spelled.{Spelled}
use Rattle.hpc2_audit.specs.declared.spelled.Spelled.TheVariants.{OfUser, OfClock, OfPublic, OfRandom, OfShare, OfPart, OfNothing}

clock_in : (name : List ℕ) → name ≡ codes "agm_clk" → IsIn 1 name
clock_in name e = (codes "clk", e, refl)

share_in : (i : ℕ) (name : List ℕ) → IsShareName i name → IsIn 4 name
share_in i name h = form_in i name (share_form i name h)

module _ (net : PlainNet) (d w : ℕ) where
  abbrev own : List ℕ
  own = name_of net w

  -- what a family of names says
  abbrev Told : ℕ → Spelled → Type 0
  Told zero a = Prim.⊥
  Told (suc zero) a = a ≡ OfClock
  Told (suc (suc zero)) a = a ≡ OfPublic
  Told (suc (suc (suc zero))) a = a ≡ OfRandom
  Told (suc (suc (suc (suc zero)))) a = (i : ℕ) × IsShareName i own × (a ≡ OfShare i)
  Told (suc (suc (suc (suc (suc k))))) a = (p : Part) × IsPart net d w p × (a ≡ OfPart p)

  agree : (k : ℕ) (a b : Spelled) → Told k a → Told k b → a ≡ b
  agree zero a b p q = absurd p
  agree (suc zero) a b p q = p ∙ sym q
  agree (suc (suc zero)) a b p q = p ∙ sym q
  agree (suc (suc (suc zero))) a b p q = p ∙ sym q
  agree (suc (suc (suc (suc zero)))) a b (i, named, p) (j, named', q) = p ∙ (ap (λ k. OfShare k) (one_share i j own named named') ∙ sym q)
  agree (suc (suc (suc (suc (suc k))))) a b (x, named, p) (y, named', q) = p ∙ (ap (λ z. OfPart z) (one_part d own x y named named') ∙ sym q)

  abbrev Seen : Spelled → Type 0
  Seen a = (a ≡ OfNothing) ⊎ ((IsUserName own × (a ≡ OfPublic)) ⊎ ((k : ℕ) × IsIn k own × Told k a))

  seen : (a : Spelled) → Says net d w a → Seen a
  seen OfUser h = absurd h
  seen OfClock h = inr (inr (1, clock_in own h, refl))
  seen OfPublic (inl named) = inr (inr (2, public_in own named, refl))
  seen OfPublic (inr (user, bit)) = inr (inl (user, refl))
  seen OfRandom h = inr (inr (3, random_in own h, refl))
  seen (OfShare i) h = inr (inr (4, share_in i own h.1, (i, h.1, refl)))
  seen (OfPart p) h = inr (inr (5, part_in d p own h, (p, h, refl)))
  seen OfNothing h = inl refl

  nothing_else : (a : Spelled) → IsUnsaid net d w → Says net d w a → a ≡ OfNothing
  nothing_else OfUser none h = absurd h
  nothing_else OfClock none h = absurd (none.no_clock h)
  nothing_else OfPublic none h = absurd (none.no_public h)
  nothing_else OfRandom none h = absurd (none.no_random h)
  nothing_else (OfShare i) none h = absurd (none.no_share i h)
  nothing_else (OfPart p) none h = absurd (none.no_part p h)
  nothing_else OfNothing none h = refl

  -- a name says one thing of its wire
  pub said_one : (a b : Spelled) → Says net d w a → Says net d w b → a ≡ b
  said_one a b p q = go (seen a p) (seen b q)
    where
      go : Seen a → Seen b → a ≡ b
      go (inl e) y = e ∙ sym (nothing_else b (subst (Says net d w) e p) q)
      go (inr x) (inl f) = nothing_else a (subst (Says net d w) f q) p ∙ sym f
      go (inr (inl (user, e))) (inr (inl (user', f))) = e ∙ sym f
      go (inr (inl (user, e))) (inr (inr (k, is, told))) = absurd (no_user k own user is)
      go (inr (inr (k, is, told))) (inr (inl (user, f))) = absurd (no_user k own user is)
      go (inr (inr (k, is, told))) (inr (inr (l, is', told'))) = agree k a b told (subst (λ m. Told m b) (sym (one_family k l own is is')) told')

  abbrev Bits : List ℕ
  Bits = flat_map (λ p. p.bits) net.ports

  unsaid : IsUserName own → ((k : ℕ) → slice_get Bits k ≢ Some w) → IsUnsaid net d w
  unsaid user nowhere = record {
    no_clock = λ e. no_user 1 own user (clock_in own e);
    no_public = λ h. elim h [
      | inl named ↦ no_user 2 own user (public_in own named)
      | inr b ↦ (let found = place_of_any (λ b. b == w) Bits b.1 in nowhere found.0 (found.2 ∙ ap (λ v. Some v) (eqb-true found.1 w found.3)))
    ];
    no_random = λ h. no_user 3 own user (random_in own h);
    no_share = λ i h. no_user 4 own user (share_in i own h.1);
    no_part = λ p h. no_user 5 own user (part_in d p own h);
  }

  -- what a name says, once it is known whether its wire is a bit of a port
  pub says_settled : (s : Spelled) (place : Place) → Spells d own s → IsPlace Bits w place → Says net d w (settled s place)
  says_settled OfUser (At k) h at = inr (h, any_at (λ b. b == w) Bits k w at (eq-eqb w w refl))
  says_settled OfUser Nowhere h nowhere = unsaid h nowhere
  says_settled OfClock place h at = h
  says_settled OfPublic place h at = inl h
  says_settled OfRandom place h at = h
  says_settled (OfShare i) place h at = h
  says_settled (OfPart p) place h at = h
  says_settled OfNothing place h at = record {
    no_clock = h.0.no_clock;
    no_public = λ label. elim label [ inl named ↦ h.0.no_public named | inr b ↦ h.0.no_user b.0 ];
    no_random = h.0.no_random;
    no_share = λ i named. h.0.no_share i named.0 named.1;
    no_part = h.1;
  }

module _ (net : PlainNet) (d : ℕ) (said : List Spelled) (all : AreSaid net d said) where
  -- the table has what a name says
  pub is_said : (w : ℕ) (s : Spelled) → w < length net.wires → Says net d w s → said_at said w ≡ s
  is_said w s lt h = said_one net d w (said_at said w) s (all.told w lt) h

  pub said_is : (w : ℕ) (s : Spelled) → w < length net.wires → said_at said w ≡ s → Says net d w s
  said_is w s lt e = subst (Says net d w) e (all.told w lt)

  -- a table has nothing past its end
  past_end : (xs : List Spelled) (n : ℕ) → length xs ≤ n → get_or xs n OfUser ≡ OfUser
  past_end [] zero le = refl
  past_end [] (suc n) le = refl
  past_end (x ∷ xs) zero le = absurd (omega arith)
  past_end (x ∷ xs) (suc n) le = past_end xs n (omega arith)

  pub said_within : (w : ℕ) (s : Spelled) → s ≢ OfUser → said_at said w ≡ s → w < length net.wires
  said_within w s other e =
      elim (cases_lt w (length net.wires)) [
        | inl lt ↦ lt
        | inr ge ↦ absurd (let long = all.as_many in other (sym e ∙ past_end said w (omega arith)))
      ]

  public_told : (w : ℕ) (s : Spelled) → Says net d w s → IsTrue (serves None s) → HasLabel net d w Public
  public_told w OfUser h told = absurd h
  public_told w OfClock h told = absurd (cc)
  public_told w OfPublic h told = h
  public_told w OfRandom h told = absurd (cc)
  public_told w (OfShare i) h told = absurd (cc)
  public_told w (OfPart p) h told = absurd (cc)
  public_told w OfNothing h told = absurd (cc)

  share_told : (i w : ℕ) (s : Spelled) → Says net d w s → IsTrue (serves (Some i) s) → MayServe net d i w
  share_told i w OfUser h told = absurd h
  share_told i w OfClock h told = absurd (cc)
  share_told i w OfPublic h told = inl h
  share_told i w OfRandom h told = absurd (cc)
  share_told i w (OfShare j) h told = inr (None, subst (λ k. HasLabel net d w (Share k None)) (eqb-true j i told) h)
  share_told i w (OfPart p) h told = let parts = and_parts (is_share_kind p.kind) (p.i == i) told in inr (Some p, (parts.0, eqb-true p.i i parts.1, h))
  share_told i w OfNothing h told = absurd (cc)

  -- where public wires may be read, and where those of a share may
  pub serves_public : (w : ℕ) → w < length net.wires → (IsTrue (serves None (said_at said w)) → HasLabel net d w Public) × (HasLabel net d w Public → IsTrue (serves None (said_at said w)))
  serves_public w lt = (public_told w (said_at said w) (all.told w lt), λ h. subst (λ s. IsTrue (serves None s)) (sym (is_said w OfPublic lt h)) refl)

  of_share : (i w : ℕ) → w < length net.wires → MayServe net d i w → IsTrue (serves (Some i) (said_at said w))
  of_share i w lt (inl h) = subst (λ s. IsTrue (serves (Some i) s)) (sym (is_said w OfPublic lt h)) refl
  of_share i w lt (inr (None, h)) = subst (λ s. IsTrue (serves (Some i) s)) (sym (is_said w (OfShare i) lt h)) (eq-eqb i i refl)
  of_share i w lt (inr (Some p, (kind, same, named))) =
      subst (λ s. IsTrue (serves (Some i) s)) (sym (is_said w (OfPart p) lt named)) (and_from (is_share_kind p.kind) (p.i == i) kind (eq-eqb p.i i same))

  pub serves_share : (i w : ℕ) → w < length net.wires → (IsTrue (serves (Some i) (said_at said w)) → MayServe net d i w) × (MayServe net d i w → IsTrue (serves (Some i) (said_at said w)))
  serves_share i w lt = (share_told i w (said_at said w) (all.told w lt), of_share i w lt)

-- all wires that stand in a formula pass exactly where each one does
pub stands_to : (p : ℕ → Bool) (f : Formula) → IsTrue (all_stand p f) → (v : ℕ) → IsTrue (stands v f) → IsTrue (p v)
stands_to p f_zero h v s = absurd (let wrong : false ≡ true = s in cc)
stands_to p f_one h v s = absurd (let wrong : false ≡ true = s in cc)
stands_to p (f_wire w) h v s = subst (λ u. IsTrue (p u)) (eqb-true w v s) h
stands_to p (f_not x) h v s = stands_to p x h v s
stands_to p (f_and x y) h v s =
    let parts = and_parts (all_stand p x) (all_stand p y) h in
    elim (or_parts (stands v x) (stands v y) s) [ inl a ↦ stands_to p x parts.0 v a | inr b ↦ stands_to p y parts.1 v b ]
stands_to p (f_or x y) h v s =
    let parts = and_parts (all_stand p x) (all_stand p y) h in
    elim (or_parts (stands v x) (stands v y) s) [ inl a ↦ stands_to p x parts.0 v a | inr b ↦ stands_to p y parts.1 v b ]
stands_to p (f_xor x y) h v s =
    let parts = and_parts (all_stand p x) (all_stand p y) h in
    elim (or_parts (stands v x) (stands v y) s) [ inl a ↦ stands_to p x parts.0 v a | inr b ↦ stands_to p y parts.1 v b ]
stands_to p (f_mux c x y) h v s =
    let parts = and_parts (all_stand p c) (all_stand p x && all_stand p y) h in
    let more = and_parts (all_stand p x) (all_stand p y) parts.1 in
    elim (or_parts (stands v c) (stands v x || stands v y) s) [
      | inl a ↦ stands_to p c parts.0 v a
      | inr b ↦ elim (or_parts (stands v x) (stands v y) b) [ inl a ↦ stands_to p x more.0 v a | inr e ↦ stands_to p y more.1 v e ]
    ]

pub stands_from : (p : ℕ → Bool) (f : Formula) → ((v : ℕ) → IsTrue (stands v f) → IsTrue (p v)) → IsTrue (all_stand p f)
stands_from p f_zero h = refl
stands_from p f_one h = refl
stands_from p (f_wire w) h = h w (eq-eqb w w refl)
stands_from p (f_not x) h = stands_from p x h
stands_from p (f_and x y) h =
    and_from (all_stand p x) (all_stand p y) (stands_from p x (λ v s. h v (or_left (stands v x) (stands v y) s))) (stands_from p y (λ v s. h v (or_right (stands v x) (stands v y) s)))
stands_from p (f_or x y) h =
    and_from (all_stand p x) (all_stand p y) (stands_from p x (λ v s. h v (or_left (stands v x) (stands v y) s))) (stands_from p y (λ v s. h v (or_right (stands v x) (stands v y) s)))
stands_from p (f_xor x y) h =
    and_from (all_stand p x) (all_stand p y) (stands_from p x (λ v s. h v (or_left (stands v x) (stands v y) s))) (stands_from p y (λ v s. h v (or_right (stands v x) (stands v y) s)))
stands_from p (f_mux c x y) h =
    and_from (all_stand p c) (all_stand p x && all_stand p y) (stands_from p c (λ v s. h v (or_left (stands v c) (stands v x || stands v y) s)))
    (and_from (all_stand p x) (all_stand p y)
    (stands_from p x (λ v s. h v (or_right (stands v c) (stands v x || stands v y) (or_left (stands v x) (stands v y) s))))
    (stands_from p y (λ v s. h v (or_right (stands v c) (stands v x || stands v y) (or_right (stands v x) (stands v y) s)))))
