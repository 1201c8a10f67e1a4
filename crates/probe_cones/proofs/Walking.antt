-- A walk along reads, step by step.
use Rattle.std.proofs.Common.{◌≡◌, ◌≢◌, ◌<◌, ◌≤◌, ◌+◌, ◌==◌, ◌++◌, ◌∷◌, [], ℕ, zero, suc, Bool, true, false, ◌&&◌, ◌||◌, cond, List, length, set, get_or, sum_by, count_by, refl, sym, ap, ◌∙◌, subst, arith, inl, inr, eq-eqb, true≢false, get_or-set_same, get_or-set_other, length-append}
use Rattle.std.proofs.Math.ListN.{length-set, get_or-append}
use Rattle.std.specs.List.{list_any}
use Rattle.std.proofs.lemmas.Bool.{cases_Bool, cases_lt, eqb-true, ltb-true, or_cases, or_left, or_right, and_parts}
use Rattle.std.proofs.lemmas.List.Sums.{sum_by-set}
use Rattle.std.proofs.lemmas.Option.{slice_get-get_or, get_or_from_slice_get, slice_get_within}
use Rattle.agm_net.specs.Formula.{Formula, f_zero, f_one, f_wire, f_not, f_and, f_or, f_xor, f_mux, reads_below, stands}
use Rattle.agm_net.specs.Loop.{reads, IsChain, last_of}
use Rattle.agm_net.specs.Plain.{PlainNet}
use Rattle.agm_net.specs.Run.{Driver, d_equation, driver, reads_now}
use Rattle.agm_net.specs.WellFormed.{WellFormed}
use Rattle.agm_net.proofs.Driving.{reads_is}
use Rattle.agm_net.proofs.Lists.{count_yes, count_no, count_append, count_some, some_counted, any_at, place_of_any}
use Rattle.probe_cones.proofs.Steps.{chain_more, last_more}
use Rattle.probe_cones.specs.Laws.{LeadsTo}
use Rattle.probe_cones.specs.Walk.{State, is_stamped, noted, reads_noted, Grows, IsWalk, HasTurned, HasBegun, HasWalked}

differ : (u v : ℕ) → (u == v) ≡ false → u ≢ v
differ u v other e = absurd (true≢false (sym (eq-eqb u v e) ∙ other))

-- the numbers of a Bool and of its opposite
abbrev one_where : Bool → ℕ
one_where b = cond b 1 0

abbrev none_where : Bool → ℕ
none_where b = cond b 0 1

pub stamped_within : (s : State) (v : ℕ) → 0 < s.stamp → is_stamped s v ≡ true → v < length s.stamps
stamped_within s v some h = elim (cases_lt v (length s.stamps)) [
  | inl lt ↦ lt
  | inr ge ↦ (let same = eqb-true (get_or s.stamps v 0) s.stamp h in let none = outside s.stamps v ge in absurd (omega arith))
]
  where
    outside : (xs : List ℕ) (k : ℕ) → length xs ≤ k → get_or xs k 0 ≡ 0
    outside [] k ge = refl
    outside (x ∷ xs) zero ge = absurd (omega arith)
    outside (x ∷ xs) (suc k) ge = outside xs k (omega arith)

-- what a wire that is found changes
abbrev noting : State → ℕ → State
noting s v = record { stamps = set s.stamps v s.stamp; stamp = s.stamp; found = s.found ++ v ∷ [] }

noted_old : (s : State) (v : ℕ) → is_stamped s v ≡ true → noted s v ≡ s
noted_old s v h = ap (λ b. cond b s (noting s v)) h

noted_new : (s : State) (v : ℕ) → is_stamped s v ≡ false → noted s v ≡ noting s v
noted_new s v h = ap (λ b. cond b s (noting s v)) h

noting_same : (s : State) (v : ℕ) → v < length s.stamps → is_stamped (noting s v) v ≡ true
noting_same s v lt = eq-eqb (get_or (set s.stamps v s.stamp) v 0) s.stamp (get_or-set_same s.stamps v s.stamp 0 lt)

noting_other : (s : State) (v u : ℕ) → u ≢ v → is_stamped (noting s v) u ≡ is_stamped s u
noting_other s v u ne = ap (λ k. k == s.stamp) (get_or-set_other s.stamps v u s.stamp 0 ne)

noting_kept : (s : State) (v u : ℕ) → v < length s.stamps → is_stamped s u ≡ true → is_stamped (noting s v) u ≡ true
noting_kept s v u lt h = elim (cases_Bool (u == v)) [
  | inl same ↦ ap (is_stamped (noting s v)) (eqb-true u v same) ∙ noting_same s v lt
  | inr other ↦ noting_other s v u (differ u v other) ∙ h
]

pub grows_same : (s : State) → Grows s s
grows_same s = record { as_many = refl; same_stamp = refl; kept = λ v h. h; longer = omega arith; behind = λ k lt. refl; lighter = omega arith }

pub grows_on : (s t u : State) → Grows s t → Grows t u → Grows s u
grows_on s t u a b = record {
  as_many = b.as_many ∙ a.as_many;
  same_stamp = b.same_stamp ∙ a.same_stamp;
  kept = λ v h. b.kept v (a.kept v h);
  longer = (let x = a.longer in let y = b.longer in omega arith);
  behind = λ k lt. b.behind k (let x = a.longer in omega arith) ∙ a.behind k lt;
  lighter = (let x = a.lighter in let y = b.lighter in omega arith);
}

stamped_less : (stamps : List ℕ) (stamp v : ℕ) → v < length stamps → (get_or stamps v 0 == stamp) ≡ false → sum_by (λ m. cond (m == stamp) 0 1) (set stamps v stamp) + 1 ≡ sum_by (λ m. cond (m == stamp) 0 1) stamps
stamped_less stamps stamp v lt new =
    let f : ℕ → ℕ = λ m. cond (m == stamp) 0 1 in
    let sums : sum_by f (set stamps v stamp) + f (get_or stamps v 0) ≡ sum_by f stamps + f stamp = sum_by-set f stamps v stamp 0 lt in
    let one : f (get_or stamps v 0) ≡ 1 = ap none_where new in
    let none : f stamp ≡ 0 = ap none_where (eq-eqb stamp stamp refl) in
    omega (arith, sums, one, none)

noting_grows : (s : State) (v : ℕ) → v < length s.stamps → is_stamped s v ≡ false → Grows s (noting s v)
noting_grows s v lt new = record {
  as_many = length-set s.stamps v s.stamp;
  same_stamp = refl;
  kept = λ u h. noting_kept s v u lt h;
  longer = (let more = length-append s.found (v ∷ []) in omega arith);
  behind = λ k le. get_or-append s.found (v ∷ []) 0 k le;
  lighter = (let sums = stamped_less s.stamps s.stamp v lt new in let more = length-append s.found (v ∷ []) in omega arith);
}

noted_grows : (s : State) (v : ℕ) → v < length s.stamps → Grows s (noted s v)
noted_grows s v lt = elim (cases_Bool (is_stamped s v)) [
  | inl old ↦ subst (Grows s) (sym (noted_old s v old)) (grows_same s)
  | inr new ↦ subst (Grows s) (sym (noted_new s v new)) (noting_grows s v lt new)
]

noted_found : (s : State) (v : ℕ) → v < length s.stamps → is_stamped (noted s v) v ≡ true
noted_found s v lt = elim (cases_Bool (is_stamped s v)) [
  | inl old ↦ ap (λ t. is_stamped t v) (noted_old s v old) ∙ old
  | inr new ↦ ap (λ t. is_stamped t v) (noted_new s v new) ∙ noting_same s v lt
]

noting_counted : (s : State) (v u : ℕ) → v < length s.stamps → is_stamped s v ≡ false → count_by (λ x. x == u) s.found ≡ cond (is_stamped s u) 1 0
    → count_by (λ x. x == u) (s.found ++ v ∷ []) ≡ cond (is_stamped (noting s v) u) 1 0
noting_counted s v u lt new was =
    let sum = count_append (λ x. x == u) s.found (v ∷ []) in
    elim (cases_Bool (v == u)) [
      | inl same ↦ (
          let is : v ≡ u = eqb-true v u same in
          let none : count_by (λ x. x == u) s.found ≡ 0 = was ∙ ap one_where (subst (λ k. is_stamped s k ≡ false) is new) in
          let one : count_by (λ x. x == u) (v ∷ []) ≡ 1 = count_yes (λ x. x == u) v [] same in
          let now : one_where (is_stamped (noting s v) u) ≡ 1 = ap one_where (subst (λ k. is_stamped (noting s v) k ≡ true) is (noting_same s v lt)) in
          omega (arith, sum, none, one, now))
      | inr other ↦ (
          let none : count_by (λ x. x == u) (v ∷ []) ≡ 0 = count_no (λ x. x == u) v [] other in
          let ne : u ≢ v = λ e. differ v u other (sym e) in
          let now : one_where (is_stamped (noting s v) u) ≡ cond (is_stamped s u) 1 0 = ap one_where (noting_other s v u ne) in
          omega (arith, sum, none, was, now))
    ]

noting_walks : (net : PlainNet) (w : ℕ) (s : State) (v : ℕ) → v < length s.stamps → is_stamped s v ≡ false → LeadsTo net w v → IsWalk net w s → IsWalk net w (noting s v)
noting_walks net w s v lt new leads walk = record {
  led = λ u h. elim (cases_Bool (u == v)) [
    | inl same ↦ subst (LeadsTo net w) (sym (eqb-true u v same)) leads
    | inr other ↦ walk.led u (sym (noting_other s v u (differ u v other)) ∙ h)
  ];
  highest = λ u. elim (cases_Bool (u == v)) [
    | inl same ↦ (let is = eqb-true u v same in let now = get_or-set_same s.stamps v s.stamp 0 lt in
        let here : get_or (set s.stamps v s.stamp) u 0 ≡ s.stamp = ap (λ k. get_or (set s.stamps v s.stamp) k 0) is ∙ now in omega arith)
    | inr other ↦ (let now = get_or-set_other s.stamps v u s.stamp 0 (differ u v other) in let le = walk.highest u in omega arith)
  ];
  counted = λ u. noting_counted s v u lt new (walk.counted u);
}

noted_walks : (net : PlainNet) (w : ℕ) (s : State) (v : ℕ) → v < length s.stamps → LeadsTo net w v → IsWalk net w s → IsWalk net w (noted s v)
noted_walks net w s v lt leads walk = elim (cases_Bool (is_stamped s v)) [
  | inl old ↦ subst (IsWalk net w) (sym (noted_old s v old)) walk
  | inr new ↦ subst (IsWalk net w) (sym (noted_new s v new)) (noting_walks net w s v lt new leads walk)
]

-- all wires that pass are found
pub record Notes (p : ℕ → Bool) (s t : State) : Type 0 where
  pub grows : Grows s t
  pub found : (v : ℕ) → p v ≡ true → is_stamped t v ≡ true
  pub walks : (net : PlainNet) (w : ℕ) → ((v : ℕ) → p v ≡ true → LeadsTo net w v) → IsWalk net w s → IsWalk net w t

notes_none : (s : State) → Notes (λ v. false) s s
notes_none s = record { grows = grows_same s; found = λ v h. absurd (true≢false (sym h)); walks = λ net w led walk. walk }

notes_both : (p q : ℕ → Bool) (s t u : State) → Notes p s t → Notes q t u → Notes (λ v. p v || q v) s u
notes_both p q s t u a b = record {
  grows = grows_on s t u a.grows b.grows;
  found = λ v h. elim (or_cases (p v) (q v) h) [
    | inl first ↦ b.grows.kept v (a.found v first)
    | inr second ↦ b.found v second
  ];
  walks = λ net w led walk. b.walks net w (λ v h. led v (or_right (p v) (q v) h)) (a.walks net w (λ v h. led v (or_left (p v) (q v) h)) walk);
}

notes_one : (s : State) (v : ℕ) → v < length s.stamps → Notes (λ u. v == u) s (noted s v)
notes_one s v lt = record {
  grows = noted_grows s v lt;
  found = λ u h. subst (λ k. is_stamped (noted s v) k ≡ true) (eqb-true v u h) (noted_found s v lt);
  walks = λ net w led walk. noted_walks net w s v lt (led v (eq-eqb v v refl)) walk;
}

pub notes : (f : Formula) (s : State) → reads_below (length s.stamps) f ≡ true → Notes (λ v. stands v f) s (reads_noted f s)
notes f_zero s h = notes_none s
notes f_one s h = notes_none s
notes (f_wire v) s h = notes_one s v (ltb-true v (length s.stamps) h)
notes (f_not x) s h = notes x s h
notes (f_and x y) s h =
    let both = and_parts (reads_below (length s.stamps) x) (reads_below (length s.stamps) y) h in
    let t = reads_noted x s in
    let a = notes x s both.0 in
    notes_both (λ v. stands v x) (λ v. stands v y) s t (reads_noted y t) a (notes y t (subst (λ n. reads_below n y ≡ true) (sym a.grows.as_many) both.1))
notes (f_or x y) s h =
    let both = and_parts (reads_below (length s.stamps) x) (reads_below (length s.stamps) y) h in
    let t = reads_noted x s in
    let a = notes x s both.0 in
    notes_both (λ v. stands v x) (λ v. stands v y) s t (reads_noted y t) a (notes y t (subst (λ n. reads_below n y ≡ true) (sym a.grows.as_many) both.1))
notes (f_xor x y) s h =
    let both = and_parts (reads_below (length s.stamps) x) (reads_below (length s.stamps) y) h in
    let t = reads_noted x s in
    let a = notes x s both.0 in
    notes_both (λ v. stands v x) (λ v. stands v y) s t (reads_noted y t) a (notes y t (subst (λ n. reads_below n y ≡ true) (sym a.grows.as_many) both.1))
notes (f_mux c x y) s h =
    let n = length s.stamps in
    let both = and_parts (reads_below n c) (reads_below n x && reads_below n y) h in
    let rest = and_parts (reads_below n x) (reads_below n y) both.1 in
    let t = reads_noted c s in
    let u = reads_noted x t in
    let a = notes c s both.0 in
    let b = notes x t (subst (λ n. reads_below n x ≡ true) (sym a.grows.as_many) rest.0) in
    let d = notes y u (subst (λ n. reads_below n y ≡ true) (sym (b.grows.as_many ∙ a.grows.as_many)) rest.1) in
    notes_both (λ v. stands v c) (λ v. stands v x || stands v y) s t (reads_noted y u) a
    (notes_both (λ v. stands v x) (λ v. stands v y) t u (reads_noted y u) b d)

pub led_on : (net : PlainNet) (w u v : ℕ) → LeadsTo net w u → reads net u v ≡ true → LeadsTo net w v
led_on net w u v leads e = (
  leads.0 ++ v ∷ [],
  chain_more (reads net) w v leads.0 leads.1 (subst (λ k. reads net k v ≡ true) (sym leads.2) e),
  last_more w v leads.0,
)

module _ (net : PlainNet) (well : WellFormed net) where
  reads_of : (u v : ℕ) (d : Driver) → driver net u ≡ d → reads net u v ≡ reads_now d v
  reads_of u v d is = reads_is net well u v ∙ ap (λ d. reads_now d v) is

  pub turned_by : (u : ℕ) (f : Formula) (s t : State) → driver net u ≡ d_equation f → Notes (λ v. stands v f) s t → HasTurned net u s t
  turned_by u f s t is notes = record {
    grows = notes.grows;
    found = λ v h. notes.found v (sym (reads_of u v (d_equation f) is) ∙ h);
    walks = λ w led walk. notes.walks net w (λ v h. led_on net w u v led (reads_of u v (d_equation f) is ∙ h)) walk;
  }

  pub turned_none : (u : ℕ) (s : State) (d : Driver) → driver net u ≡ d → ((v : ℕ) → reads_now d v ≡ false) → HasTurned net u s s
  turned_none u s d is none = record {
    grows = grows_same s;
    found = λ v h. absurd (true≢false (sym h ∙ (reads_of u v d is ∙ none v)));
    walks = λ w led walk. walk;
  }

pub began : (net : PlainNet) (w stamp : ℕ) (before : State) → w < length before.stamps → ((v : ℕ) → get_or before.stamps v 0 < stamp)
    → HasBegun net w stamp before (noted (record { stamps = before.stamps; stamp = stamp; found = [] }) w)
began net w stamp before lt fresh =
    let s : State = record { stamps = before.stamps; stamp = stamp; found = [] } in
    let grows = noted_grows s w lt in
    record {
      as_many = grows.as_many;
      same_stamp = grows.same_stamp;
      found = noted_found s w lt;
      walks = noted_walks net w s w lt ([], tt, refl) (record {
        led = λ v h. absurd (let less = fresh v in let same = eqb-true (get_or before.stamps v 0) stamp h in omega arith);
        highest = λ v. (let less = fresh v in omega arith);
        counted = λ v. sym (ap one_where (new v));
      });
    }
  where
    new : (v : ℕ) → (get_or before.stamps v 0 == stamp) ≡ false
    new v = elim (cases_Bool (get_or before.stamps v 0 == stamp)) [
      | inl same ↦ absurd (let less = fresh v in let is = eqb-true (get_or before.stamps v 0) stamp same in omega arith)
      | inr other ↦ other
    ]

-- What stands after some of the found wires were looked at.
pub record IsAt (net : PlainNet) (w stamp next : ℕ) (s : State) : Type 0 where
  pub as_many : length s.stamps ≡ length net.wires
  pub same_stamp : s.stamp ≡ stamp
  pub start : is_stamped s w ≡ true
  pub walks : IsWalk net w s
  pub within : next ≤ length s.found
  pub closed : (k v : ℕ) → k < next → reads net (get_or s.found k 0) v ≡ true → is_stamped s v ≡ true

pub among_stamped : (net : PlainNet) (w : ℕ) (s : State) (v : ℕ) → IsWalk net w s → list_any (λ x. x == v) s.found ≡ true → is_stamped s v ≡ true
among_stamped net w s v walk among = elim (cases_Bool (is_stamped s v)) [
  | inl is ↦ is
  | inr free ↦ absurd (
      let some = count_some (λ x. x == v) s.found among in
      let none : count_by (λ x. x == v) s.found ≡ 0 = walk.counted v ∙ ap one_where free in omega (arith, some, none))
]

pub stamped_among : (net : PlainNet) (w : ℕ) (s : State) (v : ℕ) → IsWalk net w s → is_stamped s v ≡ true → list_any (λ x. x == v) s.found ≡ true
stamped_among net w s v walk is =
    let one : count_by (λ x. x == v) s.found ≡ 1 = walk.counted v ∙ ap one_where is in
    some_counted (λ x. x == v) s.found (omega (arith, one))

pub found_stamped : (net : PlainNet) (w : ℕ) (s : State) (k : ℕ) → IsWalk net w s → k < length s.found → is_stamped s (get_or s.found k 0) ≡ true
found_stamped net w s k walk lt =
    let v = get_or s.found k 0 in
    among_stamped net w s v walk (any_at (λ x. x == v) s.found k v (slice_get-get_or s.found k 0 lt) (eq-eqb v v refl))

pub at_next : (net : PlainNet) (w stamp next : ℕ) (s t : State) → IsAt net w stamp next s → next < length s.found → HasTurned net (get_or s.found next 0) s t → IsAt net w stamp (next + 1) t
at_next net w stamp next s t at lt turned =
    let u = get_or s.found next 0 in
    let g = turned.grows in
    record {
      as_many = g.as_many ∙ at.as_many;
      same_stamp = g.same_stamp ∙ at.same_stamp;
      start = g.kept w at.start;
      walks = turned.walks w (at.walks.led u (found_stamped net w s next at.walks lt)) at.walks;
      within = (let more = g.longer in omega arith);
      closed = λ k v less h. elim (cases_lt k next) [
        | inl old ↦ g.kept v (at.closed k v old (sym (ap (λ x. reads net x v) (g.behind k (omega arith))) ∙ h))
        | inr last ↦ (
            let is : k ≡ next = omega arith in
            let here : get_or t.found k 0 ≡ u = g.behind k (omega arith) ∙ ap (λ i. get_or s.found i 0) is in
            turned.found v (sym (ap (λ x. reads net x v) here) ∙ h))
      ];
    }

pub at_end : (net : PlainNet) (w stamp next : ℕ) (s : State) → IsAt net w stamp next s → length s.found ≤ next → HasWalked net w stamp s
at_end net w stamp next s at le = record {
  as_many = at.as_many;
  highest = λ v. subst (λ k. get_or s.stamps v 0 ≤ k) at.same_stamp (at.walks.highest v);
  found = record {
    once = λ v. (let e = at.walks.counted v in let small = small_cond (is_stamped s v) in omega (arith, e, small));
    leads = λ v. (
      (λ among. at.walks.led v (among_stamped net w s v at.walks among)),
      (λ leads. stamped_among net w s v at.walks (subst (λ k. is_stamped s k ≡ true) leads.2 (along w leads.0 at.start leads.1))),
    );
  };
}
  where
    small_cond : (b : Bool) → one_where b ≤ 1
    small_cond true = omega arith
    small_cond false = omega arith

    along : (u : ℕ) (vs : List ℕ) → is_stamped s u ≡ true → IsChain (reads net) u vs → is_stamped s (last_of u vs) ≡ true
    along u [] is chain = is
    along u (v ∷ vs) is chain =
        let place = place_of_any (λ x. x == u) s.found (stamped_among net w s u at.walks is) in
        let same : place.1 ≡ u = eqb-true place.1 u place.3 in
        let at_place : get_or s.found place.0 0 ≡ place.1 = get_or_from_slice_get s.found place.0 place.1 0 place.2 in
        let lt = slice_get_within s.found place.0 place.1 place.2 in
        along v vs (at.closed place.0 v (omega arith) (ap (λ x. reads net x v) (at_place ∙ same) ∙ chain.0)) chain.1
