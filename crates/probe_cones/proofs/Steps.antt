-- The cone is what lists of steps lead to.
use Rattle.std.proofs.Common.{◌≡◌, ℕ, zero, suc, ◌<◌, ◌≤◌, ◌+◌, ◌-◌, ◌==◌, Bool, true, false, ◌||◌, cond, List, [], ◌∷◌, ◌++◌, map, length, refl, sym, ap, ap₂, ◌∙◌, subst, arith, ⊎_elim, true≢false, eqb-true, eq-eqb, filter}
use Rattle.std.proofs.lemmas.Bool.{or_cases, cases_eq}
use Rattle.std.specs.List.{AllByRecursion, list_any, range_with_len}
use Rattle.agm_net.specs.Plain.{PlainNet}
use Rattle.agm_net.specs.Loop.{reads, IsChain, last_of, HasNoLoop, IsRanked}
use Rattle.agm_net.specs.Run.{driver}
use Rattle.agm_net.specs.WellFormed.{WellFormed}
use Rattle.agm_net.proofs.Driving.{now_is_ever, reads_are_wires, reads_is}
use Rattle.agm_net.proofs.Ranks.{ranked}
use Rattle.probe_cones.specs.Cone.{cone, is_source, within, wire_numbers}
use Rattle.probe_cones.specs.Laws.{LeadsTo}

-- what all items that pass have
pub all_kept : {X : Type 0} (P : X → Type 0) (p : X → Bool) (xs : List X) → AllByRecursion P xs → AllByRecursion (λ x. P x × (p x ≡ true)) (filter p xs)
all_kept P p [] all = tt
all_kept P p (x ∷ xs) all = go (p x) refl (all_kept P p xs all.1)
  where
    go : (b : Bool) → p x ≡ b → AllByRecursion (λ x. P x × (p x ≡ true)) (filter p xs) → AllByRecursion (λ x. P x × (p x ≡ true)) (cond b (x ∷ filter p xs) (filter p xs))
    go true e rest = ((all.0, e), rest)
    go false e rest = rest

pub all_map : {X : Type 0} (P Q : X → Type 0) → ((x : X) → P x → Q x) → (xs : List X) → AllByRecursion P xs → AllByRecursion Q xs
all_map P Q f [] all = tt
all_map P Q f (x ∷ xs) all = (f x all.0, all_map P Q f xs all.1)

pub some_of : {X : Type 0} (P : X → Type 0) (p : X → Bool) (xs : List X) → AllByRecursion P xs → list_any p xs ≡ true → (x : X) × P x × (p x ≡ true)
some_of P p [] all e = absurd (true≢false (sym e))
some_of P p (x ∷ xs) all e = ⊎_elim (λ h. (x, all.0, h)) (λ h. some_of P p xs all.1 h) (or_cases (p x) (list_any p xs) e)

pub same_map : (f g : ℕ → Bool) (xs : List ℕ) → AllByRecursion (λ x. f x ≡ g x) xs → map f xs ≡ map g xs
same_map f g [] all = refl
same_map f g (x ∷ xs) all = ap₂ (λ b bs. b ∷ bs) all.0 (same_map f g xs all.1)

pub range_below : (a n m : ℕ) → a + n ≤ m → AllByRecursion (λ w. w < m) (range_with_len a n)
range_below a zero m le = tt
range_below a (suc n) m le = (omega arith, range_below (a + 1) n m (omega arith))

-- a chain with one more wire at its end
pub chain_more : (related : ℕ → ℕ → Bool) (w v : ℕ) (ws : List ℕ) → IsChain related w ws → related (last_of w ws) v ≡ true → IsChain related w (ws ++ v ∷ [])
chain_more related w v [] chain e = (e, tt)
chain_more related w v (u ∷ us) chain e = (chain.0, chain_more related u v us chain.1 e)

pub last_more : (w v : ℕ) (ws : List ℕ) → last_of w (ws ++ v ∷ []) ≡ v
last_more w v [] = refl
last_more w v (u ∷ us) = last_more u v us

pub long_more : (v : ℕ) (ws : List ℕ) → length (ws ++ v ∷ []) ≡ suc (length ws)
long_more v [] = refl
long_more v (u ∷ us) = ap suc (long_more v us)

module _ (net : PlainNet) where
  -- at most n reads lead from w to v
  abbrev pub Leads : ℕ → ℕ → ℕ → Type 0
  Leads n w v = (ws : List ℕ) × (length ws ≤ n) × IsChain (reads net) w ws × (last_of w ws ≡ v)

  pub leads_step : (n w u v : ℕ) → Leads n w u → ((u == v) || reads net u v) ≡ true → Leads (suc n) w v
  leads_step n w u v leads e =
      ⊎_elim (λ same. (leads.0, let le = leads.1 in omega arith, leads.2, leads.3 ∙ eqb-true u v same))
      (λ read. (
        leads.0 ++ v ∷ [],
        let le = leads.1 in let long = long_more v leads.0 in omega arith,
        chain_more (reads net) w v leads.0 leads.2 (subst (λ k. reads net k v ≡ true) (sym leads.3) read),
        last_more w v leads.0,
      ))
      (or_cases (u == v) (reads net u v) e)

  pub all_within : (w n : ℕ) → AllByRecursion (λ v. (v < length net.wires) × Leads n w v) (within net w n)
  all_within w zero =
      all_map (λ v. (v < length net.wires) × ((w == v) ≡ true)) (λ v. (v < length net.wires) × Leads 0 w v)
      (λ v h. (h.0, ([], omega arith, tt, eqb-true w v h.1))) (within net w 0)
      (all_kept (λ v. v < length net.wires) (λ v. w == v) (wire_numbers net) (range_below 0 (length net.wires) (length net.wires) (omega arith)))
  all_within w (suc n) =
      let found = within net w n in
      all_map (λ v. (v < length net.wires) × (list_any (λ u. (u == v) || reads net u v) found ≡ true)) (λ v. (v < length net.wires) × Leads (suc n) w v)
      (λ v h. (h.0, let some = some_of (λ u. (u < length net.wires) × Leads n w u) (λ u. (u == v) || reads net u v) found (all_within w n) h.1 in leads_step n w some.0 v some.1.1 some.2)) (within net w (suc n))
      (all_kept (λ v. v < length net.wires) (λ v. list_any (λ u. (u == v) || reads net u v) found) (wire_numbers net) (range_below 0 (length net.wires) (length net.wires) (omega arith)))

-- a wire that passes is kept
kept : (p : ℕ → Bool) (v : ℕ) (xs : List ℕ) → p v ≡ true → list_any (λ x. x == v) xs ≡ true → list_any (λ x. x == v) (filter p xs) ≡ true
kept p v [] e found = found
kept p v (x ∷ xs) e found = go (p x) refl (λ h. kept p v xs e h)
  where
    go : (b : Bool) → p x ≡ b → (list_any (λ x. x == v) xs ≡ true → list_any (λ x. x == v) (filter p xs) ≡ true) → list_any (λ x. x == v) (cond b (x ∷ filter p xs) (filter p xs)) ≡ true
    go true is rest =
        ⊎_elim (λ h. ap (λ b. b || list_any (λ x. x == v) (filter p xs)) h) (λ h. or_later (x == v) (list_any (λ x. x == v) (filter p xs)) (rest h)) (or_cases (x == v) (list_any (λ x. x == v) xs) found)
      where
        or_later : (a b : Bool) → b ≡ true → (a || b) ≡ true
        or_later a b e = grind arith
    go false is rest =
        ⊎_elim (λ h. absurd (true≢false (sym (subst (λ k. p k ≡ true) (sym (eqb-true x v h)) e) ∙ is))) rest (or_cases (x == v) (list_any (λ x. x == v) xs) found)

or_later : (a b : Bool) → b ≡ true → (a || b) ≡ true
or_later a b e = grind arith

in_range : (a n v : ℕ) → a ≤ v → v < a + n → list_any (λ x. x == v) (range_with_len a n) ≡ true
in_range a zero v le lt = absurd (omega arith)
in_range a (suc n) v le lt =
    ⊎_elim (λ same. ap (λ b. b || list_any (λ x. x == v) (range_with_len (a + 1) n)) (eq-eqb a v same))
    (λ differ. or_later (a == v) (list_any (λ x. x == v) (range_with_len (a + 1) n)) (in_range (a + 1) n v (omega arith) (omega arith))) (cases_eq a v)

-- a found wire leads on
any_found : (p : ℕ → Bool) (u : ℕ) (xs : List ℕ) → p u ≡ true → list_any (λ x. x == u) xs ≡ true → list_any p xs ≡ true
any_found p u [] e found = found
any_found p u (x ∷ xs) e found =
    ⊎_elim (λ h. ap (λ b. b || list_any p xs) (subst (λ k. p k ≡ true) (sym (eqb-true x u h)) e)) (λ h. or_later (p x) (list_any p xs) (any_found p u xs e h)) (or_cases (x == u) (list_any (λ x. x == u) xs) found)

module _ (net : PlainNet) (well : WellFormed net) (none : HasNoLoop net) where
  abbrev Found : ℕ → ℕ → ℕ → Type 0
  Found w n v = list_any (λ x. x == v) (within net w n) ≡ true

  read_inside : (w v : ℕ) → w < length net.wires → reads net w v ≡ true → v < length net.wires
  read_inside w v inside h = reads_are_wires net well w v inside (now_is_ever (driver net w) v (sym (reads_is net well w v) ∙ h))

  one_more : (w n u v : ℕ) → Found w n u → v < length net.wires → ((u == v) || reads net u v) ≡ true → Found w (suc n) v
  one_more w n u v found inside e =
      kept (λ v. list_any (λ u. (u == v) || reads net u v) (within net w n)) v (wire_numbers net) (any_found (λ u. (u == v) || reads net u v) u (within net w n) e found) (in_range 0 (length net.wires) v (omega arith) (omega arith))

  along : (w n u : ℕ) (vs : List ℕ) → Found w n u → u < length net.wires → IsChain (reads net) u vs → Found w (n + length vs) (last_of u vs)
  along w n u [] found inside chain = subst (λ k. Found w k u) (omega arith) found
  along w n u (v ∷ vs) found inside chain =
      let v_in = read_inside u v inside chain.0 in
      let next = one_more w n u v found v_in (or_later (u == v) (reads net u v) chain.0) in
      subst (λ k. Found w k (last_of v vs)) (omega arith) (along w (suc n) v vs next v_in chain.1)

  last_inside : (u : ℕ) (vs : List ℕ) → u < length net.wires → IsChain (reads net) u vs → last_of u vs < length net.wires
  last_inside u [] inside chain = inside
  last_inside u (v ∷ vs) inside chain = last_inside v vs (read_inside u v inside chain.0) chain.1

  stays : (w m n v : ℕ) → v < length net.wires → Found w n v → Found w (m + n) v
  stays w zero n v inside found = let e : n ≡ 0 + n = omega arith in subst (λ k. Found w k v) e found
  stays w (suc m) n v inside found =
      let e : suc (m + n) ≡ suc m + n = omega arith in
      subst (λ k. Found w k v) e (one_more w (m + n) v v (stays w m n v inside found) inside (ap (λ b. b || reads net v v) (eq-eqb v v refl)))

  short : (by : IsRanked net) (u : ℕ) (vs : List ℕ) → IsChain (reads net) u vs → length vs + by.rank (last_of u vs) ≤ by.rank u
  short by u [] chain = omega arith
  short by u (v ∷ vs) chain = let lt = by.lower u v chain.0 in let rest = short by v vs chain.1 in omega arith

  pub found_by_steps : (w v : ℕ) → w < length net.wires → is_source (driver net v) ≡ true → LeadsTo net w v → list_any (λ x. x == v) (cone net w) ≡ true
  found_by_steps w v inside from (ws, chain, last) =
      let by = ranked net well none in
      let few : length ws < length net.wires = (let a = short by w ws chain in let b = by.few w inside in omega arith) in
      let start : Found w 0 w = kept (λ v. w == v) w (wire_numbers net) (eq-eqb w w refl) (in_range 0 (length net.wires) w (omega arith) (omega arith)) in
      let there = along w 0 w ws start inside chain in
      let last_in = last_inside w ws inside chain in
      let m = length net.wires - length ws in
      let all : Found w (length net.wires) (last_of w ws) = subst (λ k. Found w k (last_of w ws)) (omega arith) (stays w m (0 + length ws) (last_of w ws) last_in there) in
      kept (λ v. is_source (driver net v)) v (within net w (length net.wires)) from (subst (λ k. Found w (length net.wires) k) last all)

  pub steps_of_found : (w v : ℕ) → list_any (λ x. x == v) (cone net w) ≡ true → (is_source (driver net v) ≡ true) × LeadsTo net w v
  steps_of_found w v found =
      let n = length net.wires in
      let P : ℕ → Type 0 = λ x. (x < n) × Leads net n w x in
      let some = some_of (λ x. P x × (is_source (driver net x) ≡ true)) (λ x. x == v) (cone net w) (all_kept P (λ x. is_source (driver net x)) (within net w n) (all_within net w n)) found in
      let same : some.0 ≡ v = eqb-true some.0 v some.2 in
      let leads = some.1.0.1 in
      (subst (λ k. is_source (driver net k) ≡ true) same some.1.1, (leads.0, leads.2, leads.3 ∙ same))
