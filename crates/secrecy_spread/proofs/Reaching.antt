-- How edges are followed.
use Rattle.std.proofs.Common.{◌≡◌, ◌≢◌, ◌<◌, ◌≤◌, ◌+◌, ◌-◌, ◌==◌, ◌++◌, ℕ, zero, suc, Bool, true, false, ◌&&◌, ◌||◌, cond, List, [], ◌∷◌, length, slice_get, get_or, set, Some, IsTrue, sum_by, refl, sym, ap, ◌∙◌, subst, arith, inl, inr, eq-eqb, get_or-set_same, get_or-set_other, length-append}
use Rattle.std.proofs.Math.ListN.{length-set}
use Rattle.std.specs.List.{AllByRecursion}
use Rattle.std.proofs.lemmas.Bool.{cases_Bool, cases_lt, eqb-true, or_cases, or_left, or_right, and_parts, and_from}
use Rattle.std.proofs.lemmas.List.Folds.{list_any-append}
use Rattle.std.proofs.lemmas.List.Sums.{sum_by-set}
use Rattle.std.proofs.lemmas.Option.{slice_get_within, get_or_from_slice_get}
use Rattle.agm_net.specs.Loop.{IsChain, last_of}
use Rattle.logic_graph.specs.Settled.{bit_of}
use Rattle.agm_net.proofs.Lists.{all_joined, any_at, place_of_any}
use Rattle.secrecy_spread.specs.declared.reach.Edge.{Edge}
use Rattle.secrecy_spread.specs.Reach.{is_among, leads, IsReached, AreReached, from_at, last_from, AreLinks, State, noted, IsSpreading, Grows, HasFollowed, HasTurned, HasRun}

-- a bit that is 1 is within its row
pub bit_within : (bs : List Bool) (w : ℕ) → IsTrue (bit_of bs w) → w < length bs
bit_within [] w h = absurd (cc)
bit_within (b ∷ bs) zero h = omega arith
bit_within (b ∷ bs) (suc w) h = let lt = bit_within bs w h in omega arith

pub from_is : (edges : List Edge) (i : ℕ) (e : Edge) → slice_get edges i ≡ Some e → from_at edges i ≡ e.from
from_is edges i e at = ap (λ (x : Edge). x.from) (get_or_from_slice_get edges i e (record { from = 0; to = 0 }) at)

pub last_from_le : (edges : List Edge) (i v : ℕ) → last_from edges i v ≤ i
last_from_le edges zero v = omega arith
last_from_le edges (suc i) v = elim (cases_Bool (from_at edges i == v)) [
  | inl same ↦ (let e : last_from edges (suc i) v ≡ suc i = ap (λ b. cond b (suc i) (last_from edges i v)) same in omega arith)
  | inr other ↦ (let e : last_from edges (suc i) v ≡ last_from edges i v = ap (λ b. cond b (suc i) (last_from edges i v)) other in
      let le = last_from_le edges i v in omega arith)
]

-- no edge behind the last one leaves the vertex
pub last_from_last : (edges : List Edge) (i v j : ℕ) → last_from edges i v ≤ j → j < i → from_at edges j ≡ v → Prim.⊥
last_from_last edges zero v j le lt own = absurd (omega arith)
last_from_last edges (suc i) v j le lt own = elim (cases_Bool (from_at edges i == v)) [
  | inl same ↦ (let e : last_from edges (suc i) v ≡ suc i = ap (λ b. cond b (suc i) (last_from edges i v)) same in absurd (omega arith))
  | inr other ↦ (
      let e : last_from edges (suc i) v ≡ last_from edges i v = ap (λ b. cond b (suc i) (last_from edges i v)) other in
      elim (cases_Bool (j == i)) [
        | inl here ↦ (let at : j ≡ i = eqb-true j i here in let own' : from_at edges i ≡ v = sym (ap (from_at edges) at) ∙ own in
            let t : (from_at edges i == v) ≡ true = eq-eqb (from_at edges i) v own' in absurd (cc))
        | inr before ↦ (let ne : j ≢ i = λ same. (let t : (j == i) ≡ true = eq-eqb j i same in absurd (cc)) in
            let lt' : j < i = lower j i lt ne in last_from_last edges i v j (omega arith) lt' own)
      ])
]
  where
    lower : (j i : ℕ) → j < suc i → j ≢ i → j < i
    lower j i lt ne = omega arith

-- the last edge leaves the vertex
pub last_from_leaves : (edges : List Edge) (i v : ℕ) → 0 < last_from edges i v → from_at edges (last_from edges i v - 1) ≡ v
last_from_leaves edges zero v h = absurd (omega arith)
last_from_leaves edges (suc i) v h = elim (cases_Bool (from_at edges i == v)) [
  | inl same ↦ (let e : last_from edges (suc i) v ≡ suc i = ap (λ b. cond b (suc i) (last_from edges i v)) same in
      let e' : last_from edges (suc i) v - 1 ≡ i = omega arith in ap (from_at edges) e' ∙ eqb-true (from_at edges i) v same)
  | inr other ↦ (let e : last_from edges (suc i) v ≡ last_from edges i v = ap (λ b. cond b (suc i) (last_from edges i v)) other in
      let e' : last_from edges (suc i) v - 1 ≡ last_from edges i v - 1 = ap (λ n. n - 1) e in
      ap (from_at edges) e' ∙ last_from_leaves edges i v (subst (λ n. 0 < n) e h))
]

-- what a vertex that is marked changes
abbrev pub marking : State → ℕ → State
marking s v = record { marked = set s.marked v true; waiting = s.waiting ++ v ∷ [] }

pub noted_old : (s : State) (v : ℕ) → bit_of s.marked v ≡ true → noted s v ≡ s
noted_old s v h = ap (λ b. cond b s (marking s v)) h

pub noted_new : (s : State) (v : ℕ) → bit_of s.marked v ≡ false → noted s v ≡ marking s v
noted_new s v h = ap (λ b. cond b s (marking s v)) h

marking_kept : (s : State) (v w : ℕ) → v < length s.marked → IsTrue (bit_of s.marked w) → IsTrue (bit_of (marking s v).marked w)
marking_kept s v w lt h = elim (cases_Bool (w == v)) [
  | inl same ↦ (let e = eqb-true w v same in ap (bit_of (set s.marked v true)) e ∙ get_or-set_same s.marked v true false lt)
  | inr other ↦ (let ne : w ≢ v = λ e. (let t : (w == v) ≡ true = eq-eqb w v e in absurd (cc)) in get_or-set_other s.marked v w true false ne ∙ h)
]

waits_more : (s : State) (v w : ℕ) → is_among (s.waiting ++ v ∷ []) w ≡ (is_among s.waiting w || ((v == w) || false))
waits_more s v w = list_any-append (λ u. u == w) s.waiting (v ∷ [])

marking_spreads : (edges : List Edge) (starts : List ℕ) (s : State) (x link v : ℕ) → v < length s.marked → bit_of s.marked v ≡ false → IsReached edges starts v
    → IsSpreading edges starts s x link → IsSpreading edges starts (marking s v) x link
marking_spreads edges starts s x link v lt new is spreads = record {
  reached = λ w h. elim (cases_Bool (w == v)) [
    | inl same ↦ subst (IsReached edges starts) (sym (eqb-true w v same)) is
    | inr other ↦ (let ne : w ≢ v = λ e. (let t : (w == v) ≡ true = eq-eqb w v e in absurd (cc)) in
        spreads.reached w (sym (get_or-set_other s.marked v w true false ne) ∙ h))
  ];
  waits = λ w h. elim (or_cases (is_among s.waiting w) ((v == w) || false) (sym (waits_more s v w) ∙ h)) [
    | inl old ↦ marking_kept s v w lt (spreads.waits w old)
    | inr here ↦ elim (or_cases (v == w) false here) [
      | inl same ↦ (let e = eqb-true v w same in ap (bit_of (set s.marked v true)) (sym e) ∙ get_or-set_same s.marked v true false lt)
      | inr never ↦ absurd (cc)
    ]
  ];
  closed = λ i e at from waits behind. elim (cases_Bool (e.from == v)) [
    | inl same ↦ (let own = eqb-true e.from v same in
        let among : is_among (s.waiting ++ v ∷ []) e.from ≡ true = waits_more s v e.from ∙ or_right (is_among s.waiting e.from) ((v == e.from) || false) (or_left (v == e.from) false (eq-eqb v e.from (sym own))) in absurd (cc))
    | inr other ↦ (
        let ne : e.from ≢ v = λ own. (let t : (e.from == v) ≡ true = eq-eqb e.from v own in absurd (cc)) in
        let was : IsTrue (bit_of s.marked e.from) = sym (get_or-set_other s.marked v e.from true false ne) ∙ from in
        let free : is_among s.waiting e.from ≡ false = elim (cases_Bool (is_among s.waiting e.from)) [
          | inl still ↦ (let t : is_among (s.waiting ++ v ∷ []) e.from ≡ true = waits_more s v e.from ∙ or_left (is_among s.waiting e.from) ((v == e.from) || false) still in absurd (cc))
          | inr gone ↦ gone
        ] in
        marking_kept s v e.to lt (spreads.closed i e at was free behind))
  ];
}

pub noted_spreads : (edges : List Edge) (starts : List ℕ) (s : State) (x link v : ℕ) → v < length s.marked → IsReached edges starts v
    → IsSpreading edges starts s x link → IsSpreading edges starts (noted s v) x link
noted_spreads edges starts s x link v lt is spreads = elim (cases_Bool (bit_of s.marked v)) [
  | inl old ↦ subst (λ t. IsSpreading edges starts t x link) (sym (noted_old s v old)) spreads
  | inr new ↦ subst (λ t. IsSpreading edges starts t x link) (sym (noted_new s v new)) (marking_spreads edges starts s x link v lt new is spreads)
]

pub noted_marks : (s : State) (v : ℕ) → v < length s.marked → IsTrue (bit_of (noted s v).marked v)
noted_marks s v lt = elim (cases_Bool (bit_of s.marked v)) [
  | inl old ↦ ap (λ (t : State). bit_of t.marked v) (noted_old s v old) ∙ old
  | inr new ↦ ap (λ (t : State). bit_of t.marked v) (noted_new s v new) ∙ get_or-set_same s.marked v true false lt
]

pub grows_same : (s : State) → Grows s s
grows_same s = record { as_many = refl; kept = λ w h. h; within = λ h. h; lighter = omega arith }

pub grows_on : (s t u : State) → Grows s t → Grows t u → Grows s u
grows_on s t u a b = record {
  as_many = b.as_many ∙ a.as_many;
  kept = λ w h. b.kept w (a.kept w h);
  within = λ h. b.within (a.within h);
  lighter = (let x = a.lighter in let y = b.lighter in omega arith);
}

marked_less : (marked : List Bool) (v : ℕ) → v < length marked → bit_of marked v ≡ false → sum_by (λ b. cond b 0 2) (set marked v true) + 2 ≡ sum_by (λ b. cond b 0 2) marked
marked_less marked v lt new =
    let f : Bool → ℕ = λ b. cond b 0 2 in
    let sums : sum_by f (set marked v true) + f (get_or marked v false) ≡ sum_by f marked + 0 = sum_by-set f marked v true false lt in
    let two : f (get_or marked v false) ≡ 2 = ap f new in
    omega (arith, sums, two)

marking_grows : (s : State) (v : ℕ) → v < length s.marked → bit_of s.marked v ≡ false → Grows s (marking s v)
marking_grows s v lt new =
    let long : length (set s.marked v true) ≡ length s.marked = length-set s.marked v true in
    record {
      as_many = long;
      kept = λ w h. marking_kept s v w lt h;
      within = λ h. subst (λ n. AllByRecursion (λ w. w < n) (s.waiting ++ v ∷ [])) (sym long) (all_joined (λ w. w < length s.marked) s.waiting (v ∷ []) h (lt, tt));
      lighter = (
          let sums = marked_less s.marked v lt new in
          let more = length-append s.waiting (v ∷ []) in omega arith);
    }

pub noted_grows : (s : State) (v : ℕ) → v < length s.marked → Grows s (noted s v)
noted_grows s v lt = elim (cases_Bool (bit_of s.marked v)) [
  | inl old ↦ subst (Grows s) (sym (noted_old s v old)) (grows_same s)
  | inr new ↦ subst (Grows s) (sym (noted_new s v new)) (marking_grows s v lt new)
]

-- the edge at a link is followed
pub narrowed : (edges : List Edge) (starts : List ℕ) (s : State) (v i : ℕ) (e : Edge) → slice_get edges i ≡ Some e → e.from ≡ v → IsTrue (bit_of s.marked e.to)
    → IsSpreading edges starts s v (i + 1) → IsSpreading edges starts s v (last_from edges i v)
narrowed edges starts s v i e at own done spreads = record {
  reached = spreads.reached;
  waits = spreads.waits;
  closed = λ j f f_at from waits behind. elim (cases_Bool (j == i)) [
    | inl here ↦ (let same : j ≡ i = eqb-true j i here in let eq : Some f ≡ Some e = sym f_at ∙ (ap (slice_get edges) same ∙ at) in
        let fe : f ≡ e = cc in ap (λ (x : Edge). bit_of s.marked x.to) fe ∙ done)
    | inr other ↦ spreads.closed j f f_at from waits (λ f_own. (
        let le = behind f_own in
        let ne : j ≢ i = λ same. (let t : (j == i) ≡ true = eq-eqb j i same in absurd (cc)) in
        elim (cases_lt i j) [
          | inl lt ↦ omega arith
          | inr ge ↦ absurd (last_from_last edges i v j le (below j i ge ne) (from_is edges j f f_at ∙ f_own))
        ]))
  ];
}
  where
    below : (j i : ℕ) → j ≤ i → j ≢ i → j < i
    below j i le ne = omega arith

-- What stands while a chain is followed from its head.
pub record IsFollowing (edges : List Edge) (head link : ℕ) (before now : State) : Type 0 where
  pub in_range : link ≤ length edges
  pub grows : Grows before now
  pub spreads : (starts : List ℕ) (v : ℕ) → (0 < head → from_at edges (head - 1) ≡ v) → IsReached edges starts v
      → IsSpreading edges starts before v head → (0 < link → from_at edges (link - 1) ≡ v) × IsSpreading edges starts now v link

-- a vertex that edges lead to from a reached one is reached
pub reached_on : (edges : List Edge) (starts : List ℕ) (i : ℕ) (e : Edge) → slice_get edges i ≡ Some e → IsReached edges starts e.from → IsReached edges starts e.to
reached_on edges starts i e at is =
    let leads_to : IsTrue (leads edges e.to e.from) = any_at (λ f. (f.to == e.to) && (f.from == e.from)) edges i e at (and_from (e.to == e.to) (e.from == e.from) (eq-eqb e.to e.to refl) (eq-eqb e.from e.from refl)) in
    (e.from ∷ is.0, (leads_to, is.1), is.2)

-- one step along a chain
pub followed : (edges : List Edge) (nexts : List ℕ) (head link i : ℕ) (before s t : State) (e : Edge) → AreLinks edges nexts → i + 1 ≡ link → slice_get edges i ≡ Some e → e.to < length s.marked → t ≡ noted s e.to
    → IsFollowing edges head link before s → IsFollowing edges head (get_or nexts i 0) before t
followed edges nexts head link i before s t e links il at lt is f =
    let within = slice_get_within edges i e at in
    let back : get_or nexts i 0 ≡ last_from edges i (from_at edges i) = links.back i within in
    let grown : Grows s t = subst (Grows s) (sym is) (noted_grows s e.to lt) in
    record {
      in_range = (let le = last_from_le edges i (from_at edges i) in omega arith);
      grows = grows_on before s t f.grows grown;
      spreads = λ starts v own reached spreading. (
          let now = f.spreads starts v own reached spreading in
          let one : link - 1 ≡ i = omega arith in
          let leaves : from_at edges i ≡ v = sym (ap (from_at edges) one) ∙ now.0 (omega arith) in
          let e_from : e.from ≡ v = sym (from_is edges i e at) ∙ leaves in
          let to_reached : IsReached edges starts e.to = reached_on edges starts i e at (subst (IsReached edges starts) (sym e_from) reached) in
          let more : IsSpreading edges starts t v link = subst (λ u. IsSpreading edges starts u v link) (sym is) (noted_spreads edges starts s v link e.to lt to_reached now.1) in
          let marked : IsTrue (bit_of t.marked e.to) = ap (λ (u : State). bit_of u.marked e.to) is ∙ noted_marks s e.to lt in
          let last : IsSpreading edges starts t v (last_from edges i v) = narrowed edges starts t v i e at e_from marked (subst (IsSpreading edges starts t v) (sym il) more) in
          let same : get_or nexts i 0 ≡ last_from edges i v = back ∙ ap (last_from edges i) leaves in
          (λ some. ap (λ n. from_at edges (n - 1)) same ∙ last_from_leaves edges i v (subst (λ n. 0 < n) same some), subst (IsSpreading edges starts t v) (sym same) last));
    }

-- a vertex that waited waits no more
pub taken : (edges : List Edge) (starts : List ℕ) (marked : List Bool) (rest : List ℕ) (v : ℕ)
    → IsSpreading edges starts (record { marked = marked; waiting = rest ++ v ∷ [] }) 0 0
    → IsReached edges starts v × IsSpreading edges starts (record { marked = marked; waiting = rest }) v (last_from edges (length edges) v)
taken edges starts marked rest v s =
    let more : (w : ℕ) → is_among (rest ++ v ∷ []) w ≡ (is_among rest w || ((v == w) || false)) = λ w. list_any-append (λ u. u == w) rest (v ∷ []) in
    let own : is_among (rest ++ v ∷ []) v ≡ true = more v ∙ or_right (is_among rest v) ((v == v) || false) (or_left (v == v) false (eq-eqb v v refl)) in (
      s.reached v (s.waits v own),
      record {
        reached = s.reached;
        waits = λ w h. s.waits w (more w ∙ or_left (is_among rest w) ((v == w) || false) h);
        closed = λ i e at from free behind. elim (cases_Bool (v == e.from)) [
          | inl same ↦ (let eq : e.from ≡ v = sym (eqb-true v e.from same) in
              absurd (last_from_last edges (length edges) v i (behind eq) (slice_get_within edges i e at) (from_is edges i e at ∙ eq)))
          | inr other ↦ s.closed i e at from (let o : ((v == e.from) || false) ≡ false = cc in more e.from ∙ (let f = free in cc)) (λ _. omega arith)
        ];
      },
    )

-- following the edges of one that waited
pub turned : (edges : List Edge) (n : ℕ) (heads nexts : List ℕ) (marked : List Bool) (waiting rest : List ℕ) (v : ℕ) (now : State) → waiting ≡ rest ++ v ∷ [] → get_or heads v 0 ≡ last_from edges (length edges) v
    → AllByRecursion (λ w. w < length marked) rest
    → HasFollowed edges (get_or heads v 0) (record { marked = marked; waiting = rest }) now → HasTurned edges (record { marked = marked; waiting = waiting }) now
turned edges n heads nexts marked waiting rest v now split head within f = record {
  as_many = f.grows.as_many;
  kept = f.grows.kept;
  within = f.grows.within within;
  lighter = (let le = f.grows.lighter in let long : length waiting ≡ length rest + 1 = ap length split ∙ length-append rest (v ∷ []) in omega arith);
  spreads = λ starts spreading.
      (let before = taken edges starts marked rest v (subst (λ ws. IsSpreading edges starts (record { marked = marked; waiting = ws }) 0 0) split spreading) in
      let own : 0 < get_or heads v 0 → from_at edges (get_or heads v 0 - 1) ≡ v = λ some. (ap (λ n. from_at edges (n - 1)) head ∙ last_from_leaves edges (length edges) v (subst (λ n. 0 < n) head some)) in
      let after = f.spreads starts v own before.0 (subst (IsSpreading edges starts (record { marked = marked; waiting = rest }) v) (sym head) before.1) in
      record { reached = after.reached; waits = after.waits; closed = λ i e at from free _. after.closed i e at from free (λ _. omega arith) });
}

-- the first item from behind
all_front : (n : ℕ) (xs : List ℕ) (v : ℕ) → AllByRecursion (λ w. w < n) (xs ++ v ∷ []) → AllByRecursion (λ w. w < n) xs × (v < n)
all_front n [] v h = (tt, h.0)
all_front n (x ∷ xs) v h = let rest = all_front n xs v h.1 in ((h.0, rest.0), rest.1)

pub rest_within : (n : ℕ) (waiting rest : List ℕ) (v : ℕ) → waiting ≡ rest ++ v ∷ [] → AllByRecursion (λ w. w < n) waiting → AllByRecursion (λ w. w < n) rest × (v < n)
rest_within n waiting rest v e h = all_front n rest v (subst (AllByRecursion (λ w. w < n)) e h)

-- when no vertex waits, the marked ones are those that are reached
pub ran : (edges : List Edge) (starts : List ℕ) (before now : State) → HasRun edges before now → ((w : ℕ) → IsTrue (is_among starts w) → IsTrue (bit_of before.marked w)) → IsSpreading edges starts before 0 0
    → AreReached (length before.marked) edges starts now.marked
ran edges starts before now run kept spreading =
    let s = run.spreads starts spreading in
    record {
      one_each = run.as_many;
      tells = λ w. (s.reached w, λ is. comes is.0 w is.1 is.2);
    }
  where
    comes : (ws : List ℕ) (w : ℕ) → IsChain (leads edges) w ws → IsTrue (is_among starts (last_of w ws)) → IsTrue (bit_of now.marked w)
    comes [] w chain start = run.kept w (kept w start)
    comes (v ∷ vs) w chain start =
        let s = run.spreads starts spreading in
        let before_it = comes vs v chain.1 start in
        let found = place_of_any (λ (e : Edge). (e.to == w) && (e.from == v)) edges chain.0 in
        let both = and_parts (found.1.to == w) (found.1.from == v) found.3 in
        let to = eqb-true found.1.to w both.0 in
        let from = eqb-true found.1.from v both.1 in
        let none : is_among now.waiting found.1.from ≡ false = ap (λ ws. is_among ws found.1.from) run.done in
        let was : IsTrue (bit_of now.marked found.1.from) = ap (bit_of now.marked) from ∙ before_it in
        sym (ap (bit_of now.marked) to) ∙ s.closed found.0 found.1 found.2 was none (λ _. omega arith)
