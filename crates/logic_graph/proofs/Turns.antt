-- The steps of the search.
use Rattle.std.proofs.Common.{◌≡◌, ◌≢◌, ◌<◌, ◌≤◌, ◌+◌, ◌-◌, ◌==◌, ◌++◌, ◌⊎◌, ℕ, zero, suc, Bool, true, false, ◌||◌, ◌&&◌, cond, List, [], ◌∷◌, Some, None, IsTrue, refl, sym, ap, ◌∙◌, inl, inr, arith, length, subst, map, take, get_or, count_by, slice_set, eq-eqb, sum_by, nat_lt}
use Rattle.std.specs.List.{list_any, list_all}
use Rattle.std.proofs.lemmas.Bool.{cases_Bool, eqb-true, ne_eqb, cases_eq, or_cases, or_left, or_right, or_parts, and_from, and_parts}
use Rattle.std.proofs.lemmas.List.{get_or-set_same, get_or-set_other, map-append}
use Rattle.std.proofs.lemmas.List.Folds.{list_any-append}
use Rattle.std.proofs.lemmas.List.Sums.{sum_by-set}
use Rattle.std.proofs.lemmas.Option.{get_or_from_slice_get, slice_get_within, slice_get-get_or}
use Rattle.std.proofs.Math.ListN.{length-set}
use Rattle.std.proofs.Math.Seq.{take-suc, take-length}
use Rattle.agm_net.specs.Formula.{stands, reads_below, f_zero}
use Rattle.agm_net.specs.declared.expr.Equation.{Equation}
use Rattle.agm_net.specs.Plain.{Line, line_of}
use Rattle.agm_net.specs.Loop.{IsChain, last_of, reads_in}
use Rattle.agm_net.proofs.Lists.{all_joined, any_at, count_append, count_no, count_yes, some_counted}
use Rattle.agm_net.specs.Small.{IsFresh}
use Rattle.logic_graph.specs.declared.search.Mark.{Mark}
use Rattle.logic_graph.specs.declared.search.Mark.TheVariants.{New, Open, Done}
use Rattle.logic_graph.specs.Searching.{is_set, is_unset, line_at, steps_left, left_at, number_in, new_number, waiting, from_first, State, opened, closed, IsPath, IsSearch, NoneBack, HasTurned, IsLoopIn, IsLastOpen, IsAwaited, IsAt, fit}
use Rattle.logic_graph.proofs.Fresh.{fresh_more}
use Rattle.logic_graph.proofs.Waiting.{reads_done, waits_for}

-- a wire that is not done has a mark
pub left_within : (marks : List Mark) (w : ℕ) → 0 < left_at marks w → w < length marks
left_within [] w some = absurd (omega arith)
left_within (m ∷ ms) zero some = omega arith
left_within (m ∷ ms) (suc w) some = let rest = left_within ms w some in omega arith

-- a new mark
left_same : (marks : List Mark) (w : ℕ) (m : Mark) → w < length marks → left_at (slice_set marks w m) w ≡ steps_left m
left_same marks w m lt = ap steps_left (get_or-set_same marks w m Done lt)

left_other : (marks : List Mark) (w v : ℕ) (m : Mark) → v ≢ w → left_at (slice_set marks w m) v ≡ left_at marks v
left_other marks w v m apart = ap steps_left (get_or-set_other marks w v m Done apart)

-- marks with one that has fewer steps left
none_back : (marks : List Mark) (w : ℕ) (m : Mark) → w < length marks → steps_left m ≤ left_at marks w → NoneBack marks (slice_set marks w m)
none_back marks w m lt le v =
    elim (cases_eq v w) [
      | inl same ↦ (let e : left_at (slice_set marks w m) v ≡ steps_left m = subst (λ u. left_at (slice_set marks w m) u ≡ steps_left m) (sym same) (left_same marks w m lt) in let f = ap (left_at marks) same in omega arith)
      | inr apart ↦ (let e = left_other marks w v m apart in omega arith)
    ]

less_left : (marks : List Mark) (w : ℕ) (m : Mark) → w < length marks → steps_left m < left_at marks w → sum_by steps_left (slice_set marks w m) < sum_by steps_left marks
less_left marks w m lt less = let e = sum_by-set steps_left marks w m Done lt in omega arith

-- a path without its last wire
path_front : (related : ℕ → ℕ → Bool) (front : List ℕ) (w : ℕ) → IsPath related (front ++ w ∷ []) → IsPath related front
path_front related [] w h = tt
path_front related (p ∷ ps) w h = chain_front p ps h
  where
    chain_front : (p : ℕ) (ps : List ℕ) → IsChain related p (ps ++ w ∷ []) → IsChain related p ps
    chain_front p [] h = tt
    chain_front p (q ∷ qs) h = (h.0, chain_front q qs h.1)

-- a path with one wire more that the last one reads
path_more : (related : ℕ → ℕ → Bool) (front : List ℕ) (w v : ℕ) → IsPath related (front ++ w ∷ []) → IsTrue (related w v) → IsPath related ((front ++ w ∷ []) ++ v ∷ [])
path_more related [] w v h r = (r, tt)
path_more related (p ∷ ps) w v h r = chain_more p ps h
  where
    chain_more : (p : ℕ) (ps : List ℕ) → IsChain related p (ps ++ w ∷ []) → IsChain related p ((ps ++ w ∷ []) ++ v ∷ [])
    chain_more p [] h = (h.0, (r, tt))
    chain_more p (q ∷ qs) h = (h.0, chain_more q qs h.1)

-- the loop that the last wire of a path closes
pub loop_closed : (related : ℕ → ℕ → Bool) (front : List ℕ) (w v : ℕ) → IsPath related (front ++ w ∷ []) → IsTrue (related w v) → IsTrue (list_any (λ p. p == v) (front ++ w ∷ []))
    → (u : ℕ) × (us : List ℕ) × (from_first v (front ++ w ∷ []) ≡ u ∷ us) × IsChain related u us × IsTrue (related (last_of u us) u)
loop_closed related [] w v h r any =
    elim (or_cases (w == v) false any) [
      | inl same ↦ (w, [], rw same refl, tt, subst (λ x. IsTrue (related w x)) (sym (eqb-true w v same)) r)
      | inr none ↦ absurd (let no : false ≡ true = none in cc)
    ]
loop_closed related (p ∷ ps) w v h r any =
    elim (cases_Bool (p == v)) [
      | inl same ↦ (p, ps ++ w ∷ [], rw same refl, h, subst (λ x. IsTrue (related (last_of p (ps ++ w ∷ [])) x)) (sym (eqb-true p v same)) (subst (λ x. IsTrue (related x v)) (sym (last_is p ps)) r))
      | inr apart ↦ rw apart (loop_closed related ps w v (path_rest p (ps ++ w ∷ []) h) r (or_other (p == v) (list_any (λ q. q == v) (ps ++ w ∷ [])) apart any))
    ]
  where
    last_is : (p : ℕ) (ps : List ℕ) → last_of p (ps ++ w ∷ []) ≡ w
    last_is p [] = refl
    last_is p (q ∷ qs) = last_is q qs

    path_rest : (p : ℕ) (ps : List ℕ) → IsPath related (p ∷ ps) → IsPath related ps
    path_rest p [] h = tt
    path_rest p (q ∷ qs) h = h.1

    or_other : (a b : Bool) → a ≡ false → IsTrue (a || b) → IsTrue b
    or_other true b fails any = absurd (cc)
    or_other false b fails any = any

-- 1 for an open wire
abbrev once : ℕ → ℕ
once n = cond (n == 1) 1 0

-- the last wire of the path is open
pub last_is_open : (lines : List Line) (s : State) (w : ℕ) → IsSearch lines s → 0 < length s.path → w ≡ get_or s.path (length s.path - 1) w → IsLastOpen s w
last_is_open lines s w h some is =
    let n = length s.path - 1 in
    let whole : take (suc n) s.path ≡ s.path = (let all : suc n ≡ length s.path = omega arith in ap (λ k. take k s.path) all ∙ take-length s.path) in
    let cut : s.path ≡ take n s.path ++ w ∷ [] = sym whole ∙ (take-suc s.path n w (omega arith) ∙ ap (λ u. take n s.path ++ u ∷ []) (sym is)) in
    let counts : count_by (λ p. p == w) s.path ≡ count_by (λ p. p == w) (take n s.path) + count_by (λ p. p == w) (w ∷ []) =
    ap (count_by (λ p. p == w)) cut ∙ count_append (λ p. p == w) (take n s.path) (w ∷ []) in
    let own = count_yes (λ p. p == w) w [] (eq-eqb w w refl) in
    let open_once : count_by (λ p. p == w) s.path ≡ once (left_at s.marks w) = h.open_once w in
    let is_open : left_at s.marks w ≡ 1 = once_one (left_at s.marks w) (omega arith) in
    record { within = left_within s.marks w (omega arith); is_open = is_open; cut = cut }
  where
    once_one : (n : ℕ) → 0 < once n → n ≡ 1
    once_one n some = elim (cases_Bool (n == 1)) [ inl same ↦ eqb-true n 1 same | inr other ↦ absurd (let none : once n ≡ 0 = rw other refl in omega arith) ]

-- what stands in a search at the wire of an equation
record IsMarkedAt (lines : List Line) (s : State) (w i : ℕ) : Type 0 where
  within : w < length s.marks
  placed : i < length lines
  own : (line_at lines i).0 ≡ w
  set : IsTrue (is_set lines w)

at_open : (lines : List Line) (s : State) (w i : ℕ) → IsSearch lines s → number_in (get_or s.marks w Done) ≡ Some i → 0 < left_at s.marks w → IsMarkedAt lines s w i
at_open lines s w i h number some =
    let found = h.numbered w i number in
    let is : line_at lines i ≡ found.0 = get_or_from_slice_get lines i found.0 _ found.1 in
    record {
      within = left_within s.marks w some;
      placed = slice_get_within lines i found.0 found.1;
      own = ap (λ (l : Line). l.0) is ∙ found.2;
      set = any_at (λ l. l.0 == w) lines i found.0 found.1 (eq-eqb found.0.0 w found.2);
    }

-- the last open wire closes, as it waits for nothing
pub closes : (lines : List Line) (s : State) (front : List ℕ) (w i : ℕ) → IsSearch lines s → s.path ≡ front ++ w ∷ [] → take (length s.path - 1) s.path ≡ front
    → get_or s.marks w Done ≡ Open i → waiting s.marks (line_at lines i).1 ≡ None → HasTurned lines s (closed s w i)
closes lines s front w i h cut rest mark none =
    let left : left_at s.marks w ≡ 1 = ap steps_left mark in
    let at = at_open lines s w i h (ap number_in mark) (omega arith) in
    let picked = map (line_at lines) s.order in
    let l = line_at lines i in
    let more : map (line_at lines) (s.order ++ i ∷ []) ≡ picked ++ l ∷ [] = map-append (line_at lines) s.order (i ∷ []) in
    let not_done : (is_set picked w || is_unset lines w) ≡ false = sym (h.is_done w) ∙ ap (λ n. n == 0) left in
    let parts = or_parts (is_set picked w) (is_unset lines w) not_done in
    let reads : (v : ℕ) → IsTrue (stands v l.1) → IsTrue (is_unset lines v) ⊎ IsTrue (is_set picked v) = λ v stood.
    (let done : left_at s.marks v ≡ 0 = reads_done s.marks l.1 v none stood in
    elim (or_cases (is_set picked v) (is_unset lines v) (sym (h.is_done v) ∙ ap (λ n. n == 0) done)) [ inl in_order ↦ inr in_order | inr free ↦ inl free ]) in
    let last : slice_set s.marks w Done ≡ slice_set s.marks w Done = refl in
    record {
      searched = record {
        numbered = λ v j number. elim (cases_eq v w) [
          | inl same ↦ absurd (let gone : get_or (slice_set s.marks w Done) v Done ≡ Done = subst (λ u. get_or (slice_set s.marks w Done) u Done ≡ Done) (sym same) (get_or-set_same s.marks w Done Done at.within) in
              let no : None ≡ Some j = ap number_in (sym gone) ∙ number in cc)
          | inr apart ↦ h.numbered v j (ap number_in (sym (get_or-set_other s.marks w v Done Done apart)) ∙ number)
        ];
        fresh = subst (IsFresh (is_unset lines)) (sym more) (fresh_more (is_unset lines) picked l h.fresh (ap (is_unset lines) at.own ∙ parts.1) (ap (is_set picked) at.own ∙ parts.0) reads);
        within = all_joined (λ j. j < length lines) s.order (i ∷ []) h.within (at.placed, tt);
        is_done = λ v.
            let joined : is_set (map (line_at lines) (s.order ++ i ∷ [])) v ≡ (is_set picked v || ((l.0 == v) || false)) = ap (λ ls. is_set ls v) more ∙ list_any-append (λ k. k.0 == v) picked (l ∷ []) in
            elim (cases_eq v w) [
              | inl same ↦ (
                  let here : left_at (slice_set s.marks w Done) v ≡ 0 = subst (λ u. left_at (slice_set s.marks w Done) u ≡ 0) (sym same) (left_same s.marks w Done at.within) in
                  let own : (l.0 == v) ≡ true = eq-eqb l.0 v (at.own ∙ sym same) in
                  let set : IsTrue (is_set (map (line_at lines) (s.order ++ i ∷ [])) v || is_unset lines v) =
                  or_left (is_set (map (line_at lines) (s.order ++ i ∷ [])) v) (is_unset lines v) (joined ∙ or_right (is_set picked v) ((l.0 == v) || false) (or_left (l.0 == v) false own)) in
                  ap (λ n. n == 0) here ∙ sym set)
              | inr apart ↦ (
                  let other : (l.0 == v) ≡ false = ne_eqb l.0 v (λ e. apart (sym e ∙ at.own)) in
                  let same : is_set (map (line_at lines) (s.order ++ i ∷ [])) v ≡ is_set picked v = joined ∙ (ap (λ b. is_set picked v || (b || false)) other ∙ or_false (is_set picked v)) in
                  ap (λ n. n == 0) (left_other s.marks w v Done apart) ∙ (h.is_done v ∙ ap (λ b. b || is_unset lines v) (sym same)))
            ];
        path = subst (IsPath (reads_in lines)) (sym rest) (path_front (reads_in lines) front w (subst (IsPath (reads_in lines)) cut h.path));
        open_once = λ v.
            let counts : count_by (λ p. p == v) s.path ≡ count_by (λ p. p == v) front + count_by (λ p. p == v) (w ∷ []) = ap (count_by (λ p. p == v)) cut ∙ count_append (λ p. p == v) front (w ∷ []) in
            let before = h.open_once v in
            ap (count_by (λ p. p == v)) rest
            ∙ elim (cases_eq v w) [
              | inl same ↦ (
                  let one = count_yes (λ p. p == v) w [] (eq-eqb w v (sym same)) in
                  let was : once (left_at s.marks v) ≡ 1 = ap once (ap (left_at s.marks) same ∙ left) in
                  let now : left_at (slice_set s.marks w Done) v ≡ 0 = subst (λ u. left_at (slice_set s.marks w Done) u ≡ 0) (sym same) (left_same s.marks w Done at.within) in
                  let none_left : count_by (λ p. p == v) front ≡ 0 = omega arith in
                  none_left ∙ sym (ap once now))
              | inr apart ↦ (
                  let no = count_no (λ p. p == v) w [] (ne_eqb w v (λ e. apart (sym e))) in
                  let as_many : count_by (λ p. p == v) front ≡ count_by (λ p. p == v) s.path = omega arith in
                  as_many ∙ (before ∙ sym (ap once (left_other s.marks w v Done apart))))
            ];
      };
      none_back = none_back s.marks w Done at.within (omega arith);
      less = less_left s.marks w Done at.within (omega arith);
      as_many = length-set s.marks w Done;
    }
  where
    or_false : (b : Bool) → (b || (false || false)) ≡ b
    or_false true = refl
    or_false false = refl

-- a new wire opens at the end of the path
pub opens : (lines : List Line) (s : State) (w i : ℕ) → IsSearch lines s → get_or s.marks w Done ≡ New i → IsPath (reads_in lines) (s.path ++ w ∷ []) → HasTurned lines s (opened s w i)
opens lines s w i h mark path =
    let left : left_at s.marks w ≡ 2 = ap steps_left mark in
    let at = at_open lines s w i h (ap number_in mark) (omega arith) in
    let now = slice_set s.marks w (Open i) in
    let here : (v : ℕ) → v ≡ w → left_at now v ≡ 1 = λ v same. subst (λ u. left_at now u ≡ 1) (sym same) (left_same s.marks w (Open i) at.within) in
    record {
      searched = record {
        numbered = λ v j number. elim (cases_eq v w) [
          | inl same ↦ (
              let is : get_or now v Done ≡ Open i = subst (λ u. get_or now u Done ≡ Open i) (sym same) (get_or-set_same s.marks w (Open i) Done at.within) in
              let equal : Some i ≡ Some j = ap number_in (sym is) ∙ number in
              h.numbered v j (ap number_in (ap (λ u. get_or s.marks u Done) same ∙ mark) ∙ equal))
          | inr apart ↦ h.numbered v j (ap number_in (sym (get_or-set_other s.marks w v (Open i) Done apart)) ∙ number)
        ];
        fresh = h.fresh;
        within = h.within;
        is_done = λ v. elim (cases_eq v w) [
          | inl same ↦ (let two : left_at s.marks v ≡ 2 = ap (left_at s.marks) same ∙ left in ap (λ n. n == 0) (here v same) ∙ (sym (ap (λ n. n == 0) two) ∙ h.is_done v))
          | inr apart ↦ ap (λ n. n == 0) (left_other s.marks w v (Open i) apart) ∙ h.is_done v
        ];
        path = path;
        open_once = λ v.
            let counts = count_append (λ p. p == v) s.path (w ∷ []) in
            let before = h.open_once v in
            elim (cases_eq v w) [
              | inl same ↦ (
                  let one = count_yes (λ p. p == v) w [] (eq-eqb w v (sym same)) in
                  let was : once (left_at s.marks v) ≡ 0 = ap once (ap (left_at s.marks) same ∙ left) in
                  let all : count_by (λ p. p == v) (s.path ++ w ∷ []) ≡ 1 = omega arith in
                  all ∙ sym (ap once (here v same)))
              | inr apart ↦ (
                  let no = count_no (λ p. p == v) w [] (ne_eqb w v (λ e. apart (sym e))) in
                  let as_many : count_by (λ p. p == v) (s.path ++ w ∷ []) ≡ count_by (λ p. p == v) s.path = omega arith in
                  as_many ∙ (before ∙ sym (ap once (left_other s.marks w v (Open i) apart))))
            ];
      };
      none_back = none_back s.marks w (Open i) at.within (omega arith);
      less = less_left s.marks w (Open i) at.within (omega arith);
      as_many = length-set s.marks w (Open i);
    }

-- what an equation reads
pub reads_line : (lines : List Line) (i w v : ℕ) → i < length lines → (line_at lines i).0 ≡ w → IsTrue (stands v (line_at lines i).1) → IsTrue (reads_in lines w v)
reads_line lines i w v lt own stood =
    any_at (λ l. (l.0 == w) && stands v l.1) lines i (line_at lines i) (slice_get-get_or lines i _ lt) (and_from ((line_at lines i).0 == w) (stands v (line_at lines i).1) (eq-eqb (line_at lines i).0 w own) stood)

-- where all pass, the one at a place does
pub all_pass_at : {X : Type 0} (test : X → Bool) (xs : List X) (n : ℕ) (d : X) → n < length xs → IsTrue (list_all test xs) → IsTrue (test (get_or xs n d))
all_pass_at test [] n d lt h = absurd (omega arith)
all_pass_at test (x ∷ xs) zero d lt h = (and_parts (test x) (list_all test xs) h).0
all_pass_at test (x ∷ xs) (suc n) d lt h = all_pass_at test xs n d (omega arith) (and_parts (test x) (list_all test xs) h).1

-- an open wire that is awaited closes a loop
pub closes_loop : (lines : List Line) (s : State) (v : ℕ) → IsSearch lines s → IsAwaited lines s v → new_number (get_or s.marks v Done) ≡ None → IsLoopIn lines (from_first v s.path)
closes_loop lines s v h awaited old =
    let front = take (length s.path - 1) s.path in
    let reader = awaited.reader in
    let w = reader.0 in
    let left : left_at s.marks v ≡ 1 = not_new_left (get_or s.marks v Done) old awaited.is_left in
    let open_once : count_by (λ p. p == v) s.path ≡ once (left_at s.marks v) = h.open_once v in
    let one : once (left_at s.marks v) ≡ 1 = ap once left in
    let any : IsTrue (list_any (λ p. p == v) s.path) = some_counted (λ p. p == v) s.path (omega arith) in
    let found = loop_closed (reads_in lines) front w v (subst (IsPath (reads_in lines)) reader.1 h.path) reader.2 (subst (λ ps. IsTrue (list_any (λ p. p == v) ps)) reader.1 any) in
    subst (IsLoopIn lines) (sym (ap (from_first v) reader.1 ∙ found.2)) (found.3, found.4)
  where
    not_new_left : (m : Mark) → new_number m ≡ None → 0 < steps_left m → steps_left m ≡ 1
    not_new_left (New i) old some = absurd (cc)
    not_new_left (Open i) old some = refl
    not_new_left Done old some = absurd (omega arith)

-- what stands in a search at an open wire
pub at_number : (lines : List Line) (s : State) (w i : ℕ) → IsTrue (fit (length s.marks) lines) → IsSearch lines s → get_or s.marks w Done ≡ Open i → IsAt lines s w i
at_number lines s w i fits h mark =
    let left : left_at s.marks w ≡ 1 = ap steps_left mark in
    let at = at_open lines s w i h (ap number_in mark) (omega arith) in
    let n = length s.marks in
    let both = and_parts (nat_lt (line_at lines i).0 n) (reads_below n (line_at lines i).1) (all_pass_at (λ l. nat_lt l.0 n && reads_below n l.1) lines i (0, f_zero) at.placed fits) in
    record { within = at.within; placed = at.placed; own = at.own; mark = mark; reads = both.1 }

-- the last open wire waits for one more
pub awaits : (lines : List Line) (s : State) (w i v : ℕ) → IsAt lines s w i → IsLastOpen s w → waiting s.marks (line_at lines i).1 ≡ Some v → IsAwaited lines s v
awaits lines s w i v at last is =
    let found = waits_for s.marks (line_at lines i).1 v is in
    record { within = left_within s.marks v found.1; is_left = found.1; reader = (w, last.cut, reads_line lines i w v at.placed at.own found.0) }

-- the last open wire waits for none
pub awaits_none : (lines : List Line) (s : State) (w i : ℕ) → IsSearch lines s → IsAt lines s w i → IsLastOpen s w → waiting s.marks (line_at lines i).1 ≡ None → HasTurned lines s (closed s w i)
awaits_none lines s w i h at last is = closes lines s (take (length s.path - 1) s.path) w i h last.cut refl at.mark is

-- a new mark with a number
pub is_new : (m : Mark) (j : ℕ) → new_number m ≡ Some j → m ≡ New j
is_new (New i) j h = let same : i ≡ j = cc in ap New same
is_new (Open i) j h = absurd (cc)
is_new Done j h = absurd (cc)

-- an awaited wire that is new opens
pub awaited_opens : (lines : List Line) (s : State) (v j : ℕ) → IsSearch lines s → IsAwaited lines s v → new_number (get_or s.marks v Done) ≡ Some j → HasTurned lines s (opened s v j)
awaited_opens lines s v j h awaited mark =
    let reader = awaited.reader in
    let front = take (length s.path - 1) s.path in
    let path = path_more (reads_in lines) front reader.0 v (subst (IsPath (reads_in lines)) reader.1 h.path) reader.2 in
    opens lines s v j h (is_new (get_or s.marks v Done) j mark) (subst (λ ps. IsPath (reads_in lines) (ps ++ v ∷ [])) (sym reader.1) path)

-- the equation at a place
pub line_is : (es : List Equation) (i : ℕ) (e : Equation) → i < length es → line_at (map line_of es) i ≡ line_of (get_or es i e)
line_is [] i e lt = absurd (omega arith)
line_is (x ∷ xs) zero e lt = refl
line_is (x ∷ xs) (suc i) e lt = line_is xs i e (omega arith)
