-- The search at its start and at its end.
use Rattle.std.proofs.Common.{◌≡◌, ◌<◌, ◌≤◌, ◌+◌, ◌==◌, ℕ, zero, suc, true, false, not, ◌||◌, ◌&&◌, cond, List, [], ◌∷◌, Some, None, IsTrue, refl, sym, ap, ◌∙◌, inl, inr, arith, length, subst, map, get_or, count_by, replicate, slice_get, slice_set, eq-eqb, nat_lt, ltb-true, zero-add}
use Rattle.std.specs.List.{list_any, list_all, AllByRecursion}
use Rattle.std.proofs.lemmas.Bool.{cases_Bool, eqb-true, or_cases, or_left, or_right, or_parts, and_parts, and_from}
use Rattle.std.proofs.lemmas.List.{get_or-set_same, get_or-set_other, length-replicate}
use Rattle.std.proofs.Math.ListN.{length-set}
use Rattle.std.proofs.lemmas.Option.{slice_get-get_or}
use Rattle.agm_net.specs.Formula.{reads_below, formula_of}
use Rattle.agm_net.specs.Plain.{Line, line_of}
use Rattle.agm_net.specs.declared.expr.Equation.{Equation}
use Rattle.agm_net.proofs.Lists.{any_at, count_no, count_some, count_yes}
use Rattle.logic_graph.specs.declared.search.Mark.{Mark}
use Rattle.logic_graph.specs.declared.search.Mark.TheVariants.{New, Done}
use Rattle.logic_graph.specs.Searching.{is_set, is_unset, line_at, steps_left, left_at, number_in, marked, State, IsSearch, IsOrder, fit}

-- equations for wires below n
pub wires_fit : (n : ℕ) (es : List Equation) → IsTrue (fit n (map line_of es)) → IsTrue (list_all (λ e. nat_lt e.wire n) es)
wires_fit n [] h = refl
wires_fit n (e ∷ es) h =
    let parts = and_parts (nat_lt e.wire n && reads_below n (formula_of e.expr)) (fit n (map line_of es)) h in
    let both = and_parts (nat_lt e.wire n) (reads_below n (formula_of e.expr)) parts.0 in
    and_from (nat_lt e.wire n) (list_all (λ x. nat_lt x.wire n) es) both.0 (wires_fit n es parts.1)

-- a wire that no equation is for keeps its mark
unmarked : (i : ℕ) (ls : List Line) (marks : List Mark) (w : ℕ) → is_set ls w ≡ false → get_or (marked i ls marks) w Done ≡ get_or marks w Done
unmarked i [] marks w unset = refl
unmarked i (l ∷ ls) marks w unset =
    let parts = or_parts (l.0 == w) (is_set ls w) unset in
    unmarked (i + 1) ls (slice_set marks l.0 (New i)) w parts.1
    ∙ get_or-set_other marks l.0 w (New i) Done (λ same. let is : (l.0 == w) ≡ true = eq-eqb l.0 w (sym same) in let no : true ≡ false = sym is ∙ parts.0 in cc)

-- the wire of an equation is marked with its number
marked_new : (i : ℕ) (ls : List Line) (marks : List Mark) (w : ℕ) → IsTrue (fit (length marks) ls) → IsTrue (is_set ls w)
    → (k : ℕ) × (l : Line) × (get_or (marked i ls marks) w Done ≡ New (i + k)) × (slice_get ls k ≡ Some l) × (l.0 ≡ w)
marked_new i [] marks w fits set = absurd (let no : false ≡ true = set in cc)
marked_new i (l ∷ ls) marks w fits set =
    let parts = and_parts (nat_lt l.0 (length marks) && reads_below (length marks) l.1) (fit (length marks) ls) fits in
    let both = and_parts (nat_lt l.0 (length marks)) (reads_below (length marks) l.1) parts.0 in
    elim (cases_Bool (is_set ls w)) [
      | inl later ↦ (
          let rest = marked_new (i + 1) ls (slice_set marks l.0 (New i)) w (subst (λ n. IsTrue (fit n ls)) (sym (length-set marks l.0 (New i))) parts.1) later in
          let k = rest.0 in
          let number : i + 1 + k ≡ i + suc k = omega arith in
          (suc k, rest.1, rest.2 ∙ ap New number, rest.3, rest.4))
      | inr unset ↦ (
          let here : l.0 ≡ w = elim (or_cases (l.0 == w) (is_set ls w) set) [ inl same ↦ eqb-true l.0 w same | inr later ↦ absurd (let no : true ≡ false = sym later ∙ unset in cc) ] in
          let number : i ≡ i + 0 = omega arith in
          let mark : get_or (slice_set marks l.0 (New i)) w Done ≡ New i = subst (λ u. get_or (slice_set marks l.0 (New i)) u Done ≡ New i) here (get_or-set_same marks l.0 (New i) Done (ltb-true l.0 (length marks) both.0)) in
          (0, l, unmarked (i + 1) ls (slice_set marks l.0 (New i)) w unset ∙ (mark ∙ ap New number), refl, here))
    ]

-- marking keeps their number
pub length-marked : (i : ℕ) (ls : List Line) (marks : List Mark) → length (marked i ls marks) ≡ length marks
length-marked i [] marks = refl
length-marked i (l ∷ ls) marks = length-marked (i + 1) ls (slice_set marks l.0 (New i)) ∙ length-set marks l.0 (New i)

-- a row of done marks
all_done : (n w : ℕ) → get_or (replicate n Done) w Done ≡ Done
all_done zero w = refl
all_done (suc n) zero = refl
all_done (suc n) (suc w) = all_done n w

-- what stands at the start
pub starts : (lines : List Line) (n : ℕ) → IsTrue (fit n lines) → IsSearch lines (record { marks = marked 0 lines (replicate n Done); path = []; order = [] })
starts lines n fits =
    let marks = marked 0 lines (replicate n Done) in
    let fits' : IsTrue (fit (length (replicate n Done)) lines) = subst (λ k. IsTrue (fit k lines)) (sym (length-replicate n Done)) fits in
    let found = λ (w : ℕ) (set : IsTrue (is_set lines w)). marked_new 0 lines (replicate n Done) w fits' set in
    let free = λ (w : ℕ) (unset : is_set lines w ≡ false). unmarked 0 lines (replicate n Done) w unset ∙ all_done n w in
    record {
      numbered = λ w i number. elim (cases_Bool (is_set lines w)) [
        | inl set ↦ (
            let at = found w set in
            let equal : Some (0 + at.0) ≡ Some i = ap number_in (sym at.2) ∙ number in
            let same : 0 + at.0 ≡ i = cc in
            (at.1, subst (λ k. slice_get lines k ≡ Some at.1) (sym (zero-add at.0) ∙ same) at.3, at.4))
        | inr unset ↦ absurd (let no : None ≡ Some i = ap number_in (sym (free w unset)) ∙ number in cc)
      ];
      fresh = tt;
      within = tt;
      is_done = λ w. elim (cases_Bool (is_set lines w)) [
        | inl set ↦ (let at = found w set in let two : left_at marks w ≡ 2 = ap steps_left at.2 in ap (λ k. k == 0) two ∙ sym (ap not set))
        | inr unset ↦ (let none : left_at marks w ≡ 0 = ap steps_left (free w unset) in ap (λ k. k == 0) none ∙ sym (ap not unset))
      ];
      path = tt;
      open_once = λ w. elim (cases_Bool (is_set lines w)) [
        | inl set ↦ (let at = found w set in let two : left_at marks w ≡ 2 = ap steps_left at.2 in sym (ap one_if two))
        | inr unset ↦ (let none : left_at marks w ≡ 0 = ap steps_left (free w unset) in sym (ap one_if none))
      ];
    }
  where
    one_if : ℕ → ℕ
    one_if k = cond (k == 1) 1 0

-- each wire has one equation at most
only_line : (lines : List Line) (w i j : ℕ) → count_by (λ l. l.0 == w) lines ≤ 1 → i < length lines → j < length lines → (line_at lines i).0 ≡ w → (line_at lines j).0 ≡ w → i ≡ j
only_line [] w i j once lt ltj at atj = absurd (omega arith)
only_line (l ∷ ls) w zero zero once lt ltj at atj = refl
only_line (l ∷ ls) w zero (suc j) once lt ltj at atj =
    let one = count_yes (λ k. k.0 == w) l ls (eq-eqb l.0 w at) in
    let more = count_some (λ k. k.0 == w) ls (any_at (λ k. k.0 == w) ls j (line_at ls j) (slice_get-get_or ls j _ (omega arith)) (eq-eqb (line_at ls j).0 w atj)) in
    absurd (omega arith)
only_line (l ∷ ls) w (suc i) zero once lt ltj at atj =
    let one = count_yes (λ k. k.0 == w) l ls (eq-eqb l.0 w atj) in
    let more = count_some (λ k. k.0 == w) ls (any_at (λ k. k.0 == w) ls i (line_at ls i) (slice_get-get_or ls i _ (omega arith)) (eq-eqb (line_at ls i).0 w at)) in
    absurd (omega arith)
only_line (l ∷ ls) w (suc i) (suc j) once lt ltj at atj =
    let fewer : count_by (λ k. k.0 == w) ls ≤ count_by (λ k. k.0 == w) (l ∷ ls) = elim (cases_Bool (l.0 == w)) [
      | inl same ↦ (let one = count_yes (λ k. k.0 == w) l ls same in omega arith)
      | inr apart ↦ (let one = count_no (λ k. k.0 == w) l ls apart in omega arith)
    ] in
    ap suc (only_line ls w i j (omega arith) (omega arith) (omega arith) at atj)

-- the equation of a wire in an order is that of the wire
found_in_order : (lines : List Line) (w i : ℕ) → count_by (λ l. l.0 == w) lines ≤ 1 → i < length lines → (line_at lines i).0 ≡ w → (order : List ℕ)
    → AllByRecursion (λ j. j < length lines) order → IsTrue (is_set (map (line_at lines) order) w) → IsTrue (list_any (λ j. j == i) order)
found_in_order lines w i once lt at [] within set = absurd (let no : false ≡ true = set in cc)
found_in_order lines w i once lt at (j ∷ js) within set =
    elim (or_cases ((line_at lines j).0 == w) (is_set (map (line_at lines) js) w) set) [
      | inl here ↦ or_left (j == i) (list_any (λ k. k == i) js) (eq-eqb j i (only_line lines w j i once within.0 lt (eqb-true (line_at lines j).0 w here) at))
      | inr later ↦ or_right (j == i) (list_any (λ k. k == i) js) (found_in_order lines w i once lt at js within.1 later)
    ]

-- a search that has done each equation's wire has an order
pub ends : (lines : List Line) (s : State) → ((w : ℕ) → count_by (λ l. l.0 == w) lines ≤ 1) → IsSearch lines s → ((i : ℕ) → i < length lines → left_at s.marks (line_at lines i).0 ≡ 0) → IsOrder lines s.order
ends lines s once h done =
    record {
      fresh = h.fresh;
      within = h.within;
      whole = λ i lt.
          let w = (line_at lines i).0 in
          let picked = map (line_at lines) s.order in
          let set : IsTrue (is_set lines w) = any_at (λ l. l.0 == w) lines i (line_at lines i) (slice_get-get_or lines i _ lt) (eq-eqb w w refl) in
          let either : IsTrue (is_set picked w || is_unset lines w) = sym (h.is_done w) ∙ ap (λ k. k == 0) (done i lt) in
          let in_order : IsTrue (is_set picked w) = elim (or_cases (is_set picked w) (is_unset lines w) either) [ inl here ↦ here | inr unset ↦ absurd (let no : false ≡ true = sym (ap not set) ∙ unset in cc) ] in
          found_in_order lines w i (once w) lt refl s.order h.within in_order;
    }
