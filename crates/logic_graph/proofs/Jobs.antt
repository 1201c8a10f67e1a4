-- What drawing equations in an order adds, and what it leaves.
use Rattle.std.proofs.Common.{◌≡◌, ◌<◌, ◌≤◌, ◌+◌, ◌==◌, ◌++◌, ℕ, zero, suc, Bool, ◌||◌, List, [], ◌∷◌, Some, IsTrue, refl, sym, ap, ap₂, ◌∙◌, subst, inl, inr, length, length-append, slice_get, slice_set, get_or, map, arith, append_assoc, append-nil, eq-eqb, flat_map}
use Rattle.std.specs.List.{range_with_len, AllByRecursion}
use Rattle.std.proofs.lemmas.Bool.{cases_eq, or_left, or_right, both_ways}
use Rattle.std.proofs.lemmas.List.{get_or-set_same, get_or-set_other}
use Rattle.std.proofs.Math.ListN.{length-set}
use Rattle.agm_net.specs.Formula.{Formula, f_zero, f_one, f_wire, f_not, f_and, f_or, f_xor, f_mux, stands}
use Rattle.agm_net.specs.Plain.{Line}
use Rattle.agm_net.specs.Small.{IsFresh}
use Rattle.logic_graph.specs.declared.nodes.Node.{Node}
use Rattle.logic_graph.specs.declared.nodes.Node.TheVariants.{Zero, One, Not, Mux}
use Rattle.logic_graph.specs.declared.drawing.Drawing.{Drawing}
use Rattle.logic_graph.specs.Operators.{operators}
use Rattle.logic_graph.specs.GraphOf.{Stands, IsNumbered}
use Rattle.logic_graph.specs.Drawn.{place, drawn, with_line, Job, with_jobs}
use Rattle.logic_graph.proofs.Blocks.{length_drawn}
use Rattle.logic_graph.proofs.Places.{Has, has_front, has_back, has_first, has_middle, Counts, counts_of, counts_part, AreBehind, behind_joined, AreBelow, place_below, drawn_behind}

-- what a later drawing has of an earlier one: constants, and the nodes of the wires that are read
pub record IsRead (ow : List ℕ) (reads : ℕ → Bool) (e : Drawing) : Type 0 where
  pub low : slice_get e.nodes 0 ≡ Some Zero
  pub high : slice_get e.nodes 1 ≡ Some One
  pub wires : (w : ℕ) → IsTrue (reads w) → slice_get e.of_wire w ≡ Some (get_or ow w 0)

read_part : (ow : List ℕ) (f g : ℕ → Bool) (e : Drawing) → ((w : ℕ) → IsTrue (g w) → IsTrue (f w)) → IsRead ow f e → IsRead ow g e
read_part ow f g e part h = record { low = h.low; high = h.high; wires = λ w s. h.wires w (part w s) }

-- a drawing that has the nodes of a formula and their numbers
pub record IsDrawn (ow : List ℕ) (at m : ℕ) (f : Formula) (e : Drawing) : Type 0 where
  pub nodes : Has e.nodes at (drawn ow at f)
  pub numbers : Counts e.numbers at m (operators f)

-- the operator behind two blocks
two_numbered : (ow : List ℕ) (at m : ℕ) (x y : Formula) (n : Node) (e : Drawing)
    → Has e.nodes at (drawn ow at x ++ (drawn ow (at + operators x) y ++ n ∷ [])) → Counts e.numbers at m (operators x + operators y + 1)
    → IsNumbered e (at + operators x + operators y) (m + operators x + operators y) n × IsDrawn ow at m x e × IsDrawn ow (at + operators x) (m + operators x) y e
two_numbered ow at m x y n e nodes numbers =
    let second = has_back e.nodes at (operators x) (drawn ow at x) _ (length_drawn ow at x) nodes in
    let third = has_back e.nodes (at + operators x) (operators y) (drawn ow (at + operators x) y) _ (length_drawn ow (at + operators x) y) second in
    let own = counts_part e.numbers at m (operators x + operators y + 1) (operators x + operators y) 1 (omega arith) numbers in
    let place : at + operators x + operators y ≡ at + (operators x + operators y) + 0 = omega arith in
    let number : m + (operators x + operators y) + 0 ≡ m + operators x + operators y = omega arith in (
      (has_first e.nodes _ n [] third, ap (slice_get e.numbers) place ∙ (own.item 0 (omega arith) ∙ ap Some number)),
      record { nodes = has_front e.nodes at (drawn ow at x) _ nodes; numbers = first_part e.numbers at m (operators x + operators y + 1) (operators x) (omega arith) numbers },
      record { nodes = has_front e.nodes _ (drawn ow (at + operators x) y) _ second; numbers = counts_part e.numbers at m (operators x + operators y + 1) (operators x) (operators y) (omega arith) numbers },
    )
  where
    first_part : (xs : List ℕ) (at m n l : ℕ) → l ≤ n → Counts xs at m n → Counts xs at m l
    first_part xs at m n l le h = record { item = λ j lt. h.item j (omega arith) }

-- the nodes that are drawn for a formula stand for it
pub drawn_stands : (e : Drawing) (ow : List ℕ) (at m : ℕ) (f : Formula) → IsDrawn ow at m f e → IsRead ow (λ w. stands w f) e → Stands e m f (place ow at f)
drawn_stands e ow at m f_zero d r = r.low
drawn_stands e ow at m f_one d r = r.high
drawn_stands e ow at m (f_wire w) d r = r.wires w (eq-eqb w w refl)
drawn_stands e ow at m (f_not x) d r =
    let n = Not (place ow at x) in
    let last = has_back e.nodes at (operators x) (drawn ow at x) (n ∷ []) (length_drawn ow at x) d.nodes in
    let numbers = d.numbers in
    let inner : IsDrawn ow at m x e = record { nodes = has_front e.nodes at (drawn ow at x) (n ∷ []) d.nodes; numbers = record { item = λ j lt. numbers.item j (omega arith) } } in
    (place ow at x, (has_first e.nodes _ n [] last, numbers.item (operators x) (omega arith)), drawn_stands e ow at m x inner r)
drawn_stands e ow at m (f_and x y) d r =
    let parts = two_numbered ow at m x y _ e d.nodes d.numbers in (
      place ow at x,
      place ow (at + operators x) y,
      parts.0,
      drawn_stands e ow at m x parts.1 (read_part ow (λ w. stands w x || stands w y) (λ w. stands w x) e (λ w s. or_left (stands w x) (stands w y) s) r),
      drawn_stands e ow (at + operators x) (m + operators x) y parts.2 (read_part ow (λ w. stands w x || stands w y) (λ w. stands w y) e (λ w s. or_right (stands w x) (stands w y) s) r),
    )
drawn_stands e ow at m (f_or x y) d r =
    let parts = two_numbered ow at m x y _ e d.nodes d.numbers in (
      place ow at x,
      place ow (at + operators x) y,
      parts.0,
      drawn_stands e ow at m x parts.1 (read_part ow (λ w. stands w x || stands w y) (λ w. stands w x) e (λ w s. or_left (stands w x) (stands w y) s) r),
      drawn_stands e ow (at + operators x) (m + operators x) y parts.2 (read_part ow (λ w. stands w x || stands w y) (λ w. stands w y) e (λ w s. or_right (stands w x) (stands w y) s) r),
    )
drawn_stands e ow at m (f_xor x y) d r =
    let parts = two_numbered ow at m x y _ e d.nodes d.numbers in (
      place ow at x,
      place ow (at + operators x) y,
      parts.0,
      drawn_stands e ow at m x parts.1 (read_part ow (λ w. stands w x || stands w y) (λ w. stands w x) e (λ w s. or_left (stands w x) (stands w y) s) r),
      drawn_stands e ow (at + operators x) (m + operators x) y parts.2 (read_part ow (λ w. stands w x || stands w y) (λ w. stands w y) e (λ w s. or_right (stands w x) (stands w y) s) r),
    )
drawn_stands e ow at m (f_mux s x y) d r =
    let at1 = at + operators s in
    let m1 = m + operators s in
    let n = Mux (place ow at s) (place ow at1 x) (place ow (at1 + operators x) y) in
    let numbers = d.numbers in
    let rest = has_back e.nodes at (operators s) (drawn ow at s) _ (length_drawn ow at s) d.nodes in
    let behind : Counts e.numbers at1 m1 (operators x + operators y + 1) = counts_part e.numbers at m (operators s + operators x + operators y + 1) (operators s) (operators x + operators y + 1) (omega arith) numbers in
    let parts = two_numbered ow at1 m1 x y n e rest behind in
    let first : IsDrawn ow at m s e = record { nodes = has_front e.nodes at (drawn ow at s) _ d.nodes; numbers = record { item = λ j lt. numbers.item j (omega arith) } } in
    let two = λ (w : ℕ). stands w x || stands w y in (
      place ow at s,
      place ow at1 x,
      place ow (at1 + operators x) y,
      parts.0,
      drawn_stands e ow at m s first (read_part ow (λ w. stands w s || two w) (λ w. stands w s) e (λ w h. or_left (stands w s) (two w) h) r),
      drawn_stands e ow at1 m1 x parts.1 (read_part ow (λ w. stands w s || two w) (λ w. stands w x) e (λ w h. or_right (stands w s) (two w) (or_left (stands w x) (stands w y) h)) r),
      drawn_stands e ow (at1 + operators x) (m1 + operators x) y parts.2 (read_part ow (λ w. stands w s || two w) (λ w. stands w y) e (λ w h. or_right (stands w s) (two w) (or_right (stands w x) (stands w y) h)) r),
    )

-- the numbers that jobs add
abbrev pub job_numbers : List Job → List ℕ
job_numbers js = flat_map (λ j. range_with_len j.1 (operators j.0.1)) js

-- what jobs add to a drawing
pub record Adds (d e : Drawing) (js : List Job) : Type 0 where
  pub rest : List Node
  pub nodes : e.nodes ≡ d.nodes ++ rest
  pub behind : AreBehind (length d.nodes) rest
  pub below : AreBelow e.of_wire (length e.nodes)
  pub numbers : e.numbers ≡ d.numbers ++ job_numbers js
  pub as_many : length rest ≡ length (job_numbers js)
  pub wires : length e.of_wire ≡ length d.of_wire

-- wires have nodes below the end still
line_below : (d : Drawing) (l : Line) (m : ℕ) → AreBelow d.of_wire (length d.nodes) → AreBelow (with_line d l m).of_wire (length d.nodes + operators l.1)
line_below d l m h =
    record {
      two = (let two = h.two in omega arith);
      each = λ w. elim (cases_eq w l.0) [
        | inl same ↦ (
            let new = place d.of_wire (length d.nodes) l.1 in
            let lt = place_below d.of_wire (length d.nodes) l.1 h in
            let here : get_or (slice_set d.of_wire l.0 new) w 0 ≡ get_or (slice_set d.of_wire l.0 new) l.0 0 = ap (λ v. get_or (slice_set d.of_wire l.0 new) v 0) same in
            let either = set_or_past d.of_wire l.0 new (length d.nodes + operators l.1) lt (let two = h.two in omega arith) in
            omega arith)
        | inr apart ↦ (let old = get_or-set_other d.of_wire l.0 w (place d.of_wire (length d.nodes) l.1) 0 apart in let lt = h.each w in omega arith)
      ];
    }
  where
    set_or_past : (ws : List ℕ) (i x n : ℕ) → x < n → 0 < n → get_or (slice_set ws i x) i 0 < n
    set_or_past [] i x n lt some = some
    set_or_past (w ∷ ws) zero x n lt some = lt
    set_or_past (w ∷ ws) (suc i) x n lt some = set_or_past ws i x n lt some

pub jobs_add : (js : List Job) (d : Drawing) → AreBelow d.of_wire (length d.nodes) → Adds d (with_jobs js d) js
jobs_add [] d h = record { rest = []; nodes = sym (append-nil d.nodes); behind = tt; below = h; numbers = sym (append-nil d.numbers); as_many = refl; wires = refl }
jobs_add (j ∷ js) d h =
    let l = j.0 in
    let block = drawn d.of_wire (length d.nodes) l.1 in
    let d1 = with_line d l j.1 in
    let long : length d1.nodes ≡ length d.nodes + operators l.1 = length-append d.nodes block ∙ ap (λ n. length d.nodes + n) (length_drawn d.of_wire (length d.nodes) l.1) in
    let more = jobs_add js d1 (subst (λ n. AreBelow d1.of_wire n) (sym long) (line_below d l j.1 h)) in
    let own = range_with_len j.1 (operators l.1) in
    let count = length-append block more.rest in
    let counted = length-append own (job_numbers js) in
    let same : length block ≡ length own = length_drawn d.of_wire (length d.nodes) l.1 ∙ sym (length_range j.1 (operators l.1)) in
    let rest = more.as_many in
    record {
      rest = block ++ more.rest;
      nodes = more.nodes ∙ append_assoc d.nodes block more.rest;
      behind = behind_joined (length d.nodes) (length d1.nodes) block more.rest (sym (length-append d.nodes block)) (drawn_behind d.of_wire (length d.nodes) l.1 h) more.behind;
      below = more.below;
      numbers = more.numbers ∙ append_assoc d.numbers own (job_numbers js);
      as_many = omega arith;
      wires = more.wires ∙ length-set d.of_wire l.0 (place d.of_wire (length d.nodes) l.1);
    }
  where
    length_range : (a n : ℕ) → length (range_with_len a n) ≡ n
    length_range a zero = refl
    length_range a (suc n) = ap suc (length_range (a + 1) n)

-- the equations of jobs
abbrev pub lines_of : List Job → List Line
lines_of js = map (λ j. j.0) js

-- known wires keep their nodes
pub known_kept : (known : ℕ → Bool) (js : List Job) (d : Drawing) → IsFresh known (lines_of js) → (w : ℕ) → IsTrue (known w) → get_or (with_jobs js d).of_wire w 0 ≡ get_or d.of_wire w 0
known_kept known [] d fresh w h = refl
known_kept known (j ∷ js) d fresh w h =
    let l = j.0 in
    known_kept (λ v. (v == l.0) || known v) js (with_line d l j.1) fresh.2 w (or_right (w == l.0) (known w) h)
    ∙ get_or-set_other d.of_wire l.0 w (place d.of_wire (length d.nodes) l.1) 0 (λ same. both_ways (known l.0) fresh.0 (ap known (sym same) ∙ h))

-- the node that jobs give each of their wires stands for its formula in a drawing that has all that was drawn
pub jobs_stand : (e : Drawing) (known reads : ℕ → Bool) (js : List Job) (d : Drawing) → AreBelow d.of_wire (length d.nodes) → length d.numbers ≡ length d.nodes → IsFresh known (lines_of js)
    → AllByRecursion (λ j. (j.0.0 < length d.of_wire) × ((w : ℕ) → IsTrue (stands w j.0.1) → IsTrue (reads w))) js
    → (nodes : List Node) (numbers : List ℕ) → e.nodes ≡ (with_jobs js d).nodes ++ nodes → e.numbers ≡ (with_jobs js d).numbers ++ numbers → IsRead (with_jobs js d).of_wire reads e
    → AllByRecursion (λ j. Stands e j.1 j.0.1 (get_or (with_jobs js d).of_wire j.0.0 0)) js
jobs_stand e known reads [] d below as_many fresh fits nodes numbers en em read = tt
jobs_stand e known reads (j ∷ js) d below as_many fresh fits nodes numbers en em read =
    let l = j.0 in
    let ow = d.of_wire in
    let at = length d.nodes in
    let d1 = with_line d l j.1 in
    let all = with_jobs js d1 in
    let block = drawn ow at l.1 in
    let own = range_with_len j.1 (operators l.1) in
    let long : length d1.nodes ≡ at + operators l.1 = length-append d.nodes block ∙ ap (λ n. at + n) (length_drawn ow at l.1) in
    let below1 = subst (λ n. AreBelow d1.of_wire n) (sym long) (line_below d l j.1 below) in
    let more = jobs_add js d1 below1 in
    let more_known = λ (v : ℕ). (v == l.0) || known v in
    let here : get_or all.of_wire l.0 0 ≡ place ow at l.1 = known_kept more_known js d1 fresh.2 l.0 (or_left (l.0 == l.0) (known l.0) (eq-eqb l.0 l.0 refl)) ∙ get_or-set_same ow l.0 (place ow at l.1) 0 fits.0.0 in
    let whole : e.nodes ≡ (d.nodes ++ block) ++ (more.rest ++ nodes) = en ∙ (ap (λ ns. ns ++ nodes) more.nodes ∙ append_assoc (d.nodes ++ block) more.rest nodes) in
    let all_numbers : e.numbers ≡ (d.numbers ++ own) ++ (job_numbers js ++ numbers) = em ∙ (ap (λ ns. ns ++ numbers) more.numbers ∙ append_assoc (d.numbers ++ own) (job_numbers js) numbers) in
    let drawn_here : IsDrawn ow at j.1 l.1 e = record {
      nodes = subst (λ ns. Has ns at block) (sym whole) (has_middle d.nodes block (more.rest ++ nodes));
      numbers = counts_of e.numbers at j.1 (operators l.1) (subst (λ ns. Has ns at own) (sym all_numbers) (subst (λ k. Has ((d.numbers ++ own) ++ (job_numbers js ++ numbers)) k own) as_many (has_middle d.numbers own (job_numbers js ++ numbers))));
    } in
    let read_here : IsRead ow (λ w. stands w l.1) e = record {
      low = read.low;
      high = read.high;
      wires = λ w s. read.wires w (fits.0.1 w s) ∙ ap Some (known_kept known (j ∷ js) d fresh w (fresh.1 w s));
    } in
    let as_many1 : length d1.numbers ≡ length d1.nodes = length-append d.numbers own ∙ (ap₂ (λ a b. a + b) as_many (sym (length_block ow at l.1 j.1)) ∙ sym (length-append d.nodes block)) in (
      subst (Stands e j.1 l.1) (sym here) (drawn_stands e ow at j.1 l.1 drawn_here read_here),
      jobs_stand e more_known reads js d1 below1 as_many1 fresh.2 (fits_more js fits.1) nodes numbers en em read,
    )
  where
    length_range : (a n : ℕ) → length (range_with_len a n) ≡ n
    length_range a zero = refl
    length_range a (suc n) = ap suc (length_range (a + 1) n)

    length_block : (ow : List ℕ) (at : ℕ) (f : Formula) (m : ℕ) → length (drawn ow at f) ≡ length (range_with_len m (operators f))
    length_block ow at f m = length_drawn ow at f ∙ sym (length_range m (operators f))

    fits_more : (ks : List Job) → AllByRecursion (λ k. (k.0.0 < length d.of_wire) × ((w : ℕ) → IsTrue (stands w k.0.1) → IsTrue (reads w))) ks
        → AllByRecursion (λ k. (k.0.0 < length (with_line d j.0 j.1).of_wire) × ((w : ℕ) → IsTrue (stands w k.0.1) → IsTrue (reads w))) ks
    fits_more [] h = tt
    fits_more (k ∷ ks) h = ((subst (λ n. k.0.0 < n) (sym (length-set d.of_wire j.0.0 (place d.of_wire (length d.nodes) j.0.1))) h.0.0, h.0.1), fits_more ks h.1)
