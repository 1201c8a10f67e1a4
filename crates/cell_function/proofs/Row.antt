-- The parts of a text and its cuts.
use Rattle.std.proofs.Common.{◌≡◌, ◌==◌, ◌≤◌, ◌<◌, ◌++◌, ℕ, zero, suc, Bool, true, false, cond, length, take, drop, List, [], ◌∷◌, Option, Some, None, refl, sym, ap, ◌∙◌, subst, inl, inr, IsTrue, arith, append-nil, length-append}
use Rattle.std.specs.List.{take_while, AllByRecursion}
use Rattle.std.specs.Option.{option_map}
use Rattle.std.proofs.lemmas.Bool.Decides.{nat_tests}
use Rattle.std.proofs.lemmas.List.{take-append-drop}
use Rattle.std.proofs.Math.Seq.{take-append_seam, drop-append_seam}
use Rattle.liberty_text.specs.Bytes.{is_blank}
use Rattle.liberty_text.specs.First.{run}
use Rattle.liberty_text.specs.Row.{row_of_gap, row_of_token}
use Rattle.liberty_text.proofs.Gaps.{not_zero}
use Rattle.liberty_text.proofs.Rows.{Shrinks, row_is}
use Rattle.std.proofs.lemmas.List.Sums.{take_while-cons}
use Rattle.liberty_text.proofs.Runs.{chosen, run_first, run_over, all_of_run, taken_run}
use Rattle.cell_function.specs.Cuts.{Part, name, sign, wrong, is_first, is_name, is_sign, EndsName, Named, OneByte, Cuts, nothing, blank, signed, named}
use Rattle.cell_function.specs.Parts.{gap_at, part_at, parts_of, front_of, is_nil, IsWhole}

abbrev pub Hit : Type 0
Hit = Part × List ℕ

abbrev hit : Part → List ℕ → Option Hit
hit p rest = Some (p, rest)

got : {t u : Part} {rest more : List ℕ} → hit u more ≡ hit t rest → (u ≡ t) × (more ≡ rest)
got {t} {u} {rest} {more} h =
    let a : Hit = (u, more) in
    let b : Hit = (t, rest) in
    let e : a ≡ b = cc in
    (ap (λ (p : Hit). p.0) e, ap (λ (p : Hit). p.1) e)

-- kinds of bytes
first_name : (b : ℕ) → is_first b ≡ true → is_name b ≡ true
first_name b h = rw h refl

first_not : (b : ℕ) → IsTrue (is_first b) → (is_sign b ≡ false) × (is_blank b ≡ false)
first_not b h = (grind (arith, nat_tests), grind (arith, nat_tests))

sign_not : (b : ℕ) → IsTrue (is_sign b) → is_blank b ≡ false
sign_not b h = grind (arith, nat_tests)

-- what stands behind a gap or a part
gap_is : (b : ℕ) (bs rest : List ℕ) → gap_at (b ∷ bs) ≡ Some rest → (is_blank b ≡ true) × (bs ≡ rest)
gap_is b bs rest h = elim (chosen (is_blank b) (Some bs) None (Some rest) h) [
  | inl e ↦ (e.0, cc (e.1))
  | inr e ↦ absurd (cc (e.1))
]

pub gap_shorter : (bytes rest : List ℕ) → gap_at bytes ≡ Some rest → length rest < length bytes
gap_shorter [] rest h = absurd (cc)
gap_shorter (b ∷ bs) rest h = omega (arith, ap length (gap_is b bs rest h).1)

-- what a part in front is
abbrev named_hit : List ℕ → Option Hit
named_hit bytes = hit (name (take (run is_name bytes) bytes)) (drop (run is_name bytes) bytes)

abbrev named_step : ℕ → List ℕ → Option Hit
named_step b bs = cond (is_first b) (named_hit (b ∷ bs)) None

ends_case : (b : ℕ) (bs w : List ℕ) → EndsName (drop (length w) bs) → (q : Bool) → is_name b ≡ q → EndsName (drop (length (cond q (b ∷ w) [])) (b ∷ bs))
ends_case b bs w h true e = h
ends_case b bs w h false e = e

ends_run : (bytes : List ℕ) → EndsName (drop (run is_name bytes) bytes)
ends_run [] = tt
ends_run (b ∷ bs) = subst (λ w. EndsName (drop (length w) (b ∷ bs))) (sym (take_while-cons is_name b bs)) (ends_case b bs (take_while is_name bs) (ends_run bs) (is_name b) refl)

named_found : (b : ℕ) (bs : List ℕ) → is_first b ≡ true → Named (b ∷ bs) (take (run is_name (b ∷ bs)) (b ∷ bs)) (drop (run is_name (b ∷ bs)) (b ∷ bs))
named_found b bs h = record {
  first = b;
  more = take_while is_name bs;
  spelled_is = taken_run is_name (b ∷ bs) ∙ run_first is_name b bs (first_name b h);
  whole = sym (take-append-drop (run is_name (b ∷ bs)) (b ∷ bs));
  begins = h;
  goes_on = all_of_run is_name bs;
  ended = ends_run (b ∷ bs);
}

abbrev IsHit : List ℕ → Part → List ℕ → Type 0
IsHit bytes (name n) rest = Named bytes n rest
IsHit bytes (sign s) rest = OneByte is_sign bytes s rest
IsHit bytes wrong rest = ⊥

part_is : (bytes : List ℕ) (p : Part) (rest : List ℕ) → part_at bytes ≡ hit p rest → IsHit bytes p rest
part_is [] p rest h = absurd (cc)
part_is (b ∷ bs) p rest h = elim (chosen (is_sign b) (hit (sign b) bs) (named_step b bs) (hit p rest) h) [
  | inl e ↦ let g = got e.1 in subst (λ r. IsHit (b ∷ bs) p r) g.1 (subst (λ q. IsHit (b ∷ bs) q bs) g.0 (record { whole = refl; is_kind = e.0 }))
  | inr e ↦ elim (chosen (is_first b) (named_hit (b ∷ bs)) None (hit p rest) e.1) [
    | inl f ↦ let g = got f.1 in subst (λ r. IsHit (b ∷ bs) p r) g.1 (subst (λ q. IsHit (b ∷ bs) q (drop (run is_name (b ∷ bs)) (b ∷ bs))) g.0 (named_found b bs f.0))
    | inr f ↦ absurd (cc (f.1))
  ]
]

hit_shorter : (bytes : List ℕ) (p : Part) (rest : List ℕ) → IsHit bytes p rest → length rest < length bytes
hit_shorter bytes (name n) rest h = omega (arith, ap length h.whole, length-append n rest, ap length h.spelled_is)
hit_shorter bytes (sign s) rest h = omega (arith, ap length h.whole)
hit_shorter bytes wrong rest h = absurd h

part_shorter : (bytes : List ℕ) (found : Hit) → part_at bytes ≡ Some found → length found.1 < length bytes
part_shorter bytes found h = hit_shorter bytes found.0 found.1 (part_is bytes found.0 found.1 h)

no_name : (rest : List ℕ) → EndsName rest → take_while is_name rest ≡ []
no_name [] h = refl
no_name (b ∷ bs) h = take_while-cons is_name b bs ∙ ap (λ q. cond q (b ∷ take_while is_name bs) []) h

named_run : (b : ℕ) (more rest : List ℕ) → IsTrue (is_first b) → AllByRecursion (λ c. IsTrue (is_name c)) more → EndsName rest → part_at (b ∷ (more ++ rest)) ≡ hit (name (b ∷ more)) rest
named_run b more rest h all e =
    let taken : take_while is_name ((b ∷ more) ++ rest) ≡ b ∷ more = run_over is_name (b ∷ more) rest (first_name b h, all) ∙ (ap (λ (w : List ℕ). (b ∷ more) ++ w) (no_name rest e) ∙ append-nil (b ∷ more)) in
    let long : run is_name ((b ∷ more) ++ rest) ≡ length (b ∷ more) = ap length taken in
    let front : take (run is_name ((b ∷ more) ++ rest)) ((b ∷ more) ++ rest) ≡ b ∷ more = ap (λ n. take n ((b ∷ more) ++ rest)) long ∙ take-append_seam (b ∷ more) rest in
    let behind : drop (run is_name ((b ∷ more) ++ rest)) ((b ∷ more) ++ rest) ≡ rest = ap (λ n. drop n ((b ∷ more) ++ rest)) long ∙ drop-append_seam (b ∷ more) rest in
    let found : part_at (b ∷ (more ++ rest)) ≡ named_hit (b ∷ (more ++ rest)) = rw (first_not b h).0 (ap (λ q. cond q (named_hit (b ∷ (more ++ rest))) None) h) in
    found
    ∙ (ap (λ (w : List ℕ). hit (name w) (drop (run is_name ((b ∷ more) ++ rest)) ((b ∷ more) ++ rest))) front
    ∙ ap (λ (r : List ℕ). hit (name (b ∷ more)) r) behind)

named_is : (bytes spelled rest : List ℕ) → Named bytes spelled rest → (part_at bytes ≡ hit (name spelled) rest) × (gap_at bytes ≡ None)
named_is bytes spelled rest n =
    let all : bytes ≡ n.first ∷ (n.more ++ rest) = n.whole ∙ ap (λ (w : List ℕ). w ++ rest) n.spelled_is in (
      ap part_at all ∙ (named_run n.first n.more rest n.begins n.goes_on n.ended ∙ ap (λ (w : List ℕ). hit (name w) rest) (sym n.spelled_is)),
      ap gap_at all ∙ rw (first_not n.first n.begins).1 refl,
    )

sign_is : (bytes : List ℕ) (b : ℕ) (rest : List ℕ) → OneByte is_sign bytes b rest → (part_at bytes ≡ hit (sign b) rest) × (gap_at bytes ≡ None)
sign_is bytes b rest n = (ap part_at n.whole ∙ rw n.is_kind refl, ap gap_at n.whole ∙ rw (sign_not b n.is_kind) refl)

blank_is : (bytes : List ℕ) (b : ℕ) (rest : List ℕ) → OneByte is_blank bytes b rest → gap_at bytes ≡ Some rest
blank_is bytes b rest n = ap gap_at n.whole ∙ rw n.is_kind refl

-- rows
shrinks : Shrinks gap_at part_at
shrinks = record { gaps = gap_shorter; tokens = part_shorter }

parts_are : (bytes : List ℕ) → parts_of bytes ≡ row_of_gap wrong parts_of bytes (gap_at bytes) (part_at bytes)
unfolding parts_of
parts_are bytes = row_is wrong gap_at part_at shrinks bytes

pub over_gap : (bytes rest : List ℕ) → gap_at bytes ≡ Some rest → parts_of rest ≡ parts_of bytes
over_gap bytes rest h = sym (parts_are bytes ∙ ap (λ o. row_of_gap wrong parts_of bytes o (part_at bytes)) h)

no_gap : (bytes : List ℕ) → gap_at bytes ≡ None → parts_of bytes ≡ row_of_token wrong parts_of bytes (part_at bytes)
no_gap bytes h = parts_are bytes ∙ ap (λ o. row_of_gap wrong parts_of bytes o (part_at bytes)) h

over_part : (bytes rest : List ℕ) (p : Part) → gap_at bytes ≡ None → part_at bytes ≡ Some (p, rest) → parts_of bytes ≡ p ∷ parts_of rest
over_part bytes rest p h k = no_gap bytes h ∙ ap (row_of_token wrong parts_of bytes) k

-- a text that is cut has these parts
pub cut_parts : {bytes : List ℕ} {ps : List Part} → Cuts bytes ps → parts_of bytes ≡ ps
cut_parts nothing = parts_are []
cut_parts {bytes} (blank {rest = r} {b = b} g c) = sym (over_gap bytes r (blank_is bytes b r g)) ∙ cut_parts c
cut_parts {bytes} (signed {rest = r} {b = b} g c) = let s = sign_is bytes b r g in over_part bytes r (sign b) s.1 s.0 ∙ ap (λ qs. sign b ∷ qs) (cut_parts c)
cut_parts {bytes} (named {spelled = w} {rest = r} g c) = let s = named_is bytes w r g in over_part bytes r (name w) s.1 s.0 ∙ ap (λ qs. name w ∷ qs) (cut_parts c)

hit_cut : (bytes : List ℕ) (p : Part) (rest : List ℕ) (ps : List Part) → IsHit bytes p rest → Cuts rest ps → Cuts bytes (p ∷ ps)
hit_cut bytes (name n) rest ps h c = named h c
hit_cut bytes (sign s) rest ps h c = signed h c
hit_cut bytes wrong rest ps h c = absurd h

blank_cut : (bytes rest : List ℕ) (ps : List Part) → gap_at bytes ≡ Some rest → Cuts rest ps → Cuts bytes ps
blank_cut [] rest ps h c = absurd (cc)
blank_cut (b ∷ bs) rest ps h c = let g = gap_is b bs rest h in blank {b = b} (record { whole = ap (λ w. b ∷ w) g.1; is_kind = g.0 }) c

cut_step : (n : ℕ) (again : (rest : List ℕ) → length rest ≤ n → IsWhole (parts_of rest) → Cuts rest (parts_of rest)) (bytes : List ℕ) → length bytes ≤ suc n → IsWhole (parts_of bytes) → (o : Option (List ℕ)) → gap_at bytes ≡ o → (p : Option Hit) → part_at bytes ≡ p → Cuts bytes (parts_of bytes)
cut_step n again bytes l w (Some rest) e p f =
    let same = over_gap bytes rest e in
    subst (Cuts bytes) same (blank_cut bytes rest (parts_of rest) e (again rest (omega (arith, gap_shorter bytes rest e)) (subst IsWhole (sym same) w)))
cut_step n again bytes l w None e (Some found) f =
    let same = over_part bytes found.1 found.0 e f in
    subst (Cuts bytes) (sym same) (hit_cut bytes found.0 found.1 (parts_of found.1) (part_is bytes found.0 found.1 f) (again found.1 (omega (arith, part_shorter bytes found f)) (subst IsWhole same w).1))
cut_step n again [] l w None e None f = subst (Cuts []) (sym (parts_are [])) nothing
cut_step n again (b ∷ bs) l w None e None f =
    let same : parts_of (b ∷ bs) ≡ wrong ∷ [] = no_gap (b ∷ bs) e ∙ ap (row_of_token wrong parts_of (b ∷ bs)) f in
    absurd ((subst IsWhole same w).0 refl)

cut_below : (n : ℕ) (bytes : List ℕ) → length bytes ≤ n → IsWhole (parts_of bytes) → Cuts bytes (parts_of bytes)
cut_below zero [] l w = subst (Cuts []) (sym (parts_are [])) nothing
cut_below zero (b ∷ bs) l w = absurd (omega arith)
cut_below (suc n) bytes l w = cut_step n (cut_below n) bytes l w (gap_at bytes) refl (part_at bytes) refl

-- a text without wrong pieces is cut into its parts
pub parts_cut : (bytes : List ℕ) → IsWhole (parts_of bytes) → Cuts bytes (parts_of bytes)
parts_cut bytes w = cut_below (length bytes) bytes (omega arith) w

-- no text has more parts than bytes
count_step : (n : ℕ) (again : (rest : List ℕ) → length rest ≤ n → length (parts_of rest) ≤ length rest) (bytes : List ℕ) → length bytes ≤ suc n → (o : Option (List ℕ)) → gap_at bytes ≡ o → (p : Option Hit) → part_at bytes ≡ p → length (parts_of bytes) ≤ length bytes
count_step n again bytes l (Some rest) e p f = omega (arith, ap length (over_gap bytes rest e), gap_shorter bytes rest e, again rest (omega (arith, gap_shorter bytes rest e)))
count_step n again bytes l None e (Some found) f =
    omega (arith, ap length (over_part bytes found.1 found.0 e f), part_shorter bytes found f, again found.1 (omega (arith, part_shorter bytes found f)))
count_step n again [] l None e None f = omega (arith, ap length (parts_are []))
count_step n again (b ∷ bs) l None e None f =
    let same : parts_of (b ∷ bs) ≡ wrong ∷ [] = no_gap (b ∷ bs) e ∙ ap (row_of_token wrong parts_of (b ∷ bs)) f in
    omega (arith, ap length same)

count_below : (n : ℕ) (bytes : List ℕ) → length bytes ≤ n → length (parts_of bytes) ≤ length bytes
count_below zero [] l = omega (arith, ap length (parts_are []))
count_below zero (b ∷ bs) l = absurd (omega arith)
count_below (suc n) bytes l = count_step n (count_below n) bytes l (gap_at bytes) refl (part_at bytes) refl

pub parts_count : (bytes : List ℕ) → length (parts_of bytes) ≤ length bytes
parts_count bytes = count_below (length bytes) bytes (omega arith)

-- the first part of a text that begins with no gap
abbrev with_parts : Option Hit → Option (Part × List Part)
with_parts o = option_map (λ (p : Hit). (p.0, parts_of p.1)) o

front_case : (bytes : List ℕ) → gap_at bytes ≡ None → (p : Option Hit) → part_at bytes ≡ p → front_of (parts_of bytes) ≡ with_parts p
front_case bytes h (Some (name w, rest)) e = ap front_of (over_part bytes rest (name w) h e)
front_case bytes h (Some (sign w, rest)) e = ap front_of (over_part bytes rest (sign w) h e)
front_case bytes h (Some (wrong, rest)) e = absurd (part_is bytes wrong rest e)
front_case [] h None e = ap front_of (parts_are [])
front_case (b ∷ bs) h None e = ap front_of (no_gap (b ∷ bs) h ∙ ap (row_of_token wrong parts_of (b ∷ bs)) e)

pub front_is : (bytes : List ℕ) → gap_at bytes ≡ None → with_parts (part_at bytes) ≡ front_of (parts_of bytes)
front_is bytes h = sym (front_case bytes h (part_at bytes) refl)

abbrev both_of : Part → List Part → Part × List Part
both_of t ts = (t, ts)

abbrev hit_of : Part → List ℕ → Hit
hit_of t rest = (t, rest)

pub mapped : {X : Type 0} (f : X → Part) (g : X → List ℕ) (o : Option X) (p : Option Hit) → option_map (λ (x : X). hit_of (f x) (g x)) o ≡ p → option_map (λ (x : X). both_of (f x) (parts_of (g x))) o ≡ with_parts p
mapped f g (Some x) p e = ap with_parts e
mapped f g None p e = ap with_parts e

nil_case : (bytes : List ℕ) → gap_at bytes ≡ None → (p : Option Hit) → part_at bytes ≡ p → is_nil (parts_of bytes) ≡ (length bytes == 0)
nil_case bytes h (Some found) e = ap is_nil (over_part bytes found.1 found.0 h e) ∙ sym (not_zero (length bytes) (omega (arith, part_shorter bytes found e)))
nil_case [] h None e = ap is_nil (parts_are [])
nil_case (b ∷ bs) h None e = ap is_nil (no_gap (b ∷ bs) h ∙ ap (row_of_token wrong parts_of (b ∷ bs)) e) ∙ sym (not_zero (length (b ∷ bs)) (omega arith))

pub nil_is : (bytes : List ℕ) → gap_at bytes ≡ None → is_nil (parts_of bytes) ≡ (length bytes == 0)
nil_is bytes h = nil_case bytes h (part_at bytes) refl
