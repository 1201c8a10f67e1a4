-- Spots and numbers in a row, one more at a time; what is known of ports, by their names.
use Rattle.std.proofs.Common.{◌≡◌, ◌≤◌, ◌<◌, ◌+◌, ◌-◌, ℕ, zero, suc, List, [], ◌∷◌, ◌++◌, map, take, drop, length, get_or, append_assoc, add-one, drop-cons, refl, ap, sym, ◌∙◌, arith}
use Rattle.std.specs.List.{range_with_len}
use Rattle.std.proofs.lemmas.List.{take_more, map-append}
use Rattle.std.proofs.lemmas.List.FromFn.{map-range_with_len_more}
use Rattle.verilog_reader.specs.Plain.{PlainModule}
use Rattle.form_bits.specs.Forms.{Text, range_width}
use Rattle.form_bits.specs.declared.types.Spot.{Spot}
use Rattle.top_module.specs.Ports.{facts_of}
use Rattle.module_outlines.specs.Outlines.{Wide, wide, wide_name, kind_range, spots_from, total_width, port_wide, port_way}
use Rattle.top_module.specs.declared.facts.PortFacts.{PortFacts}
use Rattle.module_outlines.specs.View.{wides_by, way_by, wide_view}
use Rattle.module_outlines.specs.declared.wide.Wide as raw

pub spots_more : (first : ℕ) (ws : List Wide) (w : Wide) → spots_from first (ws ++ w ∷ []) ≡ spots_from first ws ++ record { first = first + total_width ws; range = w.range } ∷ []
spots_more first [] w = let e : first ≡ first + 0 = omega arith in ap (λ (n : ℕ). record { first = n; range = w.range } ∷ []) e
spots_more first (v ∷ vs) w =
    let e : first + range_width v.range + total_width vs ≡ first + (range_width v.range + total_width vs) = omega arith in
    ap (λ ss. record { first = first; range = v.range } ∷ ss)
    (spots_more (first + range_width v.range) vs w ∙ ap (λ (n : ℕ). spots_from (first + range_width v.range) vs ++ record { first = n; range = w.range } ∷ []) e)

pub width_more : (ws : List Wide) (w : Wide) → total_width (ws ++ w ∷ []) ≡ total_width ws + range_width w.range
width_more [] w = omega arith
width_more (v ∷ vs) w = let rest = width_more vs w in omega arith

pub row_more : (a n : ℕ) → range_with_len a (n + 1) ≡ range_with_len a n ++ (a + n) ∷ []
row_more a zero = let e : a ≡ a + 0 = omega arith in ap (λ (k : ℕ). k ∷ []) e
row_more a (suc n) =
    let e : a + 1 + n ≡ a + suc n = omega arith in
    let o : suc n + 1 ≡ suc (n + 1) = omega arith in
    ap (λ k. range_with_len a k) o ∙ ap (λ xs. a ∷ xs) (row_more (a + 1) n ∙ ap (λ (k : ℕ). range_with_len (a + 1) n ++ k ∷ []) e)

pub wides_are : (m : PlainModule) (ns : List Text) → wides_by ns (map (facts_of m) ns) ≡ map (port_wide m) ns
wides_are m [] = refl
wides_are m (n ∷ ns) = ap (λ ws. port_wide m n ∷ ws) (wides_are m ns)

pub ways_are : (m : PlainModule) (ns : List Text) → map way_by (map (facts_of m) ns) ≡ map (port_way m) ns
ways_are m [] = refl
ways_are m (n ∷ ns) = ap (λ ws. port_way m n ∷ ws) (ways_are m ns)

pub down_on : (new old : List ℕ) (m k : ℕ) → old ≡ map (λ j. m - j) (range_with_len 0 k) → new ≡ old ++ (m - k) ∷ [] → new ≡ map (λ j. m - j) (range_with_len 0 (k + 1))
down_on new old m k was now =
    let more : map (λ j. m - j) (range_with_len 0 (k + 1)) ≡ map (λ j. m - j) (range_with_len 0 k) ++ (m - k) ∷ [] = map-range_with_len_more (λ j. m - j) 0 k k (omega arith) in
    now ∙ (ap (λ (xs : List ℕ). xs ++ (m - k) ∷ []) was ∙ sym more)

pub up_on : (new old : List ℕ) (m k : ℕ) → old ≡ range_with_len m k → new ≡ old ++ (m + k) ∷ [] → new ≡ range_with_len m (k + 1)
up_on new old m k was now = now ∙ (ap (λ (xs : List ℕ). xs ++ (m + k) ∷ []) was ∙ sym (row_more m k))

taken_more : (xs : List raw.Wide) (i : ℕ) (x : raw.Wide) → x ≡ get_or xs i x → i < length xs → map wide_view (take (i + 1) xs) ≡ map wide_view (take i xs) ++ wide_view x ∷ []
taken_more xs i x e h =
    ap (λ ys. map wide_view ys) (take_more xs i x h)
    ∙ (map-append wide_view (take i xs) (get_or xs i x ∷ []) ∙ ap (λ y. map wide_view (take i xs) ++ wide_view y ∷ []) (sym e))

pub spots_on : (new old : List Spot) (first next : ℕ) (xs : List raw.Wide) (i : ℕ) (x : raw.Wide) → x ≡ get_or xs i x → i < length xs
    → old ≡ spots_from 0 (map wide_view (take i xs)) → first ≡ total_width (map wide_view (take i xs))
    → new ≡ old ++ record { first = first; range = x.range } ∷ [] → next ≡ first + range_width x.range
    → (new ≡ spots_from 0 (map wide_view (take (i + 1) xs))) × (next ≡ total_width (map wide_view (take (i + 1) xs)))
spots_on new old first next xs i x e h was is now then =
    let ws : List Wide = map wide_view (take i xs) in
    let more = taken_more xs i x e h in
    let z : first ≡ 0 + total_width ws = omega arith in (
      now ∙ (ap (λ (ss : List Spot). ss ++ record { first = first; range = x.range } ∷ []) was
          ∙ (ap (λ (n : ℕ). spots_from 0 ws ++ record { first = n; range = x.range } ∷ []) z
          ∙ (sym (spots_more 0 ws (wide_view x)) ∙ ap (λ vs. spots_from 0 vs) (sym more)))),
      then ∙ (ap (λ (n : ℕ). n + range_width x.range) is ∙ (sym (width_more ws (wide_view x)) ∙ ap (λ vs. total_width vs) (sym more))),
    )

-- a list from a place on
from_on : {X : Type 0} (xs : List X) (i : ℕ) (x : X) → x ≡ get_or xs i x → i < length xs → drop i xs ≡ x ∷ drop (i + 1) xs
from_on xs i x e h = let d = drop-cons xs i x h in let o : i + 1 ≡ suc i = add-one i in cc

from_at : {X : Type 0} (xs : List X) (i : ℕ) (d : X) → i < length xs → drop i xs ≡ get_or xs i d ∷ drop (i + 1) xs
from_at xs i d h = let e = drop-cons xs i d h in let o : i + 1 ≡ suc i = add-one i in cc

pub by_both : (p q : List Text) (f g : List PortFacts) → p ≡ q → f ≡ g → wides_by p f ≡ wides_by q g
by_both p q f g a b = cc

pub ports_on : (ps : List Text) (fs : List PortFacts) (k : ℕ) (n : Text) (d : PortFacts) (new old : List raw.Wide) (x : raw.Wide) (whole : List Wide)
    → n ≡ get_or ps k n → k < length ps → length fs ≡ length ps
    → map wide_view old ++ wides_by (drop k ps) (drop k fs) ≡ whole → new ≡ old ++ x ∷ [] → wide_view x ≡ wide (kind_range (get_or fs k d).kind) n
    → map wide_view new ++ wides_by (drop (k + 1) ps) (drop (k + 1) fs) ≡ whole
ports_on ps fs k n d new old x whole en hp long was now is =
    let hf : k < length fs = omega arith in
    let rest : List Wide = wides_by (drop (k + 1) ps) (drop (k + 1) fs) in
    let here : wides_by (drop k ps) (drop k fs) ≡ wide (kind_range (get_or fs k d).kind) n ∷ rest = by_both _ _ _ _ (from_on ps k n en hp) (from_at fs k d hf) in
    ap (λ ws. map wide_view ws ++ rest) now
    ∙ (ap (λ (ws : List Wide). ws ++ rest) (map-append wide_view old (x ∷ []))
    ∙ (append_assoc (map wide_view old) (wide_view x ∷ []) rest
    ∙ (ap (λ (w : Wide). map wide_view old ++ (w ∷ rest)) is ∙ (ap (λ ws. map wide_view old ++ ws) (sym here) ∙ was))))

pub port_names : (m : PlainModule) (ns : List Text) → map wide_name (map (port_wide m) ns) ≡ ns
port_names m [] = refl
port_names m (n ∷ ns) = ap (λ xs. n ∷ xs) (port_names m ns)
