-- Where two rows differ, port by port.
use Rattle.std.proofs.Common.{◌≡◌, ◌<◌, ◌+◌, ◌-◌, ◌++◌, ◌∷◌, [], ℕ, zero, suc, Bool, true, false, not, ◌&&◌, ◌||◌, cond, List, Option, Some, None, codes, drop, get_or, length, map, refl, sym, ap, ap₂, ◌∙◌, arith, inl, inr}
use Rattle.std.specs.List.{range_with_len}
use Rattle.std.specs.Str.{bytes_eq}
use Rattle.std.proofs.lemmas.Slice.Eq.{bytes_eq-Decides}
use mathlib.Core.Bool.{beq}
use Rattle.agm_net.specs.Role.{IsOfShare}
use Rattle.probe_cones.specs.Laws.{IsNamed}
use Rattle.probe_cones.proofs.ShareNames.{share_found, share_text}
use Rattle.twin_tape.specs.Permitted.{has}
use Rattle.std.proofs.lemmas.List.{length-map}
use Rattle.std.proofs.lemmas.List.FromFn.{length-range_with_len}
use Rattle.agm_net.specs.Formula.{xor}
use Rattle.agm_net.specs.Trace.{Row}
use Rattle.agm_net.specs.declared.port.Port.{Port}
use Rattle.probe_cones.specs.Inputs.{bit_role, first_bit, random_bit, share_role}
use Rattle.probe_cones.specs.Shares.{share_of}
use Rattle.twin_tape.specs.Differences.{Column, columns_from, differ_in, first_difference, lacks_columns, port_columns, port_differs}
use Rattle.twin_tape.specs.Security.{sees}

pub drop_step : {X : Type 0} (xs : List X) (k : ℕ) (x : X) → k < length xs → x ≡ get_or xs k x → drop k xs ≡ x ∷ drop (k + 1) xs
drop_step [] k x lt is = absurd (omega (arith, lt))
drop_step (y ∷ ys) zero x lt is = ap (λ z. z ∷ ys) (sym is)
drop_step (y ∷ ys) (suc k) x lt is =
    let e : suc k + 1 ≡ suc (k + 1) = omega arith in
    drop_step ys k x (omega (arith, lt)) is ∙ ap (λ n. x ∷ drop n (y ∷ ys)) (sym e)

none_left : {X : Type 0} (m : ℕ) → ◌≡◌ {A = List X} (drop m []) []
none_left zero = refl
none_left (suc m) = refl

drop_one : {X : Type 0} (m : ℕ) (xs : List X) → drop m (drop 1 xs) ≡ drop (suc m) xs
drop_one m [] = none_left m
drop_one m (x ∷ xs) = refl

choice : {X : Type 0} (v x y : Bool) (p r : X) → cond (v && x) p (cond (v && y) p r) ≡ cond (v && (x || y)) p r
choice false x y p r = refl
choice true true y p r = refl
choice true false y p r = refl

sees_each : (indices : List ℕ) (name : List ℕ) (place : ℕ) → sees indices (bit_role name place) ≡ sees indices (bit_role name 0)
sees_each indices name place = go (bytes_eq name (codes "agm_r")) (share_of name)
  where
    go : (b : Bool) (o : Option (ℕ × List ℕ)) → sees indices (cond b random_bit (share_role o place)) ≡ sees indices (cond b random_bit (share_role o 0))
    go true o = refl
    go false None = refl
    go false (Some s) = refl

bits_differ : (indices : List ℕ) (n : ℕ) (name : List ℕ) (m from : ℕ) (rest : List Column) (a b : Row) →
    first_difference indices (map (λ place. (n, bit_role name place)) (range_with_len from m) ++ rest) a b
    ≡ cond (sees indices (bit_role name 0) && differ_in m a b) (Some n) (first_difference indices rest (drop m a) (drop m b))
bits_differ indices n name zero from rest a b = go (sees indices (bit_role name 0))
  where
    go : (v : Bool) → first_difference indices rest a b ≡ cond (v && false) (Some n) (first_difference indices rest a b)
    go true = refl
    go false = refl
bits_differ indices n name (suc m) from rest a b =
    let v = sees indices (bit_role name 0) in
    let x = xor (first_bit a) (first_bit b) in
    let later = first_difference indices rest (drop m (drop 1 a)) (drop m (drop 1 b)) in
    ap₂ (λ w r. cond (w && x) (Some n) r) (sees_each indices name from) (bits_differ indices n name m (from + 1) rest (drop 1 a) (drop 1 b))
    ∙ (choice v x (differ_in m (drop 1 a) (drop 1 b)) (Some n) later
    ∙ ap₂ (λ c d. cond (v && (x || differ_in m (drop 1 a) (drop 1 b))) (Some n) (first_difference indices rest c d)) (drop_one m a) (drop_one m b))

-- the columns of a port that has some
abbrev pub of_port : ℕ → Port → List Column
of_port n p = map (λ place. (n, bit_role p.name place)) (range_with_len 0 (length p.bits))

pub of_port_long : (n : ℕ) (p : Port) → length (of_port n p) ≡ length p.bits
of_port_long n p = length-map (range_with_len 0 (length p.bits)) (λ place. (n, bit_role p.name place)) ∙ length-range_with_len 0 (length p.bits)

pub port_step : (indices : List ℕ) (clock : Option ℕ) (n : ℕ) (p : Port) (rest : List Column) (a b : Row) →
    first_difference indices (port_columns clock n p ++ rest) a b
    ≡ cond (port_differs indices clock n p a b) (Some n) (first_difference indices rest (drop (length (port_columns clock n p)) a) (drop (length (port_columns clock n p)) b))
port_step indices clock n p rest a b = go (lacks_columns clock n p)
  where
    go : (l : Bool) → first_difference indices (cond l [] (of_port n p) ++ rest) a b
        ≡ cond (cond l false (sees indices (bit_role p.name 0) && differ_in (length p.bits) a b)) (Some n)
        (first_difference indices rest (drop (length (cond l [] (of_port n p))) a) (drop (length (cond l [] (of_port n p))) b))
    go true = refl
    go false =
        bits_differ indices n p.name (length p.bits) 0 rest a b
        ∙ ap (λ m. cond (sees indices (bit_role p.name 0) && differ_in (length p.bits) a b) (Some n) (first_difference indices rest (drop m a) (drop m b))) (sym (of_port_long n p))

pub columns_step : (clock : Option ℕ) (ports : List Port) (k : ℕ) (p : Port) → k < length ports → p ≡ get_or ports k p
    → columns_from clock k (drop k ports) ≡ port_columns clock k p ++ columns_from clock (k + 1) (drop (k + 1) ports)
columns_step clock ports k p lt is = ap (columns_from clock k) (drop_step ports k p lt is)

pub bit_here : (xs : Row) (k : ℕ) → first_bit (drop k xs) ≡ get_or xs k false
bit_here [] k = ap first_bit (none_left k)
bit_here (x ∷ xs) zero = refl
bit_here (x ∷ xs) (suc k) = bit_here xs k

pub drop_next : {X : Type 0} (xs : List X) (k : ℕ) → drop 1 (drop k xs) ≡ drop (k + 1) xs
drop_next [] k = ap (λ ys. drop 1 ys) (none_left k) ∙ sym (none_left (k + 1))
drop_next (x ∷ xs) zero = refl
drop_next (x ∷ xs) (suc k) = let e : suc k + 1 ≡ suc (k + 1) = omega arith in drop_next xs k ∙ ap (λ n. drop n (x ∷ xs)) (sym e)

pub drop_on : {X : Type 0} (xs : List X) (k m : ℕ) → drop m (drop k xs) ≡ drop (k + m) xs
drop_on [] k m = ap (drop m) (none_left k) ∙ (none_left m ∙ sym (none_left (k + m)))
drop_on (x ∷ xs) zero m = let e : m ≡ 0 + m = omega arith in ap (λ n. drop n (x ∷ xs)) e
drop_on (x ∷ xs) (suc k) m = let e : suc k + m ≡ suc (k + m) = omega arith in drop_on xs k m ∙ ap (λ n. drop n (x ∷ xs)) (sym e)

pub differ_step : (a b : Row) (k to : ℕ) → k < to → differ_in (to - k) (drop k a) (drop k b)
    ≡ (xor (get_or a k false) (get_or b k false) || differ_in (to - (k + 1)) (drop (k + 1) a) (drop (k + 1) b))
differ_step a b k to lt =
    let e : to - k ≡ suc (to - (k + 1)) = omega (arith, lt) in
    ap (λ n. differ_in n (drop k a) (drop k b)) e
    ∙ ap₂ (λ x y. x || y) (ap₂ xor (bit_here a k) (bit_here b k)) (ap₂ (differ_in (to - (k + 1))) (drop_next a k) (drop_next b k))

pub unlike : (x y : Bool) → not (beq x y) ≡ xor x y
unlike true true = refl
unlike true false = refl
unlike false true = refl
unlike false false = refl

share_is : (name : List ℕ) (i : ℕ) → IsOfShare i name → (rest : List ℕ) × (share_of name ≡ Some (i, rest))
share_is name i (small, inl (rest, some, e)) = (rest, share_found name (i, rest) (small, inl (some, e)))
share_is name i (small, inr e) = ([], share_found name (i, []) (small, inr (refl, e)))

pub sees_share : (indices : List ℕ) (name : List ℕ) (i : ℕ) → IsOfShare i name → has indices i ≡ sees indices (bit_role name 0)
sees_share indices name i share = go (share_is name i share) (bytes_eq name (codes "agm_r")) refl
  where
    go : (found : (rest : List ℕ) × (share_of name ≡ Some (i, rest))) (b : Bool) → bytes_eq name (codes "agm_r") ≡ b → has indices i ≡ sees indices (cond b random_bit (share_role (share_of name) 0))
    go found true e =
        let is : name ≡ codes "agm_r" = (bytes_eq-Decides name (codes "agm_r")).0 e in
        let none : share_of (codes "agm_r") ≡ Some (i, found.0) = ap share_of (sym is) ∙ found.1 in
        absurd (cc)
    go found false e = ap (λ o. sees indices (share_role o 0)) (sym found.1)

pub sees_public : (indices : List ℕ) (name : List ℕ) → ((i : ℕ) → IsOfShare i name → Prim.⊥) → (name ≡ codes "agm_r" → Prim.⊥) → true ≡ sees indices (bit_role name 0)
sees_public indices name none other = go (bytes_eq name (codes "agm_r")) refl (share_of name) refl
  where
    named : (s : ℕ × List ℕ) → IsNamed name s → IsOfShare s.0 name
    named s (small, inl (some, is)) = (small, inl (s.1, some, is))
    named s (small, inr (empty, is)) = (small, inr is)

    go : (b : Bool) → bytes_eq name (codes "agm_r") ≡ b → (o : Option (ℕ × List ℕ)) → share_of name ≡ o → true ≡ sees indices (cond b random_bit (share_role o 0))
    go true e o f = absurd (other ((bytes_eq-Decides name (codes "agm_r")).0 e))
    go false e None f = refl
    go false e (Some s) f = absurd (none s.0 (named s (share_text name s f)))
