-- The values of a masked net's ports, by their names.
use Rattle.std.proofs.Common.{◌≡◌, ◌≢◌, ◌<◌, ◌++◌, ℕ, zero, suc, Bool, false, List, [], ◌∷◌, map, filter, length, IsTrue, slice_get, Some, refl, sym, ap, ap₂, ◌∙◌, arith, flat_map, bytes_eq, append-nil}
use Rattle.std.specs.List.{AllByRecursion, list_any}
use Rattle.std.proofs.lemmas.Bool.{false_from_ne_true, or_left, or_right}
use Rattle.std.proofs.lemmas.Slice.Eq.{bytes_eq-Decides}
use Rattle.agm_net.specs.Formula.{xor}
use Rattle.agm_net.specs.WellFormed.{Differ}
use Rattle.agm_net.specs.declared.port.Port.{Port}
use Rattle.agm_net.proofs.Lists.{all_from}
use Rattle.share_wiring.specs.Recombine.{xor_below, xor_rows, recombined_rows}
use Rattle.share_wiring.proofs.Lists.{all_both}

-- the bits of those ports that have a name
abbrev pub bits_named : (ℕ → Bool) → List ℕ → List Port → List Bool
bits_named bit name ports = flat_map (λ p. map bit p.bits) (filter (λ p. bytes_eq p.name name) ports)

-- the first port has the name
bits_front_yes : (bit : ℕ → Bool) (name : List ℕ) (p : Port) (ps : List Port) → IsTrue (bytes_eq p.name name) → bits_named bit name (p ∷ ps) ≡ map bit p.bits ++ bits_named bit name ps
bits_front_yes bit name p ps h = rw h refl

-- the first port has another name
bits_front_no : (bit : ℕ → Bool) (name : List ℕ) (p : Port) (ps : List Port) → bytes_eq p.name name ≡ false → bits_named bit name (p ∷ ps) ≡ bits_named bit name ps
bits_front_no bit name p ps h = rw h refl

-- names with the same bytes are the same
names_equal : (x y : List ℕ) → IsTrue (bytes_eq x y) → x ≡ y
names_equal x y h = (bytes_eq-Decides x y).0 h

-- and the other way round
equal_names : (x y : List ℕ) → x ≡ y → IsTrue (bytes_eq x y)
equal_names x y h = (bytes_eq-Decides x y).1 h

-- no port has this name
bits_of_none : (bit : ℕ → Bool) (name : List ℕ) (ports : List Port) → AllByRecursion (λ p. p.name ≢ name) ports → bits_named bit name ports ≡ []
bits_of_none bit name [] h = refl
bits_of_none bit name (p ∷ ps) h =
    bits_front_no bit name p ps (false_from_ne_true (bytes_eq p.name name) (λ is. h.0 (names_equal p.name name is))) ∙ bits_of_none bit name ps h.1

-- the first of names that differ is none of the others
first_differs : (x : List ℕ) (xs : List (List ℕ)) → ((n : ℕ) → n < length xs → Some x ≢ slice_get xs n) → AllByRecursion (λ y. y ≢ x) xs
first_differs x [] h = tt
first_differs x (y ∷ ys) h = ((λ same. h 0 (omega arith) (ap (λ z. Some z) (sym same))), first_differs x ys (λ n lt. h (suc n) (omega arith)))

-- what holds of each name holds of the name of each port
named_all : (P : List ℕ → Type 0) (ports : List Port) → AllByRecursion P (map (λ p. p.name) ports) → AllByRecursion (λ p. P p.name) ports
named_all P [] h = tt
named_all P (p ∷ ps) h = (h.0, named_all P ps h.1)

-- the bits of a port's name are its own
abbrev pub OwnBits : List Port → Port → Type 0
OwnBits ports p = (bit : ℕ → Bool) → bits_named bit p.name ports ≡ map bit p.bits

-- it stays so with a port of another name before them
own_bits_more : (p q : Port) (ports : List Port) → q.name ≢ p.name → OwnBits ports q → OwnBits (p ∷ ports) q
own_bits_more p q ports apart own bit = bits_front_no bit q.name p ports (false_from_ne_true (bytes_eq p.name q.name) (λ is. apart (sym (names_equal p.name q.name is)))) ∙ own bit

-- where names differ, the bits of each port's name are its own
pub own_bits : (ports : List Port) → Differ (map (λ p. p.name) ports) → AllByRecursion (OwnBits ports) ports
own_bits [] differ = tt
own_bits (p ∷ ps) differ =
    let others : AllByRecursion (λ q. q.name ≢ p.name) ps = named_all (λ y. y ≢ p.name) ps (first_differs p.name (map (λ q. q.name) ps) (λ n lt. differ 0 (suc n) (omega arith) (omega arith))) in
    let rest = own_bits ps (λ v w lt within. differ (suc v) (suc w) (omega arith) (omega arith)) in
    let front : OwnBits (p ∷ ps) p = λ bit.
    bits_front_yes bit p.name p ps (equal_names p.name p.name refl)
    ∙ (ap (λ xs. map bit p.bits ++ xs) (bits_of_none bit p.name ps others) ∙ append-nil (map bit p.bits)) in
    (front, all_both (λ q. q.name ≢ p.name) (OwnBits ps) (OwnBits (p ∷ ps)) (λ q. own_bits_more p q ps) ps others rest)

-- each port's name is among the names of all
pub each_named : (ports : List Port) → AllByRecursion (λ p. IsTrue (list_any (λ n. bytes_eq n p.name) (map (λ q. q.name) ports))) ports
each_named [] = tt
each_named (p ∷ ps) = (
  or_left (bytes_eq p.name p.name) (list_any (λ n. bytes_eq n p.name) (map (λ q. q.name) ps)) (equal_names p.name p.name refl),
  all_from (λ q. IsTrue (list_any (λ n. bytes_eq n q.name) (map (λ r. r.name) ps))) (λ q. IsTrue (list_any (λ n. bytes_eq n q.name) (map (λ r. r.name) (p ∷ ps))))
      (λ q h. or_right (bytes_eq p.name q.name) (list_any (λ n. bytes_eq n q.name) (map (λ r. r.name) ps)) h) ps (each_named ps),
)

-- the exclusive or of rows is one of bits
xor_rows_of_maps : (f g : ℕ → Bool) (ws : List ℕ) → xor_rows (map f ws) (map g ws) ≡ map (λ w. xor (f w) (g w)) ws
xor_rows_of_maps f g [] = refl
xor_rows_of_maps f g (w ∷ ws) = ap (λ xs. xor (f w) (g w) ∷ xs) (xor_rows_of_maps f g ws)

-- rows of shares recombine bit by bit
pub rows_recombine : (d : ℕ) (bit : ℕ → ℕ → Bool) (ws : List ℕ) (row : ℕ → List Bool) → ((i : ℕ) → i < suc d → row i ≡ map (λ w. bit w i) ws)
    → recombined_rows d row ≡ map (λ w. xor_below (suc d) (bit w)) ws
rows_recombine zero bit ws row h = h 0 (omega arith)
rows_recombine (suc d) bit ws row h =
    ap₂ xor_rows (rows_recombine d bit ws row (λ i lt. h i (omega arith))) (h (suc d) (omega arith))
    ∙ xor_rows_of_maps (λ w. xor_below (suc d) (bit w)) (λ w. bit w (suc d)) ws
