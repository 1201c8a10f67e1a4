-- The names of instances differ, from each other and from the names of a net.
use Rattle.std.proofs.Common.{◌≡◌, ◌≢◌, ◌+◌, ◌<◌, ◌≤◌, ◌^◌, ◌%◌, ℕ, zero, suc, Bool, true, false, cond, max, List, [], ◌∷◌, ◌++◌, length, map, fold, replicate, codes, nat_eq, IsTrue, refl, sym, ap, ◌∙◌, arith, length-append}
use Rattle.std.specs.List.{AllByRecursion, flat_map, enumerate_from, starts_with}
use Rattle.std.specs.Fmt.{decimal}
use Rattle.std.proofs.lemmas.Bool.{le-leb}
use Rattle.std.proofs.lemmas.List.{length-replicate}
use Rattle.std.proofs.lemmas.Fmt.{decimal_by_steps, decimal_injective}
use Rattle.agm_net.specs.Writable.{IsWritable, is_graphic}
use Rattle.verilog_reader.specs.Plain.{PlainForm, PlainItem}
use Rattle.module_rules.specs.Items.{instance_of}
use Rattle.net_design.specs.declared.cells.Cell.{Cell}
use Rattle.net_design.specs.declared.cells.Cell.TheVariants as cell
use Rattle.net_design.specs.declared.cells.Next.{Next}
use Rattle.net_design.specs.declared.cells.Next.TheVariants as next
use Rattle.net_design.specs.Design.{longer, instance_name, cell_item, next_item}
use Rattle.design_binds.proofs.Apart.{Apart, all_append, all_from}

-- an instance's name tells its number

same_behind : (m : ℕ) (a b : List ℕ) → replicate m 95 ++ a ≡ replicate m 95 ++ b → a ≡ b
same_behind zero a b e = e
same_behind (suc m) a b e = same_behind m a b (cc)

pub same_number : (m k j : ℕ) → k < 2 ^ 64 → j < 2 ^ 64 → instance_name m k ≡ instance_name m j → k ≡ j
same_number m k j hk hj e = let rest : replicate m 95 ++ decimal k ≡ replicate m 95 ++ decimal j = cc in decimal_injective k j hk hj (same_behind m (decimal k) (decimal j) rest)

-- names no longer than the margin, if they begin so, are none of them

abbrev pub Fits : ℕ → List ℕ → Type 0
Fits m x = starts_with nat_eq x (codes "agm_u") ≡ true → length x ≤ m

long_name : (m k : ℕ) → m + 5 ≤ length (instance_name m k)
long_name m k =
    let a : length (instance_name m k) ≡ suc (suc (suc (suc (suc (length (replicate m 95 ++ decimal k)))))) = refl in
    let b : length (replicate m 95 ++ decimal k) ≡ length (replicate m 95) + length (decimal k) = length-append (replicate m 95) (decimal k) in
    let c : length (replicate m 95) ≡ m = length-replicate {A = ℕ} m 95 in omega (arith, a, b, c)

pub other_name : (m k : ℕ) (x : List ℕ) → Fits m x → instance_name m k ≢ x
other_name m k x fits e =
    let begins : starts_with nat_eq x (codes "agm_u") ≡ true = ap (λ y. starts_with nat_eq y (codes "agm_u")) (sym e) in
    let short = fits begins in
    let long = long_name m k in
    let same : length (instance_name m k) ≡ length x = ap length e in omega arith

longer_case : (b : Bool) (most l : ℕ) → (most ≤ cond b (max most l) most) × (b ≡ true → l ≤ cond b (max most l) most)
longer_case true most l = (omega arith, λ e. omega arith)
longer_case false most l = (omega arith, λ e. absurd (cc))

pub longer_keeps : (most : ℕ) (xs : List (List ℕ)) → most ≤ fold longer most xs
longer_keeps most [] = omega arith
longer_keeps most (x ∷ xs) =
    let here = (longer_case (starts_with nat_eq x (codes "agm_u")) most (length x)).0 in
    let rest = longer_keeps (longer most x) xs in omega arith

pub longer_all : (most : ℕ) (xs : List (List ℕ)) → AllByRecursion (Fits (fold longer most xs)) xs
longer_all most [] = tt
longer_all most (x ∷ xs) = (
  (λ e. let here = (longer_case (starts_with nat_eq x (codes "agm_u")) most (length x)).1 e in let rest = longer_keeps (longer most x) xs in omega arith),
  longer_all (longer most x) xs,
)

pub fits_more : (m n : ℕ) (xs : List (List ℕ)) → m ≤ n → AllByRecursion (Fits m) xs → AllByRecursion (Fits n) xs
fits_more m n xs le h = all_from (Fits m) (Fits n) (λ x f e. let short = f e in omega arith) xs h

-- the names of statements

pub cell_names : (form : ℕ → PlainForm) (m k w : ℕ) (c : Cell) (P : List (List ℕ) → Type 0) → P [] → P (instance_name m k ∷ []) → P (instance_of (cell_item form m k w c))
cell_names form m k w (cell.Constant v) P none one = none
cell_names form m k w (cell.Wire a) P none one = none
cell_names form m k w (cell.Not a) P none one = one
cell_names form m k w (cell.And a b) P none one = one
cell_names form m k w (cell.Or a b) P none one = one
cell_names form m k w (cell.Xor a b) P none one = one
cell_names form m k w (cell.Mux s a b) P none one = one
cell_names form m k w cell.Other P none one = none

pub next_names : (form : ℕ → PlainForm) (m k c q : ℕ) (n : Next) (P : List (List ℕ) → Type 0) → P [] → P (instance_name m k ∷ []) → P (instance_of (next_item form m k c q n))
next_names form m k c q (next.Wire d) P none one = one
next_names form m k c q (next.Enabled e d) P none one = one
next_names form m k c q next.Other P none one = none

-- the name of an instance with a number from k on, and below another
abbrev pub IsInstanceOf : (m k n : ℕ) → List ℕ → Type 0
IsInstanceOf m k n name = (j : ℕ) × (k ≤ j) × (j < n) × (name ≡ instance_name m j)

-- instances that are called by numbers from the next one on are others
new_name : (m k n : ℕ) (names : List (List ℕ)) → n ≤ 2 ^ 64 → k < n → AllByRecursion (IsInstanceOf m (k + 1) n) names → AllByRecursion (λ x. instance_name m k ≢ x) names
new_name m k n names fits lt later =
    all_from (IsInstanceOf m (k + 1) n) (λ x. instance_name m k ≢ x)
    (λ x at e. let number = same_number m k at.0 (omega arith) (let below = at.2 in omega arith) (e ∙ at.3) in let from = at.1 in omega arith) names later

-- statements by their numbers, each with at most the instance of its number
module _ (X : Type 0) (m : ℕ) (item : ℕ × X → PlainItem) (each : (k : ℕ) (x : X) (P : List (List ℕ) → Type 0) → P [] → P (instance_name m k ∷ []) → P (instance_of (item (k, x)))) where
  abbrev pub names_from : ℕ → List X → List (List ℕ)
  names_from k xs = flat_map instance_of (map item (enumerate_from k xs))

  pub named : (k : ℕ) (xs : List X) → AllByRecursion (IsInstanceOf m k (k + length xs)) (names_from k xs)
  named k [] = tt
  named k (x ∷ xs) =
      let rest = named (k + 1) xs in
      let later = all_from (IsInstanceOf m (k + 1) (k + 1 + length xs)) (IsInstanceOf m k (k + length (x ∷ xs))) (λ y at. let from = at.1 in let below = at.2 in (at.0, omega arith, omega arith, at.3)) (names_from (k + 1) xs) rest in
      let here : AllByRecursion (IsInstanceOf m k (k + length (x ∷ xs))) (instance_name m k ∷ []) = ((k, omega arith, omega arith, refl), tt) in
      all_append (IsInstanceOf m k (k + length (x ∷ xs))) (instance_of (item (k, x))) (names_from (k + 1) xs)
      (each k x (AllByRecursion (IsInstanceOf m k (k + length (x ∷ xs)))) tt here) later

  pub differ : (k : ℕ) (xs : List X) → k + length xs ≤ 2 ^ 64 → Apart (names_from k xs)
  differ k [] fits = tt
  differ k (x ∷ xs) fits =
      let more = differ (k + 1) xs (omega arith) in
      let new = new_name m k (k + 1 + length xs) (names_from (k + 1) xs) (omega arith) (omega arith) (named (k + 1) xs) in
      each k x (λ ns. Apart (ns ++ names_from (k + 1) xs)) more (new, more)

-- the name of an instance can be written

graphic_push : (ds : List ℕ) (d : ℕ) → AllByRecursion (λ b. IsTrue (is_graphic b)) ds → IsTrue (is_graphic d) → AllByRecursion (λ b. IsTrue (is_graphic b)) (ds ++ d ∷ [])
graphic_push ds d h g = all_append (λ b. IsTrue (is_graphic b)) ds (d ∷ []) h (g, tt)

graphic_digit : (d : ℕ) → d < 10 → IsTrue (is_graphic (48 + d))
graphic_digit d lt = rw (le-leb 33 (48 + d) (omega arith), le-leb (48 + d) 126 (omega arith))

graphic_decimal : (n : ℕ) → n < 2 ^ 64 → AllByRecursion (λ b. IsTrue (is_graphic b)) (decimal n)
graphic_decimal n lt =
    decimal_by_steps (λ m ds. AllByRecursion (λ b. IsTrue (is_graphic b)) ds)
    (λ m small. (graphic_digit m small, tt)) (λ m ds large h. graphic_push ds (48 + m % 10) h (graphic_digit (m % 10) (omega arith))) n lt

graphic_margin : (m : ℕ) → AllByRecursion (λ b. IsTrue (is_graphic b)) (replicate m 95)
graphic_margin zero = tt
graphic_margin (suc m) = (refl, graphic_margin m)

pub instance_writable : (m k : ℕ) → k < 2 ^ 64 → IsWritable (instance_name m k)
instance_writable m k lt =
    let some = long_name m k in
    (omega arith, (refl, (refl, (refl, (refl, (refl, all_append (λ b. IsTrue (is_graphic b)) (replicate m 95) (decimal k) (graphic_margin m) (graphic_decimal k lt)))))))
