-- One item more of what grows in a loop.
use Rattle.std.proofs.Common.{◌≡◌, ◌<◌, ◌+◌, ◌++◌, ℕ, zero, suc, Bool, true, false, not, cond, List, [], ◌∷◌, length, take, map, filter, get_or, ap, ap₂, sym, ◌∙◌, arith, zero-add}
use Rattle.std.specs.List.{enumerate_from, range_with_len}
use Rattle.std.proofs.lemmas.List.{append_assoc, append-nil, map-append, length-take-le, get_or-map, take_more}
use Rattle.std.proofs.lemmas.List.Elements.{filter-append}
use Rattle.std.proofs.lemmas.List.FromFn.{map-range_with_len_more}
use Rattle.agm_net.specs.Plain.{is_input}
use Rattle.agm_net.specs.declared.port.Port.{Port}
use Rattle.side_by_side.specs.Pairs.{numbered_outputs}

-- one number more
pub numbers_more : {X : Type 0} (f : ℕ → X) (k : ℕ) (now new : List X) (x : X) → now ≡ map f (range_with_len 0 k) → x ≡ f k → new ≡ now ++ x ∷ [] → new ≡ map f (range_with_len 0 (k + 1))
numbers_more {X} f k now new x before is more =
    more ∙ (ap₂ (λ (xs : List X) (y : X). xs ++ y ∷ []) before is ∙ sym (map-range_with_len_more f 0 k k (zero-add k)))

-- one item more
pub items_more : {X Y : Type 0} (f : X → Y) (xs : List X) (k : ℕ) (d : X) (old now new : List Y) (y : Y) → k < length xs → now ≡ old ++ map f (take k xs) → y ≡ f (get_or xs k d) → new ≡ now ++ y ∷ [] → new ≡ old ++ map f (take (k + 1) xs)
items_more {X} {Y} f xs k d old now new y lt before is more =
    more
    ∙ (ap₂ (λ (ys : List Y) (z : Y). ys ++ z ∷ []) before is
    ∙ (append_assoc old (map f (take k xs)) (f (get_or xs k d) ∷ [])
    ∙ ap (λ (ys : List Y). old ++ ys) (sym (map-append f (take k xs) (get_or xs k d ∷ [])) ∙ ap (map f) (sym (take_more xs k d lt)))))

-- an item of a mapped list
pub item_of : {X Y : Type 0} (f : X → Y) (xs : List X) (ys : List Y) (k : ℕ) (d : X) (y : Y) → ys ≡ map f xs → k < length xs → y ≡ get_or ys k y → y ≡ f (get_or xs k d)
item_of f xs ys k d y are lt is = is ∙ (ap (λ zs. get_or zs k y) are ∙ get_or-map f xs k d y lt)

-- the default of a place that is there doesn't count
pub item_at : {X : Type 0} (xs : List X) (k : ℕ) (x d : X) → k < length xs → x ≡ get_or xs k x → get_or xs k d ≡ x
item_at [] k x d lt is = absurd (omega (arith, lt))
item_at (y ∷ ys) zero x d lt is = sym is
item_at (y ∷ ys) (suc k) x d lt is = item_at ys k x d (omega (arith, lt)) is

pub enumerate_more : {X : Type 0} (n : ℕ) (xs : List X) (x : X) → enumerate_from n (xs ++ x ∷ []) ≡ enumerate_from n xs ++ (n + length xs, x) ∷ []
enumerate_more n [] x = let none : n ≡ n + 0 = omega arith in ap (λ (k : ℕ). (k, x) ∷ []) none
enumerate_more n (y ∷ ys) x =
    let place : n + 1 + length ys ≡ n + length (y ∷ ys) = omega arith in
    ap (λ es. (n, y) ∷ es) (enumerate_more (n + 1) ys x ∙ ap (λ (k : ℕ). enumerate_from (n + 1) ys ++ (k, x) ∷ []) place)

-- one more of numbered items
pub numbered_more : {X : Type 0} (xs : List X) (k : ℕ) (x : X) → k < length xs → x ≡ get_or xs k x → enumerate_from 0 (take (k + 1) xs) ≡ enumerate_from 0 (take k xs) ++ (k, x) ∷ []
numbered_more {X} xs k x lt is =
    let long : length (take k xs) ≡ k = length-take-le k xs (omega (arith, lt)) in
    let place : 0 + length (take k xs) ≡ k = omega (arith, long) in
    ap (enumerate_from 0) (take_more xs k x lt)
    ∙ (enumerate_more 0 (take k xs) (get_or xs k x) ∙ ap₂ (λ (n : ℕ) (y : X). enumerate_from 0 (take k xs) ++ (n, y) ∷ []) place (sym is))

kept : (k : ℕ) (p : Port) (keep : Bool) → keep ≡ not (is_input p) → filter (λ (item : ℕ × Port). not (is_input item.1)) ((k, p) ∷ []) ≡ cond keep ((k, p) ∷ []) []
kept k p keep is = ap (λ (b : Bool). cond b ((k, p) ∷ []) []) (sym is)

-- one port more, if it is an output
pub outputs_more : (ports : List Port) (k : ℕ) (p : Port) (keep : Bool) → k < length ports → p ≡ get_or ports k p → keep ≡ not (is_input p)
    → numbered_outputs (take (k + 1) ports) ≡ numbered_outputs (take k ports) ++ cond keep ((k, p) ∷ []) []
outputs_more ports k p keep lt is kind =
    ap (filter (λ (item : ℕ × Port). not (is_input item.1))) (numbered_more ports k p lt is)
    ∙ (filter-append (λ (item : ℕ × Port). not (is_input item.1)) (enumerate_from 0 (take k ports)) ((k, p) ∷ []) ∙ ap (λ es. numbered_outputs (take k ports) ++ es) (kept k p keep kind))

pub watched_more : {Y : Type 0} (f : ℕ × Port → Y) (ports : List Port) (k : ℕ) (p : Port) (now new : List Y) (y : Y) → k < length ports → p ≡ get_or ports k p → true ≡ not (is_input p)
    → now ≡ map f (numbered_outputs (take k ports)) → y ≡ f (k, p) → new ≡ now ++ y ∷ [] → new ≡ map f (numbered_outputs (take (k + 1) ports))
watched_more {Y} f ports k p now new y lt is kind before made more =
    more
    ∙ (ap₂ (λ (ys : List Y) (z : Y). ys ++ z ∷ []) before made
    ∙ (sym (map-append f (numbered_outputs (take k ports)) ((k, p) ∷ [])) ∙ ap (map f) (sym (outputs_more ports k p true lt is kind))))

pub watched_same : {Y : Type 0} (f : ℕ × Port → Y) (ports : List Port) (k : ℕ) (p : Port) (now : List Y) → k < length ports → p ≡ get_or ports k p → false ≡ not (is_input p)
    → now ≡ map f (numbered_outputs (take k ports)) → now ≡ map f (numbered_outputs (take (k + 1) ports))
watched_same f ports k p now lt is kind before =
    before ∙ ap (map f) (sym (append-nil (numbered_outputs (take k ports))) ∙ sym (outputs_more ports k p false lt is kind))
