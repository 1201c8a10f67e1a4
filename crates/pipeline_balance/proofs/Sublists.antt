-- Lists with some items left out.
use Rattle.std.proofs.Common.{◌≡◌, ◌+◌, ◌++◌, ℕ, zero, suc, Bool, List, [], ◌∷◌, Option, Some, None, map, filter, take, drop, flat_map, inl, inr, sym, subst, arith}
use Rattle.std.specs.List.{AllByRecursion}
use Rattle.std.proofs.lemmas.Bool.{cases_Bool}
use Rattle.agm_net.specs.Plain.{ports_but}
use Rattle.agm_net.specs.declared.port.Port.{Port}
use Rattle.pipeline_balance.specs.Sublists.{IsSublist, none, kept, left}

-- what holds of each item holds of each that is kept
pub of_sublist : {X : Type 0} (P : X → Type 0) (xs ys : List X) → IsSublist xs ys → AllByRecursion P ys → AllByRecursion P xs
of_sublist P [] [] none h = tt
of_sublist P (x ∷ xs) [] s h = elim s [ ]
of_sublist P (x ∷ xs) (y ∷ ys) (kept s) h = (h.0, of_sublist P xs ys s h.1)
of_sublist P xs (y ∷ ys) (left s) h = of_sublist P xs ys s h.1

pub whole : {X : Type 0} (xs : List X) → IsSublist xs xs
whole [] = none
whole (x ∷ xs) = kept (whole xs)

pub nothing : {X : Type 0} (xs : List X) → IsSublist [] xs
nothing [] = none
nothing (x ∷ xs) = left (nothing xs)

pub sublists_joined : {X : Type 0} (xs us ys vs : List X) → IsSublist xs us → IsSublist ys vs → IsSublist (xs ++ ys) (us ++ vs)
sublists_joined [] [] ys vs none t = t
sublists_joined (x ∷ xs) [] ys vs s t = elim s [ ]
sublists_joined (x ∷ xs) (u ∷ us) ys vs (kept s) t = kept (sublists_joined xs us ys vs s t)
sublists_joined xs (u ∷ us) ys vs (left s) t = left (sublists_joined xs us ys vs s t)

pub sublist_of_each : {X Y : Type 0} (f : X → List Y) (xs ys : List X) → IsSublist xs ys → IsSublist (flat_map f xs) (flat_map f ys)
sublist_of_each f [] [] none = none
sublist_of_each f (x ∷ xs) [] s = elim s [ ]
sublist_of_each f (x ∷ xs) (y ∷ ys) (kept s) = sublists_joined (f x) (f x) (flat_map f xs) (flat_map f ys) (whole (f x)) (sublist_of_each f xs ys s)
sublist_of_each f xs (y ∷ ys) (left s) = sublists_joined [] (f y) (flat_map f xs) (flat_map f ys) (nothing (f y)) (sublist_of_each f xs ys s)

pub sublist_of_images : {X Y : Type 0} (f : X → Y) (xs ys : List X) → IsSublist xs ys → IsSublist (map f xs) (map f ys)
sublist_of_images f [] [] none = none
sublist_of_images f (x ∷ xs) [] s = elim s [ ]
sublist_of_images f (x ∷ xs) (y ∷ ys) (kept s) = kept (sublist_of_images f xs ys s)
sublist_of_images f xs (y ∷ ys) (left s) = left (sublist_of_images f xs ys s)

-- the items that pass a test
pub sublist_filtered : {X : Type 0} (test : X → Bool) (xs : List X) → IsSublist (filter test xs) xs
sublist_filtered test [] = none
sublist_filtered test (x ∷ xs) = elim (cases_Bool (test x)) [ inl passes ↦ rw passes (kept (sublist_filtered test xs)) | inr fails ↦ rw fails (left (sublist_filtered test xs)) ]

-- all items but one
but_one : (c : ℕ) (ports : List Port) → IsSublist (take c ports ++ drop (c + 1) ports) ports
but_one zero [] = none
but_one (suc c) [] =
    let next : suc c + 1 ≡ suc (c + 1) = omega arith in
    subst (λ k. IsSublist {X = Port} (take (suc c) [] ++ drop k []) []) (sym next) none
but_one zero (p ∷ ps) = left (whole ps)
but_one (suc c) (p ∷ ps) =
    let next : suc c + 1 ≡ suc (c + 1) = omega arith in
    subst (λ k. IsSublist {X = Port} (take (suc c) (p ∷ ps) ++ drop k (p ∷ ps)) (p ∷ ps)) (sym next) (kept (but_one c ps))

pub sublist_but : (clock : Option ℕ) (ports : List Port) → IsSublist (ports_but clock ports) ports
sublist_but None ports = whole ports
sublist_but (Some c) ports = but_one c ports
