-- What declarations declare, and which names are unknown, one list behind another.
use Rattle.std.proofs.Common.{◌≡◌, ◌<◌, ◌+◌, ℕ, suc, Bool, true, false, cond, List, [], ◌∷◌, ◌++◌, Option, Some, None, refl, sym, ap, ◌∙◌, map, drop, length, get_or, add-one, drop-cons}
use Rattle.verilog_reader.specs.View.{item_view}
use Rattle.verilog_reader.specs.declared.design.Item.{Item}
use Rattle.module_rules.specs.Items.{Text, Declared, is_among, ports_of, ports_in, declared_by, declared_in}
use Rattle.module_rules.specs.Rules.{Scope, or_else, clashes, more, first_clash, declared_after, first_unknown}

clash_or : {X : Type 0} (b : Bool) (x : X) (o p : Option X) → cond b (Some x) (or_else o p) ≡ or_else (cond b (Some x) o) p
clash_or true x o p = refl
clash_or false x o p = refl

other_or : {X : Type 0} (b : Bool) (x : X) (o p : Option X) → cond b (or_else o p) (Some x) ≡ or_else (cond b o (Some x)) p
other_or true x o p = refl
other_or false x o p = refl

pub first_clash_append : (s : Scope) (xs ys : List Declared) → first_clash s (xs ++ ys) ≡ or_else (first_clash s xs) (first_clash (declared_after s xs) ys)
first_clash_append s [] ys = refl
first_clash_append s (d ∷ ds) ys =
    ap (λ o. cond (clashes s d.way d.name d.range) (Some d.name) o) (first_clash_append (more s d.way d.name d.range) ds ys)
    ∙ clash_or (clashes s d.way d.name d.range) d.name (first_clash (more s d.way d.name d.range) ds) (first_clash (declared_after (more s d.way d.name d.range) ds) ys)

pub declared_after_append : (s : Scope) (xs ys : List Declared) → declared_after s (xs ++ ys) ≡ declared_after (declared_after s xs) ys
declared_after_append s [] ys = refl
declared_after_append s (d ∷ ds) ys = declared_after_append (more s d.way d.name d.range) ds ys

pub first_unknown_append : (others xs ys : List Text) → first_unknown others (xs ++ ys) ≡ or_else (first_unknown others xs) (first_unknown others ys)
first_unknown_append others [] ys = refl
first_unknown_append others (n ∷ ns) ys =
    ap (λ o. cond (is_among others n) o (Some n)) (first_unknown_append others ns ys)
    ∙ other_or (is_among others n) n (first_unknown others ns) (first_unknown others ys)

-- the items from one on
pub item_on : (xs : List Item) (i : ℕ) (x : Item) → x ≡ get_or xs i x → i < length xs → drop i xs ≡ x ∷ drop (i + 1) xs
item_on xs i x e h = let d = drop-cons xs i x h in let o : i + 1 ≡ suc i = add-one i in cc

unlisted_split : (others : List Text) (xs : List Item) (i : ℕ) (x : Item) → x ≡ get_or xs i x → i < length xs
    → first_unknown others (ports_in (map item_view (drop i xs))) ≡ or_else (first_unknown others (ports_of (item_view x))) (first_unknown others (ports_in (map item_view (drop (i + 1) xs))))
unlisted_split others xs i x e h =
    ap (λ (ys : List Item). first_unknown others (ports_in (map item_view ys))) (item_on xs i x e h)
    ∙ first_unknown_append others (ports_of (item_view x)) (ports_in (map item_view (drop (i + 1) xs)))

pub unlisted_here : (others : List Text) (xs : List Item) (i : ℕ) (x : Item) (n : Text) (whole : Option Text) → x ≡ get_or xs i x → i < length xs
    → first_unknown others (ports_in (map item_view (drop i xs))) ≡ whole → Some n ≡ first_unknown others (ports_of (item_view x)) → Some n ≡ whole
unlisted_here others xs i x n whole e h all here =
    sym (unlisted_split others xs i x e h ∙ ap (λ o. or_else o (first_unknown others (ports_in (map item_view (drop (i + 1) xs))))) (sym here)) ∙ all

pub unlisted_on : (others : List Text) (xs : List Item) (i : ℕ) (x : Item) (whole : Option Text) → x ≡ get_or xs i x → i < length xs
    → first_unknown others (ports_in (map item_view (drop i xs))) ≡ whole → None ≡ first_unknown others (ports_of (item_view x))
    → first_unknown others (ports_in (map item_view (drop (i + 1) xs))) ≡ whole
unlisted_on others xs i x whole e h all here =
    sym (unlisted_split others xs i x e h ∙ ap (λ o. or_else o (first_unknown others (ports_in (map item_view (drop (i + 1) xs))))) (sym here)) ∙ all

clash_split : (s : Scope) (xs : List Item) (i : ℕ) (x : Item) → x ≡ get_or xs i x → i < length xs
    → first_clash s (declared_in (map item_view (drop i xs))) ≡ or_else (first_clash s (declared_by (item_view x))) (first_clash (declared_after s (declared_by (item_view x))) (declared_in (map item_view (drop (i + 1) xs))))
clash_split s xs i x e h =
    ap (λ (ys : List Item). first_clash s (declared_in (map item_view ys))) (item_on xs i x e h)
    ∙ first_clash_append s (declared_by (item_view x)) (declared_in (map item_view (drop (i + 1) xs)))

pub clash_here : (s : Scope) (xs : List Item) (i : ℕ) (x : Item) (n : Text) (whole : Option Text) → x ≡ get_or xs i x → i < length xs
    → first_clash s (declared_in (map item_view (drop i xs))) ≡ whole → Some n ≡ first_clash s (declared_by (item_view x)) → Some n ≡ whole
clash_here s xs i x n whole e h all here =
    sym (clash_split s xs i x e h ∙ ap (λ o. or_else o (first_clash (declared_after s (declared_by (item_view x))) (declared_in (map item_view (drop (i + 1) xs))))) (sym here)) ∙ all

pub clash_on : (s t : Scope) (xs : List Item) (i : ℕ) (x : Item) (whole : Option Text) → x ≡ get_or xs i x → i < length xs
    → first_clash s (declared_in (map item_view (drop i xs))) ≡ whole → None ≡ first_clash s (declared_by (item_view x)) → t ≡ declared_after s (declared_by (item_view x))
    → first_clash t (declared_in (map item_view (drop (i + 1) xs))) ≡ whole
clash_on s t xs i x whole e h all here now =
    ap (λ u. first_clash u (declared_in (map item_view (drop (i + 1) xs)))) now
    ∙ (sym (clash_split s xs i x e h ∙ ap (λ o. or_else o (first_clash (declared_after s (declared_by (item_view x))) (declared_in (map item_view (drop (i + 1) xs))))) (sym here)) ∙ all)

pub declared_on : (s t : Scope) (xs : List Item) (i : ℕ) (x : Item) (whole : Scope) → x ≡ get_or xs i x → i < length xs
    → declared_after s (declared_in (map item_view (drop i xs))) ≡ whole → t ≡ declared_after s (declared_by (item_view x))
    → declared_after t (declared_in (map item_view (drop (i + 1) xs))) ≡ whole
declared_on s t xs i x whole e h all now =
    ap (λ u. declared_after u (declared_in (map item_view (drop (i + 1) xs)))) now
    ∙ (sym (ap (λ (ys : List Item). declared_after s (declared_in (map item_view ys))) (item_on xs i x e h)
    ∙ declared_after_append s (declared_by (item_view x)) (declared_in (map item_view (drop (i + 1) xs)))) ∙ all)

pub some_is_none : {X : Type 0} (x : X) → Some x ≡ None → ⊥
some_is_none x e = cc
