-- Numbers of modules that pass a test, module by module.
use Rattle.std.proofs.Common.{◌≡◌, ℕ, zero, suc, ◌+◌, ◌<◌, ◌≤◌, Bool, true, false, not, ◌||◌, nat_eq, cond, Option, Some, None, List, [], ◌∷◌, ◌++◌, length, get_or, map, refl, sym, ap, ap₂, subst, ◌∙◌, arith, add-zero, zero-add}
use Rattle.std.specs.Prelude.{slice_get, filter}
use Rattle.std.specs.List.{range_with_len, list_any}
use Rattle.std.specs.Option.{option_map, option_map_or}
use Rattle.std.proofs.Math.Numerals.{add-one}
use Rattle.std.proofs.lemmas.Option.{slice_get-get_or, slice_get-map}
use Rattle.std.proofs.lemmas.Bool.{cases_Bool, ne_eqb}
use Rattle.std.proofs.lemmas.List.{length-map}
use Rattle.std.proofs.lemmas.List.Elements.{filter-append}
use mathlib.Core.Logic.{⊎_elim}
use Rattle.top_module.specs.Marks.{is_among}
use Rattle.top_module.specs.Top.{instantiates, is_instantiated, numbers_of, marked, uninstantiated, candidates}
use Rattle.verilog_reader.specs.Plain.{PlainModule}
use Rattle.verilog_reader.specs.View.{module_view, item_view}
use Rattle.verilog_reader.specs.declared.design.Module.{Module}

range_more : (a n : ℕ) → range_with_len a (n + 1) ≡ range_with_len a n ++ (a + n) ∷ []
range_more a zero = ap (λ (k : ℕ). k ∷ []) (sym (add-zero a))
range_more a (suc n) =
    let rest : range_with_len (a + 1) (suc n) ≡ range_with_len (a + 1) n ++ (a + suc n) ∷ [] =
    subst (λ (k : ℕ). range_with_len (a + 1) k ≡ range_with_len (a + 1) n ++ (a + suc n) ∷ []) (add-one n)
    (range_more (a + 1) n ∙ ap (λ (k : ℕ). range_with_len (a + 1) n ++ k ∷ []) (omega arith)) in
    subst (λ (k : ℕ). range_with_len a k ≡ a ∷ (range_with_len (a + 1) n ++ (a + suc n) ∷ [])) (sym (add-one (suc n))) (ap (λ (ks : List ℕ). a ∷ ks) rest)

-- whether the module of a number passes
abbrev passes : (PlainModule → Bool) → List Module → ℕ → Bool
passes test ms k = option_map_or test (slice_get (map module_view ms) k) false

-- the numbers below i whose module passes
abbrev pub below : (PlainModule → Bool) → List Module → ℕ → List ℕ
below test ms i = filter (passes test ms) (range_with_len 0 i)

passes_at : (test : PlainModule → Bool) (ms : List Module) (i : ℕ) (m : Module) → i < length ms → m ≡ get_or ms i m → passes test ms i ≡ test (module_view m)
passes_at test ms i m within here =
    ap (λ (o : Option PlainModule). option_map_or test o false) (slice_get-map module_view ms i)
    ∙ (ap (λ (o : Option Module). option_map_or test (option_map module_view o) false) (slice_get-get_or ms i m within) ∙ ap (λ (x : Module). test (module_view x)) (sym here))

one_or_none : (b : Bool) (ks : List ℕ) (k : ℕ) → ks ++ cond b (k ∷ []) [] ≡ cond b (ks ++ k ∷ []) (ks ++ [])
one_or_none true ks k = refl
one_or_none false ks k = refl

nil_behind : (ks : List ℕ) → ks ++ [] ≡ ks
nil_behind [] = refl
nil_behind (k ∷ ks) = ap (λ (js : List ℕ). k ∷ js) (nil_behind ks)

-- the number of one more module
pub number_more : (test : PlainModule → Bool) (ms : List Module) (i : ℕ) (m : Module) → i < length ms → m ≡ get_or ms i m → below test ms (i + 1) ≡ cond (test (module_view m)) (below test ms i ++ i ∷ []) (below test ms i)
number_more test ms i m within here =
    ap (filter (passes test ms)) (range_more 0 i ∙ ap (λ (k : ℕ). range_with_len 0 i ++ k ∷ []) (zero-add i))
    ∙ (filter-append (passes test ms) (range_with_len 0 i) (i ∷ [])
    ∙ (ap (λ (b : Bool). below test ms i ++ cond b (i ∷ []) []) (passes_at test ms i m within here)
    ∙ (one_or_none (test (module_view m)) (below test ms i) i ∙ ap (cond (test (module_view m)) (below test ms i ++ i ∷ [])) (nil_behind (below test ms i)))))

head_below : (p : ℕ → Bool) (a n : ℕ) → 0 < length (filter p (range_with_len a n)) → get_or (filter p (range_with_len a n)) 0 0 < a + n
head_below p a zero some = absurd (omega arith)
head_below p a (suc n) some =
    ⊎_elim
    (λ yes. rw yes (omega arith))
    (λ no. let rest = head_below p (a + 1) n (rw no at some) in rw no (omega arith))
    (cases_Bool (p a))

-- the first of the candidates is the number of a module
pub first_within : (ms : List Module) (ks : List ℕ) → ks ≡ candidates (map module_view ms) → 1 ≤ length ks → get_or ks 0 0 < length ms
first_within ms ks are some =
    let d = map module_view ms in
    let long : length d ≡ length ms = length-map ms module_view in
    let first : get_or (candidates d) 0 0 < length d = either (nat_eq (length (marked d)) 1) (subst (λ (js : List ℕ). 1 ≤ length js) are some) in
    omega (arith, ap (λ (js : List ℕ). get_or js 0 0) are)
  where
    either : (b : Bool) → 1 ≤ length (cond b (marked (map module_view ms)) (uninstantiated (map module_view ms))) → get_or (cond b (marked (map module_view ms)) (uninstantiated (map module_view ms))) 0 0 < length (map module_view ms)
    either true h = let below' = head_below _ 0 (length (map module_view ms)) h in omega arith
    either false h = let below' = head_below _ 0 (length (map module_view ms)) h in omega arith

any_map : {X Y : Type 0} (p : Y → Bool) (f : X → Y) (xs : List X) → list_any p (map f xs) ≡ list_any (λ x. p (f x)) xs
any_map p f [] = refl
any_map p f (x ∷ xs) = ap (λ (b : Bool). p (f x) || b) (any_map p f xs)

any_same : {X : Type 0} (p q : X → Bool) (xs : List X) → ((x : X) → p x ≡ q x) → list_any p xs ≡ list_any q xs
any_same p q [] h = refl
any_same p q (x ∷ xs) h = ap₂ (λ (a b : Bool). a || b) (h x) (any_same p q xs h)

-- whether a name is instantiated, by the items themselves
instantiated_view : (ms : List Module) (name : List ℕ) → is_instantiated (map module_view ms) name ≡ list_any (λ m. list_any (λ item. instantiates name (item_view item)) m.items) ms
instantiated_view ms name =
    any_map (λ m. list_any (instantiates name) m.items) module_view ms
    ∙ any_same (λ m. list_any (instantiates name) (map item_view m.items)) (λ m. list_any (λ item. instantiates name (item_view item)) m.items) ms (λ m. any_map (instantiates name) item_view m.items)

filter_same : {X : Type 0} (p q : X → Bool) (xs : List X) → ((x : X) → p x ≡ q x) → filter p xs ≡ filter q xs
filter_same p q [] h = refl
filter_same p q (x ∷ xs) h = ap₂ (λ (b : Bool) (ys : List _). cond b (x ∷ ys) ys) (h x) (filter_same p q xs h)

-- the modules whose names are not among those of cells are those that no module instantiates
pub others_are : (ms : List Module) (names : List (List ℕ))
    → ((name : List ℕ) → is_among name names ≡ list_any (λ m. list_any (λ item. instantiates name (item_view item)) m.items) ms)
    → (length (marked (map module_view ms)) ≡ 1 → ⊥) → numbers_of (λ m. not (is_among m.name names)) (map module_view ms) ≡ candidates (map module_view ms)
others_are ms names told other =
    let d = map module_view ms in
    filter_same _ _ (range_with_len 0 (length d)) (λ k. same (slice_get d k))
    ∙ ap (λ (b : Bool). cond b (marked d) (uninstantiated d)) (sym (ne_eqb (length (marked d)) 1 other))
  where
    same : (o : Option PlainModule) → option_map_or (λ m. not (is_among m.name names)) o false ≡ option_map_or (λ m. not (is_instantiated (map module_view ms) m.name)) o false
    same None = refl
    same (Some m) = ap not (told m.name ∙ sym (instantiated_view ms m.name))
