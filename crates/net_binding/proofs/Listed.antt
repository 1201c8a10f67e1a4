-- Outlines and ports, one more at a time.
use Rattle.std.proofs.Common.{◌≡◌, ◌≤◌, ◌<◌, ◌+◌, ◌-◌, ◌++◌, ℕ, zero, suc, List, [], ◌∷◌, Option, Some, None, Result, Ok, Err, IfOk, map, length, drop, append-nil, drop_of_length-le, get_or, slice_get, inl, inr, refl, ap, sym, ◌∙◌, arith, ◌⊎◌, subst}
use Rattle.std.specs.List.{range_with_len, flat_map}
use Rattle.std.proofs.lemmas.List.FromFn.{map-range_with_len_more}
use Rattle.std.proofs.lemmas.List.{map-id, length-append}
use Rattle.std.proofs.lemmas.Option.{slice_get-get_or}
use Rattle.agm_bits.specs.declared.list.Memory.{Memory}
use Rattle.agm_net.specs.declared.port.Port.{Port}
use Rattle.agm_net.specs.declared.port.Way.{Way}
use Rattle.verilog_reader.specs.View.{module_view}
use Rattle.verilog_reader.specs.Plain.{PlainModule}
use Rattle.verilog_reader.specs.declared.design.Module.{Module}
use Rattle.form_bits.specs.Forms.{Text, range_width}
use Rattle.module_outlines.specs.Outlines.{Wide, wides, own_wides, port_wide, port_way, kind_range}
use Rattle.module_outlines.specs.View.{wide_view, Outlines}
use Rattle.module_outlines.specs.declared.wide.Wide as raw
use Rattle.module_outlines.specs.declared.outline.Outline.{Outline}
use Rattle.top_module.specs.Ports.{kind_of}
use Rattle.net_binding.specs.Bound.{ports_from}
use Rattle.net_binding.specs.Ports.{port_at, ports_by}
use Rattle.net_binding.specs.Ready.{AreOutlines}

some_same : {X : Type 0} (x y : X) → Some x ≡ Some y → x ≡ y
some_same x y e = cc

get_more : {X : Type 0} (xs : List X) (x : X) (k : ℕ) (y : X) → slice_get (xs ++ x ∷ []) k ≡ Some y → (slice_get xs k ≡ Some y) ⊎ ((k ≡ length xs) × (x ≡ y))
get_more [] x zero y e = inr (refl, some_same x y e)
get_more [] x (suc k) y e = absurd (let no : None ≡ Some y = e in cc)
get_more (z ∷ zs) x zero y e = inl e
get_more (z ∷ zs) x (suc k) y e =
    elim (get_more zs x k y e) [
      | inl a ↦ inl a
      | inr b ↦ inr (ap suc b.0, b.1)
    ]

outline_found : (modules : List Module) (old new : List Outline) (i : ℕ) (m : Module) (o : Outline) → slice_get modules i ≡ Some m → Outlines (module_view m) o
    → (length old ≡ i) × AreOutlines modules old → new ≡ old ++ o ∷ [] → (k : ℕ) (n : Module) (p : Outline) → slice_get modules k ≡ Some n → slice_get new k ≡ Some p → Outlines (module_view n) p
outline_found modules old new i m o e h was now k n p f g =
    elim (get_more old o k p (sym (ap (λ xs. slice_get xs k) now) ∙ g)) [
      | inl a ↦ was.1 k n p f a
      | inr b ↦
          let at : k ≡ i = b.0 ∙ was.0 in
          let same : m ≡ n = some_same m n (sym e ∙ (ap (λ j. slice_get modules j) (sym at) ∙ f)) in
          subst (λ x. Outlines (module_view n) x) b.1 (subst (λ x. Outlines (module_view x) o) same h)
    ]

pub outlines_on : (modules : List Module) (old new : List Outline) (i : ℕ) (m : Module) (o : Outline) → m ≡ get_or modules i m → i < length modules → Outlines (module_view m) o
    → (length old ≡ i) × AreOutlines modules old → new ≡ old ++ o ∷ [] → (length new ≡ i + 1) × AreOutlines modules new
outlines_on modules old new i m o at less h was now =
    let e : slice_get modules i ≡ Some m = slice_get-get_or modules i m less ∙ ap (λ x. Some x) (sym at) in
    let long : length new ≡ i + 1 = ap length now ∙ (length-append old (o ∷ []) ∙ ap (λ x. x + 1) was.0) in
    (long, λ k n p f g. outline_found modules old new i m o e h was now k n p f g)

numbers_next : (start k : ℕ) → start ≤ k → range_with_len start (k + 1 - start) ≡ range_with_len start (k - start) ++ k ∷ []
numbers_next start k h =
    let long : k + 1 - start ≡ (k - start) + 1 = omega arith in
    let last : start + (k - start) ≡ k = omega arith in
    ap (λ n. range_with_len start n) long
    ∙ (sym (map-id (range_with_len start (k - start + 1))) ∙ (map-range_with_len_more (λ j. j) start (k - start) k last ∙ ap (λ (xs : List ℕ). xs ++ k ∷ []) (map-id (range_with_len start (k - start)))))

pub numbers_on : (new old : List ℕ) (start k : ℕ) → start ≤ k → old ≡ range_with_len start (k - start) → new ≡ old ++ k ∷ [] → new ≡ range_with_len start (k + 1 - start)
numbers_on new old start k h was now = now ∙ (ap (λ (xs : List ℕ). xs ++ k ∷ []) was ∙ sym (numbers_next start k h))

no_ways : (first : ℕ) (ws : List Wide) → ports_by first ws [] ≡ []
no_ways first [] = refl
no_ways first (w ∷ ws) = refl

ports_are : (m : PlainModule) (first : ℕ) (names : List Text) (more : List Wide) → ports_by first (map (port_wide m) names ++ more) (map (port_way m) names) ≡ ports_from m first names
ports_are m first [] more = no_ways first more
ports_are m first (n ∷ ns) more = ap (λ ps. port_at first (port_wide m n) (port_way m n) ∷ ps) (ports_are m (first + range_width (kind_range (kind_of m n))) ns more)

pub ports_given : (o : Outline) (ws : List raw.Wide) (ways : List Way) (r : Result (List Port) Memory) → ws ≡ o.wides → ways ≡ o.ways → IfOk r (λ ps. ps ≡ ports_by 0 (map wide_view ws) ways)
    → IfOk r (λ ps. (m : PlainModule) → Outlines m o → ps ≡ ports_from m 0 m.ports)
ports_given o ws ways (Ok ps) e f g = λ m h.
    g ∙ (ap (λ xs. ports_by 0 (map wide_view xs) ways) e ∙ (ap (λ ys. ports_by 0 (map wide_view o.wides) ys) (f ∙ h.ways)
    ∙ (ap (λ xs. ports_by 0 xs (map (port_way m) m.ports)) h.wides ∙ ports_are m 0 m.ports (flat_map (own_wides m.ports) m.items))))
ports_given o ws ways (Err e) a b c = c

pub listed_end : (ps whole : List Port) (first i : ℕ) (ws : List raw.Wide) (ways : List Way) → length ways ≤ i → ps ++ ports_by first (map wide_view (drop i ws)) (drop i ways) ≡ whole → ps ≡ whole
listed_end ps whole first i ws ways past was =
    let none : ports_by first (map wide_view (drop i ws)) (drop i ways) ≡ [] = ap (λ ys. ports_by first (map wide_view (drop i ws)) ys) (drop_of_length-le ways past) ∙ no_ways first (map wide_view (drop i ws)) in
    sym (append-nil ps) ∙ (ap (λ (xs : List Port). ps ++ xs) (sym none) ∙ was)
