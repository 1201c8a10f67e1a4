-- The rules for names, one by one.
use Rattle.std.proofs.Common.{◌≡◌, ℕ, true, false, not, List, [], ◌∷◌, ◌++◌, Option, Some, None, refl, sym, ap, ◌∙◌, subst, inl, inr, append_assoc, append-nil}
use Rattle.std.specs.Prelude.{position}
use Rattle.std.specs.List.{AllByRecursion, flat_map}
use Rattle.std.specs.Str.{bytes_eq}
use Rattle.std.proofs.lemmas.Bool.{cases_Bool, or_left}
use Rattle.agm_net.specs.declared.port.Way.{Way}
use Rattle.agm_net.specs.declared.port.Range.{Range}
use Rattle.module_rules.specs.Items.{is_among, Declared, declaration}
use Rattle.module_rules.specs.Rules.{first_repeated, first_unknown, same_range, range_at, range_in, differs, Scope, add_port, add_wire, more, first_clash, declared_after, first_taken}
use Rattle.design_binds.proofs.Among.{Apart, same_names, name_itself, apart_sides}
use Rattle.design_binds.proofs.Places.{shift, position_yes, position_no}

-- a name is one of a list that it heads
heads : (n : List ℕ) (ns : List (List ℕ)) → is_among (n ∷ ns) n ≡ true
heads n ns = or_left (bytes_eq n n) (is_among ns n) (name_itself n)

regroup : (xs ys : List (List ℕ)) (n : List ℕ) → Apart (xs ++ n ∷ ys) → Apart ((xs ++ n ∷ []) ++ ys)
regroup xs ys n a = subst Apart (sym (append_assoc xs (n ∷ []) ys)) a

pub repeated_none : (earlier names : List (List ℕ)) → Apart (earlier ++ names) → first_repeated earlier names ≡ None
repeated_none earlier [] a = refl
repeated_none earlier (n ∷ ns) a =
    let new : is_among earlier n ≡ false = apart_sides earlier (n ∷ ns) n a (heads n ns) in
    rw new (repeated_none (earlier ++ n ∷ []) ns (regroup earlier ns n a))

pub unknown_none : (others names : List (List ℕ)) → AllByRecursion (λ n. is_among others n ≡ true) names → first_unknown others names ≡ None
unknown_none others [] h = refl
unknown_none others (n ∷ ns) h = rw h.0 (unknown_none others ns h.1)

pub taken_none : (sc : Scope) (earlier names : List (List ℕ)) → Apart (earlier ++ names) → AllByRecursion (λ n. is_among sc.ports n ≡ false) names → AllByRecursion (λ n. is_among sc.wires n ≡ false) names → first_taken sc earlier names ≡ None
taken_none sc earlier [] a p w = refl
taken_none sc earlier (n ∷ ns) a p w =
    let new : is_among earlier n ≡ false = apart_sides earlier (n ∷ ns) n a (heads n ns) in
    rw (p.0, w.0, new) (taken_none sc (earlier ++ n ∷ []) ns (regroup earlier ns n a) p.1 w.1)

-- names with their ranges
abbrev pub Pairs : (List ℕ → Option Range → Type 0) → List (List ℕ) → List (Option Range) → Type 0
Pairs P [] [] = Unit {0}
Pairs P [] (r ∷ rs) = Prim.⊥
Pairs P (n ∷ ns) [] = Prim.⊥
Pairs P (n ∷ ns) (r ∷ rs) = P n r × Pairs P ns rs

pairs_push : (P : List ℕ → Option Range → Type 0) (ns : List (List ℕ)) (rs : List (Option Range)) (n : List ℕ) (r : Option Range) → Pairs P ns rs → P n r → Pairs P (ns ++ n ∷ []) (rs ++ r ∷ [])
pairs_push P [] [] n r h k = (k, tt)
pairs_push P [] (q ∷ qs) n r h k = absurd h
pairs_push P (m ∷ ms) [] n r h k = absurd h
pairs_push P (m ∷ ms) (q ∷ qs) n r h k = (h.0, pairs_push P ms qs n r h.1 k)

pairs_from : (P Q : List ℕ → Option Range → Type 0) → ((n : List ℕ) (r : Option Range) → P n r → Q n r) → (ns : List (List ℕ)) (rs : List (Option Range)) → Pairs P ns rs → Pairs Q ns rs
pairs_from P Q f [] [] h = tt
pairs_from P Q f [] (q ∷ qs) h = absurd h
pairs_from P Q f (m ∷ ms) [] h = absurd h
pairs_from P Q f (m ∷ ms) (q ∷ qs) h = (f m q h.0, pairs_from P Q f ms qs h.1)

shifted : (q : Option Range) (qs : List (Option Range)) (o : Option ℕ) → range_at (q ∷ qs) (shift o) ≡ range_at qs o
shifted q qs None = refl
shifted q qs (Some k) = refl

differs_none : (n : List ℕ) (r : Option Range) (names : List (List ℕ)) (ranges : List (Option Range)) → Pairs (λ m q. bytes_eq m n ≡ true → same_range q r ≡ true) names ranges → differs r (range_in names ranges n) ≡ false
differs_none n r [] [] h = refl
differs_none n r [] (q ∷ qs) h = absurd h
differs_none n r (m ∷ ms) [] h = absurd h
differs_none n r (m ∷ ms) (q ∷ qs) h =
    elim (cases_Bool (bytes_eq m n)) [
      | inl e ↦ ap (λ o. differs r (range_at (q ∷ qs) o)) (position_yes (λ k. bytes_eq k n) m ms e) ∙ ap not (h.0 e)
      | inr e ↦ ap (λ o. differs r (range_at (q ∷ qs) o)) (position_no (λ k. bytes_eq k n) m ms e)
          ∙ (ap (differs r) (shifted q qs (position (λ k. bytes_eq k n) ms)) ∙ differs_none n r ms qs h.1)
    ]

both_none : (q r : Option Range) → q ≡ None → r ≡ None → same_range q r ≡ true
both_none q r a b = rw (a, b) refl

-- the declared names by their kinds
abbrev pub port_by : Option Way → List ℕ → List (List ℕ)
port_by (Some way) name = name ∷ []
port_by None name = []

abbrev pub wire_by : Option Way → List ℕ → List (List ℕ)
wire_by (Some way) name = []
wire_by None name = name ∷ []

abbrev pub ports_in : List Declared → List (List ℕ)
ports_in ds = flat_map (λ d. port_by d.way d.name) ds

abbrev pub wires_in : List Declared → List (List ℕ)
wires_in ds = flat_map (λ d. wire_by d.way d.name) ds

-- a wire has no range, and a port that is also a wire has none
abbrev pub Fine : List (List ℕ) → Option Way → Option Range → List ℕ → Type 0
Fine wires (Some way) range name = is_among wires name ≡ true → range ≡ None
Fine wires None range name = (range ≡ None) × (is_among wires name ≡ true)

abbrev pub IsFine : List (List ℕ) → Declared → Type 0
IsFine wires d = Fine wires d.way d.range d.name

-- what is known of a scope before more declarations
pub record Open (wires : List (List ℕ)) (sc : Scope) (ds : List Declared) : Type 0 where
  pub ports_plain : Pairs (λ n r. is_among wires n ≡ true → r ≡ None) sc.ports sc.port_ranges
  pub wires_plain : Pairs (λ n r. (r ≡ None) × (is_among wires n ≡ true)) sc.wires sc.wire_ranges
  pub ports_apart : Apart (sc.ports ++ ports_in ds)
  pub wires_apart : Apart (sc.wires ++ wires_in ds)

clash_step : (wires : List (List ℕ)) (way : Option Way) (range : Option Range) (name : List ℕ) (ds : List Declared) (sc : Scope) → Open wires sc (declaration way range name ∷ ds) → Fine wires way range name
    → ((next : Scope) → Open wires next ds → first_clash next ds ≡ None) → first_clash sc (declaration way range name ∷ ds) ≡ None
clash_step wires (Some way) range name ds sc known fine go =
    let new : is_among sc.ports name ≡ false = apart_sides sc.ports (name ∷ ports_in ds) name known.ports_apart (heads name (ports_in ds)) in
    let same : differs range (range_in sc.wires sc.wire_ranges name) ≡ false =
    differs_none name range sc.wires sc.wire_ranges
    (pairs_from (λ m q. (q ≡ None) × (is_among wires m ≡ true)) (λ m q. bytes_eq m name ≡ true → same_range q range ≡ true)
    (λ m q h e. both_none q range h.0 (fine (subst (λ k. is_among wires k ≡ true) (same_names m name e) h.1))) sc.wires sc.wire_ranges known.wires_plain) in
    rw (new, same) (go (add_port sc name range) (record {
      ports_plain = pairs_push (λ n r. is_among wires n ≡ true → r ≡ None) sc.ports sc.port_ranges name range known.ports_plain fine;
      wires_plain = known.wires_plain;
      ports_apart = regroup sc.ports (ports_in ds) name known.ports_apart;
      wires_apart = known.wires_apart;
    }))
clash_step wires None range name ds sc known fine go =
    let new : is_among sc.wires name ≡ false = apart_sides sc.wires (name ∷ wires_in ds) name known.wires_apart (heads name (wires_in ds)) in
    let same : differs range (range_in sc.ports sc.port_ranges name) ≡ false =
    differs_none name range sc.ports sc.port_ranges
    (pairs_from (λ m q. is_among wires m ≡ true → q ≡ None) (λ m q. bytes_eq m name ≡ true → same_range q range ≡ true)
    (λ m q h e. both_none q range (h (subst (λ k. is_among wires k ≡ true) (sym (same_names m name e)) fine.1)) fine.0) sc.ports sc.port_ranges known.ports_plain) in
    rw (new, same) (go (add_wire sc name range) (record {
      ports_plain = known.ports_plain;
      wires_plain = pairs_push (λ n r. (r ≡ None) × (is_among wires n ≡ true)) sc.wires sc.wire_ranges name range known.wires_plain fine;
      ports_apart = known.ports_apart;
      wires_apart = regroup sc.wires (wires_in ds) name known.wires_apart;
    }))

pub clash_none : (wires : List (List ℕ)) (ds : List Declared) (sc : Scope) → Open wires sc ds → AllByRecursion (IsFine wires) ds → first_clash sc ds ≡ None
clash_none wires [] sc known fine = refl
clash_none wires (d ∷ ds) sc known fine = clash_step wires d.way d.range d.name ds sc known fine.0 (λ next k. clash_none wires ds next k fine.1)

-- what is declared behind the declarations
more_ports : (way : Option Way) (range : Option Range) (name : List ℕ) (sc : Scope) → (more sc way name range).ports ≡ sc.ports ++ port_by way name
more_ports (Some way) range name sc = refl
more_ports None range name sc = sym (append-nil sc.ports)

more_wires : (way : Option Way) (range : Option Range) (name : List ℕ) (sc : Scope) → (more sc way name range).wires ≡ sc.wires ++ wire_by way name
more_wires (Some way) range name sc = sym (append-nil sc.wires)
more_wires None range name sc = refl

pub after_ports : (ds : List Declared) (sc : Scope) → (declared_after sc ds).ports ≡ sc.ports ++ ports_in ds
after_ports [] sc = sym (append-nil sc.ports)
after_ports (d ∷ ds) sc =
    after_ports ds (more sc d.way d.name d.range)
    ∙ (ap (λ ps. ps ++ ports_in ds) (more_ports d.way d.range d.name sc) ∙ append_assoc sc.ports (port_by d.way d.name) (ports_in ds))

pub after_wires : (ds : List Declared) (sc : Scope) → (declared_after sc ds).wires ≡ sc.wires ++ wires_in ds
after_wires [] sc = sym (append-nil sc.wires)
after_wires (d ∷ ds) sc =
    after_wires ds (more sc d.way d.name d.range)
    ∙ (ap (λ ws. ws ++ wires_in ds) (more_wires d.way d.range d.name sc) ∙ append_assoc sc.wires (wire_by d.way d.name) (wires_in ds))
