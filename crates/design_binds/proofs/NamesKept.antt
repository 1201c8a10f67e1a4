-- The module of a net keeps the rules for names, and is the one candidate for the top.
use Rattle.std.proofs.Common.{◌≡◌, ℕ, true, false, not, ◌||◌, cond, List, [], ◌∷◌, ◌++◌, map, Option, Some, None, codes, nat_eq, refl, sym, ap, ◌∙◌, subst, append_assoc, ◌+◌}
use Rattle.std.specs.List.{AllByRecursion, flat_map, list_any, starts_with}
use Rattle.std.specs.Str.{bytes_eq}
use Rattle.std.proofs.lemmas.Bool.{both_ways, false_from_ne_true}
use Rattle.agm_net.specs.declared.port.Port.{Port}
use Rattle.verilog_reader.specs.Plain.{PlainItem, declare, assign, instance, PlainModule}
use Rattle.top_module.specs.Top.{instantiates, candidates}
use Rattle.module_rules.specs.Items.{is_among, declaration, declared_in, instance_of, instances_in, ports_in}
use Rattle.module_rules.specs.Rules.{or_else, first_repeated, first_unknown, first_clash, first_taken, nothing, scope_of, clash_of, unknown_of, is_taken, body_fault, module_fault, first_fault}
use Rattle.module_rules.specs.declared.fault.NameFault.TheVariants.{Clash}
use Rattle.net_design.specs.Design.{wire_item, port_name}
use Rattle.design_binds.proofs.Among as among
use Rattle.design_binds.proofs.Among.{Apart, same_names}
use Rattle.design_binds.proofs.Rules as rules
use Rattle.design_binds.proofs.Rules.{IsFine, repeated_none, unknown_none, taken_none, clash_none, after_ports, after_wires}
use Rattle.design_binds.proofs.Shape.{IsStatement, ports_from, declared_items, all_declared, declared_are, ports_are, instances_are}

or_none : {X : Type 0} (a b : Option X) → a ≡ None → b ≡ None → or_else a b ≡ None
or_none a b h k = rw (h, k) refl

-- the declared names by their kinds

wires_no_ports : (ns : List (List ℕ)) → rules.ports_in (map (declaration None None) ns) ≡ []
wires_no_ports [] = refl
wires_no_ports (n ∷ ns) = wires_no_ports ns

ports_declared : (ps : List Port) (ns : List (List ℕ)) → rules.ports_in (all_declared ps ns) ≡ map port_name ps
ports_declared [] ns = wires_no_ports ns
ports_declared (p ∷ ps) ns = ap (λ k. p.name ∷ k) (ports_declared ps ns)

wires_alone : (ns : List (List ℕ)) → rules.wires_in (map (declaration None None) ns) ≡ ns
wires_alone [] = refl
wires_alone (n ∷ ns) = ap (λ k. n ∷ k) (wires_alone ns)

wires_declared : (ps : List Port) (ns : List (List ℕ)) → rules.wires_in (all_declared ps ns) ≡ ns
wires_declared [] ns = wires_alone ns
wires_declared (p ∷ ps) ns = wires_declared ps ns

fine_wires : (wires ns : List (List ℕ)) → AllByRecursion (λ n. is_among wires n ≡ true) ns → AllByRecursion (IsFine wires) (map (declaration None None) ns)
fine_wires wires [] h = tt
fine_wires wires (n ∷ ns) h = ((refl, h.0), fine_wires wires ns h.1)

all_fine : (wires : List (List ℕ)) (ps : List Port) (ns : List (List ℕ)) → AllByRecursion (λ n. is_among wires n ≡ false) (map port_name ps) → AllByRecursion (λ n. is_among wires n ≡ true) ns → AllByRecursion (IsFine wires) (all_declared ps ns)
all_fine wires [] ns other mine = fine_wires wires ns mine
all_fine wires (p ∷ ps) ns other mine = ((λ h. absurd (both_ways (is_among wires p.name) other.0 h)), all_fine wires ps ns other.1 mine)

-- a name that begins otherwise is not that of a cell
no_cell : (name word : List ℕ) → starts_with nat_eq name (codes "AGM_") ≡ false → starts_with nat_eq word (codes "AGM_") ≡ true → bytes_eq word name ≡ false
no_cell name word h k =
    false_from_ne_true (bytes_eq word name)
    (λ e. both_ways (starts_with nat_eq name (codes "AGM_")) h (ap (λ w. starts_with nat_eq w (codes "AGM_")) (sym (same_names word name e)) ∙ k))

over_ports : (name : List ℕ) (clock : Option ℕ) (k : ℕ) (ps : List Port) (rest : List PlainItem) → list_any (instantiates name) (ports_from clock k ps ++ rest) ≡ list_any (instantiates name) rest
over_ports name clock k [] rest = refl
over_ports name clock k (p ∷ ps) rest = over_ports name clock (k + 1) ps rest

over_wires : (name : List ℕ) (ns : List (List ℕ)) (rest : List PlainItem) → list_any (instantiates name) (map wire_item ns ++ rest) ≡ list_any (instantiates name) rest
over_wires name [] rest = refl
over_wires name (n ∷ ns) rest = over_wires name ns rest

none_here : (name : List ℕ) → starts_with nat_eq name (codes "AGM_") ≡ false → (i : PlainItem) → IsStatement i → instantiates name i ≡ false
none_here name h (declare attributes way range names) s = absurd s
none_here name h (assign attributes left right) s = refl
none_here name h (instance attributes cell own pins) s = no_cell name cell h s

none_stated : (name : List ℕ) → starts_with nat_eq name (codes "AGM_") ≡ false → (is : List PlainItem) → AllByRecursion IsStatement is → list_any (instantiates name) is ≡ false
none_stated name h [] s = refl
none_stated name h (i ∷ is) s = ap (λ b. b || list_any (instantiates name) is) (none_here name h i s.0) ∙ none_stated name h is s.1

module _ (clock : Option ℕ) (ps : List Port) (own_names : List (List ℕ)) (is : List PlainItem) (stated : AllByRecursion IsStatement is) (apart : Apart (flat_map instance_of is ++ (map port_name ps ++ own_names))) where
  abbrev ports : List (List ℕ)
  ports = map port_name ps

  abbrev items : List PlainItem
  items = declared_items clock ps own_names ++ is

  abbrev m : PlainModule
  m = record { name = codes "agm_top"; attributes = []; ports = ports; items = items }

  abbrev names : List (List ℕ)
  names = flat_map instance_of is

  sides : Apart (ports ++ own_names)
  sides = among.apart_back names (ports ++ own_names) apart

  own_among : AllByRecursion (λ n. is_among own_names n ≡ true) own_names
  own_among = among.all_from (λ n. is_among own_names n ≡ true) own_names (λ n h. h)

  no_own : (n : List ℕ) → is_among ports n ≡ true → is_among own_names n ≡ false
  no_own n h = false_from_ne_true (is_among own_names n) (λ e. both_ways (is_among ports n) (among.apart_sides ports own_names n sides e) h)

  declared : declared_in items ≡ all_declared ps own_names
  declared = declared_are clock ps own_names is stated

  no_clash : first_clash nothing (declared_in items) ≡ None
  no_clash =
      ap (first_clash nothing) declared
      ∙ clash_none own_names (all_declared ps own_names) nothing (record {
        ports_plain = tt;
        wires_plain = tt;
        ports_apart = subst Apart (sym (ports_declared ps own_names)) (among.apart_front ports own_names sides);
        wires_apart = subst Apart (sym (wires_declared ps own_names)) (among.apart_back ports own_names sides);
      }) (all_fine own_names ps own_names (among.all_from (λ n. is_among own_names n ≡ false) ports no_own) own_among)

  scope_ports : (scope_of m).ports ≡ ports
  scope_ports = after_ports (declared_in items) nothing ∙ (ap rules.ports_in declared ∙ ports_declared ps own_names)

  scope_wires : (scope_of m).wires ≡ own_names
  scope_wires = after_wires (declared_in items) nothing ∙ (ap rules.wires_in declared ∙ wires_declared ps own_names)

  -- an instance has no port's name and no wire's
  no_port : (n : List ℕ) → is_among names n ≡ true → is_among ports n ≡ false
  no_port n h = false_from_ne_true (is_among ports n) (λ e. both_ways (is_among names n) (among.apart_sides names (ports ++ own_names) n apart (among.among_front ports own_names n e)) h)

  no_wire : (n : List ℕ) → is_among names n ≡ true → is_among own_names n ≡ false
  no_wire n h = false_from_ne_true (is_among own_names n) (λ e. both_ways (is_among names n) (among.apart_sides names (ports ++ own_names) n apart (among.among_back ports own_names n e)) h)

  no_taken : first_taken (scope_of m) [] (instances_in items) ≡ None
  no_taken =
      ap (first_taken (scope_of m) []) (instances_are clock ps own_names is)
      ∙ taken_none (scope_of m) [] names (among.apart_front names (ports ++ own_names) apart)
      (subst (λ qs. AllByRecursion (λ n. is_among qs n ≡ false) names) (sym scope_ports) (among.all_from (λ n. is_among ports n ≡ false) names no_port))
      (subst (λ ws. AllByRecursion (λ n. is_among ws n ≡ false) names) (sym scope_wires) (among.all_from (λ n. is_among own_names n ≡ false) names no_wire))

  ports_among : AllByRecursion (λ n. is_among ports n ≡ true) ports
  ports_among = among.all_from (λ n. is_among ports n ≡ true) ports (λ n h. h)

  all_ports_declared : first_unknown (scope_of m).ports ports ≡ None
  all_ports_declared = ap (λ qs. first_unknown qs ports) scope_ports ∙ unknown_none ports ports ports_among

  all_ports_listed : first_unknown ports (ports_in items) ≡ None
  all_ports_listed = ap (first_unknown ports) (ports_are clock ps own_names is stated) ∙ unknown_none ports ports ports_among

  no_repeated : first_repeated [] ports ≡ None
  no_repeated = repeated_none [] ports (among.apart_front ports own_names sides)

  own_name : is_taken [] [] m.name ≡ false
  own_name = refl

  pub first_fault_none : first_fault [] [] (m ∷ []) ≡ None
  first_fault_none =
      or_none (module_fault [] [] m) None
      (or_none (cond (is_taken [] [] m.name) (Some (Clash m.name)) None) (or_else (clash_of (first_repeated [] ports)) (body_fault m))
      (ap (λ b. cond b (Some (Clash m.name)) None) own_name)
      (or_none (clash_of (first_repeated [] ports)) (body_fault m) (ap clash_of no_repeated)
      (or_none (clash_of (first_clash nothing (declared_in items))) _ (ap clash_of no_clash)
      (or_none (clash_of (first_taken (scope_of m) [] (instances_in items))) _ (ap clash_of no_taken)
      (or_none (unknown_of (first_unknown (scope_of m).ports ports)) (unknown_of (first_unknown ports (ports_in items))) (ap unknown_of all_ports_declared) (ap unknown_of all_ports_listed)))))) refl

  pub one_candidate : candidates (m ∷ []) ≡ 0 ∷ []
  one_candidate =
      let spread : items ≡ ports_from clock 0 ps ++ (map wire_item own_names ++ is) = append_assoc (ports_from clock 0 ps) (map wire_item own_names) is in
      let none : list_any (instantiates m.name) items ≡ false =
      ap (list_any (instantiates m.name)) spread
      ∙ (over_ports m.name clock 0 ps (map wire_item own_names ++ is) ∙ (over_wires m.name own_names is ∙ none_stated m.name refl is stated))
      in
      ap (λ b. cond (not (b || false)) (0 ∷ []) []) none
