-- What a walk has come to in the end.
use Rattle.std.proofs.Common.{◌≡◌, ◌≢◌, ◌++◌, ℕ, suc, List, [], ◌∷◌, Option, Some, None, Result, Ok, Err, map, length, slice_get, refl, ap, sym, ◌∙◌, append_assoc, subst}
use Rattle.std.proofs.lemmas.List.{append-nil, map-append}
use Rattle.agm_net.specs.declared.port.Port.{Port}
use Rattle.agm_net.specs.declared.net.Net.{Net}
use Rattle.cell_library.specs.Spelled.{cell_of}
use Rattle.cell_library.specs.declared.types.Cell.{Cell}
use Rattle.cell_faces.specs.Cells.{known_cells, cell_name}
use Rattle.cell_library.specs.Found.{raw_name}
use Rattle.verilog_reader.specs.Plain.{PlainModule, PlainDesign}
use Rattle.verilog_reader.specs.View.{module_view}
use Rattle.verilog_reader.specs.declared.design.Module.{Module}
use Rattle.form_bits.specs.Forms.{Text, or_else}
use Rattle.top_module.specs.Ports.{clock_of}
use Rattle.wire_drivers.specs.Wiring.{Wiring, first_wrong, kept_net}
use Rattle.wire_drivers.specs.declared.types.Line.{Line}
use Rattle.wire_drivers.specs.declared.types.Flop.{Flop}
use Rattle.wire_drivers.specs.declared.types.Wrong.{Wrong}
use Rattle.module_rules.specs.Rules.{first_fault}
use Rattle.module_rules.specs.declared.fault.NameFault.{NameFault}
use Rattle.module_rules.specs.declared.fault.NameFault.TheVariants as faults
use Rattle.top_module.specs.Top.{candidates}
use Rattle.wire_drivers.specs.View.{wiring}
use Rattle.bound_items.specs.Events.{Event, wire, broken, line, flop, pin, first_broken, wires_in, lines_in, flops_in, first_pin}
use Rattle.bound_items.specs.State.{State, state_of, after, nothing, with_wire, with_line, with_flop, with_pin, first_of, UnlessMemory, Gives}
use Rattle.bound_items.specs.declared.pin.Pin.{Pin}
use Rattle.bound_items.specs.declared.netlist.Netlist.{Netlist}
use Rattle.bound_items.specs.declared.fault.BindFault.{BindFault}
use Rattle.bound_items.specs.declared.fault.BindFault.TheVariants.{Top}
use Rattle.net_binding.specs.Walk.{Parts, design_events}
use Rattle.net_binding.specs.Bound.{Outcome, Answers, ports_from, wiring_of, pin_outcome, wire_outcome, walk_outcome, module_outcome, top_outcome, name_outcome, parts_of, bound, fault_of}
use Rattle.net_binding.specs.Ready.{plain_parts}
use Rattle.net_binding.proofs.Goes.{map_unless}

-- what stands before, with what comes
abbrev joined : State → List Event → State
joined s es = record { names = s.names ++ wires_in es; lines = s.lines ++ lines_in es; flops = s.flops ++ flops_in es; pin = or_else s.pin (first_pin es) }

or_first : (o : Option Pin) (n : Text) (d : ℕ) (p : Option Pin) → or_else (first_of o n d) p ≡ or_else o (Some (record { name = n; drivers = d }))
or_first None n d p = refl
or_first (Some q) n d p = refl

or_none : (o : Option Pin) → o ≡ or_else o None
or_none None = refl
or_none (Some q) = refl

made : (s : State) (es : List Event) → after s es ≡ joined s es
made s [] =
    ap (λ x. record { names = x; lines = s.lines; flops = s.flops; pin = s.pin }) (sym (append-nil s.names))
    ∙ (ap (λ x. record { names = s.names ++ []; lines = x; flops = s.flops; pin = s.pin }) (sym (append-nil s.lines))
    ∙ (ap (λ x. record { names = s.names ++ []; lines = s.lines ++ []; flops = x; pin = s.pin }) (sym (append-nil s.flops))
    ∙ ap (λ x. record { names = s.names ++ []; lines = s.lines ++ []; flops = s.flops ++ []; pin = x }) (or_none s.pin)))
made s (wire n ∷ es) = made (with_wire s n) es ∙ ap (λ x. record { names = x; lines = s.lines ++ lines_in es; flops = s.flops ++ flops_in es; pin = or_else s.pin (first_pin es) }) (append_assoc s.names (n ∷ []) (wires_in es))
made s (broken f ∷ es) = made s es
made s (line l ∷ es) = made (with_line s l) es ∙ ap (λ x. record { names = s.names ++ wires_in es; lines = x; flops = s.flops ++ flops_in es; pin = or_else s.pin (first_pin es) }) (append_assoc s.lines (l ∷ []) (lines_in es))
made s (flop f ∷ es) = made (with_flop s f) es ∙ ap (λ x. record { names = s.names ++ wires_in es; lines = s.lines ++ lines_in es; flops = x; pin = or_else s.pin (first_pin es) }) (append_assoc s.flops (f ∷ []) (flops_in es))
made s (pin n d ∷ es) = made (with_pin s n d) es ∙ ap (λ x. record { names = s.names ++ wires_in es; lines = s.lines ++ lines_in es; flops = s.flops ++ flops_in es; pin = x }) (or_first s.pin n d (first_pin es))

-- what the walk comes to, by the parts of a state
abbrev outcome_of : PlainModule → State → Outcome
outcome_of m s =
    let w : Wiring = record { ports = ports_from m 0 m.ports; wires = s.names; lines = s.lines; flops = s.flops } in
    wire_outcome w (clock_of m) s.pin (first_wrong w)

walked : (m : PlainModule) (es : List Event) (s : State) → first_broken [] es ≡ None → s ≡ after nothing es → walk_outcome m es (first_broken [] es) ≡ outcome_of m s
walked m es s b e = ap (λ o. walk_outcome m es o) b ∙ ap (λ t. outcome_of m t) (sym (e ∙ made nothing es))

pub walk_given : (P : Parts) (top : ℕ) (m : PlainModule) (n : Netlist) (ports : List Port) (clock : Option ℕ) (r : Result Net BindFault)
    → slice_get P.modules top ≡ Some m → Gives nothing (design_events P top) (Ok n) → ports ≡ ports_from m 0 m.ports → clock ≡ clock_of m
    → Answers (wire_outcome (wiring ports n.wires n.lines n.flops) clock n.pin (first_wrong (wiring ports n.wires n.lines n.flops))) r
    → Answers (module_outcome P top (slice_get P.modules top)) r
walk_given P top m n ports clock r e g p c a =
    let is : module_outcome P top (slice_get P.modules top) ≡ outcome_of m (state_of n) =
    ap (λ o. module_outcome P top o) e ∙ walked m (design_events P top) (state_of n) g.0 g.1 in
    let same : wire_outcome (wiring ports n.wires n.lines n.flops) clock n.pin (first_wrong (wiring ports n.wires n.lines n.flops)) ≡ outcome_of m (state_of n) =
    ap (λ ps. wire_outcome (wiring ps n.wires n.lines n.flops) clock n.pin (first_wrong (wiring ps n.wires n.lines n.flops))) p
    ∙ ap (λ k. wire_outcome (wiring (ports_from m 0 m.ports) n.wires n.lines n.flops) k n.pin (first_wrong (wiring (ports_from m 0 m.ports) n.wires n.lines n.flops))) c in
    subst (λ o. Answers o r) (same ∙ sym is) a

pub walk_fails : (P : Parts) (top : ℕ) (m : PlainModule) (fault : BindFault)
    → slice_get P.modules top ≡ Some m → UnlessMemory fault (first_broken [] (design_events P top) ≡ Some fault)
    → UnlessMemory fault (module_outcome P top (slice_get P.modules top) ≡ Err fault)
walk_fails P top m fault e b =
    map_unless fault _ _ (λ x. ap (λ o. module_outcome P top o) e ∙ ap (λ o. walk_outcome m (design_events P top) o) x) b

pub parts_are : (modules : List Module) (known library : List Cell) → map cell_of known ≡ known_cells → plain_parts modules (known ++ library) ≡ parts_of (map cell_of library) (map module_view modules)
parts_are modules known library e =
    ap (λ cs. record { cells = cs; modules = map module_view modules }) (map-append cell_of known library ∙ ap (λ ks. ks ++ map cell_of library) e)

pub not_one : (P : Parts) (ks : List ℕ) (n : ℕ) → length ks ≡ n → n ≢ 1 → top_outcome P ks ≡ Err (Top n)
not_one P [] n e h = ap (λ k. Err (Top k)) e
not_one P (k ∷ []) n e h = absurd (h (sym e))
not_one P (k ∷ j ∷ ks) n e h = ap (λ k. Err (Top k)) e

pub checked_given : (n : Netlist) (ports : List Port) (clock : Option ℕ) (ws : List Text) (ls : List Line) (fs : List Flop) (o : Option Wrong) (r : Result Net BindFault)
    → ws ≡ n.wires → ls ≡ n.lines → fs ≡ n.flops → o ≡ first_wrong (wiring ports ws ls fs) → o ≡ None → Answers (pin_outcome (kept_net (wiring ports ws ls fs) clock) n.pin) r
    → Answers (wire_outcome (wiring ports n.wires n.lines n.flops) clock n.pin (first_wrong (wiring ports n.wires n.lines n.flops))) r
checked_given n ports clock ws ls fs o r a b c d e h =
    let same : wiring ports ws ls fs ≡ wiring ports n.wires n.lines n.flops =
    ap (λ (x : List Text). wiring ports x ls fs) a ∙ (ap (λ (x : List Line). wiring ports n.wires x fs) b ∙ ap (λ (x : List Flop). wiring ports n.wires n.lines x) c) in
    subst (λ (w : Wiring). Answers (wire_outcome w clock n.pin (first_wrong w)) r) same
    (subst (λ (x : Option Wrong). Answers (wire_outcome (wiring ports ws ls fs) clock n.pin x) r) (sym e ∙ d) h)

same_names : (cells : List Cell) → map cell_name (map cell_of cells) ≡ map raw_name cells
same_names [] = refl
same_names (c ∷ cs) = ap (λ ns. raw_name c ∷ ns) (same_names cs)

named : (cells : List Cell) (d : PlainDesign) (o p : Option NameFault) → o ≡ first_fault (map raw_name cells) [] d → o ≡ p → bound (map cell_of cells) d ≡ name_outcome (parts_of (map cell_of cells) d) p
named cells d o p e f =
    ap (λ ns. name_outcome (parts_of (map cell_of cells) d) (first_fault ns [] d)) (same_names cells) ∙ ap (λ x. name_outcome (parts_of (map cell_of cells) d) x) (sym e ∙ f)

pub fault_given : (cells : List Cell) (d : PlainDesign) (o : Option NameFault) (f : NameFault) → o ≡ first_fault (map raw_name cells) [] d → o ≡ Some f → bound (map cell_of cells) d ≡ Err (fault_of f)
fault_given cells d o f e h = named cells d o (Some f) e h

pub fault_unless : (f : NameFault) (P : Type 0) → P → UnlessMemory (fault_of f) P
fault_unless (faults.Clash n) P p = p
fault_unless (faults.UnknownWire n) P p = p

pub none_given : (cells : List Cell) (d : PlainDesign) (o : Option NameFault) → o ≡ first_fault (map raw_name cells) [] d → o ≡ None
    → bound (map cell_of cells) d ≡ top_outcome (parts_of (map cell_of cells) d) (candidates d)
none_given cells d o e h = named cells d o None e h
