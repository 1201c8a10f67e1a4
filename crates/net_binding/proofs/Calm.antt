-- Events that break no rule and make no wire.
use Rattle.std.proofs.Common.{◌≡◌, ◌+◌, ◌++◌, ℕ, suc, Bool, cond, true, false, List, [], ◌∷◌, Option, Some, None, map, length, refl, ap, sym, ◌∙◌}
use Rattle.std.specs.List.{flat_map, list_any}
use Rattle.std.proofs.lemmas.Grind.{flat_map-append}
use Rattle.std.proofs.lemmas.List.{length-append}
use Rattle.agm_net.specs.declared.port.Way.{Way}
use Rattle.agm_net.specs.declared.port.Way.TheVariants.{Input, Output}
use Rattle.verilog_reader.specs.Plain.{PlainConnection, PlainModule}
use Rattle.form_bits.specs.Forms.{Text, Look}
use Rattle.form_bits.specs.declared.types.Bit.{Bit}
use Rattle.form_bits.specs.declared.types.Spot.{Spot}
use Rattle.module_outlines.specs.Outlines.{module_ports, port_way}
use Rattle.bound_items.specs.Events.{Event, wire, broken, line, flop, pin, first_broken, wire_of, wires_in, count_wires}
use Rattle.bound_items.specs.Items.{plain_lines, spot_run, in_lines_at, out_lines_at, in_lines, out_lines, connected, connected_form, is_constant, constant_counts, way_counts, port_counts, dotted}

abbrev pub Calm : List Event → Type 0
Calm [] = Unit {0}
Calm (wire n ∷ es) = ⊥
Calm (broken f ∷ es) = ⊥
Calm (line l ∷ es) = Calm es
Calm (flop f ∷ es) = Calm es
Calm (pin n d ∷ es) = Calm es

pub calm_append : (xs ys : List Event) → Calm xs → Calm ys → Calm (xs ++ ys)
calm_append [] ys c d = d
calm_append (wire n ∷ es) ys c d = absurd c
calm_append (broken f ∷ es) ys c d = absurd c
calm_append (line l ∷ es) ys c d = calm_append es ys c d
calm_append (flop f ∷ es) ys c d = calm_append es ys c d
calm_append (pin n k ∷ es) ys c d = calm_append es ys c d

pub calm_flat : {X : Type 0} (f : X → List Event) → ((x : X) → Calm (f x)) → (xs : List X) → Calm (flat_map f xs)
calm_flat f h [] = tt
calm_flat f h (x ∷ xs) = calm_append (f x) (flat_map f xs) (h x) (calm_flat f h xs)

pub calm_breaks : (names : List Text) (es : List Event) → Calm es → first_broken names es ≡ None
calm_breaks names [] c = refl
calm_breaks names (wire n ∷ es) c = absurd c
calm_breaks names (broken f ∷ es) c = absurd c
calm_breaks names (line l ∷ es) c = calm_breaks names es c
calm_breaks names (flop f ∷ es) c = calm_breaks names es c
calm_breaks names (pin n k ∷ es) c = calm_breaks names es c

pub calm_count : (es : List Event) → Calm es → count_wires es ≡ 0
calm_count [] c = refl
calm_count (wire n ∷ es) c = absurd c
calm_count (broken f ∷ es) c = absurd c
calm_count (line l ∷ es) c = calm_count es c
calm_count (flop f ∷ es) c = calm_count es c
calm_count (pin n k ∷ es) c = calm_count es c

pub count_append : (xs ys : List Event) → count_wires (xs ++ ys) ≡ count_wires xs + count_wires ys
count_append xs ys = ap length (flat_map-append wire_of xs ys) ∙ length-append (wires_in xs) (wires_in ys)

calm_plain : (ts vs : List Bit) → Calm (plain_lines ts vs)
calm_plain [] vs = tt
calm_plain (t ∷ ts) [] = tt
calm_plain (t ∷ ts) (v ∷ vs) = calm_plain ts vs

calm_in : (way : Way) (n : ℕ) (s : Option Spot) (bits : Option (List Bit)) → Calm (in_lines_at way n s bits)
calm_in Input n None bits = tt
calm_in Input n (Some s) None = tt
calm_in Input n (Some s) (Some bits) = calm_plain (spot_run n s) bits
calm_in Output n s bits = tt

calm_out : (way : Way) (n : ℕ) (s : Option Spot) (bits : Option (List Bit)) → Calm (out_lines_at way n s bits)
calm_out Output n None bits = tt
calm_out Output n (Some s) None = tt
calm_out Output n (Some s) (Some bits) = calm_plain bits (spot_run n s)
calm_out Input n s bits = tt

calm_constant : (b : Bool) (name : Text) → Calm (cond b (pin name 2 ∷ []) [])
calm_constant true name = tt
calm_constant false name = tt

calm_way : (way : Way) (name : Text) (bits : Option (List Bit)) → Calm (way_counts way name bits)
calm_way Input name bits = tt
calm_way Output name None = tt
calm_way Output name (Some bits) = calm_constant (list_any is_constant bits) name

pub calm_ins : (m : PlainModule) (n : ℕ) (look : Look) (base : ℕ) (pins : List PlainConnection) → Calm (flat_map (in_lines m n look base) pins)
calm_ins m n look base pins = calm_flat (in_lines m n look base) (λ c. calm_in (port_way m c.pin) n (module_ports m c.pin) (connected_form c.form look base)) pins

pub calm_outs : (m : PlainModule) (n : ℕ) (look : Look) (base : ℕ) (pins : List PlainConnection) → Calm (flat_map (out_lines m n look base) pins)
calm_outs m n look base pins = calm_flat (out_lines m n look base) (λ c. calm_out (port_way m c.pin) n (module_ports m c.pin) (connected_form c.form look base)) pins

pub calm_ports : (site : Text) (m : PlainModule) (look : Look) (base : ℕ) (pins : List PlainConnection) (ports : List Text) → Calm (flat_map (port_counts site m look base pins) ports)
calm_ports site m look base pins ports =
    calm_flat (port_counts site m look base pins) (λ port. calm_way (port_way m port) (dotted site port) (connected pins look base port)) ports

pub count_wire_list : (prefix : Text) (ts : List Text) → count_wires (map (λ t. wire (prefix ++ t)) ts) ≡ length ts
count_wire_list prefix [] = refl
count_wire_list prefix (t ∷ ts) = ap suc (count_wire_list prefix ts)
