-- Events in which no rule can be broken.
use Rattle.std.proofs.Common.{◌≡◌, ◌+◌, ◌++◌, ℕ, Bool, cond, true, false, List, [], ◌∷◌, Option, Some, None, map, position, slice_get, slice_index_or, refl, ap, ◌∙◌}
use Rattle.std.specs.List.{flat_map}
use Rattle.std.specs.Str.{bytes_eq}
use Rattle.agm_net.specs.Formula.{Formula}
use Rattle.agm_net.specs.Plain.{is_in}
use Rattle.verilog_reader.specs.Plain.{PlainConnection}
use Rattle.cell_library.specs.Judged.{PlainPin, PlainState, PlainCell}
use Rattle.cell_faces.specs.Cells.{pin_name}
use Rattle.form_bits.specs.Forms.{Text, or_else}
use Rattle.form_bits.specs.declared.types.Bit.{Bit}
use Rattle.form_bits.specs.declared.types.Bit.TheVariants.{Constant, Wire}
use Rattle.bound_items.specs.Events.{Event, pin, first_broken}
use Rattle.bound_items.specs.Items.{dotted, function_lines, pin_function, output_lines, cell_lines, state_flops, is_read, is_clock_of, input_counts, output_counts, pin_counts, pins_count, state_events}
use Rattle.bound_items.specs.State.{State, after}
use Rattle.bound_items.proofs.Gives.{broken_append}

abbrev Quiet : List Event → Type 0
Quiet es = (names : List Text) → first_broken names es ≡ None

quiet_append : (xs ys : List Event) → Quiet xs → Quiet ys → Quiet (xs ++ ys)
quiet_append xs ys p q =
    λ names.
    let s : State = record { names = names; lines = []; flops = []; pin = None } in
    broken_append s xs ys ∙ (ap (λ o. or_else o (first_broken (after s xs).names ys)) (p names) ∙ q (after s xs).names)

quiet_flat : {X : Type 0} (f : X → List Event) (xs : List X) → ((x : X) → Quiet (f x)) → Quiet (flat_map f xs)
quiet_flat f [] h = λ names. refl
quiet_flat f (x ∷ xs) h = quiet_append (f x) (flat_map f xs) (h x) (quiet_flat f xs h)

quiet_cond : (b : Bool) (xs ys : List Event) → Quiet xs → Quiet ys → Quiet (cond b xs ys)
quiet_cond true xs ys p q = p
quiet_cond false xs ys p q = q

function_quiet : (operands : List (Option Bit)) (b : Option Bit) (f : Option Formula) → Quiet (function_lines operands b f)
function_quiet operands None f = λ names. refl
function_quiet operands (Some t) None = λ names. refl
function_quiet operands (Some t) (Some f) = λ names. refl

output_quiet : (c : PlainCell) (bits operands : List (Option Bit)) (o : Option ℕ) → Quiet (output_lines c bits operands o)
output_quiet c bits operands None = λ names. refl
output_quiet c bits operands (Some k) = function_quiet operands (slice_index_or bits k None) (pin_function (slice_get c.pins k))

lines_quiet : (c : PlainCell) (bits operands : List (Option Bit)) (p : PlainConnection) → Quiet (cell_lines c bits operands p)
lines_quiet c bits operands p = output_quiet c bits operands (position (λ n. bytes_eq n p.pin) (map pin_name c.pins))

flops_quiet : (bits : List (Option Bit)) (s : Option PlainState) (q : Option Bit) → Quiet (state_flops bits s q)
flops_quiet bits None q = λ names. refl
flops_quiet bits (Some s) None = λ names. refl
flops_quiet bits (Some s) (Some q) = λ names. refl

pin_quiet : (b : Bool) (name : Text) (d : ℕ) → Quiet (cond b (pin name d ∷ []) [])
pin_quiet b name d = quiet_cond b (pin name d ∷ []) [] (λ names. refl) (λ names. refl)

input_quiet : (read clocks : Bool) (name : Text) (b : Option Bit) → Quiet (input_counts read clocks name b)
input_quiet read clocks name None = pin_quiet read name 0
input_quiet read clocks name (Some (Constant b)) = pin_quiet clocks name 0
input_quiet read clocks name (Some (Wire w)) = λ names. refl

output_pin_quiet : (name : Text) (b : Option Bit) → Quiet (output_counts name b)
output_pin_quiet name None = λ names. refl
output_pin_quiet name (Some (Constant b)) = λ names. refl
output_pin_quiet name (Some (Wire w)) = λ names. refl

count_quiet : (site : Text) (c : PlainCell) (bits : List (Option Bit)) (q : Option Bit) (k : ℕ) (p : PlainPin) → Quiet (pin_counts site c bits q k p)
count_quiet site c bits q k p =
    quiet_cond (is_in p.way) (input_counts (is_read c bits q k) (is_clock_of c.state q k) (dotted site p.name) (slice_index_or bits k None))
    (output_counts (dotted site p.name) (slice_index_or bits k None))
    (input_quiet (is_read c bits q k) (is_clock_of c.state q k) (dotted site p.name) (slice_index_or bits k None))
    (output_pin_quiet (dotted site p.name) (slice_index_or bits k None))

counts_quiet : (site : Text) (c : PlainCell) (bits : List (Option Bit)) (q : Option Bit) (k : ℕ) (ps : List PlainPin) → Quiet (pins_count site c bits q k ps)
counts_quiet site c bits q k [] = λ names. refl
counts_quiet site c bits q k (p ∷ ps) =
    quiet_append (pin_counts site c bits q k p) (pins_count site c bits q (k + 1) ps) (count_quiet site c bits q k p) (counts_quiet site c bits q (k + 1) ps)

-- what a cell gives behind the wire of its state
pub state_quiet : (site : Text) (c : PlainCell) (pins : List PlainConnection) (bits : List (Option Bit)) (q : Option Bit) → Quiet (state_events site c pins bits q)
state_quiet site c pins bits q =
    quiet_append (flat_map (cell_lines c bits (bits ++ q ∷ [])) pins) (state_flops bits c.state q ++ pins_count site c bits q 0 c.pins)
    (quiet_flat (cell_lines c bits (bits ++ q ∷ [])) pins (lines_quiet c bits (bits ++ q ∷ [])))
    (quiet_append (state_flops bits c.state q) (pins_count site c bits q 0 c.pins) (flops_quiet bits c.state q) (counts_quiet site c bits q 0 c.pins))
