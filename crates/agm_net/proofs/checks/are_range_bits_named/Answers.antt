use Rattle.std.proofs.Common.{◌≡◌, ℕ, Bool, true, false, List, [], ◌<◌, ◌+◌, ◌∙◌, ap, sym, Some, length, get_or, drop, arith}
use Rattle.std.specs.Prelude.{◌&&◌}
use Rattle.agm_net.specs.Checks.{Texts, has_name, are_named, number_at}
use Rattle.agm_net.specs.declared.port.Range.{Range}
use Rattle.std.specs.Int.{abs_diff}
use Rattle.agm_net.proofs.Named.{named-other_length, named-step, named-end, length-names, name-at}
use Rattle.agm_net.specs.Plain.{bit_names, select_name}
use Rattle.agm_net.proofs.checks.are_range_bits_named.Goals as goal

pub returns-then-bits-from : goal.returns-then-bits-from
returns-then-bits-from c =
    let names = length-names c.args.name.now c.args.range in
    named-other_length c.args.wires.now c.args.bits.now _ (omega arith)

step : (wires : Texts) (bits : List ℕ) (name : List ℕ) (range : Range) (i : ℕ) (own : List ℕ) (found : Bool) → i < length bits → length bits ≡ abs_diff range.msb range.lsb + 1
    → own ≡ select_name name (number_at range.msb range.lsb i) → found ≡ has_name wires (get_or bits i 0) own
    → are_named wires (drop i bits) (drop i (bit_names name (Some range))) ≡ (found && are_named wires (drop (i + 1) bits) (drop (i + 1) (bit_names name (Some range))))
step wires bits name range i own found within long named answer =
    let many = length-names name range in
    let at = name-at name range i (omega arith) in
    let more = named-step wires bits (bit_names name (Some range)) i within (omega arith) in
    let same : found ≡ has_name wires (get_or bits i 0) (get_or (bit_names name (Some range)) i []) = rw (at, ← named) answer in
    rw same more

pub returns-then-not-has_name : goal.returns-then-not-has_name
returns-then-not-has_name c =
    let here = step c.args.wires.now c.args.bits.now c.args.name.now c.args.range c.loop-i.i c.as_slice.result.now false (omega arith) (omega arith) (c.as_slice.ensures ∙ c.in_ok-own.ensures ∙ ap (select_name c.args.name.now) c.number_at.ensures) c.if-not-has_name.ensures in
    sym here ∙ c.loop-i.invariant

pub loop-i-preserved : goal.loop-i-preserved
loop-i-preserved c =
    let here = step c.args.wires.now c.args.bits.now c.args.name.now c.args.range c.loop-i.i c.as_slice.result.now true (omega arith) (omega arith) (c.as_slice.ensures ∙ c.in_ok-own.ensures ∙ ap (select_name c.args.name.now) c.number_at.ensures) c.if-not-has_name.ensures in
    sym here ∙ c.loop-i.invariant

pub returns : goal.returns
returns c =
    let names = length-names c.args.name.now c.args.range in
    sym (named-end c.args.wires.now c.args.bits.now (bit_names c.args.name.now (Some c.args.range)) c.loop-i.i (omega arith) (omega arith)) ∙ c.loop-i.invariant
