use Rattle.std.proofs.Common.{ℕ, ◌<◌, Bool, List, [], ◌∷◌, ◌++◌, length, map, sym, ap, subst, ◌∙◌, Err}
use Rattle.std.specs.List.{range_with_len}
use Rattle.std.proofs.lemmas.Result.{err_from_is_err_and}
use Rattle.agm_net.specs.Plain.{Stored}
use Rattle.agm_net.specs.View.{plain_of}
use Rattle.agm_net.specs.declared.expr.Register.{Register}
use Rattle.annotations.proofs.Verdict.{fault_left, rest_decides, handed_on, own_clocks}
use Rattle.annotations.specs.Rules.{Rule, no_clock, own_clock, clock_read, Broken, use_rules, NoneBroken, Passes}
use Rattle.annotations.specs.Spread.{is_set, AreClockWires}
use Rattle.annotations.proofs.uses.check_use.Goals as goal

pub returns-in_err-check_clock : goal.returns-in_err-check_clock
returns-in_err-check_clock c top =
    let net = plain_of c.args.net.now in
    handed_on (Passes top net (use_rules net)) c.from_residual.result c.in_err-check_clock.field-0.0 (err_from_is_err_and c.from_residual.result c.from_residual.ensures.1)
    (fault_left (Broken top net) (no_clock ∷ []) (map (λ (r : Stored). own_clock r.clock) net.registers ++ map clock_read (range_with_len 0 (length net.wires))) (λ (u : Unit {0}). Unit {0}) (λ (u : Unit {0}). Unit {0}) c.in_err-check_clock.field-0.0 (c.in_err-check_clock.ensures top))

pub returns-in_err-check_registers : goal.returns-in_err-check_registers
returns-in_err-check_registers c top =
    let net = plain_of c.args.net.now in
    let f = c.in_err-check_registers.field-0.0 in
    let marks : AreClockWires net c.as_slice-2.result.now = subst (AreClockWires net) (sym c.as_slice-2.ensures.value) c.in_ok-marks.ensures in
    let clocks = own_clocks c.args.net.now.registers ∙ ap (map (λ (r : Register). own_clock r.clock)) (sym c.as_slice.ensures) in
    handed_on (Passes top net (use_rules net)) c.from_residual-in_err-check_registers.result f (err_from_is_err_and c.from_residual-in_err-check_registers.result c.from_residual-in_err-check_registers.ensures.1)
    (rest_decides (Broken top net) (no_clock ∷ []) (map (λ (r : Stored). own_clock r.clock) net.registers ++ map clock_read (range_with_len 0 (length net.wires))) (λ (u : Unit {0}). Unit {0}) (Err f) (c.in_ok-check_clock.ensures top).0
    (fault_left (Broken top net) (map (λ (r : Stored). own_clock r.clock) net.registers) (map clock_read (range_with_len 0 (length net.wires))) (λ (u : Unit {0}). Unit {0}) (λ (u : Unit {0}). Unit {0}) f
    (subst (λ (rs : List Rule). Passes top net rs (Err f)) (sym clocks) (c.in_err-check_registers.ensures top net marks))))

pub returns : goal.returns
returns c top =
    let net = plain_of c.args.net.now in
    let marks : AreClockWires net c.as_slice-3.result.now = subst (AreClockWires net) (sym c.as_slice-3.ensures.value) c.in_ok-marks.ensures in
    let marks' : AreClockWires net c.as_slice-2.result.now = subst (AreClockWires net) (sym c.as_slice-2.ensures.value) c.in_ok-marks.ensures in
    let clocks = own_clocks c.args.net.now.registers ∙ ap (map (λ (r : Register). own_clock r.clock)) (sym c.as_slice.ensures) in
    let reads = λ (w : ℕ) (h : w < length c.as_slice-3.result.now). ap (λ (bs : List Bool). is_set bs w) c.as_slice-4.ensures.value ∙ c.in_ok-read.ensures w (subst (λ (n : ℕ). w < n) marks.long h) in
    rest_decides (Broken top net) (no_clock ∷ []) (map (λ (r : Stored). own_clock r.clock) net.registers ++ map clock_read (range_with_len 0 (length net.wires))) (λ (u : Unit {0}). Unit {0}) c.check_wires.result (c.in_ok-check_clock.ensures top).0
    (rest_decides (Broken top net) (map (λ (r : Stored). own_clock r.clock) net.registers) (map clock_read (range_with_len 0 (length net.wires))) (λ (u : Unit {0}). Unit {0}) c.check_wires.result
    (subst (NoneBroken (Broken top net)) (sym clocks) (c.in_ok-check_registers.ensures top net marks').0)
    (subst (λ (n : ℕ). Passes top net (map clock_read (range_with_len 0 n)) c.check_wires.result) marks.long (c.check_wires.ensures top net marks reads)))
