use Rattle.std.proofs.Common.{◌≡◌, Global, map, string_bytes, refl, sym, subst}
use Rattle.agema_core.specs.Words.{Request}
use Rattle.agema_core.specs.Command.{request_of}
use Rattle.agema_core.specs.Found.{Found, counts, found}
use Rattle.agema_core.specs.Answer.{HasCause, IsComplete}
use Rattle.agema_core.specs.Left.{HasLeft, OthersStay}
use Rattle.agema_core.proofs.Commands.{command_read, read_command}
use Rattle.agema_core.proofs.Ends.{not_usage, order_fits, runs_once, completes}
use Rattle.agema_core.proofs.program.run.Goals as goal

pub run_command-requires-clause-order : goal.run_command-requires-clause-order
run_command-requires-clause-order g c = order_fits (map (string_bytes {Z = Global}) c.args.words.now) (request_of c.in-Some.command) (read_command (map (string_bytes {Z = Global}) c.args.words.now) (request_of c.in-Some.command) (sym c.in-Some.ensures))

pub returns-in-None-clause-usage : goal.returns-in-None-clause-usage
returns-in-None-clause-usage g c = ((λ e m is. (let read = command_read (map (string_bytes {Z = Global}) c.args.words.now) m is in let none = c.in-None.ensures in cc)), (λ n. refl))

pub returns-in-None-clause-cause : goal.returns-in-None-clause-cause
returns-in-None-clause-cause g c = λ m is. (let read = command_read (map (string_bytes {Z = Global}) c.args.words.now) m is in let none = c.in-None.ensures in cc)

pub returns-in-Some-clause-usage : goal.returns-in-Some-clause-usage
returns-in-Some-clause-usage g c = (
  (λ e m is. not_usage _ _ _ _ _ c.run_command.ensures.cause e),
  (λ none. absurd (none (request_of c.in-Some.command) (read_command (map (string_bytes {Z = Global}) c.args.words.now) (request_of c.in-Some.command) (sym c.in-Some.ensures)))),
)

pub returns-in-Some-clause-left : goal.returns-in-Some-clause-left
returns-in-Some-clause-left g c = λ m is.
    (let read = command_read (map (string_bytes {Z = Global}) c.args.words.now) m is in let some = c.in-Some.ensures in
    let same : request_of c.in-Some.command ≡ m = cc in
    let P : Request → Type 0 = λ m. HasLeft m (g.H.Shelf.tells c.args.shelf.now) (g.H.Shelf.holds c.args.shelf.now) (g.H.Shelf.holds c.run_command.new.shelf) (g.K.Sink.tells c.args.out.now) (g.K.Sink.taken c.args.out.now) (g.K.Sink.taken c.run_command.new.out) c.run_command.result in
    subst P same c.run_command.ensures.left)

pub returns-in-Some-clause-cause : goal.returns-in-Some-clause-cause
returns-in-Some-clause-cause g c = λ m is.
    (let read = command_read (map (string_bytes {Z = Global}) c.args.words.now) m is in let some = c.in-Some.ensures in
    let same : request_of c.in-Some.command ≡ m = cc in
    let P : Request → Type 0 = λ m. HasCause m (found (g.H.Shelf.tells c.args.shelf.now) (g.H.Shelf.sound c.args.shelf.now) (g.K.Sink.sound c.args.out.now) (g.H.Shelf.holds c.args.shelf.now)) (counts (g.H.Shelf.read_faults c.args.shelf.now) (g.H.Shelf.write_faults c.args.shelf.now) (g.K.Sink.faults c.args.out.now)) (counts (g.H.Shelf.read_faults c.run_command.new.shelf) (g.H.Shelf.write_faults c.run_command.new.shelf) (g.K.Sink.faults c.run_command.new.out)) c.run_command.result in
    subst P same c.run_command.ensures.cause)

pub returns-in-Some-clause-others : goal.returns-in-Some-clause-others
returns-in-Some-clause-others g c = λ m is.
    (let read = command_read (map (string_bytes {Z = Global}) c.args.words.now) m is in let some = c.in-Some.ensures in
    let same : request_of c.in-Some.command ≡ m = cc in
    let P : Request → Type 0 = λ m. OthersStay m (g.H.Shelf.holds c.args.shelf.now) (g.H.Shelf.holds c.run_command.new.shelf) in
    subst P same c.run_command.ensures.others)

pub returns-in-None-clause-complete : goal.returns-in-None-clause-complete
returns-in-None-clause-complete g c = λ m is. (let read = command_read (map (string_bytes {Z = Global}) c.args.words.now) m is in let none = c.in-None.ensures in cc)

pub returns-in-Some-clause-complete : goal.returns-in-Some-clause-complete
returns-in-Some-clause-complete g c = λ m is.
    (let read = command_read (map (string_bytes {Z = Global}) c.args.words.now) m is in let some = c.in-Some.ensures in
    let same : request_of c.in-Some.command ≡ m = cc in
    let before = counts (g.H.Shelf.read_faults c.args.shelf.now) (g.H.Shelf.write_faults c.args.shelf.now) (g.K.Sink.faults c.args.out.now) in
    let now = counts (g.H.Shelf.read_faults c.run_command.new.shelf) (g.H.Shelf.write_faults c.run_command.new.shelf) (g.K.Sink.faults c.run_command.new.out) in
    let seen : Request → Found = λ m. found (g.H.Shelf.tells c.args.shelf.now) (g.H.Shelf.sound c.args.shelf.now) (g.K.Sink.sound c.args.out.now) (g.H.Shelf.holds c.args.shelf.now) in
    let P : Request → Type 0 = λ m. IsComplete m (seen m) before now c.run_command.result in
    let first = request_of c.in-Some.command in
    subst P same (completes first (seen first) before now c.run_command.result c.one_library.ensures c.one_original.ensures.masked (runs_once c.one_simulation.ensures.net c.one_simulation.ensures.clocked c.one_simulation.ensures.driven) c.one_reading.ensures c.one_audit.ensures.passed c.one_probing.ensures.passed c.one_comparison.ensures (g.met.H.Shelf.sound_tells c.args.shelf.now) c.run_command.ensures.cause))
