use Rattle.std.proofs.Common.{◌≡◌, IsTrue, Some, map, ap, sym, inr, ◌∙◌}
use Rattle.agm_net.specs.View.{plain_of}
use Rattle.cell_library.specs.Spelled.{cell_of}
use Rattle.agema_core.specs.Command.{sim_of}
use Rattle.agema_core.specs.Found.{ToldBoth, counts, found}
use Rattle.agema_core.specs.Answer.{SimFits, IsRunnable}
use Rattle.agema_core.proofs.Left.{printed_left}
use Rattle.agema_core.proofs.Ends.{input_end_sim, told_both, told_stimulus, sims_told, refused_sim, read_end_over, unread_stimulus, refused_stimulus, printed_end}
use Rattle.agema_core.proofs.sim.run_sim.Goals as goal

pub returns-in-Err-clause-cause : goal.returns-in-Err-clause-cause
returns-in-Err-clause-cause g c =
    let s = sim_of c.args.words.now in
    let before = counts (g.H.Shelf.read_faults c.args.shelf.now) (g.H.Shelf.write_faults c.args.shelf.now) (g.K.Sink.faults c.args.sink.now) in
    let now = counts (g.H.Shelf.read_faults c.read_inputs.new.shelf) (g.H.Shelf.write_faults c.read_inputs.new.shelf) (g.K.Sink.faults c.args.sink.now) in
    let f = found (g.H.Shelf.tells c.args.shelf.now) (g.H.Shelf.sound c.args.shelf.now) (g.K.Sink.sound c.args.sink.now) (g.H.Shelf.holds c.args.shelf.now) in
    input_end_sim s f before now c.in-Err.ended (c.in-Err.ensures.err (g.K.Sink.sound c.args.sink.now))

pub returns-in-Err-clocked_net-clause-cause : goal.returns-in-Err-clocked_net-clause-cause
returns-in-Err-clocked_net-clause-cause g c =
    let s = sim_of c.args.words.now in
    let before = counts (g.H.Shelf.read_faults c.args.shelf.now) (g.H.Shelf.write_faults c.args.shelf.now) (g.K.Sink.faults c.args.sink.now) in
    let now = counts (g.H.Shelf.read_faults c.read_inputs.new.shelf) (g.H.Shelf.write_faults c.read_inputs.new.shelf) (g.K.Sink.faults c.args.sink.now) in
    let f = found (g.H.Shelf.tells c.args.shelf.now) (g.H.Shelf.sound c.args.shelf.now) (g.K.Sink.sound c.args.sink.now) (g.H.Shelf.holds c.args.shelf.now) in
    let cells = map cell_of c.in-Ok.inputs.library.cells in
    let text = c.as_slice.result.now in
    let read : IsTrue f.tells → f.holds s.net ≡ Some text = λ t. c.in-Ok.ensures.bytes t ∙ ap (λ x. Some x) (sym c.as_slice.ensures.value) in
    inr ((λ t. (cells, c.in-Ok.ensures.cells t)), refused_sim s f before now cells text c.in-Ok.ensures.cells read c.in-Err-clocked_net.ended c.in-Err-clocked_net.ensures.err)

pub returns-in-Err-read_file-clause-cause : goal.returns-in-Err-read_file-clause-cause
returns-in-Err-read_file-clause-cause g c =
    let s = sim_of c.args.words.now in
    let before = counts (g.H.Shelf.read_faults c.args.shelf.now) (g.H.Shelf.write_faults c.args.shelf.now) (g.K.Sink.faults c.args.sink.now) in
    let now = counts (g.H.Shelf.read_faults c.read_file.new.shelf) (g.H.Shelf.write_faults c.read_file.new.shelf) (g.K.Sink.faults c.args.sink.now) in
    let f = found (g.H.Shelf.tells c.args.shelf.now) (g.H.Shelf.sound c.args.shelf.now) (g.K.Sink.sound c.args.sink.now) (g.H.Shelf.holds c.args.shelf.now) in
    let mid = c.read_inputs.new.shelf in
    let cells = map cell_of c.in-Ok.inputs.library.cells in
    let text = c.as_slice.result.now in
    let read : IsTrue f.tells → f.holds s.net ≡ Some text = λ t. c.in-Ok.ensures.bytes t ∙ ap (λ x. Some x) (sym c.as_slice.ensures.value) in
    let runs : ToldBoth s.library s.net f IsRunnable = told_both s.library s.net f IsRunnable cells text c.in-Ok.ensures.cells read (plain_of c.in-Ok-clocked_net.net, c.in-Ok-clocked_net.ensures.ok) in
    let end = read_end_over s.stimulus (g.H.Shelf.tells mid) f.tells (g.H.Shelf.sound mid) f.sound (g.H.Shelf.holds mid s.stimulus) (f.holds s.stimulus) (g.H.Shelf.read_faults mid) now.reads c.in-Err-read_file.ended
    c.in-Ok.ensures.goes_on.same_telling c.in-Ok.ensures.goes_on.same_sound (c.in-Ok.ensures.same s.stimulus) c.in-Err-read_file.ensures.err in
    inr ((λ t. (cells, c.in-Ok.ensures.cells t)), unread_stimulus s f before now (g.H.Shelf.read_faults mid) c.in-Ok.ensures.goes_on.reads_later runs c.in-Err-read_file.ended end)

pub returns-in-Ok-simulated-clause-left : goal.returns-in-Ok-simulated-clause-left
returns-in-Ok-simulated-clause-left g c =
    let s = sim_of c.args.words.now in
    let old = g.H.Shelf.holds c.args.shelf.now in
    let mid = g.H.Shelf.holds c.read_inputs.new.shelf in
    let new = g.H.Shelf.holds c.read_file.new.shelf in
    let told = g.H.Shelf.tells c.args.shelf.now in
    let heard = g.K.Sink.tells c.args.sink.now in
    let cells = map cell_of c.in-Ok.inputs.library.cells in
    let text = c.as_slice.result.now in
    let drive = c.as_slice-2.result.now in
    let printed = c.as_slice-in-Ok-simulated.result.now in
    let read : IsTrue told → old s.net ≡ Some text = λ t. c.in-Ok.ensures.bytes t ∙ ap (λ x. Some x) (sym c.as_slice.ensures.value) in
    let drives : IsTrue told → old s.stimulus ≡ Some drive = λ t. sym (c.in-Ok.ensures.same s.stimulus) ∙ c.in-Ok-read_file.ensures.ok (c.in-Ok.ensures.goes_on.same_telling ∙ t) ∙ ap (λ x. Some x) (sym c.as_slice-2.ensures.value) in
    let sims = sims_told s told old cells text drive c.in-Ok-simulated.text printed (plain_of c.in-Ok-clocked_net.net) c.as_slice-in-Ok-simulated.ensures c.in-Ok.ensures.cells read drives c.in-Ok-clocked_net.ensures.ok c.in-Ok-simulated.ensures.ok in
    printed_left s printed told old new heard (g.K.Sink.taken c.args.sink.now) (g.K.Sink.taken c.print_text.new.sink) (g.K.Sink.sound c.args.sink.now) (g.K.Sink.faults c.args.sink.now) (g.K.Sink.faults c.print_text.new.sink) c.print_text.result
    c.print_text.ensures.end sims (λ name. c.in-Ok-read_file.ensures.same name ∙ c.in-Ok.ensures.same name) c.print_text.ensures.done c.print_text.ensures.front

pub returns-in-Ok-simulated-clause-cause : goal.returns-in-Ok-simulated-clause-cause
returns-in-Ok-simulated-clause-cause g c =
    let s = sim_of c.args.words.now in
    let before = counts (g.H.Shelf.read_faults c.args.shelf.now) (g.H.Shelf.write_faults c.args.shelf.now) (g.K.Sink.faults c.args.sink.now) in
    let now = counts (g.H.Shelf.read_faults c.read_file.new.shelf) (g.H.Shelf.write_faults c.read_file.new.shelf) (g.K.Sink.faults c.print_text.new.sink) in
    let f = found (g.H.Shelf.tells c.args.shelf.now) (g.H.Shelf.sound c.args.shelf.now) (g.K.Sink.sound c.args.sink.now) (g.H.Shelf.holds c.args.shelf.now) in
    let cells = map cell_of c.in-Ok.inputs.library.cells in
    let text = c.as_slice.result.now in
    let drive = c.as_slice-2.result.now in
    let read : IsTrue f.tells → f.holds s.net ≡ Some text = λ t. c.in-Ok.ensures.bytes t ∙ ap (λ x. Some x) (sym c.as_slice.ensures.value) in
    let drives : IsTrue f.tells → f.holds s.stimulus ≡ Some drive = λ t. sym (c.in-Ok.ensures.same s.stimulus) ∙ c.in-Ok-read_file.ensures.ok (c.in-Ok.ensures.goes_on.same_telling ∙ t) ∙ ap (λ x. Some x) (sym c.as_slice-2.ensures.value) in
    let fits : ToldBoth s.library s.net f (SimFits s f) = told_stimulus s f cells text drive c.in-Ok-simulated.text (plain_of c.in-Ok-clocked_net.net) c.in-Ok.ensures.cells read drives c.in-Ok-clocked_net.ensures.ok c.in-Ok-simulated.ensures.ok in
    inr ((λ t. (cells, c.in-Ok.ensures.cells t)), printed_end s f before now fits c.print_text.result c.print_text.ensures.end)

pub returns-clause-cause : goal.returns-clause-cause
returns-clause-cause g c =
    let s = sim_of c.args.words.now in
    let before = counts (g.H.Shelf.read_faults c.args.shelf.now) (g.H.Shelf.write_faults c.args.shelf.now) (g.K.Sink.faults c.args.sink.now) in
    let now = counts (g.H.Shelf.read_faults c.read_file.new.shelf) (g.H.Shelf.write_faults c.read_file.new.shelf) (g.K.Sink.faults c.args.sink.now) in
    let f = found (g.H.Shelf.tells c.args.shelf.now) (g.H.Shelf.sound c.args.shelf.now) (g.K.Sink.sound c.args.sink.now) (g.H.Shelf.holds c.args.shelf.now) in
    let cells = map cell_of c.in-Ok.inputs.library.cells in
    let text = c.as_slice.result.now in
    let drive = c.as_slice-2.result.now in
    let read : IsTrue f.tells → f.holds s.net ≡ Some text = λ t. c.in-Ok.ensures.bytes t ∙ ap (λ x. Some x) (sym c.as_slice.ensures.value) in
    let drives : IsTrue f.tells → f.holds s.stimulus ≡ Some drive = λ t. sym (c.in-Ok.ensures.same s.stimulus) ∙ c.in-Ok-read_file.ensures.ok (c.in-Ok.ensures.goes_on.same_telling ∙ t) ∙ ap (λ x. Some x) (sym c.as_slice-2.ensures.value) in
    inr ((λ t. (cells, c.in-Ok.ensures.cells t)), refused_stimulus s f before now cells text drive (plain_of c.in-Ok-clocked_net.net) c.in-Ok.ensures.cells read drives c.in-Ok-clocked_net.ensures.ok c.in-Err-simulated.ended c.in-Err-simulated.ensures.err)
