use Rattle.std.proofs.Common.{◌≡◌, ℕ, List, IsTrue, Some, ap, sym, subst, subst₂, ◌∙◌}
use Rattle.agm_net.specs.View.{plain_of}
use Rattle.agema_texts.specs.Original.{EndsBy}
use Rattle.agema_texts.specs.Probing.{IsBadList, IsProbed}
use Rattle.agema_core.specs.Answer.{OutFits}
use Rattle.agema_core.specs.Command.{probing_of}
use Rattle.agema_core.specs.Found.{counts, found}
use Rattle.agema_core.proofs.Left.{cones_left}
use Rattle.agema_core.proofs.Ends.{read_end_over, unread_out, refused_out, unread_probes, refused_probes, cones_end}
use Rattle.agema_core.proofs.cones.run_cones.Goals as goal

pub returns-in-Err-clause-cause : goal.returns-in-Err-clause-cause
returns-in-Err-clause-cause g c =
    let p = probing_of c.args.words.now in
    let before = counts (g.H.Shelf.read_faults c.args.shelf.now) (g.H.Shelf.write_faults c.args.shelf.now) (g.K.Sink.faults c.args.sink.now) in
    let now = counts (g.H.Shelf.read_faults c.read_file.new.shelf) (g.H.Shelf.write_faults c.read_file.new.shelf) (g.K.Sink.faults c.args.sink.now) in
    let f = found (g.H.Shelf.tells c.args.shelf.now) (g.H.Shelf.sound c.args.shelf.now) (g.K.Sink.sound c.args.sink.now) (g.H.Shelf.holds c.args.shelf.now) in
    unread_out p f before now c.in-Err.ended c.in-Err.ensures.err

pub returns-in-Err-read_network-clause-cause : goal.returns-in-Err-read_network-clause-cause
returns-in-Err-read_network-clause-cause g c =
    let p = probing_of c.args.words.now in
    let before = counts (g.H.Shelf.read_faults c.args.shelf.now) (g.H.Shelf.write_faults c.args.shelf.now) (g.K.Sink.faults c.args.sink.now) in
    let now = counts (g.H.Shelf.read_faults c.read_file.new.shelf) (g.H.Shelf.write_faults c.read_file.new.shelf) (g.K.Sink.faults c.args.sink.now) in
    let f = found (g.H.Shelf.tells c.args.shelf.now) (g.H.Shelf.sound c.args.shelf.now) (g.K.Sink.sound c.args.sink.now) (g.H.Shelf.holds c.args.shelf.now) in
    let text = c.as_slice.result.now in
    let read : IsTrue f.tells → f.holds p.out ≡ Some text = λ t. c.in-Ok.ensures.ok t ∙ ap (λ x. Some x) (sym c.as_slice.ensures.value) in
    refused_out p f before now text read c.in-Err-read_network.ended c.in-Err-read_network.ensures.err

pub returns-in-Err-read_file-clause-cause : goal.returns-in-Err-read_file-clause-cause
returns-in-Err-read_file-clause-cause g c =
    let p = probing_of c.args.words.now in
    let before = counts (g.H.Shelf.read_faults c.args.shelf.now) (g.H.Shelf.write_faults c.args.shelf.now) (g.K.Sink.faults c.args.sink.now) in
    let now = counts (g.H.Shelf.read_faults c.read_file-2.new.shelf) (g.H.Shelf.write_faults c.read_file-2.new.shelf) (g.K.Sink.faults c.args.sink.now) in
    let f = found (g.H.Shelf.tells c.args.shelf.now) (g.H.Shelf.sound c.args.shelf.now) (g.K.Sink.sound c.args.sink.now) (g.H.Shelf.holds c.args.shelf.now) in
    let text = c.as_slice.result.now in
    let read : IsTrue f.tells → f.holds p.out ≡ Some text = λ t. c.in-Ok.ensures.ok t ∙ ap (λ x. Some x) (sym c.as_slice.ensures.value) in
    let mid = c.read_file.new.shelf in
    let fits : OutFits p f = λ t. (text, read t, (plain_of c.in-Ok-read_network.network.net, c.in-Ok-read_network.ensures.network.0, c.in-Ok-read_network.ensures.network.1)) in
    let end = read_end_over p.probes (g.H.Shelf.tells mid) f.tells (g.H.Shelf.sound mid) f.sound (g.H.Shelf.holds mid p.probes) (f.holds p.probes) (g.H.Shelf.read_faults mid) now.reads c.in-Err-read_file.ended
    c.in-Ok.ensures.goes_on.same_telling c.in-Ok.ensures.goes_on.same_sound (c.in-Ok.ensures.same p.probes) c.in-Err-read_file.ensures.err in
    unread_probes p f before now (g.H.Shelf.read_faults mid) c.in-Ok.ensures.goes_on.reads_later fits c.in-Err-read_file.ended end

pub returns-in-Ok-probed-clause-left : goal.returns-in-Ok-probed-clause-left
returns-in-Ok-probed-clause-left g c =
    let p = probing_of c.args.words.now in
    let before = counts (g.H.Shelf.read_faults c.args.shelf.now) (g.H.Shelf.write_faults c.args.shelf.now) (g.K.Sink.faults c.args.sink.now) in
    let now = counts (g.H.Shelf.read_faults c.read_file-2.new.shelf) (g.H.Shelf.write_faults c.read_file-2.new.shelf) (g.K.Sink.faults c.print_text.new.sink) in
    let f = found (g.H.Shelf.tells c.args.shelf.now) (g.H.Shelf.sound c.args.shelf.now) (g.K.Sink.sound c.args.sink.now) (g.H.Shelf.holds c.args.shelf.now) in
    let text = c.as_slice.result.now in
    let read : IsTrue f.tells → f.holds p.out ≡ Some text = λ t. c.in-Ok.ensures.ok t ∙ ap (λ x. Some x) (sym c.as_slice.ensures.value) in
    let mid = c.read_file.new.shelf in
    let probes = c.as_slice-2.result.now in
    let asks : IsTrue f.tells → f.holds p.probes ≡ Some probes = λ t. sym (c.in-Ok.ensures.same p.probes) ∙ c.in-Ok-read_file.ensures.ok (c.in-Ok.ensures.goes_on.same_telling ∙ t) ∙ ap (λ x. Some x) (sym c.as_slice-2.ensures.value) in
    let printed = c.as_slice-in-Ok-probed.result.now in
    let net = plain_of c.in-Ok-read_network.network.net in
    let P : ℕ → List ℕ → Type 0 = λ o t. IsProbed net o probes t in
    let probed : IsProbed net p.order probes printed = subst₂ P c.in-Ok-read_network.ensures.order (sym c.as_slice-in-Ok-probed.ensures) c.in-Ok-probed.ensures.ok in
    cones_left p printed f.tells f.holds (g.H.Shelf.holds c.read_file-2.new.shelf) (g.K.Sink.tells c.args.sink.now) (g.K.Sink.taken c.args.sink.now) (g.K.Sink.taken c.print_text.new.sink) (g.K.Sink.sound c.args.sink.now) (g.K.Sink.faults c.args.sink.now) (g.K.Sink.faults c.print_text.new.sink) c.print_text.result
    c.print_text.ensures.end (λ t. (text, read t, (probes, asks t, record { net = net; network = c.in-Ok-read_network.ensures.network; probed = probed })))
    (λ name. c.in-Ok-read_file.ensures.same name ∙ c.in-Ok.ensures.same name) c.print_text.ensures.done c.print_text.ensures.front

pub returns-in-Ok-probed-clause-cause : goal.returns-in-Ok-probed-clause-cause
returns-in-Ok-probed-clause-cause g c =
    let p = probing_of c.args.words.now in
    let before = counts (g.H.Shelf.read_faults c.args.shelf.now) (g.H.Shelf.write_faults c.args.shelf.now) (g.K.Sink.faults c.args.sink.now) in
    let now = counts (g.H.Shelf.read_faults c.read_file-2.new.shelf) (g.H.Shelf.write_faults c.read_file-2.new.shelf) (g.K.Sink.faults c.print_text.new.sink) in
    let f = found (g.H.Shelf.tells c.args.shelf.now) (g.H.Shelf.sound c.args.shelf.now) (g.K.Sink.sound c.args.sink.now) (g.H.Shelf.holds c.args.shelf.now) in
    let text = c.as_slice.result.now in
    let read : IsTrue f.tells → f.holds p.out ≡ Some text = λ t. c.in-Ok.ensures.ok t ∙ ap (λ x. Some x) (sym c.as_slice.ensures.value) in
    let probes = c.as_slice-2.result.now in
    let asks : IsTrue f.tells → f.holds p.probes ≡ Some probes = λ t. sym (c.in-Ok.ensures.same p.probes) ∙ c.in-Ok-read_file.ensures.ok (c.in-Ok.ensures.goes_on.same_telling ∙ t) ∙ ap (λ x. Some x) (sym c.as_slice-2.ensures.value) in
    let net = plain_of c.in-Ok-read_network.network.net in
    let P : ℕ → Type 0 = λ o. IsProbed net o probes c.in-Ok-probed.text in
    let told = subst P c.in-Ok-read_network.ensures.order c.in-Ok-probed.ensures.ok in
    cones_end p f before now (λ t. (text, read t, (probes, asks t, (net, told.asked, c.in-Ok-read_network.ensures.network, told.has_probes)))) c.print_text.result c.print_text.ensures.end

pub returns-clause-cause : goal.returns-clause-cause
returns-clause-cause g c =
    let p = probing_of c.args.words.now in
    let before = counts (g.H.Shelf.read_faults c.args.shelf.now) (g.H.Shelf.write_faults c.args.shelf.now) (g.K.Sink.faults c.args.sink.now) in
    let now = counts (g.H.Shelf.read_faults c.read_file-2.new.shelf) (g.H.Shelf.write_faults c.read_file-2.new.shelf) (g.K.Sink.faults c.args.sink.now) in
    let f = found (g.H.Shelf.tells c.args.shelf.now) (g.H.Shelf.sound c.args.shelf.now) (g.K.Sink.sound c.args.sink.now) (g.H.Shelf.holds c.args.shelf.now) in
    let text = c.as_slice.result.now in
    let read : IsTrue f.tells → f.holds p.out ≡ Some text = λ t. c.in-Ok.ensures.ok t ∙ ap (λ x. Some x) (sym c.as_slice.ensures.value) in
    let probes = c.as_slice-2.result.now in
    let asks : IsTrue f.tells → f.holds p.probes ≡ Some probes = λ t. sym (c.in-Ok.ensures.same p.probes) ∙ c.in-Ok-read_file.ensures.ok (c.in-Ok.ensures.goes_on.same_telling ∙ t) ∙ ap (λ x. Some x) (sym c.as_slice-2.ensures.value) in
    let net = plain_of c.in-Ok-read_network.network.net in
    let B : ℕ → Type 0 = λ o. EndsBy (IsBadList net o probes) c.in-Err-probed.ended in
    refused_probes p f before now text probes net read asks c.in-Ok-read_network.ensures.network c.in-Err-probed.ended (subst B c.in-Ok-read_network.ensures.order c.in-Err-probed.ensures.err)
