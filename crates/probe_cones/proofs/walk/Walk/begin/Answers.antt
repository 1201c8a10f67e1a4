use Rattle.std.proofs.Common.{◌≡◌, [], OnOk, Result, Ok, Err, sym, subst, ◌∙◌, ap}
use Rattle.agm_net.specs.View.{plain_of}
use Rattle.probe_cones.specs.Walk.{State, state, noted, HasBegun}
use Rattle.probe_cones.proofs.Walking.{began}
use Rattle.probe_cones.proofs.walk.Walk.begin.Goals as goal

on_ok : {X E : Type 0} (r : Result X E) (P Q : Type 0) → (P → Q) → OnOk r P → OnOk r Q
on_ok (Ok x) P Q f h = f h
on_ok (Err e) P Q f h = tt

pub returns : goal.returns
returns c =
    let net = plain_of c.args.net.now in
    let before = state c.args.self.now in
    let start : State = record { stamps = c.args.self.now.stamps.items; stamp = c.args.stamp; found = c.clear.new.self.items } in
    let empty : start ≡ record { stamps = c.args.self.now.stamps.items; stamp = c.args.stamp; found = [] } = ap (λ ws. record { stamps = c.args.self.now.stamps.items; stamp = c.args.stamp; found = ws }) c.clear.ensures.items in
    on_ok c.note.result (state c.note.new.self ≡ noted start c.args.wire) (HasBegun net c.args.wire c.args.stamp before (state c.note.new.self))
    (λ is. subst (HasBegun net c.args.wire c.args.stamp before) (sym (is ∙ ap (λ s. noted s c.args.wire) empty)) (began net c.args.wire c.args.stamp before c.requires.in_range c.requires.fresh))
    c.note.ensures.noted
