use Rattle.std.proofs.Common.{◌≡◌, OnOk, Result, Ok, Err, ap, sym, subst, ◌∙◌, refl, inl, inr, length, get_or, true, List}
use Rattle.agm_net.specs.Formula.{formula_of, reads_below, stands}
use Rattle.agm_net.specs.Run.{driver, d_clock}
use Rattle.agm_net.specs.View.{plain_of}
use Rattle.agm_net.specs.declared.expr.Equation.{Equation as Setting}
use Rattle.probe_cones.specs.Origins.{Tells}
use Rattle.probe_cones.specs.Walk.{state, reads_noted, HasTurned}
use Rattle.probe_cones.proofs.OriginsTold.{told_line, formula_here, line_within, unread}
use Rattle.probe_cones.proofs.Walking.{Notes, notes, turned_by, turned_none}
use Rattle.probe_cones.proofs.walk.Walk.turn.Goals as goal

pub note_reads-requires : goal.note_reads-requires
note_reads-requires c =
    let net = plain_of c.args.net.now in
    let eqs = c.args.net.now.equations in
    let k = c.in-Equation.k in
    let w = c.args.wire in
    let told = told_line net c.args.net.now.well_formed k w (subst (λ o. Tells net o w) c.in-Equation.is (c.requires.origins.tells w c.requires.in_range)) in
    let n = length c.args.self.now.stamps.items in
    let below : reads_below n told.0 ≡ true = subst (λ m. reads_below m told.0 ≡ true) (sym c.requires.as_many) told.3 in
    let here = formula_here eqs k c.index-as_slice-k.result w told.0 told.1 (line_within eqs k w told.0 told.1) in
    subst (λ (es : List Setting). reads_below n (formula_of (get_or es k c.index-as_slice-k.result).expr) ≡ true) (sym c.as_slice.ensures) (ap (reads_below n) here ∙ below)

on_ok : {X E : Type 0} (r : Result X E) (P Q : Type 0) → (P → Q) → OnOk r P → OnOk r Q
on_ok (Ok x) P Q f h = f h
on_ok (Err e) P Q f h = tt

pub returns-in-Equation : goal.returns-in-Equation
returns-in-Equation c =
    let net = plain_of c.args.net.now in
    let eqs = c.args.net.now.equations in
    let k = c.in-Equation.k in
    let w = c.args.wire in
    let told = told_line net c.args.net.now.well_formed k w (subst (λ o. Tells net o w) c.in-Equation.is (c.requires.origins.tells w c.requires.in_range)) in
    let n = length c.args.self.now.stamps.items in
    let s = state c.args.self.now in
    let t = state c.note_reads.new.self in
    let below : reads_below n told.0 ≡ true = subst (λ m. reads_below m told.0 ≡ true) (sym c.requires.as_many) told.3 in
    let here = formula_here eqs k c.index-as_slice-k.result w told.0 told.1 (line_within eqs k w told.0 told.1) in
    let same : formula_of (get_or c.as_slice.result.now k c.index-as_slice-k.result).expr ≡ told.0 = ap (λ (es : List Setting). formula_of (get_or es k c.index-as_slice-k.result).expr) c.as_slice.ensures ∙ here in
    on_ok c.note_reads.result (t ≡ reads_noted (formula_of (get_or c.as_slice.result.now k c.index-as_slice-k.result).expr) s) (HasTurned net w s t)
    (λ is. turned_by net c.args.net.now.well_formed w told.0 s t told.2 (subst (Notes (λ v. stands v told.0) s) (sym (is ∙ ap (λ f. reads_noted f s) same)) (notes told.0 s below)))
    c.note_reads.ensures.noted

pub returns-in-Source : goal.returns-in-Source
returns-in-Source c =
    let net = plain_of c.args.net.now in
    let w = c.args.wire in
    let tells = c.requires.origins.tells w c.requires.in_range in
    elim c.in-Source.is [
      | inl is ↦ turned_none net c.args.net.now.well_formed w (state c.args.self.now) (driver net w) refl (unread (driver net w) (subst (λ o. Tells net o w) is tells))
      | inr is ↦ turned_none net c.args.net.now.well_formed w (state c.args.self.now) d_clock (subst (λ o. Tells net o w) is tells) (λ v. refl)
    ]
