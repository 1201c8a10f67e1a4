use Rattle.std.proofs.Common.{take, drop, sym, subst}
use Rattle.std.proofs.lemmas.List.{take-append-drop}
use Rattle.hpc2_audit.specs.Kinds.{IsShaped}
use Rattle.hpc2_audit.proofs.Texts.{text_none, tail_none, rest_is}
use Rattle.hpc2_audit.proofs.parts.read_text.Goals as goal

pub returns-in-None-numbers_in : goal.returns-in-None-numbers_in
returns-in-None-numbers_in c =
    let text = c.args.text.now in
    let end = c.run_end-end.result in
    tail_none text (take end text) (drop end text) (take-append-drop end text) c.run_end-end.ensures.run c.run_end-end.ensures.ends c.in-Some.kind c.in-Some.ensures
    (λ i j is. c.in-None-numbers_in.ensures i j (subst (λ t. IsShaped c.shape_of.result i j t) (sym (rest_is text end)) (subst (λ s. IsShaped s i j (drop end text)) (sym c.shape_of.ensures) is)))

pub returns-in-None : goal.returns-in-None
returns-in-None c =
    let text = c.args.text.now in
    let end = c.run_end-end.result in
    text_none text (take end text) (drop end text) (take-append-drop end text) c.run_end-end.ensures.run c.run_end-end.ensures.ends c.in-None.ensures
