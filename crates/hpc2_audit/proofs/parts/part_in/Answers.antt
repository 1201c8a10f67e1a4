use Rattle.hpc2_audit.proofs.Texts.{part_none, part_text_is, first, second}
use Rattle.hpc2_audit.proofs.parts.part_in.Goals as goal

pub returns-in-None-indices_of : goal.returns-in-None-indices_of
returns-in-None-indices_of c = λ p same is.
    part_none c.args.order c.args.gadget c.args.text.now c.in-Some.kind c.in-Some.i c.in-Some.j c.in-Some.ensures c.in-None-indices_of.ensures p same is

pub returns-in-None : goal.returns-in-None
returns-in-None c = λ p same is.
    let d = c.args.order in
    c.in-None.ensures p.kind (first d p.kind p.i p.j) (second d p.kind p.i p.j) (part_text_is d c.args.gadget c.args.text.now p same is)
