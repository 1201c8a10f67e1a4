use Rattle.std.proofs.Common.{◌∙◌, drop, ◌+◌, sym, arith}
use Rattle.std.proofs.lemmas.List.{length-drop}
use Rattle.agm_net.proofs.ShareIndex.{none_before, none_behind, front_plain, cut_here, within}
use Rattle.agm_net.proofs.roles.before_line.Goals as goal

pub returns-in_default : goal.returns-in_default
returns-in_default c = none_before c.args.bytes.now (sym c.first_line.ensures ∙ c.in_default.is)

pub returns-then-end-bytes : goal.returns-then-end-bytes
returns-then-end-bytes c = none_behind c.args.bytes.now c.in-Some.end (sym c.first_line.ensures ∙ c.in-Some.is) (omega arith)

pub returns : goal.returns
returns c =
    let found = sym c.first_line.ensures ∙ c.in-Some.is in
    let inside = within c.args.bytes.now c.in-Some.end found in
    (front_plain c.args.bytes.now c.in-Some.end found, drop (c.in-Some.end + 1) c.args.bytes.now, omega (arith, length-drop (c.in-Some.end + 1) c.args.bytes.now), cut_here c.args.bytes.now c.in-Some.end found)
