use Rattle.std.proofs.Common.{◌≡◌, ap, sym, subst, map, get_or, ◌∙◌, Some, None}
use Rattle.agm_net.specs.Plain.{line_of}
use Rattle.logic_graph.specs.declared.search.Mark.TheVariants.{Done}
use Rattle.logic_graph.specs.Searching.{state, HasTurned, IsLoopIn, from_first, new_number}
use Rattle.logic_graph.proofs.Turns.{awaited_opens, closes_loop}
use Rattle.logic_graph.proofs.search.Search.follow.Goals as goal

pub returns-in_ok-open-in-Some-clause-ok : goal.returns-in_ok-open-in-Some-clause-ok
returns-in_ok-open-in-Some-clause-ok c =
    let s = state c.args.self.now in
    let mark : new_number (get_or s.marks c.args.read Done) ≡ Some c.in-Some.number = ap (λ ms. new_number (get_or ms c.args.read Done)) (sym c.as_slice.ensures) ∙ sym c.in-Some.ensures in
    subst (HasTurned (map line_of c.args.equations.now) s) (sym c.in_ok-open-in-Some.ensures)
    (awaited_opens (map line_of c.args.equations.now) s c.args.read c.in-Some.number c.requires.searched c.requires.awaited mark)

pub returns-in_ok-wires-in-None : goal.returns-in_ok-wires-in-None
returns-in_ok-wires-in-None c =
    let s = state c.args.self.now in
    let mark : new_number (get_or s.marks c.args.read Done) ≡ None = ap (λ ms. new_number (get_or ms c.args.read Done)) (sym c.as_slice.ensures) ∙ sym c.in-None.ensures in
    record {
      ok = tt;
      err = subst (IsLoopIn (map line_of c.args.equations.now)) (sym (c.in_ok-wires-in-None.ensures ∙ ap (from_first c.args.read) c.as_slice-in-None.ensures.value))
          (closes_loop (map line_of c.args.equations.now) s c.args.read c.requires.searched c.requires.awaited mark);
    }
