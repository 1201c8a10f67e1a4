use Rattle.std.proofs.Common.{◌≡◌, ap, sym, subst, map, replicate, length, ◌∙◌, nat_lt, [], inl, inr, arith, ltb-true, ◌&&◌}
use Rattle.std.proofs.lemmas.Bool.{cases_eq, and_parts}
use Rattle.std.proofs.lemmas.List.{length-map, length-replicate}
use Rattle.agm_net.specs.Formula.{reads_below, f_zero}
use Rattle.agm_net.specs.Plain.{Line, line_of}
use Rattle.agm_net.specs.declared.expr.Equation.{Equation}
use Rattle.logic_graph.specs.Searching.{state, IsSearch, line_at, left_at, marked}
use Rattle.logic_graph.specs.declared.search.Mark.TheVariants.{Done}
use Rattle.logic_graph.proofs.Orders.{wires_fit, starts, ends, length-marked}
use Rattle.logic_graph.proofs.Turns.{line_is, all_pass_at}
use Rattle.logic_graph.proofs.search.sort.Goals as goal

pub first_marks-requires : goal.first_marks-requires
first_marks-requires c = wires_fit c.args.n c.args.equations.now c.requires.fit

pub loop-equation-init : goal.loop-equation-init
loop-equation-init c =
    let lines = map line_of c.args.equations.now in
    let marks = c.in_ok-first_marks.ensures in
    record {
      searched = subst (λ ms. IsSearch lines (record { marks = ms; path = c.new.result.items; order = c.new-2.result })) (sym marks)
          (subst (λ ps. IsSearch lines (record { marks = marked 0 lines (replicate c.args.n Done); path = ps; order = c.new-2.result })) (sym c.new.ensures.items)
          (subst (λ is. IsSearch lines (record { marks = marked 0 lines (replicate c.args.n Done); path = []; order = is })) (sym c.new-2.ensures) (starts lines c.args.n c.requires.fit)));
      off_path = c.new.ensures.items;
      as_many = ap length marks ∙ length-marked 0 lines (replicate c.args.n Done) ∙ length-replicate c.args.n Done;
      done = λ i lt. absurd (omega arith);
    }

pub visit-requires-clause-in_range : goal.visit-requires-clause-in_range
visit-requires-clause-in_range c =
    let lines = map line_of c.args.equations.now in
    let n = c.loop-equation.equation-index in
    let long = length-map c.args.equations.now line_of in
    let is = line_is c.args.equations.now n c.equation-item.result c.loop-equation-test.true in
    let own : (line_at lines n).0 ≡ c.equation-item.result.wire = ap (λ (l : Line). l.0) is ∙ sym (ap (λ (e : Equation). e.wire) c.equation-item.is) in
    let fits = all_pass_at (λ l. nat_lt l.0 c.args.n && reads_below c.args.n l.1) lines n (0, f_zero) (omega arith) c.requires.fit in
    let below = ltb-true (line_at lines n).0 c.args.n (and_parts (nat_lt (line_at lines n).0 c.args.n) (reads_below c.args.n (line_at lines n).1) fits).0 in
    let many = c.loop-equation.invariant.as_many in
    omega arith

pub loop-equation-preserved : goal.loop-equation-preserved
loop-equation-preserved c =
    let lines = map line_of c.args.equations.now in
    let n = c.loop-equation.equation-index in
    let is = line_is c.args.equations.now n c.equation-item.result c.loop-equation-test.true in
    let own : (line_at lines n).0 ≡ c.equation-item.result.wire = ap (λ (l : Line). l.0) is ∙ sym (ap (λ (e : Equation). e.wire) c.equation-item.is) in
    let visited = c.in_ok-visit.ensures.ok in
    record {
      searched = visited.searched;
      off_path = visited.off_path;
      as_many = visited.as_many ∙ c.loop-equation.invariant.as_many;
      done = λ i lt. elim (cases_eq i n) [
        | inl same ↦ ap (λ k. left_at c.visit.new.self.marks (line_at lines k).0) same ∙ (ap (left_at c.visit.new.self.marks) own ∙ visited.is_done)
        | inr before ↦ (let none = c.loop-equation.invariant.done i (omega arith) in let back = visited.none_back (line_at lines i).0 in omega arith)
      ];
    }

pub returns-clause-ok : goal.returns-clause-ok
returns-clause-ok c =
    let lines = map line_of c.args.equations.now in
    let long = length-map c.args.equations.now line_of in
    ends lines (state c.loop-equation.search) c.requires.once c.loop-equation.invariant.searched (λ i lt. c.loop-equation.invariant.done i (omega arith))
