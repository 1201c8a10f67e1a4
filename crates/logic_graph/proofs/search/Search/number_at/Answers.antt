use Rattle.std.proofs.Common.{ap, sym, map, get_or, ◌∙◌, arith}
use Rattle.std.proofs.lemmas.List.{length-map}
use Rattle.agm_net.specs.Plain.{line_of}
use Rattle.logic_graph.specs.declared.search.Mark.TheVariants.{Done}
use Rattle.logic_graph.specs.Searching.{state}
use Rattle.logic_graph.proofs.Turns.{at_number}
use Rattle.logic_graph.proofs.search.Search.number_at.Goals as goal

pub returns-clause-at : goal.returns-clause-at
returns-clause-at c =
    at_number (map line_of c.args.equations.now) (state c.args.self.now) c.args.wire c.number_of.result c.requires.fit c.requires.searched
    (ap (λ marks. get_or marks c.args.wire Done) (sym c.as_slice.ensures) ∙ c.number_of.ensures)

pub returns-clause-placed : goal.returns-clause-placed
returns-clause-placed c =
    let at = returns-clause-at c in
    let long = length-map c.args.equations.now line_of in
    omega arith
