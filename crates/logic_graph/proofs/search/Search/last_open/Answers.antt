use Rattle.std.proofs.Common.{map, ap, ◌-◌, get_or, ◌∙◌}
use Rattle.agm_net.specs.Plain.{line_of}
use Rattle.logic_graph.specs.Searching.{state}
use Rattle.logic_graph.proofs.Turns.{last_is_open}
use Rattle.logic_graph.proofs.search.Search.last_open.Goals as goal

pub returns : goal.returns
returns c =
    let s = state c.args.self.now in
    last_is_open (map line_of c.args.equations.now) s c.index.result.now c.requires.searched c.requires.on_path
    (c.index.ensures ∙ ap (λ k. get_or s.path (k - 1) c.index.result.now) (c.len.ensures ∙ c.args.self.now.path.ok.0))
