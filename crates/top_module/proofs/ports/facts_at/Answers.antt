use Rattle.std.proofs.Common.{ℕ, List, sym, ap, ◌∙◌}
use Rattle.std.specs.Str.{bytes_eq}
use Rattle.std.proofs.lemmas.Bool.{both_ways}
use Rattle.agm_net.proofs.Finds.{not_any}
use Rattle.top_module.proofs.Placed.{found_at}
use Rattle.top_module.specs.Marks.{is_among}
use Rattle.top_module.proofs.ports.facts_at.Goals as goal

pub returns-in-Some : goal.returns-in-Some
returns-in-Some c f all among = found_at f c.args.table.now c.args.facts.now c.as_slice.result.now c.args.name.now c.in-Some.place _ all c.as_slice.ensures (sym c.in-Some.ensures)

pub returns-in-None : goal.returns-in-None
returns-in-None c f all among = absurd (both_ways _ (ap (λ (m : List ℕ). is_among m c.args.table.now) (sym c.as_slice.ensures) ∙ not_any (λ n. bytes_eq n c.as_slice.result.now) c.args.table.now (sym c.in-None.ensures)) among)
