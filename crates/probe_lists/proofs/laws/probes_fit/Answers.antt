use Rattle.probe_lists.proofs.Fitting.{probes_are_fit}
use Rattle.probe_lists.proofs.laws.probes_fit.Goals as goal

pub returns : goal.returns
returns c = probes_are_fit
