use Rattle.whole_networks.proofs.Wholeness as wholeness
use Rattle.whole_networks.proofs.masked_networks_are_secure.Goals as goal

pub returns : goal.returns
returns c = λ original report net masked network. record {
  isolates = c.networks_isolate.ensures net report.order masked.well network;
  blind = c.networks_keep_secrets.ensures net report.order masked.well network (wholeness.is_whole original report net masked);
}
