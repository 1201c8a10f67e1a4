use Rattle.network_examples.proofs.ShareWires.{is_no_network}
use Rattle.network_examples.proofs.added_shares_are_no_network.Goals as goal

pub returns : goal.returns
returns c = is_no_network
