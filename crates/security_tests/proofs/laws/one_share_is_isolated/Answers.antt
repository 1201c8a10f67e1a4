use Rattle.security_tests.proofs.OneShare.{isolated}
use Rattle.security_tests.proofs.laws.one_share_is_isolated.Goals as goal

pub returns : goal.returns
returns c = isolated
