use Rattle.net_binding.proofs.frame.pushed.Goals as goal
use Rattle.net_binding.proofs.Given.{stay_given}
use Rattle.net_binding.proofs.Listed.{ports_given}
use Rattle.net_binding.proofs.Made.{not_one}
