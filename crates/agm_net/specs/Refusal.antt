-- Why parts make no net.
use Rattle.agm_net.specs.Plain.{PlainNet}
use Rattle.agm_net.specs.WellFormed.{IsFirstBad}
use Rattle.agm_net.specs.declared.net.NewNet.{NewNet}
use Rattle.agm_net.specs.declared.net.NewNet.TheVariants.{Bad, Memory}

-- the number tells what is wrong; of memory nothing is said
abbrev pub Refuses : PlainNet → NewNet → Type 0
Refuses net (Bad w) = IsFirstBad net w
Refuses net Memory = Unit {0}
