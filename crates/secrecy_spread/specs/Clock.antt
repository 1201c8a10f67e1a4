-- The mark of the clock's port.
use Rattle.std.specs.Prelude.{◌≡◌, ◌≢◌, ℕ, List, Some, slice_get}
use Rattle.agm_net.specs.Plain.{PlainNet}
use Rattle.agm_net.specs.declared.mark.Mark.{Mark}
use Rattle.agm_net.specs.declared.mark.Mark.TheVariants.{Secure}

-- the clock's port, where there is one, is not marked secure
abbrev pub ClockIsOpen : PlainNet → List Mark → Type 0
ClockIsOpen net marks = (c : ℕ) → net.clock ≡ Some c → slice_get marks c ≢ Some Secure
