use Rattle.hpc2_audit.proofs.OneReading.{one_reading}
use Rattle.hpc2_audit.proofs.spelled.one_reading.Goals as goal

pub returns : goal.returns
returns c = one_reading
