use Rattle.probe_lists.proofs.OneList.{one_read, read_not_bad}
use Rattle.probe_lists.proofs.laws.one_list.Goals as goal

pub returns-clause-read : goal.returns-clause-read
returns-clause-read c = one_read

pub returns-clause-not_bad : goal.returns-clause-not_bad
returns-clause-not_bad c = read_not_bad
