use Rattle.std.proofs.Common.{◌≡◌, List, ◌++◌}
use Rattle.serde_json.specs.View.{members_view}
use Rattle.serde_json.proofs.Views.{Entry}
use Rattle.stimulus.specs.Written.{members_data}
use Rattle.stimulus.proofs.texts.read_members.Given as goal

abbrev pub invariant-loop-key : goal.invariant-loop-key
invariant-loop-key l = (done : List Entry) × (l.map.entries ≡ done ++ l.key-iterator) × (members_view done ≡ members_data l.step)
