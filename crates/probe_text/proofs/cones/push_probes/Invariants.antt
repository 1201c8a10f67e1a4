use Rattle.std.proofs.Common.{◌≡◌, ◌++◌, take}
use Rattle.std.specs.List.{flat_map, enumerate_from}
use Rattle.agm_net.specs.View.{plain_of}
use Rattle.probe_text.specs.Text.{probe_line}
use Rattle.probe_text.proofs.cones.push_probes.Given as goal

abbrev pub invariant-loop-place : goal.invariant-loop-place
invariant-loop-place l = l.text ≡ l.initial.text ++ flat_map (probe_line (plain_of l.net)) (enumerate_from 0 (take l.place l.probes))
