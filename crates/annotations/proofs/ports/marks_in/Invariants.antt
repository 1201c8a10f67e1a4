use Rattle.std.proofs.Common.{◌≡◌, take, map}
use Rattle.annotations.specs.Asked.{mark_in}
use Rattle.annotations.proofs.ports.marks_in.Given as goal

abbrev pub invariant-loop-port : goal.invariant-loop-port
invariant-loop-port l = l.kinds ≡ map (λ f. mark_in f.marks) (take l.port-index l.facts)
