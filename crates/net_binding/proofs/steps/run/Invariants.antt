use Rattle.std.proofs.Common.{◌++◌}
use Rattle.bound_items.specs.State.{state_of}
use Rattle.net_binding.specs.Ready.{plain_parts}
use Rattle.net_binding.specs.Rest.{rest_of, Goes}
use Rattle.net_binding.proofs.steps.run.Given as goal

abbrev pub invariant-loop-turn : goal.invariant-loop-turn
invariant-loop-turn l =
    Goes (state_of l.initial.walker.netlist) (rest_of (plain_parts l.parts.modules.now (l.parts.known.now ++ l.parts.library.now)) l.initial.walker)
    (state_of l.walker.netlist) (rest_of (plain_parts l.parts.modules.now (l.parts.known.now ++ l.parts.library.now)) l.walker)
