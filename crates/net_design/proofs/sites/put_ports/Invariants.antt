use Rattle.std.proofs.Common.{◌≡◌, fold, take}
use Rattle.net_design.specs.Sites.{all_sites, put}
use Rattle.net_design.proofs.sites.put_ports.Given as goal

abbrev pub invariant-loop-number : goal.invariant-loop-number
invariant-loop-number l = l.sites ≡ fold put l.initial.sites (all_sites (take l.number l.ports))
