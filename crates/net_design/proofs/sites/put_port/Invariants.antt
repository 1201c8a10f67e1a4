use Rattle.std.proofs.Common.{◌≡◌, fold, map, take}
use Rattle.std.specs.List.{enumerate_from}
use Rattle.net_design.specs.Sites.{bit_site, put}
use Rattle.net_design.proofs.sites.put_port.Given as goal

abbrev pub invariant-loop-i : goal.invariant-loop-i
invariant-loop-i l = l.sites ≡ fold put l.initial.sites (map (bit_site l.number l.port.range) (enumerate_from 0 (take l.i l.port.bits)))
