-- Two nets with two shares of one bit: one hands each share on, the other adds them.
use Rattle.std.specs.Prelude.{ℕ, List, [], ◌∷◌, codes, None}
use Rattle.agm_net.specs.Formula.{f_wire, f_xor}
use Rattle.agm_net.specs.Plain.{PlainNet, Line}
use Rattle.agm_net.specs.Role.{share_name}
use Rattle.agm_net.specs.declared.port.Port.{Port}
use Rattle.agm_net.specs.declared.port.Way.{Way}
use Rattle.agm_net.specs.declared.port.Way.TheVariants.{Input, Output}

-- the port of share i of a bit, which is one wire
abbrev pub share_port : ℕ → List ℕ → Way → ℕ → Port
share_port i name way wire = record { name = share_name i name; way = way; range = None; bits = wire ∷ [] }

-- a net with the shares of x at wires 0 and 1 and those of y at 2 and 3
abbrev pub with_lines : List Line → PlainNet
with_lines lines =
    record {
      ports = share_port 0 (codes "x") Input 0 ∷ share_port 1 (codes "x") Input 1 ∷ share_port 0 (codes "y") Output 2 ∷ share_port 1 (codes "y") Output 3 ∷ [];
      wires = share_name 0 (codes "x") ∷ share_name 1 (codes "x") ∷ share_name 0 (codes "y") ∷ share_name 1 (codes "y") ∷ [];
      lines = lines;
      registers = [];
      clock = None;
    }

abbrev pub apart : PlainNet
apart = with_lines ((2, f_wire 0) ∷ (3, f_wire 1) ∷ [])

abbrev pub added : PlainNet
added = with_lines ((2, f_xor (f_wire 0) (f_wire 1)) ∷ (3, f_wire 1) ∷ [])
