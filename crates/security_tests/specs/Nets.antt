-- Small nets with two shares of a bit x, small enough to count all of their runs.
use Rattle.std.specs.Prelude.{ℕ, Bool, not, List, [], ◌∷◌, ◌++◌, Some, None, codes}
use Rattle.agm_net.specs.Formula.{Formula, f_wire, f_xor, xor}
use Rattle.agm_net.specs.Plain.{Line, PlainNet, Stored}
use Rattle.agm_net.specs.Trace.{Row, bit_at}
use Rattle.agm_net.specs.declared.port.Port.{Port}
use Rattle.agm_net.specs.declared.port.Way.{Way}
use Rattle.agm_net.specs.declared.port.Way.TheVariants.{Input}
use Rattle.probe_cones.specs.declared.probe.Probe.{Probe}
use Rattle.twin_tape.specs.Security.{Secrets}

abbrev pub one_bit : List ℕ → Way → ℕ → Port
one_bit name way wire = record { name = name; way = way; range = None; bits = wire ∷ [] }

abbrev pub probe : ℕ → ℕ → Probe
probe wire cycle = record { wire = wire; cycle = cycle }

-- the ports of the shares of x, of one random bit, and of the clock
abbrev pub inputs : List Port
inputs =
    one_bit (codes "agm_clk") Input 0 ∷ one_bit (codes "agm_r") Input 1 ∷ one_bit (codes "agm_s0_x") Input 2 ∷ one_bit (codes "agm_s1_x") Input 3 ∷ []

abbrev pub input_names : List (List ℕ)
input_names = codes "agm_clk" ∷ codes "agm_r" ∷ codes "agm_s0_x" ∷ codes "agm_s1_x" ∷ []

-- a net with these inputs
abbrev pub on_inputs : List (List ℕ) → List Line → List Stored → PlainNet
on_inputs wires lines registers =
    record { ports = inputs; wires = wires; lines = lines; registers = registers; clock = Some 0 }

abbrev pub register : ℕ → Formula → Stored
register q next = record { q = q; next = next; clock = 0 }

-- share 0 with the random bit added, and stored
abbrev pub stored_net : PlainNet
stored_net = on_inputs (input_names ++ codes "agm_d0.q" ∷ []) [] (register 4 (f_xor (f_wire 2) (f_wire 1)) ∷ [])

-- both shares with the random bit added, in one equation: the value is that of x, and steps lead to it from both shares
abbrev pub joined_net : PlainNet
joined_net = on_inputs (input_names ++ codes "agm_p.y" ∷ []) ((4, f_xor (f_xor (f_wire 2) (f_wire 1)) (f_xor (f_wire 3) (f_wire 1))) ∷ []) []

-- x and the random bit, added in two steps: the sum of share 0 and the random bit is stored, and so is the sum of that and share 1
abbrev pub masked_net : PlainNet
masked_net =
    on_inputs (input_names ++ codes "agm_d0.y" ∷ codes "agm_d0.q" ∷ codes "agm_p.y" ∷ codes "agm_p.q" ∷ [])
    ((4, f_xor (f_wire 2) (f_wire 1)) ∷ (6, f_xor (f_wire 5) (f_wire 3)) ∷ []) (register 5 (f_wire 4) ∷ register 7 (f_wire 6) ∷ [])

-- a tape of one cycle with these shares
abbrev pub shares : Bool → Bool → List Row
shares a b = (a ∷ b ∷ []) ∷ []

-- whether the shares in the first cycle of a tape add to v, and v as the secret in each cycle
abbrev pub adds_to : Bool → List Row → Bool
adds_to v inputs = not (xor (xor (bit_at inputs 0 0) (bit_at inputs 0 1)) v)

abbrev pub always : Bool → Secrets
always v t s = v

-- share 0 of x, and nothing else
abbrev pub share_net : PlainNet
share_net = record {
  ports = one_bit (codes "agm_s0_x") Input 0 ∷ [];
  wires = codes "agm_s0_x" ∷ [];
  lines = [];
  registers = [];
  clock = None;
}
