-- A worked example: a toggle, and a masked toggle that was made by hand.
use Rattle.std.specs.Prelude.{◌==◌, ℕ, List, [], ◌∷◌, Option, Some, None, map, codes}
use Rattle.agm_net.specs.Formula.{Formula, f_wire, f_not, f_and, f_xor, f_mux}
use Rattle.agm_net.specs.Plain.{Stored, PlainNet}
use Rattle.agm_net.specs.Trace.{Row}
use Rattle.agm_net.specs.declared.mark.Mark.{Mark}
use Rattle.agm_net.specs.declared.mark.Mark.TheVariants.{Unmarked, Secure, Clock}
use Rattle.agm_net.specs.declared.port.Way.{Way}
use Rattle.agm_net.specs.declared.port.Way.TheVariants.{Input, Output}
use Rattle.agm_net.specs.declared.port.Range.{Range}
use Rattle.agm_net.specs.declared.port.Port.{Port}
use Rattle.share_wiring.specs.Schedule.{Stream}
use Rattle.share_wiring.specs.declared.report.Report.{Report}
use Rattle.share_wiring.specs.declared.report.Mode.TheVariants.{Naive}
use Rattle.share_wiring.specs.declared.report.Balance.TheVariants.{Pipe}

-- a port of one bit
abbrev pub port : List ℕ → Way → Option Range → ℕ → Port
port name way range wire = record { name = name; way = way; range = range; bits = wire ∷ [] }

-- the range [0:0]
abbrev pub one_wide : Option Range
one_wide = Some (record { msb = 0; lsb = 0 })

-- a register with the clock 0
abbrev pub stores : ℕ → Formula → Stored
stores q next = record { q = q; next = next; clock = 0 }

-- bits written as the digits 0 and 1
abbrev pub bits : List ℕ → Row
bits digits = map (λ c. c == 49) digits

-- ---- the toggle: in each cycle q becomes q ^ (x & y)

abbrev pub toggle : PlainNet
toggle = record {
  ports = port (codes "clk") Input None 0 ∷ port (codes "x") Input None 1 ∷ port (codes "y") Input None 2 ∷ port (codes "q") Output None 3 ∷ [];
  wires = codes "clk" ∷ codes "x" ∷ codes "y" ∷ codes "q" ∷ codes "t" ∷ codes "n" ∷ [];
  lines = (4, f_and (f_wire 1) (f_wire 2)) ∷ (5, f_xor (f_wire 3) (f_wire 4)) ∷ [];
  registers = stores 3 (f_wire 5) ∷ [];
  clock = Some 0;
}

-- x and y are secret
abbrev pub toggle_marks : List Mark
toggle_marks = Clock ∷ Secure ∷ Secure ∷ Unmarked ∷ []

-- x and y in four cycles
abbrev pub toggle_tape : List Row
toggle_tape = bits (codes "11") ∷ bits (codes "10") ∷ bits (codes "11") ∷ bits (codes "01") ∷ []

-- clk, x, y, q, t and n in these cycles, from q = 0 on
abbrev pub toggle_table : List Row
toggle_table = bits (codes "011011") ∷ bits (codes "010101") ∷ bits (codes "011110") ∷ bits (codes "001000") ∷ []

-- ---- the toggle masked at order 1, with one gadget of latency 2

abbrev pub toggle_report : Report
toggle_report = record {
  order = 1;
  mode = Naive;
  balance = Pipe;
  gadgets = 1;
  random = 1;
  latency = 2;
  period = 3;
  streams = 3;
  public_registers = 0;
  secret_registers = 1;
  ports = codes "x" ∷ codes "y" ∷ codes "q" ∷ [];
}

abbrev pub masked_ports : List Port
masked_ports =
    port (codes "agm_clk") Input None 0 ∷ port (codes "agm_load") Input None 1 ∷ port (codes "agm_r") Input one_wide 2 ∷ port (codes "agm_q_s0") Input one_wide 3 ∷
    port (codes "agm_q_s1") Input one_wide 4 ∷ port (codes "agm_s0_x") Input None 5 ∷ port (codes "agm_s1_x") Input None 6 ∷ port (codes "agm_s0_y") Input None 7 ∷
    port (codes "agm_s1_y") Input None 8 ∷ port (codes "agm_s0_q") Output None 9 ∷ port (codes "agm_s1_q") Output None 10 ∷ []

abbrev pub masked_wires : List (List ℕ)
masked_wires =
    codes "agm_clk" ∷ codes "agm_load" ∷ codes "agm_r[0]" ∷ codes "agm_q_s0[0]" ∷ codes "agm_q_s1[0]" ∷ codes "agm_s0_x" ∷
    codes "agm_s1_x" ∷ codes "agm_s0_y" ∷ codes "agm_s1_y" ∷ codes "agm_s0_q" ∷ codes "agm_s1_q" ∷ codes "agm_d0.q" ∷
    codes "agm_d1.q" ∷ codes "agm_d0.q1" ∷ codes "agm_d1.q1" ∷ codes "agm_d0.x1" ∷ codes "agm_d1.x1" ∷ codes "agm_g0.rr_0_1" ∷
    codes "agm_g0.bb_0" ∷ codes "agm_g0.bb_1" ∷ codes "agm_g0.v_0_1" ∷ codes "agm_g0.v_1_0" ∷ codes "agm_g0.u_0_1" ∷ codes "agm_g0.u_1_0" ∷
    codes "agm_g0.w_0_1" ∷ codes "agm_g0.w_1_0" ∷ codes "agm_g0.m_0" ∷ codes "agm_g0.m_1" ∷ codes "agm_d0.t" ∷ codes "agm_d1.t" ∷ []

abbrev pub masked_lines : List (ℕ × Formula)
masked_lines = (28, f_xor (f_xor (f_wire 26) (f_wire 22)) (f_wire 24)) ∷ (29, f_xor (f_xor (f_wire 27) (f_wire 23)) (f_wire 25)) ∷ []

abbrev pub masked_registers : List Stored
masked_registers =
    stores 9 (f_wire 13) ∷ stores 10 (f_wire 14) ∷ stores 11 (f_mux (f_wire 1) (f_xor (f_wire 9) (f_wire 28)) (f_wire 3)) ∷ stores 12 (f_mux (f_wire 1) (f_xor (f_wire 10) (f_wire 29)) (f_wire 4)) ∷
    stores 13 (f_wire 11) ∷ stores 14 (f_wire 12) ∷ stores 15 (f_wire 5) ∷ stores 16 (f_wire 6) ∷
    stores 17 (f_wire 2) ∷ stores 18 (f_wire 7) ∷ stores 19 (f_wire 8) ∷ stores 20 (f_xor (f_wire 8) (f_wire 2)) ∷
    stores 21 (f_xor (f_wire 7) (f_wire 2)) ∷ stores 22 (f_and (f_not (f_wire 15)) (f_wire 17)) ∷ stores 23 (f_and (f_not (f_wire 16)) (f_wire 17)) ∷ stores 24 (f_and (f_wire 15) (f_wire 20)) ∷
    stores 25 (f_and (f_wire 16) (f_wire 21)) ∷ stores 26 (f_and (f_wire 15) (f_wire 18)) ∷ stores 27 (f_and (f_wire 16) (f_wire 19)) ∷ []

-- The state passes three registers in a round, and three streams are in it. Where the load signal is 1 the first of them takes an
-- initial state. x waits one cycle for the gadget, in which y is masked.
abbrev pub masked_toggle : PlainNet
masked_toggle = record {
  ports = masked_ports;
  wires = masked_wires;
  lines = masked_lines;
  registers = masked_registers;
  clock = Some 0;
}

-- three streams of two steps
abbrev pub toggle_streams : List Stream
toggle_streams =
    record { initial = bits (codes "0"); steps = bits (codes "11") ∷ bits (codes "10") ∷ [] } ∷
    record { initial = bits (codes "1"); steps = bits (codes "01") ∷ bits (codes "11") ∷ [] } ∷
    record { initial = bits (codes "1"); steps = bits (codes "11") ∷ bits (codes "11") ∷ [] } ∷ []

-- power-up contents of no meaning
abbrev pub masked_power : Row
masked_power = bits (codes "1010001000011000100")

-- the load signal, a random bit, the shares of an initial state, of x and of y, in nine cycles
abbrev pub masked_tape : List Row
masked_tape =
    bits (codes "10110001") ∷ bits (codes "10010101") ∷ bits (codes "10011110") ∷ bits (codes "01100101") ∷ bits (codes "01110111") ∷
    bits (codes "00110110") ∷ bits (codes "01100110") ∷ bits (codes "01111101") ∷ bits (codes "00010010") ∷ []

-- all wires in these cycles
abbrev pub masked_table : List Row
masked_table =
    bits (codes "010110001101000100001100010001") ∷ bits (codes "010010101001110000011000100010") ∷ bits (codes "010011110100111010011000000000") ∷
    bits (codes "001100101110101110100100000101") ∷ bits (codes "001110111011001011010100011011") ∷ bits (codes "000110110011010011110010010110") ∷
    bits (codes "001100110101110010100110000111") ∷ bits (codes "001111101100111011101000010001") ∷ bits (codes "000010010111101111010110000010") ∷ []
