-- Where two tapes without `agm_r` differ in a public bit or in a share of a listed index.
use Rattle.std.specs.Prelude.{◌==◌, ◌+◌, ◌++◌, ◌∷◌, [], ℕ, zero, suc, Bool, false, not, ◌&&◌, ◌||◌, cond, List, Option, Some, None, codes, drop, length, map}
use Rattle.std.specs.List.{range_with_len}
use Rattle.std.specs.Str.{bytes_eq}
use Rattle.agm_net.specs.Formula.{xor}
use Rattle.agm_net.specs.Plain.{PlainNet, is_input}
use Rattle.agm_net.specs.Trace.{Row}
use Rattle.agm_net.specs.declared.port.Port.{Port}
use Rattle.probe_cones.specs.Inputs.{BitRole, bit_role, first_bit}
use Rattle.twin_tape.specs.Security.{sees}
use Rattle.twin_tape.specs.declared.agreement.Agreement.{Agreement}
use Rattle.twin_tape.specs.declared.agreement.Agreement.TheVariants.{Agreed, Differs}

-- whether a port of this number has no column: the clock's, an output, or that of the random bits
abbrev pub is_clock : Option ℕ → ℕ → Bool
is_clock None n = false
is_clock (Some c) n = c == n

abbrev pub lacks_columns : Option ℕ → ℕ → Port → Bool
lacks_columns clock n p = is_clock clock n || (not (is_input p) || bytes_eq p.name (codes "agm_r"))

-- a column of a tape: the number of its port, and its role
abbrev pub Column : Type 0
Column = ℕ × BitRole

abbrev pub port_columns : Option ℕ → ℕ → Port → List Column
port_columns clock n p = cond (lacks_columns clock n p) [] (map (λ place. (n, bit_role p.name place)) (range_with_len 0 (length p.bits)))

-- the columns of some ports, which are numbered from n on, and those of a net
abbrev pub columns_from : Option ℕ → ℕ → List Port → List Column
columns_from clock n [] = []
columns_from clock n (p ∷ ps) = port_columns clock n p ++ columns_from clock (n + 1) ps

abbrev pub columns : PlainNet → List Column
columns net = columns_from net.clock 0 net.ports

-- the port of the first column that is public or of a listed share and in which two rows differ
abbrev pub first_difference : List ℕ → List Column → Row → Row → Option ℕ
first_difference indices [] a b = None
first_difference indices (c ∷ cs) a b =
    cond (sees indices c.1 && xor (first_bit a) (first_bit b)) (Some c.0) (first_difference indices cs (drop 1 a) (drop 1 b))

abbrev pub told : ℕ → Option ℕ → Agreement → Agreement
told t (Some p) later = Differs t p
told t None later = later

-- the first cycle, counted from t, and in it the first port, at which two tapes differ so
abbrev pub agreement : List ℕ → List Column → ℕ → List Row → List Row → Agreement
agreement indices cs t [] second = Agreed
agreement indices cs t (a ∷ first) [] = Agreed
agreement indices cs t (a ∷ first) (b ∷ second) = told t (first_difference indices cs a b) (agreement indices cs (t + 1) first second)

-- whether two rows differ in one of so many bits
abbrev pub differ_in : ℕ → Row → Row → Bool
differ_in zero a b = false
differ_in (suc n) a b = xor (first_bit a) (first_bit b) || differ_in n (drop 1 a) (drop 1 b)

-- whether they differ in a column of a port that is public or of a listed share
abbrev pub port_differs : List ℕ → Option ℕ → ℕ → Port → Row → Row → Bool
port_differs indices clock n p a b = cond (lacks_columns clock n p) false (sees indices (bit_role p.name 0) && differ_in (length p.bits) a b)
