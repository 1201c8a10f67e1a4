-- What is printed of two runs side by side.
use Rattle.std.specs.Prelude.{◌++◌, ℕ, List, [], ◌∷◌, Option, Some, None, map, slice_get, codes}
use Rattle.std.specs.List.{flat_map}
use Rattle.agm_net.specs.Trace.{Row}
use Rattle.agm_net.specs.declared.port.Port.{Port}
use Rattle.sim_text.specs.Text.{digit, step_head}
use Rattle.side_by_side.specs.declared.pairs.Pair.{Pair}

abbrev pub bits_text : Row → List ℕ
bits_text row = map digit row

-- rows, each behind a comma
abbrev pub listed : List Row → List ℕ
listed rows = flat_map (λ r. 44 ∷ bits_text r) rows

-- rows with commas between them
abbrev pub joined : List Row → List ℕ
joined [] = []
joined (r ∷ rs) = bits_text r ++ listed rs

abbrev name_in : Option Port → List ℕ
name_in None = []
name_in (Some p) = p.name

-- the name of the port of a number
abbrev pub port_name : List Port → ℕ → List ℕ
port_name ports n = name_in (slice_get ports n)

-- `name=original:recombined`
abbrev pub values_text : List Port → Pair → List ℕ
values_text ports p = port_name ports p.port ++ (61 ∷ (bits_text p.plain ++ (58 ∷ bits_text p.masked)))

-- `stream s step k name=original:recombined shares share,share` and a line feed
abbrev pub pair_line : List Port → Pair → List ℕ
pair_line ports p = step_head p.stream p.step ++ (32 ∷ (values_text ports p ++ (codes " shares " ++ (joined p.shares ++ 10 ∷ []))))

-- the lines of pairs, in order
abbrev pub pairs_text : List Port → List Pair → List ℕ
pairs_text ports pairs = flat_map (pair_line ports) pairs
