-- Shares, and what they recombine to.
use Rattle.std.specs.Prelude.{ℕ, zero, suc, Bool, false, cond, List, [], ◌∷◌, map, filter}
use Rattle.std.specs.List.{flat_map, list_any}
use Rattle.std.specs.Str.{bytes_eq}
use Rattle.agm_net.specs.Formula.{xor}
use Rattle.agm_net.specs.Plain.{PlainNet}
use Rattle.agm_net.specs.Role.{share_name}
use Rattle.share_wiring.specs.declared.report.Report.{Report}

-- the exclusive or of the bits below n
abbrev pub xor_below : ℕ → (ℕ → Bool) → Bool
xor_below zero bit = false
xor_below (suc n) bit = xor (xor_below n bit) (bit n)

abbrev pub xor_rows : List Bool → List Bool → List Bool
xor_rows [] ys = []
xor_rows (x ∷ xs) [] = []
xor_rows (x ∷ xs) (y ∷ ys) = xor x y ∷ xor_rows xs ys

-- what the rows 0 to d recombine to, bit by bit
abbrev pub recombined_rows : ℕ → (ℕ → List Bool) → List Bool
recombined_rows zero row = row 0
recombined_rows (suc d) row = xor_rows (recombined_rows d row) (row (suc d))

-- the bits of the port of a name, from the most significant
abbrev pub port_value : PlainNet → List ℕ → (ℕ → Bool) → List Bool
port_value net name bit = flat_map (λ p. map bit p.bits) (filter (λ p. bytes_eq p.name name) net.ports)

-- whether a port of the original is shared in the masked net
abbrev pub is_shared : Report → List ℕ → Bool
is_shared report name = list_any (λ n. bytes_eq n name) report.ports

-- the value that a masked net has for a port of the original: what its shares 0 to d recombine to, or its own bits where it is public
abbrev pub masked_value : PlainNet → Report → List ℕ → (ℕ → Bool) → List Bool
masked_value net report name bit =
    cond (is_shared report name) (recombined_rows report.order (λ i. port_value net (share_name i name) bit)) (port_value net name bit)
