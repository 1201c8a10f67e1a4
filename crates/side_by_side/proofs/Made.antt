-- Pairs by the wires that are watched.
use Rattle.std.proofs.Common.{◌≡◌, ◌+◌, ◌++◌, ℕ, Bool, true, false, cond, List, [], ◌∷◌, map, filter, refl, ap, ap₂, ◌∙◌}
use Rattle.std.specs.List.{range_with_len, flat_map}
use Rattle.std.specs.Str.{bytes_eq}
use Rattle.std.proofs.lemmas.List.{map-append}
use Rattle.agm_net.specs.Plain.{PlainNet}
use Rattle.agm_net.specs.Role.{share_name}
use Rattle.agm_net.specs.Trace.{Row}
use Rattle.agm_net.specs.declared.port.Port.{Port}
use Rattle.share_wiring.specs.Recombine.{is_shared, port_value, masked_value, recombined_rows}
use Rattle.share_wiring.specs.Shape.{indices}
use Rattle.share_wiring.specs.declared.report.Report.{Report}
use Rattle.side_by_side.specs.Pairs.{port_rows, pair_of, wires_named, share_wires, watched_of, rows_in, recombine, pair_by}
use Rattle.side_by_side.proofs.Added.{recombines}

map_joined : (bit : ℕ → Bool) (ps : List Port) → map bit (flat_map (λ p. p.bits) ps) ≡ flat_map (λ p. map bit p.bits) ps
map_joined bit [] = refl
map_joined bit (p ∷ ps) = map-append bit p.bits (flat_map (λ q. q.bits) ps) ∙ ap (λ xs. map bit p.bits ++ xs) (map_joined bit ps)

value_is : (net : PlainNet) (name : List ℕ) (bit : ℕ → Bool) → map bit (wires_named net name) ≡ port_value net name bit
value_is net name bit = map_joined bit (filter (λ p. bytes_eq p.name name) net.ports)

each_value : (net : PlainNet) (name : List ℕ) (bit : ℕ → Bool) (is : List ℕ) → rows_in bit (map (λ i. wires_named net (share_name i name)) is) ≡ map (λ i. port_value net (share_name i name) bit) is
each_value net name bit [] = refl
each_value net name bit (i ∷ is) = ap₂ (λ r rs. r ∷ rs) (value_is net (share_name i name) bit) (each_value net name bit is)

rows_by : (shared : Bool) (net : PlainNet) (name : List ℕ) (bit : ℕ → Bool) (is : List ℕ)
    → rows_in bit (cond shared (map (λ i. wires_named net (share_name i name)) is) (wires_named net name ∷ [])) ≡ cond shared (map (λ i. port_value net (share_name i name) bit) is) (port_value net name bit ∷ [])
rows_by true net name bit is = each_value net name bit is
rows_by false net name bit is = ap (λ r. r ∷ []) (value_is net name bit)

value_by : (shared : Bool) (d : ℕ) (row : ℕ → Row) (own : Row) → recombine (cond shared (map row (range_with_len 0 (d + 1))) (own ∷ [])) ≡ cond shared (recombined_rows d row) own
value_by true d row own = recombines d row
value_by false d row own = refl

pub pair_is : (report : Report) (net : PlainNet) (s k : ℕ) (own masked : ℕ → Bool) (item : ℕ × Port) → pair_by s k own masked (watched_of report net item) ≡ pair_of report net s k own masked item
pair_is report net s k own masked item =
    let name = item.1.name in
    let rows : rows_in masked (share_wires net report name) ≡ port_rows net report name masked = rows_by (is_shared report name) net name masked (indices report.order) in
    let value : recombine (rows_in masked (share_wires net report name)) ≡ masked_value net report name masked =
    ap recombine rows ∙ value_by (is_shared report name) report.order (λ i. port_value net (share_name i name) masked) (port_value net name masked) in
    ap₂ (λ m rs. record { stream = s; step = k; port = item.0; plain = map own item.1.bits; masked = m; shares = rs }) value rows

pub pairs_are : (report : Report) (net : PlainNet) (s k : ℕ) (own masked : ℕ → Bool) (items : List (ℕ × Port)) → map (pair_by s k own masked) (map (watched_of report net) items) ≡ map (pair_of report net s k own masked) items
pairs_are report net s k own masked [] = refl
pairs_are report net s k own masked (item ∷ items) = ap₂ (λ p ps. p ∷ ps) (pair_is report net s k own masked item) (pairs_are report net s k own masked items)
