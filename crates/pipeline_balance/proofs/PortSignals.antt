-- The bits of ports, one by one.
use Rattle.std.proofs.Common.{◌≡◌, ℕ, zero, suc, Bool, true, false, List, [], ◌∷◌, map, filter, slice_get, Some, IsTrue, refl, sym, ap, ◌∙◌}
use Rattle.std.proofs.lemmas.Option.{get_or_from_slice_get}
use Rattle.agm_net.specs.Plain.{PlainNet, is_input, input_bits, data_ports}
use Rattle.agm_net.specs.Trace.{Row}
use Rattle.agm_net.specs.declared.port.Port.{Port}
use Rattle.logic_graph.specs.Settled.{bit_of}
use Rattle.agm_net.proofs.Lists.{get_image}
use Rattle.share_wiring.specs.Recombine.{masked_value}
use Rattle.share_wiring.specs.Schedule.{input_values}
use Rattle.share_wiring.specs.declared.report.Report.{Report}
use Rattle.share_wiring.proofs.Lists.{map_flat_map}
use Rattle.share_wiring.proofs.Driven.{filtered}
use Rattle.pipeline_balance.specs.Masked.{merged}
use Rattle.pipeline_balance.specs.Ranks.{secrets_before, publics_before}

-- the value of a secret register is that of its place among the secret ones
pub merged_secret : (ks : List Bool) (ps ss : Row) (r : ℕ) → slice_get ks r ≡ Some true → bit_of (merged ks ps ss) r ≡ bit_of ss (secrets_before ks r)
merged_secret [] ps ss r at = absurd (cc)
merged_secret (true ∷ ks) ps [] zero at = refl
merged_secret (true ∷ ks) ps (x ∷ ss) zero at = refl
merged_secret (false ∷ ks) ps ss zero at = absurd (let no : Some false ≡ Some true = at in cc)
merged_secret (true ∷ ks) ps [] (suc r) at = merged_secret ks ps [] r at
merged_secret (true ∷ ks) ps (x ∷ ss) (suc r) at = merged_secret ks ps ss r at
merged_secret (false ∷ ks) [] ss (suc r) at = merged_secret ks [] ss r at
merged_secret (false ∷ ks) (x ∷ ps) ss (suc r) at = merged_secret ks ps ss r at

-- and that of a public one its place among the public ones
pub merged_public : (ks : List Bool) (ps ss : Row) (r : ℕ) → slice_get ks r ≡ Some false → bit_of (merged ks ps ss) r ≡ bit_of ps (publics_before ks r)
merged_public [] ps ss r at = absurd (cc)
merged_public (true ∷ ks) ps ss zero at = absurd (let no : Some true ≡ Some false = at in cc)
merged_public (false ∷ ks) [] ss zero at = refl
merged_public (false ∷ ks) (x ∷ ps) ss zero at = refl
merged_public (true ∷ ks) ps [] (suc r) at = merged_public ks ps [] r at
merged_public (true ∷ ks) ps (x ∷ ss) (suc r) at = merged_public ks ps ss r at
merged_public (false ∷ ks) [] ss (suc r) at = merged_public ks [] ss r at
merged_public (false ∷ ks) (x ∷ ps) ss (suc r) at = merged_public ks ps ss r at

-- where each input port has what the original's wires are worth, so has each input bit
pub inputs_given : (original : PlainNet) (report : Report) (net : PlainNet) (bit worth : ℕ → Bool)
    → ((n : ℕ) (p : Port) → slice_get (data_ports original) n ≡ Some p → IsTrue (is_input p) → masked_value net report p.name bit ≡ map worth p.bits)
    → (i w : ℕ) → slice_get (input_bits original) i ≡ Some w → bit_of (input_values original report net bit) i ≡ worth w
inputs_given original report net bit worth each i w at =
    ap (λ row. bit_of row i) (filtered (λ (p : Port). masked_value net report p.name bit) (λ p. map worth p.bits) is_input (data_ports original) each
    ∙ sym (map_flat_map worth (λ p. p.bits) (filter is_input (data_ports original))))
    ∙ get_or_from_slice_get (map worth (input_bits original)) i (worth w) false (get_image worth (input_bits original) i w at)
