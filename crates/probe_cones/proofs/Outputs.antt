-- The output bits of a share index, port by port.
use Rattle.std.proofs.Common.{◌≡◌, ◌<◌, ◌+◌, ◌++◌, ◌∷◌, [], ℕ, zero, suc, arith, map, Bool, true, false, not, ◌&&◌, cond, List, length, take, get_or, filter, refl, ap, ◌∙◌}
use Rattle.std.specs.List.{All, flat_map}
use Rattle.std.proofs.lemmas.Option.{slice_get-get_or}
use Rattle.agm_net.proofs.Lists.{all_of_one}
use Rattle.agm_net.proofs.Wires.{ports_bits, some_bits}
use Rattle.agm_net.specs.WellFormed.{WellFormed}
use Rattle.probe_cones.specs.declared.probe.Probe.{Probe}
use Rattle.std.proofs.lemmas.Grind.{flat_map-append}
use Rattle.std.proofs.lemmas.List.{append-nil}
use Rattle.std.proofs.lemmas.List.Elements.{filter-append}
use Rattle.agm_net.specs.Plain.{PlainNet, is_input}
use Rattle.agm_net.specs.declared.port.Port.{Port}
use Rattle.probe_cones.specs.Cone.{output_bits_in, output_bits_of}
use Rattle.probe_cones.specs.Shares.{is_share}
use Rattle.probe_cones.proofs.Running.{row_more}

abbrev pub gives : ℕ → Port → Bool
gives i p = not (is_input p) && is_share i p.name

pub output_more : (i : ℕ) (ports : List Port) (k : ℕ) (p : Port) → k < length ports → p ≡ get_or ports k p → output_bits_in i (take (k + 1) ports) ≡ output_bits_in i (take k ports) ++ cond (gives i p) p.bits []
output_more i ports k p lt is =
    ap (output_bits_in i) (row_more ports k p lt is)
    ∙ (ap (flat_map (λ (q : Port). q.bits)) (filter-append (gives i) (take k ports) (p ∷ []))
    ∙ (flat_map-append (λ (q : Port). q.bits) (filter (gives i) (take k ports)) (filter (gives i) (p ∷ []))
    ∙ ap (λ bits. output_bits_in i (take k ports) ++ bits) (go (gives i p))))
  where
    go : (b : Bool) → flat_map (λ (q : Port). q.bits) (cond b (p ∷ []) []) ≡ cond b p.bits []
    go true = append-nil p.bits
    go false = refl

pub outputs_inside : (net : PlainNet) → WellFormed net → (i : ℕ) → All (λ w. w < length net.wires) (output_bits_of net i)
outputs_inside net well i = λ k d lt. (
    let bits = output_bits_of net i in
    all_of_one (λ w. w < length net.wires) bits k (get_or bits k d) (some_bits (length net.wires) (gives i) net.ports (ports_bits net well)) (slice_get-get_or bits k d lt))

pub wires_inside : (n : ℕ) (ps : List Probe) → All (λ p. p.wire < n) ps → All (λ w. w < n) (map (λ (p : Probe). p.wire) ps)
wires_inside n [] all k d lt = absurd (omega (arith, lt))
wires_inside n (p ∷ ps) all zero d lt = all 0 p (omega arith)
wires_inside n (p ∷ ps) all (suc k) d lt = wires_inside n ps (λ m e h. all (suc m) e (omega (arith, h))) k d (omega (arith, lt))
