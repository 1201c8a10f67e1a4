-- Which answer is right for bytes.
use Rattle.std.specs.Prelude.{◌≡◌, ◌≢◌, ◌⊎◌, ℕ, List, map, position, unwrap_or, Option, Some, None, Result, Ok, Err}
use Rattle.std.specs.Str.{bytes_eq}
use Rattle.serde_json.specs.Data.{Data}
use Rattle.probe_lists.specs.Asked.{first_fault}
use Rattle.probe_lists.specs.Written.{list_data}
use Rattle.probe_lists.specs.declared.fault.ProbeCause.TheVariants.{Json, Shape}
use Rattle.probe_lists.specs.declared.fault.ProbeFault.{ProbeFault}
use Rattle.probe_lists.specs.declared.fault.ProbeFault.TheVariants.{Bad, Memory}
use Rattle.probe_cones.specs.declared.probe.Probe.{Probe}
use Rattle.probe_cones.specs.declared.probe.Probes.{Probes}
use Rattle.probe_lists.specs.declared.texts.ListText.{ListText}
use Rattle.probe_lists.specs.declared.texts.ProbeText.{ProbeText}

-- the number of the wire that has a name, where there is one
abbrev pub wire_of : List (List ℕ) → List ℕ → ℕ
wire_of wires name = unwrap_or (position (λ n. bytes_eq n name) wires) 0

abbrev pub probe_of : List (List ℕ) → ProbeText → Probe
probe_of wires p = record { wire = wire_of wires p.wire; cycle = p.cycle }

abbrev pub probes_of : List (List ℕ) → ListText → Probes
probes_of wires t = record { probes = map (probe_of wires) t.probes; indices = t.indices }

-- the first fault, or the probes
abbrev pub judged : Option ProbeFault → Probes → Result Probes ProbeFault
judged (Some fault) probes = Err fault
judged None probes = Ok probes

-- The answer for a JSON value, of bytes that may have none, over the names of a net's wires and an order.
abbrev pub Answers : List (List ℕ) → ℕ → Option Data → Result Probes ProbeFault → Type 0
Answers wires order None result = (result ≡ Err Memory) ⊎ (result ≡ Err (Bad Json 0))
Answers wires order (Some d) result =
    ((result ≡ Err Memory) ⊎ ((result ≡ Err (Bad Shape 0)) × ((t : ListText) → d ≢ list_data t)))
    ⊎ ((t : ListText) × (d ≡ list_data t) × (result ≡ judged (first_fault wires order t) (probes_of wires t)))
