-- What is asked of a list of probes, in order.
use Rattle.std.specs.Prelude.{◌==◌, ◌+◌, ◌^◌, ◌||◌, ℕ, Bool, not, nat_lt, List, [], ◌∷◌, length, map, take, Option, Some, None, if◌then◌else◌}
use Rattle.std.specs.List.{list_any, enumerate_from}
use Rattle.std.specs.Str.{bytes_eq}
use Rattle.probe_lists.specs.declared.fault.ProbeCause.TheVariants.{Wire, Cycle, Index, Count}
use Rattle.probe_lists.specs.declared.fault.ProbeFault.{ProbeFault}
use Rattle.probe_lists.specs.declared.fault.ProbeFault.TheVariants.{Bad}
use Rattle.probe_lists.specs.declared.texts.ListText.{ListText}
use Rattle.probe_lists.specs.declared.texts.ProbeText.{ProbeText}

-- the first that is there
abbrev pub first_of : List (Option ProbeFault) → Option ProbeFault
first_of [] = None
first_of (None ∷ rest) = first_of rest
first_of (Some fault ∷ rest) = Some fault

abbrev pub is_wire : List (List ℕ) → List ℕ → Bool
is_wire wires name = list_any (λ n. bytes_eq n name) wires

-- what is wrong with a probe at its place: there is no such wire, or the cycle is not below 2^20
abbrev pub probe_fault : List (List ℕ) → ℕ × ProbeText → Option ProbeFault
probe_fault wires p = if not (is_wire wires p.1.wire) then Some (Bad Wire p.0) else (if nat_lt p.1.cycle (2 ^ 20) then None else Some (Bad Cycle p.0))

-- what is wrong with an index at its place: it is above the order, or stands before
abbrev pub index_fault : ℕ → List ℕ → ℕ × ℕ → Option ProbeFault
index_fault order indices i = if nat_lt order i.1 || list_any (λ n. n == i.1) (take i.0 indices) then Some (Bad Index i.0) else None

-- probes and indices are together more than the order
abbrev pub count_fault : ℕ → ListText → Option ProbeFault
count_fault order t = if nat_lt order (length t.probes + length t.indices) then Some (Bad Count 0) else None

abbrev pub first_bad_probe : List (List ℕ) → List ProbeText → Option ProbeFault
first_bad_probe wires probes = first_of (map (probe_fault wires) (enumerate_from 0 probes))

abbrev pub first_bad_index : ℕ → List ℕ → Option ProbeFault
first_bad_index order indices = first_of (map (index_fault order indices) (enumerate_from 0 indices))

-- probe by probe, then index by index, then their number
abbrev pub first_fault : List (List ℕ) → ℕ → ListText → Option ProbeFault
first_fault wires order t = first_of (first_bad_probe wires t.probes ∷ first_bad_index order t.indices ∷ count_fault order t ∷ [])
