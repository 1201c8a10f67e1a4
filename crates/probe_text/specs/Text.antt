-- What is printed of probes.
use Rattle.std.specs.Prelude.{◌≡◌, ◌<◌, ◌++◌, ◌∷◌, ℕ, List, [], All, map, codes, slice_index_or}
use Rattle.std.specs.List.{flat_map, enumerate_from}
use Rattle.std.specs.Fmt.{decimal}
use Rattle.agm_net.specs.Plain.{PlainNet}
use Rattle.agm_net.specs.Trace.{Row}
use Rattle.agm_net.specs.declared.label.Label.{Label}
use Rattle.probe_cones.specs.Cone.{cone}
use Rattle.probe_cones.specs.declared.probe.Probe.{Probe}
use Rattle.probe_cones.specs.declared.probe.Probes.{Probes}
use Rattle.sim_text.specs.Text.{digit}
use Rattle.twin_tape.specs.Allowed.{allowed}

-- ` i`
abbrev pub index_text : ℕ → List ℕ
index_text i = 32 ∷ decimal i

-- `allowed:` with each index
abbrev pub allowed_line : List ℕ → List ℕ
allowed_line indices = codes "allowed:" ++ (flat_map index_text indices ++ 10 ∷ [])

-- ` name` for a wire
abbrev pub wire_text : (names : List (List ℕ)) → ℕ → List ℕ
wire_text names w = 32 ∷ slice_index_or names w []

-- `probe n wire cycle t:` for the probe at place n
abbrev pub probe_head : (names : List (List ℕ)) → ℕ → Probe → List ℕ
probe_head names n p =
    codes "probe " ++ (decimal n ++ (wire_text names p.wire ++ (codes " cycle " ++ (decimal p.cycle ++ codes ":"))))

-- the line of a probe: its head, and each wire of its cone
abbrev pub probe_line : PlainNet → ℕ × Probe → List ℕ
probe_line net p =
    probe_head net.wires p.0 p.1 ++ (flat_map (wire_text net.wires) (cone net p.1.wire) ++ 10 ∷ [])

-- the lines of all probes, and the indices that they permit in a run of T cycles
abbrev pub cones_text : PlainNet → (order : ℕ) → (ℕ → Label) → Probes → (T : ℕ) → List ℕ
cones_text net order label asked T =
    flat_map (probe_line net) (enumerate_from 0 asked.probes)
    ++ allowed_line (allowed order label asked.probes asked.indices T)

-- The text of the cones of probes and of the permitted indices. These are the same in all runs that are long enough.
abbrev pub IsConesText : PlainNet → (order : ℕ) → (ℕ → Label) → Probes → List ℕ → Type 0
IsConesText net order label asked text =
    (T : ℕ) → All (λ p. p.cycle < T) asked.probes → text ≡ cones_text net order label asked T

-- a row of bits from the first, or `-` for none
abbrev pub row_text : Row → List ℕ
row_text [] = 45 ∷ []
row_text (b ∷ bs) = map digit (b ∷ bs)

-- a word, each row of a tape behind a blank, and a line feed
abbrev pub tape_line : (word : List ℕ) → List Row → List ℕ
tape_line word rows = word ++ (flat_map (λ row. 32 ∷ row_text row) rows ++ 10 ∷ [])

-- a word, a blank, what is seen in a world, and a line feed
abbrev pub seen_line : (word : List ℕ) → Row → List ℕ
seen_line word seen = word ++ (32 ∷ (map digit seen ++ 10 ∷ []))

-- The permitted indices, a tape of random bits and its twin, and what is seen in each of the two worlds.
abbrev pub twin_text : (indices : List ℕ) → (random twin : List Row) → (first second : Row) → List ℕ
twin_text indices random twin first second =
    allowed_line indices
    ++ (tape_line (codes "random:") random
    ++ (tape_line (codes "twin:") twin
    ++ (seen_line (codes "first:") first ++ seen_line (codes "second:") second)))
