-- What the twin changes in a cycle, by a plan, the table of the first run, and the bits of the second one in the cycle.
use Rattle.std.specs.Prelude.{ℕ, ◌+◌, ◌-◌, ◌==◌, Bool, false, ◌&&◌, cond, drop, nat_eq, List, [], ◌∷◌, slice_index_or}
use Rattle.std.specs.List.{list_any}
use Rattle.agm_net.specs.Formula.{xor}
use Rattle.agm_net.specs.Trace.{Row, bit_at}
use Rattle.agm_net.specs.declared.label.Part.{Part}
use Rattle.probe_cones.specs.Inputs.{first_bit}
use Rattle.twin_tape.specs.Permitted.{has}
use Rattle.twin_tape.specs.Twin.{is_crossing}
use Rattle.twin_tape.specs.declared.pairs.Pair.{Pair}
use Rattle.twin_tape.specs.declared.pairs.Side.{Side}
use Rattle.twin_tape.specs.declared.plan.Mark.{Mark}
use Rattle.twin_tape.specs.declared.plan.Plan.{Plan}

abbrev pub has_indices : Part → ℕ → ℕ → ℕ → Bool
has_indices p g h o = (p.gadget == g) && ((p.i == h) && (p.j == o))

abbrev pub is_crossed : ℕ → ℕ → ℕ → ℕ → Mark → Bool
is_crossed t g h o m = (m.cycle == t) && is_crossing g h o m.label

abbrev pub stage_at : List (List ℕ) → ℕ → List ℕ
stage_at stages k = slice_index_or stages k []

-- what is changed, by whether the factors that are to differ do so
abbrev pub half_by : (next last crossed ahead differs : Bool) → Bool
half_by next last crossed ahead differs = cond next (cond last false (ahead && differs)) (cond crossed differs false)

module _ (plan : Plan) (table : List Row) (other : Row) (t : ℕ) where
  abbrev pub half_of : ℕ → Side → Side → Bool
  half_of g h o =
      half_by (has (stage_at plan.stages (plan.cycles - t - 1)) h.index) (nat_eq (t + 1) plan.cycles)
      (list_any (is_crossed (t + 1) g h.index o.index) plan.marks) (bit_at table (t + 1) h.first)
      (xor (bit_at table t o.second) (slice_index_or other o.second false))

  abbrev pub change_of : Pair → Bool
  change_of p =
      cond (has (stage_at plan.stages (plan.cycles - t)) p.low.index)
      (cond (has (stage_at plan.stages (plan.cycles - t)) p.high.index) false (half_of p.gadget p.low p.high))
      (cond (has (stage_at plan.stages (plan.cycles - t)) p.high.index) (half_of p.gadget p.high p.low) false)

  -- a row of the random tape, with each bit changed as its pair asks
  abbrev pub changed_row : List Pair → Row → Row
  changed_row [] random = []
  changed_row (p ∷ ps) random = xor (first_bit random) (change_of p) ∷ changed_row ps (drop 1 random)
