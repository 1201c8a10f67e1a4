-- The permitted indices as they are listed, and the steps to them.
use Rattle.std.specs.Prelude.{ℕ, suc, ◌+◌, max, nat_lt, cond, nat_eq, List, [], ◌∷◌, filter, slice_index_or}
use Rattle.std.specs.List.{range_with_len}
use Rattle.agm_net.specs.declared.label.Label.{Label}
use Rattle.agm_net.specs.declared.label.Label.TheVariants.{Clock}
use Rattle.probe_cones.specs.declared.probe.Probe.{Probe}
use Rattle.twin_tape.specs.Permitted.{has, permitted, sights, with}
use Rattle.twin_tape.specs.declared.sight.Sight.{Sight}
use Rattle.twin_tape.specs.declared.sight.Sight.TheVariants.{Nobody, One as One', Inner}

-- the label of a wire, in a list with one for each wire
abbrev pub label_at : List Label → ℕ → Label
label_at labels w = slice_index_or labels w Clock

-- The permitted indices of a network of order d, ascending, for probes in cycles below T.
abbrev pub allowed : ℕ → (ℕ → Label) → List Probe → List ℕ → ℕ → List ℕ
allowed d label probes A T = filter (has (permitted (sights label probes) A T)) (range_with_len 0 (d + 1))

-- the indices once one sight of a stage is taken
abbrev pub taken_one : Sight → ℕ → List ℕ → List ℕ
taken_one Nobody stage known = known
taken_one (One' i) stage known = known
taken_one (Inner g i j s home) stage known =
    cond (nat_eq s stage) (cond (has known home) (with (cond (nat_eq home i) j i) known) (home ∷ known)) known

-- the indices with that of a plain probe
abbrev pub begun_one : Sight → List ℕ → List ℕ
begun_one (One' i) known = with i known
begun_one _ known = known

-- one more than the stage of a sight, where it is below a bound, and else 0
abbrev pub mark : ℕ → Sight → ℕ
mark bound (Inner g i j s home) = cond (nat_lt s bound) (suc s) 0
mark bound _ = 0

-- one more than the latest of the stages below a bound, and 0 where there is none
abbrev pub latest : ℕ → List Sight → ℕ
latest bound [] = 0
latest bound (s ∷ ss) = max (mark bound s) (latest bound ss)

-- the stage of a sight
abbrev pub stage_of : Sight → ℕ
stage_of (Inner g i j s home) = s
stage_of _ = 0
