-- Which answers are failures.
use Rattle.std.specs.Prelude.{Bool, true, false, Result, Ok, Err}
use Rattle.agm_shelf.specs.declared.shelf.ReadEnd.{ReadEnd}
use Rattle.agm_shelf.specs.declared.shelf.ReadEnd.TheVariants as R
use Rattle.agm_shelf.specs.declared.shelf.PutEnd.{PutEnd}
use Rattle.agm_shelf.specs.declared.shelf.PutEnd.TheVariants as P

-- whether a read failed
abbrev pub read_failed : {X : Type 0} → Result X ReadEnd → Bool
read_failed (Ok x) = false
read_failed (Err R.Failed) = true
read_failed (Err (R.TooLong seen)) = false
read_failed (Err R.Memory) = false

-- whether a write failed
abbrev pub put_failed : {X : Type 0} → Result X PutEnd → Bool
put_failed (Ok x) = false
put_failed (Err P.Failed) = true
put_failed (Err P.Memory) = false
