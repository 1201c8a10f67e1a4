-- Names of cells that are wrong.
use Rattle.std.proofs.Common.{◌≡◌, Bool, true, false, cond, not, Option, Some, None, refl, ap}
use Rattle.cell_library.specs.declared.types.CellCause.{CellCause}
use Rattle.cell_library.specs.declared.types.CellCause.TheVariants.{Duplicate, Reserved}

abbrev reserved_or : Bool → Option CellCause
reserved_or r = cond r (Some Reserved) None

pub fault_same : (n a r : Bool) → n ≡ not a → cond n (reserved_or r) (Some Duplicate) ≡ cond a (Some Duplicate) (reserved_or r)
fault_same n true r h = ap (λ b. cond b (reserved_or r) (Some Duplicate)) h
fault_same n false r h = ap (λ b. cond b (reserved_or r) (Some Duplicate)) h

pub fault_none : (n r : Bool) → cond n (reserved_or r) (Some Duplicate) ≡ None → n ≡ true
fault_none true r h = refl
fault_none false r h = absurd (cc)
