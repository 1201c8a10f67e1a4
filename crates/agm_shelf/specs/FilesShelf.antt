-- What a shelf of files shows.
use Rattle.std.specs.Prelude.{ℕ, List, Option}
use Rattle.std.specs.Option.{option_map, option_and_then}
use Rattle.agm_shelf.specs.declared.files.FilesShelf.{FilesShelf}

-- the name of the pending output
abbrev pub open_name : {R F D : Type 0} → FilesShelf R F D → Option (List ℕ)
open_name s = option_map (λ o. o.name) s.output

-- how often a read failed
abbrev pub read_failures : {R F D : Type 0} → FilesShelf R F D → ℕ
read_failures s = s.read_faults

-- how often a write failed
abbrev pub write_failures : {R F D : Type 0} → FilesShelf R F D → ℕ
write_failures s = s.write_faults

-- what the file of the pending output holds, where files of this kind tell it
abbrev pub open_contents : {R F D : Type 0} → (F → Option (List ℕ)) → FilesShelf R F D → Option (List ℕ)
open_contents contents s = option_and_then (λ o. contents o.file) s.output
