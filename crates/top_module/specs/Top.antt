-- Which module of a design is its top.
use Rattle.std.specs.Prelude.{◌≡◌, ◌≢◌, ◌==◌, ℕ, Bool, false, not, if◌then◌else◌, List, [], ◌∷◌, length, filter, Some, slice_get, Result, Ok, Err, codes}
use Rattle.std.specs.List.{list_any, range_with_len}
use Rattle.std.specs.Option.{option_map_or}
use Rattle.std.specs.Str.{bytes_eq}
use Rattle.verilog_reader.specs.Plain.{PlainItem, declare, assign, instance, PlainModule, PlainDesign}
use Rattle.top_module.specs.declared.top.TopFault.{TopFault}
use Rattle.top_module.specs.declared.top.TopFault.TheVariants.{Candidates, Memory}

-- whether an item is an instance whose cell has this name
abbrev pub instantiates : List ℕ → PlainItem → Bool
instantiates name (declare attributes way range names) = false
instantiates name (assign attributes left right) = false
instantiates name (instance attributes cell own pins) = bytes_eq cell name

-- whether some instance in some module has this name as its cell
abbrev pub is_instantiated : PlainDesign → List ℕ → Bool
is_instantiated d name = list_any (λ m. list_any (instantiates name) m.items) d

-- whether a module has the attribute `top`, with a value or without
abbrev pub has_top : PlainModule → Bool
has_top m = list_any (λ a. bytes_eq a.name (codes "top")) m.attributes

-- the numbers of the modules that pass a test, in text order
abbrev pub numbers_of : (PlainModule → Bool) → PlainDesign → List ℕ
numbers_of test d = filter (λ k. option_map_or test (slice_get d k) false) (range_with_len 0 (length d))

abbrev pub marked : PlainDesign → List ℕ
marked d = numbers_of has_top d

abbrev pub uninstantiated : PlainDesign → List ℕ
uninstantiated d = numbers_of (λ m. not (is_instantiated d m.name)) d

-- The candidates for the top: the module with the attribute `top` where exactly one module has it, and else the modules that no
-- module instantiates.
abbrev pub candidates : PlainDesign → List ℕ
candidates d = if length (marked d) == 1 then marked d else uninstantiated d

-- there is one candidate
abbrev pub HasTop : PlainDesign → Type 0
HasTop d = (k : ℕ) × (candidates d ≡ k ∷ [])

-- the top: the one candidate
abbrev pub IsTop : PlainDesign → PlainModule → Type 0
IsTop d m = (k : ℕ) × (candidates d ≡ k ∷ []) × (slice_get d k ≡ Some m)

-- Which answer is right: the number of the one candidate, or how many candidates there are, where that is not one.
abbrev pub IsTopAnswer : PlainDesign → Result ℕ TopFault → Type 0
IsTopAnswer d (Ok k) = candidates d ≡ k ∷ []
IsTopAnswer d (Err (Candidates n)) = (length (candidates d) ≡ n) × (n ≢ 1)
IsTopAnswer d (Err Memory) = Unit {0}
