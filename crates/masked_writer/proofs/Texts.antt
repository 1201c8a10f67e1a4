-- Facts on the texts of reports.
use Rattle.std.proofs.Common.{◌≡◌, ◌<◌, ◌≤◌, ℕ, zero, suc, false, List, [], ◌∷◌, map, refl, IsTrue, arith}
use Rattle.std.specs.List.{AllByRecursion}
use Rattle.std.specs.Str.{IsAscii}
use Rattle.std.proofs.lemmas.Bool.Decides.{nat_tests}
use Rattle.serde_json.specs.Data.{array, string, depth, items_depth}
use Rattle.serde_json.specs.Read.{max_depth}
use Rattle.serde_json.specs.View.{items_of}
use Rattle.serde_json.specs.Written.{has_float}
use Rattle.agm_net.specs.Writable.{IsWritable, is_graphic}
use Rattle.masked_writer.specs.Report.{report_data, versioned_data}
use Rattle.share_wiring.specs.declared.report.Report.{Report}

graphic_below : (b : ℕ) → IsTrue (is_graphic b) → b < 128
graphic_below b h = grind (arith, nat_tests)

ascii_rest : (bs : List ℕ) → AllByRecursion (λ b. IsTrue (is_graphic b)) bs → IsAscii bs
ascii_rest [] h i = omega arith
ascii_rest (b ∷ bs) h zero = graphic_below b h.0
ascii_rest (b ∷ bs) h (suc i) = ascii_rest bs h.1 i

-- a name that can be written is ASCII
pub writable_ascii : (name : List ℕ) → IsWritable name → IsAscii name
writable_ascii name h = ascii_rest name h.1

names_no_float : (names : List (List ℕ)) → has_float (array (items_of (map string names))) ≡ false
names_no_float [] = refl
names_no_float (n ∷ ns) = names_no_float ns

-- a report has no number with a fraction
pub no_float : (r : Report) → has_float (report_data r) ≡ false
unfolding versioned_data
no_float r = rw (names_no_float r.ports) refl

names_flat : (names : List (List ℕ)) → items_depth (items_of (map string names)) ≡ 0
names_flat [] = refl
names_flat (n ∷ ns) = rw (names_flat ns) refl

-- a report nests arrays in an object
pub not_deep : (r : Report) → depth (report_data r) ≤ max_depth
unfolding versioned_data
not_deep r = rw (names_flat r.ports) (omega arith)
