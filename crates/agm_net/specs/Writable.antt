-- Names that can be written.
use Rattle.std.specs.Prelude.{◌<◌, ℕ, Bool, ◌&&◌, List, length, nat_le, IsTrue}
use Rattle.std.specs.List.{AllByRecursion}

-- a byte that is seen: 33 to 126
abbrev pub is_graphic : ℕ → Bool
is_graphic b = nat_le 33 b && nat_le b 126

-- one or more bytes 33 to 126: what an identifier of Verilog may consist of, escaped if need be
abbrev pub IsWritable : List ℕ → Type 0
IsWritable name = (0 < length name) × AllByRecursion (λ b. IsTrue (is_graphic b)) name
