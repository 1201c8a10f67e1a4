-- Bits of declared names, and the form of each.
use Rattle.std.specs.Prelude.{◌==◌, ◌&&◌, ℕ, Bool, true, false, List, [], ◌∷◌, map, Option, Some, None}
use Rattle.std.specs.Str.{bytes_eq}
use Rattle.agm_net.specs.Plain.{range_numbers, select_name}
use Rattle.agm_net.specs.declared.port.Range.{Range}
use Rattle.verilog_reader.specs.Plain.{PlainForm, whole, bit}

-- a name without a range, or one bit of a name with a range
pub record Bit : Type 0 where
  pub name : List ℕ
  pub index : Option ℕ

abbrev pub plain_bit : List ℕ → Bit
plain_bit name = record { name = name; index = None }

abbrev pub select : List ℕ → ℕ → Bit
select name k = record { name = name; index = Some k }

-- the bits of a name: the name alone, or with each number of its range
abbrev pub bits_of : List ℕ → Option Range → List Bit
bits_of name None = plain_bit name ∷ []
bits_of name (Some r) = map (λ k. select name k) (range_numbers r.msb r.lsb)

abbrev pub indexed_name : List ℕ → Option ℕ → List ℕ
indexed_name name None = name
indexed_name name (Some k) = select_name name k

abbrev pub bit_name : Bit → List ℕ
bit_name b = indexed_name b.name b.index

abbrev pub same_index : Option ℕ → Option ℕ → Bool
same_index None None = true
same_index None (Some k) = false
same_index (Some j) None = false
same_index (Some j) (Some k) = j == k

abbrev pub same_bit : Bit → Bit → Bool
same_bit b c = bytes_eq b.name c.name && same_index b.index c.index

-- `x` and `x[3]`
abbrev pub form_at : List ℕ → Option ℕ → PlainForm
form_at name None = whole name
form_at name (Some k) = bit name k

abbrev pub bit_form : Bit → PlainForm
bit_form b = form_at b.name b.index
