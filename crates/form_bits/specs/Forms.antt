-- Forms over the declared names of a module: names that are unknown, widths, and bits.
use Rattle.std.specs.Prelude.{◌+◌, ◌*◌, ◌&&◌, ◌||◌, ◌++◌, ℕ, zero, suc, Bool, true, false, cond, List, [], ◌∷◌, Option, Some, None, map, length, nat_le, position, slice_get}
use Rattle.std.specs.Int.{abs_diff}
use Rattle.std.specs.List.{range_with_len}
use Rattle.std.specs.Str.{bytes_eq}
use Rattle.std.specs.Fmt.{decimal}
use Rattle.agm_net.specs.Plain.{select_name}
use Rattle.agm_net.specs.declared.port.Range.{Range}
use Rattle.verilog_reader.specs.Plain.{PlainForm, whole, bit, part, constant, join, repeat, PlainForms, no_forms, a_form}
use Rattle.form_bits.specs.declared.types.Bit.{Bit}
use Rattle.form_bits.specs.declared.types.Bit.TheVariants.{Constant, Wire}
use Rattle.form_bits.specs.declared.types.Spot.{Spot}

abbrev pub Text : Type 0
Text = List ℕ

-- where the bits of a name stand, and its range; nothing where it is not declared
abbrev pub Look : Type 0
Look = Text → Option Spot

abbrev pub spot_at : List Spot → Option ℕ → Option Spot
spot_at spots None = None
spot_at spots (Some k) = slice_get spots k

-- the spot of a name, where these names have these spots
abbrev pub look_in : List Text → List Spot → Look
look_in names spots name = spot_at spots (position (λ n. bytes_eq n name) names)

-- how many bits a name with a range has, or one without
abbrev pub range_width : Option Range → ℕ
range_width None = 1
range_width (Some r) = abs_diff r.msb r.lsb + 1

-- whether a number lies between two others, in either order
abbrev pub lies_between : (high low k : ℕ) → Bool
lies_between high low k = nat_le low k && nat_le k high

-- whether a bit of this number is there; a name without a range has none
abbrev pub has_bit : Option Range → ℕ → Bool
has_bit None k = false
has_bit (Some r) k = lies_between r.msb r.lsb k || lies_between r.lsb r.msb k

-- whether two bits are there and stand in this order
abbrev pub has_part : Option Range → ℕ → ℕ → Bool
has_part None h l = false
has_part (Some r) h l = (lies_between r.msb r.lsb h && lies_between h r.lsb l) || (lies_between r.lsb r.msb h && lies_between r.lsb h l)

-- a select of more bits as it is written, as `x[3:0]`
abbrev pub part_name : Text → ℕ → ℕ → Text
part_name name h l = name ++ 91 ∷ (decimal h ++ 58 ∷ (decimal l ++ 93 ∷ []))

abbrev pub whole_fault : Text → Option Spot → Option Text
whole_fault n None = Some n
whole_fault n (Some s) = None

abbrev pub bit_fault : Text → ℕ → Option Spot → Option Text
bit_fault n k None = Some n
bit_fault n k (Some s) = cond (has_bit s.range k) None (Some (select_name n k))

abbrev pub part_fault : Text → ℕ → ℕ → Option Spot → Option Text
part_fault n h l None = Some n
part_fault n h l (Some s) = cond (has_part s.range h l) None (Some (part_name n h l))

abbrev pub or_else : {X : Type 0} → Option X → Option X → Option X
or_else (Some x) y = Some x
or_else None y = y

-- The first name in a form that is not declared, or its first select that is out of range or runs against the declared direction, as it is written.
abbrev mutual
  pub form_fault : Look → PlainForm → Option Text
  form_fault look (whole n) = whole_fault n (look n)
  form_fault look (bit n k) = bit_fault n k (look n)
  form_fault look (part n h l) = part_fault n h l (look n)
  form_fault look (constant bits) = None
  form_fault look (join fs) = forms_fault look fs
  form_fault look (repeat k f) = form_fault look f

  pub forms_fault : Look → PlainForms → Option Text
  forms_fault look no_forms = None
  forms_fault look (a_form f fs) = or_else (form_fault look f) (forms_fault look fs)

abbrev pub spot_width : Option Spot → ℕ
spot_width None = 0
spot_width (Some s) = range_width s.range

-- how many bits a form has
abbrev mutual
  pub form_width : Look → PlainForm → ℕ
  form_width look (whole n) = spot_width (look n)
  form_width look (bit n k) = 1
  form_width look (part n h l) = abs_diff h l + 1
  form_width look (constant bits) = length bits
  form_width look (join fs) = forms_width look fs
  form_width look (repeat k f) = k * form_width look f

  pub forms_width : Look → PlainForms → ℕ
  forms_width look no_forms = 0
  forms_width look (a_form f fs) = form_width look f + forms_width look fs

-- wires in a row
abbrev pub run : (start width : ℕ) → List Bit
run start width = map (λ k. Wire k) (range_with_len start width)

-- how far a bit stands behind the first, which is the most significant
abbrev pub distance : Option Range → ℕ → ℕ
distance None k = 0
distance (Some r) k = abs_diff r.msb k

abbrev pub whole_bits : ℕ → Option Spot → List Bit
whole_bits base None = []
whole_bits base (Some s) = run (base + s.first) (range_width s.range)

abbrev pub part_bits : ℕ → ℕ → ℕ → Option Spot → List Bit
part_bits base h width None = []
part_bits base h width (Some s) = run (base + s.first + distance s.range h) width

abbrev pub repeated : ℕ → List Bit → List Bit
repeated zero bits = []
repeated (suc k) bits = bits ++ repeated k bits

-- The bits of a form from the left to the right, where the wires of the module's names stand from `base` on.
abbrev mutual
  pub form_bits : Look → ℕ → PlainForm → List Bit
  form_bits look base (whole n) = whole_bits base (look n)
  form_bits look base (bit n k) = part_bits base k 1 (look n)
  form_bits look base (part n h l) = part_bits base h (abs_diff h l + 1) (look n)
  form_bits look base (constant bits) = map (λ b. Constant b) bits
  form_bits look base (join fs) = forms_bits look base fs
  form_bits look base (repeat k f) = repeated k (form_bits look base f)

  pub forms_bits : Look → ℕ → PlainForms → List Bit
  forms_bits look base no_forms = []
  forms_bits look base (a_form f fs) = form_bits look base f ++ forms_bits look base fs
