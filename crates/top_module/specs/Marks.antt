-- The marks that stand before the declarations of a name.
use Rattle.std.specs.Prelude.{ℕ, Bool, false, not, ◌||◌, if◌then◌else◌, List, [], Option, Some, None, map, filter, codes}
use Rattle.std.specs.List.{list_any, flat_map}
use Rattle.std.specs.Str.{bytes_eq}
use Rattle.verilog_reader.specs.Plain.{PlainItem, declare, assign, instance, PlainModule}
use Rattle.verilog_reader.specs.declared.design.Attribute.{Attribute}
use Rattle.verilog_reader.specs.declared.design.Value.{Value}
use Rattle.verilog_reader.specs.declared.design.Value.TheVariants.{Text, Number, Bits}
use Rattle.top_module.specs.declared.facts.MarkSet.{MarkSet}

-- whether a name is among names
abbrev pub is_among : List ℕ → List (List ℕ) → Bool
is_among name names = list_any (λ n. bytes_eq n name) names

-- the values of the attributes named `AGEMA`, where they have one
abbrev pub mark_values : List Attribute → List (Option Value)
mark_values attributes = map (λ a. a.value) (filter (λ a. bytes_eq a.name (codes "AGEMA")) attributes)

-- those before an item, if it is a declaration that names this name
abbrev pub marks_at : List ℕ → PlainItem → List (Option Value)
marks_at name (declare attributes way range names) = if is_among name names then mark_values attributes else []
marks_at name (assign attributes left right) = []
marks_at name (instance attributes cell own pins) = []

-- The marks of a name in a module: the values of the attributes named `AGEMA` that stand before a declaration which names it,
-- with a way or with `wire`, in text order.
abbrev pub marks_before : PlainModule → List ℕ → List (Option Value)
marks_before m name = flat_map (marks_at name) m.items

-- whether a mark has a text as its value
abbrev pub says : List ℕ → Option Value → Bool
says word None = false
says word (Some (Text text)) = bytes_eq text word
says word (Some (Number n)) = false
says word (Some (Bits bits)) = false

-- whether a mark is none of the three that are known
abbrev pub is_unknown : Option Value → Bool
is_unknown mark = not (says (codes "secure") mark || (says (codes "public") mark || says (codes "clock") mark))

-- which marks stand among these
abbrev pub mark_set : List (Option Value) → MarkSet
mark_set marks =
    record {
      secure = list_any (says (codes "secure")) marks;
      public = list_any (says (codes "public")) marks;
      clock = list_any (says (codes "clock")) marks;
      unknown = list_any is_unknown marks;
    }
