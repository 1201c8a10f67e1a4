-- How what is known of a name grows, item by item.
use Rattle.std.specs.Prelude.{ℕ, ◌||◌, if◌then◌else◌, List, [], Option, None, slice_get, codes}
use Rattle.std.specs.List.{filter_map, flat_map}
use Rattle.std.specs.Option.{option_map, option_or}
use Rattle.std.specs.Str.{bytes_eq}
use Rattle.agm_net.specs.declared.port.Way.{Way}
use Rattle.agm_net.specs.declared.port.Range.{Range}
use Rattle.verilog_reader.specs.Plain.{PlainItem}
use Rattle.verilog_reader.specs.declared.design.Attribute.{Attribute}
use Rattle.verilog_reader.specs.declared.design.Value.{Value}
use Rattle.top_module.specs.Marks.{is_among, mark_values, marks_at, says, is_unknown, mark_set}
use Rattle.top_module.specs.Ports.{kind_at}
use Rattle.top_module.specs.declared.facts.MarkSet.{MarkSet}
use Rattle.top_module.specs.declared.facts.PortFacts.{PortFacts}

-- the set of one mark
abbrev pub mark_of : Option Value → MarkSet
mark_of mark =
    record {
      secure = says (codes "secure") mark;
      public = says (codes "public") mark;
      clock = says (codes "clock") mark;
      unknown = is_unknown mark;
    }

abbrev pub union : MarkSet → MarkSet → MarkSet
union a b =
    record {
      secure = a.secure || b.secure;
      public = a.public || b.public;
      clock = a.clock || b.clock;
      unknown = a.unknown || b.unknown;
    }

abbrev pub no_facts : PortFacts
no_facts = record { kind = None; marks = mark_set [] }

-- what is known, and what one more item says
abbrev pub joined : PortFacts → PortFacts → PortFacts
joined known more = record { kind = option_or known.kind more.kind; marks = union known.marks more.marks }

-- what a declaration says of its names
abbrev pub said : List Attribute → Option Way → Option Range → PortFacts
said attributes way range =
    record { kind = option_map (λ w. record { way = w; range = range }) way; marks = mark_set (mark_values attributes) }

-- what is known of a name after a declaration of this name
abbrev pub joined_at : List ℕ → PortFacts → PortFacts → List ℕ → PortFacts
joined_at own more known name = if bytes_eq own name then joined known more else known

-- what is known of a name after a declaration that has these names and says this
abbrev pub joined_among : List (List ℕ) → PortFacts → PortFacts → List ℕ → PortFacts
joined_among names more known name = if is_among name names then joined known more else known

-- what an item says of a name
abbrev pub said_at : List ℕ → PlainItem → PortFacts
said_at name item = record { kind = kind_at name item; marks = mark_set (marks_at name item) }

-- what items say of a name
abbrev pub facts_in : List PlainItem → List ℕ → PortFacts
facts_in items name = record { kind = slice_get (filter_map (kind_at name) items) 0; marks = mark_set (flat_map (marks_at name) items) }
