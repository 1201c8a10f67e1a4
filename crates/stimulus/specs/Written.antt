-- A stimulus and a tape as JSON (RFC 8259), their texts as they stand.
use Rattle.std.specs.Prelude.{List, [], ◌∷◌, map, codes}
use Rattle.serde_json.specs.Data.{Data, object, array, string, Members, member, no_members}
use Rattle.serde_json.specs.View.{items_of}
use Rattle.stimulus.specs.declared.texts.Member.{Member}
use Rattle.stimulus.specs.declared.texts.StreamText.{StreamText}

abbrev pub members_data : List Member → Members
members_data [] = no_members
members_data (m ∷ ms) = member m.key (string m.text) (members_data ms)

-- a step: an object of strings, as `{"x":"1","y":"0"}`
abbrev pub step_data : List Member → Data
step_data step = object (members_data step)

-- the two members of a stream
abbrev pub stream_parts : StreamText → Data × Data
stream_parts s = (string s.initial, array (items_of (map step_data s.steps)))

-- a stream: an object of exactly these keys, in the order of their bytes
abbrev pub stream_data : StreamText → Data
stream_data s = object (member (codes "initial") (stream_parts s).0 (member (codes "steps") (stream_parts s).1 no_members))

-- a stimulus: an object of this key alone
abbrev pub stimulus_data : List StreamText → Data
stimulus_data texts = object (member (codes "streams") (array (items_of (map stream_data texts))) no_members)

-- a tape: an object of this key alone
abbrev pub tape_data : List (List Member) → Data
tape_data cycles = object (member (codes "cycles") (array (items_of (map step_data cycles))) no_members)
