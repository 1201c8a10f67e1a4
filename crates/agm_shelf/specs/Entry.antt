-- What entries hold, the newest first.
use Rattle.std.specs.Prelude.{◌≡◌, ◌++◌, ℕ, Bool, true, false, Option, Some, None, List, [], ◌∷◌, replicate, find}
use Rattle.std.specs.Option.{option_map, option_and_then}
use Rattle.std.specs.Str.{bytes_eq}
use Rattle.agm_shelf.specs.Shelf.{Contents}
use Rattle.agm_shelf.specs.declared.entry.Content.{Content}
use Rattle.agm_shelf.specs.declared.entry.Content.TheVariants.{Bytes, Blank}
use Rattle.agm_shelf.specs.declared.entry.Entry.{Entry}

-- all the bytes of a content
abbrev pub content_text : Content → List ℕ
content_text (Bytes text) = text
content_text (Blank n) = replicate n 0

-- the bytes of a content that are stored
abbrev pub content_stored : Content → Option (List ℕ)
content_stored (Bytes text) = Some text
content_stored (Blank n) = None

-- the first entry of a name
abbrev pub newest_of : List Entry → List ℕ → Option Entry
newest_of entries name = find (λ e. bytes_eq e.name name) entries

-- the text of the first entry of a name
abbrev pub texts_in : List Entry → Contents
texts_in entries name = option_map (λ e. content_text e.content) (newest_of entries name)

-- the stored bytes of the first entry of a name
abbrev pub stored_in : List Entry → Contents
stored_in entries name = option_and_then (λ e. content_stored e.content) (newest_of entries name)

-- the first entry's name, while it is open
abbrev pub open_in : Bool → List Entry → Option (List ℕ)
open_in false entries = None
open_in true [] = None
open_in true (e ∷ entries) = Some e.name

-- the first entry's text is followed by these bytes, all of which are stored
abbrev pub FirstGrows : List ℕ → List Entry → List Entry → Type 0
FirstGrows bytes [] new = ⊥
FirstGrows bytes (e ∷ old) new = new ≡ record { name = e.name; content = Bytes (content_text e.content ++ bytes) } ∷ old
