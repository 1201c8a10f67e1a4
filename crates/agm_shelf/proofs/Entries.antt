-- What the newest entry and the others answer to a name.
use Rattle.std.proofs.Common.{◌≡◌, ◌≢◌, ◌<◌, ◌-◌, ◌++◌, ℕ, Bool, true, false, Some, List, [], ◌∷◌, refl, sym, ap, ◌∙◌, IsSome, append-nil, length, reverse, slice_set, slice_index_or, arith}
use Rattle.std.proofs.lemmas.List.{reverse-append, length-append}
use Rattle.std.proofs.Math.Seq.{set-append_seam, get_or-append_seam}
use Rattle.std.specs.Str.{bytes_eq}
use Rattle.std.proofs.lemmas.Slice.Eq.{bytes_eq-Decides}
use Rattle.std.proofs.lemmas.Bool.{false_from_ne_true}
use Rattle.agm_shelf.specs.Shelf.{text_of, GrowsByFront}
use Rattle.agm_shelf.specs.Entry.{content_text, texts_in, open_in, FirstGrows}
use Rattle.agm_shelf.specs.declared.entry.Content.{Content}
use Rattle.agm_shelf.specs.declared.entry.Content.TheVariants.{Bytes}
use Rattle.agm_shelf.specs.declared.entry.Entry.{Entry}

-- bytes are equal to themselves
pub bytes_eq-same : (xs : List ℕ) → bytes_eq xs xs ≡ true
bytes_eq-same xs = (bytes_eq-Decides xs xs).1 refl

-- different bytes are not equal
pub bytes_eq-other : (xs ys : List ℕ) → ys ≢ xs → bytes_eq xs ys ≡ false
bytes_eq-other xs ys h = false_from_ne_true _ (λ e. h (sym ((bytes_eq-Decides xs ys).0 e)))

-- the last of a list is the first in reverse
pub reverse-last : (es : List Entry) (e : Entry) → reverse (es ++ e ∷ []) ≡ e ∷ reverse es
reverse-last es e = reverse-append es (e ∷ [])

-- a list that isn't empty is a front and a last entry
pub last_split : (es : List Entry) → 0 < length es → (front : List Entry) × (e : Entry) × (es ≡ front ++ e ∷ [])
last_split [] h = absurd (omega arith)
last_split (e ∷ []) h = ([], e, refl)
last_split (e ∷ d ∷ es) h = let more : (front : List Entry) × (l : Entry) × ((d ∷ es) ≡ front ++ l ∷ []) = last_split (d ∷ es) (omega arith) in (e ∷ more.0, more.1, ap (λ xs. e ∷ xs) more.2)

-- a last entry that has grown
grown : Entry → List ℕ → Entry
grown e bytes = record { name = e.name; content = Bytes (content_text e.content ++ bytes) }

-- the last entry is set to one that has grown
pub grown-last : (front : List Entry) (e x : Entry) (bytes : List ℕ) → let es : List Entry = front ++ e ∷ [] in let last : Entry = slice_index_or es (length front) x in FirstGrows bytes (reverse es) (reverse (slice_set es (length front) (record { name = last.name; content = Bytes (content_text last.content ++ bytes) })))
grown-last front e x bytes = rw (get_or-append_seam front e [] x, set-append_seam front e [], reverse-last front e, reverse-append front) refl

-- the same at an index and a content that are equal to these
pub grown-at : (es front : List Entry) (e x : Entry) (i : ℕ) (bytes : List ℕ) (content : Content) → es ≡ front ++ e ∷ [] → i ≡ length front → content ≡ Bytes (content_text (slice_index_or es i x).content ++ bytes) → FirstGrows bytes (reverse es) (reverse (slice_set es i (record { name = (slice_index_or es i x).name; content = content })))
grown-at es front e x i bytes content split at grows = rw (grows, split, at) (grown-last front e x bytes)

-- the last of a list that isn't empty has grown
pub grown-newest : (es : List Entry) (x : Entry) (bytes : List ℕ) (content : Content) → 0 < length es → content ≡ Bytes (content_text (slice_index_or es (length es - 1) x).content ++ bytes) → FirstGrows bytes (reverse es) (reverse (slice_set es (length es - 1) (record { name = (slice_index_or es (length es - 1) x).name; content = content })))
grown-newest es x bytes content some grows =
    let s : (front : List Entry) × (e : Entry) × (es ≡ front ++ e ∷ []) = last_split es some in
    let at : length es - 1 ≡ length s.0 = ap (λ l. length l - 1) s.2 ∙ omega (arith, length-append s.0 (s.1 ∷ [])) in
    grown-at es s.0 s.1 x (length es - 1) bytes content s.2 at grows

-- the first entry's name holds its text
pub texts-first : (e : Entry) (es : List Entry) → texts_in (e ∷ es) e.name ≡ Some (content_text e.content)
texts-first e es = rw (bytes_eq-same e.name) refl

-- an open first entry is held, so that its text is followed by no byte
pub open-front : (is_open : Bool) (es : List Entry) (bytes : List ℕ) → IsSome (open_in is_open es) → GrowsByFront bytes (texts_in es (text_of (open_in is_open es))) (texts_in es (text_of (open_in is_open es)))
open-front false es bytes h = cc
open-front true [] bytes h = cc
open-front true (e ∷ es) bytes h = (0, rw (texts-first e es) (ap (λ x. Some x) (sym (append-nil (content_text e.content)))))
