-- What may stand before a token, as a function.
use Rattle.std.specs.Prelude.{◌==◌, ℕ, Bool, true, false, ◌||◌, ◌&&◌, cond, List, [], ◌∷◌, Option, Some, None, take, drop}
use Rattle.small_text.specs.Bytes.{is_word, is_blank}
use Rattle.small_text.specs.First.{run, begins}
use Rattle.verilog_tokens.specs.Bytes.{is_in_line, is_in_directive, is_directive}

-- what stands behind the first `*/`
abbrev pub behind_close : List ℕ → Option (List ℕ)
behind_close [] = None
behind_close (b ∷ bs) = cond ((b == 42) && begins 47 bs) (Some (drop 1 bs)) (behind_close bs)

-- whether the line ends here
abbrev pub ends_line : List ℕ → Bool
ends_line [] = true
ends_line (b ∷ bs) = b == 10

-- what stands behind a piece within a line
abbrev pub within : Option (List ℕ) → Option (Bool × List ℕ)
within None = None
within (Some rest) = Some (false, rest)

-- the rest of a directive's line, behind its backquote and its word
abbrev pub directive_rest : List ℕ → List ℕ
directive_rest bytes = drop (run is_in_directive (drop (run is_word bytes) bytes)) (drop (run is_word bytes) bytes)

-- behind a backquote
abbrev pub directive_at : List ℕ → Option (List ℕ)
directive_at bytes = cond (is_directive (take (run is_word bytes) bytes) && ends_line (directive_rest bytes)) (Some (directive_rest bytes)) None

-- behind a `/`
abbrev pub comment_at : List ℕ → Option (List ℕ)
comment_at bytes =
    cond (begins 47 bytes) (Some (drop (run is_in_line (drop 1 bytes)) (drop 1 bytes)))
    (cond (begins 42 bytes) (behind_close (drop 1 bytes)) None)

-- what stands behind one gap, and whether that place begins a line
abbrev pub gap_at : Bool → List ℕ → Option (Bool × List ℕ)
gap_at line [] = None
gap_at line (b ∷ bs) =
    cond (is_blank b) (Some (line || (b == 10), bs))
    (cond (b == 47) (within (comment_at bs))
    (cond ((b == 96) && line) (within (directive_at bs)) None))
