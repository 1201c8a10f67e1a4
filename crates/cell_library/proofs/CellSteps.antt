-- One more group of a cell.
use Rattle.std.proofs.Common.{◌≡◌, ◌++◌, ◌∷◌, [], Bool, false, List, map, codes, sym, ap, ◌∙◌}
use Rattle.std.specs.Str.{bytes_eq}
use Rattle.liberty_statements.specs.Grammar.{Args, Statements, group, names_of}
use Rattle.cell_library.specs.Texts.{Text, Kinds, PinTexts, pin_texts, FlipTexts, flip_texts}
use Rattle.cell_library.specs.Read.{ReadCell, ReadPin, ReadFlip, read_flip}
use Rattle.cell_library.specs.Steps.{cell_more, kinds_more, read_named}

abbrev cell_with : Kinds → List ReadFlip → List ReadPin → ReadCell
cell_with k f p = record { kinds = k; flips = f; pins = p }

pub pins_kept : (c : ReadCell) (xs : Args) (ss : Statements) (e : Bool) (names : List Text) (b : PinTexts) (pins : List ReadPin) → names_of xs ≡ names → pin_texts ss ≡ b → pins ≡ c.pins ++ map (read_named b) names → cell_more c (group (codes "pin") xs ss e) ≡ cell_with c.kinds c.flips pins
pins_kept c xs ss e names b pins n t h =
    ap (λ (ns : List Text). cell_with c.kinds c.flips (c.pins ++ map (read_named (pin_texts ss)) ns)) n
    ∙ (ap (λ (u : PinTexts). cell_with c.kinds c.flips (c.pins ++ map (read_named u) names)) t
    ∙ ap (λ (ps : List ReadPin). cell_with c.kinds c.flips ps) (sym h))

abbrev flip_named : List Text → FlipTexts → ReadFlip
flip_named names texts = read_flip (record { names = names; texts = texts })

pub flip_kept : (c : ReadCell) (xs : Args) (ss : Statements) (e : Bool) (names : List Text) (b : FlipTexts) (flips : List ReadFlip) → names_of xs ≡ names → flip_texts ss ≡ b → flips ≡ c.flips ++ flip_named names b ∷ [] → cell_more c (group (codes "ff") xs ss e) ≡ cell_with c.kinds flips c.pins
flip_kept c xs ss e names b flips n t h =
    ap (λ (ns : List Text). cell_with c.kinds (c.flips ++ flip_named ns (flip_texts ss) ∷ []) c.pins) n
    ∙ (ap (λ (u : FlipTexts). cell_with c.kinds (c.flips ++ flip_named names u ∷ []) c.pins) t
    ∙ ap (λ (fs : List ReadFlip). cell_with c.kinds fs c.pins) (sym h))

pub kinds_kept : (c : ReadCell) (n : Text) (xs : Args) (ss : Statements) (e : Bool) (k : Kinds) → bytes_eq n (codes "pin") ≡ false → bytes_eq n (codes "ff") ≡ false → k ≡ kinds_more c.kinds n → cell_more c (group n xs ss e) ≡ cell_with k c.flips c.pins
kinds_kept c n xs ss e k p f h = rw (p, f) (ap (λ (q : Kinds). cell_with q c.flips c.pins) (sym h))
