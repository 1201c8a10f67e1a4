-- Lists with the number of each item.
use Rattle.std.proofs.Common.{◌≡◌, ℕ, ◌+◌, ◌<◌, List, [], ◌∷◌, ◌++◌, map, fold, take, length, get_or, refl, sym, ap, ap₂, append_assoc, ◌∙◌, arith, zero-add, add-zero, append-nil}
use Rattle.std.specs.List.{enumerate_from, flat_map}
use Rattle.std.proofs.lemmas.Grind.{take_at_read, flat_map-append}
use Rattle.std.proofs.lemmas.List.{map-append, length-map, length-take}
use Rattle.std.proofs.lemmas.List.Sums.{fold-append}
use Rattle.net_design.specs.Lines.{lines_text}
use Rattle.verilog_reader.specs.Plain.{PlainItem}
use Rattle.design_text.specs.Parts.{part_text, parts_text}
use Rattle.design_text.specs.Written.{item_parts}

-- one more item has the next number
enumerate_push : {X : Type 0} (n : ℕ) (xs : List X) (x : X) → enumerate_from n (xs ++ x ∷ []) ≡ enumerate_from n xs ++ (n + length xs, x) ∷ []
enumerate_push n [] x = simp add-zero
enumerate_push n (y ∷ ys) x =
    let e : (n + 1) + length ys ≡ n + length (y ∷ ys) = omega arith in
    let more = enumerate_push (n + 1) ys x in
    cc

-- one more step of a loop over a list
pub enumerate_more : {X : Type 0} (n : ℕ) (xs : List X) (i : ℕ) (d : X) → i < length xs → enumerate_from n (take (i + 1) xs) ≡ enumerate_from n (take i xs) ++ (n + i, get_or xs i d) ∷ []
enumerate_more n xs i d h =
    let long : length (take i xs) ≡ i = simp length-take (omega arith) in
    rw ((take_at_read xs i d h).1, enumerate_push n (take i xs) (get_or xs i d), long) refl

-- the same, with what is made of each item and its number
pub map_more : {X V Y : Type 0} (f : ℕ × V → Y) (n : ℕ) (v : X → V) (xs : List X) (i : ℕ) (d : X) → i < length xs → map f (enumerate_from n (map v (take (i + 1) xs))) ≡ map f (enumerate_from n (map v (take i xs))) ++ f (n + i, v (get_or xs i d)) ∷ []
map_more f n v xs i d h =
    let long : length (map v (take i xs)) ≡ i = simp (length-map, length-take) (omega arith) in
    rw ((take_at_read xs i d h).1, map-append v (take i xs) (get_or xs i d ∷ []), enumerate_push n (map v (take i xs)) (v (get_or xs i d)), map-append f (enumerate_from n (map v (take i xs))), long) refl

pub map_item_more : {X Y : Type 0} (f : ℕ × X → Y) (xs : List X) (i : ℕ) (d : X) → i < length xs → map f (enumerate_from 0 (take (i + 1) xs)) ≡ map f (enumerate_from 0 (take i xs)) ++ f (i, get_or xs i d) ∷ []
map_item_more f xs i d h =
    ap (λ ys. map f ys) (enumerate_more 0 xs i d h)
    ∙ (map-append f (enumerate_from 0 (take i xs)) ((0 + i, get_or xs i d) ∷ [])
    ∙ ap (λ k. map f (enumerate_from 0 (take i xs)) ++ f (k, get_or xs i d) ∷ []) (zero-add i))

pub flat_map_more : {X Y : Type 0} (f : ℕ × X → List Y) (xs : List X) (i : ℕ) (d : X) → i < length xs → flat_map f (enumerate_from 0 (take (i + 1) xs)) ≡ flat_map f (enumerate_from 0 (take i xs)) ++ f (i, get_or xs i d)
flat_map_more f xs i d h =
    ap (λ ys. flat_map f ys) (enumerate_more 0 xs i d h)
    ∙ (flat_map-append f (enumerate_from 0 (take i xs)) ((0 + i, get_or xs i d) ∷ [])
    ∙ ap (λ zs. flat_map f (enumerate_from 0 (take i xs)) ++ zs) (append-nil (f (0 + i, get_or xs i d)) ∙ ap (λ k. f (k, get_or xs i d)) (zero-add i)))

pub fold_map_more : {X Y Z : Type 0} (g : Z → Y → Z) (a : Z) (f : ℕ × X → Y) (xs : List X) (i : ℕ) (d : X) → i < length xs → fold g a (map f (enumerate_from 0 (take (i + 1) xs))) ≡ g (fold g a (map f (enumerate_from 0 (take i xs)))) (f (i, get_or xs i d))
fold_map_more g a f xs i d h =
    ap (λ ys. fold g a (map f ys)) (enumerate_more 0 xs i d h)
    ∙ (ap (λ ys. fold g a ys) (map-append f (enumerate_from 0 (take i xs)) ((0 + i, get_or xs i d) ∷ []))
    ∙ (fold-append g a (map f (enumerate_from 0 (take i xs))) (f (0 + i, get_or xs i d) ∷ [])
    ∙ ap (λ k. g (fold g a (map f (enumerate_from 0 (take i xs)))) (f (k, get_or xs i d))) (zero-add i)))

pub fold_flat_map_more : {X Y Z : Type 0} (g : Z → Y → Z) (a : Z) (f : ℕ × X → List Y) (xs : List X) (i : ℕ) (d : X) → i < length xs → fold g a (flat_map f (enumerate_from 0 (take (i + 1) xs))) ≡ fold g (fold g a (flat_map f (enumerate_from 0 (take i xs)))) (f (i, get_or xs i d))
fold_flat_map_more g a f xs i d h =
    ap (λ ys. fold g a ys) (flat_map_more f xs i d h) ∙ fold-append g a (flat_map f (enumerate_from 0 (take i xs))) (f (i, get_or xs i d))

-- one more step of a loop over a list, with the number of each item
pub map_enumerate_more : {X V Y : Type 0} (f : ℕ × V → Y) (v : X → V) (xs : List X) (i : ℕ) (d : X) → i < length xs → map f (enumerate_from 0 (map v (take (i + 1) xs))) ≡ map f (enumerate_from 0 (map v (take i xs))) ++ f (i, v (get_or xs i d)) ∷ []
map_enumerate_more f v xs i d h =
    let long : length (map v (take i xs)) ≡ i = simp (length-map, length-take) (omega arith) in
    rw ((take_at_read xs i d h).1, map-append v (take i xs) (get_or xs i d ∷ []), enumerate_push 0 (map v (take i xs)) (v (get_or xs i d)), map-append f (enumerate_from 0 (map v (take i xs))), long, zero-add)

-- the lines of items and then of others
pub lines_append : (xs ys : List PlainItem) → lines_text (xs ++ ys) ≡ lines_text xs ++ lines_text ys
lines_append xs ys = ap parts_text (flat_map-append item_parts xs ys) ∙ flat_map-append part_text (flat_map item_parts xs) (flat_map item_parts ys)

-- one more line
pub line_more : (old : List ℕ) (xs : List PlainItem) (y : PlainItem) → (old ++ lines_text xs) ++ parts_text (item_parts y) ≡ old ++ lines_text (xs ++ y ∷ [])
line_more old xs y =
    let one : lines_text (y ∷ []) ≡ parts_text (item_parts y) = ap parts_text (append-nil (item_parts y)) in
    append_assoc old (lines_text xs) (parts_text (item_parts y))
    ∙ ap (λ t. old ++ t) (ap (λ t. lines_text xs ++ t) (sym one) ∙ sym (lines_append xs (y ∷ [])))

-- a further line behind those of items
pub next_line : (old text : List ℕ) (xs more : List PlainItem) (y z : PlainItem) → text ≡ old ++ lines_text xs → z ≡ y → more ≡ xs ++ y ∷ [] → text ++ parts_text (item_parts z) ≡ old ++ lines_text more
next_line old text xs more y z before item e =
    ap₂ (λ t x. t ++ parts_text (item_parts x)) before item ∙ (line_more old xs y ∙ ap (λ zs. old ++ lines_text zs) (sym e))

-- further lines
pub next_lines : (old text : List ℕ) (xs more ys : List PlainItem) → text ≡ old ++ lines_text xs → more ≡ xs ++ ys → text ++ lines_text ys ≡ old ++ lines_text more
next_lines old text xs more ys before e =
    ap (λ t. t ++ lines_text ys) before
    ∙ (append_assoc old (lines_text xs) (lines_text ys) ∙ ap (λ t. old ++ t) (sym (lines_append xs ys) ∙ ap lines_text (sym e)))
