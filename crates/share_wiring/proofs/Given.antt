-- Rows that give bits to wires.
use Rattle.std.proofs.Common.{◌≡◌, ◌≤◌, ◌==◌, ℕ, Bool, false, cond, List, [], ◌∷◌, map, length, IsTrue, refl, sym, ap₂, ◌∙◌, eq-eqb, arith}
use Rattle.std.specs.List.{AllByRecursion, list_any}
use Rattle.std.proofs.lemmas.Bool.{eqb-true, or_parts, both_ways, false_from_ne_true}
use Rattle.agm_net.specs.Trace.{Row}
use Rattle.agm_net.proofs.Lists.{map_same, count_some, count_yes, count_more}
use Rattle.agm_net.proofs.Wires.{times}

-- the row that has these bits for these wires, and 0 for the others
abbrev pub given : List ℕ → Row → ℕ → Bool
given [] row w = false
given (b ∷ bs) [] w = false
given (b ∷ bs) (x ∷ xs) w = cond (b == w) x (given bs xs w)

-- what is given for the first wire does not matter to the others
given_rest : (b : ℕ) (x : Bool) (bs : List ℕ) (xs : Row) (some : List ℕ) → list_any (λ c. c == b) some ≡ false → AllByRecursion (λ w. given (b ∷ bs) (x ∷ xs) w ≡ given bs xs w) some
given_rest b x bs xs [] none = tt
given_rest b x bs xs (w ∷ ws) none =
    let parts = or_parts (w == b) (list_any (λ c. c == b) ws) none in
    let apart : (b == w) ≡ false = false_from_ne_true (b == w) (λ same. both_ways (w == b) parts.0 (eq-eqb w b (sym (eqb-true b w same)))) in
    (rw apart refl, given_rest b x bs xs ws parts.1)

-- different wires have the bits that are given
pub given_row : (bits : List ℕ) (row : Row) → length row ≡ length bits → ((w : ℕ) → times w bits ≤ 1) → map (given bits row) bits ≡ row
given_row [] [] long once = refl
given_row [] (x ∷ xs) long once = absurd (omega arith)
given_row (b ∷ bs) [] long once = absurd (omega arith)
given_row (b ∷ bs) (x ∷ xs) long once =
    let self : IsTrue (b == b) = eq-eqb b b refl in
    let alone : list_any (λ c. c == b) bs ≡ false = false_from_ne_true (list_any (λ c. c == b) bs) (λ more.
    let two = count_yes (λ c. c == b) b bs self in let one = count_some (λ c. c == b) bs more in let most = once b in omega arith) in
    let head : given (b ∷ bs) (x ∷ xs) b ≡ x = rw self refl in
    let tail : map (given (b ∷ bs) (x ∷ xs)) bs ≡ xs =
    map_same (given (b ∷ bs) (x ∷ xs)) (given bs xs) bs (given_rest b x bs xs bs alone)
    ∙ given_row bs xs (omega arith) (λ w. let most = once w in let less = count_more (λ c. c == w) b bs in omega arith) in
    ap₂ (λ y ys. y ∷ ys) head tail
