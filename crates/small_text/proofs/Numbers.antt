-- The number that digits spell.
use Rattle.std.proofs.Common.{◌≡◌, ◌≤◌, ◌<◌, ◌+◌, ◌-◌, ◌*◌, ◌++◌, ℕ, List, [], ◌∷◌, length, take, drop, get_or, fold, ap, arith}
use Rattle.std.proofs.lemmas.List.Sums.{fold_more, fold-append}
use Rattle.std.proofs.lemmas.List.{take-append-drop}
use Rattle.small_text.specs.Bytes.{number_of}

abbrev digit_step : ℕ → ℕ → ℕ
digit_step n d = n * 10 + (d - 48)

-- more digits spell no smaller number
fold_grows : (n : ℕ) (ds : List ℕ) → n ≤ fold digit_step n ds
fold_grows n [] = omega arith
fold_grows n (d ∷ ds) = omega (arith, fold_grows (digit_step n d) ds)

-- one more digit
pub number_more : (ds : List ℕ) (i : ℕ) → i < length ds → number_of (take (i + 1) ds) ≡ number_of (take i ds) * 10 + (get_or ds i 0 - 48)
number_more ds i h = fold_more digit_step 0 ds i 0 h

-- the digits in front spell no larger number
pub number_front : (ds : List ℕ) (i : ℕ) → number_of (take i ds) ≤ number_of ds
number_front ds i =
    let whole : number_of (take i ds ++ drop i ds) ≡ fold digit_step (number_of (take i ds)) (drop i ds) = fold-append digit_step 0 (take i ds) (drop i ds) in
    let same : number_of (take i ds ++ drop i ds) ≡ number_of ds = ap number_of (take-append-drop i ds) in
    omega (arith, whole, same, fold_grows (number_of (take i ds)) (drop i ds))
