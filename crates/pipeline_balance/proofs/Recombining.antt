-- What rows of shares recombine to, place by place.
use Rattle.std.proofs.Common.{◌≡◌, ◌<◌, ◌-◌, ℕ, zero, suc, Bool, List, [], ◌∷◌, length, map, refl, sym, ap, ap₂, ◌∙◌, arith}
use Rattle.agm_net.specs.Formula.{xor}
use Rattle.share_wiring.specs.Own.{upto}
use Rattle.share_wiring.specs.Recombine.{xor_below, xor_rows, recombined_rows}
use Rattle.share_wiring.specs.Wiring.{share}
use Rattle.share_wiring.proofs.OwnWires.{map-upto, get-upto}
use Rattle.share_wiring.proofs.PortNames.{upto_cons}
use Rattle.pipeline_balance.specs.Valued.{signal}
use Rattle.pipeline_balance.specs.Ports.{row_of, public_value, secret_value, value_row}
use Rattle.pipeline_balance.proofs.Bridges.{xor_same}
use Rattle.pipeline_balance.proofs.Porting.{upto_same}

-- a list place by place
places : (f : ℕ → Bool) (xs : List ℕ) → map f xs ≡ upto (length xs) (λ j. f (share xs j))
places f [] = refl
places f (x ∷ xs) = ap (λ rest. f x ∷ rest) (places f xs) ∙ sym (upto_cons (length xs) (λ j. f (share (x ∷ xs) j)))

xor_places : (n : ℕ) (g h : ℕ → Bool) → xor_rows (upto n g) (upto n h) ≡ upto n (λ j. xor (g j) (h j))
xor_places zero g h = refl
xor_places (suc n) g h =
    ap₂ xor_rows (upto_cons n g) (upto_cons n h)
    ∙ (ap (λ rest. xor (g 0) (h 0) ∷ rest) (xor_places n (λ j. g (suc j)) (λ j. h (suc j)))
    ∙ sym (upto_cons n (λ j. xor (g j) (h j))))

rows_places : (d w : ℕ) (f : ℕ → Bool) (row : ℕ → List ℕ) → ((i : ℕ) → i < suc d → length (row i) ≡ w)
    → recombined_rows d (λ i. map f (row i)) ≡ upto w (λ j. xor_below (suc d) (λ i. f (share (row i) j)))
rows_places zero w f row wide = places f (row 0) ∙ ap (λ k. upto k (λ j. f (share (row 0) j))) (wide 0 (omega arith))
rows_places (suc d) w f row wide =
    ap₂ xor_rows (rows_places d w f row (λ i lt. wide i (omega arith))) (places f (row (suc d)) ∙ ap (λ k. upto k (λ j. f (share (row (suc d)) j))) (wide (suc d) (omega arith)))
    ∙ xor_places w (λ j. xor_below (suc d) (λ i. f (share (row i) j))) (λ j. f (share (row (suc d)) j))

pub secrets_told : (n : ℕ) (rows : List (List ℕ)) → 0 < n → ((i : ℕ) → i < n → length (row_of rows i) ≡ length (row_of rows 0)) → (bits : ℕ → ℕ → Bool) (t : ℕ)
    → recombined_rows (n - 1) (λ i. map (bits t) (row_of rows i)) ≡ value_row n bits t (upto (length (row_of rows 0)) (secret_value n rows))
secrets_told zero rows some wide bits t = absurd (omega arith)
secrets_told (suc d) rows some wide bits t =
    let w = length (row_of rows 0) in
    let one : suc d - 1 ≡ d = omega arith in
    ap (λ e. recombined_rows e (λ i. map (bits t) (row_of rows i))) one
    ∙ (rows_places d w (bits t) (row_of rows) wide
    ∙ (upto_same w (λ j. xor_below (suc d) (λ i. bits t (share (row_of rows i) j))) (λ j. signal (suc d) bits (secret_value (suc d) rows j) t)
    (λ j lt. xor_same (suc d) (λ i. bits t (share (row_of rows i) j)) (λ i. bits t (share (upto (suc d) (λ k. share (row_of rows k) j)) i))
    (λ i below. ap (bits t) (sym (get-upto (suc d) i (λ k. share (row_of rows k) j) 0 below))))
    ∙ sym (map-upto (λ v. signal (suc d) bits v t) w (secret_value (suc d) rows))))

pub publics_told : (n : ℕ) (wires : List ℕ) (bits : ℕ → ℕ → Bool) (t : ℕ) → map (bits t) wires ≡ value_row n bits t (map public_value wires)
publics_told n [] bits t = refl
publics_told n (w ∷ ws) bits t = ap (λ rest. bits t w ∷ rest) (publics_told n ws bits t)
