-- Rows added bit by bit.
use Rattle.std.proofs.Common.{◌≡◌, ◌≤◌, ◌+◌, ◌++◌, ℕ, zero, suc, Bool, [], ◌∷◌, length, take, map, min, refl, ap, ◌∙◌, arith}
use Rattle.std.specs.List.{range_with_len}
use Rattle.agm_net.specs.Formula.{xor}
use Rattle.agm_net.specs.Trace.{Row}
use Rattle.share_wiring.specs.Recombine.{xor_rows, recombined_rows}
use Rattle.side_by_side.specs.Pairs.{added, recombine}

-- one bit more
pub xor_more : (p q : Row) (x y : Bool) → length p ≡ length q → xor_rows (p ++ x ∷ []) (q ++ y ∷ []) ≡ xor_rows p q ++ xor x y ∷ []
xor_more [] [] x y same = refl
xor_more [] (b ∷ q) x y same = absurd (omega (arith, same))
xor_more (a ∷ p) [] x y same = absurd (omega (arith, same))
xor_more (a ∷ p) (b ∷ q) x y same = ap (λ rs. xor a b ∷ rs) (xor_more p q x y (omega (arith, same)))

-- bits behind the shorter row don't count
pub xor_cut : (k : ℕ) (p q : Row) → min (length p) (length q) ≤ k → xor_rows (take k p) (take k q) ≡ xor_rows p q
xor_cut zero [] q le = refl
xor_cut zero (a ∷ p) [] le = refl
xor_cut zero (a ∷ p) (b ∷ q) le = absurd (omega (arith, le))
xor_cut (suc k) [] q le = refl
xor_cut (suc k) (a ∷ p) [] le = refl
xor_cut (suc k) (a ∷ p) (b ∷ q) le = ap (λ rs. xor a b ∷ rs) (xor_cut k p q (omega (arith, le)))

added_range : (n d e : ℕ) (row : ℕ → Row) → e ≡ d + n → added (recombined_rows d row) (map row (range_with_len (suc d) n)) ≡ recombined_rows e row
added_range zero d e row is = let same : d ≡ e = omega (arith, is) in ap (λ i. recombined_rows i row) same
added_range (suc n) d e row is =
    let next : suc d + 1 ≡ suc (suc d) = omega arith in
    let rest : e ≡ suc d + n = omega (arith, is) in
    ap (λ k. added (recombined_rows (suc d) row) (map row (range_with_len k n))) next ∙ added_range n (suc d) e row rest

-- the shares 0 to d, added
pub recombines : (d : ℕ) (row : ℕ → Row) → recombine (map row (range_with_len 0 (d + 1))) ≡ recombined_rows d row
recombines d row =
    let many : d + 1 ≡ suc d = omega arith in
    let first : 0 + 1 ≡ 1 = omega arith in
    let all : d ≡ 0 + d = omega arith in
    ap (λ n. recombine (map row (range_with_len 0 n))) many ∙ (ap (λ k. added (row 0) (map row (range_with_len k d))) first ∙ added_range d 0 d row all)
