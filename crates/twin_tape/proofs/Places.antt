-- The place of an input bit from its place among those of its kind.
use Rattle.std.proofs.Common.{◌≡◌, ◌<◌, ℕ, zero, suc, Bool, true, false, cond, List, [], ◌∷◌, length, filter, slice_index_or, refl, ap, ◌∙◌, arith, true≢false, sym}
use Rattle.probe_cones.specs.Inputs.{BitRole, open_bit}
use Rattle.twin_tape.proofs.Sources.{rank_in}

-- the place of the n-th that passes
abbrev pub place_of : (BitRole → Bool) → List BitRole → ℕ → ℕ
place_of p [] n = 0
place_of p (r ∷ rs) zero = cond (p r) 0 (suc (place_of p rs zero))
place_of p (r ∷ rs) (suc n) = suc (place_of p rs (cond (p r) n (suc n)))

pub placed : (p : BitRole → Bool) (rs : List BitRole) (n : ℕ) → n < length (filter p rs)
    → (place_of p rs n < length rs) × (p (slice_index_or rs (place_of p rs n) open_bit) ≡ true) × (rank_in p rs (place_of p rs n) ≡ n)
placed p [] n h = absurd (omega arith)
placed p (r ∷ rs) zero h = go (p r) refl h (λ h. placed p rs zero h)
  where
    go : (b : Bool) → p r ≡ b → 0 < length (cond b (r ∷ filter p rs) (filter p rs))
        → (0 < length (filter p rs) → (place_of p rs 0 < length rs) × (p (slice_index_or rs (place_of p rs 0) open_bit) ≡ true) × (rank_in p rs (place_of p rs 0) ≡ 0))
        → (cond b 0 (suc (place_of p rs 0)) < length (r ∷ rs)) × (p (slice_index_or (r ∷ rs) (cond b 0 (suc (place_of p rs 0))) open_bit) ≡ true) × (rank_in p (r ∷ rs) (cond b 0 (suc (place_of p rs 0))) ≡ 0)
    go true e h rest = (omega arith, e, refl)
    go false e h rest = let found = rest h in (omega arith, found.1, ap (λ b. cond b (suc (rank_in p rs (place_of p rs 0))) (rank_in p rs (place_of p rs 0))) e ∙ found.2)
placed p (r ∷ rs) (suc n) h = go (p r) refl h (λ h. placed p rs n h) (λ h. placed p rs (suc n) h)
  where
    go : (b : Bool) → p r ≡ b → suc n < length (cond b (r ∷ filter p rs) (filter p rs))
        → (n < length (filter p rs) → (place_of p rs n < length rs) × (p (slice_index_or rs (place_of p rs n) open_bit) ≡ true) × (rank_in p rs (place_of p rs n) ≡ n))
        → (suc n < length (filter p rs) → (place_of p rs (suc n) < length rs) × (p (slice_index_or rs (place_of p rs (suc n)) open_bit) ≡ true) × (rank_in p rs (place_of p rs (suc n)) ≡ suc n))
        → (suc (place_of p rs (cond b n (suc n))) < length (r ∷ rs)) × (p (slice_index_or rs (place_of p rs (cond b n (suc n))) open_bit) ≡ true)
        × (cond (p r) (suc (rank_in p rs (place_of p rs (cond b n (suc n))))) (rank_in p rs (place_of p rs (cond b n (suc n)))) ≡ suc n)
    go true e h one two = let found = one (omega arith) in (omega arith, found.1, ap (λ b. cond b (suc (rank_in p rs (place_of p rs n))) (rank_in p rs (place_of p rs n))) e ∙ ap suc found.2)
    go false e h one two = let found = two h in (omega arith, found.1, ap (λ b. cond b (suc (rank_in p rs (place_of p rs (suc n)))) (rank_in p rs (place_of p rs (suc n)))) e ∙ found.2)

-- and back
pub ranked_place : (p : BitRole → Bool) (rs : List BitRole) (m : ℕ) → m < length rs → p (slice_index_or rs m open_bit) ≡ true
    → (rank_in p rs m < length (filter p rs)) × (place_of p rs (rank_in p rs m) ≡ m) × (slice_index_or (filter p rs) (rank_in p rs m) open_bit ≡ slice_index_or rs m open_bit)
ranked_place p [] m h e = absurd (omega arith)
ranked_place p (r ∷ rs) zero h e = go (p r) e
  where
    go : (b : Bool) → b ≡ true → (0 < length (cond b (r ∷ filter p rs) (filter p rs))) × (cond b 0 (suc (place_of p rs 0)) ≡ 0) × (slice_index_or (cond b (r ∷ filter p rs) (filter p rs)) 0 open_bit ≡ r)
    go true e = (omega arith, refl, refl)
    go false e = absurd (true≢false (sym e))
ranked_place p (r ∷ rs) (suc m) h e = go (p r) refl (ranked_place p rs m (omega arith) e)
  where
    go : (b : Bool) → p r ≡ b → (rank_in p rs m < length (filter p rs)) × (place_of p rs (rank_in p rs m) ≡ m) × (slice_index_or (filter p rs) (rank_in p rs m) open_bit ≡ slice_index_or rs m open_bit)
        → (cond b (suc (rank_in p rs m)) (rank_in p rs m) < length (cond b (r ∷ filter p rs) (filter p rs))) × (place_of p (r ∷ rs) (cond b (suc (rank_in p rs m)) (rank_in p rs m)) ≡ suc m)
        × (slice_index_or (cond b (r ∷ filter p rs) (filter p rs)) (cond b (suc (rank_in p rs m)) (rank_in p rs m)) open_bit ≡ slice_index_or rs m open_bit)
    go true is rest = (omega arith, ap (λ b. suc (place_of p rs (cond b (rank_in p rs m) (suc (rank_in p rs m))))) is ∙ ap suc rest.1, rest.2)
    go false is rest = (rest.0, first (rank_in p rs m) ∙ ap suc rest.1, rest.2)
      where
        first : (k : ℕ) → place_of p (r ∷ rs) k ≡ suc (place_of p rs k)
        first zero = ap (λ b. cond b 0 (suc (place_of p rs 0))) is
        first (suc k) = ap (λ b. suc (place_of p rs (cond b k (suc k)))) is
