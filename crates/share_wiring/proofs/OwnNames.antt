-- The names of a builder's own wires: new by their numbers, no gadget's, and shares of their indices.
use Rattle.std.proofs.Common.{◌-◌, ◌≡◌, ◌≢◌, ◌<◌, ◌==◌, ◌^◌, ◌++◌, ◌⊎◌, ℕ, Bool, true, false, cond, List, ◌∷◌, refl, sym, inl, inr, ◌∙◌, arith, IsTrue, eq-eqb}
use Rattle.std.specs.Fmt.{decimal}
use Rattle.std.proofs.lemmas.Fmt.{decimal_injective}
use Rattle.std.proofs.lemmas.Bool.{cases_Bool}
use Rattle.agm_net.specs.Writable.{is_graphic, IsWritable}
use Rattle.agm_net.specs.Label.{IsPublic, CountsAsShare, public_name, inner_share_name, gadget_name}
use Rattle.agm_net.proofs.Lists.{all_joined}
use Rattle.share_wiring.specs.Own.{own_name}
use Rattle.share_wiring.specs.Built.{LeavesFree, IsBegun, IsInnerName}
use Rattle.share_wiring.proofs.Digits.{decimal_some, decimal_graphic, cut_number}

-- an own name by a test on the number of shares
abbrev by_test : Bool → ℕ → ℕ → List ℕ
by_test one i k = cond one (public_name (decimal k)) (inner_share_name i (decimal k))

apart : (one one' : Bool) (i i' k k' : ℕ) → i < 2 ^ 64 → i' < 2 ^ 64 → k < 2 ^ 64 → k' < 2 ^ 64 → by_test one i k ≡ by_test one' i' k' → k ≡ k'
apart true true i i' k k' hi hi' hk hk' e = let r : decimal k ≡ decimal k' = cc in decimal_injective k k' hk hk' r
apart true false i i' k k' hi hi' hk hk' e = let r : ◌≡◌ {A = ℕ} 112 100 = cc in absurd (omega (arith, r))
apart false true i i' k k' hi hi' hk hk' e = let r : ◌≡◌ {A = ℕ} 100 112 = cc in absurd (omega (arith, r))
apart false false i i' k k' hi hi' hk hk' e =
    let rest : decimal i ++ 46 ∷ decimal k ≡ decimal i' ++ 46 ∷ decimal k' = cc in
    decimal_injective k k' hk hk' (cut_number 46 i i' (decimal k) (decimal k') (omega arith) hi hi' rest).1

-- own names of different numbers differ
pub own_apart : (n n' i i' k k' : ℕ) → i < 2 ^ 64 → i' < 2 ^ 64 → k < 2 ^ 64 → k' < 2 ^ 64 → own_name n i k ≡ own_name n' i' k' → k ≡ k'
own_apart n n' i i' k k' = apart (n == 1) (n' == 1) i i' k k'

-- so an own name leaves those of later numbers free
pub own_free : (n i k more : ℕ) → k < more → k < 2 ^ 64 → i < 2 ^ 64 → LeavesFree more (own_name n i k)
own_free n i k more lt hk hi n' i' k' le small index e = let same = own_apart n n' i i' k k' hi index hk small e in omega (arith, same)

no_gadget : (one : Bool) (i k g : ℕ) (text : List ℕ) → by_test one i k ≢ gadget_name g text
no_gadget true i k g text e = let r : ◌≡◌ {A = ℕ} 112 103 = cc in absurd (omega (arith, r))
no_gadget false i k g text e = let r : ◌≡◌ {A = ℕ} 100 103 = cc in absurd (omega (arith, r))

pub own_no_gadget : (n i k g : ℕ) (text : List ℕ) → own_name n i k ≢ gadget_name g text
own_no_gadget n i k g text = no_gadget (n == 1) i k g text

-- an own name is no gadget's
pub own_begun : (n i k gadgets : ℕ) → IsBegun gadgets (own_name n i k)
own_begun n i k gadgets g text small e = absurd (no_gadget (n == 1) i k g text e)

-- a gadget's name leaves all own names free
pub gadget_free : (g more : ℕ) (text : List ℕ) → LeavesFree more (gadget_name g text)
gadget_free g more text n i k le small index e = no_gadget (n == 1) i k g text (sym e)

inner : (one : Bool) (i k : ℕ) → IsInnerName (by_test one i k)
inner true i k = (46 ∷ decimal k, inl refl)
inner false i k = (decimal i ++ 46 ∷ decimal k, inr (inl refl))

-- it is the name of an inner wire
pub own_inner : (n i k : ℕ) → IsInnerName (own_name n i k)
own_inner n i k = inner (n == 1) i k

writable : (one : Bool) (i k : ℕ) → i < 2 ^ 64 → k < 2 ^ 64 → IsWritable (by_test one i k)
writable true i k hi hk = (omega arith, (refl, (refl, (refl, (refl, (refl, (refl, decimal_graphic k hk)))))))
writable false i k hi hk = (omega arith, (refl, (refl, (refl, (refl, (refl, all_joined (λ b. IsTrue (is_graphic b)) (decimal i) (46 ∷ decimal k) (decimal_graphic i hi) (refl, decimal_graphic k hk)))))))

pub own_writable : (n i k : ℕ) → i < 2 ^ 64 → k < 2 ^ 64 → IsWritable (own_name n i k)
own_writable n i k = writable (n == 1) i k

-- it is public where there is one share, and else of its share
pub own_is_share : (n i k : ℕ) → i < 2 ^ 32 → k < 2 ^ 64 → IsPublic (own_name n i k) ⊎ ((n ≢ 1) × CountsAsShare (n - 1) i (own_name n i k))
own_is_share n i k hi hk =
    elim (cases_Bool (n == 1)) [
      | inl one ↦ rw one (inl (inl (inr (inr (decimal k, decimal_some k hk, refl)))))
      | inr other ↦ rw other
          (inr (
            λ same. (let no : (n == 1) ≡ true = eq-eqb n 1 same in let bad : false ≡ true = sym other ∙ no in absurd (let r = bad in cc)),
            inl (inr (hi, decimal k, decimal_some k hk, refl)),
          ))
    ]
