-- The shares of the product one by one.
use Rattle.std.proofs.Common.{◌≡◌, ◌≢◌, ◌<◌, ◌+◌, ◌==◌, ◌++◌, ℕ, suc, Bool, true, false, not, cond, ◌&&◌, max, min, List, [], ◌∷◌, length, take, slice_set, refl, sym, ap, ap₂, subst, inl, inr, ◌∙◌, arith, add-one, eq-eqb}
use Rattle.std.proofs.lemmas.List.{get_or-set_other, get_or-set_same, length-set, take_more}
use Rattle.std.proofs.lemmas.Bool.{cases_eq, ne_eqb}
use Rattle.agm_net.specs.Formula.{xor}
use Rattle.share_wiring.specs.Recombine.{xor_below}
use Rattle.share_wiring.specs.Wiring.{Wiring, share}
use Rattle.share_wiring.specs.Adds.{Copies, random_bits, given_bits}
use Rattle.share_wiring.proofs.Recombine.{xor_same}
use Rattle.hpc2_gadget.specs.Product.{crossed, CrossAt, PairAt, Inverts, random_bit, pair_bit, cross_sum, SharesAt, RowSharesAt, RowsSharesAt, SameAt, SquareAt}
use Rattle.agm_net.specs.declared.port.Port.{Port}
use Rattle.hpc2_gadget.specs.Grown.{triangle}
use Rattle.hpc2_gadget.proofs.Rows.{xor_none}

xor_assoc : (x y z : Bool) → xor (xor x y) z ≡ xor x (xor y z)
xor_assoc x y z = grind arith

drop_front : (xs a b : List ℕ) → xs ++ a ≡ xs ++ b → a ≡ b
drop_front [] a b e = e
drop_front (x ∷ xs) a b e = let r : xs ++ a ≡ xs ++ b = cc in drop_front xs a b r

-- the bit that is given next
pub bit_is_next : (old new : Wiring) (w : ℕ) → new ≡ record old { given = old.given + 1 } → old.given < length (random_bits old.ports) → given_bits new ≡ given_bits old ++ w ∷ []
    → w ≡ random_bit old.ports old.given
bit_is_next old new w is lt given =
    let there : given_bits new ≡ take (old.given + 1) (random_bits old.ports) = ap given_bits is in
    let more = take_more (random_bits old.ports) old.given 0 lt in
    let last = drop_front (take old.given (random_bits old.ports)) (w ∷ []) (random_bit old.ports old.given ∷ []) (sym given ∙ (there ∙ more)) in
    cc

-- the bit of a pair, by its indices in either order
pub pair_in_order : (ports : List Port) (given i j : ℕ) → i < j → random_bit ports (given + (triangle j + i)) ≡ pair_bit ports given i j
pair_in_order ports given i j lt =
    let high : j ≡ max i j = omega arith in
    let low : i ≡ min i j = omega arith in
    ap₂ (λ h l. random_bit ports (given + (triangle h + l))) high low

pub pair_turned : (ports : List Port) (given i j : ℕ) → i < j → random_bit ports (given + (triangle j + i)) ≡ pair_bit ports given j i
pair_turned ports given i j lt =
    let high : j ≡ max j i = omega arith in
    let low : i ≡ min j i = omega arith in
    ap₂ (λ h l. random_bit ports (given + (triangle h + l))) high low

-- the two terms of a pair in one sum
pub cross_is : (z s u w n rr a b r q : Bool) → z ≡ xor s (xor u w) → u ≡ n && rr → w ≡ a && xor b r → rr ≡ r → n ≡ not a → r ≡ q → z ≡ xor s (crossed a b q)
cross_is z s u w n rr a b r q e f g h i j = cc

two_terms : (s s' a b a' b' r : Bool) → xor (xor s (crossed a b' r)) (xor s' (crossed a' b r)) ≡ xor (xor s s') (xor (a && b') (a' && b))
two_terms s s' a b a' b' r = grind arith

-- so the random bit of a pair cancels
pub pair_of_crosses : (cycles : ℕ) (bits : ℕ → ℕ → Bool) (a inverse b sum a' inverse' b' sum' r z z' : ℕ) → CrossAt cycles bits a inverse b' r sum z → CrossAt cycles bits a' inverse' b r sum' z'
    → PairAt cycles bits a inverse b sum a' inverse' b' sum' z z'
pair_of_crosses cycles bits a inverse b sum a' inverse' b' sum' r z z' p q t lt inverted inverted' =
    ap₂ xor (p t lt inverted) (q t lt inverted') ∙ two_terms (bits (t + 2) sum) (bits (t + 2) sum') (bits (t + 1) a) (bits t b) (bits (t + 1) a') (bits t b') (bits t r)

-- no pair yet
pub row_none : (n j cycles : ℕ) (bits : ℕ → ℕ → Bool) (random : ℕ → ℕ) (a inverse b sums : List ℕ) → RowSharesAt n j 0 cycles bits random a inverse b sums sums
row_none n j cycles bits random a inverse b sums inverted t lt = (λ k below. absurd (omega arith), xor_none (bits (t + 2) (share sums j)), λ k le other. refl)

pub rows_none : (n cycles : ℕ) (bits : ℕ → ℕ → Bool) (random : ℕ → ℕ → ℕ) (a inverse b sums : List ℕ) → RowsSharesAt n 0 cycles bits random a inverse b sums sums
rows_none n cycles bits random a inverse b sums inverted t lt = (λ k below. absurd (omega arith), λ k le. refl)

-- the pair (m, j) more
pub row_shares_more : (n j m cycles : ℕ) (bits : ℕ → ℕ → Bool) (random : ℕ → ℕ) (a inverse b sums shares : List ℕ) (r p q : ℕ) → m < j → j < n → length shares ≡ n → r ≡ random m
    → RowSharesAt n j m cycles bits random a inverse b sums shares
    → CrossAt cycles bits (share a m) (share inverse m) (share b j) r (share shares m) p → CrossAt cycles bits (share a j) (share inverse j) (share b m) r (share shares j) q
    → RowSharesAt n j (m + 1) cycles bits random a inverse b sums (slice_set (slice_set shares m p) j q)
row_shares_more n j m cycles bits random a inverse b sums shares r p q below index len is before low high inverted t lt =
    let one = slice_set shares m p in
    let two = slice_set one j q in
    let past = before inverted t lt in
    let count : length one ≡ n = length-set shares m p ∙ len in
    let at_j : share two j ≡ q = get_or-set_same one j q 0 (subst (λ k. j < k) (sym count) index) in
    let at_m : share two m ≡ p =
    get_or-set_other one j m q 0 (λ e. (let same = e in omega arith)) ∙ get_or-set_same shares m p 0 (subst (λ k. m < k) (sym len) (omega arith)) in
    let at_other : (k : ℕ) → k ≢ m → k ≢ j → share two k ≡ share shares k =
    λ k other apart. get_or-set_other one j k q 0 apart ∙ get_or-set_other shares m k p 0 other in
    let lower = low t lt (inverted m (omega arith) (t + 1) (omega arith)) in
    let upper = high t lt (inverted j index (t + 1) (omega arith)) in
    let old : share shares m ≡ share sums m = past.2 m (omega arith) (λ e. (let same = e in omega arith)) in
    let term : ℕ → Bool = λ i. crossed (bits (t + 1) (share a j)) (bits t (share b i)) (bits t (random i)) in
    let last : bits (t + 2) (share two j) ≡ xor (bits (t + 2) (share sums j)) (xor_below (suc m) term) =
    ap (bits (t + 2)) at_j
    ∙ (upper
    ∙ (ap₂ (λ s v. xor s (crossed (bits (t + 1) (share a j)) (bits t (share b m)) (bits t v))) past.1 is
    ∙ xor_assoc (bits (t + 2) (share sums j)) (xor_below m term) (term m))) in (
      λ k lk.
          elim (cases_eq k m) [
            | inl same ↦ subst
                (λ i. bits (t + 2) (share two i) ≡ xor (bits (t + 2) (share sums i)) (crossed (bits (t + 1) (share a i)) (bits t (share b j)) (bits t (random i))))
                (sym same)
                (ap (bits (t + 2)) at_m ∙ (lower ∙ ap₂ (λ s v. xor (bits (t + 2) s) (crossed (bits (t + 1) (share a m)) (bits t (share b j)) (bits t v))) old is))
            | inr other ↦ ap (bits (t + 2)) (at_other k other (λ e. (let same = e in omega arith))) ∙ past.0 k (omega (arith, other))
          ],
      subst (λ i. bits (t + 2) (share two j) ≡ xor (bits (t + 2) (share sums j)) (xor_below i term)) (sym (add-one m)) last,
      λ k le apart. at_other k (λ e. (let same = e in omega arith)) apart ∙ past.2 k (omega arith) apart,
    )

-- one row more
pub rows_shares_more : (n j cycles : ℕ) (bits : ℕ → ℕ → Bool) (random : ℕ → ℕ → ℕ) (row : ℕ → ℕ) (a inverse b sums shares new : List ℕ)
    → ((i : ℕ) → i < j → row i ≡ random i j) → ((i : ℕ) → i < j → row i ≡ random j i)
    → RowsSharesAt n j cycles bits random a inverse b sums shares → RowSharesAt n j j cycles bits row a inverse b shares new → RowsSharesAt n (j + 1) cycles bits random a inverse b sums new
rows_shares_more n j cycles bits random row a inverse b sums shares new lower upper before added inverted t lt =
    let past = before inverted t lt in
    let now = added inverted t lt in
    let fa : ℕ → Bool = λ i. bits (t + 1) (share a i) in
    let fb : ℕ → Bool = λ i. bits t (share b i) in
    let fr : ℕ → ℕ → Bool = λ i l. bits t (random i l) in
    let bit = bits (t + 2) in
    let low : (k : ℕ) → k < j → bit (share new k) ≡ xor (bit (share sums k)) (cross_sum (suc j) fa fb fr k) =
    λ k lk.
    let apart : (j == k) ≡ false = ne_eqb j k (λ e. (let same = e in omega arith)) in
    let term : crossed (fa k) (fb j) (bits t (row k)) ≡ cond (j == k) false (crossed (fa k) (fb j) (fr k j)) =
    ap (λ v. crossed (fa k) (fb j) (bits t v)) (lower k lk) ∙ sym (ap (λ c. cond c false (crossed (fa k) (fb j) (fr k j))) apart) in
    now.0 k lk ∙ (ap₂ xor (past.0 k lk) term ∙ xor_assoc (bit (share sums k)) (cross_sum j fa fb fr k) (cond (j == k) false (crossed (fa k) (fb j) (fr k j)))) in
    let own : bit (share new j) ≡ xor (bit (share sums j)) (cross_sum (suc j) fa fb fr j) =
    (let same : (j == j) ≡ true = eq-eqb j j refl in
    let terms = xor_same j (λ i. crossed (fa j) (fb i) (bits t (row i))) (λ i. cond (i == j) false (crossed (fa j) (fb i) (fr j i)))
    (λ i li.
    let apart : (i == j) ≡ false = ne_eqb i j (λ e. (let is = e in omega arith)) in
    ap (λ v. crossed (fa j) (fb i) (bits t v)) (upper i li) ∙ sym (ap (λ c. cond c false (crossed (fa j) (fb i) (fr j i))) apart)) in
    let none : cond (j == j) false (crossed (fa j) (fb j) (fr j j)) ≡ false = ap (λ c. cond c false (crossed (fa j) (fb j) (fr j j))) same in
    now.1
    ∙ (ap₂ (λ s v. xor (bit s) v) (past.1 j (omega arith)) terms
    ∙ ap (λ v. xor (bit (share sums j)) v) (xor_none (cross_sum j fa fb fr j) ∙ ap (λ v. xor (cross_sum j fa fb fr j) v) (sym none)))) in (
      λ k lk.
          subst (λ m. bit (share new k) ≡ xor (bit (share sums k)) (cross_sum m fa fb fr k)) (sym (add-one j))
          (elim (cases_eq k j) [
            | inl same ↦ subst (λ i. bit (share new i) ≡ xor (bit (share sums i)) (cross_sum (suc j) fa fb fr i)) (sym same) own
            | inr other ↦ low k (omega (arith, other))
          ]),
      λ k le. now.2 k (omega arith) (λ e. (let same = e in omega arith)) ∙ past.1 k (omega arith),
    )

-- the stages of the gadget are the shares of the product
pub whole_shares : (n cycles : ℕ) (bits : ℕ → ℕ → Bool) (random : ℕ → ℕ → ℕ) (x y a b inverse sums all : List ℕ) → ((k : ℕ) → k < n → SameAt cycles bits (share x k) (share a k)) → ((k : ℕ) → k < n → SameAt cycles bits (share y k) (share b k))
    → Inverts n cycles bits a inverse → ((k : ℕ) → k < n → SquareAt cycles bits (share a k) (share b k) (share sums k)) → RowsSharesAt n n cycles bits random a inverse b sums all → SharesAt n cycles bits random x y all
whole_shares n cycles bits random x y a b inverse sums all same same' inverted squared grown t lt i li =
    let first = same i li (t + 1) (omega arith) in
    let own = same' i li t (omega arith) in
    let terms = xor_same n (λ j. cond (j == i) false (crossed (bits (t + 1) (share a i)) (bits t (share b j)) (bits t (random i j)))) (λ j. cond (j == i) false (crossed (bits (t + 1) (share x i)) (bits t (share y j)) (bits t (random i j))))
    (λ j lj. ap₂ (λ u v. cond (j == i) false (crossed u v (bits t (random i j)))) first (same' j lj t (omega arith))) in
    (grown inverted t lt).0 i li ∙ ap₂ xor (squared i li t lt ∙ ap₂ (λ u v. u && v) first own) terms

pub copied_shares : (n cycles : ℕ) (bits : ℕ → ℕ → Bool) (random : ℕ → ℕ → ℕ) (x y c z : List ℕ) → SharesAt n cycles bits random x y c → Copies n cycles bits c z → SharesAt n cycles bits random x y z
copied_shares n cycles bits random x y c z made same t lt i li = same (t + 2) lt i li ∙ made t lt i li
