-- Sums that grow by pairs.
use Rattle.std.proofs.Common.{◌≡◌, ◌≢◌, ◌<◌, ◌+◌, ℕ, zero, suc, Bool, true, false, ◌&&◌, List, length, slice_set, refl, sym, ap, subst, inl, inr, ◌∙◌, arith, add-one}
use Rattle.std.proofs.lemmas.List.{get_or-set_other, get_or-set_same, length-set}
use Rattle.std.proofs.lemmas.Bool.{cases_eq}
use Rattle.agm_net.specs.Formula.{xor}
use Rattle.share_wiring.specs.Recombine.{xor_below}
use Rattle.share_wiring.specs.Wiring.{share}
use Rattle.share_wiring.specs.Adds.{recombined, Copies}
use Rattle.share_wiring.proofs.Recombine.{xor_same}
use Rattle.hpc2_gadget.specs.Product.{pair, pairs, PairAt, Inverts, RowAt, RowsAt, Multiplies, SameAt, SquareAt}
use Rattle.hpc2_gadget.proofs.Sums.{product}

pub xor_none : (x : Bool) → x ≡ xor x false
xor_none false = refl
xor_none true = refl

pub xor_assoc : (x y z : Bool) → xor (xor x y) z ≡ xor x (xor y z)
xor_assoc x y z = grind arith

-- one place of a sum is changed
xor_update : (n i : ℕ) (f g : ℕ → Bool) → i < n → ((k : ℕ) → k ≢ i → g k ≡ f k) → xor_below n g ≡ xor (xor_below n f) (xor (f i) (g i))
xor_update zero i f g lt h = absurd (omega arith)
xor_update (suc n) i f g lt h =
    elim (cases_eq n i) [
      | inl same ↦
          (let front = xor_same n g f (λ k l. h k (let j = same in omega arith)) in
          let close : (s p q : Bool) → xor s q ≡ xor (xor s p) (xor p q) = λ s p q. grind arith in
          subst (λ m. xor_below (suc n) g ≡ xor (xor_below (suc n) f) (xor (f m) (g m))) same
          (ap (λ s. xor s (g n)) front ∙ close (xor_below n f) (f n) (g n)))
      | inr other ↦
          (let rest = xor_update n i f g (omega (arith, other)) h in
          let close : (s d x : Bool) → xor (xor s d) x ≡ xor (xor s x) d = λ s d x. grind arith in
          ap (λ s. xor s (g n)) rest ∙ (ap (λ x. xor (xor (xor_below n f) (xor (f i) (g i))) x) (h n other) ∙ close (xor_below n f) (xor (f i) (g i)) (f n)))
    ]

-- one share is changed
pub recombined-set : (n : ℕ) (bit : ℕ → Bool) (shares : List ℕ) (i w : ℕ) → i < n → length shares ≡ n → recombined n bit (slice_set shares i w) ≡ xor (recombined n bit shares) (xor (bit (share shares i)) (bit w))
recombined-set n bit shares i w lt len =
    let here : share (slice_set shares i w) i ≡ w = get_or-set_same shares i w 0 (subst (λ k. i < k) (sym len) lt) in
    xor_update n i (λ k. bit (share shares k)) (λ k. bit (share (slice_set shares i w) k)) lt (λ k other. ap bit (get_or-set_other shares i k w 0 other))
    ∙ ap (λ v. xor (recombined n bit shares) (xor (bit (share shares i)) (bit v))) here

gather : (R c d p q : Bool) → xor (xor R (xor c p)) (xor d q) ≡ xor R (xor (xor c d) (xor p q))
gather R c d p q = grind arith

cancel : (R k y : Bool) → xor R (xor k (xor k y)) ≡ xor R y
cancel R k y = grind arith

-- the pair (m, j) is added
pub row_more : (n j m cycles : ℕ) (bits : ℕ → ℕ → Bool) (a inverse b sums shares : List ℕ) (p q : ℕ) → m < j → j < n → length shares ≡ n
    → RowAt n j m cycles bits a inverse b sums shares
    → PairAt cycles bits (share a m) (share inverse m) (share b m) (share shares m) (share a j) (share inverse j) (share b j) (share shares j) p q
    → RowAt n j (m + 1) cycles bits a inverse b sums (slice_set (slice_set shares m p) j q)
row_more n j m cycles bits a inverse b sums shares p q below index len before added inverted t lt =
    let bit = bits (t + 2) in
    let one = slice_set shares m p in
    let old : share one j ≡ share shares j = get_or-set_other shares m j p 0 (omega arith) in
    let first = recombined-set n bit shares m p (omega arith) len in
    let second = recombined-set n bit one j q index (length-set shares m p ∙ len) in
    let R = recombined n bit shares in
    let c = bit (share shares m) in
    let d = bit (share shares j) in
    let fa : ℕ → Bool = λ k. bits (t + 1) (share a k) in
    let fb : ℕ → Bool = λ k. bits t (share b k) in
    let y = pair fa fb m j in
    let new = added t lt (inverted m (omega arith) (t + 1) (omega arith)) (inverted j index (t + 1) (omega arith)) in
    let row = xor_below m (λ i. pair fa fb i j) in
    let all : recombined n bit (slice_set one j q) ≡ xor (recombined n bit sums) (xor row y) =
    second ∙ (ap (λ v. xor (recombined n bit one) (xor (bit v) (bit q))) old
    ∙ (ap (λ v. xor v (xor d (bit q))) first
    ∙ (gather R c d (bit p) (bit q)
    ∙ (ap (λ v. xor R (xor (xor c d) v)) new
    ∙ (cancel R (xor c d) y
    ∙ (ap (λ v. xor v y) (before inverted t lt)
    ∙ xor_assoc (recombined n bit sums) row y)))))) in
    subst (λ k. recombined n bit (slice_set one j q) ≡ xor (recombined n bit sums) (xor_below k (λ i. pair fa fb i j))) (sym (add-one m)) all

pub rows_more : (n j cycles : ℕ) (bits : ℕ → ℕ → Bool) (a inverse b sums shares new : List ℕ)
    → RowsAt n j cycles bits a inverse b sums shares → RowAt n j j cycles bits a inverse b shares new → RowsAt n (j + 1) cycles bits a inverse b sums new
rows_more n j cycles bits a inverse b sums shares new before added inverted t lt =
    let fa : ℕ → Bool = λ k. bits (t + 1) (share a k) in
    let fb : ℕ → Bool = λ k. bits t (share b k) in
    let all : recombined n (bits (t + 2)) new ≡ xor (recombined n (bits (t + 2)) sums) (pairs (suc j) fa fb) =
    added inverted t lt ∙ (ap (λ v. xor v (xor_below j (λ i. pair fa fb i j))) (before inverted t lt) ∙ xor_assoc (recombined n (bits (t + 2)) sums) (pairs j fa fb) (xor_below j (λ i. pair fa fb i j))) in
    subst (λ k. recombined n (bits (t + 2)) new ≡ xor (recombined n (bits (t + 2)) sums) (pairs k fa fb)) (sym (add-one j)) all

-- the stages of the gadget are the product
pub whole : (n cycles : ℕ) (bits : ℕ → ℕ → Bool) (x y a b inverse sums all : List ℕ) → ((k : ℕ) → k < n → SameAt cycles bits (share x k) (share a k)) → ((k : ℕ) → k < n → SameAt cycles bits (share y k) (share b k))
    → Inverts n cycles bits a inverse → ((k : ℕ) → k < n → SquareAt cycles bits (share a k) (share b k) (share sums k)) → RowsAt n n cycles bits a inverse b sums all → Multiplies n cycles bits x y all
whole n cycles bits x y a b inverse sums all same same' inverted squared grown t lt =
    let fa : ℕ → Bool = λ k. bits (t + 1) (share a k) in
    let fb : ℕ → Bool = λ k. bits t (share b k) in
    let first = xor_same n fa (λ k. bits (t + 1) (share x k)) (λ k l. same k l (t + 1) (omega arith)) in
    let second = xor_same n fb (λ k. bits t (share y k)) (λ k l. same' k l t (omega arith)) in
    let start = xor_same n (λ k. bits (t + 2) (share sums k)) (λ k. fa k && fb k) (λ k l. squared k l t lt) in
    grown inverted t lt ∙ (ap (λ v. xor v (pairs n fa fb)) start ∙ (product n fa fb ∙ (ap (λ v. v && xor_below n fb) first ∙ ap (λ v. recombined n (bits (t + 1)) x && v) second)))

-- so are copies of its shares
pub copied : (n cycles : ℕ) (bits : ℕ → ℕ → Bool) (x y c z : List ℕ) → Multiplies n cycles bits x y c → Copies n cycles bits c z → Multiplies n cycles bits x y z
copied n cycles bits x y c z made same t lt =
    xor_same n (λ i. bits (t + 2) (share z i)) (λ i. bits (t + 2) (share c i)) (λ i h. same (t + 2) lt i h) ∙ made t lt
