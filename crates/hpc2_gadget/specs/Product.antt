-- What a gadget says.
use Rattle.std.specs.Prelude.{◌≡◌, ◌≢◌, ◌<◌, ◌≤◌, ◌+◌, ◌==◌, ℕ, Bool, false, not, cond, ◌&&◌, List, max, min, slice_index_or}
use Rattle.agm_net.specs.Formula.{xor}
use Rattle.share_wiring.specs.Recombine.{xor_below}
use Rattle.share_wiring.specs.Wiring.{share}
use Rattle.agm_net.specs.declared.port.Port.{Port}
use Rattle.share_wiring.specs.Adds.{recombined, random_bits}
use Rattle.hpc2_gadget.specs.Grown.{triangle}

-- in cycle t+2 the shares z recombine to the product of x in cycle t+1 and y in cycle t
abbrev pub Multiplies : ℕ → ℕ → (ℕ → ℕ → Bool) → List ℕ → List ℕ → List ℕ → Type 0
Multiplies n cycles bits x y z = (t : ℕ) → t + 2 < cycles → recombined n (bits (t + 2)) z ≡ recombined n (bits (t + 1)) x && recombined n (bits t) y

-- the products of the first m shares with one another: the squares, then the pairs of each index with the lower ones
abbrev pub pair : (ℕ → Bool) → (ℕ → Bool) → ℕ → ℕ → Bool
pair a b i j = xor (a i && b j) (a j && b i)

abbrev pub squares : ℕ → (ℕ → Bool) → (ℕ → Bool) → Bool
squares n a b = xor_below n (λ i. a i && b i)

abbrev pub pairs : ℕ → (ℕ → Bool) → (ℕ → Bool) → Bool
pairs n a b = xor_below n (λ j. xor_below j (λ i. pair a b i j))

-- wire z is the product of a one cycle before and b two cycles before
abbrev pub SquareAt : ℕ → (ℕ → ℕ → Bool) → ℕ → ℕ → ℕ → Type 0
SquareAt cycles bits a b z = (t : ℕ) → t + 2 < cycles → bits (t + 2) z ≡ bits (t + 1) a && bits t b

abbrev pub SameAt : ℕ → (ℕ → ℕ → Bool) → ℕ → ℕ → Type 0
SameAt cycles bits x z = (t : ℕ) → t < cycles → bits t z ≡ bits t x

abbrev pub InverseAt : ℕ → (ℕ → ℕ → Bool) → ℕ → ℕ → Type 0
InverseAt cycles bits x z = (t : ℕ) → t < cycles → bits t z ≡ not (bits t x)

-- the two masked halves of a cross product
abbrev pub HalvesAt : ℕ → (ℕ → ℕ → Bool) → (a inverse b r rr u w : ℕ) → Type 0
HalvesAt cycles bits a inverse b r rr u w =
    (t : ℕ) → t + 2 < cycles → (bits (t + 2) u ≡ bits (t + 1) inverse && bits (t + 1) rr) × (bits (t + 2) w ≡ bits (t + 1) a && xor (bits t b) (bits t r))

-- what share i of a product takes of share j of the second factor: b masked by the random bit of the pair where a is 1, and that bit alone where a is 0
abbrev pub crossed : (a b r : Bool) → Bool
crossed a b r = xor (not a && r) (a && xor b r)

-- the new sum of a share exceeds the old by such a term
abbrev pub CrossAt : ℕ → (ℕ → ℕ → Bool) → (a inverse b r sum z : ℕ) → Type 0
CrossAt cycles bits a inverse b r sum z =
    (t : ℕ) → t + 2 < cycles → bits (t + 1) inverse ≡ not (bits (t + 1) a) → bits (t + 2) z ≡ xor (bits (t + 2) sum) (crossed (bits (t + 1) a) (bits t b) (bits t r))

-- bit n of `agm_r`, in the order in which bits are given, and the one that the pair of two indices takes where so many were given before
abbrev pub random_bit : List Port → ℕ → ℕ
random_bit ports n = slice_index_or (random_bits ports) n 0

abbrev pub pair_bit : List Port → ℕ → ℕ → ℕ → ℕ
pair_bit ports given i j = random_bit ports (given + (triangle (max i j) + min i j))

-- the terms of share i with the first m shares of the second factor but its own
abbrev pub cross_sum : ℕ → (ℕ → Bool) → (ℕ → Bool) → (ℕ → ℕ → Bool) → ℕ → Bool
cross_sum m a b r i = xor_below m (λ j. cond (j == i) false (crossed (a i) (b j) (r i j)))

-- In cycle t+2 share i of z is the product of the shares i of x in cycle t+1 and y in cycle t, and its terms with the other shares of y.
abbrev pub SharesAt : ℕ → ℕ → (ℕ → ℕ → Bool) → (ℕ → ℕ → ℕ) → List ℕ → List ℕ → List ℕ → Type 0
SharesAt n cycles bits random x y z =
    (t : ℕ) → t + 2 < cycles → (i : ℕ) → i < n
    → bits (t + 2) (share z i)
    ≡ xor (bits (t + 1) (share x i) && bits t (share y i)) (cross_sum n (λ k. bits (t + 1) (share x k)) (λ k. bits t (share y k)) (λ k l. bits t (random k l)) i)

-- the new sums of a pair of shares exceed the old by the two cross products
abbrev pub PairAt : ℕ → (ℕ → ℕ → Bool) → (a inverse b sum a' inverse' b' sum' z z' : ℕ) → Type 0
PairAt cycles bits a inverse b sum a' inverse' b' sum' z z' =
    (t : ℕ) → t + 2 < cycles → bits (t + 1) inverse ≡ not (bits (t + 1) a) → bits (t + 1) inverse' ≡ not (bits (t + 1) a')
    → xor (bits (t + 2) z) (bits (t + 2) z') ≡ xor (xor (bits (t + 2) sum) (bits (t + 2) sum')) (xor (bits (t + 1) a && bits t b') (bits (t + 1) a' && bits t b))

-- every inverse wire is the inversion of its share
abbrev pub Inverts : ℕ → ℕ → (ℕ → ℕ → Bool) → List ℕ → List ℕ → Type 0
Inverts n cycles bits a inverse = (i : ℕ) → i < n → InverseAt cycles bits (share a i) (share inverse i)

-- the sums grow by the pairs of share j with the first m shares
abbrev pub RowAt : ℕ → ℕ → ℕ → ℕ → (ℕ → ℕ → Bool) → List ℕ → List ℕ → List ℕ → List ℕ → List ℕ → Type 0
RowAt n j m cycles bits a inverse b sums new =
    Inverts n cycles bits a inverse → (t : ℕ) → t + 2 < cycles
    → recombined n (bits (t + 2)) new ≡ xor (recombined n (bits (t + 2)) sums) (xor_below m (λ i. pair (λ k. bits (t + 1) (share a k)) (λ k. bits t (share b k)) i j))

-- the sums grow by the pairs of the first m shares
abbrev pub RowsAt : ℕ → ℕ → ℕ → (ℕ → ℕ → Bool) → List ℕ → List ℕ → List ℕ → List ℕ → List ℕ → Type 0
RowsAt n m cycles bits a inverse b sums new =
    Inverts n cycles bits a inverse → (t : ℕ) → t + 2 < cycles
    → recombined n (bits (t + 2)) new ≡ xor (recombined n (bits (t + 2)) sums) (pairs m (λ k. bits (t + 1) (share a k)) (λ k. bits t (share b k)))

-- share j has taken its terms with the first m shares, each of these its term with share j, and the others stay
abbrev pub RowSharesAt : ℕ → ℕ → ℕ → ℕ → (ℕ → ℕ → Bool) → (ℕ → ℕ) → List ℕ → List ℕ → List ℕ → List ℕ → List ℕ → Type 0
RowSharesAt n j m cycles bits random a inverse b sums new =
    Inverts n cycles bits a inverse → (t : ℕ) → t + 2 < cycles
    → ((k : ℕ) → k < m → bits (t + 2) (share new k) ≡ xor (bits (t + 2) (share sums k)) (crossed (bits (t + 1) (share a k)) (bits t (share b j)) (bits t (random k))))
    × (bits (t + 2) (share new j) ≡ xor (bits (t + 2) (share sums j)) (xor_below m (λ i. crossed (bits (t + 1) (share a j)) (bits t (share b i)) (bits t (random i)))))
    × ((k : ℕ) → m ≤ k → k ≢ j → share new k ≡ share sums k)

-- the first m shares have taken their terms with one another, and the others stay
abbrev pub RowsSharesAt : ℕ → ℕ → ℕ → (ℕ → ℕ → Bool) → (ℕ → ℕ → ℕ) → List ℕ → List ℕ → List ℕ → List ℕ → List ℕ → Type 0
RowsSharesAt n m cycles bits random a inverse b sums new =
    Inverts n cycles bits a inverse → (t : ℕ) → t + 2 < cycles
    → ((k : ℕ) → k < m
    → bits (t + 2) (share new k) ≡ xor (bits (t + 2) (share sums k)) (cross_sum m (λ i. bits (t + 1) (share a i)) (λ i. bits t (share b i)) (λ i j. bits t (random i j)) k))
    × ((k : ℕ) → m ≤ k → share new k ≡ share sums k)

-- both, of the sums and of each share
abbrev pub RowFact : ℕ → ℕ → ℕ → ℕ → (ℕ → ℕ → Bool) → (ℕ → ℕ) → List ℕ → List ℕ → List ℕ → List ℕ → List ℕ → Type 0
RowFact n j m cycles bits random a inverse b sums new = RowAt n j m cycles bits a inverse b sums new × RowSharesAt n j m cycles bits random a inverse b sums new

abbrev pub RowsFact : ℕ → ℕ → ℕ → (ℕ → ℕ → Bool) → (ℕ → ℕ → ℕ) → List ℕ → List ℕ → List ℕ → List ℕ → List ℕ → Type 0
RowsFact n m cycles bits random a inverse b sums new = RowsAt n m cycles bits a inverse b sums new × RowsSharesAt n m cycles bits random a inverse b sums new
