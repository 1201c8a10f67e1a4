-- What is kept of the rules of HPC2 networks while a gadget is made: gadget g, on n shares.
use Rattle.std.specs.Prelude.{◌≡◌, ◌≢◌, ◌≤◌, ◌<◌, ◌+◌, ◌-◌, ◌*◌, ◌++◌, ◌∷◌, [], ℕ, List, length}
use Rattle.agm_net.specs.Label.{part, part_name, HasNumbers}
use Rattle.agm_net.specs.Network.{Recipe, partial_sum, pair_part, recipe, stored, sum}
use Rattle.agm_net.specs.declared.label.PartKind.{PartKind}
use Rattle.agm_net.specs.declared.label.PartKind.TheVariants.{Clk, A, B, R, Rr, Bb, Vx, V, Na, Ux, U, Wx, W, Mx, M, S}
use Rattle.share_wiring.specs.Wiring.{Wiring, share}
use Rattle.share_wiring.specs.Adds.{random_bits}
use Rattle.share_wiring.specs.Networks.{IsPartWire, IsBy, Rules}
use Rattle.share_wiring.specs.declared.gate.Source.{Source}
use Rattle.hpc2_gadget.specs.Order.{place_of}

-- wire w is the part of a kind and its numbers, and some wire is
abbrev pub At : (n g : ℕ) → Wiring → PartKind → (i j w : ℕ) → Type 0
At n g net kind i j w = IsPartWire (n - 1) net.wires (part g kind i j) w

abbrev pub Has : (n g : ℕ) → Wiring → PartKind → (i j : ℕ) → Type 0
Has n g net kind i j = (w : ℕ) × At n g net kind i j w

-- wire w is the sum of share i with its first m terms, and some wire is
abbrev pub IsSum : (n g : ℕ) → Wiring → (i m w : ℕ) → Type 0
IsSum n g net i m w = IsPartWire (n - 1) net.wires (partial_sum (n - 1) g i m) w

abbrev pub HasSum : (n g : ℕ) → Wiring → (i m : ℕ) → Type 0
HasSum n g net i m = (w : ℕ) × IsSum n g net i m w

-- the wires keep their rules, the gadgets before are whole, and the gadget has its clock
pub record Sound (n g clock : ℕ) (net : Wiring) : Type 0 where
  pub rules : Rules (n - 1) g net.wires net.given (random_bits net.ports)
  pub clocked : At n g net Clk 0 0 clock

-- a part was added, as the last wire, and nothing else
pub record AddsPart (n g : ℕ) (kind : PartKind) (i j : ℕ) (source : Source) (old new : Wiring) (w : ℕ) : Type 0 where
  pub wires : new.wires ≡ old.wires ++ (record { name = part_name n g kind i j; source = source }) ∷ []
  pub ports : new.ports ≡ old.ports
  pub given : new.given ≡ old.given
  pub number : w ≡ length old.wires

-- the parts that share i has for its product with share j, and its two sums
pub record HasHalf (n g : ℕ) (net : Wiring) (i j : ℕ) : Type 0 where
  pub masked : Has n g net Vx i j
  pub masked_later : Has n g net V i j
  pub kept : Has n g net Ux i j
  pub kept_later : Has n g net U i j
  pub crossed : Has n g net Wx i j
  pub crossed_later : Has n g net W i j
  pub odd : Has n g net S i (2 * place_of i j + 1)
  pub even : HasSum n g net i (2 * place_of i j + 2)

-- the parts of a pair
pub record HasPair (n g : ℕ) (net : Wiring) (i j : ℕ) : Type 0 where
  pub random : Has n g net R i j
  pub random_later : Has n g net Rr i j
  pub upper : HasHalf n g net i j
  pub lower : HasHalf n g net j i

-- what the halves of a product read: parts of share i of the first factor, of share j of the second, and of their pair
pub record Crosses (n g : ℕ) (net : Wiring) (i j a inverse b random stored : ℕ) : Type 0 where
  pub first : At n g net A i 0 a
  pub inverted : At n g net Na i 0 inverse
  pub second : At n g net B j 0 b
  pub masks : IsPartWire (n - 1) net.wires (pair_part (n - 1) g R i j) random
  pub masks_later : IsPartWire (n - 1) net.wires (pair_part (n - 1) g Rr i j) stored

-- what they are: the terms of share i for share j, u and w, and what these store
pub record HasCross (n g : ℕ) (net : Wiring) (i j u w : ℕ) : Type 0 where
  pub masked : Has n g net Vx i j
  pub masked_later : Has n g net V i j
  pub kept : Has n g net Ux i j
  pub kept_later : At n g net U i j u
  pub crossed : Has n g net Wx i j
  pub crossed_later : At n g net W i j w

-- the wires of one share: its factors, the inverse of the first, and its sum with so many terms
pub record IsSide (n g : ℕ) (net : Wiring) (i m a inverse b sum : ℕ) : Type 0 where
  pub first : At n g net A i 0 a
  pub inverted : At n g net Na i 0 inverse
  pub second : At n g net B i 0 b
  pub summed : IsSum n g net i m sum

-- the first m of these wires are the parts of a kind
abbrev pub AreParts : (n g : ℕ) → Wiring → PartKind → ℕ → List ℕ → Type 0
AreParts n g net kind m shares = (k : ℕ) → k < m → At n g net kind k 0 (share shares k)

-- A part of one kind is by its recipe, and that of another kind stores it. Neither is a pair's.
pub record IsStored (n g : ℕ) (net : Wiring) (now later : PartKind) (i j : ℕ) (source : Source) : Type 0 where
  pub made : IsBy (n - 1) net.wires (recipe (n - 1) g now i j) source
  pub stores : recipe (n - 1) g later i j ≡ stored (part g now i j)
  pub no_pair : now ≢ R
  pub none_later : later ≢ R

-- the recipe of the second sum of share i with share j
abbrev pub AfterOdd : (d g i j : ℕ) → Recipe
AfterOdd d g i j = sum (partial_sum d g i (2 * place_of i j + 1)) (part g W i j)

-- what a pair's parts want and give
abbrev pub MakesPair : (n g clock : ℕ) → (old new : Wiring) → (i j a inverted b total a' inverted' b' total' p q : ℕ) → Type 0
MakesPair n g clock old new i j a inverted b total a' inverted' b' total' p q =
    Sound n g clock old → IsSide n g old i (2 * place_of i j) a inverted b total → IsSide n g old j (2 * place_of j i) a' inverted' b' total'
    → Sound n g clock new × HasPair n g new i j × IsSum n g new i (2 * place_of i j + 2) p × IsSum n g new j (2 * place_of j i + 2) q

-- what the product of the shares of one index wants and gives
abbrev pub MakesSquare : (n g clock : ℕ) → (old new : Wiring) → (i a b w : ℕ) → Type 0
MakesSquare n g clock old new i a b w =
    Sound n g clock old → At n g old A i 0 a → At n g old B i 0 b → Sound n g clock new × Has n g new Bb i 0 × Has n g new Mx i 0 × At n g new M i 0 w

abbrev pub HasSquares : (n g : ℕ) → Wiring → ℕ → Type 0
HasSquares n g net m = (k : ℕ) → k < m → Has n g net Bb k 0 × Has n g net Mx k 0

-- the shares of the factors, and the inverses of those of the first
pub record AreFactors (n g : ℕ) (net : Wiring) (a inverse b : List ℕ) : Type 0 where
  pub first : AreParts n g net A n a
  pub inverted : AreParts n g net Na n inverse
  pub second : AreParts n g net B n b

-- Before the row of share j the lower shares have taken their terms with one another, and the others none.
pub record IsStarted (n g : ℕ) (net : Wiring) (j : ℕ) (shares : List ℕ) : Type 0 where
  pub lower : (k : ℕ) → k < j → IsSum n g net k (2 * (j - 1)) (share shares k)
  pub others : (k : ℕ) → j ≤ k → k < n → IsSum n g net k 0 (share shares k)

-- In the row of share j the first m shares have taken their terms with it, and it has its terms with them.
pub record IsUnderWay (n g : ℕ) (net : Wiring) (j m : ℕ) (shares : List ℕ) : Type 0 where
  pub low : (k : ℕ) → k < m → IsSum n g net k (2 * j) (share shares k)
  pub middle : (k : ℕ) → m ≤ k → k < j → IsSum n g net k (2 * (j - 1)) (share shares k)
  pub own : IsSum n g net j (2 * m) (share shares j)
  pub high : (k : ℕ) → j < k → k < n → IsSum n g net k 0 (share shares k)

abbrev pub HasRow : (n g : ℕ) → Wiring → (j m : ℕ) → Type 0
HasRow n g net j m = (k : ℕ) → k < m → HasPair n g net k j

abbrev pub HasRows : (n g : ℕ) → Wiring → ℕ → Type 0
HasRows n g net m = (i j : ℕ) → i < j → j < m → HasPair n g net i j

-- all parts are there
abbrev pub IsFull : (n g : ℕ) → Wiring → Type 0
IsFull n g net = (kind : PartKind) (i j : ℕ) → HasNumbers (n - 1) kind i j → Has n g net kind i j
