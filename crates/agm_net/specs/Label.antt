-- What the names of a masked net's wires say of them. Numbers in names are decimal, without leading zeros, and below 2^32.
-- The parts are those of an HPC2 gadget: Cassiers, Grégoire, Levi and Standaert, "Hardware Private Circuits: From Trivial Composition
-- to Full Verification", IEEE Transactions on Computers, 2021.
use Rattle.std.specs.Prelude.{◌≡◌, ◌≢◌, ◌≤◌, ◌<◌, ◌+◌, ◌-◌, ◌*◌, ◌^◌, ◌⊎◌, ◌==◌, ◌++◌, ◌∷◌, ℕ, zero, suc, Bool, true, false, ◌&&◌, ◌||◌, IsTrue, List, [], Option, Some, None, length, codes, slice_index_or}
use Rattle.std.specs.List.{list_any, flat_map}
use Rattle.std.specs.Fmt.{decimal}
use Rattle.agm_net.specs.Plain.{PlainNet, select_name}
use Rattle.agm_net.specs.Role.{IsOfShare}
use Rattle.agm_net.specs.Run.{driver, reads_ever}
use Rattle.agm_net.specs.declared.label.Label.{Label}
use Rattle.agm_net.specs.declared.label.Label.TheVariants.{Clock, Public, Random, Share, Inner}
use Rattle.agm_net.specs.declared.label.Part.{Part}
use Rattle.agm_net.specs.declared.label.PartKind.{PartKind}
use Rattle.agm_net.specs.declared.label.PartKind.TheVariants.{Clk, A, B, R, Rr, Bb, Vx, V, Na, Ux, U, Wx, W, Mx, M, S, C}

-- how many pairs of n indices have a lower one below i
abbrev pub pairs_before : ℕ → ℕ → ℕ
pairs_before n zero = 0
pairs_before n (suc i) = pairs_before n i + (n - 1 - i)

-- the number of the pair (i, j), i < j, of n indices, in the order (0, 1), (0, 2), .., (1, 2), ..
abbrev pub pair_number : ℕ → ℕ → ℕ → ℕ
pair_number n i j = pairs_before n i + (j - i - 1)

-- a word and one number, as `bb_0`
abbrev pub numbered : List ℕ → ℕ → List ℕ
numbered word i = word ++ 95 ∷ decimal i

-- a word and two numbers, as `vx_0_1`
abbrev pub paired : List ℕ → ℕ → ℕ → List ℕ
paired word i j = word ++ 95 ∷ (decimal i ++ 95 ∷ decimal j)

-- The text of a part of a gadget on n shares. A kind with one index has it at i, and the j of an `s` is its place in the chain of sums.
abbrev pub part_text : ℕ → PartKind → ℕ → ℕ → List ℕ
part_text n Clk i j = codes "clk"
part_text n A i j = select_name (codes "a") i
part_text n B i j = select_name (codes "b") i
part_text n R i j = select_name (codes "r") (pair_number n i j)
part_text n Rr i j = paired (codes "rr") i j
part_text n Bb i j = numbered (codes "bb") i
part_text n Vx i j = paired (codes "vx") i j
part_text n V i j = paired (codes "v") i j
part_text n Na i j = numbered (codes "na") i
part_text n Ux i j = paired (codes "ux") i j
part_text n U i j = paired (codes "u") i j
part_text n Wx i j = paired (codes "wx") i j
part_text n W i j = paired (codes "w") i j
part_text n Mx i j = numbered (codes "mx") i
part_text n M i j = numbered (codes "m") i
part_text n S i j = paired (codes "s") i j
part_text n C i j = select_name (codes "c") i

-- a wire of gadget g: `agm_g<g>.` and a text
abbrev pub gadget_name : ℕ → List ℕ → List ℕ
gadget_name g text = codes "agm_g" ++ (decimal g ++ 46 ∷ text)

abbrev pub part_name : ℕ → ℕ → PartKind → ℕ → ℕ → List ℕ
part_name n g kind i j = gadget_name g (part_text n kind i j)

-- an inner wire that is public, and one of share i
abbrev pub public_name : List ℕ → List ℕ
public_name rest = codes "agm_p." ++ rest

abbrev pub inner_share_name : ℕ → List ℕ → List ℕ
inner_share_name i rest = codes "agm_d" ++ (decimal i ++ 46 ∷ rest)

-- a bit of a port: the port's name, or that with a number in brackets
abbrev pub IsBitOf : List ℕ → List ℕ → Type 0
IsBitOf port name = (name ≡ port) ⊎ ((k : ℕ) × (k < 2 ^ 32) × (name ≡ select_name port k))

-- one or more bytes
abbrev pub IsSome : List ℕ → Type 0
IsSome rest = 0 < length rest

-- a name that doesn't begin with `agm_`: in a masked net, that of a bit of a public port
abbrev pub IsUserName : List ℕ → Type 0
IsUserName name = (rest : List ℕ) → name ≢ codes "agm_" ++ rest

-- the names that begin with `agm_` and are public: bits of the load signal and of public initial values, and inner wires
abbrev pub IsPublicName : List ℕ → Type 0
IsPublicName name =
    IsBitOf (codes "agm_load") name ⊎ (IsBitOf (codes "agm_q_p") name ⊎ ((rest : List ℕ) × IsSome rest × (name ≡ public_name rest)))

-- a public name, where each name that doesn't begin with `agm_` is that of a port's bit
abbrev pub IsPublic : List ℕ → Type 0
IsPublic name = IsPublicName name ⊎ IsUserName name

-- a name of share i that is no part's: of a bit of a port with that share, or of an inner wire
abbrev pub IsShareName : ℕ → List ℕ → Type 0
IsShareName i name =
    ((port : List ℕ) × IsOfShare i port × IsBitOf port name) ⊎ ((i < 2 ^ 32) × (rest : List ℕ) × IsSome rest × (name ≡ inner_share_name i rest))

-- The numbers that a part has in a gadget of order d: share indices are at most d, two of them differ, and the pair that shares a
-- random bit has the lower one first; sums have places from 1; a number that the name lacks is 0.
abbrev pub HasNumbers : ℕ → PartKind → ℕ → ℕ → Type 0
HasNumbers d Clk i j = (i ≡ 0) × (j ≡ 0)
HasNumbers d A i j = (i ≤ d) × (j ≡ 0)
HasNumbers d B i j = (i ≤ d) × (j ≡ 0)
HasNumbers d R i j = (i < j) × (j ≤ d) × (pair_number (d + 1) i j < 2 ^ 32)
HasNumbers d Rr i j = (i < j) × (j ≤ d)
HasNumbers d Bb i j = (i ≤ d) × (j ≡ 0)
HasNumbers d Vx i j = (i ≤ d) × (j ≤ d) × (i ≢ j)
HasNumbers d V i j = (i ≤ d) × (j ≤ d) × (i ≢ j)
HasNumbers d Na i j = (i ≤ d) × (j ≡ 0)
HasNumbers d Ux i j = (i ≤ d) × (j ≤ d) × (i ≢ j)
HasNumbers d U i j = (i ≤ d) × (j ≤ d) × (i ≢ j)
HasNumbers d Wx i j = (i ≤ d) × (j ≤ d) × (i ≢ j)
HasNumbers d W i j = (i ≤ d) × (j ≤ d) × (i ≢ j)
HasNumbers d Mx i j = (i ≤ d) × (j ≡ 0)
HasNumbers d M i j = (i ≤ d) × (j ≡ 0)
HasNumbers d S i j = (i ≤ d) × (1 ≤ j) × (j < 2 * d)
HasNumbers d C i j = (i ≤ d) × (j ≡ 0)

-- a part of gadget g
abbrev pub part : ℕ → PartKind → ℕ → ℕ → Part
part g kind i j = record { gadget = g; kind = kind; i = i; j = j }

-- the name of a part of a gadget of order d
abbrev pub IsPartName : ℕ → Part → List ℕ → Type 0
IsPartName d p name =
    HasNumbers d p.kind p.i p.j × (p.gadget < 2 ^ 32) × (p.i < 2 ^ 32) × (p.j < 2 ^ 32) × (name ≡ part_name (d + 1) p.gadget p.kind p.i p.j)

-- what the parts of a kind depend on: the clock alone, share i alone, or a pair of shares
abbrev pub is_clock_kind : PartKind → Bool
is_clock_kind Clk = true
is_clock_kind _ = false

abbrev pub is_inner_kind : PartKind → Bool
is_inner_kind R = true
is_inner_kind Rr = true
is_inner_kind Vx = true
is_inner_kind V = true
is_inner_kind Ux = true
is_inner_kind Wx = true
is_inner_kind _ = false

abbrev pub is_share_kind : PartKind → Bool
is_share_kind Clk = false
is_share_kind R = false
is_share_kind Rr = false
is_share_kind Vx = false
is_share_kind V = false
is_share_kind Ux = false
is_share_kind Wx = false
is_share_kind _ = true

-- the label of a part of this kind
abbrev pub part_label : PartKind → Part → Label
part_label Clk p = Clock
part_label R p = Inner p
part_label Rr p = Inner p
part_label Vx p = Inner p
part_label V p = Inner p
part_label Ux p = Inner p
part_label Wx p = Inner p
part_label _ p = Share p.i (Some p)

-- a name that counts as share i in a net of order d: it is no part's, or that of a part that depends on share i alone
abbrev pub CountsAsShare : ℕ → ℕ → List ℕ → Type 0
CountsAsShare d i name = IsShareName i name ⊎ ((p : Part) × IsTrue (is_share_kind p.kind) × (p.i ≡ i) × IsPartName d p name)

-- the name of a wire; past the last wire none
abbrev pub name_of : PlainNet → ℕ → List ℕ
name_of net w = slice_index_or net.wires w []

-- whether a wire is a bit of a port
abbrev pub is_port_bit : PlainNet → ℕ → Bool
is_port_bit net w = list_any (λ b. b == w) (flat_map (λ p. p.bits) net.ports)

-- whether the expression of wire w reads wire v, or v is the clock of the register w
abbrev pub is_reader : PlainNet → ℕ → ℕ → Bool
is_reader net w v = reads_ever (driver net w) v || list_any (λ r. (r.q == w) && (r.clock == v)) net.registers

-- the wire w is a part in a net of order d
abbrev pub IsPart : PlainNet → ℕ → ℕ → Part → Type 0
IsPart net d w p = IsPartName d p (name_of net w)

-- the part p reads wire w, and nothing else does
abbrev pub IsReadByPart : PlainNet → ℕ → ℕ → Part → Type 0
IsReadByPart net d w p = (v : ℕ) × IsPart net d v p × IsTrue (is_reader net v w) × ((u : ℕ) → IsTrue (is_reader net u w) → u ≡ v)

-- The label of a wire in a net of order d. That of a bit of `agm_r` is the pair of the one part that reads it. Of the names that
-- don't begin with `agm_` those of bits of ports are public, and others have no label.
abbrev pub HasLabel : PlainNet → ℕ → ℕ → Label → Type 0
HasLabel net d w Clock = (name_of net w ≡ codes "agm_clk") ⊎ ((p : Part) × (p.kind ≡ Clk) × IsPart net d w p)
HasLabel net d w Public = IsPublicName (name_of net w) ⊎ (IsUserName (name_of net w) × IsTrue (is_port_bit net w))
HasLabel net d w (Random g i j) = IsBitOf (codes "agm_r") (name_of net w) × IsReadByPart net d w (part g R i j)
HasLabel net d w (Share i None) = (i ≤ d) × IsShareName i (name_of net w)
HasLabel net d w (Share i (Some p)) = IsTrue (is_share_kind p.kind) × (p.i ≡ i) × IsPart net d w p
HasLabel net d w (Inner p) = IsTrue (is_inner_kind p.kind) × IsPart net d w p

-- what a wire of share i may read: a public wire, or one that counts as share i
abbrev pub MayServe : PlainNet → ℕ → ℕ → ℕ → Type 0
MayServe net d i w = HasLabel net d w Public ⊎ ((part : Option Part) × HasLabel net d w (Share i part))
