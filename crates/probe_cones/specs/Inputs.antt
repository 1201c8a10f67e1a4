-- How the bits of `agm_r` stand among the other input bits, and the run of a net for both.
use Rattle.std.specs.Prelude.{◌==◌, ℕ, Bool, true, false, not, ◌&&◌, cond, List, [], ◌∷◌, Option, Some, None, map, filter, length, drop, max, codes, slice_index_or}
use Rattle.std.specs.List.{flat_map, range_with_len}
use Rattle.std.specs.Str.{bytes_eq}
use Rattle.agm_net.specs.Plain.{PlainNet, is_input, data_ports}
use Rattle.agm_net.specs.Trace.{Row, row_at}
use Rattle.agm_net.specs.Run.{bit_in}
use Rattle.agm_net.specs.declared.port.Port.{Port}
use Rattle.probe_cones.specs.Shares.{share_of}

-- A shared bit of the original: the name of what is shared (empty for the registers' initial values), and the place in its ports.
abbrev pub Secret : Type 0
Secret = List ℕ × ℕ

abbrev pub same_secret : Secret → Secret → Bool
same_secret x y = bytes_eq x.0 y.0 && (x.1 == y.1)

-- What an input bit is, by the name of its port: fresh and random, a share of a shared bit, or public.
pub data BitRole : Type 0 where
  random_bit : BitRole
  share_bit : (index : ℕ) → Secret → BitRole
  open_bit : BitRole

abbrev pub share_role : Option (ℕ × List ℕ) → ℕ → BitRole
share_role None place = open_bit
share_role (Some s) place = share_bit s.0 (s.1, place)

abbrev pub bit_role : List ℕ → ℕ → BitRole
bit_role name place = cond (bytes_eq name (codes "agm_r")) random_bit (share_role (share_of name) place)

abbrev pub port_roles : Port → List BitRole
port_roles p = map (bit_role p.name) (range_with_len 0 (length p.bits))

-- the roles of all input bits, in their order; those of the bits without `agm_r`; and how many bits `agm_r` has
abbrev pub bit_roles : PlainNet → List BitRole
bit_roles net = flat_map port_roles (filter is_input (data_ports net))

abbrev pub is_random : BitRole → Bool
is_random random_bit = true
is_random _ = false

abbrev pub roles : PlainNet → List BitRole
roles net = filter (λ role. not (is_random role)) (bit_roles net)

abbrev pub random_width : PlainNet → ℕ
random_width net = length (filter is_random (bit_roles net))

abbrev pub first_bit : Row → Bool
first_bit row = slice_index_or row 0 false

-- A row of input bits from those without `agm_r` and those of `agm_r`, each in the order of the ports, where bit 0 of `agm_r[n:0]` is
-- its last. Bits that lack are 0.
abbrev pub joined : List BitRole → Row → Row → Row
joined [] others random = []
joined (r ∷ rs) others random =
    cond (is_random r) (first_bit random ∷ joined rs others (drop 1 random)) (first_bit others ∷ joined rs (drop 1 others) random)

-- its inverse: the bits with these roles that are random, and those that are not
abbrev pub picked : (BitRole → Bool) → List BitRole → Row → Row
picked p [] row = []
picked p (r ∷ rs) [] = []
picked p (r ∷ rs) (b ∷ row) = cond (p r) (b ∷ picked p rs row) (picked p rs row)

abbrev pub random_of : PlainNet → Row → Row
random_of net = picked is_random (bit_roles net)

abbrev pub others_of : PlainNet → Row → Row
others_of net = picked (λ role. not (is_random role)) (bit_roles net)

-- the tape of all input bits, cycle by cycle
abbrev pub with_random : PlainNet → List Row → List Row → List Row
with_random net inputs random =
    map (λ t. joined (bit_roles net) (row_at inputs t) (row_at random t)) (range_with_len 0 (max (length inputs) (length random)))

-- the bits of the run with these power-up contents, this tape without `agm_r`, and this random tape
abbrev pub bit_with : PlainNet → Row → List Row → List Row → ℕ → ℕ → Bool
bit_with net power inputs random = bit_in net power (with_random net inputs random)
