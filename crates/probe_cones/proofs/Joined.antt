-- Rows of input bits by flags are those by roles.
use Rattle.std.proofs.Common.{◌≡◌, ◌+◌, ◌++◌, ◌∷◌, [], ℕ, zero, suc, Bool, true, false, cond, List, Option, Some, None, codes, drop, filter, length, length-append, map, max, replicate, refl, sym, ap, ap₂, ◌∙◌, arith}
use Rattle.std.specs.List.{All, flat_map, range_with_len}
use Rattle.std.specs.Str.{bytes_eq}
use Rattle.std.proofs.lemmas.List.FromFn.{length-map-range_with_len}
use Rattle.agm_net.specs.Plain.{PlainNet, data_ports, input_bits, is_input}
use Rattle.agm_net.specs.Trace.{Row, row_at}
use Rattle.agm_net.specs.declared.port.Port.{Port}
use Rattle.probe_cones.specs.Inputs.{BitRole, random_bit, bit_role, bit_roles, first_bit, is_random, joined, port_roles, share_role, with_random}
use Rattle.probe_cones.specs.Observing.{flags_of, joined_by, joined_rows, port_flags}
use Rattle.probe_cones.specs.Shares.{share_of}
use Rattle.probe_cones.proofs.Running.{map_range}

by_flags : (rs : List BitRole) (others random : Row) → joined_by (map is_random rs) others random ≡ joined rs others random
by_flags [] others random = refl
by_flags (r ∷ rs) others random =
    ap₂ (λ x y. cond (is_random r) (first_bit random ∷ x) (first_bit others ∷ y)) (by_flags rs others (drop 1 random)) (by_flags rs (drop 1 others) random)

role_random : (name : List ℕ) (place : ℕ) → is_random (bit_role name place) ≡ bytes_eq name (codes "agm_r")
role_random name place = go (bytes_eq name (codes "agm_r")) (share_of name)
  where
    go : (b : Bool) (o : Option (ℕ × List ℕ)) → is_random (cond b random_bit (share_role o place)) ≡ b
    go true o = refl
    go false None = refl
    go false (Some s) = refl

port_roles_random : (p : Port) (a n : ℕ) → map is_random (map (bit_role p.name) (range_with_len a n)) ≡ replicate n (bytes_eq p.name (codes "agm_r"))
port_roles_random p a zero = refl
port_roles_random p a (suc n) = ap₂ (λ b bs. b ∷ bs) (role_random p.name a) (port_roles_random p (a + 1) n)

map_joined : {X Y : Type 0} (f : X → Y) (xs ys : List X) → map f (xs ++ ys) ≡ map f xs ++ map f ys
map_joined f [] ys = refl
map_joined f (x ∷ xs) ys = ap (λ zs. f x ∷ zs) (map_joined f xs ys)

pub flags_are : (ps : List Port) → map is_random (flat_map port_roles ps) ≡ flat_map port_flags ps
flags_are [] = refl
flags_are (p ∷ ps) = map_joined is_random (port_roles p) (flat_map port_roles ps) ∙ ap₂ (λ xs ys. xs ++ ys) (port_roles_random p 0 (length p.bits)) (flags_are ps)

pub joined_is : (net : PlainNet) (others random : Row) → joined_by (flags_of (data_ports net)) others random ≡ joined (bit_roles net) others random
joined_is net others random = ap (λ fs. joined_by fs others random) (sym (flags_are (filter is_input (data_ports net)))) ∙ by_flags (bit_roles net) others random

pub rows_are : (net : PlainNet) (inputs random : List Row) → length inputs ≡ length random → joined_rows (flags_of (data_ports net)) inputs random (length inputs) ≡ with_random net inputs random
rows_are net inputs random same =
    let e : length inputs ≡ max (length inputs) (length random) = omega (arith, same) in
    ap (λ n. joined_rows (flags_of (data_ports net)) inputs random n) e
    ∙ map_range (λ t. joined_by (flags_of (data_ports net)) (row_at inputs t) (row_at random t)) (λ t. joined (bit_roles net) (row_at inputs t) (row_at random t)) 0 (max (length inputs) (length random))
    (λ t lt. joined_is net (row_at inputs t) (row_at random t))

length_times : (n : ℕ) (b : Bool) → length (replicate n b) ≡ n
length_times zero b = refl
length_times (suc n) b = ap suc (length_times n b)

flags_long : (ps : List Port) → length (flat_map port_flags ps) ≡ length (flat_map (λ (p : Port). p.bits) ps)
flags_long [] = refl
flags_long (p ∷ ps) =
    let a = length-append (port_flags p) (flat_map port_flags ps) in
    let b = length-append p.bits (flat_map (λ (q : Port). q.bits) ps) in
    let c = length_times (length p.bits) (bytes_eq p.name (codes "agm_r")) in
    let d = flags_long ps in
    omega (arith, a, b, c, d)

joined_long : (fs : List Bool) (others random : Row) → length (joined_by fs others random) ≡ length fs
joined_long [] others random = refl
joined_long (f ∷ fs) others random = go f (joined_long fs others (drop 1 random)) (joined_long fs (drop 1 others) random)
  where
    go : (b : Bool) → length (joined_by fs others (drop 1 random)) ≡ length fs → length (joined_by fs (drop 1 others) random) ≡ length fs
        → length (cond b (first_bit random ∷ joined_by fs others (drop 1 random)) (first_bit others ∷ joined_by fs (drop 1 others) random)) ≡ length (f ∷ fs)
    go true a b = ap suc a
    go false a b = ap suc b

pub wide_rows : (net : PlainNet) (inputs random : List Row) (n : ℕ) → All (λ r. length r ≡ length (input_bits net)) (joined_rows (flags_of (data_ports net)) inputs random n)
wide_rows net inputs random n = mapped 0 n
  where
    wide : (t : ℕ) → length (joined_by (flags_of (data_ports net)) (row_at inputs t) (row_at random t)) ≡ length (input_bits net)
    wide t = joined_long (flags_of (data_ports net)) (row_at inputs t) (row_at random t) ∙ flags_long (filter is_input (data_ports net))

    mapped : (a m : ℕ) → All (λ r. length r ≡ length (input_bits net)) (map (λ t. joined_by (flags_of (data_ports net)) (row_at inputs t) (row_at random t)) (range_with_len a m))
    mapped a zero k d lt = absurd (omega (arith, lt))
    mapped a (suc m) zero d lt = wide a
    mapped a (suc m) (suc k) d lt = mapped (a + 1) m k d (omega (arith, lt))

pub tape_long : (net : PlainNet) (inputs random : List Row) → length inputs ≡ length random → length (with_random net inputs random) ≡ length inputs
tape_long net inputs random same =
    length-map-range_with_len (λ t. joined (bit_roles net) (row_at inputs t) (row_at random t)) 0 (max (length inputs) (length random)) ∙ omega (arith, same)
