-- What drives a wire, with the bits of `agm_r` apart from the other input bits.
use Rattle.std.proofs.Common.{◌≡◌, ◌+◌, ℕ, zero, suc, ◌<◌, ◌≤◌, Bool, true, false, not, cond, List, [], ◌∷◌, ◌++◌, map, length, max, drop, filter, flat_map, slice_index_or, Some, slice_get, refl, sym, ap, ap₂, ◌∙◌, ⊎_elim, arith}
use Rattle.std.proofs.lemmas.Bool.{cases_lt}
use Rattle.std.specs.List.{range_with_len}
use Rattle.agm_net.specs.Formula.{Formula, value, stands}
use Rattle.agm_net.specs.Plain.{PlainNet, input_bits, is_input, data_ports}
use Rattle.agm_net.specs.Loop.{HasNoLoop, IsRanked}
use Rattle.agm_net.specs.Run.{Driver, d_input, d_clock, d_equation, d_register, d_nothing, driver, HasDriver, bit_in}
use Rattle.agm_net.specs.Run as run
use Rattle.agm_net.specs.Trace.{Row, row_at, bit_at}
use Rattle.agm_net.specs.WellFormed.{WellFormed}
use Rattle.agm_net.specs.declared.port.Port.{Port}
use Rattle.probe_cones.specs.Cone as cone
use Rattle.agm_net.proofs.Driving.{is_driven, now_is_ever, reads_are_wires, reads_is}
use Rattle.agm_net.proofs.Ranks.{ranked}
use Rattle.agm_net.proofs.Runs as runs
use Rattle.probe_cones.specs.Inputs.{BitRole, open_bit, is_random, bit_role, port_roles, bit_roles, first_bit, joined, with_random, bit_with}

pub data Source : Type 0 where
  Input : ℕ → Source
  Random : ℕ → Source
  Clock : Source
  Equation : Formula → Source
  Register : ℕ → Formula → Source

abbrev pub is_other : BitRole → Bool
is_other role = not (is_random role)

-- how many of the first n pass
abbrev pub rank_in : (BitRole → Bool) → List BitRole → ℕ → ℕ
rank_in p [] n = 0
rank_in p (r ∷ rs) zero = 0
rank_in p (r ∷ rs) (suc n) = cond (p r) (suc (rank_in p rs n)) (rank_in p rs n)

abbrev pub source_at : List BitRole → ℕ → Source
source_at rs n = cond (is_random (slice_index_or rs n open_bit)) (Random (rank_in is_random rs n)) (Input (rank_in is_other rs n))

abbrev pub source_of : PlainNet → Driver → Source
source_of net (d_input n) = source_at (bit_roles net) n
source_of net d_clock = Clock
source_of net (d_equation f) = Equation f
source_of net (d_register n next) = Register n next
source_of net d_nothing = Clock

abbrev pub source : PlainNet → ℕ → Source
source net w = source_of net (driver net w)

abbrev pub asked : Source → Row → (inputs random : List Row) → (before now : ℕ → Bool) → ℕ → Bool
asked (Input n) power inputs random before now t = bit_at inputs t n
asked (Random n) power inputs random before now t = bit_at random t n
asked Clock power inputs random before now t = false
asked (Equation e) power inputs random before now t = value now e
asked (Register n next) power inputs random before now zero = slice_index_or power n false
asked (Register n next) power inputs random before now (suc t) = value before next

abbrev pub reads_now : Source → ℕ → Bool
reads_now (Equation e) v = stands v e
reads_now _ v = false

abbrev pub reads_ever : Source → ℕ → Bool
reads_ever (Equation e) v = stands v e
reads_ever (Register n next) v = stands v next
reads_ever _ v = false

-- a net whose wires are ranked
pub record Ranked (net : PlainNet) : Type 0 where
  pub well : WellFormed net
  pub by_ranks : IsRanked net
  pub rank : ℕ → ℕ
  pub few : (w : ℕ) → w < length net.wires → rank w < length net.wires
  pub lower : (w v : ℕ) → w < length net.wires → reads_now (source net w) v ≡ true → (v < length net.wires) × (rank v < rank w)

input_reads : (rs : List BitRole) (n v : ℕ) → (b : Bool) → reads_ever (cond b (Random (rank_in is_random rs n)) (Input (rank_in is_other rs n))) v ≡ false
input_reads rs n v true = refl
input_reads rs n v false = refl

pub ever_of : (net : PlainNet) (d : Driver) (v : ℕ) → reads_ever (source_of net d) v ≡ run.reads_ever d v
ever_of net (d_input n) v = input_reads (bit_roles net) n v (is_random (slice_index_or (bit_roles net) n open_bit))
ever_of net d_clock v = refl
ever_of net (d_equation f) v = refl
ever_of net (d_register n next) v = refl
ever_of net d_nothing v = refl

input_reads_now : (rs : List BitRole) (n v : ℕ) → (b : Bool) → reads_now (cond b (Random (rank_in is_random rs n)) (Input (rank_in is_other rs n))) v ≡ false
input_reads_now rs n v true = refl
input_reads_now rs n v false = refl

pub now_of : (net : PlainNet) (d : Driver) (v : ℕ) → reads_now (source_of net d) v ≡ run.reads_now d v
now_of net (d_input n) v = input_reads_now (bit_roles net) n v (is_random (slice_index_or (bit_roles net) n open_bit))
now_of net d_clock v = refl
now_of net (d_equation f) v = refl
now_of net (d_register n next) v = refl
now_of net d_nothing v = refl

pub ranked_by : (net : PlainNet) → WellFormed net → HasNoLoop net → Ranked net
ranked_by net well none =
    let by = ranked net well none in
    record {
      well = well;
      by_ranks = by;
      rank = by.rank;
      few = by.few;
      lower = λ w v inside h.
          let now = sym (now_of net (driver net w) v) ∙ h in
          (reads_are_wires net well w v inside (now_is_ever (driver net w) v now), by.lower w v (reads_is net well w v ∙ now));
    }

pub inside_reads : (net : PlainNet) → WellFormed net → (w v : ℕ) → w < length net.wires → reads_ever (source net w) v ≡ true → v < length net.wires
inside_reads net well w v inside h = reads_are_wires net well w v inside (sym (ever_of net (driver net w) v) ∙ h)

-- a bit of a joined row
row_bit : Source → Row → Row → Bool
row_bit (Input n) others random = slice_index_or others n false
row_bit (Random n) others random = slice_index_or random n false
row_bit _ others random = false

-- past its end a list gives the default
pub past_end : {X : Type 0} (xs : List X) (n : ℕ) (d : X) → length xs ≤ n → slice_index_or xs n d ≡ d
past_end [] n d h = refl
past_end (x ∷ xs) zero d h = absurd (omega arith)
past_end (x ∷ xs) (suc n) d h = past_end xs n d (omega arith)

drop_at : (row : Row) (k : ℕ) → slice_index_or (drop 1 row) k false ≡ slice_index_or row (suc k) false
drop_at [] k = refl
drop_at (b ∷ row) k = refl

joined_bit : (rs : List BitRole) (others random : Row) (n : ℕ) → n < length rs → slice_index_or (joined rs others random) n false ≡ row_bit (source_at rs n) others random
unfolding row_bit
joined_bit [] others random n h = absurd (omega arith)
joined_bit (r ∷ rs) others random zero h = go (is_random r)
  where
    go : (q : Bool) → slice_index_or (cond q (first_bit random ∷ joined rs others (drop 1 random)) (first_bit others ∷ joined rs (drop 1 others) random)) 0 false ≡ row_bit (cond q (Random 0) (Input 0)) others random
    go true = refl
    go false = refl
joined_bit (r ∷ rs) others random (suc n) h = go (is_random r) (is_random (slice_index_or rs n open_bit)) (joined_bit rs others (drop 1 random) n (omega arith)) (joined_bit rs (drop 1 others) random n (omega arith))
  where
    go : (q p : Bool) → slice_index_or (joined rs others (drop 1 random)) n false ≡ row_bit (cond p (Random (rank_in is_random rs n)) (Input (rank_in is_other rs n))) others (drop 1 random)
        → slice_index_or (joined rs (drop 1 others) random) n false ≡ row_bit (cond p (Random (rank_in is_random rs n)) (Input (rank_in is_other rs n))) (drop 1 others) random
        → slice_index_or (cond q (first_bit random ∷ joined rs others (drop 1 random)) (first_bit others ∷ joined rs (drop 1 others) random)) (suc n) false
        ≡ row_bit (cond p (Random (cond q (suc (rank_in is_random rs n)) (rank_in is_random rs n))) (Input (cond (not q) (suc (rank_in is_other rs n)) (rank_in is_other rs n)))) others random
    go true true a b = a ∙ drop_at random (rank_in is_random rs n)
    go true false a b = a
    go false true a b = b
    go false false a b = b ∙ drop_at others (rank_in is_other rs n)

range_at : (f : ℕ → Row) (a n t : ℕ) → t < n → slice_index_or (map f (range_with_len a n)) t [] ≡ f (a + t)
range_at f a zero t h = absurd (omega arith)
range_at f a (suc n) zero h = ap f (omega arith)
range_at f a (suc n) (suc t) h = range_at f (a + 1) n t (omega arith) ∙ ap f (omega arith)

long_range : (f : ℕ → Row) (a n : ℕ) → length (map f (range_with_len a n)) ≡ n
long_range f a zero = refl
long_range f a (suc n) = ap suc (long_range f (a + 1) n)

-- past its rows a tape has no bits
past_rows : (tape : List Row) (t n : ℕ) → length tape ≤ t → bit_at tape t n ≡ false
past_rows tape t n le = ap (λ row. slice_index_or row n false) (past_end tape t [] le)

past_bit : (s : Source) (inputs random : List Row) (t : ℕ) → length inputs ≤ t → length random ≤ t → row_bit s (row_at inputs t) (row_at random t) ≡ false
unfolding row_bit
past_bit (Input n) inputs random t a b = past_rows inputs t n a
past_bit (Random n) inputs random t a b = past_rows random t n b
past_bit Clock inputs random t a b = refl
past_bit (Equation e) inputs random t a b = refl
past_bit (Register n next) inputs random t a b = refl

input_bit : (net : PlainNet) (inputs random : List Row) (t n : ℕ) → n < length (bit_roles net) → bit_at (with_random net inputs random) t n ≡ row_bit (source_at (bit_roles net) n) (row_at inputs t) (row_at random t)
input_bit net inputs random t n small =
    let rows : ℕ → Row = λ t. joined (bit_roles net) (row_at inputs t) (row_at random t) in
    let long = max (length inputs) (length random) in
    ⊎_elim
    (λ (below : t < long). ap (λ row. slice_index_or row n false) (range_at rows 0 long t below ∙ ap rows (omega arith)) ∙ joined_bit (bit_roles net) (row_at inputs t) (row_at random t) n small)
    (λ (past : long ≤ t). past_rows (with_random net inputs random) t n (let e = long_range rows 0 long in omega arith) ∙ sym (past_bit (source_at (bit_roles net) n) inputs random t (omega arith) (omega arith)))
    (cases_lt t long)

-- each input bit has a role
map_long : {X Y : Type 0} (f : X → Y) (xs : List X) → length (map f xs) ≡ length xs
map_long f [] = refl
map_long f (x ∷ xs) = ap suc (map_long f xs)

range_long : (a n : ℕ) → length (range_with_len a n) ≡ n
range_long a zero = refl
range_long a (suc n) = ap suc (range_long (a + 1) n)

append_long : {X : Type 0} (xs ys : List X) → length (xs ++ ys) ≡ length xs + length ys
append_long [] ys = omega arith
append_long (x ∷ xs) ys = let e = append_long xs ys in omega arith

pub roles_long : (ps : List Port) → length (flat_map port_roles ps) ≡ length (flat_map (λ p. p.bits) ps)
roles_long [] = refl
roles_long (p ∷ ps) =
    append_long (port_roles p) (flat_map port_roles ps) ∙
    ap₂ (λ a b. a + b) (map_long (bit_role p.name) (range_with_len 0 (length p.bits)) ∙ range_long 0 (length p.bits)) (roles_long ps) ∙
    sym (append_long p.bits (flat_map (λ p. p.bits) ps))

found_small : {X : Type 0} (xs : List X) (n : ℕ) (x : X) → slice_get xs n ≡ Some x → n < length xs
found_small [] n x e = absurd (let no = e in cc)
found_small (y ∷ ys) zero x e = omega arith
found_small (y ∷ ys) (suc n) x e = let h = found_small ys n x e in omega arith

pub has_role : (net : PlainNet) (n w : ℕ) → slice_get (input_bits net) n ≡ Some w → n < length (bit_roles net)
has_role net n w e = let h = found_small (input_bits net) n w e in let long = roles_long (filter is_input (data_ports net)) in omega arith

module _ (net : PlainNet) (ranked : Ranked net) (power : Row) (inputs random : List Row) where
  by_driver : (d : Driver) (w t : ℕ) (past now : ℕ → Bool) → HasDriver net d w → run.asked d power (with_random net inputs random) past now t ≡ asked (source_of net d) power inputs random past now t
  unfolding row_bit
  by_driver (d_input n) w t past now drives = input_bit net inputs random t n (has_role net n w drives) ∙ go (is_random (slice_index_or (bit_roles net) n open_bit))
    where
      go : (q : Bool) → row_bit (cond q (Random (rank_in is_random (bit_roles net) n)) (Input (rank_in is_other (bit_roles net) n))) (row_at inputs t) (row_at random t)
          ≡ asked (cond q (Random (rank_in is_random (bit_roles net) n)) (Input (rank_in is_other (bit_roles net) n))) power inputs random past now t
      go true = refl
      go false = refl
  by_driver d_clock w t past now drives = refl
  by_driver (d_equation f) w t past now drives = refl
  by_driver (d_register n next) w zero past now drives = refl
  by_driver (d_register n next) w (suc t) past now drives = refl
  by_driver d_nothing w t past now drives = refl

  pub bit_is : (t w : ℕ) → w < length net.wires → bit_with net power inputs random t w ≡ asked (source net w) power inputs random (run.before (bit_with net power inputs random) t) (bit_with net power inputs random t) t
  bit_is t w inside =
      runs.bit_is net ranked.well ranked.by_ranks power (with_random net inputs random) t w inside ∙
      by_driver (driver net w) w t (run.before (bit_with net power inputs random) t) (bit_with net power inputs random t) (is_driven net ranked.well w inside)

abbrev pub is_source : Source → Bool
is_source (Input n) = true
is_source (Random n) = true
is_source Clock = false
is_source (Equation e) = false
is_source (Register n next) = true

pub source_is : (net : PlainNet) (d : Driver) → cone.is_source d ≡ is_source (source_of net d)
source_is net (d_input n) = go (is_random (slice_index_or (bit_roles net) n open_bit))
  where
    go : (q : Bool) → true ≡ is_source (cond q (Random (rank_in is_random (bit_roles net) n)) (Input (rank_in is_other (bit_roles net) n)))
    go true = refl
    go false = refl
source_is net d_clock = refl
source_is net (d_equation f) = refl
source_is net (d_register n next) = refl
source_is net d_nothing = refl
