-- What the name of a wire says of it in a net, and what drives it.
use Rattle.std.specs.Prelude.{◌≡◌, ◌<◌, ◌==◌, ◌&&◌, ℕ, Bool, true, false, List, Option, Some, None, length, slice_index_or, slice_get, codes}
use Rattle.agm_net.specs.Formula.{Formula, f_zero, f_one, f_wire, f_not, f_and, f_or, f_xor, f_mux, formula_of}
use Rattle.agm_net.specs.Label.{HasLabel, IsBitOf, IsPart, is_clock_kind, is_share_kind, name_of}
use Rattle.agm_net.specs.Plain.{PlainNet, stored_of}
use Rattle.agm_net.specs.Run.{driver, d_input, d_clock, d_equation, d_register}
use Rattle.agm_net.specs.declared.label.Label.TheVariants.{Public, Share}
use Rattle.agm_net.specs.declared.label.Part.{Part}
use Rattle.hpc2_audit.specs.declared.drivers.Driven.{Driven}
use Rattle.hpc2_audit.specs.declared.drivers.Driven.TheVariants.{Bit, Clocked, Line, Flop}
use Rattle.hpc2_audit.specs.declared.places.Place.{Place}
use Rattle.hpc2_audit.specs.declared.places.Place.TheVariants.{At, Nowhere}
use Rattle.hpc2_audit.specs.declared.spelled.Spelled.{Spelled}
use Rattle.hpc2_audit.specs.declared.spelled.Spelled.TheVariants.{OfUser, OfClock, OfPublic, OfRandom, OfShare, OfPart, OfNothing}

-- a wire of which none of the labels holds that names give
pub record IsUnsaid (net : PlainNet) (d w : ℕ) : Type 0 where
  pub no_clock : name_of net w ≡ codes "agm_clk" → Prim.⊥
  pub no_public : HasLabel net d w Public → Prim.⊥
  pub no_random : IsBitOf (codes "agm_r") (name_of net w) → Prim.⊥
  pub no_share : (i : ℕ) → HasLabel net d w (Share i None) → Prim.⊥
  pub no_part : (p : Part) → IsPart net d w p → Prim.⊥

-- what a name says of wire w of a net of order d
abbrev pub Says : PlainNet → ℕ → ℕ → Spelled → Type 0
Says net d w OfUser = Prim.⊥
Says net d w OfClock = name_of net w ≡ codes "agm_clk"
Says net d w OfPublic = HasLabel net d w Public
Says net d w OfRandom = IsBitOf (codes "agm_r") (name_of net w)
Says net d w (OfShare i) = HasLabel net d w (Share i None)
Says net d w (OfPart p) = IsPart net d w p
Says net d w OfNothing = IsUnsaid net d w

abbrev pub said_at : List Spelled → ℕ → Spelled
said_at said w = slice_index_or said w OfUser

-- what the names of all wires say
pub record AreSaid (net : PlainNet) (d : ℕ) (said : List Spelled) : Type 0 where
  pub as_many : length said ≡ length net.wires
  pub told : (w : ℕ) → w < length net.wires → Says net d w (said_at said w)

-- what drives wire w
abbrev pub IsDriven : PlainNet → ℕ → Driven → Type 0
IsDriven net w Bit = (n : ℕ) × (driver net w ≡ d_input n)
IsDriven net w Clocked = driver net w ≡ d_clock
IsDriven net w (Line e) = driver net w ≡ d_equation (formula_of e.now)
IsDriven net w (Flop r) =
    (n : ℕ) × (driver net w ≡ d_register n (formula_of r.now.next)) × (slice_get net.registers n ≡ Some (stored_of r.now)) × (r.now.q ≡ w)

-- whether a wire may be read where public wires and those of a share may, if one is given
abbrev pub serves : Option ℕ → Spelled → Bool
serves index OfPublic = true
serves (Some i) (OfShare j) = j == i
serves (Some i) (OfPart p) = is_share_kind p.kind && (p.i == i)
serves index _ = false

-- whether all wires that stand in a formula pass a test
abbrev pub all_stand : (ℕ → Bool) → Formula → Bool
all_stand passes f_zero = true
all_stand passes f_one = true
all_stand passes (f_wire v) = passes v
all_stand passes (f_not x) = all_stand passes x
all_stand passes (f_and x y) = all_stand passes x && all_stand passes y
all_stand passes (f_or x y) = all_stand passes x && all_stand passes y
all_stand passes (f_xor x y) = all_stand passes x && all_stand passes y
all_stand passes (f_mux s x y) = all_stand passes s && (all_stand passes x && all_stand passes y)

abbrev pub is_there : Place → Bool
is_there (At k) = true
is_there Nowhere = false

-- whether the second of two parts is the clock of the gadget of the first
abbrev pub is_own_clock : Option Part → Option Part → Bool
is_own_clock None q = false
is_own_clock (Some p) None = false
is_own_clock (Some p) (Some q) = is_clock_kind q.kind && (q.gadget == p.gadget)

-- the part that a name says, if it is one
abbrev pub part_said : Spelled → Option Part
part_said (OfPart p) = Some p
part_said _ = None

-- what a wire may read by what its name says: public wires, and perhaps those of a share
abbrev pub asked : Spelled → Option (Option ℕ)
asked OfPublic = Some None
asked (OfShare i) = Some (Some i)
asked _ = None

abbrev pub says_clock : Spelled → Bool
says_clock OfClock = true
says_clock _ = false

abbrev pub says_random : Spelled → Bool
says_random OfRandom = true
says_random _ = false
