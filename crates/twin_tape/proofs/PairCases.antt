use Rattle.std.proofs.Common.{◌≡◌, Bool, true, false, not, ◌&&◌, arith}
use Rattle.agm_net.specs.Formula.{xor}
use Rattle.twin_tape.specs.Permitted.{half_change}

-- One index in, and in later too: both cross terms of it stay, whatever the other share is in the two worlds.
pub one_in_u : (a a' b b' r r' probed : Bool) → a ≡ a' → r' ≡ xor r (half_change true false probed a b b') → (not a && r) ≡ (not a' && r')
one_in_u a a' b b' r r' probed same is = grind arith

pub one_in_w : (a a' b b' r r' probed : Bool) → a ≡ a' → r' ≡ xor r (half_change true false probed a b b') → (a && xor b r) ≡ (a' && xor b' r')
one_in_w a a' b b' r r' probed same is = grind arith

-- One index in and not later, and its stored crossing is probed: the crossing stays.
pub one_in_v : (a b b' r r' last : Bool) → r' ≡ xor r (half_change false last true a b b') → xor b r ≡ xor b' r'
one_in_v a b b' r r' last is = grind arith

-- One index in and not later, and another part is probed or none: the random bit stays.
pub one_in_none : (a b b' r r' last : Bool) → r' ≡ xor r (half_change false last false a b b') → r ≡ r'
one_in_none a b b' r r' last is = grind arith

-- Past the last row nothing is read any more, and no stored crossing can be probed.
pub one_in_last : (a b b' r r' next : Bool) → r' ≡ xor r (half_change next true false a b b') → r ≡ r'
one_in_last a b b' r r' next is = grind arith

-- The exchange of the worlds undoes the change.
pub undone : (next last probed a b b' r : Bool) → xor (xor r (half_change next last probed a b b')) (half_change next last probed a b' b) ≡ r
undone next last probed a b b' r = grind arith

-- Both in or none in: the change is 0.
pub no_change : (r r' : Bool) → r' ≡ xor r false → r ≡ r'
no_change r r' is = grind arith

-- both in: the four cross terms and the crossings stay
pub both_in_w : (a a' b b' r r' : Bool) → a ≡ a' → b ≡ b' → r' ≡ xor r false → (a && xor b r) ≡ (a' && xor b' r')
both_in_w a a' b b' r r' sa sb is = grind arith
