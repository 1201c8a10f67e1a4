-- Calls in a row, and what they add.
use Rattle.std.proofs.Common.{◌≤◌, ◌*◌, true, false, cond, ◌≡◌, ◌<◌, ◌+◌, ℕ, Bool, List, ◌∙◌, refl, arith}
use Rattle.share_wiring.specs.Wiring.{Wiring, IsSharing}
use Rattle.share_wiring.specs.Adds.{Extends}
use Rattle.share_wiring.proofs.Runs.{extends_refl, extends_trans}
use Rattle.pipeline_balance.specs.declared.values.Value.{Value}
use Rattle.pipeline_balance.specs.Shared.{Makes, Adds}
use Rattle.pipeline_balance.specs.Valued.{size_of, wires_of, IsValue}
use Rattle.pipeline_balance.proofs.Making.{still}

-- no call adds nothing
pub adds_none : {s : ℕ} (net : Wiring) (fact : ℕ → (ℕ → ℕ → Bool) → Type 0) → ((cycles : ℕ) (bits : ℕ → ℕ → Bool) → fact cycles bits) → Adds s net net 0 0 fact
adds_none net fact h = record { extends = extends_refl net; ports = refl; begun = omega arith; given = omega arith; sound = λ h. h; value = λ cycles bits run. (run, h cycles bits) }

-- a sharing that is there is made by no call
pub makes_none : {s : ℕ} (n : ℕ) (net : Wiring) (z : List ℕ) (fact : ℕ → (ℕ → ℕ → Bool) → Type 0) → IsSharing net.wires n z → ((cycles : ℕ) (bits : ℕ → ℕ → Bool) → fact cycles bits) → Makes s net net n 0 0 z fact
makes_none n net z fact inside h =
    record { extends = extends_refl net; ports = refl; begun = omega arith; given = omega arith; sound = λ h. h; shares = inside; value = λ cycles bits run. (run, h cycles bits) }

-- what makes a sharing adds
pub adds_of : {s : ℕ} (n : ℕ) (old now : Wiring) (g r : ℕ) (z : List ℕ) (fact : ℕ → (ℕ → ℕ → Bool) → Type 0) → Makes s old now n g r z fact → Adds s old now g r fact
adds_of n old now g r z fact m = record { extends = m.extends; ports = m.ports; begun = m.begun; given = m.given; sound = m.sound; value = m.value }

-- one row of calls, and then another
pub adds_then : {s : ℕ} (old mid now : Wiring) (g h r q : ℕ) (first second : ℕ → (ℕ → ℕ → Bool) → Type 0) → Adds s old mid g r first → Adds s mid now h q second
    → Adds s old now (g + h) (r + q) (λ cycles bits. first cycles bits × second cycles bits)
adds_then old mid now g h r q first second a b =
    let begun_a = a.begun in
    let begun_b = b.begun in
    let given_a = a.given in
    let given_b = b.given in
    record {
      extends = extends_trans old mid now a.extends b.extends;
      ports = b.ports ∙ a.ports;
      begun = omega arith;
      given = omega arith;
      sound = λ h. b.sound (a.sound h);
      value = λ cycles bits run. (
          let last = b.value cycles bits run in
          let before = a.value cycles bits last.0 in
          (before.0, (before.1, last.1)));
    }

-- what follows from the fact, and the same numbers
pub adds_so : {s : ℕ} (old now : Wiring) (g h r q : ℕ) (fact other : ℕ → (ℕ → ℕ → Bool) → Type 0) → g ≡ h → r ≡ q → ((cycles : ℕ) (bits : ℕ → ℕ → Bool) → fact cycles bits → other cycles bits)
    → Adds s old now g r fact → Adds s old now h q other
adds_so old now g h r q fact other same same' follows a =
    let begun = a.begun in
    let given = a.given in
    record {
      extends = a.extends;
      ports = a.ports;
      begun = omega (arith, begun, same);
      given = omega (arith, given, same');
      sound = a.sound;
      value = λ cycles bits run. (let got = a.value cycles bits run in (got.0, follows cycles bits got.1));
    }

-- what follows of what makes a sharing
pub makes_as : {s : ℕ} (n : ℕ) (old now : Wiring) (g h r q : ℕ) (z : List ℕ) (fact other : ℕ → (ℕ → ℕ → Bool) → Type 0) → g ≡ h → r ≡ q → ((cycles : ℕ) (bits : ℕ → ℕ → Bool) → fact cycles bits → other cycles bits)
    → Makes s old now n g r z fact → Makes s old now n h q z other
makes_as n old now g h r q z fact other same same' follows a =
    let begun = a.begun in
    let given = a.given in
    record {
      extends = a.extends;
      ports = a.ports;
      begun = omega (arith, begun, same);
      given = omega (arith, given, same');
      sound = a.sound;
      shares = a.shares;
      value = λ cycles bits run. (let got = a.value cycles bits run in (got.0, follows cycles bits got.1));
    }

-- a gadget or none
pub one_times : (b : Bool) (r : ℕ) → b ≡ true → r ≡ cond b 1 0 * r
one_times true r e = omega arith
one_times false r e = absurd (cc)

pub none_times : (b : Bool) (r : ℕ) → b ≡ false → 0 ≡ cond b 1 0 * r
none_times true r e = absurd (cc)
none_times false r e = omega arith

pub one_fits : (b : Bool) (given r total : ℕ) → b ≡ true → given + cond b 1 0 * r ≤ total → given + r ≤ total
one_fits true given r total e h = let one : 1 * r ≡ r = omega arith in omega (arith, one, h)
one_fits false given r total e h = absurd (cc)

pub one_more : (b : Bool) (begun total : ℕ) → b ≡ true → begun + cond b 1 0 ≤ total → begun < total
one_more true begun total e h = omega (arith, h)
one_more false begun total e h = absurd (cc)

-- earlier values stay values
pub value_still : (n : ℕ) (old now : Wiring) (v : Value n) → Extends old now → IsValue n old v → IsValue n now v
value_still n old now v extends inside = still (size_of n v) old now (wires_of v) extends inside
