-- Calls in a row that make sharings.
use Rattle.std.proofs.Common.{◌≤◌, ◌<◌, ◌+◌, ◌-◌, ℕ, Bool, List, ◌∙◌, subst, zero-add, refl, inl, inr, arith}
use Rattle.share_wiring.specs.Wiring.{Wiring, IsSharing, IsPublicWire, share}
use Rattle.share_wiring.specs.Adds.{Extends, Stays, AddsFact}
use Rattle.share_wiring.specs.Cells.{AddsCells}
use Rattle.share_wiring.specs.Networks.{KeepsNetwork}
use Rattle.share_wiring.proofs.Runs.{extends_trans}
use Rattle.pipeline_balance.specs.Shared.{Makes}

module _ (n : ℕ) where
  -- one call of the builder
  pub by_call : {s : ℕ} (old now : Wiring) (z : List ℕ) (fact : ℕ → (ℕ → ℕ → Bool) → Type 0) → n ≤ s - 1 + 1 → Extends old now → Stays old now → AddsCells old now → ((d : ℕ) → n ≤ d + 1 → KeepsNetwork d old now)
      → IsSharing now.wires n z → AddsFact old now fact → Makes s old now n 0 0 z fact
  by_call {s} old now z fact few extends stays cells network shares value =
      let gadgets = stays.gadgets in
      let given = stays.given in
      record { extends = extends; ports = stays.ports; begun = omega arith; given = omega arith; sound = λ h. record { cells = cells h.cells; network = network (s - 1) few h.network }; shares = shares; value = value }

  -- one row of calls, and then another
  pub and_then : {s : ℕ} (m : ℕ) (old mid now : Wiring) (g h r q : ℕ) (y z : List ℕ) (first second : ℕ → (ℕ → ℕ → Bool) → Type 0) → Makes s old mid m g r y first → Makes s mid now n h q z second
      → Makes s old now n (g + h) (r + q) z (λ cycles bits. first cycles bits × second cycles bits)
  and_then m old mid now g h r q y z first second a b =
      let begun_a = a.begun in
      let begun_b = b.begun in
      let given_a = a.given in
      let given_b = b.given in
      record {
        extends = extends_trans old mid now a.extends b.extends;
        ports = b.ports ∙ a.ports;
        begun = omega arith;
        given = omega arith;
        sound = λ h. b.sound (a.sound h);
        shares = b.shares;
        value = λ cycles bits run. (
            let last = b.value cycles bits run in
            let before = a.value cycles bits last.0 in
            (before.0, (before.1, last.1)));
      }

  -- where the first begins no gadget and gives no random bit
  pub behind : {s : ℕ} (m : ℕ) (old mid now : Wiring) (h q : ℕ) (y z : List ℕ) (first second : ℕ → (ℕ → ℕ → Bool) → Type 0) → Makes s old mid m 0 0 y first → Makes s mid now n h q z second
      → Makes s old now n h q z (λ cycles bits. first cycles bits × second cycles bits)
  behind {s} m old mid now h q y z first second a b =
      subst (λ g. Makes s old now n g q z (λ cycles bits. first cycles bits × second cycles bits)) (zero-add h)
      (subst (λ r. Makes s old now n (0 + h) r z (λ cycles bits. first cycles bits × second cycles bits)) (zero-add q) (and_then m old mid now 0 h 0 q y z first second a b))

  -- what follows from the fact
  pub so : {s : ℕ} (old now : Wiring) (g r : ℕ) (z : List ℕ) (fact other : ℕ → (ℕ → ℕ → Bool) → Type 0) → ((cycles : ℕ) (bits : ℕ → ℕ → Bool) → fact cycles bits → other cycles bits)
      → Makes s old now n g r z fact → Makes s old now n g r z other
  so old now g r z fact other follows a = record {
    extends = a.extends;
    ports = a.ports;
    begun = a.begun;
    given = a.given;
    sound = a.sound;
    shares = a.shares;
    value = λ cycles bits run. (let got = a.value cycles bits run in (got.0, follows cycles bits got.1));
  }

  -- earlier sharings stay sharings
  pub still : (old now : Wiring) (x : List ℕ) → Extends old now → IsSharing old.wires n x → IsSharing now.wires n x
  still old now x extends inside i lt = extends.shares n i (share x i) (inside i lt)

-- one share, or all of them, are few enough for the order of a net
pub one_fits_order : (s : ℕ) → 1 ≤ s - 1 + 1
one_fits_order s = omega arith

pub all_fit_order : (s : ℕ) → 0 < s → s ≤ s - 1 + 1
all_fit_order s some = omega (arith, some)

-- the only share of a sharing of one share is a public wire
pub only_public : (net : Wiring) (x : List ℕ) → IsSharing net.wires 1 x → IsPublicWire net.wires (share x 0)
only_public net x inside =
    let may = inside 0 (omega arith) in
    record { within = may.within; named = elim may.named [ inl public ↦ public | inr secret ↦ absurd (secret.0 refl) ] }
