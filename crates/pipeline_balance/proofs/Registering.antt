-- Registers that are held and closed.
use Rattle.std.proofs.Common.{◌≡◌, ◌-◌, ◌≢◌, ◌<◌, ◌≤◌, ◌+◌, ◌++◌, ℕ, zero, suc, Bool, false, List, [], ◌∷◌, ◌⊎◌, get_or, slice_set, length, length-append, take, drop, map, refl, sym, ap, ap₂, subst, subst₂, inl, inr, ◌∙◌, arith}
use Rattle.std.proofs.lemmas.Bool.{cases_lt}
use Rattle.std.proofs.lemmas.List.{take-append-drop, map-append}
use Rattle.agm_net.specs.Label.{IsPublic, CountsAsShare}
use Rattle.share_wiring.specs.Wiring.{Wiring, MayBeShare, IsPublicWire, names, source_at, share}
use Rattle.share_wiring.specs.Own.{closed_wires}
use Rattle.share_wiring.specs.Adds.{Extends, AddsStep, AddsFact}
use Rattle.share_wiring.specs.Cells.{IsCellSource, AreCells}
use Rattle.share_wiring.specs.Networks.{KeepsNetwork}
use Rattle.share_wiring.specs.declared.gate.Wire.{Wire}
use Rattle.share_wiring.specs.declared.gate.Step.{Step}
use Rattle.share_wiring.proofs.Grown.{source_front}
use Rattle.share_wiring.proofs.OwnWires.{get-upto}
use Rattle.share_wiring.proofs.Ruling.{stay_extends}
use Rattle.share_wiring.proofs.Closing.{held_within, closed_names, closed_length, closed_other}
use Rattle.std.proofs.Math.ListN.{get_or-map}
use Rattle.pipeline_balance.specs.declared.values.Value.{Value}
use Rattle.pipeline_balance.specs.declared.values.Value.TheVariants.{Public}
use Rattle.pipeline_balance.specs.Shared.{Makes, Adds}
use Rattle.pipeline_balance.specs.Sound.{KeepsSound}
use Rattle.pipeline_balance.specs.Valued.{is_secret, size_of, wires_of, IsValue, signal, MakesValue}
use Rattle.pipeline_balance.specs.Chained.{value_at}
use Rattle.pipeline_balance.specs.Registered.{AreOpen, IsHeld, Apart, AreRegisters, HeldFrom, Goes, OthersStay, IsChosen, AreClosed}
use Rattle.pipeline_balance.proofs.Adding.{adds_none, adds_then, adds_so, adds_of, value_still}
use Rattle.pipeline_balance.proofs.Chaining.{value_front, value_last}

-- a step's wires stand behind the earlier ones
pub step_is_fresh : (s : Step) (n : ℕ) (old new : Wiring) (x y z : List ℕ) → AddsStep s n old new x y z → (i : ℕ) → i < n → length old.wires ≤ share z i
step_is_fresh s n old new x y z adds i lt =
    let at : share z i ≡ length old.wires + i = ap (λ w. share w i) adds.numbers ∙ get-upto n i (λ k. length old.wires + k) 0 lt in
    omega (arith, at)

-- what is held stays held where wires are added
pub held_stays : (n : ℕ) (old new : Wiring) (z : List ℕ) → Extends old new → AreOpen n old.wires z → AreOpen n new.wires z
held_stays n old new z extends open_ones =
    let are = open_ones.held in
    let stay = stay_extends old new extends in
    let grown : new.wires ≡ old.wires ++ drop (length old.wires) new.wires = sym (take-append-drop (length old.wires) new.wires) ∙ ap (λ (ws : List Wire). ws ++ drop (length old.wires) new.wires) extends.wires in
    record {
      held = record {
        held = λ i lt.
            ap (λ ws. source_at ws (share z i)) grown
            ∙ (source_front old.wires (drop (length old.wires) new.wires) (share z i) (held_within old.wires (share z i) (are.held i lt)) ∙ are.held i lt);
        apart = are.apart;
      };
      named = λ i lt. (let own = open_ones.named i lt in (own.0, own.1, stay.same (share z i) (held_within old.wires (share z i) (are.held i lt)) ∙ own.2));
    }

-- ---- the loop that holds registers

pub record IsHolding (n : ℕ) (old now : Wiring) (initial : List (Value n)) (k : ℕ) (held : List (Value n)) : Type 0 where
  pub count : length held ≡ k
  pub registers : AreRegisters n now (take k initial) held
  pub all_held : HeldFrom n now 0 held
  pub adds : Adds n old now 0 0 (λ cycles bits. Unit {0})

pub holding_begins : (n : ℕ) (net : Wiring) (initial held : List (Value n)) → held ≡ [] → IsHolding n net net initial 0 held
holding_begins n net initial held e =
    subst (λ h. IsHolding n net net initial 0 h) (sym e)
    (record {
      count = refl;
      registers = record { kinds = refl; values = λ i lt. absurd (omega arith); apart = λ r q lt. absurd (omega arith) };
      all_held = λ r le lt. absurd (omega arith);
      adds = adds_none net (λ cycles bits. Unit {0}) (λ cycles bits. tt);
    })

module _ (n : ℕ) (old now new : Wiring) (initial : List (Value n)) (k : ℕ) (held : List (Value n)) (z : Value n) (holding : IsHolding n old now initial k held)
    (made : MakesValue now new n 0 0 z (λ cycles bits. Unit {0})) (is : IsHeld n new z) (fresh : (i : ℕ) → i < size_of n z → length now.wires ≤ share (wires_of z) i) where
  each : (P : ℕ → Value n → Type 0) → ((r : ℕ) → r < length held → P r (value_at held r)) → P (length held) z → (r : ℕ) → r < length (held ++ z ∷ []) → P r (value_at (held ++ z ∷ []) r)
  each P before last r lt =
      let len = length-append held (z ∷ []) in
      elim (cases_lt r (length held)) [
        | inl earlier ↦ subst (P r) (sym (value_front held z r earlier)) (before r earlier)
        | inr later ↦ (let here : r ≡ length held = omega (arith, lt, len, later) in
            subst (λ j. P j (value_at (held ++ z ∷ []) j)) (sym here) (subst (P (length held)) (sym (value_last held z)) last))
      ]

  -- the wires of earlier registers stand before
  old_wires : (r : ℕ) → r < length held → (j : ℕ) → j < size_of n (value_at held r) → share (wires_of (value_at held r)) j < length now.wires
  old_wires r lt j below = held_within now.wires (share (wires_of (value_at held r)) j) ((holding.all_held r (omega arith) lt).held.held j below)

  apart_last : (r : ℕ) → r < length held → Apart n (value_at held r) z
  apart_last r lt i j li lj e = let a = old_wires r lt i li in let b = fresh j lj in omega (arith, a, b, e)

  last_apart : (r : ℕ) → r < length held → Apart n z (value_at held r)
  last_apart r lt i j li lj e = let a = old_wires r lt j lj in let b = fresh i li in omega (arith, a, b, e)

  apart_more : (r q : ℕ) → r < length (held ++ z ∷ []) → q < length (held ++ z ∷ []) → r ≢ q → Apart n (value_at (held ++ z ∷ []) r) (value_at (held ++ z ∷ []) q)
  apart_more r q lr lq differ =
      let len = length-append held (z ∷ []) in
      elim (cases_lt r (length held)) [
        | inl r_old ↦ elim (cases_lt q (length held)) [
          | inl q_old ↦ subst₂ (Apart n) (sym (value_front held z r r_old)) (sym (value_front held z q q_old)) (holding.registers.apart r q r_old q_old differ)
          | inr q_new ↦ (let here : q ≡ length held = omega (arith, lq, len, q_new) in
              subst₂ (Apart n) (sym (value_front held z r r_old)) (sym (ap (value_at (held ++ z ∷ [])) here ∙ value_last held z)) (apart_last r r_old))
        ]
        | inr r_new ↦ (let here : r ≡ length held = omega (arith, lr, len, r_new) in
            let q_old : q < length held = (let d : q ≢ length held = λ e. differ (here ∙ sym e) in omega (arith, lq, len, d)) in
            subst₂ (Apart n) (sym (ap (value_at (held ++ z ∷ [])) here ∙ value_last held z)) (sym (value_front held z q q_old)) (last_apart q q_old))
      ]

  pub holding_more : (longer : List (Value n)) (like : Value n) → longer ≡ held ++ z ∷ [] → take (k + 1) initial ≡ take k initial ++ like ∷ [] → is_secret z ≡ is_secret like → IsHolding n old new initial (k + 1) longer
  holding_more longer like e next kind =
      let len = length-append held (z ∷ []) in
      let count = holding.count in
      subst (λ h. IsHolding n old new initial (k + 1) h) (sym e)
      (record {
        count = omega (arith, len, count);
        registers = record {
          kinds =
              map-append is_secret held (z ∷ []) ∙ (ap₂ (λ ks b. ks ++ b ∷ []) holding.registers.kinds kind
              ∙ (sym (map-append is_secret (take k initial) (like ∷ [])) ∙ ap (map is_secret) (sym next)));
          values = each (λ r v. IsValue n new v) (λ r lt. value_still n now new (value_at held r) made.extends (holding.registers.values r lt)) made.shares;
          apart = apart_more;
        };
        all_held = λ r le. each (λ j v. IsHeld n new v) (λ j lt. held_stays (size_of n (value_at held j)) now new (wires_of (value_at held j)) made.extends (holding.all_held j (omega arith) lt)) is r;
        adds = adds_so old new 0 0 0 0 _ _ refl refl (λ cycles bits f. tt) (adds_then old now new 0 0 0 0 _ _ holding.adds (adds_of (size_of n z) now new 0 0 (wires_of z) _ made));
      })

-- ---- closing

may_names : (ws vs : List Wire) (n i w : ℕ) → names vs ≡ names ws → length vs ≡ length ws → MayBeShare ws n i w → MayBeShare vs n i w
may_names ws vs n i w e len h =
    record { within = subst (λ m. w < m) (sym len) h.within; named = subst (λ ns. IsPublic (get_or ns w []) ⊎ ((n ≢ 1) × CountsAsShare (n - 1) i (get_or ns w []))) (sym e) h.named }

public_names : (ws vs : List Wire) (w : ℕ) → names vs ≡ names ws → length vs ≡ length ws → IsPublicWire ws w → IsPublicWire vs w
public_names ws vs w e len h = record { within = subst (λ m. w < m) (sym len) h.within; named = subst (λ ns. IsPublic (get_or ns w [])) (sym e) h.named }

-- a register can be stated by the small form
set_cells : (wires : List Wire) (w : ℕ) (x : Wire) → IsCellSource x.source → AreCells wires → AreCells (slice_set wires w x)
set_cells [] w x own cells = tt
set_cells (v ∷ vs) zero x own cells = (own, cells.1)
set_cells (v ∷ vs) (suc w) x own cells = (cells.0, set_cells vs w x own cells.1)

closed_cells : (n : ℕ) (held next : ℕ → ℕ) (wires : List Wire) → AreCells wires → AreCells (closed_wires n held next wires)
closed_cells zero held next wires cells = cells
closed_cells (suc n) held next wires cells = set_cells (closed_wires n held next wires) (held n) _ tt (closed_cells n held next wires cells)

module _ (n : ℕ) (old mid new : Wiring) (held next : List ℕ) (extends : Extends old mid) (is : new ≡ record mid { wires = closed_wires n (share held) (share next) mid.wires }) where
  wires_are : new.wires ≡ closed_wires n (share held) (share next) mid.wires
  wires_are = ap (λ (w : Wiring). w.wires) is

  names_stay : names new.wires ≡ names mid.wires
  names_stay = ap names wires_are ∙ closed_names (share held) (share next) mid.wires n

  count_stays : length new.wires ≡ length mid.wires
  count_stays = ap (λ (ws : List Wire). length ws) wires_are ∙ closed_length (share held) (share next) mid.wires n

  pub closing_goes : {s : ℕ} (fact : ℕ → (ℕ → ℕ → Bool) → Type 0) → mid.ports ≡ old.ports → mid.gadgets ≡ old.gadgets + 0 → mid.given ≡ old.given + 0 → KeepsSound s old mid → KeepsNetwork (s - 1) mid new → AddsFact old new fact
      → Goes s old new fact
  closing_goes fact ports begun given sound network value =
      let count = count_stays in
      let grown = extends.count in
      record {
        count = omega (arith, count, grown);
        shares = λ m i w h. may_names mid.wires new.wires m i w names_stay count_stays (extends.shares m i w h);
        publics = λ w h. public_names mid.wires new.wires w names_stay count_stays (extends.publics w h);
        ports = ap (λ (w : Wiring). w.ports) is ∙ ports;
        begun = (let same = ap (λ (w : Wiring). w.gadgets) is in omega (arith, same, begun));
        given = (let same = ap (λ (w : Wiring). w.given) is in omega (arith, same, given));
        sound = λ h. (let got = sound h in record { cells = subst AreCells (sym wires_are) (closed_cells n (share held) (share next) mid.wires got.cells); network = network got.network });
        value = value;
      }

  pub closing_others : OthersStay old new n held
  closing_others m z are apart =
      let before = held_stays m old mid z extends are in
      record {
        held = record {
          held = λ i lt.
              ap (λ ws. source_at ws (share z i)) wires_are ∙ (closed_other (share held) (share next) mid.wires n (share z i) (λ j below. apart i j lt below) ∙ before.held.held i lt);
          apart = before.held.apart;
        };
        named = λ i lt. (let own = before.named i lt in (own.0, own.1, ap (λ ns. get_or ns (share z i) []) names_stay ∙ own.2));
      }

-- calls that add wires, and then calls that may close some
pub goes_behind : {s : ℕ} (old mid new : Wiring) (n : ℕ) (z : List ℕ) (first second : ℕ → (ℕ → ℕ → Bool) → Type 0) → Makes s old mid n 0 0 z first → Goes s mid new second → Goes s old new (λ cycles bits. first cycles bits × second cycles bits)
goes_behind old mid new n z first second a b =
    let count_a = a.extends.count in
    let count_b = b.count in
    let begun_a = a.begun in
    let begun_b = b.begun in
    let given_a = a.given in
    let given_b = b.given in
    record {
      count = omega arith;
      shares = λ m i w h. b.shares m i w (a.extends.shares m i w h);
      publics = λ w h. b.publics w (a.extends.publics w h);
      ports = b.ports ∙ a.ports;
      begun = omega arith;
      given = omega arith;
      sound = λ h. b.sound (a.sound h);
      value = λ cycles bits run. (let last = b.value cycles bits run in let before = a.value cycles bits last.0 in (before.0, (before.1, last.1)));
    }

pub goes_so : {s : ℕ} (old new : Wiring) (fact other : ℕ → (ℕ → ℕ → Bool) → Type 0) → ((cycles : ℕ) (bits : ℕ → ℕ → Bool) → fact cycles bits → other cycles bits) → Goes s old new fact → Goes s old new other
goes_so old new fact other follows a =
    record { count = a.count; shares = a.shares; publics = a.publics; ports = a.ports; begun = a.begun; given = a.given; sound = a.sound; value = λ cycles bits run. (let got = a.value cycles bits run in (got.0, follows cycles bits got.1)) }

-- ---- the loop that closes registers

goes_none : {s : ℕ} (net : Wiring) (fact : ℕ → (ℕ → ℕ → Bool) → Type 0) → ((cycles : ℕ) (bits : ℕ → ℕ → Bool) → fact cycles bits) → Goes s net net fact
goes_none net fact h = record { count = omega arith; shares = λ n i w x. x; publics = λ w x. x; ports = refl; begun = refl; given = refl; sound = λ h. h; value = λ cycles bits run. (run, h cycles bits) }

goes_then : {s : ℕ} (old mid new : Wiring) (first second : ℕ → (ℕ → ℕ → Bool) → Type 0) → Goes s old mid first → Goes s mid new second → Goes s old new (λ cycles bits. first cycles bits × second cycles bits)
goes_then old mid new first second a b =
    let count_a = a.count in
    let count_b = b.count in
    record {
      count = omega arith;
      shares = λ m i w h. b.shares m i w (a.shares m i w h);
      publics = λ w h. b.publics w (a.publics w h);
      ports = b.ports ∙ a.ports;
      begun = b.begun ∙ a.begun;
      given = b.given ∙ a.given;
      sound = λ h. b.sound (a.sound h);
      value = λ cycles bits run. (let last = b.value cycles bits run in let before = a.value cycles bits last.0 in (before.0, (before.1, last.1)));
    }

pub value_goes : {s : ℕ} (n : ℕ) (old now : Wiring) (fact : ℕ → (ℕ → ℕ → Bool) → Type 0) (v : Value n) → Goes s old now fact → IsValue n old v → IsValue n now v
value_goes n old now fact v goes inside i lt = goes.shares (size_of n v) i (share (wires_of v) i) (inside i lt)

source_kind : (n : ℕ) (values : List (Value n)) (i : ℕ) → get_or (map is_secret values) i false ≡ is_secret (value_at values i)
source_kind n values i = get_or-map is_secret values i (Public (record { shares = [] }))

-- a register is secret where its initial value is
pub same_kind : (n : ℕ) (net : Wiring) (initial held : List (Value n)) (r : ℕ) → AreRegisters n net initial held → is_secret (value_at held r) ≡ is_secret (value_at initial r)
same_kind n net initial held r registers = sym (source_kind n held r) ∙ (ap (λ ks. get_or ks r false) registers.kinds ∙ source_kind n initial r)

module _ (n : ℕ) (old now : Wiring) (load : ℕ) (initial held nexts : List (Value n)) where
  pub closed_begins : HeldFrom n old 0 held → AreClosed n old old load initial held nexts 0
  closed_begins are = record { open_ones = are; goes = goes_none old _ (λ cycles bits r lt. absurd (omega arith)) }

  pub closed_more : (new : Wiring) (k : ℕ) → AreRegisters n old initial held → k < length held → AreClosed n old now load initial held nexts k
      → Goes n now new (λ cycles bits. IsChosen cycles bits load (signal n bits (value_at held k)) (signal n bits (value_at initial k)) (signal n bits (value_at nexts k)))
      → OthersStay now new (size_of n (value_at held k)) (wires_of (value_at held k)) → AreClosed n old new load initial held nexts (k + 1)
  closed_more new k registers below closed goes others = record {
    open_ones = λ r le lt.
        others (size_of n (value_at held r)) (wires_of (value_at held r)) (closed.open_ones r (omega (arith, le)) lt)
        (registers.apart r k lt below (λ e. (let same = e in omega (arith, le, same))));
    goes = goes_so old new _ _ (λ cycles bits f r lt. elim (cases_lt r k) [
      | inl earlier ↦ f.0 r earlier
      | inr later ↦ (let here : r ≡ k = omega (arith, lt, later) in
          subst (λ j. IsChosen cycles bits load (signal n bits (value_at held j)) (signal n bits (value_at initial j)) (signal n bits (value_at nexts j))) (sym here) f.1)
    ]) (goes_then old now new _ _ closed.goes goes);
  }

  -- the same, of values that were read
  pub closed_read : (new : Wiring) (k : ℕ) (first register next : Value n) → first ≡ value_at initial k → register ≡ value_at held k → next ≡ value_at nexts k
      → AreRegisters n old initial held → k < length held → AreClosed n old now load initial held nexts k
      → Goes n now new (λ cycles bits. IsChosen cycles bits load (signal n bits register) (signal n bits first) (signal n bits next))
      → OthersStay now new (size_of n register) (wires_of register) → AreClosed n old new load initial held nexts (k + 1)
  closed_read new k first register next e f g registers below closed goes others =
      closed_more new k registers below closed
      (subst (λ v. Goes n now new (λ cycles bits. IsChosen cycles bits load (signal n bits v) (signal n bits (value_at initial k)) (signal n bits (value_at nexts k)))) f
      (subst₂ (λ u w. Goes n now new (λ cycles bits. IsChosen cycles bits load (signal n bits register) (signal n bits u) (signal n bits w))) e g goes))
      (subst (λ v. OthersStay now new (size_of n v) (wires_of v)) f others)
