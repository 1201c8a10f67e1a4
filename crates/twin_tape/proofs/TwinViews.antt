-- Each probe sees the same in the run of the tape and in that of its twin.
use Rattle.std.proofs.Common.{◌≡◌, ◌≢◌, ℕ, zero, suc, ◌<◌, ◌≤◌, ◌⊎◌, Bool, true, false, ◌&&◌, ◌||◌, List, [], ◌∷◌, length, slice_index_or, map, Some, min, max, nat_eq, refl, sym, ap, ap₂, ◌∙◌, subst, inl, inr, ⊎_elim, arith, true≢false, eq-eqb, eqb-true}
use Rattle.std.proofs.lemmas.Bool.{cases_Bool, or_cases, and_parts, false_from_ne_true}
use Rattle.std.specs.List.{list_any}
use Rattle.agm_net.specs.Formula.{Formula, f_and, f_wire, f_xor, xor}
use Rattle.agm_net.specs.Plain.{PlainNet}
use Rattle.agm_net.specs.Trace.{Row, bit_at}
use Rattle.probe_cones.specs.Cone.{cone}
use Rattle.probe_cones.specs.declared.probe.Probe.{Probe}
use Rattle.twin_tape.proofs.Induction.{Must, Ties, alike, needs}
use Rattle.twin_tape.proofs.KnownSets.{At, Splits, begun_old, begun_plain, both_from, known_begun, known_home, known_older, no_other, not_later}
use Rattle.twin_tape.proofs.Network.{ClockWire, HasPart, IsNetwork, IsTwin, Keeps, Tag, Names, Part, Plain, Public, RandomBit, change, share_of, sight, sights_of, stores_seen}
use Rattle.agm_net.specs.declared.label.PartKind.{PartKind}
use Rattle.agm_net.specs.declared.label.PartKind.TheVariants.{A as KA, B as KB, Bb as KBb, C as KC, Clk as KClk, M as KM, Mx as KMx, Na as KNa, R as KR, Rr as KRr, S as KS, U as KU, Ux as KUx, V as KV, Vx as KVx, W as KW, Wx as KWx}
use Rattle.twin_tape.proofs.PairCases.{no_change, one_in_v}
use Rattle.twin_tape.proofs.Parts.{There, bit_as, great_le, pair_bit, part_sees, rr_is, rr_power, small_great, there_kept, v_is, v_power}
use Rattle.twin_tape.proofs.ShareReads.{Sees, kept, may_read, read_two, read_wire}
use Rattle.twin_tape.proofs.Sources.{Clock, Equation, Input, Random, Ranked, Register, Source, is_source, reads_ever, reads_now, source}
use Rattle.twin_tape.proofs.TwinTies.{change_none, change_one, ordered, twin_ties}
use Rattle.twin_tape.proofs.Views.{Seen, cone-ext, list_any_some, map_at, seen_none, seen_step, seen_still, seen_through}
use Rattle.twin_tape.proofs.Worlds.{Needs}
use Rattle.twin_tape.specs.Permitted.{half_change, has, known}
use Rattle.twin_tape.specs.declared.sight.Sight.{Sight}
use Rattle.twin_tape.specs.declared.sight.Sight.TheVariants.{Inner, Nobody}
use Rattle.twin_tape.specs.Security.{role_at, sees}
use Rattle.probe_cones.specs.Inputs.{bit_with, random_width, roles}

abbrev pub nil_probe : Probe
nil_probe = record { wire = 0; cycle = 0 }

pub length_map : {X Y : Type 0} (f : X → Y) (xs : List X) → length (map f xs) ≡ length xs
length_map f [] = refl
length_map f (x ∷ xs) = ap suc (length_map f xs)

swapped : (i j h o : ℕ) → Splits i j h o → Splits i j o h
swapped i j h o (inl e) = inr (e.1, e.0)
swapped i j h o (inr e) = inl (e.1, e.0)

or_left : (x y : Bool) → x ≡ true → (x || y) ≡ true
or_left x y e = grind arith

or_right : (x y : Bool) → y ≡ true → (x || y) ≡ true
or_right x y e = grind arith

list_any_from : {X : Type 0} (p : X → Bool) (xs : List X) (m : ℕ) (default : X) → m < length xs → p (slice_index_or xs m default) ≡ true → list_any p xs ≡ true
list_any_from p [] m default h e = absurd (omega arith)
list_any_from p (x ∷ xs) zero default h e = or_left (p x) (list_any p xs) e
list_any_from p (x ∷ xs) (suc m) default h e = or_right (p x) (list_any p xs) (list_any_from p xs m default (omega arith) e)

pair_is : (i j h o : ℕ) → i < j → Splits i j h o → (min h o ≡ i) × (max h o ≡ j)
pair_is i j h o lt (inl e) = let a = e.0 in let b = e.1 in (omega arith, omega arith)
pair_is i j h o lt (inr e) = let a = e.0 in let b = e.1 in (omega arith, omega arith)

module _ (net : PlainNet) (names : Names) (d : ℕ) (hpc2 : IsNetwork net names d) (ranked : Ranked net) (probes : List Probe) (A : List ℕ) (T : ℕ) (power : List Bool) (first second random twin : List Row)
    (is_twin : IsTwin net names probes A T power first second random twin)
    (same_in : (t n : ℕ) → t < T → n < length (roles net) → sees (known (sights_of names probes) A T 0) (role_at net n) ≡ true → bit_at first t n ≡ bit_at second t n) where
  abbrev x : ℕ → ℕ → Bool
  x = bit_with net power first random

  abbrev y : ℕ → ℕ → Bool
  y = bit_with net power second twin

  abbrev sights : List Sight
  sights = sights_of names probes

  abbrev P : ℕ → ℕ → Type 0
  P c i = has (known sights A T c) i ≡ true

  abbrev Shows : ℕ → ℕ → ℕ → Type 0
  Shows c n w = Seen net ranked (x c) (y c) n w

  -- the sight of the m-th probe
  at_probe : (m : ℕ) (label : Tag) → m < length probes → names.label (slice_index_or probes m nil_probe).wire ≡ label → At sights m (sight label (slice_index_or probes m nil_probe).cycle)
  at_probe m label h is = (
    subst (λ n. m < n) (sym (length_map (λ probe. sight (names.label probe.wire) probe.cycle) probes)) h,
    map_at (λ probe. sight (names.label probe.wire) probe.cycle) probes m nil_probe Nobody h ∙ ap (λ l. sight l (slice_index_or probes m nil_probe).cycle) is,
  )

  ties : Ties net names d hpc2 ranked T power first second random twin P
  ties = twin_ties net names d hpc2 ranked probes A T power first second random twin is_twin same_in

  -- a wire that is to agree, with all that leads to it
  reads_must : (c w u : ℕ) → c < T → w < length net.wires → Sees (P c) (names.label w) → reads_now (source net w) u ≡ true → Sees (P c) (names.label u)
  reads_must c w u below inside must h = go (source net w) (needs net names d hpc2 ranked T power first second random twin P ties c w below inside must) h
    where
      go : (D : Source) → Needs net ranked T x y (Must net names d hpc2 ranked T power first second random twin P) D c w → reads_now D u ≡ true → Sees (P c) (names.label u)
      go (Input n) need h = absurd (true≢false (sym h))
      go (Random n) need h = absurd (true≢false (sym h))
      go Clock need h = absurd (true≢false (sym h))
      go (Equation e) need h = need.2 u h
      go (Register n next) need h = absurd (true≢false (sym h))

  must_shows : (n c w : ℕ) → c < T → w < length net.wires → Sees (P c) (names.label w) → Shows c n w
  must_shows zero c w below inside must = seen_none net ranked (x c) (y c) w (λ _ e. alike net names d hpc2 ranked T power first second random twin P ties c below w inside must)
  must_shows (suc n) c w below inside must =
      seen_step net ranked (x c) (y c) n w (λ _ e. alike net names d hpc2 ranked T power first second random twin P ties c below w inside must)
      (λ u h. must_shows n c u below (ranked.lower w u inside h).0 (reads_must c w u below inside must h))

  -- Where the pair of an inner probe has an index out, no probe of its stage sees the stored crossing, unless that probe does.
  unstored : (m t g i j h o : ℕ) → suc t ≤ T → m < length probes → (there : There net names d hpc2 ranked g) → (fits : HasPart d KV h o) → i < j → Splits i j h o → At sights m (Inner g i j (suc t) h) →
      (names.label (slice_index_or probes m nil_probe).wire ≢ Part g KV h o) → (names.label (slice_index_or probes m nil_probe).wire ≢ Part g KWx h o) → has (known sights A T (suc t)) o ≡ false →
      stores_seen names probes g h o (suc t) ≡ false
  unstored m t g i j h o le small there fits lt splits at not_v not_wx out =
      false_from_ne_true (stores_seen names probes g h o (suc t)) (λ e.
      let found = list_any_some (λ probe. nat_eq probe.cycle (suc t) && (nat_eq probe.wire (names.part g KV h o) || nat_eq probe.wire (names.part g KWx h o))) probes nil_probe e in
      let n = found.0 in
      let p = slice_index_or probes n nil_probe in
      let both = and_parts (nat_eq p.cycle (suc t)) (nat_eq p.wire (names.part g KV h o) || nat_eq p.wire (names.part g KWx h o)) found.2 in
      let cycle : p.cycle ≡ suc t = eqb-true p.cycle (suc t) both.0 in
      let pair = pair_is i j h o lt splits in
      let sees_it : Inner g (min h o) (max h o) (suc t) h ≡ Inner g i j (suc t) h = ap₂ (λ a b. Inner g a b (suc t) h) pair.0 pair.1 in
      let other : (label : Tag) → names.label p.wire ≡ label → sight label (suc t) ≡ Inner g (min h o) (max h o) (suc t) h → (names.label (slice_index_or probes m nil_probe).wire ≢ label) → Prim.⊥ = λ label is looks differs.
      let at' = at_probe n label found.1 is in
      no_other sights A T (suc t) m n g i j h o h o le (λ e. omega arith) splits splits at out
      (λ e. differs (ap (λ k. names.label (slice_index_or probes k nil_probe).wire) e ∙ is)) (at'.0, at'.1 ∙ ap (sight label) cycle ∙ looks ∙ sees_it) in
      ⊎_elim
      (λ v. other (Part g KV h o) (ap names.label (eqb-true p.wire (names.part g KV h o) v) ∙ (there KV h o fits).1) refl not_v)
      (λ wx. other (Part g KWx h o) (ap names.label (eqb-true p.wire (names.part g KWx h o) wx) ∙ (there KWx h o fits).1) refl not_wx)
      (or_cases (nat_eq p.wire (names.part g KV h o)) (nat_eq p.wire (names.part g KWx h o)) both.1))

  -- an inner probe that doesn't see the stored crossing keeps the random bit
  change_out : (m t g i j h o : ℕ) → suc t ≤ T → m < length probes → (there : There net names d hpc2 ranked g) → (fits : HasPart d KV h o) → i < j → Splits i j h o → At sights m (Inner g i j (suc t) h) →
      (names.label (slice_index_or probes m nil_probe).wire ≢ Part g KV h o) → (names.label (slice_index_or probes m nil_probe).wire ≢ Part g KWx h o) → change names probes A T x y t g i j ≡ false
  change_out m t g i j h o le small there fits lt splits at not_v not_wx =
      let in_h : P (suc t) h = known_home sights A T (suc t) m g i j h le at in
      let ne : i ≢ j = λ e. omega arith in
      ⊎_elim
      (λ (in_o : P (suc t) o). let both = both_from (known sights A T (suc t)) i j h o splits in_h in_o in change_none names probes A T x y t g i j both.0 both.1)
      (λ out. change_one names probes A T x y t g i j h o splits in_h out ∙
      ap₂ (λ next probed. half_change next (nat_eq (suc t) T) probed (x (suc t) (names.part g KA h 0)) (x t (names.part g KB o 0)) (y t (names.part g KB o 0)))
      (not_later sights A T (suc t) m g i j h o le ne splits at out) (unstored m t g i j h o le small there fits lt splits at not_v not_wx out))
      (cases_Bool (has (known sights A T (suc t)) o))

  same_random : (t n g i j : ℕ) → t < T → n < (random_width net) → names.gadget_of n ≡ g → names.small_of n ≡ i → names.great_of n ≡ j → change names probes A T x y t g i j ≡ false → bit_at random t n ≡ bit_at twin t n
  same_random t n g i j below small of_gadget of_small of_great still =
      no_change (bit_at random t n) (bit_at twin t n)
      (is_twin t n below small ∙
      ap (λ k. xor (bit_at random t n) (change names probes A T x y t k (names.small_of n) (names.great_of n))) of_gadget ∙
      ap₂ (λ a b. xor (bit_at random t n) (change names probes A T x y t g a b)) of_small of_great ∙
      ap (xor (bit_at random t n)) still)

  -- the stored crossing where a probe sees it
  v_same : (m t g h o : ℕ) → suc t ≤ T → (there : There net names d hpc2 ranked g) → (fits : HasPart d KV h o) → At sights m (Inner g (min h o) (max h o) (suc t) h) → stores_seen names probes g h o (suc t) ≡ true →
      x (suc t) (names.part g KV h o) ≡ y (suc t) (names.part g KV h o)
  v_same m t g h o le there fits at probed =
      let lt = small_great h o fits.0 in
      let ne : min h o ≢ max h o = λ e. omega arith in
      let q = pair_bit net names d hpc2 ranked g (min h o) (max h o) there lt (great_le h o d fits.1 fits.2) in
      let B = names.part g KB o 0 in
      let in_h : P (suc t) h = known_home sights A T (suc t) m g (min h o) (max h o) h le at in
      let splits = ordered h o fits.0 in
      let bit = is_twin t q.number (omega arith) q.small ∙
      ap (λ k. xor (bit_at random t q.number) (change names probes A T x y t k (names.small_of q.number) (names.great_of q.number))) q.of_gadget ∙
      ap₂ (λ a b. xor (bit_at random t q.number) (change names probes A T x y t g a b)) q.of_small q.of_great in
      v_is net names d hpc2 ranked power first random t g h o there fits q ∙
      ⊎_elim
      (λ (in_o : P (suc t) o).
      let both = both_from (known sights A T (suc t)) (min h o) (max h o) h o splits in_h in_o in
      let b_same : x t B ≡ y t B = alike net names d hpc2 ranked T power first second random twin P ties t (omega arith) B (there KB o 0 (fits.2, refl)).0
      (part_sees net names d hpc2 ranked (P t) g o 0 KB there (fits.2, refl) (known_older sights A T t o in_o)) in
      ap₂ xor b_same (no_change (bit_at random t q.number) (bit_at twin t q.number) (bit ∙ ap (xor (bit_at random t q.number)) (change_none names probes A T x y t g (min h o) (max h o) both.0 both.1))))
      (λ out.
      let half = change_one names probes A T x y t g (min h o) (max h o) h o splits in_h out ∙
      ap₂ (λ next probed. half_change next (nat_eq (suc t) T) probed (x (suc t) (names.part g KA h 0)) (x t B) (y t B))
      (not_later sights A T (suc t) m g (min h o) (max h o) h o le ne splits at out) probed in
      one_in_v (x (suc t) (names.part g KA h 0)) (x t B) (y t B) (bit_at random t q.number) (bit_at twin t q.number) (nat_eq (suc t) T) (bit ∙ ap (xor (bit_at random t q.number)) half))
      (cases_Bool (has (known sights A T (suc t)) o)) ∙
      sym (v_is net names d hpc2 ranked power second twin t g h o there fits q)

  v_alike : (m c g h o : ℕ) → c < T → (there : There net names d hpc2 ranked g) → (fits : HasPart d KV h o) → At sights m (Inner g (min h o) (max h o) c h) → stores_seen names probes g h o c ≡ true →
      x c (names.part g KV h o) ≡ y c (names.part g KV h o)
  v_alike m zero g h o below there fits at probed = v_power net names d hpc2 ranked power first random g h o there fits ∙ sym (v_power net names d hpc2 ranked power second twin g h o there fits)
  v_alike m (suc t) g h o below there fits at probed = v_same m t g h o (omega arith) there fits at probed

  rr_alike : (m c g i j h o : ℕ) → c < T → m < length probes → (there : There net names d hpc2 ranked g) → (fits : HasPart d KV h o) → (lt : i < j) → (le : j ≤ d) → Splits i j h o → At sights m (Inner g i j c h) →
      (names.label (slice_index_or probes m nil_probe).wire ≢ Part g KV h o) → (names.label (slice_index_or probes m nil_probe).wire ≢ Part g KWx h o) → x c (names.part g KRr i j) ≡ y c (names.part g KRr i j)
  rr_alike m zero g i j h o below small there fits lt le splits at not_v not_wx =
      rr_power net names d hpc2 ranked power first random g i j there (lt, le) ∙ sym (rr_power net names d hpc2 ranked power second twin g i j there (lt, le))
  rr_alike m (suc t) g i j h o below small there fits lt le splits at not_v not_wx =
      let q = pair_bit net names d hpc2 ranked g i j there lt le in
      rr_is net names d hpc2 ranked power first random t g i j there lt le q ∙
      same_random t q.number g i j (omega arith) q.small q.of_gadget q.of_small q.of_great (change_out m t g i j h o (omega arith) small there fits lt splits at not_v not_wx) ∙
      sym (rr_is net names d hpc2 ranked power second twin t g i j there lt le q)

  random_shows : (n c k w : ℕ) → w < length net.wires → source net w ≡ Random k → bit_at random c k ≡ bit_at twin c k → Shows c n w
  random_shows n c k w inside is same =
      seen_still net ranked (x c) (y c) n w
      (λ _ e. bit_as net names d hpc2 ranked power first random c w (Random k) inside is ∙ same ∙ sym (bit_as net names d hpc2 ranked power second twin c w (Random k) inside is))
      (λ u h. absurd (true≢false (sym h ∙ ap (λ D. reads_now D u) is)))

  -- a register that is alike
  register_shows : (n c k w : ℕ) (next : Formula) → source net w ≡ Register k next → x c w ≡ y c w → Shows c n w
  register_shows n c k w next is same = seen_still net ranked (x c) (y c) n w (λ _ e. same) (λ u h. absurd (true≢false (sym h ∙ ap (λ D. reads_now D u) is)))

  -- an equation over one wire, or over two
  one_shows : (n c w a : ℕ) (e : Formula) → source net w ≡ Equation e → ((u : ℕ) → reads_now (Equation e) u ≡ true → u ≡ a) → ((m : ℕ) → Shows c m a) → Shows c n w
  one_shows n c w a e is only shows =
      seen_through net ranked (x c) (y c) n w (ap is_source is) (λ m u h. subst (Shows c m) (sym (only u (subst (λ D. reads_now D u ≡ true) is h))) (shows m))

  two_shows : (n c w a b : ℕ) (e : Formula) → source net w ≡ Equation e → ((u : ℕ) → reads_now (Equation e) u ≡ true → (u ≡ a) ⊎ (u ≡ b)) → ((m : ℕ) → Shows c m a) → ((m : ℕ) → Shows c m b) → Shows c n w
  two_shows n c w a b e is only shows_a shows_b =
      seen_through net ranked (x c) (y c) n w (ap is_source is)
      (λ m u h. ⊎_elim (λ e. subst (Shows c m) (sym e) (shows_a m)) (λ e. subst (Shows c m) (sym e) (shows_b m)) (only u (subst (λ D. reads_now D u ≡ true) is h)))

  probed : (m c g h o w : ℕ) → m < length probes → (slice_index_or probes m nil_probe).wire ≡ w → (slice_index_or probes m nil_probe).cycle ≡ c → (w ≡ names.part g KV h o) ⊎ (w ≡ names.part g KWx h o) → stores_seen names probes g h o c ≡ true
  probed m c g h o w small is_w is_c one =
      let p = slice_index_or probes m nil_probe in
      let cycle : nat_eq p.cycle c ≡ true = eq-eqb p.cycle c is_c in
      let wire : (nat_eq p.wire (names.part g KV h o) || nat_eq p.wire (names.part g KWx h o)) ≡ true =
      ⊎_elim (λ e. or_left (nat_eq p.wire (names.part g KV h o)) (nat_eq p.wire (names.part g KWx h o)) (eq-eqb p.wire (names.part g KV h o) (is_w ∙ e)))
      (λ e. or_right (nat_eq p.wire (names.part g KV h o)) (nat_eq p.wire (names.part g KWx h o)) (eq-eqb p.wire (names.part g KWx h o) (is_w ∙ e))) one in
      list_any_from (λ probe. nat_eq probe.cycle c && (nat_eq probe.wire (names.part g KV h o) || nat_eq probe.wire (names.part g KWx h o))) probes m nil_probe small (ap₂ (λ a b. a && b) cycle wire)

  part_shows : (m n w c g i j : ℕ) (kind : PartKind) → m < length probes → w < length net.wires → c < T → names.label w ≡ Part g kind i j → At sights m (sight (Part g kind i j) c) →
      (slice_index_or probes m nil_probe).wire ≡ w → (slice_index_or probes m nil_probe).cycle ≡ c → HasPart d kind i j → w ≡ names.part g kind i j → There net names d hpc2 ranked g → Shows c n w
  part_shows m n w c g i j KClk small inside below is at is_w is_c fits part there =
      let k = kept net names d hpc2 w g i j KClk inside is in
      one_shows n c w k.0 (f_wire k.0) k.1 (λ u h. read_wire k.0 u h)
      (λ m. let v_in : k.0 < length net.wires = hpc2.inside w k.0 inside (subst (λ D. reads_ever D k.0 ≡ true) (sym k.1) (eq-eqb k.0 k.0 refl)) in
      must_shows m c k.0 below v_in (subst (Sees (P c)) (sym k.2) tt))
  part_shows m n w c g i j KA small inside below is at is_w is_c fits part there = must_shows n c w below inside (subst (Sees (P c)) (sym is) (known_begun sights A T c i (begun_plain sights A m i at)))
  part_shows m n w c g i j KB small inside below is at is_w is_c fits part there = must_shows n c w below inside (subst (Sees (P c)) (sym is) (known_begun sights A T c i (begun_plain sights A m i at)))
  part_shows m n w c g i j KR small inside below is at is_w is_c fits part there =
      let q = pair_bit net names d hpc2 ranked g i j there fits.0 fits.1 in
      let label_m : names.label (slice_index_or probes m nil_probe).wire ≡ Part g KR i j = ap names.label is_w ∙ is in
      one_shows n c w q.wire (f_wire q.wire) (ap (source net) part ∙ q.read) (λ u h. read_wire q.wire u h)
      (λ k. random_shows k c q.number q.wire q.inside q.driven
      (same_random c q.number g i j below q.small q.of_gadget q.of_small q.of_great
      (change_out m c g i j i j below small there ((λ e. absurd (omega arith)), omega arith, fits.1) fits.0 (inl (refl, refl)) at (λ e. cc) (λ e. cc))))
  part_shows m n w c g i j KRr small inside below is at is_w is_c fits part there =
      let k = there_kept net names d hpc2 ranked g there KRr i j fits in
      let label_m : names.label (slice_index_or probes m nil_probe).wire ≡ Part g KRr i j = ap names.label is_w ∙ is in
      register_shows n c k.0 w (f_wire (names.part g KR i j)) (ap (source net) part ∙ k.1)
      (subst (λ u. x c u ≡ y c u) (sym part)
      (rr_alike m c g i j i j below small there ((λ e. absurd (omega arith)), omega arith, fits.1) fits.0 fits.1 (inl (refl, refl)) at (λ e. cc) (λ e. cc)))
  part_shows m n w c g i j KBb small inside below is at is_w is_c fits part there = must_shows n c w below inside (subst (Sees (P c)) (sym is) (known_begun sights A T c i (begun_plain sights A m i at)))
  part_shows m n w c g i j KVx small inside below is at is_w is_c fits part there =
      let lt = small_great i j fits.0 in let le = great_le i j d fits.1 fits.2 in
      let q = pair_bit net names d hpc2 ranked g (min i j) (max i j) there lt le in
      let B = names.part g KB j 0 in
      let in_j : P (suc c) j = known_home sights A T (suc c) m g (min i j) (max i j) j below at in
      let label_m : names.label (slice_index_or probes m nil_probe).wire ≡ Part g KVx i j = ap names.label is_w ∙ is in
      two_shows n c w B (names.part g KR (min i j) (max i j)) (f_xor (f_wire B) (f_wire (names.part g KR (min i j) (max i j)))) (ap (source net) part ∙ there_kept net names d hpc2 ranked g there KVx i j fits)
      (λ u h. read_two B (names.part g KR (min i j) (max i j)) u h)
      (λ k. must_shows k c B below (there KB j 0 (fits.2, refl)).0 (part_sees net names d hpc2 ranked (P c) g j 0 KB there (fits.2, refl) (known_older sights A T c j in_j)))
      (λ k. one_shows k c (names.part g KR (min i j) (max i j)) q.wire (f_wire q.wire) q.read (λ u h. read_wire q.wire u h)
      (λ k. random_shows k c q.number q.wire q.inside q.driven
      (same_random c q.number g (min i j) (max i j) below q.small q.of_gadget q.of_small q.of_great
      (change_out m c g (min i j) (max i j) j i below small there ((λ e. fits.0 (sym e)), fits.2, fits.1) lt (swapped (min i j) (max i j) i j (ordered i j fits.0)) at (λ e. cc) (λ e. cc)))))
  part_shows m n w c g i j KV small inside below is at is_w is_c fits part there =
      let k = there_kept net names d hpc2 ranked g there KV i j fits in
      register_shows n c k.0 w (f_wire (names.part g KVx i j)) (ap (source net) part ∙ k.1)
      (subst (λ u. x c u ≡ y c u) (sym part) (v_alike m c g i j below there fits at (probed m c g i j w small is_w is_c (inl part))))
  part_shows m n w c g i j KNa small inside below is at is_w is_c fits part there = must_shows n c w below inside (subst (Sees (P c)) (sym is) (known_begun sights A T c i (begun_plain sights A m i at)))
  part_shows m n w c g i j KUx small inside below is at is_w is_c fits part there =
      let lt = small_great i j fits.0 in let le = great_le i j d fits.1 fits.2 in
      let NA = names.part g KNa i 0 in let RR = names.part g KRr (min i j) (max i j) in
      let in_i : P c i = known_home sights A T c m g (min i j) (max i j) i (omega arith) at in
      let label_m : names.label (slice_index_or probes m nil_probe).wire ≡ Part g KUx i j = ap names.label is_w ∙ is in
      let k = there_kept net names d hpc2 ranked g there KRr (min i j) (max i j) (lt, le) in
      two_shows n c w NA RR (f_and (f_wire NA) (f_wire RR)) (ap (source net) part ∙ there_kept net names d hpc2 ranked g there KUx i j fits) (λ u h. read_two NA RR u h)
      (λ k. must_shows k c NA below (there KNa i 0 (fits.1, refl)).0 (part_sees net names d hpc2 ranked (P c) g i 0 KNa there (fits.1, refl) in_i))
      (λ r. register_shows r c k.0 RR (f_wire (names.part g KR (min i j) (max i j))) k.1 (rr_alike m c g (min i j) (max i j) i j below small there fits lt le (ordered i j fits.0) at (λ e. cc) (λ e. cc)))
  part_shows m n w c g i j KU small inside below is at is_w is_c fits part there = must_shows n c w below inside (subst (Sees (P c)) (sym is) (known_begun sights A T c i (begun_plain sights A m i at)))
  part_shows m n w c g i j KWx small inside below is at is_w is_c fits part there =
      let A' = names.part g KA i 0 in let V = names.part g KV i j in
      let in_i : P c i = known_home sights A T c m g (min i j) (max i j) i (omega arith) at in
      let k = there_kept net names d hpc2 ranked g there KV i j fits in
      two_shows n c w A' V (f_and (f_wire A') (f_wire V)) (ap (source net) part ∙ there_kept net names d hpc2 ranked g there KWx i j fits) (λ u h. read_two A' V u h)
      (λ k. must_shows k c A' below (there KA i 0 (fits.1, refl)).0 (part_sees net names d hpc2 ranked (P c) g i 0 KA there (fits.1, refl) in_i))
      (λ r. register_shows r c k.0 V (f_wire (names.part g KVx i j)) k.1 (v_alike m c g i j below there fits at (probed m c g i j w small is_w is_c (inr part))))
  part_shows m n w c g i j KW small inside below is at is_w is_c fits part there = must_shows n c w below inside (subst (Sees (P c)) (sym is) (known_begun sights A T c i (begun_plain sights A m i at)))
  part_shows m n w c g i j KMx small inside below is at is_w is_c fits part there = must_shows n c w below inside (subst (Sees (P c)) (sym is) (known_begun sights A T c i (begun_plain sights A m i at)))
  part_shows m n w c g i j KM small inside below is at is_w is_c fits part there = must_shows n c w below inside (subst (Sees (P c)) (sym is) (known_begun sights A T c i (begun_plain sights A m i at)))
  part_shows m n w c g i j KS small inside below is at is_w is_c fits part there = must_shows n c w below inside (subst (Sees (P c)) (sym is) (known_begun sights A T c i (begun_plain sights A m i at)))
  part_shows m n w c g i j KC small inside below is at is_w is_c fits part there = must_shows n c w below inside (subst (Sees (P c)) (sym is) (known_begun sights A T c i (begun_plain sights A m i at)))

  label_shows : (m n w c : ℕ) (label : Tag) → m < length probes → w < length net.wires → c < T → names.label w ≡ label → At sights m (sight label c) →
      (slice_index_or probes m nil_probe).wire ≡ w → (slice_index_or probes m nil_probe).cycle ≡ c → Shows c n w
  label_shows m n w c ClockWire small inside below is at is_w is_c = must_shows n c w below inside (subst (Sees (P c)) (sym is) tt)
  label_shows m n w c Public small inside below is at is_w is_c = must_shows n c w below inside (subst (Sees (P c)) (sym is) tt)
  label_shows m n w c (RandomBit g i j) small inside below is at is_w is_c =
      let k = subst (Keeps net names w) is (hpc2.keeps w inside) in
      let all = hpc2.whole k.7 g i j KR k.8 k.9 in
      let label_m : names.label (slice_index_or probes m nil_probe).wire ≡ RandomBit g i j = ap names.label is_w ∙ is in
      random_shows n c k.0 w inside k.1
      (same_random c k.0 g i j below k.2 k.3 k.4 k.5
      (change_out m c g i j i j below small all.2 ((λ e. absurd (omega arith)), omega arith, all.0.1) k.6 (inl (refl, refl)) at (λ e. cc) (λ e. cc)))
  label_shows m n w c (Plain i) small inside below is at is_w is_c = must_shows n c w below inside (subst (Sees (P c)) (sym is) (known_begun sights A T c i (begun_plain sights A m i at)))
  label_shows m n w c (Part g kind i j) small inside below is at is_w is_c =
      let all = hpc2.whole w g i j kind inside is in part_shows m n w c g i j kind small inside below is at is_w is_c all.0 all.1 all.2

  -- what the m-th probe sees
  pub probe_shows : (m : ℕ) → m < length probes → (slice_index_or probes m nil_probe).wire < length net.wires → (slice_index_or probes m nil_probe).cycle < T →
      map (x (slice_index_or probes m nil_probe).cycle) (cone net (slice_index_or probes m nil_probe).wire) ≡ map (y (slice_index_or probes m nil_probe).cycle) (cone net (slice_index_or probes m nil_probe).wire)
  probe_shows m small inside below =
      let p = slice_index_or probes m nil_probe in
      cone-ext net ranked (x p.cycle) (y p.cycle) p.wire (label_shows m (length net.wires) p.wire p.cycle (names.label p.wire) small inside below refl (at_probe m (names.label p.wire) small refl) refl refl)

  -- what an output share of a listed index shows
  pub share_shows : (c w i : ℕ) → c < T → w < length net.wires → has A i ≡ true → share_of (names.label w) ≡ Some i → map (x c) (cone net w) ≡ map (y c) (cone net w)
  share_shows c w i below inside listed is =
      cone-ext net ranked (x c) (y c) w (must_shows (length net.wires) c w below inside (may_read (P c) (names.label w) i (inr is) (known_begun sights A T c i (begun_old sights A i listed))))
