-- In two runs of an HPC2 network the wires of the shares agree, as long as their inputs and the cross terms do.
use Rattle.std.proofs.Common.{◌≡◌, ◌≢◌, ℕ, zero, suc, ◌<◌, ◌≤◌, Bool, true, not, ◌&&◌, List, [], ◌∷◌, length, Some, min, max, refl, sym, ap, ap₂, ◌∙◌, subst, ⊎_elim, arith, true≢false}
use Rattle.std.proofs.lemmas.Bool.{cases_eq}
use Rattle.agm_net.specs.Formula.{xor}
use Rattle.agm_net.proofs.Formulas.{same_value}
use Rattle.agm_net.specs.Plain.{PlainNet}
use Rattle.agm_net.specs.Trace.{Row, bit_at}
use Rattle.twin_tape.proofs.Network.{ClockWire, HasPart, IsNetwork, IsPart, Keeps, Tag, Names, Part, Plain, Public, RandomBit, part_share, share_of}
use Rattle.agm_net.specs.declared.label.PartKind.{PartKind}
use Rattle.agm_net.specs.declared.label.PartKind.TheVariants.{A as KA, B as KB, Bb as KBb, C as KC, Clk as KClk, M as KM, Mx as KMx, Na as KNa, R as KR, Rr as KRr, S as KS, U as KU, Ux as KUx, V as KV, Vx as KVx, W as KW, Wx as KWx}
use Rattle.twin_tape.proofs.Parts.{PairBit, There, bit_as, great_le, pair_bit, part_sees, rr_is, rr_power, small_great, u_is, u_power, v_is, v_power, w_is, w_power}
use Rattle.twin_tape.proofs.ShareReads.{IsCross, Sees, SharePart, may_read, reads_share}
use Rattle.twin_tape.proofs.Sources.{Clock, Equation, Input, Random, Ranked, Register, Source, reads_ever, source}
use Rattle.twin_tape.proofs.Worlds.{Needs, Same, agrees}
use Rattle.twin_tape.specs.Security.{role_at, sees}
use Rattle.probe_cones.specs.Inputs.{bit_with, open_bit, roles}

module _ (net : PlainNet) (names : Names) (d : ℕ) (hpc2 : IsNetwork net names d) (ranked : Ranked net) (T : ℕ) (power : List Bool) (first second random twin : List Row) (P : ℕ → ℕ → Type 0) where
  abbrev pub x : ℕ → ℕ → Bool
  x = bit_with net power first random

  abbrev pub y : ℕ → ℕ → Bool
  y = bit_with net power second twin

  -- the wires that are to agree in cycle c
  abbrev pub Must : ℕ → ℕ → Type 0
  Must c w = Sees (P c) (names.label w)

  abbrev pub Alike : ℕ → Type 0
  Alike c = Same net ranked T x y Must c

  -- What makes the two runs agree where P says: inputs do, and so do the cross terms of an index in cycle c + 2 by its bits of the cycles before.
  pub record Ties : Type 0 where
    pub older : (c i : ℕ) → P (suc c) i → P c i
    pub open_in : (t n : ℕ) → t < T → n < length (roles net) → role_at net n ≡ open_bit → bit_at first t n ≡ bit_at second t n
    pub share_in : (t n i : ℕ) → t < T → n < length (roles net) → P t i → sees (i ∷ []) (role_at net n) ≡ true → bit_at first t n ≡ bit_at second t n
    pub cross : (c g i j : ℕ) → suc (suc c) < T → There net names d hpc2 ranked g → i ≢ j → i ≤ d → j ≤ d → (p : PairBit net names d hpc2 ranked g (min i j) (max i j)) → P (suc (suc c)) i →
        ((b : ℕ) → b < suc (suc c) → Alike b) →
        ((not (x (suc c) (names.part g KA i 0)) && bit_at random c p.number) ≡ (not (y (suc c) (names.part g KA i 0)) && bit_at twin c p.number)) ×
        ((x (suc c) (names.part g KA i 0) && xor (x c (names.part g KB j 0)) (bit_at random c p.number)) ≡
        (y (suc c) (names.part g KA i 0) && xor (y c (names.part g KB j 0)) (bit_at twin c p.number)))

  module _ (ties : Ties) where
    pub older_to : (c b i : ℕ) → b ≤ c → P c i → P b i
    older_to zero b i le p = subst (λ n. P n i) (omega arith) p
    older_to (suc c) b i le p =
        ⊎_elim (λ e. subst (λ n. P n i) (sym e) p) (λ ne. older_to c b i (omega arith) (ties.older c i p)) (cases_eq b (suc c))

    -- a wire that reads what is to agree, no random bit, and no input that may differ
    plain : (c w : ℕ) → w < length net.wires → (D : Source) → source net w ≡ D → ((b v : ℕ) → b ≤ c → reads_ever D v ≡ true → Must b v) →
        ((n : ℕ) → D ≡ Input n → bit_at first c n ≡ bit_at second c n) → ((n : ℕ) → D ≢ Random n) → Needs net ranked T x y Must D c w
    plain c w inside (Input n) is reads input none =
        λ earlier. bit_as net names d hpc2 ranked power first random c w (Input n) inside is ∙ input n refl ∙ sym (bit_as net names d hpc2 ranked power second twin c w (Input n) inside is)
    plain c w inside (Random n) is reads input none = absurd (none n refl)
    plain c w inside Clock is reads input none =
        λ earlier. bit_as net names d hpc2 ranked power first random c w Clock inside is ∙ sym (bit_as net names d hpc2 ranked power second twin c w Clock inside is)
    plain c w inside (Equation e) is reads input none =
        (bit_as net names d hpc2 ranked power first random c w (Equation e) inside is, bit_as net names d hpc2 ranked power second twin c w (Equation e) inside is, λ v h. reads c v (omega arith) h)
    plain zero w inside (Register n next) is reads input none =
        λ earlier. bit_as net names d hpc2 ranked power first random 0 w (Register n next) inside is ∙ sym (bit_as net names d hpc2 ranked power second twin 0 w (Register n next) inside is)
    plain (suc c) w inside (Register n next) is reads input none =
        λ earlier. bit_as net names d hpc2 ranked power first random (suc c) w (Register n next) inside is ∙
        same_value (x c) (y c) next (λ v h. earlier c (omega arith) v (hpc2.inside w v inside (subst (λ D. reads_ever D v ≡ true) (sym is) h)) (reads c v (omega arith) h)) ∙
        sym (bit_as net names d hpc2 ranked power second twin (suc c) w (Register n next) inside is)

    cross_u : (c g i j : ℕ) → c < T → (there : There net names d hpc2 ranked g) → (fits : HasPart d KU i j) → P c i → ((b : ℕ) → b < c → Alike b) → x c (names.part g KU i j) ≡ y c (names.part g KU i j)
    cross_u zero g i j below there fits p earlier = u_power net names d hpc2 ranked power first random g i j there fits ∙ sym (u_power net names d hpc2 ranked power second twin g i j there fits)
    cross_u (suc zero) g i j below there fits p earlier =
        let A = names.part g KA i 0 in
        let same_a : x 0 A ≡ y 0 A = earlier 0 (omega arith) A (there KA i 0 (fits.1, refl)).0 (part_sees net names d hpc2 ranked (P 0) g i 0 KA there (fits.1, refl) (ties.older 0 i p)) in
        let pair : HasPart d KRr (min i j) (max i j) = (small_great i j fits.0, great_le i j d fits.1 fits.2) in
        u_is net names d hpc2 ranked power first random 0 g i j there fits ∙
        ap₂ (λ a r. not a && r) same_a
        (rr_power net names d hpc2 ranked power first random g (min i j) (max i j) there pair ∙ sym (rr_power net names d hpc2 ranked power second twin g (min i j) (max i j) there pair)) ∙
        sym (u_is net names d hpc2 ranked power second twin 0 g i j there fits)
    cross_u (suc (suc c)) g i j below there fits p earlier =
        let lt = small_great i j fits.0 in let le = great_le i j d fits.1 fits.2 in
        let q = pair_bit net names d hpc2 ranked g (min i j) (max i j) there lt le in
        u_is net names d hpc2 ranked power first random (suc c) g i j there fits ∙
        ap (λ r. not (x (suc c) (names.part g KA i 0)) && r) (rr_is net names d hpc2 ranked power first random c g (min i j) (max i j) there lt le q) ∙
        (ties.cross c g i j below there fits.0 fits.1 fits.2 q p earlier).0 ∙
        ap (λ r. not (y (suc c) (names.part g KA i 0)) && r) (sym (rr_is net names d hpc2 ranked power second twin c g (min i j) (max i j) there lt le q)) ∙
        sym (u_is net names d hpc2 ranked power second twin (suc c) g i j there fits)

    cross_w : (c g i j : ℕ) → c < T → (there : There net names d hpc2 ranked g) → (fits : HasPart d KW i j) → P c i → ((b : ℕ) → b < c → Alike b) → x c (names.part g KW i j) ≡ y c (names.part g KW i j)
    cross_w zero g i j below there fits p earlier = w_power net names d hpc2 ranked power first random g i j there fits ∙ sym (w_power net names d hpc2 ranked power second twin g i j there fits)
    cross_w (suc zero) g i j below there fits p earlier =
        let A = names.part g KA i 0 in
        let same_a : x 0 A ≡ y 0 A = earlier 0 (omega arith) A (there KA i 0 (fits.1, refl)).0 (part_sees net names d hpc2 ranked (P 0) g i 0 KA there (fits.1, refl) (ties.older 0 i p)) in
        w_is net names d hpc2 ranked power first random 0 g i j there fits ∙
        ap₂ (λ a v. a && v) same_a
        (v_power net names d hpc2 ranked power first random g i j there fits ∙ sym (v_power net names d hpc2 ranked power second twin g i j there fits)) ∙
        sym (w_is net names d hpc2 ranked power second twin 0 g i j there fits)
    cross_w (suc (suc c)) g i j below there fits p earlier =
        let lt = small_great i j fits.0 in let le = great_le i j d fits.1 fits.2 in
        let q = pair_bit net names d hpc2 ranked g (min i j) (max i j) there lt le in
        w_is net names d hpc2 ranked power first random (suc c) g i j there fits ∙
        ap (λ v. x (suc c) (names.part g KA i 0) && v) (v_is net names d hpc2 ranked power first random c g i j there fits q) ∙
        (ties.cross c g i j below there fits.0 fits.1 fits.2 q p earlier).1 ∙
        ap (λ v. y (suc c) (names.part g KA i 0) && v) (sym (v_is net names d hpc2 ranked power second twin c g i j there fits q)) ∙
        sym (w_is net names d hpc2 ranked power second twin (suc c) g i j there fits)

    -- a part of share i
    share_part : (c w g i j : ℕ) (kind : PartKind) → c < T → w < length net.wires → names.label w ≡ Part g kind i j → share_of (Part g kind i j) ≡ Some i → (IsCross kind → Prim.⊥) → P c i →
        ((n : ℕ) → source net w ≢ Input n) → ((n : ℕ) → source net w ≢ Random n) → Needs net ranked T x y Must (source net w) c w
    share_part c w g i j kind below inside is share cross p no_input no_random =
        plain c w inside (source net w) refl
        (λ b v le h. may_read (P b) (names.label v) i (reads_share net names d hpc2 w g i j kind inside is share cross v h) (older_to c b i le p))
        (λ n e. absurd (no_input n e)) no_random

    by_part : (c w g i j : ℕ) (kind : PartKind) → c < T → w < length net.wires → names.label w ≡ Part g kind i j → IsPart net names w g kind i j → SharePart (P c) (part_share kind i) → Needs net ranked T x y Must (source net w) c w
    by_part c w g i j KClk below inside is k p = absurd p
    by_part c w g i j KA below inside is k p = share_part c w g i j KA below inside is refl (λ no. no) p (λ n e. cc) (λ n e. cc)
    by_part c w g i j KB below inside is k p = share_part c w g i j KB below inside is refl (λ no. no) p (λ n e. cc) (λ n e. cc)
    by_part c w g i j KR below inside is k p = absurd p
    by_part c w g i j KRr below inside is k p = absurd p
    by_part c w g i j KBb below inside is k p = share_part c w g i j KBb below inside is refl (λ no. no) p (λ n e. cc) (λ n e. cc)
    by_part c w g i j KVx below inside is k p = absurd p
    by_part c w g i j KV below inside is k p = absurd p
    by_part c w g i j KNa below inside is k p = share_part c w g i j KNa below inside is refl (λ no. no) p (λ n e. cc) (λ n e. cc)
    by_part c w g i j KUx below inside is k p = absurd p
    by_part c w g i j KU below inside is k p =
        let all = hpc2.whole w g i j KU inside is in
        subst (λ D. Needs net ranked T x y Must D c w) (sym k.1)
        (λ earlier. subst (λ u. x c u ≡ y c u) (sym all.1) (cross_u c g i j below all.2 all.0 p earlier))
    by_part c w g i j KWx below inside is k p = absurd p
    by_part c w g i j KW below inside is k p =
        let all = hpc2.whole w g i j KW inside is in
        subst (λ D. Needs net ranked T x y Must D c w) (sym k.1)
        (λ earlier. subst (λ u. x c u ≡ y c u) (sym all.1) (cross_w c g i j below all.2 all.0 p earlier))
    by_part c w g i j KMx below inside is k p = share_part c w g i j KMx below inside is refl (λ no. no) p (λ n e. cc) (λ n e. cc)
    by_part c w g i j KM below inside is k p = share_part c w g i j KM below inside is refl (λ no. no) p (λ n e. cc) (λ n e. cc)
    by_part c w g i j KS below inside is k p = share_part c w g i j KS below inside is refl (λ no. no) p (λ n e. cc) (λ n e. cc)
    by_part c w g i j KC below inside is k p = share_part c w g i j KC below inside is refl (λ no. no) p (λ n e. cc) (λ n e. cc)

    by_label : (c w : ℕ) (label : Tag) → c < T → w < length net.wires → names.label w ≡ label → Keeps net names w label → Sees (P c) label → Needs net ranked T x y Must (source net w) c w
    by_label c w ClockWire below inside is k p =
        plain c w inside (source net w) refl (λ b v le h. absurd (true≢false (sym h ∙ ap (λ D. reads_ever D v) k))) (λ n e. cc) (λ n e. cc)
    by_label c w Public below inside is k p =
        plain c w inside (source net w) refl (λ b v le h. subst (Sees (P b)) (sym (k.0 v h)) tt)
        (λ n e. ties.open_in c n below (hpc2.ports w n inside e) (k.1 n e)) k.2
    by_label c w (RandomBit g i j) below inside is k p = absurd p
    by_label c w (Plain i) below inside is k p =
        plain c w inside (source net w) refl (λ b v le h. may_read (P b) (names.label v) i (k.0 v h) (older_to c b i le p))
        (λ n e. ties.share_in c n i below (hpc2.ports w n inside e) p (k.1 n e)) k.2
    by_label c w (Part g kind i j) below inside is k p = by_part c w g i j kind below inside is k p

    pub needs : (c w : ℕ) → c < T → w < length net.wires → Must c w → Needs net ranked T x y Must (source net w) c w
    needs c w below inside must = by_label c w (names.label w) below inside refl (hpc2.keeps w inside) must

    -- in each cycle the wires that are to agree do
    pub alike : (c : ℕ) → c < T → Alike c
    alike = agrees net ranked T x y Must needs
