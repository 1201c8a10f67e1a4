-- All rules of a wire, and the number of gadgets.
use Rattle.std.proofs.Common.{◌≡◌, ◌<◌, ◌+◌, ◌++◌, ◌∷◌, ◌↔◌, ℕ, zero, suc, Bool, true, false, List, [], Option, Some, None, MatchOption, length, get_or, IsTrue, refl, sym, ap, subst, inl, inr, ◌∙◌, arith}
use Rattle.std.specs.Prelude.{◌&&◌, Result, Ok, Err, IfOk, is_some}
use Rattle.std.proofs.lemmas.Bool.{cases_lt, and_parts, and_from}
use Rattle.agm_net.specs.Label.{HasLabel}
use Rattle.agm_net.specs.Network.{HasGadget, HasGadgets, Keeps}
use Rattle.agm_net.specs.Plain.{PlainNet}
use Rattle.agm_net.specs.declared.label.Label.{Label}
use Rattle.agm_net.specs.declared.label.Label.TheVariants.{Clock}
use Rattle.hpc2_audit.specs.Audited.{AllKeep, KeepsOwn}
use Rattle.hpc2_audit.specs.Gadgets.{IsNumbering}
use Rattle.hpc2_audit.specs.Rules.{HasSomeLabel, KeepsWhole}

pub keeps_to : (net : PlainNet) (d w : ℕ) → KeepsOwn net d w → KeepsWhole net d w → Keeps net d w
keeps_to net d w own whole = record {
  labelled = own.0;
  is_clock = own.1.0;
  is_random = own.1.1;
  public_reads = own.2.0;
  share_reads = own.2.1;
  made = own.3;
  whole = whole;
  numbered = own.5;
  clocked = own.4;
}

pub own_from : (net : PlainNet) (d w : ℕ) → Keeps net d w → KeepsOwn net d w
own_from net d w keeps = (keeps.labelled, (keeps.is_clock, keeps.is_random), (keeps.public_reads, keeps.share_reads), keeps.made, keeps.clocked, keeps.numbered)

-- six tests
pub six_tell : (a b c d e f : Bool) (A B C D E F : Type 0) → (IsTrue a ↔ A) → (IsTrue b ↔ B) → (IsTrue c ↔ C) → (IsTrue d ↔ D) → (IsTrue e ↔ E) → (IsTrue f ↔ F)
    → IsTrue (a && (b && (c && (d && (e && f))))) ↔ (A × B × C × D × E × F)
six_tell a b c d e f A B C D E F p q r s t u = (
  λ h. (
      let one = and_parts a (b && (c && (d && (e && f)))) h in
      let two = and_parts b (c && (d && (e && f))) one.1 in
      let three = and_parts c (d && (e && f)) two.1 in
      let four = and_parts d (e && f) three.1 in
      let five = and_parts e f four.1 in
      (p.0 one.0, q.0 two.0, r.0 three.0, s.0 four.0, t.0 five.0, u.0 five.1)),
  λ h. and_from a (b && (c && (d && (e && f)))) (p.1 h.0)
      (and_from b (c && (d && (e && f))) (q.1 h.1) (and_from c (d && (e && f)) (r.1 h.2) (and_from d (e && f) (s.1 h.3) (and_from e f (t.1 h.4) (u.1 h.5))))),
)

-- in a network the gadgets are those below the first number that is none's
pub gadgets_are : (net : PlainNet) (d m : ℕ) (behind : Option ℕ) → IsNumbering net d m behind → AllKeep net d → HasGadgets net d m
gadgets_are net d m behind numbering keep = λ g. (
  λ has. elim (cases_lt g m) [
    | inl lt ↦ lt
    | inr ge ↦ elim (cases_lt m g) [
      | inl more ↦ absurd (gap behind refl g more has)
      | inr le ↦ absurd (let same : g ≡ m = omega arith in numbering.none (subst (HasGadget net d) same has))
    ]
  ],
  λ lt. numbering.before g lt,
)
  where
    gap : (b : Option ℕ) → behind ≡ b → (g : ℕ) → m < g → HasGadget net d g → Prim.⊥
    gap None e g more has = numbering.no_gap e g more has
    gap (Some h) e g more has =
        let own = numbering.behind_gap h e in
        (keep own.0 own.1).numbered h own.2 ((numbering.lowest h own).1 e)

-- a fact of an answer, if it is Ok
pub ok_map : {X E : Type 0} (r : Result X E) (P Q : X → Type 0) → ((x : X) → P x → Q x) → IfOk r P → IfOk r Q
ok_map (Ok x) P Q f h = f x h
ok_map (Err e) P Q f h = tt

-- all rules, where those asked of a wire alone are kept
pub keeps_tell : (net : PlainNet) (d w : ℕ) (b : Bool) → KeepsOwn net d w → (IsTrue b ↔ KeepsWhole net d w) → IsTrue b ↔ Keeps net d w
keeps_tell net d w b own tells = (λ h. keeps_to net d w own (tells.0 h), λ keeps. tells.1 keeps.whole)

-- a wire has a label where one is found
pub label_tells : (net : PlainNet) (d w : ℕ) (o : Option Label) → MatchOption o ((l : Label) → HasLabel net d w l → Prim.⊥) (HasLabel net d w) → IsTrue (is_some o) ↔ HasSomeLabel net d w
label_tells net d w None h = (λ yes. absurd (let wrong : false ≡ true = yes in cc), λ some. absurd (h some.0 some.1))
label_tells net d w (Some l) h = (λ yes. (l, h), λ some. refl)

-- one label more
get_front : (xs : List Label) (x : Label) (n : ℕ) → n < length xs → get_or (xs ++ x ∷ []) n Clock ≡ get_or xs n Clock
get_front [] x n lt = absurd (omega arith)
get_front (y ∷ ys) x zero lt = refl
get_front (y ∷ ys) x (suc n) lt = get_front ys x n (omega arith)

get_end : (xs : List Label) (x : Label) → get_or (xs ++ x ∷ []) (length xs) Clock ≡ x
get_end [] x = refl
get_end (y ∷ ys) x = get_end ys x

pub label_more : (net : PlainNet) (d n : ℕ) (labels : List Label) (l : Label) → length labels ≡ n → ((w : ℕ) → w < n → HasLabel net d w (get_or labels w Clock)) → HasLabel net d n l
    → (w : ℕ) → w < n + 1 → HasLabel net d w (get_or (labels ++ l ∷ []) w Clock)
label_more net d n labels l long before here = λ w lt.
    elim (cases_lt w n) [
      | inl less ↦ subst (HasLabel net d w) (sym (get_front labels l w (omega arith))) (before w less)
      | inr ge ↦ (
          let same : n ≡ w = omega arith in
          let place : w ≡ length labels = omega arith in
          subst (HasLabel net d w) (sym (ap (λ k. get_or (labels ++ l ∷ []) k Clock) place ∙ get_end labels l)) (subst (λ k. HasLabel net d k l) same here))
    ]
