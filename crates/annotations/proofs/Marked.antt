-- What a set of marks says of the marks.
use Rattle.std.proofs.Common.{◌≡◌, ℕ, zero, suc, ◌<◌, Bool, true, false, not, ◌&&◌, ◌||◌, Option, Some, None, List, [], ◌∷◌, length, refl, sym, ap, ◌∙◌, arith, inl, inr, ◌⊎◌}
use Rattle.std.specs.Cmp.Lexicographic.{bytes_decides}
use Rattle.std.specs.List.{list_any}
use Rattle.std.specs.Option.{option_map_or}
use Rattle.std.specs.Prelude.{nat_lt, codes, slice_index_or, Contains}
use Rattle.std.specs.Str.{bytes_eq}
use Rattle.std.proofs.lemmas.Bool.{cases_Bool, both_ways}
use mathlib.Core.Logic.{⊎_elim}
use Rattle.agm_net.specs.Plain.{PlainNet}
use Rattle.agm_net.specs.WellFormed.{is_clock_port}
use Rattle.agm_net.specs.declared.port.Port.{Port}
use Rattle.annotations.specs.Asked.{two_of}
use Rattle.annotations.specs.Rules.{valued, twice, marks_of, DoDiffer, Broken, clock_rules_of, NoneBroken, IsFirstFault}
use Rattle.top_module.specs.Marks.{says, is_unknown, mark_set}
use Rattle.top_module.specs.declared.facts.MarkSet.{MarkSet}
use Rattle.verilog_reader.specs.Plain.{PlainModule}
use Rattle.verilog_reader.specs.declared.design.Value.{Value}
use Rattle.verilog_reader.specs.declared.design.Value.TheVariants.{Text, Number, Bits}
use Rattle.annotations.specs.declared.fault.AnnotationFault.TheVariants as fault

says_is : (word : List ℕ) (v : Option Value) → says word v ≡ true → v ≡ Some (Text word)
says_is word None h = absurd (cc)
says_is word (Some (Text text)) h = ap (λ (t : List ℕ). Some (Text t)) ((bytes_decides text word).0 h)
says_is word (Some (Number n)) h = absurd (cc)
says_is word (Some (Bits bits)) h = absurd (cc)

-- a word that some mark has is among the marks
has_word : (word : List ℕ) (marks : List (Option Value)) → list_any (says word) marks ≡ true → Contains marks (Some (Text word))
has_word word [] h = absurd (cc)
has_word word (v ∷ vs) h =
    ⊎_elim
    (λ holds. (zero, omega arith, says_is word v holds))
    (λ fails. let rest = has_word word vs (rw fails at h) in (suc rest.0, (let w = rest.1 in omega arith), rest.2))
    (cases_Bool (says word v))

any_at : (p : Option Value → Bool) (marks : List (Option Value)) (k : ℕ) (a : Option Value) → k < length marks → slice_index_or marks k a ≡ a → p a ≡ true → list_any p marks ≡ true
any_at p [] k a within at holds = absurd (omega arith)
any_at p (v ∷ vs) zero a within at holds = rw (ap p at ∙ holds) refl
any_at p (v ∷ vs) (suc k) a within at holds = ⊎_elim (λ here. rw here refl) (λ other. rw other (any_at p vs k a (omega arith) at holds)) (cases_Bool (p v))

any_of : (p : Option Value → Bool) (marks : List (Option Value)) (a : Option Value) → Contains marks a → p a ≡ true → list_any p marks ≡ true
any_of p marks a has holds = any_at p marks has.0 a has.1 has.2 holds

two_cases : (s p c : Bool) → ((s && p) || ((s && c) || (p && c))) ≡ true → ((s ≡ true) × (p ≡ true)) ⊎ (((s ≡ true) × (c ≡ true)) ⊎ ((p ≡ true) × (c ≡ true)))
two_cases true true c h = inl (refl, refl)
two_cases true false true h = inr (inl (refl, refl))
two_cases true false false h = absurd (cc)
two_cases false true true h = inr (inr (refl, refl))
two_cases false true false h = absurd (cc)
two_cases false false c h = absurd (cc)

words_differ : (v w : List ℕ) → bytes_eq w v ≡ false → Some (Text v) ≡ Some (Text w) → ⊥
words_differ v w other e = both_ways (bytes_eq w v) other (sym (ap (says v) e) ∙ (bytes_decides v v).1 refl)

-- two words in a set are two marks that differ
pub differ_two : (marks : List (Option Value)) → two_of (mark_set marks) ≡ true → DoDiffer marks
differ_two marks two =
    ⊎_elim
    (λ h. (Some (Text (codes "secure")), Some (Text (codes "public")), has_word (codes "secure") marks h.0, has_word (codes "public") marks h.1, words_differ (codes "secure") (codes "public") refl))
    (λ later. ⊎_elim
    (λ h. (Some (Text (codes "secure")), Some (Text (codes "clock")), has_word (codes "secure") marks h.0, has_word (codes "clock") marks h.1, words_differ (codes "secure") (codes "clock") refl))
    (λ h. (Some (Text (codes "public")), Some (Text (codes "clock")), has_word (codes "public") marks h.0, has_word (codes "clock") marks h.1, words_differ (codes "public") (codes "clock") refl))
    later)
    (two_cases (list_any (says (codes "secure")) marks) (list_any (says (codes "public")) marks) (list_any (says (codes "clock")) marks) two)

word_of : (s p c : Bool) → not (s || (p || c)) ≡ false → (s ≡ true) ⊎ ((p ≡ true) ⊎ (c ≡ true))
word_of true p c h = inl refl
word_of false true c h = inr (inl refl)
word_of false false true h = inr (inr refl)
word_of false false false h = absurd (cc)

two_true : (s p c : Bool) → (((s && p) || ((s && c) || (p && c))) ≡ false) → ((s ≡ true → p ≡ true → ⊥) × (s ≡ true → c ≡ true → ⊥) × (p ≡ true → c ≡ true → ⊥))
two_true true true c h = absurd (cc)
two_true true false true h = absurd (cc)
two_true true false false h = (λ a b. absurd (cc), λ a b. absurd (cc), λ a b. absurd (cc))
two_true false true true h = absurd (cc)
two_true false true false h = (λ a b. absurd (cc), λ a b. absurd (cc), λ a b. absurd (cc))
two_true false false c h = (λ a b. absurd (cc), λ a b. absurd (cc), λ a b. absurd (cc))

module _ (marks : List (Option Value)) (known : list_any is_unknown marks ≡ false) (one : two_of (mark_set marks) ≡ false) where
  apart : ((list_any (says (codes "secure")) marks ≡ true → list_any (says (codes "public")) marks ≡ true → ⊥)
      × (list_any (says (codes "secure")) marks ≡ true → list_any (says (codes "clock")) marks ≡ true → ⊥)
      × (list_any (says (codes "public")) marks ≡ true → list_any (says (codes "clock")) marks ≡ true → ⊥))
  apart = two_true (list_any (says (codes "secure")) marks) (list_any (says (codes "public")) marks) (list_any (says (codes "clock")) marks) one

  word : (a : Option Value) → Contains marks a → (says (codes "secure") a ≡ true) ⊎ ((says (codes "public") a ≡ true) ⊎ (says (codes "clock") a ≡ true))
  word a has = word_of (says (codes "secure") a) (says (codes "public") a) (says (codes "clock") a)
      (⊎_elim (λ holds. absurd (both_ways (list_any is_unknown marks) known (any_of is_unknown marks a has holds))) (λ fails. fails) (cases_Bool (is_unknown a)))

  same_word : (w : List ℕ) (a b : Option Value) → says w a ≡ true → says w b ≡ true → a ≡ b
  same_word w a b x y = says_is w a x ∙ sym (says_is w b y)

  -- where all marks are known and no two words are in the set, the marks are the same
  pub same_all : DoDiffer marks → ⊥
  same_all d =
      let a = d.0 in let b = d.1 in
      let any = λ (w : List ℕ) (v : Option Value) (has : Contains marks v) (holds : says w v ≡ true). any_of (says w) marks v has holds in
      ⊎_elim
      (λ sa. ⊎_elim
      (λ sb. d.4 (same_word (codes "secure") a b sa sb))
      (λ other. ⊎_elim (λ pb. apart.0 (any (codes "secure") a d.2 sa) (any (codes "public") b d.3 pb)) (λ cb. apart.1 (any (codes "secure") a d.2 sa) (any (codes "clock") b d.3 cb)) other)
      (word b d.3))
      (λ other. ⊎_elim
      (λ pa. ⊎_elim
      (λ sb. apart.0 (any (codes "secure") b d.3 sb) (any (codes "public") a d.2 pa))
      (λ more. ⊎_elim (λ pb. d.4 (same_word (codes "public") a b pa pb)) (λ cb. apart.2 (any (codes "public") a d.2 pa) (any (codes "clock") b d.3 cb)) more)
      (word b d.3))
      (λ ca. ⊎_elim
      (λ sb. apart.1 (any (codes "secure") b d.3 sb) (any (codes "clock") a d.2 ca))
      (λ more. ⊎_elim (λ pb. apart.2 (any (codes "public") b d.3 pb) (any (codes "clock") a d.2 ca)) (λ cb. d.4 (same_word (codes "clock") a b ca cb)) more)
      (word b d.3))
      other)
      (word a d.2)

or_left_false : (a b : Bool) → (a || b) ≡ false → a ≡ false
or_left_false true b h = absurd (cc)
or_left_false false b h = refl

module _ (top : PlainModule) (net : PlainNet) (k : ℕ) (p : Port) (set : MarkSet) (are : set ≡ mark_set (marks_of top p)) (right : (set.unknown || (set.clock && not (is_clock_port p))) ≡ false) where
  not_valued : ¬ Broken top net (valued k p)
  not_valued wrong = both_ways _ (ap (λ (m : MarkSet). m.unknown || (m.clock && not (is_clock_port p))) (sym are) ∙ right) wrong

  -- the faults of a port whose values are right
  pub twice_first : two_of set ≡ true → IsFirstFault (Broken top net) (clock_rules_of (k, p)) (fault.Twice k)
  twice_first two = inr (not_valued, inl (differ_two (marks_of top p) (ap two_of (sym are) ∙ two), refl))

  not_twice : two_of set ≡ false → ¬ Broken top net (twice k p)
  not_twice one = same_all (marks_of top p) (ap (λ (m : MarkSet). m.unknown) (sym are) ∙ or_left_false set.unknown _ right) (ap two_of (sym are) ∙ one)

  pub second_first : two_of set ≡ false → (set.clock && option_map_or (λ c. nat_lt c k) net.clock false) ≡ true → IsFirstFault (Broken top net) (clock_rules_of (k, p)) (fault.SecondClock k)
  second_first one behind = inr (not_valued, inr (not_twice one, inl (ap (λ (m : MarkSet). m.clock && option_map_or (λ c. nat_lt c k) net.clock false) (sym are) ∙ behind, refl)))

  pub none_of_port : two_of set ≡ false → (set.clock && option_map_or (λ c. nat_lt c k) net.clock false) ≡ false → NoneBroken (Broken top net) (clock_rules_of (k, p))
  none_of_port one early = (not_valued, (not_twice one, (λ behind. both_ways _ (ap (λ (m : MarkSet). m.clock && option_map_or (λ c. nat_lt c k) net.clock false) (sym are) ∙ early) behind, tt)))
