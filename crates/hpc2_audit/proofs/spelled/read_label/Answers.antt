use Rattle.std.proofs.Common.{◌≡◌, ◌++◌, ◌∙◌, true, length, drop, refl, sym, ap, subst, true≢false}
use Rattle.std.proofs.lemmas.Bool.Decides.{Decides-eqb}
use Rattle.std.proofs.lemmas.Slice.Eq.{bytes_eq-Decides, starts_is}
use Rattle.agm_net.specs.Label.{IsBitOf}
use Rattle.hpc2_audit.proofs.Spelling.{share_other}
use Rattle.hpc2_audit.proofs.spelled.read_label.Goals as goal

pub part_or_nothing-requires : goal.part_or_nothing-requires
part_or_nothing-requires c =
    let name = c.args.name.now in
    let front = c.as_slice.result.now in
    let begins : name ≡ front ++ drop (length front) name = (starts_is Decides-eqb name front true c.if-not-starts_with.ensures.value).0 refl in
    record {
      no_user = λ user. user (drop (length front) name) (begins ∙ ap (λ f. f ++ drop (length front) name) c.as_slice.ensures);
      no_clock = λ e. true≢false (sym ((bytes_eq-Decides name c.as_slice-2.result.now).1 (e ∙ sym c.as_slice-2.ensures)) ∙ sym c.if-eq.ensures);
      no_public = λ h. true≢false (sym (c.if-is_public.ensures.1 h));
      no_random = λ h. true≢false (sym (c.if-is_bit_of.ensures.1 (subst (λ p. IsBitOf p name) (sym c.as_slice-3.ensures) h)));
      no_share = λ i le. c.in-None.ensures i;
    }

pub returns-else-index-order : goal.returns-else-index-order
returns-else-index-order c =
    let name = c.args.name.now in
    let front = c.as_slice.result.now in
    let begins : name ≡ front ++ drop (length front) name = (starts_is Decides-eqb name front true c.if-not-starts_with.ensures.value).0 refl in
    share_other c.args.order c.in-Some.index name c.if-index-order.false c.in-Some.ensures (
      λ user. user (drop (length front) name) (begins ∙ ap (λ f. f ++ drop (length front) name) c.as_slice.ensures),
      λ e. true≢false (sym ((bytes_eq-Decides name c.as_slice-2.result.now).1 (e ∙ sym c.as_slice-2.ensures)) ∙ sym c.if-eq.ensures),
      λ h. true≢false (sym (c.if-is_public.ensures.1 h)),
      λ h. true≢false (sym (c.if-is_bit_of.ensures.1 (subst (λ p. IsBitOf p name) (sym c.as_slice-3.ensures) h))),
    )
