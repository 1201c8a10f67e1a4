use Rattle.std.proofs.Common.{◌≡◌, true, false, List, ℕ, [], ◌∷◌, length, map, replicate, refl, sym, ap, subst, ◌∙◌}
use Rattle.agm_net.specs.Plain.{bit_names}
use Rattle.agm_net.specs.Role.{share_name, IsOfShare}
use Rattle.share_wiring.specs.Own.{upto}
use Rattle.share_wiring.specs.Recombine.{port_value, is_shared}
use Rattle.share_wiring.specs.Shape.{header_of}
use Rattle.share_wiring.proofs.OwnWires.{length-upto}
use Rattle.share_wiring.proofs.ShapePorts.{same_width}
use Rattle.pipeline_balance.specs.Ports.{FitsBeside, input_header, row_of}
use Rattle.pipeline_balance.specs.Entering.{FitInOrder, Enters, HasPublicBits, named_headers, shared_row, headers_for, kinds_for, values_for}
use Rattle.pipeline_balance.proofs.Sizes.{value_fits}
use Rattle.pipeline_balance.proofs.EnteringSteps.{enters_as}
use Rattle.pipeline_balance.proofs.EnteringInputs.{of_share, shared_headers, own_headers, kinds_are, shared_values, own_values, free_public}
use Rattle.pipeline_balance.proofs.input_ports.input_in.Goals as goal

pub shared_in-requires : goal.shared_in-requires
shared_in-requires g c =
    let n = g.row.S in
    let p = c.args.port.now in
    let report = c.args.report.now in
    let olds = map header_of c.args.builder.now.ports in
    let mine : List (List ℕ) = upto n (λ i. share_name i p.name) in
    let is : is_shared report p.name ≡ true = sym c.requires.shared ∙ c.if-shared.true in
    let names : c.as_slice-then-shared.result.now ≡ mine = c.as_slice-then-shared.ensures ∙ (c.in_ok-names.ensures ∙ ap (λ x. upto n (λ i. share_name i x)) c.as_slice.ensures) in (
      value_fits n c.requires.size.1,
      (
        c.requires.size,
        (
          ap length names ∙ length-upto n (λ i. share_name i p.name),
          (
            (λ i lt. subst (λ ns. IsOfShare i (row_of ns i)) (sym names) (of_share p.name n c.requires.some c.requires.size.1 i lt)),
            subst (λ ns. FitInOrder olds (named_headers p.range ns)) (sym names) (subst (FitInOrder olds) (shared_headers report p n c.requires.order c.requires.input is) c.requires.fit),
          ),
        ),
      ),
    )

pub public_in-requires : goal.public_in-requires
public_in-requires g c =
    let p = c.args.port.now in
    let report = c.args.report.now in
    let olds = map header_of c.args.builder.now.ports in
    let is : is_shared report p.name ≡ false = sym c.requires.shared ∙ c.if-shared.false in
    let name = c.as_slice-2.ensures in
    let fits = subst (FitInOrder olds) (own_headers report p g.row.S c.requires.order c.requires.input is) c.requires.fit in (
      value_fits g.row.S c.requires.size.1,
      (
        subst (λ x. FitsBeside olds (input_header p.range x)) (sym name) fits.0,
        (subst HasPublicBits (sym name) (free_public p.name c.requires.free), c.requires.size.1),
      ),
    )

pub returns-then-shared : goal.returns-then-shared
returns-then-shared g c =
    let n = g.row.S in
    let p = c.args.port.now in
    let report = c.args.report.now in
    let mine : List (List ℕ) = upto n (λ i. share_name i p.name) in
    let is : is_shared report p.name ≡ true = sym c.requires.shared ∙ c.if-shared.true in
    let names : c.as_slice-then-shared.result.now ≡ mine = c.as_slice-then-shared.ensures ∙ (c.in_ok-names.ensures ∙ ap (λ x. upto n (λ i. share_name i x)) c.as_slice.ensures) in
    let made =
    subst (λ ns. Enters n c.args.builder.now c.shared_in.new.builder (named_headers p.range ns) (replicate (length (bit_names [] p.range)) true) (shared_row n ns) c.in_ok-values.values) names c.in_ok-values.ensures in
    enters_as n c.args.builder.now c.shared_in.new.builder (named_headers p.range mine) (headers_for report (p ∷ [])) (replicate (length (bit_names [] p.range)) true) (kinds_for report (p ∷ []))
    (shared_row n mine) (values_for report (p ∷ [])) c.in_ok-values.values c.in_ok-values.values
    (sym (shared_headers report p n c.requires.order c.requires.input is))
    (kinds_are report p n c.requires.order c.requires.input true (length (bit_names [] p.range)) is (sym (c.requires.bits ∙ same_width p.name p.range)))
    (shared_values report p n c.requires.order c.requires.input is)
    refl made

pub returns : goal.returns
returns g c =
    let n = g.row.S in
    let p = c.args.port.now in
    let report = c.args.report.now in
    let is : is_shared report p.name ≡ false = sym c.requires.shared ∙ c.if-shared.false in
    let name = c.as_slice-2.ensures in
    let made =
    subst (λ x. Enters n c.args.builder.now c.public_in.new.builder (input_header p.range x ∷ []) (replicate (length (bit_names x p.range)) false) (λ net bit. port_value net x bit) c.in_ok-values-2.values) name c.in_ok-values-2.ensures in
    enters_as n c.args.builder.now c.public_in.new.builder (input_header p.range p.name ∷ []) (headers_for report (p ∷ [])) (replicate (length (bit_names p.name p.range)) false) (kinds_for report (p ∷ []))
    (λ net bit. port_value net p.name bit) (values_for report (p ∷ [])) c.in_ok-values-2.values c.in_ok-values-2.values
    (sym (own_headers report p n c.requires.order c.requires.input is))
    (kinds_are report p n c.requires.order c.requires.input false (length (bit_names p.name p.range)) is (sym c.requires.bits))
    (own_values report p n c.requires.order c.requires.input is)
    refl made
