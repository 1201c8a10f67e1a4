use Rattle.std.proofs.Common.{◌≡◌, sym, ap, subst, ◌∙◌}
use Rattle.std.specs.Prelude.{position}
use Rattle.std.specs.Str.{bytes_eq}
use Rattle.twin_tape.specs.Pairs.{factor_name, wire_named}
use Rattle.twin_tape.proofs.Naming.{found_named, is_found}
use Rattle.twin_tape.proofs.pairs.factor_of.Goals as goal

pub unreachable-requires : goal.unreachable-requires
unreachable-requires c =
    let names = c.args.names.now in
    let name = factor_name c.args.gadget c.args.letter.now c.args.index in
    is_found names name c.requires (ap (λ n. position (λ m. bytes_eq m n) names) (sym c.in_ok-name.ensures ∙ sym c.as_slice.ensures) ∙ (sym c.find.ensures ∙ c.in-None.is))

pub returns : goal.returns
returns c =
    let names = c.args.names.now in
    let name = factor_name c.args.gadget c.args.letter.now c.args.index in
    found_named names name c.in-Some.wire (ap (λ n. position (λ m. bytes_eq m n) names) (sym c.in_ok-name.ensures ∙ sym c.as_slice.ensures) ∙ (sym c.find.ensures ∙ c.in-Some.is))
