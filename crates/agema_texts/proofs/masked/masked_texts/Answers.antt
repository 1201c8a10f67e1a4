use Rattle.std.proofs.Common.{List, ℕ, map, string_bytes, subst, sym}
use Rattle.agm_net.specs.View.{plain_of}
use Rattle.cell_library.specs.Spelled.{cell_of}
use Rattle.agema_texts.specs.Masks.{Masks}
use Rattle.agema_texts.proofs.Comparings.{made_masks}
use Rattle.agema_texts.proofs.masked.masked_texts.Goals as goal

pub texts_of-requires : goal.texts_of-requires
texts_of-requires c = c.in_ok-made.ensures.ok.made_of.written

pub returns-in-Ok-clause-ok : goal.returns-in-Ok-clause-ok
returns-in-Ok-clause-ok c =
    let made = c.in_ok-made.made in
    let texts = c.in-Ok.texts in
    subst (λ (net : List ℕ). Masks (map cell_of c.args.library.now.cells) c.args.bytes.now c.args.order net (string_bytes texts.report) (string_bytes texts.line)) (sym c.in-Ok.ensures.net)
    (made_masks (map cell_of c.args.library.now.cells) c.args.bytes.now c.args.order (plain_of made.original) (plain_of made.masked.net) made.masked.report made.out (string_bytes texts.report) (string_bytes texts.line) c.in_ok-made.ensures.ok c.in-Ok.ensures.report c.in-Ok.ensures.line)
