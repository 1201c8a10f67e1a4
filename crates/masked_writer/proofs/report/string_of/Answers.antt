use Rattle.std.proofs.Common.{◌∙◌, subst, sym}
use Rattle.std.specs.Str.{IsUtf8}
use Rattle.std.proofs.lemmas.Str.{IsUtf8-from_ascii}
use Rattle.masked_writer.proofs.Texts.{writable_ascii}
use Rattle.masked_writer.proofs.report.string_of.Goals as goal

pub returns : goal.returns
returns c =
    let spelled : IsUtf8 c.as_slice.result.now = subst IsUtf8 (sym c.as_slice.ensures) (IsUtf8-from_ascii _ (writable_ascii _ c.requires)) in
    c.in_ok-from_utf8_lossy.ensures.ok spelled ∙ c.as_slice.ensures
