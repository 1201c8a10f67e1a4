use Rattle.std.proofs.Common.{◌≡◌, ◌++◌, List, map, slice_get, subst, ap, sym, ◌∙◌}
use Rattle.cell_library.specs.Spelled.{cell_of}
use Rattle.cell_library.specs.declared.types.Cell.{Cell}
use Rattle.cell_faces.specs.View.{Tables}
use Rattle.verilog_reader.specs.View.{module_view}
use Rattle.module_outlines.specs.declared.outline.Outline.{Outline}
use Rattle.net_binding.specs.Walk.{Parts}
use Rattle.net_binding.specs.Bound.{Answers, module_outcome, parts_of}
use Rattle.net_binding.specs.Ready.{AreOutlines, plain_parts}
use Rattle.net_binding.proofs.top.bind_top.Goals as goal
use Rattle.net_binding.proofs.Made.{parts_are}

pub bind_walk-requires : goal.bind_walk-requires
bind_walk-requires c =
    record {
      numbers_are = c.in_ok-numbers.ensures;
      outlines_are = subst (λ (xs : List Outline). AreOutlines c.args.modules.now xs) (sym c.as_slice-3.ensures) c.in_ok-outlines.ensures;
      tables_are =
          subst (λ (xs : List Cell). Tables (xs ++ c.as_slice-5.result.now) c.in_ok-cells.cells) (c.as_slice.ensures ∙ sym c.as_slice-4.ensures)
          (subst (λ (xs : List Cell). Tables (c.as_slice.result.now ++ xs) c.in_ok-cells.cells) (c.as_slice-2.ensures ∙ sym c.as_slice-5.ensures) c.in_ok-cells.ensures);
    }

pub returns : goal.returns
returns c =
    let modules = c.args.modules.now in
    let same : plain_parts modules (c.as_slice-4.result.now ++ c.as_slice-5.result.now) ≡ parts_of (map cell_of c.args.library.now.cells) (map module_view modules) =
    parts_are modules c.as_slice-4.result.now c.as_slice-5.result.now (ap (λ (xs : List Cell). map cell_of xs) c.as_slice-4.ensures ∙ c.in_ok-known.ensures)
    ∙ ap (λ (xs : List Cell). parts_of (map cell_of xs) (map module_view modules)) c.as_slice-5.ensures in
    subst (λ (P : Parts). Answers (module_outcome P c.args.top (slice_get (map module_view modules) c.args.top)) c.bind_walk.result) same c.bind_walk.ensures
