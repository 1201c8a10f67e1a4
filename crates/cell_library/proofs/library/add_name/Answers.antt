use Rattle.std.proofs.Common.{◌≡◌, cond, Some, None, sym, ap, ◌∙◌}
use Rattle.cell_library.specs.Judged.{is_among}
use Rattle.cell_library.specs.Spelled.{is_reserved}
use Rattle.cell_library.specs.declared.types.CellCause.TheVariants.{Duplicate, Reserved}
use Rattle.cell_library.proofs.Names.{fault_same, fault_none}
use Rattle.cell_library.proofs.library.add_name.Goals as goal

pub returns : goal.returns
returns c =
    let reserved : c.is_reserved-is_reserved.result ≡ is_reserved c.args.name.now = c.is_reserved-is_reserved.ensures ∙ ap is_reserved c.as_slice.ensures in (
      c.fault_of.ensures
          ∙ (ap (λ b. cond c.in_ok-is_new.is_new (cond b (Some Reserved) None) (Some Duplicate)) reserved
          ∙ fault_same c.in_ok-is_new.is_new (is_among c.args.names.now c.args.name.now) (is_reserved c.args.name.now) c.in_ok-is_new.ensures.0),
      λ h. c.in_ok-is_new.ensures.1 (fault_none c.in_ok-is_new.is_new c.is_reserved-is_reserved.result (sym c.fault_of.ensures ∙ h)),
    )
