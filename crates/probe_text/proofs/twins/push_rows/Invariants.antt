use Rattle.std.proofs.Common.{◌≡◌, ◌++◌, ◌∷◌, take}
use Rattle.std.specs.List.{flat_map}
use Rattle.probe_text.specs.Text.{row_text}
use Rattle.probe_text.proofs.twins.push_rows.Given as goal

abbrev pub invariant-loop-row : goal.invariant-loop-row
invariant-loop-row l = l.text ≡ l.initial.text ++ flat_map (λ row. 32 ∷ row_text row) (take l.row-index l.rows)
