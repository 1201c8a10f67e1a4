-- A name has one wire, so a part has.
use Rattle.std.proofs.Common.{◌≡◌, ◌<◌, ℕ, [], length, Some, sym, ap, inl, inr, ◌∙◌, arith, slice_get}
use Rattle.std.proofs.lemmas.Bool.{cases_lt}
use Rattle.std.proofs.lemmas.Option.{slice_get-get_or}
use Rattle.agm_net.specs.Plain.{PlainNet}
use Rattle.agm_net.specs.WellFormed.{WellFormed}
use Rattle.agm_net.specs.Label.{name_of, IsPart}
use Rattle.agm_net.specs.declared.label.Part.{Part}

module _ (net : PlainNet) (well : WellFormed net) where
  same_item : (v w : ℕ) → v < length net.wires → w < length net.wires → name_of net v ≡ name_of net w → slice_get net.wires v ≡ slice_get net.wires w
  same_item v w hv hw e =
      slice_get-get_or net.wires v [] hv ∙ (ap (λ name. Some name) e ∙ sym (slice_get-get_or net.wires w [] hw))

  -- two wires of one name are one
  pub one_wire : (v w : ℕ) → v < length net.wires → w < length net.wires → name_of net v ≡ name_of net w → v ≡ w
  one_wire v w hv hw e =
      elim (cases_lt v w) [
        | inl less ↦ absurd (well.wires_differ v w less hw (same_item v w hv hw e))
        | inr ge ↦ elim (cases_lt w v) [
          | inl more ↦ absurd (well.wires_differ w v more hv (same_item w v hw hv (sym e)))
          | inr le ↦ omega arith
        ]
      ]

  -- a part is one wire
  pub one_part_wire : (d v w : ℕ) (p : Part) → v < length net.wires → w < length net.wires → IsPart net d v p → IsPart net d w p → v ≡ w
  one_part_wire d v w p hv hw here there = one_wire v w hv hw (here.4 ∙ sym there.4)
