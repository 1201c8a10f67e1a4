-- Laws of the number that tells why parts are no net.
use Rattle.std.proofs.Common.{◌≡◌, ℕ, ◌∙◌, sym}
use Rattle.std.proofs.lemmas.Bool.{cases_order}
use mathlib.Core.Logic.{⊎_elim}
use Rattle.agm_net.specs.Plain.{PlainNet}
use Rattle.agm_net.specs.WellFormed.{WellFormed, IsFirstBad, parts, wire}

-- a net has no such number
pub not_refused : (net : PlainNet) (w : ℕ) → WellFormed net → IsFirstBad net w → Prim.⊥
not_refused net w formed (parts is wrong) = wrong formed.in_range formed.ports_right
not_refused net w formed (wire numbers ports within before wrong) = wrong ((λ v below. formed.wires_differ v w below within), formed.one_driver w within)

-- and other parts have one
pub one_number : (net : PlainNet) (v w : ℕ) → IsFirstBad net v → IsFirstBad net w → v ≡ w
one_number net v w (parts is wrong) (parts is_too wrong_too) = is ∙ sym is_too
one_number net v w (parts is wrong) (wire numbers ports within before wrong_too) = absurd (wrong numbers ports)
one_number net v w (wire numbers ports within before wrong) (parts is wrong_too) = absurd (wrong_too numbers ports)
one_number net v w (wire numbers ports within before wrong) (wire numbers_too ports_too within_too before_too wrong_too) =
    ⊎_elim
    (λ same. same)
    (λ other. ⊎_elim (λ below. absurd (wrong (before_too v below))) (λ above. absurd (wrong_too (before w above))) other)
    (cases_order v w)
