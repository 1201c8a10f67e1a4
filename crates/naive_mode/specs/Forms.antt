-- The functions of two bits.
use Rattle.std.specs.Prelude.{◌≡◌, ◌==◌, ◌/◌, ◌%◌, ℕ, Bool, true, false, ◌&&◌}
use Rattle.agm_net.specs.Formula.{xor}
use Rattle.naive_mode.specs.declared.two_forms.TwoForm.{TwoForm}
use Rattle.naive_mode.specs.declared.two_forms.TwoForm.TheVariants.{Product, Affine}

-- the value of a form
abbrev pub form_value : TwoForm → (x y : Bool) → Bool
form_value (Product alpha beta gamma) x y = xor (xor x alpha && xor y beta) gamma
form_value (Affine alpha beta gamma) x y = xor (xor (x && alpha) (y && beta)) gamma

-- The form has at x and y the value that bit 2x + y of the code is.
pub record IsFormOf (code : ℕ) (form : TwoForm) : Type 0 where
  pub none : form_value form false false ≡ (code % 2 == 1)
  pub second : form_value form false true ≡ (code / 2 % 2 == 1)
  pub first : form_value form true false ≡ (code / 4 % 2 == 1)
  pub both : form_value form true true ≡ (code / 8 % 2 == 1)
