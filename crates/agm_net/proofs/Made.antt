-- The plain view of a net that was made of parts.
use Rattle.std.proofs.Common.{◌≡◌, ℕ, List, Option, IfOk, Ok, Err, sym, subst}
use Rattle.std.specs.Prelude.{Result}
use Rattle.agm_net.specs.Plain.{PlainNet, plain}
use Rattle.agm_net.specs.View.{plain_of}
use Rattle.agm_net.specs.declared.expr.Equation.{Equation}
use Rattle.agm_net.specs.declared.expr.Register.{Register}
use Rattle.agm_net.specs.declared.net.Net.{Net}
use Rattle.agm_net.specs.declared.port.Port.{Port}

module _ (ports : List Port) (wires : List (List ℕ)) (equations : List Equation) (registers : List Register) (clock : Option ℕ) where
  -- a net has these parts
  abbrev pub HasParts : Net → Type 0
  HasParts net = (net.ports ≡ ports) × (net.wires ≡ wires) × (net.equations ≡ equations) × (net.registers ≡ registers) × (net.clock ≡ clock)

  -- and so their plain view
  pub plain_of_parts : (net : Net) → HasParts net → plain_of net ≡ plain ports wires equations registers clock
  plain_of_parts net h = let a = h.0 in let b = h.1 in let c = h.2 in let d = h.3 in let e = h.4 in cc

  -- what holds of the parts' plain view holds of that of the net
  pub made_with : {E : Type 0} (P : PlainNet → Type 0) (r : Result Net E) → IfOk r HasParts → P (plain ports wires equations registers clock) → IfOk r (λ made. P (plain_of made))
  made_with P (Ok made) h fact = subst P (sym (plain_of_parts made h)) fact
  made_with P (Err e) h fact = tt
