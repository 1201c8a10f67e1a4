use Rattle.std.proofs.Common.{◌≡◌, ◌++◌, map, take}
use Rattle.form_bits.specs.declared.types.Bit.TheVariants.{Constant}
use Rattle.form_bits.proofs.bits.push_constants.Given as goal

abbrev pub invariant-loop-constant : goal.invariant-loop-constant
invariant-loop-constant l = l.bits ≡ l.initial.bits ++ map (λ b. Constant b) (take l.constant-index l.constants)
