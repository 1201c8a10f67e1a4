use Rattle.small_text.proofs.print.item.Goals as goal

pub returns-in-Not : goal.returns-in-Not
returns-in-Not c = rw c.in-Not.is c.not.ensures

pub returns-in-Xor : goal.returns-in-Xor
returns-in-Xor c = rw c.in-Xor.is c.gate.ensures

pub returns-in-And : goal.returns-in-And
returns-in-And c = rw c.in-And.is c.gate-in-And.ensures

pub returns-in-Register : goal.returns-in-Register
returns-in-Register c = rw c.in-Register.is c.register.ensures
