use Rattle.annotations.proofs.ports.check_port.Goals as goal

pub returns-then-whole : goal.returns-then-whole
returns-then-whole c top net same are = rw c.if-whole.true (c.check_all.ensures top net same are)

pub returns-else-whole : goal.returns-else-whole
returns-else-whole c top net same are = rw c.if-whole.false (c.check_marks.ensures top net same are)
