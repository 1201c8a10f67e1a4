use Rattle.agm_net.proofs.PlainForm.{plain_yes, plain_no}
use Rattle.agm_net.proofs.net.Net.is_plain.Goals as goal

pub returns-then-are_parts_plain : goal.returns-then-are_parts_plain
returns-then-are_parts_plain c = plain_yes c.args.self.now c.are_parts_plain.result (cc) c.if-are_parts_plain.true

pub returns-else-are_parts_plain : goal.returns-else-are_parts_plain
returns-else-are_parts_plain c = plain_no c.args.self.now c.are_parts_plain.result (cc) c.if-are_parts_plain.false
