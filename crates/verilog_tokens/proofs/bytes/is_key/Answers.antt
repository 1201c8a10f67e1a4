use Rattle.std.proofs.Common.{sym, ◌∙◌}
use Rattle.verilog_tokens.proofs.ByteKinds.{not_key}
use Rattle.verilog_tokens.proofs.bytes.is_key.Goals as goal

pub returns-then-not-may_be_key : goal.returns-then-not-may_be_key
returns-then-not-may_be_key c = not_key c.args.word.now (sym c.may_be_key.ensures ∙ c.if-not-may_be_key.true)
