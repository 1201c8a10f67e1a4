use Rattle.stimulus.specs.Written.{stream_parts}
use Rattle.stimulus.proofs.texts.read_stream.Goals as goal

pub returns-in-None : goal.returns-in-None
returns-in-None c s same = c.in-None.ensures (stream_parts s) same
