use Rattle.std.proofs.Common.{◌≡◌, take, map, length, vec_len}
use Rattle.stimulus.specs.Asked.{text_of}
use Rattle.stimulus.proofs.steps.texts_of.Given as goal

abbrev pub invariant-loop-member : goal.invariant-loop-member
invariant-loop-member l = record {
  long : vec_len l.texts ≡ length l.names;
  placed : l.texts.items ≡ map (text_of (take l.member-index l.step)) l.names;
}
