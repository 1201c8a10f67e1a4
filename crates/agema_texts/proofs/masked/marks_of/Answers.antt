use Rattle.std.proofs.Common.{subst, sym}
use Rattle.agm_net.specs.View.{plain_of}
use Rattle.verilog_reader.specs.View.{design_view}
use Rattle.annotations.specs.Rules.{annotation_rules}
use Rattle.agema_texts.specs.Original.{EndsBy}
use Rattle.agema_texts.specs.Marked.{IsUnmarked}
use Rattle.agema_texts.proofs.Ends.{breaks_ended}
use Rattle.agema_texts.proofs.masked.marks_of.Goals as goal

pub annotate-requires : goal.annotate-requires
annotate-requires c = (c.requires.1.0, c.requires.1.1)

pub returns-in-Ok-clause-ok : goal.returns-in-Ok-clause-ok
returns-in-Ok-clause-ok c = let answer = c.in-Ok.ensures c.requires.0 c.requires.1 in (c.requires.0, c.requires.1, answer.0, answer.1)

pub returns-in-Err-clause-err : goal.returns-in-Err-clause-err
returns-in-Err-clause-err c =
    let net = plain_of c.args.read.now.net in
    let design = design_view c.args.read.now.design in
    subst (EndsBy (IsUnmarked annotation_rules design net)) (sym c.annotation_ended.ensures)
    (breaks_ended annotation_rules design net c.requires.0 c.requires.1 c.in-Err.fault (c.in-Err.ensures c.requires.0 c.requires.1))
