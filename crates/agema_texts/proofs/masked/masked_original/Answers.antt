use Rattle.std.proofs.Common.{map}
use Rattle.std.proofs.lemmas.Result.{err_from_is_err_and}
use Rattle.agm_net.specs.View.{plain_of}
use Rattle.cell_library.specs.Spelled.{cell_of}
use Rattle.verilog_reader.specs.View.{design_view}
use Rattle.agema_texts.specs.Masks.{IsUnmasked}
use Rattle.agema_texts.specs.Marked.{IsLeaking, IsTooBig}
use Rattle.agema_texts.proofs.Ends.{err_by, handed_by, leaking_unmasked, made_all, original_of, too_big_unmasked}
use Rattle.agema_texts.proofs.OpenClock.{marked_open}
use Rattle.agema_texts.proofs.Originals.{has_names}
use Rattle.agema_texts.proofs.Tops.{bound_top}
use Rattle.agema_texts.proofs.masked.masked_original.Goals as goal

pub marks_of-requires : goal.marks_of-requires
marks_of-requires c = bound_top (map cell_of c.args.library.now.cells) (design_view c.in_ok-read.read.design) (plain_of c.in_ok-read.read.net) c.in_ok-read.ensures.ok.0.binds

pub secrets_of-requires-clause-marked : goal.secrets_of-requires-clause-marked
secrets_of-requires-clause-marked c =
    (marked_open (map cell_of c.args.library.now.cells) c.args.bytes.now (design_view c.in_ok-read.read.design) (plain_of c.in_ok-read.read.net) c.in_ok-marks.marks.kinds c.in_ok-read.ensures.ok.0 c.in_ok-marks.ensures.ok).0

pub secrets_of-requires-clause-clock : goal.secrets_of-requires-clause-clock
secrets_of-requires-clause-clock c =
    (marked_open (map cell_of c.args.library.now.cells) c.args.bytes.now (design_view c.in_ok-read.read.design) (plain_of c.in_ok-read.read.net) c.in_ok-marks.marks.kinds c.in_ok-read.ensures.ok.0 c.in_ok-marks.ensures.ok).1

pub returns-in_err-secrets-clause-err : goal.returns-in_err-secrets-clause-err
returns-in_err-secrets-clause-err c =
    let cells = map cell_of c.args.library.now.cells in
    let bytes = c.args.bytes.now in
    let net = plain_of c.in_ok-read.read.net in
    let marks = c.in_ok-marks.marks.kinds in
    let is = original_of cells bytes (design_view c.in_ok-read.read.design) net marks c.in_ok-read.ensures.ok.0 c.in_ok-marks.ensures.ok in
    handed_by (IsLeaking net marks) (IsUnmasked cells bytes c.args.order) c.from_residual-in_err-secrets.result c.in_err-secrets.field-0.0
    (err_from_is_err_and c.from_residual-in_err-secrets.result c.from_residual-in_err-secrets.ensures.1) (leaking_unmasked cells bytes c.args.order net marks is) c.in_err-secrets.ensures.err

pub made_of-requires : goal.made_of-requires
made_of-requires c =
    let cells = map cell_of c.args.library.now.cells in
    let bytes = c.args.bytes.now in
    let design = design_view c.in_ok-read.read.design in
    let net = plain_of c.in_ok-read.read.net in
    let marks = c.in_ok-marks.marks.kinds in
    let read = c.in_ok-read.ensures.ok.0 in
    let marked = c.in_ok-marks.ensures.ok in
    let open_clock = marked_open cells bytes design net marks read marked in
    record {
      original = record {
        first = c.requires.first;
        last = c.requires.last;
        no_loop = read.no_loop;
        is_graph = c.in_ok-read.ensures.ok.1;
        are_secrets = c.in_ok-secrets.ensures.ok;
        marked = open_clock.0;
        clock = open_clock.1;
        is_made = c.in_ok-planned.ensures.made;
        is_planned = c.in_ok-planned.ensures.planned;
        names = has_names marked.0 net c.in_ok-read.read.net.well_formed marked.2 (c.bound_ports_are_named.ensures cells bytes design net read.spelled read.binds);
        narrow = c.in_ok-planned.ensures.narrow;
      };
    }

pub returns-in_err-planned-clause-err : goal.returns-in_err-planned-clause-err
returns-in_err-planned-clause-err c =
    let cells = map cell_of c.args.library.now.cells in
    let bytes = c.args.bytes.now in
    let order = c.args.order in
    let net = plain_of c.in_ok-read.read.net in
    let marks = c.in_ok-marks.marks.kinds in
    let is = original_of cells bytes (design_view c.in_ok-read.read.design) net marks c.in_ok-read.ensures.ok.0 c.in_ok-marks.ensures.ok in
    handed_by (IsTooBig net marks order) (IsUnmasked cells bytes order) c.from_residual-in_err-planned.result c.in_err-planned.field-0.0
    (err_from_is_err_and c.from_residual-in_err-planned.result c.from_residual-in_err-planned.ensures.1)
    (too_big_unmasked cells bytes order net marks is c.in_ok-secrets.ensures.no_leak) c.in_err-planned.ensures.err

pub returns-in-Ok-clause-ok : goal.returns-in-Ok-clause-ok
returns-in-Ok-clause-ok c =
    let cells = map cell_of c.args.library.now.cells in
    let bytes = c.args.bytes.now in
    let net = plain_of c.in_ok-read.read.net in
    let marks = c.in_ok-marks.marks.kinds in
    let is = original_of cells bytes (design_view c.in_ok-read.read.design) net marks c.in_ok-read.ensures.ok.0 c.in_ok-marks.ensures.ok in
    made_all cells bytes c.args.order net marks (plain_of c.in-Ok.made.masked.net) c.in-Ok.made.masked.report c.in-Ok.made.out is c.in_ok-secrets.ensures.no_leak c.in_ok-planned.ensures.fits c.in-Ok.ensures
