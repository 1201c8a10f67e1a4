use Rattle.std.proofs.Common.{sym, ap, ◌∙◌, arith}
use Rattle.pipeline_balance.specs.Leaving.{ports_of_width}
use Rattle.pipeline_balance.proofs.LeavingLists.{first_length}
use Rattle.pipeline_balance.proofs.outputs.first_count.Goals as goal

pub returns : goal.returns
returns c =
    let report = c.args.report.now in
    let random = c.ports_of_width-random.ensures.count in
    let publics = c.ports_of_width-publics.ensures.count in
    let secrets = c.ports_of_width-secrets.ensures.count ∙ ap (ports_of_width report.secret_registers) (sym c.requires.0) in
    let all = first_length report in
    omega (arith, random, publics, secrets, all)
