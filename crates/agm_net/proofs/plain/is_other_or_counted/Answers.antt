use Rattle.std.proofs.Common.{◌∙◌, ap}
use Rattle.std.specs.Option.{is_some}
use Rattle.std.specs.Str.{bytes_eq}
use Rattle.std.proofs.lemmas.Bool.{le-ltb}
use Rattle.agm_net.proofs.Finds.{found_is_any}
use Rattle.agm_net.proofs.PlainForm.{other_told}
use Rattle.agm_net.proofs.plain.is_other_or_counted.Goals as goal

pub returns-else-count-gt0 : goal.returns-else-count-gt0
returns-else-count-gt0 c =
    let any = found_is_any (λ n. bytes_eq n c.args.name.now) c.args.names.now in
    other_told c.is_none.result (is_some c.find.result) _ _ c.is_none.ensures (ap is_some c.find.ensures ∙ any) (le-ltb 0 c.args.count c.if-count-gt0.false)
