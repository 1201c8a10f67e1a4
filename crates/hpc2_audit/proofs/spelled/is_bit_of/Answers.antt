use Rattle.std.proofs.Common.{Some, None}
use Rattle.std.proofs.lemmas.Bool.Decides.{Decides-eqb}
use Rattle.std.proofs.lemmas.Slice.Eq.{strip_prefix_is}
use Rattle.hpc2_audit.proofs.Spelling.{bit_behind, no_bit}
use Rattle.hpc2_audit.proofs.spelled.is_bit_of.Goals as goal

pub returns-in-Some : goal.returns-in-Some
returns-in-Some c =
    let cut = strip_prefix_is Decides-eqb c.args.name.now c.args.port.now (Some c.in-Some.rest) c.in-Some.ensures.cases in
    let both = bit_behind c.args.port.now c.args.name.now c.in-Some.rest.now cut in
    (λ h. both.0 (c.is_bare_or_bracketed.ensures.0 h), λ h. c.is_bare_or_bracketed.ensures.1 (both.1 h))

pub returns-in-None : goal.returns-in-None
returns-in-None c = no_bit c.args.port.now c.args.name.now (strip_prefix_is Decides-eqb c.args.name.now c.args.port.now None c.in-None.ensures.cases)
