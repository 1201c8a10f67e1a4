use Rattle.std.proofs.Common.{◌<◌, ◌+◌, ◌^◌, ℕ, List, [], ◌∷◌, length, sym, subst, arith}
use Rattle.std.proofs.lemmas.List.{length-map}
use Rattle.agm_net.specs.Plain.{line_of, stored_of}
use Rattle.agm_net.specs.View.{plain_of}
use Rattle.net_design.specs.Design.{module_of}
use Rattle.verilog_reader.specs.Grammar.{Spelled}
use Rattle.design_text.proofs.ModulesAgain.{design_spelled}
use Rattle.design_binds.proofs.Binds as binds
use Rattle.design_binds.proofs.Writes.{writable}
use Rattle.design_binds.proofs.write.write_net.Goals as goal

pub returns : goal.returns
returns c =
    let net = plain_of c.args.net.now in
    let formed = c.args.net.now.well_formed in
    let design = module_of net ∷ [] in
    let e = length-map c.args.net.now.equations line_of in
    let r = length-map c.args.net.now.registers stored_of in
    let few = c.in_ok-text.ensures.short in
    let short : length net.lines + length net.registers < 2 ^ 64 = omega arith in
    let bound = binds.design_binds net formed c.requires short in
    let S : List ℕ → Type 0 = λ bytes. Spelled bytes design in
    record {
      spelled = subst S (sym c.in_ok-text.ensures.text) (design_spelled design (writable net formed c.requires short));
      other = bound.0;
      binds = bound.1;
      same = bound.2;
    }
