use Rattle.std.proofs.Common.{◌≡◌, ℕ, [], None, length, map, replicate, ap, ◌∙◌}
use Rattle.std.proofs.lemmas.List.{length-map}
use Rattle.stimulus.proofs.Rows.{blank}
use Rattle.stimulus.specs.Asked.{text_of}
use Rattle.stimulus.proofs.steps.texts_of.Goals as goal

pub loop-member-init : goal.loop-member-init
loop-member-init c =
    let names = c.args.names.now in
    let are : c.in_ok-texts.texts.items ≡ map (text_of []) names = c.in_ok-texts.ensures ∙ (ap (λ (n : ℕ). replicate n None) c.len.ensures ∙ blank names) in
    record {
      long = c.in_ok-texts.texts.ok.0 ∙ (ap length are ∙ length-map names (text_of []));
      placed = are;
    }
