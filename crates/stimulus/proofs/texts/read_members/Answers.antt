use Rattle.std.proofs.Common.{◌≡◌, [], Some, ◌∷◌, ◌++◌, sym, ap, ◌∙◌, append_assoc}
use Rattle.std.specs.Option.{option_map}
use Rattle.serde_json.specs.Find.{as_str}
use Rattle.serde_json.specs.View.{view, members_view}
use Rattle.serde_json.proofs.Views.{Entry}
use Rattle.json_values.proofs.Values.{string_is}
use Rattle.stimulus.proofs.Json.{no_step, one_member_more}
use Rattle.stimulus.specs.Written.{members_data}
use Rattle.stimulus.proofs.texts.read_members.Goals as goal

pub returns-in-None-as_str : goal.returns-in-None-as_str
returns-in-None-as_str c ms same =
    let done = c.loop-key.invariant.0 in
    let e : Entry = (c.in-Some.key.now, c.in-Some.value.now) in
    let left = c.next.new.self in
    let all : c.args.map.now.entries ≡ done ++ e ∷ left = c.loop-key.invariant.1 ∙ ap (λ es. done ++ es) c.in-Some.ensures.steps in
    no_step done e left (sym c.as_str.ensures ∙ ap (option_map (λ s. s.now)) c.in-None-as_str.is) ms (ap members_view (sym all) ∙ same)

pub loop-key-preserved : goal.loop-key-preserved
loop-key-preserved c =
    let done = c.loop-key.invariant.0 in
    let e : Entry = (c.in-Some.key.now, c.in-Some.value.now) in
    let left = c.next.new.self in
    let all : c.args.map.now.entries ≡ done ++ e ∷ left = c.loop-key.invariant.1 ∙ ap (λ es. done ++ es) c.in-Some.ensures.steps in
    let m = c.in_ok-member_of-in-Some-as_str.field-0 in
    let told = c.in_ok-member_of-in-Some-as_str.ensures in
    let found : as_str (view e.1) ≡ Some m.text = sym c.as_str.ensures ∙ (ap (option_map (λ s. s.now)) c.in-Some-as_str.is ∙ ap Some (sym told.text)) in (
      done ++ e ∷ [],
      all ∙ sym (append_assoc done (e ∷ []) left),
      one_member_more done e c.loop-key.step m c.loop-key.invariant.2 (sym told.key) (string_is (view e.1) m.text found) ∙ ap members_data (sym c.in_ok-push-in-Some-as_str.ensures.ok),
    )
