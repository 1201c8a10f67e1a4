-- JSON values, and what is written so.
use Rattle.std.proofs.Common.{◌≡◌, ◌≢◌, ℕ, List, [], ◌∷◌, ◌++◌, Some, None, sym, ap, ap₂, string_bytes, ◌∙◌}
use Rattle.serde_json.specs.Data.{Data, string, member, no_members}
use Rattle.serde_json.specs.Find.{as_str}
use Rattle.serde_json.specs.View.{view, members_view}
use Rattle.serde_json.proofs.Views.{Entry}
use Rattle.stimulus.specs.Written.{members_data}
use Rattle.stimulus.specs.declared.texts.Member.{Member}

-- members of which one is no string are those of no step
pub no_step : (done : List Entry) (e : Entry) (left : List Entry) → as_str (view e.1) ≡ None → (ms : List Member) → members_view (done ++ e ∷ left) ≢ members_data ms
no_step [] e left none [] same = absurd (cc)
no_step [] e left none (m ∷ ms) same = let is : view e.1 ≡ string m.text = cc in let some : Some m.text ≡ None = sym (ap as_str is) ∙ none in absurd (cc)
no_step (d ∷ done) e left none [] same = absurd (cc)
no_step (d ∷ done) e left none (m ∷ ms) same = no_step done e left none ms (cc)

-- one more member of a step
pub one_member_more : (done : List Entry) (e : Entry) (ms : List Member) (m : Member) → members_view done ≡ members_data ms → string_bytes e.0 ≡ m.key → view e.1 ≡ string m.text → members_view (done ++ e ∷ []) ≡ members_data (ms ++ m ∷ [])
one_member_more [] e [] m same key text = ap₂ (λ (k : List ℕ) (d : Data). member k d no_members) key text
one_member_more [] e (n ∷ ms) m same key text = absurd (cc)
one_member_more (d ∷ done) e [] m same key text = absurd (cc)
one_member_more (d ∷ done) e (n ∷ ms) m same key text =
    let name : string_bytes d.0 ≡ n.key = cc in
    let own : view d.1 ≡ string n.text = cc in
    let rest : members_view done ≡ members_data ms = cc in
    rw (name, own) (ap (member n.key (string n.text)) (one_member_more done e ms m rest key text))
