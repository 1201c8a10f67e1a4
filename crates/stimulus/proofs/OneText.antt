-- Texts can be read off the value that is written for them.
use Rattle.std.proofs.Common.{◌≡◌, ℕ, List, [], ◌∷◌, map, refl, ap₂}
use Rattle.serde_json.specs.Data.{Data}
use Rattle.serde_json.specs.View.{items_of}
use Rattle.stimulus.specs.Written.{members_data, step_data, stream_data, stimulus_data, tape_data}
use Rattle.stimulus.specs.declared.texts.Member.{Member}
use Rattle.stimulus.specs.declared.texts.StreamText.{StreamText}

one_member : (m n : Member) → m.key ≡ n.key → m.text ≡ n.text → m ≡ n
one_member m n key text = ap₂ (λ (k t : List ℕ). record { key = k; text = t }) key text

one_stream : (a b : StreamText) → a.initial ≡ b.initial → a.steps ≡ b.steps → a ≡ b
one_stream a b initial steps = ap₂ (λ (i : List ℕ) (s : List (List Member)). record { initial = i; steps = s }) initial steps

same_members : (a b : List Member) → members_data a ≡ members_data b → a ≡ b
same_members [] [] same = refl
same_members [] (n ∷ ns) same = absurd (cc)
same_members (m ∷ ms) [] same = absurd (cc)
same_members (m ∷ ms) (n ∷ ns) same =
    let key : m.key ≡ n.key = cc in
    let text : m.text ≡ n.text = cc in
    let rest : members_data ms ≡ members_data ns = cc in
    ap₂ (λ (x : Member) (xs : List Member). x ∷ xs) (one_member m n key text) (same_members ms ns rest)

same_step : (a b : List Member) → step_data a ≡ step_data b → a ≡ b
same_step a b same = same_members a b (cc)

-- where each value is written for one thing, each list of values is written for one list
same_items : {X : Type 0} (written : X → Data) → ((x y : X) → written x ≡ written y → x ≡ y) → (a b : List X) → items_of (map written a) ≡ items_of (map written b) → a ≡ b
same_items written one [] [] same = refl
same_items written one [] (y ∷ ys) same = absurd (cc)
same_items written one (x ∷ xs) [] same = absurd (cc)
same_items {X} written one (x ∷ xs) (y ∷ ys) same =
    let here : written x ≡ written y = cc in
    let rest : items_of (map written xs) ≡ items_of (map written ys) = cc in
    ap₂ (λ (z : X) (zs : List X). z ∷ zs) (one x y here) (same_items written one xs ys rest)

same_stream : (a b : StreamText) → stream_data a ≡ stream_data b → a ≡ b
same_stream a b same =
    let initial : a.initial ≡ b.initial = cc in
    let steps : items_of (map step_data a.steps) ≡ items_of (map step_data b.steps) = cc in
    one_stream a b initial (same_items step_data same_step a.steps b.steps steps)

pub same_texts : (a b : List StreamText) → stimulus_data a ≡ stimulus_data b → a ≡ b
same_texts a b same = same_items stream_data same_stream a b (cc)

pub same_cycles : (a b : List (List Member)) → tape_data a ≡ tape_data b → a ≡ b
same_cycles a b same = same_items step_data same_step a b (cc)
