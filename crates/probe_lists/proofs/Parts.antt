-- What the two members of an object are written for is what the object is written for.
use Rattle.std.proofs.Common.{◌≡◌, ℕ, List, Option, Some, None, Result, Ok, Err, IfOk, ap, ap₂, ◌∙◌}
use Rattle.serde_json.specs.Data.{Data, object, member, no_members}
use Rattle.json_values.specs.Finds.{Finds}

abbrev pub of_two : (k l : List ℕ) → Data × Data → Data
of_two k l p = object (member k p.0 (member l p.1 no_members))

pub two_found : {X : Type 0} (k l : List ℕ) (parts : X → Data × Data) (d a b : Data) (found : Option X) → d ≡ of_two k l (a, b) → Finds parts (a, b) found → Finds (λ x. of_two k l (parts x)) d found
two_found k l parts d a b None is none =
    λ x same.
    let first : a ≡ (parts x).0 = cc in let second : b ≡ (parts x).1 = cc in
    none x (ap₂ (λ (m n : Data). let p : Data × Data = (m, n) in p) first second)
two_found k l parts d a b (Some x) is some = is ∙ ap (of_two k l) some

pub two_read : {X E : Type 0} (k l : List ℕ) (parts : X → Data × Data) (d a b : Data) (read : Result (Option X) E) → d ≡ of_two k l (a, b) → IfOk read (Finds parts (a, b)) → IfOk read (Finds (λ x. of_two k l (parts x)) d)
two_read k l parts d a b (Err e) is h = tt
two_read k l parts d a b (Ok found) is h = two_found k l parts d a b found is h
