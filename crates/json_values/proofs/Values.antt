-- Lists of values, each written so or not.
use Rattle.std.proofs.Common.{◌≡◌, ◌≢◌, ℕ, zero, suc, ◌<◌, List, [], ◌∷◌, length, get_or, map, ap, sym, Some, None, ◌∙◌, arith}
use Rattle.serde_json.specs.Data.{Data, null, boolean, number, string, array, object}
use Rattle.serde_json.specs.Find.{as_str}
use Rattle.serde_json.specs.View.{view, items_of, items_view}
use Rattle.serde_json.specs.declared.value.Value.{Value}

-- values of which one is not written so are no list that is
pub no_items : {X : Type 0} (written : X → Data) (vs : List Value) (i : ℕ) (v : Value) → i < length vs → v ≡ get_or vs i v → ((x : X) → view v ≢ written x) → (xs : List X) → items_view vs ≢ items_of (map written xs)
no_items written [] i v within here none xs same = absurd (omega arith)
no_items written (w ∷ ws) zero v within here none [] same = absurd (cc)
no_items written (w ∷ ws) zero v within here none (x ∷ xs) same = none x (ap view here ∙ cc)
no_items written (w ∷ ws) (suc i) v within here none [] same = absurd (cc)
no_items written (w ∷ ws) (suc i) v within here none (x ∷ xs) same = no_items written ws i v (omega arith) here none xs (cc)

pub string_is : (d : Data) (t : List ℕ) → as_str d ≡ Some t → d ≡ string t
string_is null t h = absurd (cc)
string_is (boolean b) t h = absurd (cc)
string_is (number n) t h = absurd (cc)
string_is (string s) t h = let same : s ≡ t = cc in ap string same
string_is (array ds) t h = absurd (cc)
string_is (object ms) t h = absurd (cc)

pub no_string : (d : Data) (t : List ℕ) → as_str d ≡ None → d ≢ string t
no_string d t none same = let some : Some t ≡ None = sym (ap as_str same) ∙ none in absurd (cc)
