-- Equations in order, each for a wire of its own.
use Rattle.std.proofs.Common.{◌≡◌, ◌==◌, ◌++◌, ◌⊎◌, ℕ, Bool, true, false, ◌||◌, List, [], ◌∷◌, IsTrue, sym, inl, inr, eq-eqb}
use Rattle.std.proofs.lemmas.Bool.{eqb-true, or_cases, or_left, or_right, or_parts, both_ways, false_from_ne_true}
use Rattle.agm_net.specs.Formula.{stands}
use Rattle.agm_net.specs.Plain.{Line}
use Rattle.agm_net.specs.Small.{IsFresh}
use Rattle.logic_graph.specs.Searching.{is_set}

-- one more equation at the end
pub fresh_more : (known : ℕ → Bool) (ls : List Line) (l : Line) → IsFresh known ls → known l.0 ≡ false → is_set ls l.0 ≡ false
    → ((v : ℕ) → IsTrue (stands v l.1) → IsTrue (known v) ⊎ IsTrue (is_set ls v)) → IsFresh known (ls ++ l ∷ [])
fresh_more known [] l fresh new unset reads = (new, (λ v s. elim (reads v s) [ inl old ↦ old | inr none ↦ absurd (let no : false ≡ true = none in cc) ]), tt)
fresh_more known (k ∷ ks) l fresh new unset reads =
    let parts = or_parts (k.0 == l.0) (is_set ks l.0) unset in
    let apart : (l.0 == k.0) ≡ false = false_from_ne_true (l.0 == k.0) (λ same. both_ways (k.0 == l.0) parts.0 (eq-eqb k.0 l.0 (sym (eqb-true l.0 k.0 same)))) in (
      fresh.0,
      fresh.1,
      fresh_more (λ w. (w == k.0) || known w) ks l fresh.2 (rw apart new) parts.1
          (λ v s. elim (reads v s) [
            | inl old ↦ inl (or_right (v == k.0) (known v) old)
            | inr set ↦ elim (or_cases (k.0 == v) (is_set ks v) set) [
              | inl here ↦ inl (or_left (v == k.0) (known v) (eq-eqb v k.0 (sym (eqb-true k.0 v here))))
              | inr later ↦ inr later
            ]
          ]),
    )
