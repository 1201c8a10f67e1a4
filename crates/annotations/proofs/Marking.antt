-- Marks to which wires are added.
use Rattle.std.proofs.Common.{◌≡◌, ℕ, ◌+◌, ◌<◌, Bool, true, false, not, ◌&&◌, ◌||◌, List, [], ◌∷◌, length, get_or, take, map, refl, sym, ap, ap₂, ◌∙◌, arith}
use Rattle.std.specs.List.{list_any}
use Rattle.std.specs.Prelude.{◌==◌}
use Rattle.std.proofs.lemmas.List.Folds.{list_any_more}
use Rattle.agm_net.specs.Formula.{formula_of, stands}
use Rattle.agm_net.specs.Plain.{line_of, stored_of, is_input}
use Rattle.agm_net.specs.View.{plain_of}
use Rattle.agm_net.specs.declared.net.Net.{Net}
use Rattle.annotations.specs.Clocked.{is_alone, is_read}
use Rattle.annotations.specs.Spread.{is_set, AreAdded}

added_both : (a b c : List Bool) (p q r : ℕ → Bool) → length b ≡ length a → AreAdded a b p → AreAdded b c q → ((w : ℕ) → r w ≡ (p w || q w)) → AreAdded a c r
added_both a b c p q r long first second all w within =
    second w (omega arith) ∙ (ap (λ (x : Bool). x || q w) (first w within) ∙ (or_assoc (is_set a w) (p w) (q w) ∙ ap (λ (x : Bool). is_set a w || x) (sym (all w))))
  where
    or_assoc : (x y z : Bool) → ((x || y) || z) ≡ (x || (y || z))
    or_assoc true y z = refl
    or_assoc false y z = refl

-- one more item's wires
pub added_more : {X : Type 0} (test : X → ℕ → Bool) (xs : List X) (i : ℕ) (x : X) (a b c : List Bool) → i < length xs → x ≡ get_or xs i x → length b ≡ length a
    → AreAdded a b (λ w. list_any (λ y. test y w) (take i xs)) → AreAdded b c (test x) → AreAdded a c (λ w. list_any (λ y. test y w) (take (i + 1) xs))
added_more {X} test xs i x a b c within here long first second =
    added_both a b c _ (test x) _ long first second (λ w. list_any_more (λ y. test y w) xs i x within ∙ ap (λ (y : X). list_any (λ z. test z w) (take i xs) || test y w) (sym here))

any_map : {X Y : Type 0} (p : Y → Bool) (f : X → Y) (xs : List X) → list_any p (map f xs) ≡ list_any (λ x. p (f x)) xs
any_map p f [] = refl
any_map p f (x ∷ xs) = ap (λ (b : Bool). p (f x) || b) (any_map p f xs)

-- the wires that a net reads
pub added_net : (net : Net) (a b c d : List Bool) → length b ≡ length a → length c ≡ length b
    → AreAdded a b (λ w. list_any (λ e. stands w (formula_of e.expr) && not (is_alone w (formula_of e.expr))) net.equations) → AreAdded b c (λ w. list_any (λ r. stands w (formula_of r.next)) net.registers)
    → AreAdded c d (λ w. list_any (λ p. not (is_input p) && list_any (λ k. k == w) p.bits) net.ports) → AreAdded a d (is_read (plain_of net))
added_net net a b c d ab bc first second third =
    added_both a b d
    (λ w. list_any (λ e. stands w (formula_of e.expr) && not (is_alone w (formula_of e.expr))) net.equations)
    (λ w. list_any (λ r. stands w (formula_of r.next)) net.registers || list_any (λ p. not (is_input p) && list_any (λ k. k == w) p.bits) net.ports)
    (is_read (plain_of net)) ab first
    (added_both b c d (λ w. list_any (λ r. stands w (formula_of r.next)) net.registers) (λ w. list_any (λ p. not (is_input p) && list_any (λ k. k == w) p.bits) net.ports) _ bc second third (λ w. refl))
    (λ w. ap₂ (λ (x y : Bool). x || (y || list_any (λ p. not (is_input p) && list_any (λ k. k == w) p.bits) net.ports))
    (any_map (λ l. stands w l.1 && not (is_alone w l.1)) line_of net.equations) (any_map (λ r. stands w r.next) stored_of net.registers))
