-- The turns of the loop that reads over a group.
use Rattle.std.proofs.Common.{◌≡◌, ℕ, suc, Bool, true, false, List, Some, None, sym, ap, ◌∙◌}
use Rattle.liberty_text.specs.Cuts.{Token}
use Rattle.liberty_statements.specs.Reading.{Fails, begins, symbol_at, ended, head_at, body_at}
use Rattle.liberty_statements.specs.declared.stop.Stop.{Stop}
use Rattle.liberty_statements.specs.declared.stop.Stop.TheVariants as stops
use Rattle.liberty_statements.proofs.Less.{symbol_is}
use Rattle.liberty_statements.proofs.Closes.{closes, closes_over, closes_fails, closes_last, closes_one, closes_open, closes_deep}
use Rattle.liberty_statements.proofs.Heads.{Says, head_says, head_fails}

over_case : (k m free : ℕ) (ts r : List Token) (g : Bool) → k ≡ suc m → begins 125 ts ≡ false → Says (body_at free) ts (g, r) → g ≡ false → closes k free ts ≡ closes k free r
over_case k m free ts r false i h s e = closes_over k m free ts r s.0 i h s.1
over_case k m free ts r true i h s e = absurd (cc)

pub skip_over : (k m free : ℕ) (ts r : List Token) (g : Bool) → k ≡ suc m → begins 125 ts ≡ false → head_at ts ≡ Some (g, r) → g ≡ false → closes k free r ≡ closes k free ts
skip_over k m free ts r g i h e f = sym (over_case k m free ts r g i h (head_says (body_at free) ts (g, r) e) f)

open_case : (k m free f : ℕ) (ts r : List Token) (g : Bool) → k ≡ suc m → free ≡ suc f → begins 125 ts ≡ false → Says (body_at free) ts (g, r) → g ≡ true → closes k free ts ≡ closes (suc k) f r
open_case k m free f ts r true i j h s e = closes_open k m free f ts r s.0 s.1 i j h s.2
open_case k m free f ts r false i j h s e = absurd (cc)

pub skip_open : (k m free f l : ℕ) (ts r : List Token) (g : Bool) → k ≡ suc m → free ≡ suc f → l ≡ suc k → begins 125 ts ≡ false → head_at ts ≡ Some (g, r) → g ≡ true → closes l f r ≡ closes k free ts
skip_open k m free f l ts r g i j n h e b = ap (λ a. closes a f r) n ∙ sym (open_case k m free f ts r g i j h (head_says (body_at free) ts (g, r) e) b)

deep_case : (k m free : ℕ) (ts r : List Token) (g : Bool) → k ≡ suc m → free ≡ 0 → begins 125 ts ≡ false → Says (body_at free) ts (g, r) → g ≡ true → closes k free ts ≡ None
deep_case k m free ts r true i j h s e = closes_deep (stops.Wrong 0) k m free ts r s.0 s.1 i j h s.2
deep_case k m free ts r false i j h s e = absurd (cc)

pub skip_deep : (k m free : ℕ) (ts r : List Token) (g : Bool) → k ≡ suc m → free ≡ 0 → begins 125 ts ≡ false → head_at ts ≡ Some (g, r) → g ≡ true → closes k free ts ≡ None
skip_deep k m free ts r g i j h e b = deep_case k m free ts r g i j h (head_says (body_at free) ts (g, r) e) b

pub skip_fails : (s : Stop) (k m free : ℕ) (ts : List Token) → k ≡ suc m → begins 125 ts ≡ false → Fails s (head_at ts) → Fails s (closes k free ts)
skip_fails s k m free ts i h e = closes_fails s k m free ts i h (head_fails s (body_at free) ts e)

pub skip_last : (k free : ℕ) (ts r : List Token) → k ≡ 1 → symbol_at 125 ts ≡ Some r → closes k free ts ≡ Some r
skip_last k free ts r i e = closes_last k free ts r i (symbol_is 125 ts r e)

pub skip_one : (k m free more : ℕ) (ts r : List Token) → k ≡ suc (suc m) → more ≡ suc m → symbol_at 125 ts ≡ Some r → closes more (suc free) (ended r) ≡ closes k free ts
skip_one k m free more ts r i j e = ap (λ a. closes a (suc free) (ended r)) j ∙ sym (closes_one k m free ts r i (symbol_is 125 ts r e))
