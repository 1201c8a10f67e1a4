-- Whole texts and their functions.
use Rattle.std.proofs.Common.{◌≡◌, ◌≢◌, ◌≤◌, ℕ, true, false, List, [], ◌∷◌, length, Option, Some, None, refl, sym, ap, ◌∙◌, subst, arith}
use Rattle.cell_function.specs.Cuts.{Part, name, sign, wrong, Cuts}
use Rattle.cell_function.specs.Tree.{Tree}
use Rattle.cell_function.specs.Grammar.{Sum, Product, Chain, Factor, Primed, Operand, product, plus, bar, chain, star, ampersand, beside, factor, caret, primed, bang, operand, prime, pin, constant, inside, sum_parts, product_parts, chain_parts, factor_parts, primed_parts, operand_parts, Spelled}
use Rattle.cell_function.specs.Parts.{parts_of, is_nil, IsWhole}
use Rattle.cell_function.specs.Reading.{◌>>=◌, sum_at, function_at, function_of, ended, Fails}
use Rattle.cell_function.specs.declared.stop.Stop.{Stop}
use Rattle.cell_function.specs.declared.stop.Stop.TheVariants as stops
use Rattle.cell_function.proofs.Left.{Hit}
use Rattle.cell_function.proofs.Found.{bind_some, right_sum}
use Rattle.cell_function.proofs.Again.{sum_is_read}
use Rattle.cell_function.proofs.Row.{cut_parts, parts_cut, parts_count}

name_whole : (n : List ℕ) → name n ≢ wrong
name_whole n h = cc

sign_whole : (s : ℕ) → sign s ≢ wrong
sign_whole s h = cc

-- no part of a sum is a wrong piece
mutual
  sum_whole : (s : Sum) (rest : List Part) → IsWhole rest → IsWhole (sum_parts s rest)
  sum_whole (product p) rest h = product_whole p rest h
  sum_whole (plus s p) rest h = sum_whole s (sign 43 ∷ product_parts p rest) (sign_whole 43, product_whole p rest h)
  sum_whole (bar s p) rest h = sum_whole s (sign 124 ∷ product_parts p rest) (sign_whole 124, product_whole p rest h)

  product_whole : (p : Product) (rest : List Part) → IsWhole rest → IsWhole (product_parts p rest)
  product_whole (chain c) rest h = chain_whole c rest h
  product_whole (star p c) rest h = product_whole p (sign 42 ∷ chain_parts c rest) (sign_whole 42, chain_whole c rest h)
  product_whole (ampersand p c) rest h = product_whole p (sign 38 ∷ chain_parts c rest) (sign_whole 38, chain_whole c rest h)
  product_whole (beside p c) rest h = product_whole p (chain_parts c rest) (chain_whole c rest h)

  chain_whole : (c : Chain) (rest : List Part) → IsWhole rest → IsWhole (chain_parts c rest)
  chain_whole (factor f) rest h = factor_whole f rest h
  chain_whole (caret c f) rest h = chain_whole c (sign 94 ∷ factor_parts f rest) (sign_whole 94, factor_whole f rest h)

  factor_whole : (f : Factor) (rest : List Part) → IsWhole rest → IsWhole (factor_parts f rest)
  factor_whole (primed p) rest h = primed_whole p rest h
  factor_whole (bang f) rest h = (sign_whole 33, factor_whole f rest h)

  primed_whole : (p : Primed) (rest : List Part) → IsWhole rest → IsWhole (primed_parts p rest)
  primed_whole (operand o) rest h = operand_whole o rest h
  primed_whole (prime p) rest h = primed_whole p (sign 39 ∷ rest) (sign_whole 39, h)

  operand_whole : (o : Operand) (rest : List Part) → IsWhole rest → IsWhole (operand_parts o rest)
  operand_whole (pin n) rest h = (name_whole n, h)
  operand_whole (constant true) rest h = (sign_whole 49, h)
  operand_whole (constant false) rest h = (sign_whole 48, h)
  operand_whole (inside s) rest h = (sign_whole 40, sum_whole s (sign 41 ∷ rest) (sign_whole 41, h))

abbrev end_it : Hit → Option Tree
end_it x = ended x.0 x.1

function_is : (n : ℕ) (ps : List Part) → function_at n ps ≡ sum_at n ps >>= end_it
unfolding function_at
function_is n ps = refl

ended_is : (t u : Tree) (ps : List Part) → ended t ps ≡ Some u → (t ≡ u) × (ps ≡ [])
ended_is t u [] h = (cc, refl)
ended_is t u (p ∷ ps) h = absurd (cc)

-- what is read is spelled
pub read_is_spelled : (n : ℕ) (bytes : List ℕ) (t : Tree) → function_at n (parts_of bytes) ≡ Some t → Spelled bytes t
read_is_spelled n bytes t h =
    let x = bind_some (sum_at n (parts_of bytes)) end_it t (sym (function_is n (parts_of bytes)) ∙ h) in
    let d = right_sum n (parts_of bytes) x.0 x.1 in
    let e = ended_is x.0.0 t x.0.1 x.2 in
    let all : parts_of bytes ≡ sum_parts d.0 [] = d.1 ∙ ap (sum_parts d.0) e.1 in
    let whole : IsWhole (parts_of bytes) = subst IsWhole (sym all) (sum_whole d.0 [] tt) in
    record { sum = d.0; cut = subst (Cuts bytes) all (parts_cut bytes whole); means = sym e.0 ∙ d.2 }

-- what is spelled is read
pub spelled_is_read : (n : ℕ) (bytes : List ℕ) (t : Tree) → length bytes ≤ n → Spelled bytes t → function_at n (parts_of bytes) ≡ Some t
spelled_is_read n bytes t l s =
    let all = cut_parts s.cut in
    let short : length (sum_parts s.sum []) ≤ n = omega (arith, ap length all, parts_count bytes) in
    function_is n (parts_of bytes)
    ∙ (ap (λ ps. sum_at n ps >>= end_it) all
    ∙ (ap (λ o. o >>= end_it) (sum_is_read s.sum n short) ∙ ap (λ (u : Tree). Some u) (sym s.means)))

pub none_spelled : (bytes : List ℕ) → function_at (length bytes) (parts_of bytes) ≡ None → (t : Tree) → Spelled bytes t → ⊥
none_spelled bytes h t s = let e : None ≡ Some t = sym h ∙ spelled_is_read (length bytes) bytes t (omega arith) s in cc

-- no text spells two functions
pub one_function : (bytes : List ℕ) (t u : Tree) → Spelled bytes t → Spelled bytes u → t ≡ u
one_function bytes t u s r =
    let e : Some t ≡ Some u = sym (spelled_is_read (length bytes) bytes t (omega arith) s) ∙ spelled_is_read (length bytes) bytes u (omega arith) r in
    cc

-- the end of a whole text
fails_none_tree : (s : Stop) (o : Option Hit) (go : Hit → Option Tree) → Fails s o → Fails s (o >>= go)
fails_none_tree stops.Memory o go h = tt
fails_none_tree stops.Wrong o go h = ap (λ p. p >>= go) h

pub function_fails : (s : Stop) (n : ℕ) (ps : List Part) → Fails s (sum_at n ps) → Fails s (function_at n ps)
function_fails s n ps h = subst (Fails s) (sym (function_is n ps)) (fails_none_tree s (sum_at n ps) end_it h)

function_some : (n : ℕ) (ps : List Part) (x : Hit) → sum_at n ps ≡ Some x → function_at n ps ≡ ended x.0 x.1
function_some n ps x h = function_is n ps ∙ ap (λ o. o >>= end_it) h

ended_nil : (t : Tree) (ps : List Part) → is_nil ps ≡ true → ended t ps ≡ Some t
ended_nil t [] h = refl
ended_nil t (p ∷ ps) h = absurd (cc)

ended_more : (t : Tree) (ps : List Part) → is_nil ps ≡ false → ended t ps ≡ None
ended_more t [] h = absurd (cc)
ended_more t (p ∷ ps) h = refl

pub function_done : (n : ℕ) (ps rest : List Part) (t : Tree) → sum_at n ps ≡ Some (t, rest) → is_nil rest ≡ true → function_at n ps ≡ Some t
function_done n ps rest t h e = function_some n ps (t, rest) h ∙ ended_nil t rest e

pub function_more : (n : ℕ) (ps rest : List Part) (t : Tree) → sum_at n ps ≡ Some (t, rest) → is_nil rest ≡ false → function_at n ps ≡ None
function_more n ps rest t h e = function_some n ps (t, rest) h ∙ ended_more t rest e

pub function_spelled : (bytes : List ℕ) (t : Tree) → function_of bytes ≡ Some t → Spelled bytes t
unfolding function_of
function_spelled bytes t h = read_is_spelled (length bytes) bytes t h

pub spelled_function : (bytes : List ℕ) (t : Tree) → Spelled bytes t → function_of bytes ≡ Some t
unfolding function_of
spelled_function bytes t s = spelled_is_read (length bytes) bytes t (omega arith) s
