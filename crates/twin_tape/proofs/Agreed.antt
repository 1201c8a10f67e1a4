-- Tapes that are told to agree do so.
use Rattle.std.proofs.Common.{◌≡◌, ◌<◌, ◌+◌, ◌∷◌, [], ℕ, zero, suc, Bool, true, false, ◌&&◌, cond, List, Option, Some, None, drop, get_or, length, map, slice_index_or, refl, sym, ap, ◌∙◌, subst, arith, true≢false}
use Rattle.std.proofs.lemmas.List.{length-map}
use Rattle.agm_net.specs.Formula.{xor}
use Rattle.agm_net.specs.Plain.{PlainNet}
use Rattle.agm_net.specs.Trace.{Row, row_at}
use Rattle.probe_cones.specs.Inputs.{first_bit, open_bit}
use Rattle.twin_tape.specs.Differences.{Column, agreement, columns, first_difference, told}
use Rattle.twin_tape.specs.Security.{Agree, sees}
use Rattle.twin_tape.specs.declared.agreement.Agreement.{Agreement}
use Rattle.twin_tape.specs.declared.agreement.Agreement.TheVariants.{Agreed}
use Rattle.twin_tape.proofs.Columns.{columns_are, role_of}

behind : (a : Row) (n : ℕ) → get_or (drop 1 a) n false ≡ get_or a (suc n) false
behind [] n = refl
behind (x ∷ a) n = refl

alike : (x y : Bool) → xor x y ≡ false → x ≡ y
alike true true h = refl
alike true false h = h
alike false true h = sym h
alike false false h = refl

-- a choice that gives nothing
none_chosen : (b : Bool) (n : ℕ) (o : Option ℕ) → cond b (Some n) o ≡ None → (b ≡ false) × (o ≡ None)
none_chosen true n o h = absurd (cc)
none_chosen false n o h = (refl, h)

seen_alike : (s x : Bool) → (s && x) ≡ false → s ≡ true → x ≡ false
seen_alike true x h e = h
seen_alike false x h e = absurd (true≢false (sym e))

row_agrees : (indices : List ℕ) (cs : List Column) (a b : Row) → first_difference indices cs a b ≡ None
    → (n : ℕ) → n < length cs → sees indices (slice_index_or (map role_of cs) n open_bit) ≡ true → get_or a n false ≡ get_or b n false
row_agrees indices [] a b h n lt see = absurd (omega (arith, lt))
row_agrees indices (c ∷ cs) a b h zero lt see =
    let parts = none_chosen (sees indices c.1 && xor (first_bit a) (first_bit b)) c.0 (first_difference indices cs (drop 1 a) (drop 1 b)) h in
    alike (first_bit a) (first_bit b) (seen_alike (sees indices c.1) (xor (first_bit a) (first_bit b)) parts.0 see)
row_agrees indices (c ∷ cs) a b h (suc n) lt see =
    let parts = none_chosen (sees indices c.1 && xor (first_bit a) (first_bit b)) c.0 (first_difference indices cs (drop 1 a) (drop 1 b)) h in
    sym (behind a n) ∙ (row_agrees indices cs (drop 1 a) (drop 1 b) parts.1 n (omega (arith, lt)) see ∙ behind b n)

none_told : (t : ℕ) (o : Option ℕ) (later : Agreement) → told t o later ≡ Agreed → (o ≡ None) × (later ≡ Agreed)
none_told t (Some p) later h = absurd (cc)
none_told t None later h = (refl, h)

rows_agree : (indices : List ℕ) (cs : List Column) (t : ℕ) (first second : List Row) → length first ≡ length second → agreement indices cs t first second ≡ Agreed
    → (u : ℕ) → u < length first → first_difference indices cs (row_at first u) (row_at second u) ≡ None
rows_agree indices cs t [] second long h u lt = absurd (omega (arith, lt))
rows_agree indices cs t (a ∷ first) [] long h u lt = absurd (omega (arith, long))
rows_agree indices cs t (a ∷ first) (b ∷ second) long h zero lt = (none_told t (first_difference indices cs a b) (agreement indices cs (t + 1) first second) h).0
rows_agree indices cs t (a ∷ first) (b ∷ second) long h (suc u) lt =
    rows_agree indices cs (t + 1) first second (omega (arith, long)) (none_told t (first_difference indices cs a b) (agreement indices cs (t + 1) first second) h).1 u (omega (arith, lt))

pub agreed_is : (net : PlainNet) (indices : List ℕ) (first second : List Row) → length first ≡ length second → agreement indices (columns net) 0 first second ≡ Agreed → Agree net indices first second
agreed_is net indices first second long h t n lt small see =
    let are = columns_are net in
    let wide : n < length (columns net) = subst (λ m. n < m) (sym (sym (length-map (columns net) role_of) ∙ ap length are)) small in
    row_agrees indices (columns net) (row_at first t) (row_at second t) (rows_agree indices (columns net) 0 first second long h t lt) n wide
    (ap (λ rs. sees indices (slice_index_or rs n open_bit)) are ∙ see)
