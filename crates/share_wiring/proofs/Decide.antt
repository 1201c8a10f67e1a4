-- Tests that compute, and what they decide: for facts on concrete nets and tables.
use Rattle.std.proofs.Common.{◌≡◌, ◌≢◌, ◌<◌, ◌+◌, ◌-◌, ◌==◌, ◌&&◌, ◌||◌, ℕ, zero, suc, Bool, true, false, not, List, [], ◌∷◌, map, length, IsTrue, refl, sym, ap, ap₂, ◌∙◌, subst, arith, zero-add, slice_index_or, inl, inr}
use Rattle.std.specs.List.{AllByRecursion, list_all, range_with_len}
use Rattle.std.specs.Str.{bytes_eq}
use Rattle.std.proofs.lemmas.Bool.{and_parts, not-true, both_ways, or_cases, eqb-true}
use Rattle.std.proofs.lemmas.Slice.Eq.{bytes_eq-Decides}
use Rattle.agm_net.specs.Formula.{xor, Formula, f_zero, f_one, f_wire, f_not, f_and, f_or, f_xor, f_mux, value, stands}
use Rattle.agm_net.specs.Plain.{Line, Stored, PlainNet, input_bits, clock_bits}
use Rattle.agm_net.specs.Small.{ReadsKnown, IsFresh}
use Rattle.agm_net.specs.Trace.{Row, row_at, bit_at, Holds, Steps, IsTrace}
use Rattle.agm_net.specs.WellFormed.{Differ}
use Rattle.share_wiring.proofs.Distinct.{Distinct, differ_from_Distinct}

-- a test that each number in a row passes
all_pass : (test : ℕ → Bool) (a n i : ℕ) → IsTrue (list_all test (range_with_len a n)) → i < n → IsTrue (test (a + i))
all_pass test a zero i h lt = absurd (omega arith)
all_pass test a (suc n) zero h lt =
    let parts = and_parts (test a) (list_all test (range_with_len (a + 1) n)) h in
    let same : a ≡ a + 0 = omega arith in subst (λ k. IsTrue (test k)) same parts.0
all_pass test a (suc n) (suc i) h lt =
    let parts = and_parts (test a) (list_all test (range_with_len (a + 1) n)) h in
    let same : (a + 1) + i ≡ a + suc i = omega arith in subst (λ k. IsTrue (test k)) same (all_pass test (a + 1) n i parts.1 (omega arith))

-- the same from 0 on
pub each_passes : (test : ℕ → Bool) (n i : ℕ) → IsTrue (list_all test (range_with_len 0 n)) → i < n → IsTrue (test i)
each_passes test n i h lt = subst (λ k. IsTrue (test k)) (zero-add i) (all_pass test 0 n i h lt)

-- ---- bits and rows

abbrev same_bit : Bool → Bool → Bool
same_bit x y = not (xor x y)

bits_same : (x y : Bool) → IsTrue (same_bit x y) → x ≡ y
bits_same false false h = refl
bits_same false true h = absurd (cc)
bits_same true false h = absurd (cc)
bits_same true true h = refl

abbrev pub same_row : Row → Row → Bool
same_row [] [] = true
same_row [] (y ∷ ys) = false
same_row (x ∷ xs) [] = false
same_row (x ∷ xs) (y ∷ ys) = same_bit x y && same_row xs ys

pub rows_same : (xs ys : Row) → IsTrue (same_row xs ys) → xs ≡ ys
rows_same [] [] h = refl
rows_same [] (y ∷ ys) h = absurd (let no : false ≡ true = h in cc)
rows_same (x ∷ xs) [] h = absurd (let no : false ≡ true = h in cc)
rows_same (x ∷ xs) (y ∷ ys) h = let parts = and_parts (same_bit x y) (same_row xs ys) h in ap₂ (λ z zs. z ∷ zs) (bits_same x y parts.0) (rows_same xs ys parts.1)

-- ---- traces

abbrev hold : (ℕ → Bool) → List Line → Bool
hold bit [] = true
hold bit (l ∷ ls) = same_bit (bit l.0) (value bit l.1) && hold bit ls

they_hold : (bit : ℕ → Bool) (lines : List Line) → IsTrue (hold bit lines) → Holds bit lines
they_hold bit [] h = tt
they_hold bit (l ∷ ls) h = let parts = and_parts (same_bit (bit l.0) (value bit l.1)) (hold bit ls) h in (bits_same (bit l.0) (value bit l.1) parts.0, they_hold bit ls parts.1)

abbrev step : (before now : ℕ → Bool) → List Stored → Bool
step before now [] = true
step before now (r ∷ rs) = same_bit (now r.q) (value before r.next) && step before now rs

they_step : (before now : ℕ → Bool) (registers : List Stored) → IsTrue (step before now registers) → Steps before now registers
they_step before now [] h = tt
they_step before now (r ∷ rs) h =
    let parts = and_parts (same_bit (now r.q) (value before r.next)) (step before now rs) h in (bits_same (now r.q) (value before r.next) parts.0, they_step before now rs parts.1)

abbrev are_low : (ℕ → Bool) → List ℕ → Bool
are_low bit [] = true
are_low bit (w ∷ ws) = not (bit w) && are_low bit ws

they_are_low : (bit : ℕ → Bool) (ws : List ℕ) → IsTrue (are_low bit ws) → AllByRecursion (λ w. bit w ≡ false) ws
they_are_low bit [] h = tt
they_are_low bit (w ∷ ws) h = let parts = and_parts (not (bit w)) (are_low bit ws) h in (not-true (bit w) parts.0, they_are_low bit ws parts.1)

-- what a row of a trace is by itself
abbrev is_row : PlainNet → Row → Row → Bool
is_row net given row =
    let bit = λ (w : ℕ). slice_index_or row w false in
    (length row == length net.wires) && (hold bit net.lines && (same_row (map bit (input_bits net)) given && are_low bit (clock_bits net)))

-- whether a table is a trace
abbrev pub is_trace : PlainNet → Row → List Row → List Row → Bool
is_trace net power tape table =
    (length table == length tape)
    && (list_all (λ t. is_row net (row_at tape t) (row_at table t)) (range_with_len 0 (length table))
    && (same_row (map (λ r. bit_at table 0 r.q) net.registers) power
    && list_all (λ t. step (bit_at table t) (bit_at table (t + 1)) net.registers) (range_with_len 0 (length table - 1))))

pub trace_from : (net : PlainNet) (power : Row) (tape table : List Row) → IsTrue (is_trace net power tape table) → IsTrace net power tape table
trace_from net power tape table h =
    let rows = list_all (λ t. is_row net (row_at tape t) (row_at table t)) (range_with_len 0 (length table)) in
    let first = same_row (map (λ r. bit_at table 0 r.q) net.registers) power in
    let steps = list_all (λ t. step (bit_at table t) (bit_at table (t + 1)) net.registers) (range_with_len 0 (length table - 1)) in
    let one = and_parts (length table == length tape) (rows && (first && steps)) h in
    let two = and_parts rows (first && steps) one.1 in
    let three = and_parts first steps two.1 in
    let row = λ (t : ℕ) (lt : t < length table). each_passes (λ k. is_row net (row_at tape k) (row_at table k)) (length table) t two.0 lt in
    let equations = λ (t : ℕ). hold (bit_at table t) net.lines in
    let inputs = λ (t : ℕ). same_row (map (bit_at table t) (input_bits net)) (row_at tape t) in
    let clocks = λ (t : ℕ). are_low (bit_at table t) (clock_bits net) in
    let wide = λ (t : ℕ). length (row_at table t) == length net.wires in
    let behind = λ (t : ℕ) (lt : t < length table). and_parts (wide t) (equations t && (inputs t && clocks t)) (row t lt) in
    let last = λ (t : ℕ) (lt : t < length table). and_parts (equations t) (inputs t && clocks t) (behind t lt).1 in
    let ends = λ (t : ℕ) (lt : t < length table). and_parts (inputs t) (clocks t) (last t lt).1 in
    record {
      as_long = eqb-true (length table) (length tape) one.0;
      as_wide = λ t lt. eqb-true (length (row_at table t)) (length net.wires) (behind t lt).0;
      equations_hold = λ t lt. they_hold (bit_at table t) net.lines (last t lt).0;
      inputs_given = λ t lt. rows_same (map (bit_at table t) (input_bits net)) (row_at tape t) (ends t lt).0;
      clock_is_low = λ t lt. they_are_low (bit_at table t) (clock_bits net) (ends t lt).1;
      power_given = λ some. rows_same (map (λ r. bit_at table 0 r.q) net.registers) power three.0;
      registers_step = λ t lt. they_step (bit_at table t) (bit_at table (t + 1)) net.registers
          (each_passes (λ k. step (bit_at table k) (bit_at table (k + 1)) net.registers) (length table - 1) t three.1 (omega arith));
    }

-- ---- names

text_is_itself : (x : List ℕ) → bytes_eq x x ≡ true
text_is_itself x = (bytes_eq-Decides x x).1 refl

abbrev pub apart : List (List ℕ) → Bool
apart [] = true
apart (x ∷ xs) = list_all (λ y. not (bytes_eq x y)) xs && apart xs

other_texts : (x : List ℕ) (xs : List (List ℕ)) → IsTrue (list_all (λ y. not (bytes_eq x y)) xs) → AllByRecursion (λ y. x ≢ y) xs
other_texts x [] h = tt
other_texts x (y ∷ ys) h =
    let parts = and_parts (not (bytes_eq x y)) (list_all (λ z. not (bytes_eq x z)) ys) h in
    ((λ same. both_ways (bytes_eq x y) (not-true (bytes_eq x y) parts.0) (ap (bytes_eq x) (sym same) ∙ text_is_itself x)), other_texts x ys parts.1)

all_apart : (names : List (List ℕ)) → IsTrue (apart names) → Distinct names
all_apart [] h = tt
all_apart (x ∷ xs) h = let parts = and_parts (list_all (λ y. not (bytes_eq x y)) xs) (apart xs) h in (other_texts x xs parts.0, all_apart xs parts.1)

pub names_differ : (names : List (List ℕ)) → IsTrue (apart names) → Differ names
names_differ names h = differ_from_Distinct names (all_apart names h)

-- ---- equations in order

abbrev reads_known : (ℕ → Bool) → Formula → Bool
reads_known known f_zero = true
reads_known known f_one = true
reads_known known (f_wire w) = known w
reads_known known (f_not x) = reads_known known x
reads_known known (f_and x y) = reads_known known x && reads_known known y
reads_known known (f_or x y) = reads_known known x && reads_known known y
reads_known known (f_xor x y) = reads_known known x && reads_known known y
reads_known known (f_mux s x y) = reads_known known s && (reads_known known x && reads_known known y)

-- both parts read known wires
both_known : (known : ℕ → Bool) (f g : Formula) → ReadsKnown known f → ReadsKnown known g → (w : ℕ) → IsTrue (stands w f || stands w g) → IsTrue (known w)
both_known known f g left right w h = elim (or_cases (stands w f) (stands w g) h) [ inl first ↦ left w first | inr second ↦ right w second ]

they_are_known : (known : ℕ → Bool) (f : Formula) → IsTrue (reads_known known f) → ReadsKnown known f
they_are_known known f_zero h w s = absurd (let no : false ≡ true = s in cc)
they_are_known known f_one h w s = absurd (let no : false ≡ true = s in cc)
they_are_known known (f_wire v) h w s = ap known (sym (eqb-true v w s)) ∙ h
they_are_known known (f_not x) h w s = they_are_known known x h w s
they_are_known known (f_and x y) h w s =
    let parts = and_parts (reads_known known x) (reads_known known y) h in both_known known x y (they_are_known known x parts.0) (they_are_known known y parts.1) w s
they_are_known known (f_or x y) h w s =
    let parts = and_parts (reads_known known x) (reads_known known y) h in both_known known x y (they_are_known known x parts.0) (they_are_known known y parts.1) w s
they_are_known known (f_xor x y) h w s =
    let parts = and_parts (reads_known known x) (reads_known known y) h in both_known known x y (they_are_known known x parts.0) (they_are_known known y parts.1) w s
they_are_known known (f_mux c x y) h w s =
    let parts = and_parts (reads_known known c) (reads_known known x && reads_known known y) h in
    let rest = and_parts (reads_known known x) (reads_known known y) parts.1 in
    elim (or_cases (stands w c) (stands w x || stands w y) s) [
      | inl first ↦ they_are_known known c parts.0 w first
      | inr later ↦ both_known known x y (they_are_known known x rest.0) (they_are_known known y rest.1) w later
    ]

-- whether equations stand in order, each for a wire that isn't known before
abbrev pub fresh : (ℕ → Bool) → List Line → Bool
fresh known [] = true
fresh known (l ∷ ls) = not (known l.0) && (reads_known known l.1 && fresh (λ w. (w == l.0) || known w) ls)

pub they_are_fresh : (known : ℕ → Bool) (lines : List Line) → IsTrue (fresh known lines) → IsFresh known lines
they_are_fresh known [] h = tt
they_are_fresh known (l ∷ ls) h =
    let parts = and_parts (not (known l.0)) (reads_known known l.1 && fresh (λ w. (w == l.0) || known w) ls) h in
    let rest = and_parts (reads_known known l.1) (fresh (λ w. (w == l.0) || known w) ls) parts.1 in
    (not-true (known l.0) parts.0, they_are_known known l.1 rest.0, they_are_fresh (λ w. (w == l.0) || known w) ls rest.1)
