-- Runs of bytes that go from state to state.
use Rattle.std.proofs.Common.{◌≡◌, ◌≤◌, ◌<◌, ◌+◌, ◌-◌, ◌*◌, ◌^◌, ◌++◌, ◌==◌, ◌&&◌, ◌⊎◌, ℕ, zero, suc, Bool, true, false, cond, nat_lt, length, take, drop, fold, List, [], ◌∷◌, Option, Some, None, refl, ap, ◌∙◌, inl, inr, IsTrue, arith}
use Rattle.std.proofs.lemmas.Bool.Decides.{nat_tests}
use Rattle.std.proofs.lemmas.List.{take-append-drop}
use Rattle.small_text.specs.Bytes.{is_text}
use Rattle.small_text.proofs.ByteKinds.{both}
use Rattle.small_text.proofs.Runs.{AllOf}
use Rattle.verilog_tokens.specs.Bytes.{is_printed, one_longer, step_run}
use Rattle.verilog_tokens.specs.Constants.{is_digit_or_rule, decimal_step, decimal_next}
use Rattle.verilog_tokens.specs.First.{string_step}
use Rattle.verilog_tokens.specs.Cuts.{IsString, IsPaired}
use Rattle.verilog_tokens.specs.declared.constant.Base.TheVariants.{Decimal}

abbrev pub go_on : {S : Type 0} → (S → Option S) → Option S → Option S
go_on next None = None
go_on next (Some state) = next state

-- the state behind bytes
abbrev pub after : {S : Type 0} → (S → ℕ → Option S) → List ℕ → S → Option S
after next [] state = Some state
after next (b ∷ bs) state = go_on (after next bs) (next state b)

over_case : {S : Type 0} (next : S → ℕ → Option S) (bs behind : List ℕ) (t : S) (o : Option S) →
    ((u : S) → after next bs u ≡ Some t → step_run next (bs ++ behind) u ≡ length bs + step_run next behind t) →
    go_on (after next bs) o ≡ Some t → one_longer (step_run next (bs ++ behind)) o ≡ suc (length bs) + step_run next behind t
over_case next bs behind t None f h = absurd (cc)
over_case next bs behind t (Some u) f h = omega (arith, f u h)

-- a run goes on behind bytes that it takes
pub run_over : {S : Type 0} (next : S → ℕ → Option S) (front behind : List ℕ) (s t : S) → after next front s ≡ Some t → step_run next (front ++ behind) s ≡ length front + step_run next behind t
run_over {S} next [] behind s t h = let e : s ≡ t = cc in omega (arith, ap (step_run next behind) e)
run_over next (b ∷ bs) behind s t h = over_case next bs behind t (next s b) (λ u k. run_over next bs behind u t k) h

le_case : {S : Type 0} (next : S → ℕ → Option S) (bs : List ℕ) (o : Option S) → ((u : S) → step_run next bs u ≤ length bs) → one_longer (step_run next bs) o ≤ suc (length bs)
le_case next bs None f = omega arith
le_case next bs (Some u) f = omega (arith, f u)

-- a run is no longer than the bytes
pub run_within : {S : Type 0} (next : S → ℕ → Option S) (bytes : List ℕ) (s : S) → step_run next bytes s ≤ length bytes
run_within next [] s = omega arith
run_within next (b ∷ bs) s = le_case next bs (next s b) (λ u. run_within next bs u)

taken_case : {S : Type 0} (next : S → ℕ → Option S) (b : ℕ) (bs : List ℕ) (s : S) (o : Option S) → next s b ≡ o →
    ((u : S) → (t : S) × (after next (take (step_run next bs u) bs) u ≡ Some t)) → (t : S) × (after next (take (one_longer (step_run next bs) o) (b ∷ bs)) s ≡ Some t)
taken_case next b bs s None e f = (s, refl)
taken_case next b bs s (Some u) e f = let g = f u in (g.0, ap (go_on (after next (take (step_run next bs u) bs))) e ∙ g.1)

-- the bytes of a run lead to a state
pub run_taken : {S : Type 0} (next : S → ℕ → Option S) (bytes : List ℕ) (s : S) → (t : S) × (after next (take (step_run next bytes s) bytes) s ≡ Some t)
run_taken next [] s = (s, refl)
run_taken next (b ∷ bs) s = taken_case next b bs s (next s b) refl (λ u. run_taken next bs u)

length_taken : (n : ℕ) (bytes : List ℕ) → n ≤ length bytes → length (take n bytes) ≡ n
length_taken zero bytes h = refl
length_taken (suc n) [] h = absurd (omega arith)
length_taken (suc n) (b ∷ bs) h = omega (arith, length_taken n bs (omega arith))

-- from there on no byte goes on
pub run_stops : {S : Type 0} (next : S → ℕ → Option S) (bytes : List ℕ) (s t : S) → after next (take (step_run next bytes s) bytes) s ≡ Some t → step_run next (drop (step_run next bytes s) bytes) t ≡ 0
run_stops next bytes s t h =
    let k = run_over next (take (step_run next bytes s) bytes) (drop (step_run next bytes s) bytes) s t h in
    let whole = ap (λ w. step_run next w s) (take-append-drop (step_run next bytes s) bytes) in
    omega (arith, k, whole, length_taken (step_run next bytes s) bytes (run_within next bytes s))

-- more digits give no smaller number
decimal_grows : (ds : List ℕ) (n : ℕ) → n ≤ fold decimal_step n ds
decimal_grows [] n = omega arith
decimal_grows (d ∷ ds) n = omega (arith, decimal_grows ds (decimal_step n d), step_grows n d)
  where
    step_grows_case : (b : Bool) (n m : ℕ) → n ≤ m → n ≤ cond b n m
    step_grows_case true n m h = omega arith
    step_grows_case false n m h = h

    step_grows : (n d : ℕ) → n ≤ decimal_step n d
    step_grows n d = step_grows_case (d == 95) n (n * 10 + (d - 48)) (omega arith)

next_fits : (n d : ℕ) → IsTrue (is_digit_or_rule Decimal d) → decimal_step n d < 2 ^ 128 → decimal_next n d ≡ Some (decimal_step n d)
next_fits n d h less = let e : nat_lt (decimal_step n d) (2 ^ 128) ≡ true = grind (arith, nat_tests) in rw (h, e) refl

-- decimal digits whose number is below 2^128 are gone over
pub fits_after : (ds : List ℕ) (n : ℕ) → AllOf (is_digit_or_rule Decimal) ds → fold decimal_step n ds < 2 ^ 128 → after decimal_next ds n ≡ Some (fold decimal_step n ds)
fits_after [] n h less = refl
fits_after (d ∷ ds) n h less =
    ap (go_on (after decimal_next ds)) (next_fits n d h.0 (omega (arith, decimal_grows ds (decimal_step n d))))
    ∙ fits_after ds (decimal_step n d) h.1 less

after_case : (d : ℕ) (ds : List ℕ) (n m : ℕ) (b : Bool) →
    (is_digit_or_rule Decimal d && nat_lt (decimal_step n d) (2 ^ 128)) ≡ b →
    ((k : ℕ) → k < 2 ^ 128 → after decimal_next ds k ≡ Some m → AllOf (is_digit_or_rule Decimal) ds × (fold decimal_step k ds ≡ m) × (m < 2 ^ 128)) →
    go_on (after decimal_next ds) (cond b (Some (decimal_step n d)) None) ≡ Some m → AllOf (is_digit_or_rule Decimal) (d ∷ ds) × (fold decimal_step n (d ∷ ds) ≡ m) × (m < 2 ^ 128)
after_case d ds n m false e f h = absurd (cc)
after_case d ds n m true e f h =
    let parts = both (is_digit_or_rule Decimal d) (nat_lt (decimal_step n d) (2 ^ 128)) e in
    let less : decimal_step n d < 2 ^ 128 = below (decimal_step n d) (2 ^ 128) parts.1 in
    let g = f (decimal_step n d) less h in
    ((parts.0, g.0), g.1, g.2)
  where
    below : (a b : ℕ) → nat_lt a b ≡ true → a < b
    below a b h = grind (arith, nat_tests)

-- bytes that are gone over are decimal digits whose number is below 2^128
pub after_fits : (ds : List ℕ) (n m : ℕ) → n < 2 ^ 128 → after decimal_next ds n ≡ Some m → AllOf (is_digit_or_rule Decimal) ds × (fold decimal_step n ds ≡ m) × (m < 2 ^ 128)
after_fits [] n m less h = let e : n ≡ m = cc in (tt, e, omega (arith, e))
after_fits (d ∷ ds) n m less h = after_case d ds n m _ refl (λ k l. after_fits ds k m l) h

text_next : (b : ℕ) → IsTrue (is_text b) → string_step false b ≡ Some false
text_next b h = rw h refl

pair_next : (b : ℕ) → b ≡ 92 → string_step false b ≡ Some true
pair_next b h = rw h refl

printed_next : (b : ℕ) → IsTrue (is_printed b) → string_step true b ≡ Some false
printed_next b h = rw h refl

mutual
  -- the inside of a string is gone over
  pub string_after : (s : List ℕ) → IsString s → after string_step s false ≡ Some false
  string_after [] h = refl
  string_after (b ∷ bs) (inl h) = ap (go_on (after string_step bs)) (text_next b h.0) ∙ string_after bs h.1
  string_after (b ∷ bs) (inr h) = ap (go_on (after string_step bs)) (pair_next b h.0) ∙ paired_after bs h.1

  paired_after : (s : List ℕ) → IsPaired s → after string_step s true ≡ Some false
  paired_after [] h = absurd h
  paired_after (b ∷ bs) h = ap (go_on (after string_step bs)) (printed_next b h.0) ∙ string_after bs h.1

abbrev Inside : Bool → List ℕ → Type 0
Inside false s = IsString s
Inside true s = IsPaired s

inside_paired : (b : ℕ) (bs : List ℕ) (q : Bool) → is_printed b ≡ q → (after string_step bs false ≡ Some false → IsString bs) →
    go_on (after string_step bs) (cond q (Some false) None) ≡ Some false → IsTrue (is_printed b) × IsString bs
inside_paired b bs true e f h = (e, f h)
inside_paired b bs false e f h = absurd (cc)

same_byte : (a b : ℕ) → (a == b) ≡ true → a ≡ b
same_byte a b h = grind (arith, nat_tests)

inside_slash : (b : ℕ) (bs : List ℕ) (q : Bool) → (b == 92) ≡ q → (after string_step bs true ≡ Some false → IsPaired bs) →
    go_on (after string_step bs) (cond q (Some true) None) ≡ Some false → (IsTrue (is_text b) × IsString bs) ⊎ ((b ≡ 92) × IsPaired bs)
inside_slash b bs true e g h = inr (same_byte b 92 e, g h)
inside_slash b bs false e g h = absurd (cc)

inside_plain : (b : ℕ) (bs : List ℕ) (q : Bool) → is_text b ≡ q → (after string_step bs false ≡ Some false → IsString bs) → (after string_step bs true ≡ Some false → IsPaired bs) →
    go_on (after string_step bs) (cond q (Some false) (cond (b == 92) (Some true) None)) ≡ Some false → (IsTrue (is_text b) × IsString bs) ⊎ ((b ≡ 92) × IsPaired bs)
inside_plain b bs true e f g h = inl (e, f h)
inside_plain b bs false e f g h = inside_slash b bs _ refl g h

-- bytes that are gone over are the inside of a string
after_inside : (s : List ℕ) (paired : Bool) → after string_step s paired ≡ Some false → Inside paired s
after_inside [] true h = absurd (cc)
after_inside [] false h = tt
after_inside (b ∷ bs) true h = inside_paired b bs _ refl (after_inside bs false) h
after_inside (b ∷ bs) false h = inside_plain b bs _ refl (after_inside bs false) (after_inside bs true) h

pub after_string : (s : List ℕ) → after string_step s false ≡ Some false → IsString s
after_string s h = after_inside s false h
