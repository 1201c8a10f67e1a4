-- The values of secret registers, and those of public ones.
use Rattle.std.proofs.Common.{◌≡◌, ◌<◌, ◌+◌, ◌*◌, ◌++◌, ℕ, zero, suc, Bool, true, false, not, cond, List, [], ◌∷◌, drop, length, reverse, refl, sym, ap, ◌∙◌, arith}
use Rattle.std.specs.Prelude.{slice_index_or}
use Rattle.std.proofs.lemmas.List.{append_assoc}
use Rattle.agm_net.specs.Trace.{Row}
use Rattle.share_wiring.specs.Schedule.{chosen}
use Rattle.share_wiring.proofs.DrivenRows.{chosen_secret}
use Rattle.shared_tape.specs.Rows.{secret_count, state_row}
use Rattle.shared_tape.specs.Sharing.{falling_rows, draws_of}

abbrev one : Bool → Bool → Bool → Row
one kind s v = cond (cond s kind (not kind)) (v ∷ []) []

chosen_first : (kind s v : Bool) (ss : List Bool) (vs : Row) → chosen kind (s ∷ ss) (v ∷ vs) ≡ one kind s v ++ chosen kind ss vs
chosen_first true true v ss vs = refl
chosen_first true false v ss vs = refl
chosen_first false true v ss vs = refl
chosen_first false false v ss vs = refl

chosen_drop : (kind : Bool) (ss : List Bool) (vs : Row) (k : ℕ) → k < length ss → length vs ≡ length ss
    → chosen kind (drop k ss) (drop k vs) ≡ one kind (slice_index_or ss k false) (slice_index_or vs k false) ++ chosen kind (drop (suc k) ss) (drop (suc k) vs)
chosen_drop kind [] vs k lt long = absurd (omega (arith, lt))
chosen_drop kind (s ∷ ss) [] k lt long = absurd (omega (arith, long))
chosen_drop kind (s ∷ ss) (v ∷ vs) zero lt long = chosen_first kind s v ss vs
chosen_drop kind (s ∷ ss) (v ∷ vs) (suc k) lt long = chosen_drop kind ss vs k (omega (arith, lt)) (omega (arith, long))

pub chosen_more : (kind : Bool) (ss : List Bool) (vs : Row) (k : ℕ) (now row : Row) → k < length ss → length vs ≡ length ss → now ++ chosen kind (drop k ss) (drop k vs) ≡ chosen kind ss vs
    → row ≡ now ++ one kind (slice_index_or ss k false) (slice_index_or vs k false) → row ++ chosen kind (drop (k + 1) ss) (drop (k + 1) vs) ≡ chosen kind ss vs
chosen_more kind ss vs k now row lt long before more =
    let next : k + 1 ≡ suc k = omega arith in
    let it = one kind (slice_index_or ss k false) (slice_index_or vs k false) in
    ap (λ n. row ++ chosen kind (drop n ss) (drop n vs)) next
    ∙ (ap (λ r. r ++ chosen kind (drop (suc k) ss) (drop (suc k) vs)) more
    ∙ (append_assoc now it (chosen kind (drop (suc k) ss) (drop (suc k) vs)) ∙ (ap (λ r. now ++ r) (sym (chosen_drop kind ss vs k lt long)) ∙ before)))

-- an initial state is its public values and its secret ones
pub state_are : (seed : List ℕ) (d : ℕ) (secrets : List Bool) (initial : Row) (s : ℕ) (publics shared start mid row : Row) → length initial ≡ length secrets
    → publics ≡ reverse (chosen false secrets initial) → shared ≡ chosen true secrets initial
    → mid ≡ start ++ publics → row ≡ mid ++ falling_rows (draws_of seed d (s * length shared) (length shared)) d 0 shared → row ≡ start ++ state_row seed d secrets initial s
state_are seed d secrets initial s publics shared start mid row long first second before after =
    let count : length shared ≡ secret_count secrets = ap (λ (xs : Row). length xs) second ∙ chosen_secret secrets initial long in
    let tail : falling_rows (draws_of seed d (s * length shared) (length shared)) d 0 shared ≡ falling_rows (draws_of seed d (s * secret_count secrets) (secret_count secrets)) d 0 (chosen true secrets initial) =
    ap (λ n. falling_rows (draws_of seed d (s * n) n) d 0 shared) count ∙ ap (falling_rows (draws_of seed d (s * secret_count secrets) (secret_count secrets)) d 0) second in
    after
    ∙ (ap (λ xs. xs ++ falling_rows (draws_of seed d (s * length shared) (length shared)) d 0 shared) (before ∙ ap (λ xs. start ++ xs) first)
    ∙ (ap (λ xs. (start ++ reverse (chosen false secrets initial)) ++ xs) tail
    ∙ append_assoc start (reverse (chosen false secrets initial)) (falling_rows (draws_of seed d (s * secret_count secrets) (secret_count secrets)) d 0 (chosen true secrets initial))))
