-- A net that isolates probes and is whole keeps its secrets.
use Rattle.std.proofs.Common.{◌≡◌, ◌≢◌, ℕ, zero, suc, ◌+◌, ◌<◌, ◌≤◌, ◌==◌, bytes_eq, Bool, true, false, not, ◌&&◌, ◌||◌, cond, List, [], ◌∷◌, ◌++◌, map, length, slice_index_or, take, nat_eq, refl, sym, ap, ap₂, ◌∙◌, subst, ⊎_elim, arith, filter, count_by, true≢false, length-take, eq-eqb, eqb-true, ne_eqb}
use Rattle.std.proofs.lemmas.Bool.{and_parts, or_cases, false_from_ne_true}
use Rattle.std.proofs.lemmas.List.Sums.{sum_by-cons}
use Rattle.std.proofs.lemmas.Slice.Eq.{bytes_eq-Decides}
use Rattle.agm_net.specs.Formula.{xor}
use Rattle.agm_net.specs.Plain.{PlainNet}
use Rattle.agm_net.specs.Trace.{Row, bit_at}
use Rattle.twin_tape.proofs.Counting.{length-IsTape, length-twisted, twisted}
use Rattle.twin_tape.proofs.TwinMap.{twisted_at, wide_at, xor_row_at}
use Rattle.twin_tape.proofs.Twins.{pairs_same}
use Rattle.twin_tape.proofs.Views.{map_at}
use Rattle.twin_tape.specs.Laws.{IsCausal, xor_row}
use Rattle.twin_tape.specs.Permitted.{has}
use Rattle.twin_tape.specs.Security.{Agree, Blind, IsHeld, IsSharing, IsWhole, Pini, Secrets, is_the_share, recombined, role_at, sees, step_of}
use Rattle.probe_cones.specs.Inputs.{BitRole, Secret, same_secret, random_bit, open_bit, roles, share_bit}
use Rattle.twin_tape.specs.Tapes.{IsTape}

-- a list of fewer than n numbers lacks one below n
abbrev pub without : ℕ → List ℕ → List ℕ
without m B = filter (λ k. not (nat_eq k m)) B

without_le : (m : ℕ) (B : List ℕ) → length (without m B) ≤ length B
without_le m [] = omega arith
without_le m (k ∷ B) = go (nat_eq k m) (without_le m B)
  where
    go : (b : Bool) → length (without m B) ≤ length B → length (cond (not b) (k ∷ without m B) (without m B)) ≤ suc (length B)
    go true le = omega arith
    go false le = omega arith

without_less : (m : ℕ) (B : List ℕ) → has B m ≡ true → length (without m B) < length B
without_less m [] h = absurd (true≢false (sym h))
without_less m (k ∷ B) h = go (nat_eq k m) refl (without_le m B) (without_less m B)
  where
    go : (b : Bool) → nat_eq k m ≡ b → length (without m B) ≤ length B → (has B m ≡ true → length (without m B) < length B) → length (cond (not b) (k ∷ without m B) (without m B)) < suc (length B)
    go true e le less = omega arith
    go false e le less =
        let rest : has B m ≡ true = ⊎_elim (λ f. absurd (true≢false (sym (eq-eqb k m (sym (eqb-true m k f))) ∙ e))) (λ f. f) (or_cases (nat_eq m k) (has B m) h) in
        let lt = less rest in omega arith

pub without_keeps : (m i : ℕ) (B : List ℕ) → i ≢ m → has B i ≡ true → has (without m B) i ≡ true
without_keeps m i [] ne h = h
without_keeps m i (k ∷ B) ne h = go (nat_eq k m) refl (without_keeps m i B ne)
  where
    go : (b : Bool) → nat_eq k m ≡ b → (has B i ≡ true → has (without m B) i ≡ true) → has (cond (not b) (k ∷ without m B) (without m B)) i ≡ true
    go true e rest = rest (⊎_elim (λ f. absurd (ne (eqb-true i k f ∙ eqb-true k m e))) (λ f. f) (or_cases (nat_eq i k) (has B i) h))
    go false e rest = ⊎_elim (λ f. ap (λ b. b || has (without m B) i) f) (λ f. or_true (nat_eq i k) (has (without m B) i) (rest f)) (or_cases (nat_eq i k) (has B i) h)
      where
        or_true : (x y : Bool) → y ≡ true → (x || y) ≡ true
        or_true x y e = grind arith

missing : (n : ℕ) (B : List ℕ) → length B < n → (k : ℕ) × (k < n) × (has B k ≡ false)
missing zero B lt = absurd (omega arith)
missing (suc m) B lt = go (has B m) refl (missing m (without m B))
  where
    go : (b : Bool) → has B m ≡ b → (length (without m B) < m → (k : ℕ) × (k < m) × (has (without m B) k ≡ false)) → (k : ℕ) × (k < suc m) × (has B k ≡ false)
    go false e rest = (m, omega arith, e)
    go true e rest =
        let less = without_less m B e in
        let found = rest (omega arith) in
        let lt = found.1 in
        (found.0, omega arith, false_from_ne_true (has B found.0) (λ h. true≢false (sym (without_keeps m found.0 B (λ e. omega arith) h) ∙ found.2)))

pub same_is : (x s : Secret) → same_secret x s ≡ true → x ≡ s
same_is x s e =
    let both = and_parts (bytes_eq x.0 s.0) (x.1 == s.1) e in
    ap₂ (λ name place. (name, place)) ((bytes_eq-Decides x.0 s.0).0 both.0) (eqb-true x.1 s.1 both.1)

-- The bit by which the share o of a secret bit is changed.
abbrev change_of : ℕ → (Secret → Bool) → BitRole → Bool
change_of o delta random_bit = false
change_of o delta open_bit = false
change_of o delta (share_bit index secret) = cond (nat_eq o index) (delta secret) false

-- whether an odd number of the roles are share o of the secret bit
abbrev odd : ℕ → Secret → List BitRole → Bool
odd o s [] = false
odd o s (role ∷ roles) = xor (is_the_share o s role) (odd o s roles)

odd_step : (p : BitRole → Bool) (role : BitRole) (roles : List BitRole) → count_by p (role ∷ roles) ≡ cond (p role) 1 0 + count_by p roles
odd_step p role roles = sum_by-cons (λ role. cond (p role) 1 0) role roles

odd_none : (o : ℕ) (s : Secret) (roles : List BitRole) → count_by (is_the_share o s) roles ≡ 0 → odd o s roles ≡ false
odd_none o s [] e = refl
odd_none o s (role ∷ roles) e = go (is_the_share o s role) (sym (odd_step (is_the_share o s) role roles) ∙ e) (odd_none o s roles)
  where
    go : (b : Bool) → cond b 1 0 + count_by (is_the_share o s) roles ≡ 0 → (count_by (is_the_share o s) roles ≡ 0 → odd o s roles ≡ false) → xor b (odd o s roles) ≡ false
    go true e rest = absurd (omega arith)
    go false e rest = rest (omega arith)

odd_one : (o : ℕ) (s : Secret) (roles : List BitRole) → count_by (is_the_share o s) roles ≡ 1 → odd o s roles ≡ true
odd_one o s [] e = absurd (omega arith)
odd_one o s (role ∷ roles) e = go (is_the_share o s role) (sym (odd_step (is_the_share o s) role roles) ∙ e) (odd_one o s roles)
  where
    go : (b : Bool) → cond b 1 0 + count_by (is_the_share o s) roles ≡ 1 → (count_by (is_the_share o s) roles ≡ 1 → odd o s roles ≡ true) → xor b (odd o s roles) ≡ true
    go true e rest = ap not (odd_none o s roles (omega arith))
    go false e rest = rest (omega arith)

step_true : (b i D R R' O : Bool) → R' ≡ xor R (cond O D false) → xor (xor b (cond i D false)) R' ≡ xor (xor b R) (cond (xor (i && true) O) D false)
step_true b i D R R' O e = grind arith

step_false : (i D R R' O : Bool) → R' ≡ xor R (cond O D false) → R' ≡ xor R (cond (xor (i && false) O) D false)
step_false i D R R' O e = grind arith

recombined_changed : (o : ℕ) (delta : Secret → Bool) (roles : List BitRole) (s : Secret) (bits : List Bool) → length bits ≡ length roles →
    recombined roles s (xor_row bits (map (change_of o delta) roles)) ≡ xor (recombined roles s bits) (cond (odd o s roles) (delta s) false)
recombined_changed o delta [] s bits long = refl
recombined_changed o delta (role ∷ roles) s [] long = absurd (omega arith)
recombined_changed o delta (random_bit ∷ roles) s (b ∷ bits) long = recombined_changed o delta roles s bits (omega arith)
recombined_changed o delta (open_bit ∷ roles) s (b ∷ bits) long = recombined_changed o delta roles s bits (omega arith)
recombined_changed o delta (share_bit index secret ∷ roles) s (b ∷ bits) long = go (same_secret secret s) refl (recombined_changed o delta roles s bits (omega arith))
  where
    go : (q : Bool) → same_secret secret s ≡ q → recombined roles s (xor_row bits (map (change_of o delta) roles)) ≡ xor (recombined roles s bits) (cond (odd o s roles) (delta s) false) →
        xor (cond q (xor b (cond (nat_eq o index) (delta secret) false)) false) (recombined roles s (xor_row bits (map (change_of o delta) roles))) ≡
        xor (xor (cond q b false) (recombined roles s bits)) (cond (xor (nat_eq o index && q) (odd o s roles)) (delta s) false)
    go true e rest =
        ap (λ k. xor (xor b (cond (nat_eq o index) (delta k) false)) (recombined roles s (xor_row bits (map (change_of o delta) roles)))) (same_is secret s e) ∙
        step_true b (nat_eq o index) (delta s) (recombined roles s bits) (recombined roles s (xor_row bits (map (change_of o delta) roles))) (odd o s roles) rest
    go false e rest = step_false (nat_eq o index) (delta s) (recombined roles s bits) (recombined roles s (xor_row bits (map (change_of o delta) roles))) (odd o s roles) rest

-- bits of two worlds that are changed by one bit
cancel : (a b m : Bool) → xor a m ≡ xor b m → a ≡ b
cancel a b m e = grind arith

back : (a f g : Bool) → xor a (xor f g) ≡ g → a ≡ f
back a f g e = grind arith

forth : (a f g : Bool) → a ≡ f → xor a (xor f g) ≡ g
forth a f g e = grind arith

same_tests : (a b : Bool) → (a ≡ true → b ≡ true) → (b ≡ true → a ≡ true) → a ≡ b
same_tests true b f g = sym (f refl)
same_tests false true f g = g refl
same_tests false false f g = refl

xor_false : (a : Bool) → a ≡ xor a false
xor_false a = grind arith

length-xor_row : (row mask : List Bool) → length (xor_row row mask) ≡ length row
length-xor_row [] mask = refl
length-xor_row (b ∷ row) [] = refl
length-xor_row (b ∷ row) (m ∷ mask) = ap suc (length-xor_row row mask)

pub twisted_tape : (R T : ℕ) (mask : List Row → List Row → List Bool) (past made tape : List Row) → IsTape R T tape → IsTape R T (twisted mask past made tape)
twisted_tape R zero mask past made [] is = tt
twisted_tape R zero mask past made (row ∷ tape) is = absurd is
twisted_tape R (suc T) mask past made [] is = absurd is
twisted_tape R (suc T) mask past made (row ∷ tape) is =
    (length-xor_row row (mask past made) ∙ is.0, twisted_tape R T mask (past ++ row ∷ []) (made ++ xor_row row (mask past made) ∷ []) tape is.1)

open_only : (role : BitRole) → sees [] role ≡ true → role ≡ open_bit
open_only random_bit e = absurd (true≢false (sym e))
open_only open_bit e = refl
open_only (share_bit index secret) e = absurd (true≢false (sym e))

-- the change at a role that indices without o see
unchanged : (o : ℕ) (delta : Secret → Bool) (B : List ℕ) (role : BitRole) → has B o ≡ false → sees B role ≡ true → change_of o delta role ≡ false
unchanged o delta B random_bit out e = refl
unchanged o delta B open_bit out e = refl
unchanged o delta B (share_bit index secret) out e =
    ap (λ b. cond b (delta secret) false) (ne_eqb o index (λ same. true≢false (sym (subst (λ k. has B k ≡ true) (sym same) e) ∙ out)))

module _ (net : PlainNet) (d T H o : ℕ) (base : List Row) (first second : Secrets) (held_first : IsHeld T H first) (held_second : IsHeld T H second)
    (low : o ≤ d) (whole : IsWhole net d) where
  abbrev delta : ℕ → Secret → Bool
  delta t s = xor (first t s) (second t s)

  -- share o of each secret bit is changed by what the two secret tapes differ in
  abbrev moved : List Row → List Row
  moved x = twisted (λ past made. map (change_of o (delta (length past))) (roles net)) [] [] x

  moved_causal : IsCausal (length (roles net)) T moved
  moved_causal = record {
    change = λ past made. map (change_of o (delta (length past))) (roles net);
    as_long = λ x is. length-twisted (λ past made. map (change_of o (delta (length past))) (roles net)) [] [] x ∙ length-IsTape (length (roles net)) T x is;
    rows = λ x is t h. twisted_at (λ past made. map (change_of o (delta (length past))) (roles net)) [] [] x t (subst (λ n. t < n) (sym (length-IsTape (length (roles net)) T x is)) h);
  }

  moved_row : (x : List Row) (t : ℕ) → IsTape (length (roles net)) T x → t < T → slice_index_or (moved x) t [] ≡ xor_row (slice_index_or x t []) (map (change_of o (delta t)) (roles net))
  unfolding moved_causal
  moved_row x t is h =
      let as_long : length x ≡ T = length-IsTape (length (roles net)) T x is in
      let long : length (take t x) ≡ t = length-take t x ∙ omega arith in
      moved_causal.rows x is t h ∙ ap (λ k. xor_row (slice_index_or x t []) (map (change_of o (delta k)) (roles net))) long

  moved_bit : (x : List Row) (t n : ℕ) → IsTape (length (roles net)) T x → t < T → n < length (roles net) → bit_at (moved x) t n ≡ xor (bit_at x t n) (change_of o (delta t) (role_at net n))
  moved_bit x t n is h small =
      ap (λ row. slice_index_or row n false) (moved_row x t is h) ∙
      xor_row_at (slice_index_or x t []) (map (change_of o (delta t)) (roles net)) n (subst (λ k. n < k) (sym (wide_at (length (roles net)) T x t is h)) small) ∙
      ap (xor (bit_at x t n)) (map_at (change_of o (delta t)) (roles net) n open_bit false small)

  moved_recombined : (x : List Row) (t n index : ℕ) (s : Secret) → IsTape (length (roles net)) T x → t < T → n < length (roles net) → role_at net n ≡ share_bit index s →
      recombined (roles net) s (slice_index_or (moved x) t []) ≡ xor (recombined (roles net) s (slice_index_or x t [])) (delta t s)
  moved_recombined x t n index s is h small role =
      ap (recombined (roles net) s) (moved_row x t is h) ∙
      recombined_changed o (delta t) (roles net) s (slice_index_or x t []) (wide_at (length (roles net)) T x t is h) ∙
      ap (λ b. xor (recombined (roles net) s (slice_index_or x t [])) (cond b (delta t s) false)) (odd_one o s (roles net) (whole n index o s small role low))

  moved_tape : (x : List Row) → IsTape (length (roles net)) T x → IsTape (length (roles net)) T (moved x)
  moved_tape x is = twisted_tape (length (roles net)) T (λ past made. map (change_of o (delta (length past))) (roles net)) [] [] x is

  moved_open : (x : List Row) (t n : ℕ) → IsTape (length (roles net)) T x → t < T → n < length (roles net) → sees [] (role_at net n) ≡ true → bit_at x t n ≡ bit_at (moved x) t n
  moved_open x t n is h small sees =
      xor_false (bit_at x t n) ∙ ap (xor (bit_at x t n)) (ap (change_of o (delta t)) (sym (open_only (role_at net n) sees))) ∙ sym (moved_bit x t n is h small)

  delta_held : (t u : ℕ) (s : Secret) → t < T → u < T → step_of H t ≡ step_of H u → delta t s ≡ delta u s
  delta_held t u s ht hu step = ap₂ xor (held_first t u s ht hu step) (held_second t u s ht hu step)

  change_held : (t u n index : ℕ) (s : Secret) → t < T → u < T → step_of H t ≡ step_of H u → role_at net n ≡ share_bit index s →
      change_of o (delta t) (role_at net n) ≡ change_of o (delta u) (role_at net n)
  change_held t u n index s ht hu step role =
      ap (change_of o (delta t)) role ∙ ap (λ b. cond (nat_eq o index) b false) (delta_held t u s ht hu step) ∙ ap (change_of o (delta u)) (sym role)

  sharing_to : (x : List Row) → length base ≡ T → IsTape (length (roles net)) T x → IsSharing net H base first x → IsSharing net H base second (moved x)
  sharing_to x long is sharing =
      let lx : length x ≡ T = length-IsTape (length (roles net)) T x is in
      let lm : length (moved x) ≡ T = length-IsTape (length (roles net)) T (moved x) (moved_tape x is) in
      record {
        open_bits = λ t n h small sees. sharing.open_bits t n h small sees ∙ moved_open x t n is (omega arith) small sees;
        recombines = λ t n index s h small role.
            moved_recombined x t n index s is (omega arith) small role ∙ forth (recombined (roles net) s (slice_index_or x t [])) (first t s) (second t s) (sharing.recombines t n index s (omega arith) small role);
        held = λ t u n index s ht hu small step role.
            moved_bit x t n is (omega arith) small ∙ ap₂ xor (sharing.held t u n index s (omega arith) (omega arith) small step role) (change_held t u n index s (omega arith) (omega arith) step role) ∙
            sym (moved_bit x u n is (omega arith) small);
      }

  sharing_from : (x : List Row) → length base ≡ T → IsTape (length (roles net)) T x → IsSharing net H base second (moved x) → IsSharing net H base first x
  sharing_from x long is sharing =
      let lx : length x ≡ T = length-IsTape (length (roles net)) T x is in
      let lm : length (moved x) ≡ T = length-IsTape (length (roles net)) T (moved x) (moved_tape x is) in
      record {
        open_bits = λ t n h small sees. sharing.open_bits t n h small sees ∙ sym (moved_open x t n is (omega arith) small sees);
        recombines = λ t n index s h small role.
            back (recombined (roles net) s (slice_index_or x t [])) (first t s) (second t s) (sym (moved_recombined x t n index s is (omega arith) small role) ∙ sharing.recombines t n index s (omega arith) small role);
        held = λ t u n index s ht hu small step role.
            cancel (bit_at x t n) (bit_at x u n) (change_of o (delta u) (role_at net n))
            (ap (xor (bit_at x t n)) (sym (change_held t u n index s (omega arith) (omega arith) step role)) ∙ sym (moved_bit x t n is (omega arith) small) ∙
            sharing.held t u n index s (omega arith) (omega arith) small step role ∙ moved_bit x u n is (omega arith) small);
      }

  moved_agree : (B : List ℕ) (x : List Row) → has B o ≡ false → IsTape (length (roles net)) T x → Agree net B x (moved x)
  moved_agree B x out is t n h small sees =
      let lx : length x ≡ T = length-IsTape (length (roles net)) T x is in
      xor_false (bit_at x t n) ∙ ap (xor (bit_at x t n)) (sym (unchanged o (delta t) B (role_at net n) out sees)) ∙ sym (moved_bit x t n is (omega arith) small)

pub blind : (net : PlainNet) (d : ℕ) → Pini net d → IsWhole net d → Blind net d
blind net d pini whole T H power probes ge inside few base first second long_base held_first held_second is_first is_second tells_first tells_second o =
    let isolated = pini T probes [] inside (λ i j d a b. absurd (omega arith)) (λ k d h. absurd (omega arith)) (omega arith) in
    let B = isolated.0 in
    let le = isolated.1 in
    let gap = missing (suc d) B (omega arith) in
    let low : gap.0 ≤ d = let lt = gap.1 in omega arith in
    let move = λ (x : List Row). moved net d T H gap.0 base first second held_first held_second low whole x in
    pairs_same net power probes T is_first is_second move (moved_causal net d T H gap.0 base first second held_first held_second low whole) o
    (λ x is.
    let is' = moved_tape net d T H gap.0 base first second held_first held_second low whole x is in
    let tests : is_first x ≡ is_second (move x) =
    same_tests (is_first x) (is_second (move x))
    (λ e. (tells_second (move x) is').1 (sharing_to net d T H gap.0 base first second held_first held_second low whole x long_base is ((tells_first x is).0 e)))
    (λ e. (tells_first x is).1 (sharing_from net d T H gap.0 base first second held_first held_second low whole x long_base is ((tells_second (move x) is').0 e))) in
    ap₂ (λ b n. cond b n 0) tests
    (isolated.2 power x (move x) is is' (moved_agree net d T H gap.0 base first second held_first held_second low whole B x gap.2 is) o))
