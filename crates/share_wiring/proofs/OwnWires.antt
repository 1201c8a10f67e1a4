-- The wires that a step makes.
use Rattle.std.proofs.Common.{◌-◌, ◌≡◌, ◌≢◌, ◌<◌, ◌≤◌, ◌+◌, ◌*◌, ◌^◌, ◌++◌, ◌⊎◌, ℕ, zero, suc, Bool, true, false, List, [], ◌∷◌, Some, codes, length, take, map, get_or, slice_get, refl, sym, ap, subst, inl, inr, ◌∙◌, length-append, append_assoc, arith, add-one, IsTrue, nat_lt}
use Rattle.std.specs.List.{AllByRecursion}
use Rattle.std.proofs.lemmas.List.{get_or_append_left, map-append, length-map}
use Rattle.std.proofs.lemmas.Option.{slice_get_within}
use Rattle.agm_net.specs.declared.port.Port.{Port}
use Rattle.std.proofs.lemmas.Bool.{cases_lt, and_from, lt-ltb}
use Rattle.std.proofs.Math.Seq.{get_or-append_seam}
use Rattle.agm_net.specs.Label.{IsPublic, CountsAsShare}
use Rattle.agm_net.specs.Writable.{IsWritable}
use Rattle.agm_net.proofs.Lists.{all_from, all_joined}
use Rattle.share_wiring.specs.Wiring.{Wiring, IsRun, Keeps, source_at, name_at, names, share, MayBeShare, IsSharing}
use Rattle.share_wiring.specs.Own.{own_name, own_wires, source_of, step_registers, upto}
use Rattle.share_wiring.specs.Adds.{AddsRegisters}
use Rattle.share_wiring.specs.Built.{source_fits, AreDistinct, IsNew, LeavesFree, IsBegun, IsInnerName, input_uses, is_stored, HasItsBits, clock_port, IsBuilt, ReadsPublic, ReadsShares}
use Rattle.share_wiring.specs.declared.gate.Source.{Source}
use Rattle.share_wiring.specs.declared.gate.Wire.{Wire}
use Rattle.share_wiring.specs.declared.gate.Step.{Step}
use Rattle.share_wiring.specs.declared.gate.Step.TheVariants as step
use Rattle.share_wiring.proofs.Grown.{Fit, distinct_joined, none, built_wires}
use Rattle.share_wiring.proofs.Runs.{run_front, run_back, name_back, registers_more}
use Rattle.share_wiring.proofs.OwnNames.{own_inner, own_apart, own_free, own_begun, own_writable, own_is_share}

pub length-upto : {X : Type 0} (n : ℕ) (f : ℕ → X) → length (upto n f) ≡ n
length-upto zero f = refl
length-upto (suc n) f = length-append (upto n f) (f n ∷ []) ∙ (ap (λ k. k + 1) (length-upto n f) ∙ add-one n)

pub get-upto : {X : Type 0} (n i : ℕ) (f : ℕ → X) (d : X) → i < n → get_or (upto n f) i d ≡ f i
get-upto zero i f d h = absurd (omega arith)
get-upto (suc n) i f d h =
    let len = length-upto n f in
    elim (cases_lt i n) [
      | inl lt ↦ get_or_append_left (upto n f) (f n ∷ []) d i (subst (λ k. i < k) (sym len) lt) ∙ get-upto n i f d lt
      | inr ge ↦ let same : i ≡ n = omega arith in
          subst (λ k. get_or (upto n f ++ f n ∷ []) k d ≡ f k) (sym same)
          (subst (λ k. get_or (upto n f ++ f n ∷ []) k d ≡ f n) len (get_or-append_seam (upto n f) (f n) [] d))
    ]

-- what holds of each number holds of the row
pub all_upto : {X : Type 0} (P : X → Type 0) (n : ℕ) (f : ℕ → X) → ((i : ℕ) → i < n → P (f i)) → AllByRecursion P (upto n f)
all_upto P zero f h = tt
all_upto P (suc n) f h = all_joined P (upto n f) (f n ∷ []) (all_upto P n f (λ i lt. h i (omega arith))) (h n (omega arith), tt)

pub map-upto : {X Y : Type 0} (g : X → Y) (n : ℕ) (f : ℕ → X) → map g (upto n f) ≡ upto n (λ i. g (f i))
map-upto g zero f = refl
map-upto g (suc n) f = map-append g (upto n f) (f n ∷ []) ∙ ap (λ xs. xs ++ g (f n) ∷ []) (map-upto g n f)

-- names that tell their numbers are distinct
pub distinct_upto : (n : ℕ) (f : ℕ → List ℕ) → ((i j : ℕ) → i < n → j < n → f i ≡ f j → i ≡ j) → AreDistinct (upto n f)
distinct_upto zero f h = tt
distinct_upto (suc n) f h =
    distinct_joined (upto n f) (f n ∷ []) (distinct_upto n f (λ i j p q e. h i j (omega arith) (omega arith) e)) (tt, tt)
    (all_upto (λ old. old ≢ f n) n f (λ i lt e. (let same = h i n (omega arith) (omega arith) e in omega (arith, same))), tt)

module _ (net : Wiring) (n : ℕ) (source : ℕ → Source) where
  abbrev pub made : List Wire
  made = own_wires n (length net.wires) source n

  pub made_names : names made ≡ upto n (λ i. own_name n i (length net.wires + i))
  made_names = map-upto (λ (x : Wire). x.name) n (λ i. record { name = own_name n i (length net.wires + i); source = source i })

  pub made_count : length made ≡ n
  made_count = length-upto n (λ i. record { name = own_name n i (length net.wires + i); source = source i })

  -- each name, by its number
  each_name : (P : List ℕ → Type 0) → ((i : ℕ) → i < n → P (own_name n i (length net.wires + i))) → AllByRecursion P (names made)
  each_name P h = rw made_names (all_upto P n (λ i. own_name n i (length net.wires + i)) h)

  pub each_source : (P : Source → Type 0) → ((i : ℕ) → i < n → P (source i)) → AllByRecursion (λ wire. P wire.source) made
  each_source P h = all_upto (λ (x : Wire). P x.source) n (λ i. record { name = own_name n i (length net.wires + i); source = source i }) h

  pub made_fits : IsBuilt net → n ≤ 16 → length net.wires + n < 2 ^ 64 → ((i : ℕ) → i < n → IsTrue (source_fits (source i) (length net.wires) (length net.wires))) → Fit net made
  made_fits built le room fits = record {
    read = each_source (λ s. IsTrue (source_fits s (length net.wires) (length net.wires))) fits;
    distinct = rw made_names (distinct_upto n (λ i. own_name n i (length net.wires + i)) (λ i j p q e. (let same = own_apart n n i j (length net.wires + i) (length net.wires + j) (omega arith) (omega arith) (omega arith) (omega arith) e in omega (arith, same))));
    new = each_name (IsNew (names net.wires)) (λ i lt. all_from (LeavesFree (length net.wires)) (λ old. old ≢ own_name n i (length net.wires + i)) (λ old free. free n i (length net.wires + i) (omega arith) (omega arith) (omega arith)) (names net.wires) built.free);
    free = each_name (LeavesFree (length net.wires + length made)) (λ i lt. (let len = made_count in own_free n i (length net.wires + i) (length net.wires + length made) (omega (arith, len)) (omega arith) (omega arith)));
    begun = each_name (IsBegun net.gadgets) (λ i lt. own_begun n i (length net.wires + i) net.gadgets);
    writable = each_name IsWritable (λ i lt. own_writable n i (length net.wires + i) (omega arith) (omega arith));
  }

  -- the new wires are a sharing
  pub made_sharing : (z : List ℕ) → n ≤ 16 → length net.wires + n < 2 ^ 64 → z ≡ upto n (λ i. length net.wires + i) → IsSharing (net.wires ++ made) n z
  made_sharing z le room shown i lt =
      let first = length net.wires in
      let len = length-append net.wires made in
      let count = made_count in
      let at : share z i ≡ first + i = ap (λ s. share s i) shown ∙ get-upto n i (λ k. first + k) 0 lt in
      let below : first + i < length (net.wires ++ made) = omega (arith, len, count) in
      let is : name_at (net.wires ++ made) (first + i) ≡ own_name n i (first + i) =
      name_back net.wires made i ∙ (ap (λ ns. get_or ns i []) made_names ∙ get-upto n i (λ k. own_name n k (first + k)) [] lt) in
      subst (λ w. MayBeShare (net.wires ++ made) n i w) (sym at)
      (record { within = below; named = subst (λ name. IsPublic name ⊎ ((n ≢ 1) × CountsAsShare (n - 1) i name)) (sym is) (own_is_share n i (first + i) (omega arith) (omega arith)) })

  -- and keep their sources
  pub made_keep : (z : List ℕ) (cycles : ℕ) (bits : ℕ → ℕ → Bool) → z ≡ upto n (λ i. length net.wires + i) → IsRun (net.wires ++ made) cycles bits
      → IsRun net.wires cycles bits × ((i : ℕ) → i < n → Keeps cycles bits (share z i) (source i))
  made_keep z cycles bits shown run = (
    run_front net.wires made cycles bits run,
    λ i lt.
        let first = length net.wires in
        let count = made_count in
        let at : share z i ≡ first + i = ap (λ s. share s i) shown ∙ get-upto n i (λ k. first + k) 0 lt in
        let kept = run_back net.wires made cycles bits run i (omega (arith, count)) in
        let is : source_at made i ≡ source i = ap (λ (x : Wire). x.source) (get-upto n i (λ k. record { name = own_name n k (first + k); source = source k }) none lt) in
        subst (λ w. Keeps cycles bits w (source i)) (sym at) (subst (λ s. Keeps cycles bits (first + i) s) is kept),
  )

-- a step reads wires of its sharings
pub step_fits : (wires : List Wire) (s : Step) (i n : ℕ) (xs ys : List ℕ) → 0 < length wires → i < n → ReadsPublic wires s → ReadsShares s n wires xs → ReadsShares s n wires ys
    → IsTrue (source_fits (source_of s i (share xs i) (share ys i)) (length wires) (length wires))
step_fits wires step.Copy i n xs ys some lt public hx hy = lt-ltb (share xs i) (length wires) (hx i lt).within
step_fits wires (step.Constant true) zero n xs ys some lt public hx hy = refl
step_fits wires (step.Constant false) zero n xs ys some lt public hx hy = refl
step_fits wires (step.Constant b) (suc i) n xs ys some lt public hx hy = refl
step_fits wires step.First zero n xs ys some lt public hx hy = lt-ltb (share xs 0) (length wires) (hx 0 lt).within
step_fits wires step.First (suc i) n xs ys some lt public hx hy = refl
step_fits wires step.Not zero n xs ys some lt public hx hy = lt-ltb (share xs 0) (length wires) (hx 0 lt).within
step_fits wires step.Not (suc i) n xs ys some lt public hx hy = lt-ltb (share xs (suc i)) (length wires) (hx (suc i) lt).within
step_fits wires step.Xor i n xs ys some lt public hx hy =
    and_from (nat_lt (share xs i) (length wires)) (nat_lt (share ys i) (length wires)) (lt-ltb (share xs i) (length wires) (hx i lt).within) (lt-ltb (share ys i) (length wires) (hy i lt).within)
step_fits wires (step.And w) i n xs ys some lt public hx hy =
    and_from (nat_lt w (length wires)) (nat_lt (share xs i) (length wires)) (lt-ltb w (length wires) public.within) (lt-ltb (share xs i) (length wires) (hx i lt).within)
step_fits wires step.Delay i n xs ys some lt public hx hy =
    and_from (nat_lt (share xs i) (length wires)) (nat_lt 0 (length wires)) (lt-ltb (share xs i) (length wires) (hx i lt).within) (lt-ltb 0 (length wires) some)
step_fits wires step.Hold i n xs ys some lt public hx hy = refl

-- it makes no input
pub step_inner : (s : Step) (i x y : ℕ) → input_uses (source_of s i x y) ≡ 0
step_inner step.Copy i x y = refl
step_inner (step.Constant b) zero x y = refl
step_inner (step.Constant b) (suc i) x y = refl
step_inner step.First zero x y = refl
step_inner step.First (suc i) x y = refl
step_inner step.Not zero x y = refl
step_inner step.Not (suc i) x y = refl
step_inner step.Xor i x y = refl
step_inner (step.And w) i x y = refl
step_inner step.Delay i x y = refl
step_inner step.Hold i x y = refl

-- how many registers it makes of one share
abbrev pub step_stored : Step → ℕ
step_stored step.Delay = 1
step_stored step.Hold = 1
step_stored _ = 0

pub step_is_stored : (s : Step) (i x y : ℕ) → is_stored (source_of s i x y) ≡ step_stored s
step_is_stored step.Copy i x y = refl
step_is_stored (step.Constant b) zero x y = refl
step_is_stored (step.Constant b) (suc i) x y = refl
step_is_stored step.First zero x y = refl
step_is_stored step.First (suc i) x y = refl
step_is_stored step.Not zero x y = refl
step_is_stored step.Not (suc i) x y = refl
step_is_stored step.Xor i x y = refl
step_is_stored (step.And w) i x y = refl
step_is_stored step.Delay i x y = refl
step_is_stored step.Hold i x y = refl

pub step_count : (s : Step) (n : ℕ) → n * step_stored s ≡ step_registers s n
step_count step.Copy n = omega arith
step_count (step.Constant b) n = omega arith
step_count step.First n = omega arith
step_count step.Not n = omega arith
step_count step.Xor n = omega arith
step_count (step.And w) n = omega arith
step_count step.Delay n = omega arith
step_count step.Hold n = omega arith

some_port : (wires : List (List ℕ)) (ports : List Port) → take 1 ports ≡ clock_port ∷ [] → AllByRecursion (HasItsBits wires) ports → 0 < length wires
some_port wires [] e h = absurd (cc)
some_port wires (p ∷ ps) e h =
    let first : p ≡ clock_port = cc in
    let named : HasItsBits wires clock_port = subst (HasItsBits wires) first h.0 in
    let found : slice_get wires 0 ≡ Some (codes "agm_clk") = cc in
    slice_get_within wires 0 (codes "agm_clk") found

-- there is a wire
pub some_wire : (net : Wiring) → IsBuilt net → 0 < length net.wires
some_wire net built = let some = some_port (names net.wires) net.ports built.clocked built.bits_named in let len = length-map net.wires (λ (x : Wire). x.name) in omega arith

module _ (net : Wiring) (n : ℕ) (s : Step) (x y : List ℕ) where
  -- what a step makes of two sharings
  abbrev pub step_wires : List Wire
  step_wires = own_wires n (length net.wires) (λ i. source_of s i (share x i) (share y i)) n

  pub step_built : IsBuilt net → n ≤ 16 → length net.wires + n < 2 ^ 64 → ReadsPublic net.wires s → ReadsShares s n net.wires x → ReadsShares s n net.wires y → IsBuilt (record net { wires = net.wires ++ step_wires })
  step_built built le room public hx hy =
      let source : ℕ → Source = λ i. source_of s i (share x i) (share y i) in
      built_wires net step_wires built
      (made_fits net n source built le room (λ i lt. step_fits net.wires s i n x y (some_wire net built) lt public hx hy))
      (each_name net n source IsInnerName (λ i lt. own_inner n i (length net.wires + i)))
      (each_source net n source (λ t. input_uses t ≡ 0) (λ i lt. step_inner s i (share x i) (share y i)))

  pub step_adds_registers : (new : Wiring) → new.wires ≡ net.wires ++ step_wires → AddsRegisters (step_registers s n) net new
  step_adds_registers new e =
      let source : ℕ → Source = λ i. source_of s i (share x i) (share y i) in
      let count = made_count net n source in
      let all = registers_more net new step_wires (step_stored s) e (each_source net n source (λ t. is_stored t ≡ step_stored s) (λ i lt. step_is_stored s i (share x i) (share y i))) in
      subst (λ k. AddsRegisters k net new) (ap (λ m. m * step_stored s) count ∙ step_count s n) all

  -- the numbers of wires still fit
  pub step_room : (items : List Wire) → items ≡ net.wires ++ step_wires → length items < 2 ^ 64 → length net.wires + n < 2 ^ 64
  step_room items e fits =
      let count = made_count net n (λ i. source_of s i (share x i) (share y i)) in
      let len = length-append net.wires step_wires in
      let same = ap (λ (ws : List Wire). length ws) e in
      omega (arith, count, len, same)

-- one wire more
pub one_own : (n m : ℕ) (source : ℕ → Source) (old items new : List Wire) (name : List ℕ) (s : Source)
    → (items ≡ old ++ own_wires n (length old) source m) × (length items ≡ length old + m)
    → name ≡ own_name n m (length items) → s ≡ source m → new ≡ items ++ (record { name = name; source = s }) ∷ []
    → (new ≡ old ++ own_wires n (length old) source (m + 1)) × (length new ≡ length old + (m + 1))
one_own n m source old items new name s before named is added =
    let wire : List ℕ → Source → List Wire = λ a b. (record { name = a; source = b }) ∷ [] in
    let own : List Wire = own_wires n (length old) source m in
    let name' : name ≡ own_name n m (length old + m) = named ∙ ap (own_name n m) before.1 in
    let shown : new ≡ (old ++ own) ++ wire (own_name n m (length old + m)) (source m) =
    added ∙ (ap (λ xs. xs ++ wire name s) before.0 ∙ (ap (λ a. (old ++ own) ++ wire a s) name' ∙ ap (λ b. (old ++ own) ++ wire (own_name n m (length old + m)) b) is)) in
    let count = ap (λ (ws : List Wire). length ws) added in
    let len = length-append items (wire name s) in
    let all = before.1 in (
      subst (λ k. new ≡ old ++ own_wires n (length old) source k) (sym (add-one m)) (shown ∙ append_assoc old own (wire (own_name n m (length old + m)) (source m))),
      omega (arith, count, len, all),
    )
