-- Chains that grow, and what is read of them.
use Rattle.std.proofs.Common.{◌≡◌, ◌<◌, ◌+◌, ◌-◌, ◌++◌, ℕ, Bool, List, [], ◌∷◌, length, length-append, refl, sym, ap, subst, inl, inr, ◌∙◌, arith}
use Rattle.std.proofs.lemmas.Bool.{cases_lt}
use Rattle.std.proofs.lemmas.List.{get_or_append_left}
use Rattle.std.proofs.Math.Seq.{get_or-append_seam}
use Rattle.share_wiring.specs.Wiring.{Wiring}
use Rattle.share_wiring.specs.Adds.{Extends}
use Rattle.pipeline_balance.specs.declared.values.Value.{Value}
use Rattle.pipeline_balance.specs.declared.values.Value.TheVariants.{Public}
use Rattle.pipeline_balance.specs.declared.chains.Chain.{Chain}
use Rattle.pipeline_balance.specs.Signals.{Signal, Carries}
use Rattle.pipeline_balance.specs.Valued.{is_secret, size_of, wires_of, IsValue, signal, MakesValue}
use Rattle.pipeline_balance.specs.Shared.{Adds}
use Rattle.pipeline_balance.specs.Chained.{value_at, chain_at, stage, at_level, IsChain, HasValues, IsCarried, AreCarried, IsRead}
use Rattle.pipeline_balance.proofs.Bridges.{carries_here, carries_on}
use Rattle.pipeline_balance.proofs.Adding.{adds_none, adds_so, adds_then, adds_of, value_still}

pub value_front : {n : ℕ} (xs : List (Value n)) (z : Value n) (i : ℕ) → i < length xs → value_at (xs ++ z ∷ []) i ≡ value_at xs i
value_front xs z i lt = get_or_append_left xs (z ∷ []) (Public (record { shares = [] })) i lt

pub value_last : {n : ℕ} (xs : List (Value n)) (z : Value n) → value_at (xs ++ z ∷ []) (length xs) ≡ z
value_last xs z = get_or-append_seam xs z [] (Public (record { shares = [] }))

-- a chain of one stage
pub chain_begins : (n : ℕ) (net : Wiring) (v : Value n) (level : ℕ) → IsValue n net v → IsChain n net (is_secret v) level level (record { level = level; stages = v ∷ [] })
chain_begins n net v level inside = record {
  level_is = refl;
  in_order = omega arith;
  reaches = refl;
  values = λ i lt. (let first : i ≡ 0 = omega arith in subst (λ k. IsValue n net (value_at (v ∷ []) k)) (sym first) inside);
  kinds = λ i lt. (let first : i ≡ 0 = omega arith in ap (λ k. is_secret (value_at (v ∷ []) k)) first);
}

carries_same : (cycles p q : ℕ) (x : Signal) → p ≡ q → Carries cycles p q x x
carries_same cycles p q x e = subst (λ k. Carries cycles p k x x) e (carries_here cycles p x)

pub carried_begins : (n : ℕ) (v : Value n) (level cycles : ℕ) (bits : ℕ → ℕ → Bool) → IsCarried n (record { level = level; stages = v ∷ [] }) cycles bits
carried_begins n v level cycles bits i lt =
    let first : i ≡ 0 = omega arith in
    subst (λ k. Carries cycles level (level + k) (signal n bits v) (signal n bits (value_at (v ∷ []) k))) (sym first) (carries_same cycles level (level + 0) (signal n bits v) (omega arith))

-- one stage more
pub chain_grows : (n : ℕ) (old now : Wiring) (secret : Bool) (level at : ℕ) (xs : List (Value n)) (z : Value n) → Extends old now → IsChain n old secret level at (record { level = level; stages = xs })
    → IsValue n now z → is_secret z ≡ secret → IsChain n now secret level (at + 1) (record { level = level; stages = xs ++ z ∷ [] })
chain_grows n old now secret level at xs z extends c inside kind =
    let len = length-append xs (z ∷ []) in
    let order = c.in_order in
    let reaches = c.reaches in
    record {
      level_is = refl;
      in_order = omega arith;
      reaches = omega (arith, len, reaches);
      values = λ i lt. elim (cases_lt i (length xs)) [
        | inl old_one ↦ subst (λ v. IsValue n now v) (sym (value_front xs z i old_one)) (value_still n old now (value_at xs i) extends (c.values i old_one))
        | inr last ↦ (let at_end : i ≡ length xs = omega (arith, lt, len, last) in
            subst (λ v. IsValue n now v) (sym (ap (value_at (xs ++ z ∷ [])) at_end ∙ value_last xs z)) inside)
      ];
      kinds = λ i lt. elim (cases_lt i (length xs)) [
        | inl old_one ↦ ap is_secret (value_front xs z i old_one) ∙ c.kinds i old_one
        | inr last ↦ (let at_end : i ≡ length xs = omega (arith, lt, len, last) in
            ap is_secret (ap (value_at (xs ++ z ∷ [])) at_end ∙ value_last xs z) ∙ kind)
      ];
    }

pub carried_grows : (n : ℕ) (level m : ℕ) (xs : List (Value n)) (z : Value n) (cycles : ℕ) (bits : ℕ → ℕ → Bool) → length xs ≡ m + 1
    → Carries cycles (level + m) (level + m + 1) (signal n bits (value_at xs m)) (signal n bits z)
    → IsCarried n (record { level = level; stages = xs }) cycles bits → IsCarried n (record { level = level; stages = xs ++ z ∷ [] }) cycles bits
carried_grows n level m xs z cycles bits count last before i lt =
    let len = length-append xs (z ∷ []) in
    let here : 0 < length xs = omega (arith, count) in
    let start = value_front xs z 0 here in
    subst (λ v. Carries cycles level (level + i) (signal n bits v) (signal n bits (value_at (xs ++ z ∷ []) i))) (sym start)
    (elim (cases_lt i (length xs)) [
      | inl old_one ↦ subst (λ v. Carries cycles level (level + i) (signal n bits (value_at xs 0)) (signal n bits v)) (sym (value_front xs z i old_one)) (before i old_one)
      | inr later ↦ (
          let at_end : i ≡ length xs = omega (arith, lt, len, later) in
          let place : level + i ≡ level + m + 1 = omega (arith, at_end, count) in
          let is : value_at (xs ++ z ∷ []) i ≡ z = ap (value_at (xs ++ z ∷ [])) at_end ∙ value_last xs z in
          subst (λ k. Carries cycles level k (signal n bits (value_at xs 0)) (signal n bits (value_at (xs ++ z ∷ []) i))) (sym place)
          (subst (λ v. Carries cycles level (level + m + 1) (signal n bits (value_at xs 0)) (signal n bits v)) (sym is)
          (carries_on cycles level (level + m) (level + m + 1) (signal n bits (value_at xs 0)) (signal n bits (value_at xs m)) (signal n bits z) (before m (omega (arith, count))) last)))
    ])

-- what a chain has
pub has_values : (n : ℕ) (net : Wiring) (secret : Bool) (level last : ℕ) (c : Chain n) → IsChain n net secret level last c → HasValues n net c
has_values n net secret level last c is =
    let order = is.in_order in
    let reaches = is.reaches in
    let some : 0 < length c.stages = omega (arith, order, reaches) in
    record { some = some; values = is.values; kinds = λ i lt. is.kinds i lt ∙ sym (is.kinds 0 some) }

-- a later net still has it
pub chain_stays : (n : ℕ) (old now : Wiring) (secret : Bool) (level last : ℕ) (c : Chain n) → Extends old now → IsChain n old secret level last c → IsChain n now secret level last c
chain_stays n old now secret level last c extends is =
    record { level_is = is.level_is; in_order = is.in_order; reaches = is.reaches; values = λ i lt. value_still n old now (stage c i) extends (is.values i lt); kinds = is.kinds }

module _ (n : ℕ) (table : List (Chain n)) (k q : ℕ) (read : IsRead n table k q) where
  within : q - (chain_at table k).level < length (chain_at table k).stages
  within = let from = read.from in let to = read.to in omega (arith, from, to)

  pub read_value : (net : Wiring) → HasValues n net (chain_at table k) → IsValue n net (at_level table k q)
  read_value net has = has.values (q - (chain_at table k).level) within

  pub read_kind : (net : Wiring) → HasValues n net (chain_at table k) → is_secret (at_level table k q) ≡ is_secret (stage (chain_at table k) 0)
  read_kind net has = has.kinds (q - (chain_at table k).level) within

  pub read_carried : (cycles : ℕ) (bits : ℕ → ℕ → Bool) → AreCarried n table cycles bits
      → Carries cycles (chain_at table k).level q (signal n bits (stage (chain_at table k) 0)) (signal n bits (at_level table k q))
  read_carried cycles bits carried =
      let from = read.from in
      let there : (chain_at table k).level + (q - (chain_at table k).level) ≡ q = omega (arith, from) in
      subst (λ p. Carries cycles (chain_at table k).level p (signal n bits (stage (chain_at table k) 0)) (signal n bits (at_level table k q))) there
      (carried k read.known (q - (chain_at table k).level) within)

-- ---- the loop that makes a chain

-- what it keeps
abbrev pub Growing : (n : ℕ) → (start now : Wiring) → Value n → (level at : ℕ) → List (Value n) → Value n → Type 0
Growing n start now v level at xs reached =
    IsChain n now (is_secret v) level at (record { level = level; stages = xs })
    × Adds n start now 0 0 (IsCarried n (record { level = level; stages = xs }))
    × (value_at xs 0 ≡ v)
    × (reached ≡ value_at xs (at - level))

pub growing_begins : (n : ℕ) (net : Wiring) (v : Value n) (level : ℕ) (xs : List (Value n)) → IsValue n net v → xs ≡ v ∷ [] → Growing n net net v level level xs v
growing_begins n net v level xs inside e =
    let none : 0 ≡ level - level = omega arith in
    subst (λ ys. Growing n net net v level level ys v) (sym e)
    (chain_begins n net v level inside, adds_none net (IsCarried n (record { level = level; stages = v ∷ [] })) (λ cycles bits. carried_begins n v level cycles bits), refl, ap (value_at (v ∷ [])) none)

pub growing_value : (n : ℕ) (start now : Wiring) (v : Value n) (level at : ℕ) (xs : List (Value n)) (reached : Value n) → Growing n start now v level at xs reached → IsValue n now reached
growing_value n start now v level at xs reached kept =
    let order = kept.0.in_order in
    let reaches = kept.0.reaches in
    subst (λ x. IsValue n now x) (sym kept.3) (kept.0.values (at - level) (omega (arith, order, reaches)))

pub growing_goes_on : (n : ℕ) (start old now : Wiring) (v : Value n) (level at : ℕ) (xs new : List (Value n)) (reached z : Value n) → Growing n start old v level at xs reached
    → is_secret z ≡ is_secret reached → MakesValue old now n 0 0 z (λ cycles bits. (p : ℕ) → Carries cycles p (p + 1) (signal n bits reached) (signal n bits z))
    → new ≡ xs ++ z ∷ [] → Growing n start now v level (at + 1) new z
growing_goes_on n start old now v level at xs new reached z kept kind made e =
    let order = kept.0.in_order in
    let reaches = kept.0.reaches in
    let m = at - level in
    let count : length xs ≡ m + 1 = omega (arith, order, reaches) in
    let some : 0 < length xs = omega (arith, count) in
    let below : m < length xs = omega (arith, count) in
    let same_kind : is_secret z ≡ is_secret v = kind ∙ (ap is_secret kept.3 ∙ kept.0.kinds m below) in
    let next : (at + 1) - level ≡ length xs = omega (arith, order, reaches) in
    subst (λ ys. Growing n start now v level (at + 1) ys z) (sym e) (
      chain_grows n old now (is_secret v) level at xs z made.extends kept.0 made.shares same_kind,
      adds_so start now 0 0 0 0 _ (IsCarried n (record { level = level; stages = xs ++ z ∷ [] })) refl refl
          (λ cycles bits f. carried_grows n level m xs z cycles bits count
          (subst (λ x. Carries cycles (level + m) (level + m + 1) (signal n bits x) (signal n bits z)) kept.3 (f.1 (level + m))) f.0)
          (adds_then start old now 0 0 0 0 _ _ kept.1 (adds_of (size_of n z) old now 0 0 (wires_of z) _ made)),
      value_front xs z 0 some ∙ kept.2,
      sym (ap (value_at (xs ++ z ∷ [])) next ∙ value_last xs z),
    )
