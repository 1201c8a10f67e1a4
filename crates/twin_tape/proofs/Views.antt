-- What probes see, as lists.
use Rattle.std.proofs.Common.{◌≡◌, ℕ, zero, suc, ◌<◌, ◌≤◌, Bool, true, false, ◌||◌, List, [], ◌∷◌, ◌++◌, map, length, slice_index_or, refl, sym, ap, ap₂, ◌∙◌, subst, arith, true≢false, flat_map}
use Rattle.std.specs.List.{list_any}
use Rattle.agm_net.specs.Plain.{PlainNet}
use Rattle.agm_net.specs.Loop.{reads, IsChain, last_of}
use Rattle.agm_net.specs.Run.{driver}
use Rattle.agm_net.proofs.Driving.{reads_is}
use Rattle.probe_cones.specs.Cone as cones
use Rattle.probe_cones.specs.Cone.{cone, within}
use Rattle.probe_cones.proofs.Steps.{Leads, all_kept, all_map, all_within, same_map}
use Rattle.twin_tape.proofs.Sources.{Ranked, source, is_source, source_is, reads_now, now_of}

pub list_any_some : {X : Type 0} (p : X → Bool) (xs : List X) (default : X) → list_any p xs ≡ true → (m : ℕ) × (m < length xs) × (p (slice_index_or xs m default) ≡ true)
list_any_some p [] default e = absurd (true≢false (sym e))
list_any_some {X} p (x ∷ xs) default e = go (p x) refl (λ rest. list_any_some p xs default rest)
  where
    go : (b : Bool) → p x ≡ b → (list_any p xs ≡ true → (m : ℕ) × (m < length xs) × (p (slice_index_or xs m default) ≡ true)) → (m : ℕ) × (m < length (x ∷ xs)) × (p (slice_index_or (x ∷ xs) m default) ≡ true)
    go true h more = (0, omega arith, h)
    go false h more =
        let found = more (ap (λ b. b || list_any p xs) (sym h) ∙ e) in
        (suc found.0, omega arith, found.2)

pub flat_map-ext : {X : Type 0} (f g : X → List Bool) (xs : List X) (default : X) → ((m : ℕ) → m < length xs → f (slice_index_or xs m default) ≡ g (slice_index_or xs m default)) → flat_map f xs ≡ flat_map g xs
flat_map-ext f g [] default same = refl
flat_map-ext f g (x ∷ xs) default same = ap₂ (λ a b. a ++ b) (same 0 (omega arith)) (flat_map-ext f g xs default (λ m h. same (suc m) (omega arith)))

pub map_at : {X Y : Type 0} (f : X → Y) (xs : List X) (m : ℕ) (default : X) (other : Y) → m < length xs → slice_index_or (map f xs) m other ≡ f (slice_index_or xs m default)
map_at f [] m default other h = absurd (omega arith)
map_at f (x ∷ xs) zero default other h = refl
map_at f (x ∷ xs) (suc m) default other h = map_at f xs m default other (omega arith)

module _ (net : PlainNet) (ranked : Ranked net) (f g : ℕ → Bool) where
  -- the sources that lead to the wire within n reads have the same bits
  abbrev pub Seen : ℕ → ℕ → Type 0
  Seen n w = (ws : List ℕ) → length ws ≤ n → IsChain (reads net) w ws → last_of w ws < length net.wires → is_source (source net (last_of w ws)) ≡ true → f (last_of w ws) ≡ g (last_of w ws)

  pub seen_step : (n w : ℕ) → (w < length net.wires → is_source (source net w) ≡ true → f w ≡ g w) → ((u : ℕ) → reads_now (source net w) u ≡ true → Seen n u) → Seen (suc n) w
  seen_step n w here there [] le chain inside from = here inside from
  seen_step n w here there (u ∷ us) le chain inside from = there u (now_of net (driver net w) u ∙ sym (reads_is net ranked.well w u) ∙ chain.0) us (omega arith) chain.1 inside from

  pub seen_none : (w : ℕ) → (w < length net.wires → is_source (source net w) ≡ true → f w ≡ g w) → Seen 0 w
  seen_none w here [] le chain inside from = here inside from
  seen_none w here (u ∷ us) le chain inside from = absurd (omega arith)

  -- a wire without reads
  pub seen_still : (n w : ℕ) → (w < length net.wires → is_source (source net w) ≡ true → f w ≡ g w) → ((u : ℕ) → reads_now (source net w) u ≡ true → Prim.⊥) → Seen n w
  seen_still zero w here none = seen_none w here
  seen_still (suc n) w here none = seen_step n w here (λ u h. absurd (none u h))

  -- a wire that is no source
  pub seen_through : (n w : ℕ) → is_source (source net w) ≡ false → ((m u : ℕ) → reads_now (source net w) u ≡ true → Seen m u) → Seen n w
  seen_through zero w not_one there = seen_none w (λ inside e. absurd (true≢false (sym e ∙ not_one)))
  seen_through (suc n) w not_one there = seen_step n w (λ inside e. absurd (true≢false (sym e ∙ not_one))) (there n)

  pub cone-ext : (w : ℕ) → Seen (length net.wires) w → map f (cone net w) ≡ map g (cone net w)
  cone-ext w seen =
      let P : ℕ → Type 0 = λ v. (v < length net.wires) × Leads net (length net.wires) w v in
      let all = all_kept P (λ v. cones.is_source (driver net v)) (within net w (length net.wires)) (all_within net w (length net.wires)) in
      same_map f g (cone net w)
      (all_map (λ v. P v × (cones.is_source (driver net v) ≡ true)) (λ v. f v ≡ g v)
      (λ v h.
      let leads = h.0.1 in
      subst (λ s. f s ≡ g s) leads.3
      (seen leads.0 leads.1 leads.2 (subst (λ s. s < length net.wires) (sym leads.3) h.0.0)
      (subst (λ s. is_source (source net s) ≡ true) (sym leads.3) (sym (source_is net (driver net v)) ∙ h.1)))) (cone net w) all)
