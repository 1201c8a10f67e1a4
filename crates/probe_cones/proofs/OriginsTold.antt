-- What the list of origins tells.
use Rattle.std.proofs.Common.{◌≡◌, ◌≢◌, ◌<◌, ◌+◌, ◌==◌, ◌∷◌, [], ℕ, zero, suc, Bool, true, false, List, length, map, set, get_or, slice_get, Some, IsTrue, refl, sym, ap, ◌∙◌, subst, arith, inl, inr, eq-eqb, true≢false, get_or-set_same, get_or-set_other}
use Rattle.std.proofs.Math.ListN.{length-set}
use Rattle.std.specs.List.{list_any}
use Rattle.std.proofs.lemmas.Bool.{cases_Bool, cases_lt, eqb-true}
use Rattle.std.proofs.lemmas.List.{length-map, append-nil}
use Rattle.std.proofs.lemmas.Option.{slice_get-get_or, get_or_from_slice_get, slice_get_within}
use Rattle.agm_net.specs.Formula.{Formula, formula_of, reads_below}
use Rattle.agm_net.specs.Plain.{Line, PlainNet, line_of, clock_bits, bits_of_port}
use Rattle.agm_net.specs.declared.expr.Equation.{Equation as Setting}
use Rattle.agm_net.specs.declared.port.Port.{Port}
use Rattle.agm_net.specs.Run.{Driver, d_input, d_clock, d_equation, d_register, d_nothing, HasDriver, driver, reads_now}
use Rattle.agm_net.specs.WellFormed.{WellFormed}
use Rattle.agm_net.proofs.Driving.{is_driven, is_driver}
use Rattle.agm_net.proofs.Lists.{all_of_one, any_at, get_image, place_of_any}
use Rattle.agm_net.proofs.Wires.{lines_fit}
use Rattle.probe_cones.specs.Cone.{is_source}
use Rattle.probe_cones.specs.declared.origins.Origin.{Origin}
use Rattle.probe_cones.specs.declared.origins.Origin.TheVariants.{Source, Equation, Clock}
use Rattle.probe_cones.specs.Origins.{origin_at, Tells, AreOrigins, comes_from_source, HasMarkedClock, IsOf, HasMarkedEquations}

pub record AreMarked (lines : List Line) (i : ℕ) (before now : List Origin) : Type 0 where
  pub as_many : length now ≡ length before
  pub marked : (k w : ℕ) (f : Formula) → k < i → slice_get lines k ≡ Some (w, f) → IsOf lines (origin_at now w) w
  pub others : (w : ℕ) → ((k : ℕ) (f : Formula) → k < i → slice_get lines k ≡ Some (w, f) → Prim.⊥) → origin_at now w ≡ origin_at before w

pub marked_more : (lines : List Line) (before now : List Origin) (i u : ℕ) (g : Formula) → u < length now → slice_get lines i ≡ Some (u, g)
    → AreMarked lines i before now → AreMarked lines (i + 1) before (set now u (Equation i))
marked_more lines before now i u g lt at was = record {
  as_many = length-set now u (Equation i) ∙ was.as_many;
  marked = λ k w f less is. elim (cases_Bool (w == u)) [
    | inl same ↦ (
        let eq : w ≡ u = eqb-true w u same in
        let here : Equation i ≡ origin_at (set now u (Equation i)) w = sym (ap (origin_at (set now u (Equation i))) eq ∙ get_or-set_same now u (Equation i) Source lt) in
        subst (λ o. IsOf lines o w) here (g, at ∙ ap (λ x. Some (x, g)) (sym eq)))
    | inr other ↦ (
        let ne : w ≢ u = λ e. true≢false (sym (eq-eqb w u e) ∙ other) in
        let before_i : k < i = elim (cases_lt k i) [
          | inl old ↦ old
          | inr last ↦ absurd (
              let here : k ≡ i = omega arith in
              let eq : Some (w, f) ≡ Some (u, g) = sym is ∙ (ap (slice_get lines) here ∙ at) in
              let pair : (w, f) ≡ (u, g) = cc in ne (ap (λ (x : Line). x.0) pair))
        ] in
        subst (λ o. IsOf lines o w) (sym (get_or-set_other now u w (Equation i) Source ne)) (was.marked k w f before_i is))
  ];
  others = λ w never. (
      let ne : w ≢ u = λ e. never i g (omega arith) (at ∙ ap (λ x. Some (x, g)) (sym e)) in
      get_or-set_other now u w (Equation i) Source ne ∙ was.others w (λ k f less is. never k f (omega arith) is));
}

-- an equation's formula, where its line is known
pub formula_here : (settings : List Setting) (k : ℕ) (d : Setting) (w : ℕ) (f : Formula) → slice_get (map line_of settings) k ≡ Some (w, f) → k < length settings → formula_of (get_or settings k d).expr ≡ f
formula_here settings k d w f at lt =
    let here : slice_get (map line_of settings) k ≡ Some (line_of (get_or settings k d)) = get_image line_of settings k (get_or settings k d) (slice_get-get_or settings k d lt) in
    let eq : Some (line_of (get_or settings k d)) ≡ Some (w, f) = sym here ∙ at in
    let pair : line_of (get_or settings k d) ≡ (w, f) = cc in
    ap (λ (x : Line). x.1) pair

pub line_within : (settings : List Setting) (k w : ℕ) (f : Formula) → slice_get (map line_of settings) k ≡ Some (w, f) → k < length settings
line_within settings k w f at = let lt = slice_get_within (map line_of settings) k (w, f) at in let long = length-map settings line_of in omega arith

pub port_bits : (ports : List Port) (k : ℕ) (d : Port) → k < length ports → bits_of_port ports (Some k) ≡ (get_or ports k d).bits
port_bits [] k d lt = absurd (omega arith)
port_bits (p ∷ ps) zero d lt = append-nil p.bits
port_bits (p ∷ ps) (suc k) d lt = port_bits ps k d (omega arith)

pub unread : (d : Driver) → is_source d ≡ true → (v : ℕ) → reads_now d v ≡ false
unread (d_input n) h v = refl
unread (d_register n next) h v = refl
unread (d_equation f) h v = absurd (true≢false (sym h))
unread d_clock h v = refl
unread d_nothing h v = refl

-- of which kind a driver is
abbrev is_equation : Driver → Bool
is_equation (d_equation f) = true
is_equation _ = false

abbrev is_low : Driver → Bool
is_low d_clock = true
is_low _ = false

module _ (net : PlainNet) (well : WellFormed net) where
  of_line : (o : Origin) (w : ℕ) → IsOf net.lines o w → Tells net o w
  of_line Source w h = absurd h
  of_line (Equation k) w h = h
  of_line Clock w h = absurd h

  pub origins_are : (all low marked : List Origin) → length all ≡ length net.wires → ((w : ℕ) → w < length net.wires → origin_at all w ≡ Source)
      → HasMarkedClock (clock_bits net) all low → HasMarkedEquations net.lines low marked → AreOrigins net marked
  origins_are all low marked long sources clock lines = record {
    one_each = lines.as_many ∙ (clock.as_many ∙ long);
    tells = λ w lt. go w lt (driver net w) refl (is_driven net well w lt);
  }
    where
      no_line : (w : ℕ) (d : Driver) → driver net w ≡ d → is_equation d ≡ false → origin_at marked w ≡ origin_at low w
      no_line w d is other = lines.others w (λ k f at. true≢false (ap is_equation (sym (is_driver net well (d_equation f) w (k, at)) ∙ is) ∙ other))

      no_clock : (w : ℕ) (d : Driver) → driver net w ≡ d → is_low d ≡ false → origin_at low w ≡ origin_at all w
      no_clock w d is other = clock.others w (λ k lt at. (
          let among : IsTrue (list_any (λ b. b == w) (clock_bits net)) = any_at (λ b. b == w) (clock_bits net) k (get_or (clock_bits net) k 0) (slice_get-get_or (clock_bits net) k 0 lt) (eq-eqb (get_or (clock_bits net) k 0) w at) in
          true≢false (ap is_low (sym (is_driver net well d_clock w among) ∙ is) ∙ other)))

      source : (w : ℕ) → w < length net.wires → (d : Driver) → driver net w ≡ d → is_equation d ≡ false → is_low d ≡ false → is_source d ≡ true → Tells net (origin_at marked w) w
      source w lt d is line low_no from =
          let o : Source ≡ origin_at marked w = sym (no_line w d is line ∙ (no_clock w d is low_no ∙ sources w lt)) in
          subst (λ x. Tells net x w) o (ap is_source is ∙ from)

      go : (w : ℕ) → w < length net.wires → (d : Driver) → driver net w ≡ d → HasDriver net d w → Tells net (origin_at marked w) w
      go w lt (d_input n) is has = source w lt (d_input n) is refl refl refl
      go w lt (d_register n next) is has = source w lt (d_register n next) is refl refl refl
      go w lt (d_equation f) is has = of_line (origin_at marked w) w (lines.marked has.0 w f has.1)
      go w lt d_clock is has =
          let place = place_of_any (λ b. b == w) (clock_bits net) has in
          let at : get_or (clock_bits net) place.0 0 ≡ w = get_or_from_slice_get (clock_bits net) place.0 place.1 0 place.2 ∙ eqb-true place.1 w place.3 in
          let o : Clock ≡ origin_at marked w = sym (no_line w d_clock is refl ∙ (sym (ap (origin_at low) at) ∙ clock.marked place.0 (slice_get_within (clock_bits net) place.0 place.1 place.2))) in
          subst (λ x. Tells net x w) o is
      go w lt d_nothing is has = absurd has

  pub told_source : (o : Origin) (w : ℕ) → Tells net o w → comes_from_source o ≡ is_source (driver net w)
  told_source Source w h = sym h
  told_source (Equation k) w h = sym (ap is_source (is_driver net well (d_equation h.0) w (k, h.1)))
  told_source Clock w h = sym (ap is_source h)

  pub told_line : (k w : ℕ) → Tells net (Equation k) w → (f : Formula) × (slice_get net.lines k ≡ Some (w, f)) × (driver net w ≡ d_equation f) × IsTrue (reads_below (length net.wires) f)
  told_line k w h = (
    h.0,
    h.1,
    is_driver net well (d_equation h.0) w (k, h.1),
    (all_of_one (λ (l : Line). (l.0 < length net.wires) × IsTrue (reads_below (length net.wires) l.1)) net.lines k (w, h.0) (lines_fit net well) h.1).1,
  )
