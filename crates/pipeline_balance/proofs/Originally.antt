-- The ports of a net stand apart.
use Rattle.std.proofs.Common.{◌≡◌, ◌≢◌, ◌<◌, ◌≤◌, ◌+◌, ◌==◌, ℕ, suc, List, [], ◌∷◌, Some, map, flat_map, count_by, slice_get, length, refl, sym, ap, subst, inl, inr, ◌∙◌, arith, eq-eqb}
use Rattle.std.specs.List.{AllByRecursion}
use Rattle.std.proofs.lemmas.Bool.{cases_lt, cases_eq}
use Rattle.std.proofs.lemmas.Option.{slice_get_within}
use Rattle.agm_net.specs.Plain.{PlainNet, bit_names}
use Rattle.agm_net.specs.WellFormed.{WellFormed, Differ}
use Rattle.agm_net.specs.declared.port.Port.{Port}
use Rattle.agm_net.proofs.Lists.{all_from, all_places, count_yes, count_more, count_append}
use Rattle.share_wiring.specs.Built.{HasItsBits, uses}
use Rattle.share_wiring.specs.Shape.{header_of}
use Rattle.pipeline_balance.specs.Apart.{Apart, AreApart}
use Rattle.pipeline_balance.proofs.Families.{none_common}

module _ (wires : List (List ℕ)) (differ : Differ wires) where
  -- a name that a wire among these has
  abbrev IsBit : List ℕ → List ℕ → Type 0
  IsBit bits name = (w : ℕ) × (1 ≤ count_by (λ b. b == w) bits) × (slice_get wires w ≡ Some name)

  bits_have : (bits : List ℕ) (names : List (List ℕ)) → map (slice_get wires) bits ≡ map (λ name. Some name) names → AllByRecursion (IsBit bits) names
  bits_have [] [] e = tt
  bits_have [] (n ∷ ns) e = absurd (cc)
  bits_have (b ∷ bs) [] e = absurd (cc)
  bits_have (b ∷ bs) (n ∷ ns) e =
      let head : slice_get wires b ≡ Some n = cc in
      let tail : map (slice_get wires) bs ≡ map (λ name. Some name) ns = cc in
      let one = count_yes (λ c. c == b) b bs (eq-eqb b b refl) in (
        (b, omega (arith, one), head),
        all_from (IsBit bs) (IsBit (b ∷ bs)) (λ name has. (let more = count_more (λ c. c == has.0) b bs in let some = has.1 in (has.0, omega (arith, more, some), has.2))) ns (bits_have bs ns tail),
      )

  one_wire : (v w : ℕ) (name : List ℕ) → slice_get wires v ≡ Some name → slice_get wires w ≡ Some name → v ≡ w
  one_wire v w name at there =
      let in_v = slice_get_within wires v name at in
      let in_w = slice_get_within wires w name there in
      elim (cases_eq v w) [
        | inl same ↦ same
        | inr other ↦ elim (cases_lt v w) [
          | inl less ↦ absurd (differ v w less in_w (at ∙ sym there))
          | inr more ↦ absurd (differ w v (omega (arith, more, other)) in_v (there ∙ sym at))
        ]
      ]

  -- one port before others
  one_before : (p : Port) (qs : List Port) → HasItsBits wires p → AllByRecursion (HasItsBits wires) qs
      → ((n : ℕ) → n < length (map (λ q. q.name) qs) → Some p.name ≢ slice_get (map (λ q. q.name) qs) n)
      → ((w : ℕ) → count_by (λ b. b == w) p.bits + uses qs w ≤ 1) → AllByRecursion (Apart (header_of p)) (map header_of qs)
  one_before p [] own have other once = tt
  one_before p (q ∷ qs) own have other once = (
    record {
      names = λ e. other 0 (omega arith) (ap (λ x. Some x) e);
      bits = none_common (IsBit p.bits) (IsBit q.bits)
          (λ a b here there e. (
          let same = one_wire here.0 there.0 b (subst (λ n. slice_get wires here.0 ≡ Some n) e here.2) there.2 in
          let first = here.1 in
          let second : 1 ≤ count_by (λ c. c == here.0) q.bits = subst (λ w. 1 ≤ count_by (λ c. c == w) q.bits) (sym same) there.1 in
          let all = count_append (λ c. c == here.0) q.bits (flat_map (λ r. r.bits) qs) in
          let most = once here.0 in
          omega (arith, first, second, all, most)))
          (bit_names p.name p.range) (bit_names q.name q.range) (bits_have p.bits (bit_names p.name p.range) own) (bits_have q.bits (bit_names q.name q.range) have.0);
    },
    one_before p qs own have.1 (λ n lt. other (suc n) (omega arith))
        (λ w. (let all = count_append (λ c. c == w) q.bits (flat_map (λ r. r.bits) qs) in let most = once w in omega (arith, all, most))),
  )

  all_apart : (ports : List Port) → Differ (map (λ p. p.name) ports) → AllByRecursion (HasItsBits wires) ports → ((w : ℕ) → uses ports w ≤ 1) → AreApart (map header_of ports)
  all_apart [] names have once = tt
  all_apart (p ∷ ps) names have once = (
    one_before p ps have.0 have.1 (λ n lt. names 0 (suc n) (omega arith) (omega arith))
        (λ w. (let all = count_append (λ c. c == w) p.bits (flat_map (λ r. r.bits) ps) in let most = once w in omega (arith, all, most))),
    all_apart ps (λ v w lt within. names (suc v) (suc w) (omega arith) (omega arith)) have.1
        (λ w. (let all = count_append (λ c. c == w) p.bits (flat_map (λ r. r.bits) ps) in let most = once w in omega (arith, all, most))),
  )

pub ports_apart : (net : PlainNet) → WellFormed net → AreApart (map header_of net.ports)
ports_apart net well =
    all_apart net.wires well.wires_differ net.ports well.ports_right.ports_differ
    (all_places (HasItsBits net.wires) net.ports (λ n p at. well.ports_right.bits_named n p at)) well.ports_right.one_port
