-- What stays the same where one equation of a net is inverted.
use Rattle.std.proofs.Common.{◌≡◌, ◌+◌, ◌==◌, ℕ, Bool, not, ◌&&◌, cond, List, [], ◌∷◌, map, filter, flat_map, length, nat_lt, count_by, refl, sym, ap, ap₂, ◌∙◌, inl, inr}
use Rattle.std.specs.List.{list_all}
use Rattle.std.proofs.lemmas.Bool.{and_parts, and_from, cases_Bool}
use Rattle.std.proofs.lemmas.List.Sums.{sum_by-cons}
use Rattle.agm_net.specs.Formula.{value, stands, reads_below}
use Rattle.agm_net.specs.Plain.{Line, PlainNet, is_input}
use Rattle.agm_net.specs.WellFormed.{WellFormed}
use Rattle.share_wiring.specs.Inverted.{inverted_line, inverted_at}

-- the value of an equation that may be inverted
pub inverted_value : (bit : ℕ → Bool) (u : ℕ) (l : Line) → value bit (inverted_line u l).1 ≡ cond (l.0 == u) (not (value bit l.1)) (value bit l.1)
inverted_value bit u l = elim (cases_Bool (l.0 == u)) [ inl is ↦ rw is refl | inr is ↦ rw is refl ]

-- the wires that stand in it
pub stands_same : (w u : ℕ) (l : Line) → stands w (inverted_line u l).1 ≡ stands w l.1
stands_same w u l = elim (cases_Bool (l.0 == u)) [ inl is ↦ rw is refl | inr is ↦ rw is refl ]

-- whether they are below a number
below_same : (n u : ℕ) (l : Line) → reads_below n (inverted_line u l).1 ≡ reads_below n l.1
below_same n u l = elim (cases_Bool (l.0 == u)) [ inl is ↦ rw is refl | inr is ↦ rw is refl ]

-- the numbers of all equations
fit_same : (n u : ℕ) (lines : List Line) → list_all (λ l. nat_lt l.0 n && reads_below n l.1) (map (inverted_line u) lines) ≡ list_all (λ l. nat_lt l.0 n && reads_below n l.1) lines
fit_same n u [] = refl
fit_same n u (l ∷ ls) = ap₂ (λ b c. (nat_lt l.0 n && b) && c) (below_same n u l) (fit_same n u ls)

-- how many equations a wire has
as_many : (w u : ℕ) (lines : List Line) → count_by (λ l. l.0 == w) (map (inverted_line u) lines) ≡ count_by (λ l. l.0 == w) lines
as_many w u [] = refl
as_many w u (l ∷ ls) =
    sum_by-cons (λ k. cond (k.0 == w) 1 0) (inverted_line u l) (map (inverted_line u) ls)
    ∙ (ap (λ n. cond (l.0 == w) 1 0 + n) (as_many w u ls) ∙ sym (sum_by-cons (λ k. cond (k.0 == w) 1 0) l ls))

-- a net stays a net
pub inverted_well_formed : (u : ℕ) (net : PlainNet) → WellFormed net → WellFormed (inverted_at u net)
inverted_well_formed u net well =
    let n = length net.wires in
    let lines_are = list_all (λ l. nat_lt l.0 n && reads_below n l.1) net.lines in
    let registers_are = list_all (λ r. nat_lt r.q n && (reads_below n r.next && nat_lt r.clock n)) net.registers in
    let parts = and_parts lines_are registers_are well.in_range in
    record {
      in_range = and_from _ registers_are (fit_same n u net.lines ∙ parts.0) parts.1;
      ports_right = record {
        ports_differ = well.ports_right.ports_differ;
        bits_named = well.ports_right.bits_named;
        one_port = well.ports_right.one_port;
        clock_fits = well.ports_right.clock_fits;
      };
      wires_differ = well.wires_differ;
      one_driver = λ w lt.
          ap (λ k. count_by (λ b. b == w) (flat_map (λ p. p.bits) (filter is_input net.ports)) + (k + count_by (λ r. r.q == w) net.registers)) (as_many w u net.lines)
          ∙ well.one_driver w lt;
    }
