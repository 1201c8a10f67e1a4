-- The run of a net, cycle by cycle.
use Rattle.std.proofs.Common.{◌≡◌, ◌<◌, ◌+◌, ◌++◌, ◌∷◌, [], ℕ, zero, suc, Bool, List, length, length-append, map, take, get_or, refl, sym, ap, ap₂, ◌∙◌, subst, arith}
use Rattle.std.specs.List.{All, AllByRecursion, range_with_len}
use Rattle.std.proofs.lemmas.List.{get_or-take, length-take, take_more}
use Rattle.agm_net.specs.Loop.{HasNoLoop}
use Rattle.agm_net.specs.Plain.{PlainNet, input_bits}
use Rattle.agm_net.specs.Run.{Fits, bit_in, run_of}
use Rattle.agm_net.specs.Trace.{Row, IsTrace, bit_at}
use Rattle.agm_net.specs.WellFormed.{WellFormed}
use Rattle.agm_net.proofs.Traces as traces
use Rattle.probe_cones.specs.Observing.{wires_in}

pub map_range : {X : Type 0} (f g : ℕ → X) (a n : ℕ) → ((w : ℕ) → w < a + n → f w ≡ g w) → map f (range_with_len a n) ≡ map g (range_with_len a n)
map_range f g a zero same = refl
map_range f g a (suc n) same = ap₂ (λ x xs. x ∷ xs) (same a (omega arith)) (map_range f g (a + 1) n (λ w lt. same w (omega (arith, lt))))

all_taken : (P : Row → Type 0) (rows : List Row) (n : ℕ) → All P rows → AllByRecursion P (take n rows)
all_taken P rows zero all = tt
all_taken P [] (suc n) all = tt
all_taken P (row ∷ rows) (suc n) all = (all 0 row (omega arith), all_taken P rows n (λ k d lt. all (suc k) d (omega (arith, lt))))

pub row_more : {X : Type 0} (xs : List X) (i : ℕ) (x : X) → i < length xs → x ≡ get_or xs i x → take (i + 1) xs ≡ take i xs ++ x ∷ []
row_more xs i x lt is = take_more xs i x lt ∙ ap (λ y. take i xs ++ y ∷ []) (sym is)

pub fits_so_far : (net : PlainNet) (power : Row) (tape : List Row) (i : ℕ) (row : Row) → length power ≡ length net.registers
    → All (λ r. length r ≡ length (input_bits net)) tape → i < length tape → row ≡ get_or tape i row → Fits net power (take i tape ++ row ∷ [])
fits_so_far net power tape i row powered wide lt is = record {
  powered = powered;
  as_wide = subst (AllByRecursion (λ r. length r ≡ length (input_bits net))) (row_more tape i row lt is) (all_taken (λ r. length r ≡ length (input_bits net)) tape (i + 1) wide);
}

module _ (net : PlainNet) (well : WellFormed net) (none : HasNoLoop net) (power : Row) where
  pub value_in : (before : List Row) (last : Row) (v : Bool) (w : ℕ) → Fits net power (before ++ last ∷ []) → w < length net.wires
      → ((table : List Row) → IsTrace net power (before ++ last ∷ []) table → v ≡ bit_at table (length before) w) → v ≡ bit_in net power (before ++ last ∷ []) (length before) w
  value_in before last v w fits inside told =
      let tape : List Row = before ++ last ∷ [] in
      let long : length tape ≡ length before + 1 = length-append before (last ∷ []) in
      told (run_of net power tape) (traces.run_is_trace net well none power tape fits) ∙ traces.run_bits net well none power tape (length before) w (omega (arith, long)) inside

  same_so_far : (tape : List Row) (i w : ℕ) → w < length net.wires → bit_in net power (take (i + 1) tape) i w ≡ bit_in net power tape i w
  same_so_far tape i w inside = traces.looks_back net well none power (take (i + 1) tape) tape i (λ s le. get_or-take (i + 1) tape s [] (omega (arith, le))) i w (omega arith) inside

  pub row_now : (tape : List Row) (i : ℕ) (row : Row) → i < length tape → row ≡ get_or tape i row → wires_in net power (take i tape ++ row ∷ []) (length (take i tape)) ≡ wires_in net power tape i
  row_now tape i row lt is =
      let long : length (take i tape) ≡ i = length-take i tape ∙ omega (arith, lt) in
      ap₂ (wires_in net power) (sym (row_more tape i row lt is)) long
      ∙ map_range (bit_in net power (take (i + 1) tape) i) (bit_in net power tape i) 0 (length net.wires) (λ w inside. same_so_far tape i w (omega (arith, inside)))
