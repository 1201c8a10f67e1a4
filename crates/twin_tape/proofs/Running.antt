-- The second world's run, cycle by cycle.
use Rattle.std.proofs.Common.{◌≡◌, ◌<◌, ◌≤◌, ◌+◌, ◌++◌, ◌∷◌, [], ℕ, zero, suc, Bool, false, List, length, map, max, get_or, set, slice_index_or, refl, sym, ap, ap₂, ◌∙◌, subst, arith}
use Rattle.std.specs.List.{All, range_with_len}
use Rattle.std.proofs.lemmas.List.{get_or-set_same, get_or-set_other, length-set}
use Rattle.std.proofs.lemmas.List.Elements.{recursion_from_All}
use Rattle.std.proofs.lemmas.List.FromFn.{get_or-map-range_with_len, length-map-range_with_len, map-range_with_len_more}
use Rattle.agm_net.specs.Loop.{HasNoLoop}
use Rattle.agm_net.specs.Network.{Hpc2}
use Rattle.agm_net.specs.Plain.{PlainNet, data_ports, input_bits}
use Rattle.agm_net.specs.Run.{Fits, bit_in, run_of}
use Rattle.agm_net.specs.Trace.{Row, bit_at, row_at}
use Rattle.agm_net.specs.WellFormed.{WellFormed}
use Rattle.agm_net.specs.declared.label.Label.{Label}
use Rattle.agm_net.specs.declared.label.PartKind.TheVariants.{B as KB}
use Rattle.agm_net.proofs.Traces.{looks_back, run_bits}
use Rattle.probe_cones.specs.Inputs.{bit_roles, bit_with, joined, with_random}
use Rattle.probe_cones.specs.Observing.{flags_of, joined_by, joined_rows, wires_in}
use Rattle.probe_cones.proofs.Joined.{joined_is, tape_long, wide_rows}
use Rattle.twin_tape.specs.Permitted.{AreLabels}
use Rattle.twin_tape.specs.Tapes.{IsTape}
use Rattle.twin_tape.proofs.Causal.{depends_before}
use Rattle.twin_tape.proofs.Pairing.{In, ordered, own}
use Rattle.twin_tape.proofs.Parts.{part_sees}
use Rattle.twin_tape.proofs.Rules.{is_network}

-- a row that is put together is as wide as the net asks
pub row_wide : (net : PlainNet) (flags : List Bool) (others random : Row) → flags ≡ flags_of (data_ports net) → length (joined_by flags others random) ≡ length (input_bits net)
row_wide net flags others random are =
    ap (λ fs. length (joined_by fs others random)) are ∙ wide_rows net (others ∷ []) (random ∷ []) 1 0 [] (omega arith)

map_range : {X : Type 0} (f g : ℕ → X) (a n : ℕ) → ((w : ℕ) → w < a + n → f w ≡ g w) → map f (range_with_len a n) ≡ map g (range_with_len a n)
map_range f g a zero same = refl
map_range f g a (suc n) same = ap₂ (λ x xs. x ∷ xs) (same a (omega arith)) (map_range f g (a + 1) n (λ w lt. same w (omega (arith, lt))))

-- one row more of a tape
pub rows_more : (flags : List Bool) (second made : List Row) (t : ℕ) → joined_rows flags second made (t + 1) ≡ joined_rows flags second made t ++ joined_by flags (row_at second t) (row_at made t) ∷ []
rows_more flags second made t = map-range_with_len_more (λ s. joined_by flags (row_at second s) (row_at made s)) 0 t t (omega arith)

-- a tape of so many rows by its width
pub is_tape : (R : ℕ) (rows : List Row) → All (λ r. length r ≡ R) rows → IsTape R (length rows) rows
is_tape R [] all = tt
is_tape R (row ∷ rows) all = (all 0 row (omega arith), is_tape R rows (λ k d lt. all (suc k) d (omega (arith, lt))))

pub are_wide : (R T : ℕ) (rows : List Row) → IsTape R T rows → All (λ r. length r ≡ R) rows
are_wide R zero [] is k d lt = absurd (omega (arith, lt))
are_wide R zero (row ∷ rows) is k d lt = absurd is
are_wide R (suc T) [] is k d lt = absurd is
are_wide R (suc T) (row ∷ rows) is zero d lt = is.0
are_wide R (suc T) (row ∷ rows) is (suc k) d lt = are_wide R T rows is.1 k d (omega (arith, lt))

module _ (net : PlainNet) (d : ℕ) (well : WellFormed net) (hpc2 : Hpc2 net d) (label : ℕ → Label) (labels : AreLabels net d label) (power : Row) (powered : length power ≡ length net.registers)
    (flags : List Bool) (are : flags ≡ flags_of (data_ports net)) (second random twin : List Row) (T t : ℕ) (below : t < T) (second_long : length second ≡ T) (twin_long : length twin ≡ T) where
  -- the twin with the row of the random tape in the cycle
  abbrev drawn : List Row
  drawn = set twin t (row_at random t)

  drawn_before : (s : ℕ) → s < t → row_at drawn s ≡ row_at twin s
  drawn_before s lt = get_or-set_other twin t s (row_at random t) [] (λ e. omega (arith, lt, e))

  drawn_now : row_at drawn t ≡ row_at random t
  drawn_now = get_or-set_same twin t (row_at random t) [] (omega (arith, below, twin_long))

  abbrev pub tape_now : List Row
  tape_now = joined_rows flags second twin t ++ joined_by flags (row_at second t) (row_at random t) ∷ []

  tape_is : tape_now ≡ joined_rows flags second drawn (t + 1)
  tape_is =
      ap₂ (λ xs x. xs ++ x ∷ [])
      (map_range (λ s. joined_by flags (row_at second s) (row_at twin s)) (λ s. joined_by flags (row_at second s) (row_at drawn s)) 0 t (λ s lt. ap (joined_by flags (row_at second s)) (sym (drawn_before s (omega (arith, lt))))))
      (ap (joined_by flags (row_at second t)) (sym drawn_now))
      ∙ sym (rows_more flags second drawn t)

  pub fits : Fits net power tape_now
  fits = record {
    powered = powered;
    as_wide = recursion_from_All (λ r. length r ≡ length (input_bits net)) tape_now
        (subst (λ rows. All (λ r. length r ≡ length (input_bits net)) rows) (sym (tape_is ∙ ap (λ fs. joined_rows fs second drawn (t + 1)) are)) (wide_rows net second drawn (t + 1)));
  }

  -- in it the wires of a factor have what they have with the twin
  pub beside : (g h : ℕ) → In net d well hpc2 label labels g → h ≤ d
      → slice_index_or (wires_in net power tape_now (length (joined_rows flags second twin t))) ((own net d well hpc2 label labels).part g KB h 0) false
      ≡ bit_with net power second twin t ((own net d well hpc2 label labels).part g KB h 0)
  beside g h there le =
      let v = (own net d well hpc2 label labels).part g KB h 0 in
      let inside = (there KB h 0 (le, refl)).0 in
      let long : length (joined_rows flags second twin t) ≡ t = length-map-range_with_len (λ s. joined_by flags (row_at second s) (row_at twin s)) 0 t in
      ap₂ (λ k tape. slice_index_or (wires_in net power tape k) v false) long tape_is
      ∙ (get_or-map-range_with_len (bit_in net power (joined_rows flags second drawn (t + 1)) t) 0 (length net.wires) v v false inside (omega arith)
      ∙ (looks_back net well hpc2.no_loop power (joined_rows flags second drawn (t + 1)) (with_random net second drawn) t same_rows t v (omega arith) inside
      ∙ depends_before net (own net d well hpc2 label labels) d (is_network net d well hpc2) (ordered net d well hpc2 label labels) power second drawn twin t
      (λ s n lt. ap (λ row. slice_index_or row n false) (drawn_before s lt)) t v (omega arith) inside
      (part_sees net (own net d well hpc2 label labels) d (is_network net d well hpc2) (ordered net d well hpc2 label labels) (λ i. Unit {0}) g h 0 KB there (le, refl) tt)))
    where
      same_rows : (s : ℕ) → s ≤ t → get_or (joined_rows flags second drawn (t + 1)) s [] ≡ get_or (with_random net second drawn) s []
      same_rows s le =
          let wide = length-set twin t (row_at random t) in
          get_or-map-range_with_len (λ s. joined_by flags (row_at second s) (row_at drawn s)) 0 (t + 1) s s [] (omega (arith, le)) (omega arith)
          ∙ (ap (λ fs. joined_by fs (row_at second s) (row_at drawn s)) are ∙ (joined_is net (row_at second s) (row_at drawn s)
          ∙ sym (get_or-map-range_with_len (λ s. joined (bit_roles net) (row_at second s) (row_at drawn s)) 0 (max (length second) (length drawn)) s s [] (omega (arith, le, below, second_long)) (omega arith))))

-- the table of the first run has its bits
pub table_bits : (net : PlainNet) (well : WellFormed net) (none : HasNoLoop net) (power : Row) (first random table : List Row) (T : ℕ) → length first ≡ T → length random ≡ T
    → table ≡ run_of net power (with_random net first random) → (t v : ℕ) → t < T → v < length net.wires → bit_at table t v ≡ bit_with net power first random t v
table_bits net well none power first random table T first_long random_long is t v below inside =
    let long = tape_long net first random (first_long ∙ sym random_long) in
    ap (λ ls. bit_at ls t v) is ∙ run_bits net well none power (with_random net first random) t v (omega (arith, below, long, first_long)) inside
