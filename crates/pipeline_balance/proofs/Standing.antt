-- The ports of a masked net stand apart, and each is one that a masked net may have.
use Rattle.std.proofs.Common.{◌≡◌, ◌<◌, ◌≤◌, ◌+◌, ◌^◌, ◌++◌, ℕ, zero, suc, Bool, true, false, cond, List, [], ◌∷◌, map, filter, flat_map, drop, codes, IsTrue, refl, sym, ap, subst, inl, inr, ◌∙◌, arith, append_assoc}
use Rattle.std.specs.Prelude.{nat_eq}
use Rattle.std.specs.List.{AllByRecursion, starts_with, range_with_len}
use Rattle.std.specs.Fmt.{decimal}
use Rattle.std.proofs.lemmas.Bool.{both_ways}
use Rattle.agm_net.specs.Plain.{PlainNet, is_input, bit_names, select_name, data_ports}
use Rattle.agm_net.specs.Role.{share_name, state_name}
use Rattle.agm_net.specs.Label.{IsUserName}
use Rattle.agm_net.specs.Writable.{is_graphic, IsWritable}
use Rattle.agm_net.specs.declared.port.Port.{Port}
use Rattle.agm_net.proofs.Lists.{all_from, all_joined}
use Rattle.share_wiring.specs.Built.{IsNew, IsPortName, IsSmallRange}
use Rattle.share_wiring.specs.Recombine.{is_shared}
use Rattle.share_wiring.specs.Shape.{Header, header_of, one_input, input_of_width, indices, masked_headers, headers_of}
use Rattle.share_wiring.specs.declared.report.Report.{Report}
use Rattle.share_wiring.proofs.Digits.{decimal_graphic}
use Rattle.share_wiring.proofs.DrivenRows.{all_flat, always}
use Rattle.share_wiring.proofs.Lists.{all_in_range, all_both}
use Rattle.share_wiring.proofs.Names.{names_apart}
use Rattle.pipeline_balance.specs.Apart.{Apart, AreApart, IsHeader, HasNames, FitsLimits}
use Rattle.pipeline_balance.specs.Entered.{entered_headers}
use Rattle.pipeline_balance.specs.Sublists.{IsSublist, kept}
use Rattle.pipeline_balance.proofs.Beside.{apart_back, sublist_apart}
use Rattle.pipeline_balance.proofs.Families.{class, IsOf, IsAt, IsUnder, IsShare, under_at, other_class, other_share, share_of, share_bits, shares_new, of_wider, apart_families, is_of, free_of, all_numbers, all_chosen, all_width, all_images, joined_apart, lower_behind, width_apart, states_apart, wide_header}
use Rattle.pipeline_balance.proofs.Originally.{ports_apart}
use Rattle.pipeline_balance.proofs.Sublists.{of_sublist, whole, sublists_joined, sublist_of_each, sublist_of_images, sublist_filtered, sublist_but}

-- the port of a share
abbrev share_header : Port → ℕ → Header
share_header p i = record { name = share_name i p.name; way = p.way; range = p.range }

-- ---- names

pub user_name : (name : List ℕ) → starts_with nat_eq name (codes "agm_") ≡ false → IsUserName name
user_name name free rest e =
    let begins : starts_with nat_eq name (codes "agm_") ≡ true = ap (λ n. starts_with nat_eq n (codes "agm_")) e in
    both_ways (starts_with nat_eq name (codes "agm_")) free begins

state_writable : (i : ℕ) → i < 2 ^ 64 → IsWritable (state_name i)
state_writable i small = (omega arith, (refl, (refl, (refl, (refl, (refl, (refl, (refl, decimal_graphic i small))))))))

share_writable : (i : ℕ) (x : List ℕ) → i < 2 ^ 64 → IsWritable x → IsWritable (share_name i x)
share_writable i x small h =
    (omega arith, (refl, (refl, (refl, (refl, (refl, all_joined (λ b. IsTrue (is_graphic b)) (decimal i) (95 ∷ x) (decimal_graphic i small) (refl, h.1)))))))

module _ (report : Report) (fits : FitsLimits report) where
  few : report.order + 1 ≤ 16
  few = let limit = fits.order.1 in omega (arith, limit)

  abbrev States : List Header
  States = flat_map (λ i. input_of_width (state_name i) report.secret_registers) (indices report.order)

  -- ---- shares of one port, and of two

  abbrev Masked : Port → List Header
  Masked p = masked_headers report p

  some_shares : (p : Port) (a n : ℕ) → a + n ≤ 16 → AreApart (map (share_header p) (range_with_len a n))
  some_shares p a zero small = tt
  some_shares p a (suc n) small = (
    all_images (Apart (share_header p a)) (share_header p) (range_with_len (a + 1) n)
        (all_numbers (λ i. Apart (share_header p a) (share_header p i)) (a + 1) n
        (λ i le lt. apart_families (IsShare a) (IsShare i) (other_share a i (omega arith) (omega arith) (λ e. (let same = e in omega arith))) (share_header p a) (share_header p i) (share_of a p.name p.way p.range) (share_of i p.name p.way p.range))),
    some_shares p (a + 1) n (omega arith),
  )

  masked_apart : (p : Port) → AreApart (Masked p)
  masked_apart p = by (is_shared report p.name)
    where
      by : (b : Bool) → AreApart (cond b (map (share_header p) (indices report.order)) (header_of p ∷ []))
      by true = some_shares p 0 (report.order + 1) (omega (arith, few))
      by false = (tt, tt)

  shares_of_two : (p q : Port) (i j : ℕ) → i < 2 ^ 64 → j < 2 ^ 64 → Apart (header_of p) (header_of q) → Apart (share_header p i) (share_header q j)
  shares_of_two p q i j hi hj apart = (
      let bits = shares_new i j hi hj (bit_names p.name p.range) (bit_names q.name q.range) apart.bits in
      record {
        names = λ e. apart.names (names_apart i j p.name q.name hi hj e).1;
        bits = subst (λ xs. AllByRecursion (IsNew xs) (bit_names (share_name j q.name) q.range)) (sym (share_bits i p.name p.range))
            (subst (AllByRecursion (IsNew (map (share_name i) (bit_names p.name p.range)))) (sym (share_bits j q.name q.range)) bits);
      })

  share_class : (p : Port) (i : ℕ) → IsOf (IsAt 1) (share_header p i)
  share_class p i = of_wider (IsShare i) (IsAt 1) (λ name s. ap class s.1) (share_header p i) (share_of i p.name p.way p.range)

  abbrev IsFree : Port → Type 0
  IsFree p = starts_with nat_eq p.name (codes "agm_") ≡ false

  abbrev zero_under : (name : List ℕ) → IsAt 0 name → IsUnder 1 name
  zero_under = under_at 0 1 (omega arith)

  share_and_public : (p q : Port) (i : ℕ) → IsFree q → Apart (share_header p i) (header_of q)
  share_and_public p q i free =
      apart_families (IsAt 1) (IsUnder 1) (other_class 1) (share_header p i) (header_of q) (share_class p i) (of_wider (IsAt 0) (IsUnder 1) zero_under (header_of q) (free_of (header_of q) free))

  two_masked : (p q : Port) → IsFree p → IsFree q → Apart (header_of p) (header_of q) → AllByRecursion (λ g. AllByRecursion (Apart g) (Masked q)) (Masked p)
  two_masked p q pf qf apart =
      all_chosen (λ g. AllByRecursion (Apart g) (Masked q)) (is_shared report p.name) (map (share_header p) (indices report.order)) (header_of p ∷ [])
      (λ yes. all_in_range (λ g. AllByRecursion (Apart g) (Masked q)) (share_header p) 0 (report.order + 1)
      (λ i lt. all_chosen (Apart (share_header p i)) (is_shared report q.name) (map (share_header q) (indices report.order)) (header_of q ∷ [])
      (λ both. all_in_range (Apart (share_header p i)) (share_header q) 0 (report.order + 1) (λ j less. shares_of_two p q i j (omega (arith, lt, few)) (omega (arith, less, few)) apart))
      (λ one. (share_and_public p q i qf, tt))))
      (λ no. (
        all_chosen (Apart (header_of p)) (is_shared report q.name) (map (share_header q) (indices report.order)) (header_of q ∷ [])
            (λ other. all_in_range (Apart (header_of p)) (share_header q) 0 (report.order + 1) (λ j less. apart_back (share_header q j) (header_of p) (share_and_public q p j pf)))
            (λ none. (apart, tt)),
        tt,
      ))

  -- ---- the ports of the original's ports

  one_before : (p : Port) (qs : List Port) → IsFree p → AllByRecursion IsFree qs → AllByRecursion (Apart (header_of p)) (map header_of qs)
      → AllByRecursion (λ g. AllByRecursion (Apart g) (flat_map Masked qs)) (Masked p)
  one_before p [] pf free apart = always (λ g. Unit {0}) (λ g. tt) (Masked p)
  one_before p (q ∷ qs) pf free apart =
      all_both (λ g. AllByRecursion (Apart g) (Masked q)) (λ g. AllByRecursion (Apart g) (flat_map Masked qs)) (λ g. AllByRecursion (Apart g) (flat_map Masked (q ∷ qs)))
      (λ g here there. all_joined (Apart g) (Masked q) (flat_map Masked qs) here there)
      (Masked p) (two_masked p q pf free.0 apart.0) (one_before p qs pf free.1 apart.1)

  all_masked : (ports : List Port) → AllByRecursion IsFree ports → AreApart (map header_of ports) → AreApart (flat_map Masked ports)
  all_masked [] free apart = tt
  all_masked (p ∷ ps) free apart = joined_apart (Masked p) (flat_map Masked ps) (masked_apart p) (all_masked ps free.1 apart.1) (one_before p ps free.0 free.1 apart.0)

  masked_low : (ports : List Port) → AllByRecursion IsFree ports → AllByRecursion (IsOf (IsUnder 2)) (flat_map Masked ports)
  masked_low ports free =
      all_flat (IsOf (IsUnder 2)) Masked ports
      (all_from IsFree (λ p. AllByRecursion (IsOf (IsUnder 2)) (Masked p))
      (λ p is. all_chosen (IsOf (IsUnder 2)) (is_shared report p.name) (map (share_header p) (indices report.order)) (header_of p ∷ [])
      (λ yes. all_in_range (IsOf (IsUnder 2)) (share_header p) 0 (report.order + 1) (λ i lt. of_wider (IsAt 1) (IsUnder 2) (under_at 1 2 (omega arith)) (share_header p i) (share_class p i)))
      (λ no. (of_wider (IsAt 0) (IsUnder 2) (under_at 0 2 (omega arith)) (header_of p) (free_of (header_of p) is), tt)))
      ports free)

  -- ---- all

  wide_at : (c : ℕ) (name : List ℕ) (n : ℕ) → IsAt c name → ((k : ℕ) → IsAt c (select_name name k)) → AllByRecursion (IsOf (IsAt c)) (input_of_width name n)
  wide_at c name n own selects = all_width (IsOf (IsAt c)) name n (λ m lt. is_of (IsAt c) (wide_header name m) own selects)

  states_at : AllByRecursion (IsOf (IsAt 2)) States
  states_at =
      all_flat (IsOf (IsAt 2)) (λ i. input_of_width (state_name i) report.secret_registers) (indices report.order)
      (all_numbers (λ i. AllByRecursion (IsOf (IsAt 2)) (input_of_width (state_name i) report.secret_registers)) 0 (report.order + 1)
      (λ i le lt. wide_at 2 (state_name i) report.secret_registers refl (λ k. refl)))

  pub shown_apart : (own : List Header) → AreApart own → AllByRecursion (IsOf (IsUnder 2)) own
      → AreApart (one_input (codes "agm_clk") ∷ one_input (codes "agm_load") ∷ (input_of_width (codes "agm_r") report.random ++ (input_of_width (codes "agm_q_p") report.public_registers ++ (States ++ own))))
  shown_apart own apart low =
      let randoms = input_of_width (codes "agm_r") report.random in
      let publics = input_of_width (codes "agm_q_p") report.public_registers in
      let clock = one_input (codes "agm_clk") in
      let load = one_input (codes "agm_load") in
      let two = lower_behind 2 States own states_at low (states_apart report.secret_registers 0 (report.order + 1) (omega (arith, few))) apart in
      let three = lower_behind 3 publics (States ++ own) (wide_at 3 (codes "agm_q_p") report.public_registers refl (λ k. refl)) two.1 (width_apart (codes "agm_q_p") report.public_registers) two.0 in
      let four = lower_behind 4 randoms (publics ++ (States ++ own)) (wide_at 4 (codes "agm_r") report.random refl (λ k. refl)) three.1 (width_apart (codes "agm_r") report.random) three.0 in
      let five = lower_behind 5 (load ∷ []) (randoms ++ (publics ++ (States ++ own))) (is_of (IsAt 5) load refl (λ k. refl), tt) four.1 (tt, tt) four.0 in
      let six = lower_behind 6 (clock ∷ []) (load ∷ (randoms ++ (publics ++ (States ++ own)))) (is_of (IsAt 6) clock refl (λ k. refl), tt) five.1 (tt, tt) five.0 in
      six.0

  -- ---- ports that a masked net may have

  wide_made : (name : List ℕ) (n : ℕ) → n ≤ 65536 → IsWritable name → IsPortName name → AllByRecursion IsHeader (input_of_width name n)
  wide_made name n small written port = all_width IsHeader name n (λ m lt. record { written = written; port_name = port; small = (omega arith, omega arith) })

  states_made : AllByRecursion IsHeader States
  states_made =
      all_flat IsHeader (λ i. input_of_width (state_name i) report.secret_registers) (indices report.order)
      (all_numbers (λ i. AllByRecursion IsHeader (input_of_width (state_name i) report.secret_registers)) 0 (report.order + 1)
      (λ i le lt. wide_made (state_name i) report.secret_registers fits.secrets (state_writable i (omega (arith, lt, few))) (inr (inr (inr (inr (i, (omega (arith, lt, few), inr refl))))))))

  abbrev IsNamed : Port → Type 0
  IsNamed p = IsFree p × IsWritable p.name × IsSmallRange p.range

  masked_made : (ports : List Port) → AllByRecursion IsNamed ports → AllByRecursion IsHeader (flat_map Masked ports)
  masked_made ports named =
      all_flat IsHeader Masked ports
      (all_from IsNamed (λ p. AllByRecursion IsHeader (Masked p))
      (λ p is. all_chosen IsHeader (is_shared report p.name) (map (share_header p) (indices report.order)) (header_of p ∷ [])
      (λ yes. all_in_range IsHeader (share_header p) 0 (report.order + 1)
      (λ i lt. record {
        written = share_writable i p.name (omega (arith, lt, few)) is.1;
        port_name = inr (inr (inr (inr (i, (omega (arith, lt, few), inl (p.name, is.1.0, refl))))));
        small = is.2;
      }))
      (λ no. (record { written = is.1; port_name = inl (user_name p.name is.0); small = is.2 }, tt)))
      ports named)

  pub shown_made : (own : List Header) → AllByRecursion IsHeader own
      → AllByRecursion IsHeader (one_input (codes "agm_load") ∷ (input_of_width (codes "agm_r") report.random ++ (input_of_width (codes "agm_q_p") report.public_registers ++ (States ++ own))))
  shown_made own made =
      let randoms = input_of_width (codes "agm_r") report.random in
      let publics = input_of_width (codes "agm_q_p") report.public_registers in (
        record { written = (omega arith, (refl, (refl, (refl, (refl, (refl, (refl, (refl, (refl, tt))))))))); port_name = inr (inl refl); small = tt },
        all_joined IsHeader randoms (publics ++ (States ++ own)) (wide_made (codes "agm_r") report.random fits.random (omega arith, (refl, (refl, (refl, (refl, (refl, tt)))))) (inr (inr (inl refl))))
            (all_joined IsHeader publics (States ++ own) (wide_made (codes "agm_q_p") report.public_registers fits.publics (omega arith, (refl, (refl, (refl, (refl, (refl, (refl, (refl, tt)))))))) (inr (inr (inr (inl refl)))))
            (all_joined IsHeader States own states_made made)),
      )

  module _ (original : PlainNet) (named : HasNames original) where
    data_free : AllByRecursion IsFree (data_ports original)
    data_free = of_sublist IsFree (data_ports original) original.ports (sublist_but original.clock original.ports) named.free

    data_named : AllByRecursion IsNamed (data_ports original)
    data_named =
        of_sublist IsNamed (data_ports original) original.ports (sublist_but original.clock original.ports)
        (all_both IsFree (λ p. IsWritable p.name × IsSmallRange p.range) IsNamed (λ p free rest. (free, rest.0, rest.1)) original.ports named.free
        (all_both (λ p. IsWritable p.name) (λ p. IsSmallRange p.range) (λ p. IsWritable p.name × IsSmallRange p.range) (λ p written small. (written, small)) original.ports named.written named.small))

    data_apart : AreApart (map header_of (data_ports original))
    data_apart =
        sublist_apart (map header_of (data_ports original)) (map header_of original.ports)
        (sublist_of_images header_of (data_ports original) original.ports (sublist_but original.clock original.ports)) (ports_apart original named.well)

    pub headers_apart : AreApart (headers_of original report)
    headers_apart = shown_apart (flat_map Masked (data_ports original)) (all_masked (data_ports original) data_free data_apart) (masked_low (data_ports original) data_free)

    pub headers_made : AllByRecursion IsHeader (drop 1 (headers_of original report))
    headers_made = shown_made (flat_map Masked (data_ports original)) (masked_made (data_ports original) data_named)

    -- the ports of the inputs are some of all
    abbrev Behind : List Header
    Behind = one_input (codes "agm_load") ∷ (input_of_width (codes "agm_r") report.random ++ (input_of_width (codes "agm_q_p") report.public_registers ++ States))

    behind : (own : List Header) → Behind ++ own ≡ one_input (codes "agm_load") ∷ (input_of_width (codes "agm_r") report.random ++ (input_of_width (codes "agm_q_p") report.public_registers ++ (States ++ own)))
    behind own =
        let randoms = input_of_width (codes "agm_r") report.random in
        let publics = input_of_width (codes "agm_q_p") report.public_registers in
        ap (λ hs. one_input (codes "agm_load") ∷ hs) (append_assoc randoms (publics ++ States) own ∙ ap (λ hs. randoms ++ hs) (append_assoc publics States own))

    entered_behind : IsSublist (drop 1 (entered_headers original report)) (drop 1 (headers_of original report))
    entered_behind =
        subst (IsSublist (drop 1 (entered_headers original report))) (behind (flat_map Masked (data_ports original)))
        (sublists_joined Behind Behind (flat_map Masked (filter is_input (data_ports original))) (flat_map Masked (data_ports original)) (whole Behind)
        (sublist_of_each Masked (filter is_input (data_ports original)) (data_ports original) (sublist_filtered is_input (data_ports original))))

    pub entered_within : IsSublist (entered_headers original report) (headers_of original report)
    entered_within = kept entered_behind

    pub entered_apart : AreApart (entered_headers original report)
    entered_apart = sublist_apart (entered_headers original report) (headers_of original report) entered_within headers_apart

    pub entered_made : AllByRecursion IsHeader (drop 1 (entered_headers original report))
    entered_made = of_sublist IsHeader (drop 1 (entered_headers original report)) (drop 1 (headers_of original report)) entered_behind headers_made
