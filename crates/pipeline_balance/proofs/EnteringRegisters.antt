-- The ports of registers' initial values.
use Rattle.std.proofs.Common.{◌≡◌, ◌<◌, ◌≤◌, ◌+◌, ◌-◌, ◌++◌, ℕ, zero, suc, Bool, true, false, List, [], ◌∷◌, Some, codes, length, map, replicate, refl, sym, ap, ap₂, subst, inl, inr, ◌∙◌, arith, flat_map, append_assoc}
use Rattle.std.specs.Prelude.{reverse}
use Rattle.std.specs.List.{AllByRecursion, range_with_len}
use Rattle.std.proofs.lemmas.List.{length-map, length-replicate, length-reverse, map-append}
use Rattle.agm_net.specs.Plain.{PlainNet, bit_names}
use Rattle.agm_net.specs.Role.{state_name, IsOfShare}
use Rattle.agm_net.specs.Trace.{Row}
use Rattle.agm_net.specs.declared.port.Range.{Range}
use Rattle.agm_net.proofs.Named.{length-names}
use Rattle.share_wiring.specs.Own.{upto}
use Rattle.share_wiring.specs.Recombine.{port_value, recombined_rows}
use Rattle.share_wiring.specs.Shape.{header_of, input_of_width, indices}
use Rattle.share_wiring.specs.Wiring.{Wiring}
use Rattle.share_wiring.specs.declared.report.Report.{Report}
use Rattle.share_wiring.proofs.Lists.{flat_map_nothing, all_front, all_back}
use Rattle.pipeline_balance.specs.declared.values.Value.{Value}
use Rattle.pipeline_balance.specs.Masked.{merged, initial_values}
use Rattle.pipeline_balance.specs.Ports.{input_header, row_of, value_row}
use Rattle.pipeline_balance.specs.Valued.{is_secret, IsValue, signal}
use Rattle.pipeline_balance.specs.Entering.{IsOwn, Enters, HasPublicBits, named_headers, shared_row, state_headers, where_any, public_row, state_row, register_headers, merged_values}
use Rattle.pipeline_balance.proofs.EnteringPorts.{rows_agree}
use Rattle.pipeline_balance.proofs.EnteringSteps.{enters_none, enters_more, enters_as, still}
use Rattle.pipeline_balance.proofs.EnteringInputs.{by_range, row_upto, headers_upto}
use Rattle.pipeline_balance.proofs.Merging.{secret_count, public_count, Suffice, map_reverse, all_reverse, merged_all, merged_told, merged_kinds, all_kinds, public_taken, secret_taken}

-- ---- ports with so many bits

abbrev pub fallen : ℕ → Range
fallen count = record { msb = count - 1; lsb = 0 }

pub width_header : (name : List ℕ) (count : ℕ) → 1 ≤ count → input_of_width name count ≡ input_header (Some (fallen count)) name ∷ []
width_header name zero some = absurd (omega arith)
width_header name (suc m) some = let one : m ≡ suc m - 1 = omega arith in ap (λ k. input_header (Some (record { msb = k; lsb = 0 })) name ∷ []) one

pub width_bits : (name : List ℕ) (count : ℕ) → 1 ≤ count → length (bit_names name (Some (fallen count))) ≡ count
width_bits name count some = let many = length-names name (fallen count) in omega (arith, many, some)

any_is : (count : ℕ) (row : Row) → 1 ≤ count → where_any count row ≡ row
any_is zero row some = absurd (omega arith)
any_is (suc m) row some = refl

-- ---- the public registers

pub state_public : HasPublicBits (codes "agm_q_p")
state_public bit own = inl (inr (inl own))

pub no_publics : (n : ℕ) (net : Wiring) (count : ℕ) (values : List (Value n)) → count ≡ 0 → values ≡ [] → Enters n net net (input_of_width (codes "agm_q_p") count) (replicate count false) (public_row count) values
no_publics n net count values none empty =
    subst (λ k. Enters n net net (input_of_width (codes "agm_q_p") k) (replicate k false) (public_row k) values) (sym none)
    (subst (Enters n net net [] [] (public_row 0)) (sym empty) (enters_none n net))

pub some_publics : (n : ℕ) (old now : Wiring) (count : ℕ) (values : List (Value n)) → 1 ≤ count
    → Enters n old now (input_header (Some (fallen count)) (codes "agm_q_p") ∷ []) (replicate (length (bit_names (codes "agm_q_p") (Some (fallen count)))) false) (λ net bit. port_value net (codes "agm_q_p") bit) values
    → Enters n old now (input_of_width (codes "agm_q_p") count) (replicate count false) (public_row count) values
some_publics n old now count values some made =
    enters_as n old now _ _ _ _ (λ net bit. port_value net (codes "agm_q_p") bit) (public_row count) values values
    (sym (width_header (codes "agm_q_p") count some)) (ap (λ k. replicate k false) (width_bits (codes "agm_q_p") count some))
    (λ net bit. any_is count (port_value net (codes "agm_q_p") bit) some) refl made

-- ---- the secret ones

pub of_state : (n : ℕ) → n ≤ 16 → (i : ℕ) → i < n → IsOfShare i (row_of (upto n state_name) i)
of_state n small i lt = subst (IsOfShare i) (sym (row_upto n i state_name lt)) (omega (arith, lt, small), inr refl)

one_each : (count : ℕ) (xs : List ℕ) → 1 ≤ count → flat_map (λ i. input_of_width (state_name i) count) xs ≡ map (λ i. input_header (Some (fallen count)) (state_name i)) xs
one_each count [] some = refl
one_each count (x ∷ xs) some = ap₂ (λ hs gs. hs ++ gs) (width_header (state_name x) count some) (one_each count xs some)

pub states_are : (n count : ℕ) → 2 ≤ n → 1 ≤ count → state_headers n count ≡ named_headers (Some (fallen count)) (upto n state_name)
states_are n count many some =
    let all : n - 1 + 1 ≡ n = omega (arith, many) in
    ap (λ k. flat_map (λ i. input_of_width (state_name i) count) (range_with_len 0 k)) all
    ∙ (one_each count (range_with_len 0 n) some
    ∙ (by_range n (λ i. input_header (Some (fallen count)) (state_name i))
    ∙ sym (headers_upto n (Some (fallen count)) state_name)))

pub no_states : (n : ℕ) (net : Wiring) (count : ℕ) (values : List (Value n)) → count ≡ 0 → values ≡ [] → Enters n net net (state_headers n count) (replicate count true) (state_row n count) values
no_states n net count values none empty =
    subst (λ k. Enters n net net (state_headers n k) (replicate k true) (state_row n k) values) (sym none)
    (subst (λ hs. Enters n net net hs [] (state_row n 0) values) (sym (flat_map_nothing (λ i. input_of_width (state_name i) 0) (indices (n - 1)) (λ i. refl)))
    (subst (Enters n net net [] [] (state_row n 0)) (sym empty) (enters_none n net)))

pub some_states : (n : ℕ) (old now : Wiring) (count : ℕ) (values : List (Value n)) → 2 ≤ n → 1 ≤ count
    → Enters n old now (named_headers (Some (fallen count)) (upto n state_name)) (replicate (length (bit_names [] (Some (fallen count)))) true) (shared_row n (upto n state_name)) values
    → Enters n old now (state_headers n count) (replicate count true) (state_row n count) values
some_states n old now count values many some made =
    enters_as n old now _ _ _ _ (shared_row n (upto n state_name)) (state_row n count) values values
    (sym (states_are n count many some)) (ap (λ k. replicate k true) (width_bits [] count some))
    (λ net bit.
    any_is count (recombined_rows (n - 1) (λ i. port_value net (state_name i) bit)) some
    ∙ rows_agree (n - 1) (λ i. port_value net (state_name i) bit) (λ i. port_value net (row_of (upto n state_name) i) bit)
    (λ i le. ap (λ x. port_value net x bit) (sym (row_upto n i state_name (omega (arith, le, many))))))
    refl made

-- ---- all registers

module _ (n : ℕ) (report : Report) (order : report.order + 1 ≡ n) (secrets : List Bool) where
  pub register_parts : input_of_width (codes "agm_q_p") report.public_registers ++ state_headers n report.secret_registers ≡ register_headers report
  register_parts =
      let one : n - 1 ≡ report.order = omega (arith, order) in
      ap (λ d. input_of_width (codes "agm_q_p") report.public_registers ++ flat_map (λ i. input_of_width (state_name i) report.secret_registers) (indices d)) one

  module _ (old mid now : Wiring) (publics : report.public_registers ≡ public_count secrets) (shared : report.secret_registers ≡ secret_count secrets) (ps ss : List (Value n)) (first : Enters n old mid (input_of_width (codes "agm_q_p") report.public_registers) (replicate report.public_registers false) (public_row report.public_registers) ps) (second : Enters n mid now (state_headers n report.secret_registers) (replicate report.secret_registers true) (state_row n report.secret_registers) ss) where
    pub count_publics : length ps ≡ public_count secrets
    count_publics = sym (length-map ps is_secret) ∙ (ap length first.kinds_are ∙ (length-replicate report.public_registers false ∙ publics))

    pub count_states : length ss ≡ secret_count secrets
    count_states = sym (length-map ss is_secret) ∙ (ap length second.kinds_are ∙ (length-replicate report.secret_registers true ∙ shared))

    suffice : Suffice secrets (reverse ps) (reverse ss)
    suffice = (sym (length-reverse ps ∙ count_publics), sym (length-reverse ss ∙ count_states))

    both : Enters n old now (input_of_width (codes "agm_q_p") report.public_registers ++ state_headers n report.secret_registers)
        (replicate report.public_registers false ++ replicate report.secret_registers true)
        (λ net bit. public_row report.public_registers net bit ++ state_row n report.secret_registers net bit) (ps ++ ss)
    both = enters_more n old mid now _ _ _ _ (public_row report.public_registers) (state_row n report.secret_registers) ps ss first second

    told : (net : PlainNet) → AllByRecursion (IsOwn net) (first.made ++ second.made) → (bits : ℕ → ℕ → Bool) (t : ℕ)
        → initial_values secrets report net (bits t) ≡ value_row n bits t (merged_values secrets (reverse ps) (reverse ss))
    told net own bits t =
        let one : report.order ≡ n - 1 = omega (arith, order) in
        let A = port_value net (codes "agm_q_p") (bits t) in
        let B = recombined_rows (n - 1) (λ i. port_value net (state_name i) (bits t)) in
        let row : List (Value n) → Row = value_row n bits t in
        ap (λ d. merged secrets (reverse A) (reverse (recombined_rows d (λ i. port_value net (state_name i) (bits t))))) one
        ∙ (public_taken secrets report.public_registers A (row ps) (reverse B) publics (first.told net (all_front (IsOwn net) first.made second.made own) bits t)
        ∙ (secret_taken secrets report.secret_registers (reverse (row ps)) B (row ss) shared (second.told net (all_back (IsOwn net) first.made second.made own) bits t)
        ∙ (ap₂ (merged secrets) (sym (map_reverse (λ v. signal n bits v t) ps)) (sym (map_reverse (λ v. signal n bits v t) ss))
        ∙ merged_told n bits t secrets (reverse ps) (reverse ss) suffice)))

    pub registers_enter : Enters n old now (register_headers report) secrets (initial_values secrets report) (merged_values secrets (reverse ps) (reverse ss))
    registers_enter = record {
      made = first.made ++ second.made;
      ports = second.ports ∙ (ap (λ qs. qs ++ second.made) first.ports ∙ append_assoc old.ports first.made second.made);
      headers_are = map-append header_of first.made second.made ∙ (ap₂ (λ hs gs. hs ++ gs) first.headers_are second.headers_are ∙ register_parts);
      extends = both.extends;
      sources = merged_all n (IsValue n now) secrets (reverse ps) (reverse ss)
          (all_reverse (IsValue n now) ps (still n mid now second.extends ps first.sources)) (all_reverse (IsValue n now) ss second.sources);
      kinds_are = merged_kinds n secrets (reverse ps) (reverse ss) suffice
          (all_reverse (λ v. is_secret v ≡ false) ps (all_kinds n false ps report.public_registers first.kinds_are))
          (all_reverse (λ v. is_secret v ≡ true) ss (all_kinds n true ss report.secret_registers second.kinds_are));
      told = told;
      begun = both.begun;
      given = both.given;
      sound = both.sound;
    }
