-- How often a share of a secret stands among the input bits of ports, by their headers.
use Rattle.std.proofs.Common.{◌≡◌, ◌≢◌, ◌<◌, ◌≤◌, ◌+◌, ◌==◌, ◌&&◌, ◌++◌, ℕ, zero, suc, Bool, true, false, cond, bytes_eq, not, List, [], ◌∷◌, Some, None, codes, map, filter, flat_map, length, nat_eq, count_by, refl, sym, ap, ap₂, inl, inr, ◌∙◌, arith, eq-eqb, zero-add}
use Rattle.std.specs.List.{range_with_len, AllByRecursion}
use Rattle.std.proofs.lemmas.Bool.{cases_Bool, cases_eq, ne_eqb}
use Rattle.std.proofs.lemmas.List.Sums.{sum_by-cons}
use Rattle.agm_net.specs.Plain.{is_in, is_input}
use Rattle.agm_net.specs.declared.port.Port.{Port}
use Rattle.agm_net.proofs.Lists.{count_append, count_no}
use Rattle.probe_cones.specs.Shares.{share_of}
use Rattle.share_wiring.specs.Shape.{Header, header_of}
use Rattle.share_wiring.proofs.ShapePorts.{width}
use Rattle.twin_tape.specs.Security.{is_the_share}
use Rattle.probe_cones.specs.Inputs.{Secret, BitRole, random_bit, share_bit, open_bit, bit_role, port_roles, is_random}

-- the roles of the bits of input ports with these headers
abbrev pub header_in : Header → Bool
header_in h = is_in h.way

abbrev pub header_roles : Header → List BitRole
header_roles h = map (bit_role h.name) (range_with_len 0 (width h.range))

abbrev pub roles_of : List Header → List BitRole
roles_of hs = flat_map header_roles (filter header_in hs)

pub roles_are : (ports : List Port) → AllByRecursion (λ p. length p.bits ≡ width p.range) ports → flat_map port_roles (filter is_input ports) ≡ roles_of (map header_of ports)
roles_are [] h = refl
roles_are (p ∷ ps) h =
    elim (cases_Bool (is_in p.way)) [
      | inl is ↦ rw is (ap₂ (λ xs ys. xs ++ ys) (ap (λ n. map (bit_role p.name) (range_with_len 0 n)) h.0) (roles_are ps h.1))
      | inr other ↦ rw other (roles_are ps h.1)
    ]

-- random bits are no shares
pub without_random : (k : ℕ) (s : Secret) (roles : List BitRole) → count_by (is_the_share k s) (filter (λ r. not (is_random r)) roles) ≡ count_by (is_the_share k s) roles
without_random k s [] = refl
without_random k s (random_bit ∷ rs) = without_random k s rs ∙ sym (count_no (is_the_share k s) random_bit rs refl)
without_random k s (open_bit ∷ rs) =
    count_no (is_the_share k s) open_bit (filter (λ r. not (is_random r)) rs) refl ∙ (without_random k s rs ∙ sym (count_no (is_the_share k s) open_bit rs refl))
without_random k s (share_bit i x ∷ rs) =
    sum_by-cons (λ r. cond (is_the_share k s r) 1 0) (share_bit i x) (filter (λ r. not (is_random r)) rs)
    ∙ (ap (λ n. cond (is_the_share k s (share_bit i x)) 1 0 + n) (without_random k s rs) ∙ sym (sum_by-cons (λ r. cond (is_the_share k s r) 1 0) (share_bit i x) rs))

module _ (k : ℕ) (x : List ℕ) (q : ℕ) where
  abbrev the : BitRole → Bool
  the = is_the_share k (x, q)

  -- the places that are the secret's, of so many
  abbrev pub places : ℕ → ℕ
  places n = count_by (λ p. p == q) (range_with_len 0 n)

  no_share : (name : List ℕ) (a : ℕ) → share_of name ≡ None → the (bit_role name a) ≡ false
  no_share name a none = rw none (elim (cases_Bool (bytes_eq name (codes "agm_r"))) [ inl is ↦ rw is refl | inr other ↦ rw other refl ])

  pub row_none : (name : List ℕ) (a n : ℕ) → share_of name ≡ None → count_by the (map (bit_role name) (range_with_len a n)) ≡ 0
  row_none name a zero none = refl
  row_none name a (suc n) none = count_no the (bit_role name a) (map (bit_role name) (range_with_len (a + 1) n)) (no_share name a none) ∙ row_none name (a + 1) n none

  a_share : (name : List ℕ) (i : ℕ) (y : List ℕ) (a : ℕ) → share_of name ≡ Some (i, y) → bytes_eq name (codes "agm_r") ≡ false → the (bit_role name a) ≡ nat_eq k i && (bytes_eq y x && (a == q))
  a_share name i y a is other = rw other (rw is refl)

  pub row_share : (name : List ℕ) (i : ℕ) (y : List ℕ) (a n : ℕ) → share_of name ≡ Some (i, y) → bytes_eq name (codes "agm_r") ≡ false
      → count_by the (map (bit_role name) (range_with_len a n)) ≡ cond (nat_eq k i && bytes_eq y x) (count_by (λ p. p == q) (range_with_len a n)) 0
  row_share name i y a n is other = go (nat_eq k i) refl (bytes_eq y x) refl a n
    where
      go : (b : Bool) → nat_eq k i ≡ b → (c : Bool) → bytes_eq y x ≡ c → (a n : ℕ) → count_by the (map (bit_role name) (range_with_len a n)) ≡ cond (b && c) (count_by (λ p. p == q) (range_with_len a n)) 0
      go true e true f a zero = refl
      go true e true f a (suc n) =
          let role : the (bit_role name a) ≡ (a == q) = a_share name i y a is other ∙ (ap (λ b. b && (bytes_eq y x && (a == q))) e ∙ ap (λ c. c && (a == q)) f) in
          sum_by-cons (λ r. cond (the r) 1 0) (bit_role name a) (map (bit_role name) (range_with_len (a + 1) n))
          ∙ (ap₂ (λ b m. cond b 1 0 + m) role (go true e true f (a + 1) n) ∙ sym (sum_by-cons (λ p. cond (p == q) 1 0) a (range_with_len (a + 1) n)))
      go true e false f a zero = refl
      go true e false f a (suc n) =
          let role : the (bit_role name a) ≡ false = a_share name i y a is other ∙ (ap (λ b. b && (bytes_eq y x && (a == q))) e ∙ ap (λ c. c && (a == q)) f) in
          count_no the (bit_role name a) (map (bit_role name) (range_with_len (a + 1) n)) role ∙ go true e false f (a + 1) n
      go false e c f a zero = refl
      go false e c f a (suc n) =
          let role : the (bit_role name a) ≡ false = a_share name i y a is other ∙ ap (λ b. b && (bytes_eq y x && (a == q))) e in
          count_no the (bit_role name a) (map (bit_role name) (range_with_len (a + 1) n)) role ∙ go false e c f (a + 1) n

  -- ---- headers

  abbrev pub counted : List Header → ℕ
  counted hs = count_by the (roles_of hs)

  abbrev pub one : Header → ℕ
  one h = cond (header_in h) (count_by the (header_roles h)) 0

  pub counted_cons : (h : Header) (hs : List Header) → counted (h ∷ hs) ≡ one h + counted hs
  counted_cons h hs =
      elim (cases_Bool (header_in h)) [
        | inl is ↦ rw is (count_append the (header_roles h) (roles_of hs))
        | inr other ↦ rw other (sym (zero-add (counted hs)))
      ]

  pub counted_append : (hs gs : List Header) → counted (hs ++ gs) ≡ counted hs + counted gs
  counted_append [] gs = sym (zero-add (counted gs))
  counted_append (h ∷ hs) gs =
      let first = counted_cons h (hs ++ gs) in
      let rest = counted_append hs gs in
      let again = counted_cons h hs in
      omega (arith, first, rest, again)

  -- ports of all indices in a row, those of one of which count
  module _ (f : ℕ → Header) (b : Bool) (c : ℕ) where
    pub row_other : (a n : ℕ) → ((i : ℕ) → a ≤ i → i < a + n → one (f i) ≡ cond (nat_eq k i && b) c 0) → ((i : ℕ) → a ≤ i → i < a + n → k ≢ i) → counted (map f (range_with_len a n)) ≡ 0
    row_other a zero h apart = refl
    row_other a (suc n) h apart =
        let other : nat_eq k a ≡ false = ne_eqb k a (apart a (omega arith) (omega arith)) in
        let here : one (f a) ≡ 0 = h a (omega arith) (omega arith) ∙ ap (λ e. cond (e && b) c 0) other in
        let rest = row_other (a + 1) n (λ i le lt. h i (omega arith) (omega arith)) (λ i le lt. apart i (omega arith) (omega arith)) in
        let both = counted_cons (f a) (map f (range_with_len (a + 1) n)) in
        omega (arith, both, here, rest)

    pub row_index : (a n : ℕ) → ((i : ℕ) → a ≤ i → i < a + n → one (f i) ≡ cond (nat_eq k i && b) c 0) → a ≤ k → k < a + n → counted (map f (range_with_len a n)) ≡ cond b c 0
    row_index a zero h le lt = absurd (omega arith)
    row_index a (suc n) h le lt =
        let both = counted_cons (f a) (map f (range_with_len (a + 1) n)) in
        elim (cases_eq k a) [
          | inl same ↦ (
              let is : nat_eq k a ≡ true = eq-eqb k a same in
              let here : one (f a) ≡ cond b c 0 = h a (omega arith) (omega arith) ∙ ap (λ e. cond (e && b) c 0) is in
              let rest = row_other (a + 1) n (λ i le lt. h i (omega arith) (omega arith)) (λ i ge lt e. (let equal = e in omega arith)) in
              omega (arith, both, here, rest))
          | inr other ↦ (
              let differs = other in
              let not_here : nat_eq k a ≡ false = ne_eqb k a other in
              let here : one (f a) ≡ 0 = h a (omega arith) (omega arith) ∙ ap (λ e. cond (e && b) c 0) not_here in
              let rest = row_index (a + 1) n (λ i le lt. h i (omega arith) (omega arith)) (omega arith) (omega arith) in
              omega (arith, both, here, rest))
        ]
