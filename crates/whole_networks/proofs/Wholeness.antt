-- The nets that masking gives are whole: each share of a secret stands once among their input bits.
use Rattle.std.proofs.Common.{◌≡◌, ◌≢◌, ◌<◌, ◌≤◌, ◌+◌, ◌==◌, ◌^◌, ◌&&◌, ◌++◌, ◌⊎◌, ℕ, zero, suc, Bool, true, false, cond, bytes_eq, List, [], ◌∷◌, Option, Some, None, codes, map, drop, filter, flat_map, length, nat_eq, count_by, sum_by, refl, sym, ap, ap₂, subst, inl, inr, ◌∙◌, arith, eq-eqb, IsTrue}
use Rattle.std.specs.Fmt.{decimal}
use Rattle.std.specs.List.{AllByRecursion}
use Rattle.std.proofs.lemmas.Bool.{cases_Bool, cases_lt, and_from}
use Rattle.std.proofs.lemmas.List.Sums.{sum_by-cons}
use Rattle.std.proofs.lemmas.Option.{slice_get-get_or}
use Rattle.std.proofs.lemmas.Slice.Eq.{bytes_eq-Decides}
use Rattle.agm_net.specs.Label.{IsUserName}
use Rattle.agm_net.specs.Plain.{PlainNet, is_in, is_input, data_ports, ports_but}
use Rattle.agm_net.specs.Role.{share_name, state_name}
use Rattle.agm_net.specs.declared.port.Port.{Port}
use Rattle.agm_net.specs.declared.port.Way.TheVariants.{Input}
use Rattle.agm_net.proofs.Lists.{all_places, any_at, count_some}
use Rattle.probe_cones.specs.Shares.{share_of}
use Rattle.probe_cones.proofs.ShareNames.{share_found, share_text}
use Rattle.share_wiring.specs.Built.{AreDistinct}
use Rattle.share_wiring.specs.Recombine.{is_shared}
use Rattle.share_wiring.specs.Shape.{Header, header_of, indices, input_of_width, one_input, masked_headers, headers_of}
use Rattle.share_wiring.specs.declared.report.Report.{Report}
use Rattle.share_wiring.proofs.Lists.{row_once}
use Rattle.share_wiring.proofs.ShapePorts.{width, bit_count}
use Rattle.twin_tape.specs.Security.{IsWhole, is_the_share, role_at}
use Rattle.probe_cones.specs.Inputs.{Secret, same_secret, share_bit, open_bit, bit_roles, roles, port_roles}
use Rattle.whole_networks.specs.Whole.{HasUserName, IsMaskedNet}
use Rattle.whole_networks.proofs.Headers.{roles_are, roles_of, without_random, places, row_none, row_share, counted, one, counted_cons, counted_append, row_other, row_index}

-- ---- names

user_share : (name : List ℕ) → IsUserName name → share_of name ≡ None
user_share name user = go (share_of name) refl
  where
    go : (o : Option (ℕ × List ℕ)) → share_of name ≡ o → share_of name ≡ None
    go None e = e
    go (Some s) e = absurd (no (share_text name s e).1)
      where
        no : ((0 < length s.1) × (name ≡ share_name s.0 s.1)) ⊎ ((s.1 ≡ []) × (name ≡ state_name s.0)) → Prim.⊥
        no (inl h) = user (115 ∷ (decimal s.0 ++ 95 ∷ s.1)) h.1
        no (inr h) = user (113 ∷ 95 ∷ 115 ∷ decimal s.0) h.1

name_share : (i : ℕ) (y : List ℕ) → i < 2 ^ 32 → 0 < length y → share_of (share_name i y) ≡ Some (i, y)
name_share i y small some = share_found (share_name i y) (i, y) (small, inl (some, refl))

state_share : (i : ℕ) → i < 2 ^ 32 → share_of (state_name i) ≡ Some (i, [])
state_share i small = share_found (state_name i) (i, []) (small, inr (refl, refl))

-- ---- lists

singles : {X Y : Type 0} (f : X → Y) (xs : List X) → flat_map (λ z. f z ∷ []) xs ≡ map f xs
singles f [] = refl
singles f (z ∷ zs) = ap (λ ys. f z ∷ ys) (singles f zs)

nothing : {X Y : Type 0} (f : X → List Y) (xs : List X) → ((z : X) → f z ≡ []) → flat_map f xs ≡ []
nothing f [] none = refl
nothing f (z ∷ zs) none = ap (λ ys. ys ++ flat_map f zs) (none z) ∙ nothing f zs none

exchanged : (b c : Bool) (n : ℕ) → cond b (cond c n 0) 0 ≡ cond c (cond b n 0) 0
exchanged true true n = refl
exchanged true false n = refl
exchanged false true n = refl
exchanged false false n = refl

all_but_first : (P : Port → Type 0) (ports : List Port) → AllByRecursion P ports → AllByRecursion P (drop 1 ports)
all_but_first P [] h = tt
all_but_first P (p ∷ ps) h = h.1

but_first : (ports : List Port) → map header_of (drop 1 ports) ≡ drop 1 (map header_of ports)
but_first [] = refl
but_first (p ∷ ps) = refl

module _ (report : Report) (k : ℕ) (x : List ℕ) (q : ℕ) (few : report.order < 2 ^ 32) where
  -- what ports count for a share whose index is one of the order's
  abbrev port_sum : Port → ℕ
  port_sum p = cond (is_shared report p.name) (cond (bytes_eq p.name x) (cond (is_in p.way) (places k x q (width p.range)) 0) 0) 0

  abbrev state_sum : ℕ → ℕ
  state_sum zero = 0
  state_sum (suc n) = cond (bytes_eq [] x) (places k x q (width (Some (record { msb = n; lsb = 0 })))) 0

  -- ports that are no shares
  plain_width : (name : List ℕ) (n : ℕ) → share_of name ≡ None → counted k x q (input_of_width name n) ≡ 0
  plain_width name zero none = refl
  plain_width name (suc n) none =
      let h : Header = record { name = name; way = Input; range = Some (record { msb = n; lsb = 0 }) } in
      counted_cons k x q h [] ∙ ap (λ m. m + 0) (row_none k x q name 0 (width h.range) none)

  abbrev state : ℕ → ℕ → Header
  state n i = record { name = state_name i; way = Input; range = Some (record { msb = n; lsb = 0 }) }

  state_one : (n i : ℕ) → i ≤ report.order → one k x q (state n i) ≡ cond (nat_eq k i && bytes_eq [] x) (places k x q (width (Some (record { msb = n; lsb = 0 })))) 0
  state_one n i le = row_share k x q (state_name i) i [] 0 (width (Some (record { msb = n; lsb = 0 }))) (state_share i (omega (arith, le, few))) refl

  abbrev states : ℕ → List Header
  states w = flat_map (λ i. input_of_width (state_name i) w) (indices report.order)

  states_in : (w : ℕ) → k ≤ report.order → counted k x q (states w) ≡ state_sum w
  states_in zero le = ap (counted k x q) (nothing (λ i. input_of_width (state_name i) zero) (indices report.order) (λ i. refl))
  states_in (suc n) le =
      ap (counted k x q) (singles (state n) (indices report.order))
      ∙ row_index k x q (state n) (bytes_eq [] x) (places k x q (width (Some (record { msb = n; lsb = 0 })))) 0 (report.order + 1) (λ i low high. state_one n i (omega arith)) (omega arith) (omega arith)

  states_out : (w : ℕ) → report.order < k → counted k x q (states w) ≡ 0
  states_out zero lt = ap (counted k x q) (nothing (λ i. input_of_width (state_name i) zero) (indices report.order) (λ i. refl))
  states_out (suc n) lt =
      ap (counted k x q) (singles (state n) (indices report.order))
      ∙ row_other k x q (state n) (bytes_eq [] x) (places k x q (width (Some (record { msb = n; lsb = 0 })))) 0 (report.order + 1) (λ i low high. state_one n i (omega arith)) (λ i low high e. (let same = e in omega arith))

  abbrev share_header : Port → ℕ → Header
  share_header p i = record { name = share_name i p.name; way = p.way; range = p.range }

  share_one : (p : Port) (i : ℕ) → 0 < length p.name → i ≤ report.order → one k x q (share_header p i) ≡ cond (nat_eq k i && bytes_eq p.name x) (cond (is_in p.way) (places k x q (width p.range)) 0) 0
  share_one p i some le =
      ap (λ m. cond (is_in p.way) m 0) (row_share k x q (share_name i p.name) i p.name 0 (width p.range) (name_share i p.name (omega (arith, le, few)) some) refl)
      ∙ exchanged (is_in p.way) (nat_eq k i && bytes_eq p.name x) (places k x q (width p.range))

  port_public : (p : Port) → HasUserName p → is_shared report p.name ≡ false → counted k x q (masked_headers report p) ≡ 0
  port_public p user public =
      rw public (counted_cons k x q (header_of p) [] ∙ (let none = row_none k x q p.name 0 (width p.range) (user_share p.name user.0) in
      elim (cases_Bool (is_in p.way)) [ inl is ↦ rw is (ap (λ m. m + 0) none) | inr other ↦ rw other refl ]))

  port_in : (p : Port) → HasUserName p → k ≤ report.order → counted k x q (masked_headers report p) ≡ port_sum p
  port_in p user le =
      elim (cases_Bool (is_shared report p.name)) [
        | inl shared ↦ rw shared
            (row_index k x q (share_header p) (bytes_eq p.name x) (cond (is_in p.way) (places k x q (width p.range)) 0) 0 (report.order + 1) (λ i low high. share_one p i user.1 (omega arith)) (omega arith) (omega arith))
        | inr public ↦ port_public p user public ∙ rw public refl
      ]

  port_out : (p : Port) → HasUserName p → report.order < k → counted k x q (masked_headers report p) ≡ 0
  port_out p user lt =
      elim (cases_Bool (is_shared report p.name)) [
        | inl shared ↦ rw shared
            (row_other k x q (share_header p) (bytes_eq p.name x) (cond (is_in p.way) (places k x q (width p.range)) 0) 0 (report.order + 1) (λ i low high. share_one p i user.1 (omega arith)) (λ i low high e. (let same = e in omega arith)))
        | inr public ↦ port_public p user public
      ]

  ports_in : (ps : List Port) → AllByRecursion HasUserName ps → k ≤ report.order → counted k x q (flat_map (masked_headers report) ps) ≡ sum_by port_sum ps
  ports_in [] users le = refl
  ports_in (p ∷ ps) users le =
      counted_append k x q (masked_headers report p) (flat_map (masked_headers report) ps)
      ∙ (ap₂ (λ a b. a + b) (port_in p users.0 le) (ports_in ps users.1 le) ∙ sym (sum_by-cons port_sum p ps))

  ports_out : (ps : List Port) → AllByRecursion HasUserName ps → report.order < k → counted k x q (flat_map (masked_headers report) ps) ≡ 0
  ports_out [] users lt = refl
  ports_out (p ∷ ps) users lt =
      counted_append k x q (masked_headers report p) (flat_map (masked_headers report) ps) ∙ ap₂ (λ a b. a + b) (port_out p users.0 lt) (ports_out ps users.1 lt)

  -- all ports but the clock's
  all_headers : (original : PlainNet) → counted k x q (drop 1 (headers_of original report)) ≡ counted k x q (states report.secret_registers) + counted k x q (flat_map (masked_headers report) (data_ports original))
  all_headers original =
      let random = input_of_width (codes "agm_r") report.random in
      let publics = input_of_width (codes "agm_q_p") report.public_registers in
      let own = flat_map (masked_headers report) (data_ports original) in
      let load = one_input (codes "agm_load") in
      let first = counted_cons k x q load (random ++ (publics ++ (states report.secret_registers ++ own))) in
      let none : one k x q load ≡ 0 = row_none k x q (codes "agm_load") 0 1 refl in
      let second = counted_append k x q random (publics ++ (states report.secret_registers ++ own)) in
      let third = counted_append k x q publics (states report.secret_registers ++ own) in
      let fourth = counted_append k x q (states report.secret_registers) own in
      let no_random = plain_width (codes "agm_r") report.random refl in
      let no_public = plain_width (codes "agm_q_p") report.public_registers refl in
      first ∙ omega (arith, none, second, third, fourth, no_random, no_public)

  -- ---- no more than once

  none_of : (b d : Bool) (n : ℕ) → cond b (cond false (cond d n 0) 0) 0 ≡ 0
  none_of true d n = refl
  none_of false d n = refl

  ports_none : (ps : List Port) → AllByRecursion (λ y. x ≢ y) (map (λ p. p.name) ps) → sum_by port_sum ps ≡ 0
  ports_none [] h = refl
  ports_none (p ∷ ps) h =
      elim (cases_Bool (bytes_eq p.name x)) [
        | inl is ↦ absurd (h.0 (sym ((bytes_eq-Decides p.name x).0 is)))
        | inr other ↦ (
            let split = sum_by-cons port_sum p ps in
            let rest = ports_none ps h.1 in
            let here : port_sum p ≡ 0 = ap (λ b. cond (is_shared report p.name) (cond b (cond (is_in p.way) (places k x q (width p.range)) 0) 0) 0) other ∙ none_of (is_shared report p.name) (is_in p.way) (places k x q (width p.range)) in
            omega (arith, split, rest, here))
      ]

  small : (b c d : Bool) (n : ℕ) → n ≤ 1 → cond b (cond c (cond d n 0) 0) 0 ≤ 1
  small true true true n le = le
  small true true false n le = omega arith
  small true false d n le = omega arith
  small false c d n le = omega arith

  ports_once : (ps : List Port) → AreDistinct (map (λ p. p.name) ps) → sum_by port_sum ps ≤ 1
  ports_once [] h = omega arith
  ports_once (p ∷ ps) h =
      let split = sum_by-cons port_sum p ps in
      elim (cases_Bool (bytes_eq p.name x)) [
        | inl is ↦ (
            let same = (bytes_eq-Decides p.name x).0 is in
            let rest = ports_none ps (subst (λ name. AllByRecursion (λ y. name ≢ y) (map (λ r. r.name) ps)) same h.0) in
            let here = small (is_shared report p.name) (bytes_eq p.name x) (is_in p.way) (places k x q (width p.range)) (row_once 0 (width p.range) q) in
            omega (arith, split, rest, here))
        | inr other ↦ (
            let rest = ports_once ps h.1 in
            let here : port_sum p ≡ 0 = ap (λ b. cond (is_shared report p.name) (cond b (cond (is_in p.way) (places k x q (width p.range)) 0) 0) 0) other ∙ none_of (is_shared report p.name) (is_in p.way) (places k x q (width p.range)) in
            omega (arith, split, rest, here))
      ]

  state_once : (w : ℕ) → state_sum w ≤ 1
  state_once zero = omega arith
  state_once (suc n) = small true (bytes_eq [] x) true (places k x q (width (Some (record { msb = n; lsb = 0 })))) (row_once 0 (width (Some (record { msb = n; lsb = 0 }))) q)

  named : (ps : List Port) → x ≡ [] → AllByRecursion HasUserName ps → AllByRecursion (λ y. x ≢ y) (map (λ p. p.name) ps)
  named [] none users = tt
  named (p ∷ ps) none users = ((λ e. (let some = users.0.1 in let nothing_left = ap (λ (n : List ℕ). length n) (sym e ∙ none) in omega (arith, some, nothing_left))), named ps none users.1)

  once : (w : ℕ) (ps : List Port) → AllByRecursion HasUserName ps → AreDistinct (map (λ p. p.name) ps) → state_sum w + sum_by port_sum ps ≤ 1
  once zero ps users differ = let rest = ports_once ps differ in omega (arith, rest)
  once (suc n) ps users differ =
      elim (cases_Bool (bytes_eq [] x)) [
        | inl is ↦ (
            let none = ports_none ps (named ps (sym ((bytes_eq-Decides [] x).0 is)) users) in
            let one_at_most = state_once (suc n) in
            omega (arith, none, one_at_most))
        | inr other ↦ (
            let none : state_sum (suc n) ≡ 0 = ap (λ b. cond b (places k x q (width (Some (record { msb = n; lsb = 0 })))) 0) other in
            let rest = ports_once ps differ in
            omega (arith, none, rest))
      ]

module _ (original : PlainNet) (report : Report) (net : PlainNet) (masked : IsMaskedNet original report net) where
  abbrev ports : List Port
  ports = data_ports original

  by_headers : bit_roles net ≡ roles_of (drop 1 (headers_of original report))
  by_headers =
      let widths = all_places (λ p. length p.bits ≡ width p.range) net.ports (λ n p at. bit_count net masked.well n p at) in
      ap (λ clock. flat_map port_roles (filter is_input (ports_but clock net.ports))) masked.shape.clock
      ∙ (roles_are (drop 1 net.ports) (all_but_first (λ p. length p.bits ≡ width p.range) net.ports widths)
      ∙ ap roles_of (but_first net.ports ∙ ap (λ hs. drop 1 hs) masked.shape.headers))

  count_is : (k : ℕ) (s : Secret) → count_by (is_the_share k s) (roles net)
      ≡ counted k s.0 s.1 (states report k s.0 s.1 masked.few report.secret_registers) + counted k s.0 s.1 (flat_map (masked_headers report) ports)
  count_is k s = without_random k s (bit_roles net) ∙ (ap (count_by (is_the_share k s)) by_headers ∙ all_headers report k s.0 s.1 masked.few original)

  -- the count for each index of the order
  abbrev total : Secret → ℕ
  total s = state_sum report 0 s.0 s.1 masked.few report.secret_registers + sum_by (port_sum report 0 s.0 s.1 masked.few) ports

  count_in : (k : ℕ) (s : Secret) → k ≤ report.order → count_by (is_the_share k s) (roles net) ≡ total s
  count_in k s le = count_is k s ∙ ap₂ (λ a b. a + b) (states_in report k s.0 s.1 masked.few report.secret_registers le) (ports_in report k s.0 s.1 masked.few ports masked.users le)

  count_out : (k : ℕ) (s : Secret) → report.order < k → count_by (is_the_share k s) (roles net) ≡ 0
  count_out k s lt = count_is k s ∙ ap₂ (λ a b. a + b) (states_out report k s.0 s.1 masked.few report.secret_registers lt) (ports_out report k s.0 s.1 masked.few ports masked.users lt)

  total_once : (s : Secret) → total s ≤ 1
  total_once s = once report 0 s.0 s.1 masked.few report.secret_registers ports masked.users masked.differ

  itself : (i : ℕ) (s : Secret) → IsTrue (is_the_share i s (share_bit i s))
  itself i s = and_from (nat_eq i i) (same_secret s s) (eq-eqb i i refl) (and_from (bytes_eq s.0 s.0) (s.1 == s.1) ((bytes_eq-Decides s.0 s.0).1 refl) (eq-eqb s.1 s.1 refl))

  pub is_whole : IsWhole net report.order
  is_whole n i k s lt at le =
      let found = slice_get-get_or (roles net) n open_bit lt in
      let some = count_some (is_the_share i s) (roles net) (any_at (is_the_share i s) (roles net) n (role_at net n) found (ap (is_the_share i s) at ∙ itself i s)) in
      let most = total_once s in
      let wanted = count_in k s le in
      elim (cases_lt report.order i) [
        | inl past ↦ absurd (let none = count_out i s past in omega (arith, none, some))
        | inr within ↦ (let here = count_in i s (omega arith) in wanted ∙ omega (arith, here, some, most))
      ]
