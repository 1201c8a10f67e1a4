-- The secrets of a net and its graph, by the secret wires.
use Rattle.std.proofs.Common.{◌≡◌, ◌≢◌, ◌<◌, ◌+◌, ◌==◌, ◌++◌, ℕ, zero, suc, Bool, true, false, not, ◌&&◌, ◌||◌, ◌↔◌, cond, List, [], ◌∷◌, length, map, filter, take, drop, slice_get, get_or, Some, None, Option, IsTrue, refl, sym, ap, ap₂, ◌∙◌, subst, arith, inl, inr, eq-eqb}
use Rattle.std.specs.List.{list_any, flat_map, zip, Any}
use Rattle.std.proofs.lemmas.Bool.{cases_Bool, eqb-true, or_cases, or_left, or_right, and_parts, and_from, lt-ltb}
use Rattle.std.proofs.lemmas.List.Folds.{list_any-append}
use Rattle.std.proofs.lemmas.List.{length-map}
use Rattle.std.proofs.lemmas.Option.{slice_get_within, slice_get-get_or, get_or_from_slice_get}
use Rattle.agm_net.specs.Formula.{Formula, f_zero, f_one, f_wire, f_not, f_and, f_or, f_xor, f_mux, stands}
use Rattle.agm_net.specs.Plain.{Line, Stored, PlainNet, is_in, is_input, ports_but, input_bits, clock_bits, stored_of}
use Rattle.agm_net.specs.Loop.{reads, HasNoLoop, IsRanked}
use Rattle.agm_net.specs.Secret.{is_secure, is_secure_bit, depends, IsSecret}
use Rattle.agm_net.specs.WellFormed.{WellFormed}
use Rattle.agm_net.specs.Run.{Driver, d_input, d_clock, d_equation, d_register, d_nothing, HasDriver, driver, reads_ever}
use Rattle.agm_net.specs.declared.expr.Register.{Register}
use Rattle.agm_net.specs.declared.mark.Mark.{Mark}
use Rattle.agm_net.specs.declared.mark.Mark.TheVariants.{Unmarked, Secure, Public, Clock}
use Rattle.agm_net.specs.declared.port.Way.{Way}
use Rattle.agm_net.specs.declared.port.Way.TheVariants as way
use Rattle.agm_net.specs.declared.port.Port.{Port}
use Rattle.agm_net.proofs.Lists.{any_at, place_of_any, found_of_all}
use Rattle.agm_net.proofs.Driving.{is_driven, is_driver, reads_are_wires}
use Rattle.agm_net.proofs.Ranks.{ranked}
use Rattle.logic_graph.specs.Operators.{operators}
use Rattle.logic_graph.specs.declared.nodes.Node.{Node}
use Rattle.logic_graph.specs.declared.nodes.Node.TheVariants.{Zero, One, Input, Q, Not, Xor, And, Or, Mux}
use Rattle.logic_graph.specs.declared.graphs.Graph.{Graph}
use Rattle.logic_graph.specs.GraphOf.{Stands, HasNode, drawing_of, IsGraphOf}
use Rattle.logic_graph.specs.Settled.{bit_of}
use Rattle.secrecy_spread.specs.declared.secrets.Secrets.{Secrets}
use Rattle.secrecy_spread.specs.NodeSecrets.{AreNodeSecrets}
use Rattle.secrecy_spread.specs.Wires.{AreWireSecrets, flags_of, has_source, is_shared, is_leak, is_public, NoneBelow, IsFirst}
use Rattle.secrecy_spread.specs.Clock.{ClockIsOpen}
use Rattle.secrecy_spread.specs.Found.{IsFound}
use Rattle.secrecy_spread.specs.SecretsOf.{TellsWires, IsSharedPort, SecretsOf}
use Rattle.secrecy_spread.specs.Leaks.{Leaks, NoneLeaks, IsFirstLeak, TellsPort}

-- whether a secret wire stands in a formula
abbrev pub secret_in : (ℕ → Bool) → Formula → Bool
secret_in at f_zero = false
secret_in at f_one = false
secret_in at (f_wire w) = at w
secret_in at (f_not x) = secret_in at x
secret_in at (f_and x y) = secret_in at x || secret_in at y
secret_in at (f_or x y) = secret_in at x || secret_in at y
secret_in at (f_xor x y) = secret_in at x || secret_in at y
secret_in at (f_mux s x y) = secret_in at s || (secret_in at x || secret_in at y)

abbrev Found : (ℕ → Bool) → Formula → Type 0
Found at f = (v : ℕ) × IsTrue (stands v f) × IsTrue (at v)

found_two : (at : ℕ → Bool) (f x y : Formula) → ((v : ℕ) → stands v f ≡ (stands v x || stands v y)) → (IsTrue (secret_in at x) → Found at x) → (IsTrue (secret_in at y) → Found at y)
    → IsTrue (secret_in at x || secret_in at y) → Found at f
found_two at f x y is left right h = elim (or_cases (secret_in at x) (secret_in at y) h) [
  | inl one ↦ (let l = left one in (l.0, is l.0 ∙ or_left (stands l.0 x) (stands l.0 y) l.1, l.2))
  | inr two ↦ (let r = right two in (r.0, is r.0 ∙ or_right (stands r.0 x) (stands r.0 y) r.1, r.2))
]

pub found_in : (at : ℕ → Bool) (f : Formula) → IsTrue (secret_in at f) → Found at f
found_in at f_zero h = absurd (cc)
found_in at f_one h = absurd (cc)
found_in at (f_wire u) h = (u, eq-eqb u u refl, h)
found_in at (f_not x) h = found_in at x h
found_in at (f_and x y) h = found_two at (f_and x y) x y (λ v. refl) (found_in at x) (found_in at y) h
found_in at (f_or x y) h = found_two at (f_or x y) x y (λ v. refl) (found_in at x) (found_in at y) h
found_in at (f_xor x y) h = found_two at (f_xor x y) x y (λ v. refl) (found_in at x) (found_in at y) h
found_in at (f_mux s x y) h = elim (or_cases (secret_in at s) (secret_in at x || secret_in at y) h) [
  | inl one ↦ (let l = found_in at s one in (l.0, or_left (stands l.0 s) (stands l.0 x || stands l.0 y) l.1, l.2))
  | inr two ↦ (let r = found_two at (f_and x y) x y (λ v. refl) (found_in at x) (found_in at y) two in (r.0, or_right (stands r.0 s) (stands r.0 x || stands r.0 y) r.1, r.2))
]

in_two : (at : ℕ → Bool) (x y : Formula) (v : ℕ) → (IsTrue (stands v x) → IsTrue (secret_in at x)) → (IsTrue (stands v y) → IsTrue (secret_in at y)) → IsTrue (stands v x || stands v y) → IsTrue (secret_in at x || secret_in at y)
in_two at x y v left right h = elim (or_cases (stands v x) (stands v y) h) [
  | inl one ↦ or_left (secret_in at x) (secret_in at y) (left one)
  | inr two ↦ or_right (secret_in at x) (secret_in at y) (right two)
]

in_formula : (at : ℕ → Bool) (f : Formula) (v : ℕ) → IsTrue (at v) → IsTrue (stands v f) → IsTrue (secret_in at f)
in_formula at f_zero v is h = absurd (cc)
in_formula at f_one v is h = absurd (cc)
in_formula at (f_wire u) v is h = ap at (eqb-true u v h) ∙ is
in_formula at (f_not x) v is h = in_formula at x v is h
in_formula at (f_and x y) v is h = in_two at x y v (in_formula at x v is) (in_formula at y v is) h
in_formula at (f_or x y) v is h = in_two at x y v (in_formula at x v is) (in_formula at y v is) h
in_formula at (f_xor x y) v is h = in_two at x y v (in_formula at x v is) (in_formula at y v is) h
in_formula at (f_mux s x y) v is h = elim (or_cases (stands v s) (stands v x || stands v y) h) [
  | inl one ↦ or_left (secret_in at s) (secret_in at x || secret_in at y) (in_formula at s v is one)
  | inr two ↦ or_right (secret_in at s) (secret_in at x || secret_in at y) (in_two at x y v (in_formula at x v is) (in_formula at y v is) two)
]

pub same_bool : (a b : Bool) → (IsTrue a → IsTrue b) → (IsTrue b → IsTrue a) → a ≡ b
same_bool true b f g = sym (f refl)
same_bool false true f g = g refl
same_bool false false f g = refl

-- flags that agree on the wires of a formula say the same of it
same_in : (x y : ℕ → Bool) (f : Formula) → ((v : ℕ) → IsTrue (stands v f) → x v ≡ y v) → secret_in x f ≡ secret_in y f
same_in x y f same = same_bool (secret_in x f) (secret_in y f)
    (λ h. (let l = found_in x f h in in_formula y f l.0 (sym (same l.0 l.1) ∙ l.2) l.1))
    (λ h. (let l = found_in y f h in in_formula x f l.0 (same l.0 l.1 ∙ l.2) l.1))

-- a node that stands for a formula is secret where a secret wire stands in the formula
pub stood_secret : (g : Graph) (inputs registers flags : List Bool) → AreNodeSecrets g.nodes inputs registers flags → (f : Formula) (m k : ℕ) → Stands (drawing_of g) m f k → secret_in (λ w. bit_of flags (get_or g.of_wire w 0)) f ≡ bit_of flags k
stood_secret g i r v s f_zero m k h = sym (s.spread k Zero h)
stood_secret g i r v s f_one m k h = sym (s.spread k One h)
stood_secret g i r v s (f_wire w) m k h = ap (bit_of v) (get_or_from_slice_get g.of_wire w k 0 h)
stood_secret g i r v s (f_not x) m k h = stood_secret g i r v s x m h.0 h.2 ∙ sym (s.spread k (Not h.0) h.1.0)
stood_secret g i r v s (f_and x y) m k h = ap₂ (λ a b. a || b) (stood_secret g i r v s x m h.0 h.3) (stood_secret g i r v s y (m + operators x) h.1 h.4) ∙ sym (s.spread k (And h.0 h.1) h.2.0)
stood_secret g i r v s (f_or x y) m k h = ap₂ (λ a b. a || b) (stood_secret g i r v s x m h.0 h.3) (stood_secret g i r v s y (m + operators x) h.1 h.4) ∙ sym (s.spread k (Or h.0 h.1) h.2.0)
stood_secret g i r v s (f_xor x y) m k h = ap₂ (λ a b. a || b) (stood_secret g i r v s x m h.0 h.3) (stood_secret g i r v s y (m + operators x) h.1 h.4) ∙ sym (s.spread k (Xor h.0 h.1) h.2.0)
stood_secret g i r v s (f_mux c x y) m k h =
    ap₂ (λ a b. a || b) (stood_secret g i r v s c m h.0 h.4)
    (ap₂ (λ a b. a || b) (stood_secret g i r v s x (m + operators c) h.1 h.5) (stood_secret g i r v s y (m + operators c + operators x) h.2 h.6))
    ∙ sym (s.spread k (Mux h.0 h.1 h.2) h.3.0)

-- what a wire depends on is what its driver reads or stores
pub depends_is : (net : PlainNet) → WellFormed net → (w v : ℕ) → IsTrue (depends net w v) → IsTrue (reads_ever (driver net w) v)
depends_is net well w v h = elim (or_cases (reads net w v) (list_any (λ r. (r.q == w) && stands v r.next) net.registers) h) [
  | inl read ↦ (
      let found = place_of_any (λ (l : Line). (l.0 == w) && stands v l.1) net.lines read in
      let both = and_parts (found.1.0 == w) (stands v found.1.1) found.3 in
      let at : slice_get net.lines found.0 ≡ Some (w, found.1.1) = found.2 ∙ ap (λ q. Some (q, found.1.1)) (eqb-true found.1.0 w both.0) in
      ap (λ d. reads_ever d v) (is_driver net well (d_equation found.1.1) w (found.0, at)) ∙ both.1)
  | inr stored ↦ (
      let found = place_of_any (λ (r : Stored). (r.q == w) && stands v r.next) net.registers stored in
      let both = and_parts (found.1.q == w) (stands v found.1.next) found.3 in
      ap (λ d. reads_ever d v) (is_driver net well (d_register found.0 found.1.next) w (found.1, found.2, eqb-true found.1.q w both.0, refl)) ∙ both.1)
]

-- a port that passes a test, other than that of a number, is among the others
but_any : (test : Port → Bool) (ports : List Port) (c i : ℕ) (p : Port) → slice_get ports i ≡ Some p → test p ≡ true → i ≢ c → IsTrue (list_any test (take c ports ++ drop (c + 1) ports))
but_any test [] c i p at h ne = absurd (cc)
but_any test (q ∷ qs) zero zero p at h ne = absurd (ne refl)
but_any test (q ∷ qs) zero (suc i) p at h ne = any_at test qs i p at h
but_any test (q ∷ qs) (suc c) zero p at h ne =
    let e : q ≡ p = cc in or_left (test q) (list_any test (take c qs ++ drop (suc c + 1) (q ∷ qs))) (ap test e ∙ h)
but_any test (q ∷ qs) (suc c) (suc i) p at h ne =
    let one : suc c + 1 ≡ suc (c + 1) = omega arith in
    let ne' : i ≢ c = λ e. ne (ap suc e) in
    ap (λ n. test q || list_any test (take c qs ++ drop n (q ∷ qs))) one ∙ or_right (test q) (list_any test (take c qs ++ drop (c + 1) qs)) (but_any test qs c i p at h ne')

pub zip_get : {X Y : Type 0} (xs : List X) (ys : List Y) (n : ℕ) (x : X) (y : Y) → slice_get (zip xs ys) n ≡ Some (x, y) → (slice_get xs n ≡ Some x) × (slice_get ys n ≡ Some y)
zip_get [] ys n x y h = absurd (cc)
zip_get (a ∷ as') [] n x y h = absurd (cc)
zip_get {X} {Y} (a ∷ as') (b ∷ bs) zero x y h =
    let e : ◌≡◌ {A = X × Y} (a, b) (x, y) = cc in (ap (λ (t : X × Y). Some t.0) e, ap (λ (t : X × Y). Some t.1) e)
zip_get (a ∷ as') (b ∷ bs) (suc n) x y h = zip_get as' bs n x y h

pub get_zip : {X Y : Type 0} (xs : List X) (ys : List Y) (n : ℕ) (x : X) (y : Y) → slice_get xs n ≡ Some x → slice_get ys n ≡ Some y → slice_get (zip xs ys) n ≡ Some (x, y)
get_zip [] ys n x y h k = absurd (cc)
get_zip (a ∷ as') [] n x y h k = absurd (cc)
get_zip (a ∷ as') (b ∷ bs) zero x y h k = let e : a ≡ x = cc in let f : b ≡ y = cc in ap₂ (λ s t. Some (s, t)) e f
get_zip (a ∷ as') (b ∷ bs) (suc n) x y h k = get_zip as' bs n x y h k

length-zip : {X Y : Type 0} (xs : List X) (ys : List Y) → length ys ≡ length xs → length (zip xs ys) ≡ length xs
length-zip [] ys h = refl
length-zip (a ∷ as') [] h = absurd (omega arith)
length-zip (a ∷ as') (b ∷ bs) h = ap suc (length-zip as' bs (omega arith))

any_bits : (w : ℕ) (ps : List Port) → IsTrue (list_any (λ p. is_input p && list_any (λ b. b == w) p.bits) ps) → IsTrue (list_any (λ b. b == w) (flat_map (λ p. p.bits) (filter is_input ps)))
any_bits w [] h = absurd (cc)
any_bits w (p ∷ ps) h = go (any_bits w ps) (is_input p) h
  where
    go : (IsTrue (list_any (λ p. is_input p && list_any (λ b. b == w) p.bits) ps) → IsTrue (list_any (λ b. b == w) (flat_map (λ p. p.bits) (filter is_input ps)))) → (b : Bool) → IsTrue ((b && list_any (λ v. v == w) p.bits) || list_any (λ p. is_input p && list_any (λ b. b == w) p.bits) ps)
        → IsTrue (list_any (λ v. v == w) (flat_map (λ p. p.bits) (cond b (p ∷ filter is_input ps) (filter is_input ps))))
    go more true k = list_any-append (λ v. v == w) p.bits (flat_map (λ p. p.bits) (filter is_input ps)) ∙ elim (or_cases (list_any (λ v. v == w) p.bits) (list_any (λ p. is_input p && list_any (λ b. b == w) p.bits) ps) k) [
      | inl here ↦ or_left (list_any (λ v. v == w) p.bits) (list_any (λ v. v == w) (flat_map (λ p. p.bits) (filter is_input ps))) here
      | inr later ↦ or_right (list_any (λ v. v == w) p.bits) (list_any (λ v. v == w) (flat_map (λ p. p.bits) (filter is_input ps))) (more later)
    ]
    go more false k = more k

pub secure_is : (m : Mark) → is_secure m ≡ true → m ≡ Secure
secure_is Unmarked h = absurd (cc)
secure_is Secure h = refl
secure_is Public h = absurd (cc)
secure_is Clock h = absurd (cc)

-- a bit of a secure input port is an input bit
secure_input : (net : PlainNet) (marks : List Mark) → ClockIsOpen net marks → (w : ℕ) → IsTrue (is_secure_bit net marks w) → (n : ℕ) × (slice_get (input_bits net) n ≡ Some w)
secure_input net marks open_clock w h =
    let found = place_of_any (λ (e : Port × Mark). is_input e.0 && (is_secure e.1 && list_any (λ b. b == w) e.0.bits)) (zip net.ports marks) h in
    let p = found.1.0 in
    let m = found.1.1 in
    let both = and_parts (is_input p) (is_secure m && list_any (λ b. b == w) p.bits) found.3 in
    let rest = and_parts (is_secure m) (list_any (λ b. b == w) p.bits) both.1 in
    let at = zip_get net.ports marks found.0 p m found.2 in
    let passes : (is_input p && list_any (λ b. b == w) p.bits) ≡ true = and_from (is_input p) (list_any (λ b. b == w) p.bits) both.0 rest.1 in
    let secure_at : slice_get marks found.0 ≡ Some Secure = at.1 ∙ ap Some (secure_is m rest.0) in
    let among : IsTrue (list_any (λ p. is_input p && list_any (λ b. b == w) p.bits) (ports_but net.clock net.ports)) = others net.clock (λ c is. open_clock c is) p found.0 at.0 passes secure_at in
    let place = place_of_any (λ b. b == w) (input_bits net) (any_bits w (ports_but net.clock net.ports) among) in
    (place.0, place.2 ∙ ap Some (eqb-true place.1 w place.3))
  where
    others : (clock : Option ℕ) → ((c : ℕ) → clock ≡ Some c → slice_get marks c ≢ Some Secure) → (p : Port) (i : ℕ) → slice_get net.ports i ≡ Some p → (is_input p && list_any (λ b. b == w) p.bits) ≡ true → slice_get marks i ≡ Some Secure
        → IsTrue (list_any (λ p. is_input p && list_any (λ b. b == w) p.bits) (ports_but clock net.ports))
    others None not_secure p i at passes secure_at = any_at (λ p. is_input p && list_any (λ b. b == w) p.bits) net.ports i p at passes
    others (Some c) not_secure p i at passes secure_at =
        but_any (λ p. is_input p && list_any (λ b. b == w) p.bits) net.ports c i p at passes (λ same. not_secure c refl (sym (ap (slice_get marks) same) ∙ secure_at))

-- a secret wire whose driver is no input bit depends on a secret wire
secret_by : (net : PlainNet) (marks : List Mark) → WellFormed net → ClockIsOpen net marks → (w : ℕ) → ((n : ℕ) → driver net w ≡ d_input n → Prim.⊥) → IsSecret net marks w → (v : ℕ) × IsTrue (reads_ever (driver net w) v) × IsSecret net marks v
secret_by net marks well open_clock w no_input ([], chain, secure) =
    let input = secure_input net marks open_clock w secure in
    absurd (no_input input.0 (is_driver net well (d_input input.0) w input.1))
secret_by net marks well open_clock w no_input (v ∷ vs, chain, secure) = (v, depends_is net well w v chain.0, (vs, chain.1, secure))

equation_secret : (net : PlainNet) (marks : List Mark) (flags : List Bool) → WellFormed net → ClockIsOpen net marks → AreWireSecrets net marks flags → (w : ℕ) (f : Formula) → HasDriver net (d_equation f) w → bit_of flags w ≡ secret_in (bit_of flags) f
equation_secret net marks flags well open_clock are w f has =
    let is : driver net w ≡ d_equation f = is_driver net well (d_equation f) w has in
    same_bool (bit_of flags w) (secret_in (bit_of flags) f)
    (λ h. (let by = secret_by net marks well open_clock w (λ n e. absurd (cc)) ((are.tells w).0 h) in
    in_formula (bit_of flags) f by.0 ((are.tells by.0).1 by.2) (sym (ap (λ d. reads_ever d by.0) is) ∙ by.1)))
    (λ h. (
    let l = found_in (bit_of flags) f h in
    let read : IsTrue (reads net w l.0) = any_at (λ k. (k.0 == w) && stands l.0 k.1) net.lines has.0 (w, f) has.1 (and_from (w == w) (stands l.0 f) (eq-eqb w w refl) l.1) in
    let dep : IsTrue (depends net w l.0) = or_left (reads net w l.0) (list_any (λ r. (r.q == w) && stands l.0 r.next) net.registers) read in
    let s = (are.tells l.0).0 l.2 in
    (are.tells w).1 (l.0 ∷ s.0, (dep, s.1), s.2)))

clock_public : (net : PlainNet) (marks : List Mark) (flags : List Bool) → WellFormed net → ClockIsOpen net marks → AreWireSecrets net marks flags → (w : ℕ) → HasDriver net d_clock w → bit_of flags w ≡ false
clock_public net marks flags well open_clock are w has = elim (cases_Bool (bit_of flags w)) [
  | inl t ↦ (
      let is : driver net w ≡ d_clock = is_driver net well d_clock w has in
      let by = secret_by net marks well open_clock w (λ n e. absurd (cc)) ((are.tells w).0 t) in
      let none : reads_ever (driver net w) by.0 ≡ false = ap (λ d. reads_ever d by.0) is in
      absurd (cc))
  | inr f ↦ f
]

image_bit : {X : Type 0} (f : X → Bool) (xs : List X) (i : ℕ) (x : X) → slice_get xs i ≡ Some x → bit_of (map f xs) i ≡ f x
image_bit f [] i x h = absurd (cc)
image_bit f (y ∷ ys) zero x h = let e : y ≡ x = cc in ap f e
image_bit f (y ∷ ys) (suc i) x h = image_bit f ys i x h

-- the node of a wire is secret where the wire is
nodes_agree : (net : PlainNet) (graph : Graph) (marks : List Mark) (flags : List Bool) (s : Secrets) → WellFormed net → HasNoLoop net → ClockIsOpen net marks → IsGraphOf net graph → AreWireSecrets net marks flags → IsFound net graph marks flags s
    → (ranks : IsRanked net) → (m w : ℕ) → ranks.rank w < m → w < length net.wires → bit_of s.nodes (get_or graph.of_wire w 0) ≡ bit_of flags w
nodes_agree net graph marks flags s well none open_clock is are found ranks zero w lr lt = absurd (omega arith)
nodes_agree net graph marks flags s well none open_clock is are found ranks (suc m) w lr lt =
    by (λ v lower within. nodes_agree net graph marks flags s well none open_clock is are found ranks m v lower within) (driver net w) refl (is_driven net well w lt)
  where
    at_node : (k : ℕ) → slice_get graph.of_wire w ≡ Some k → bit_of s.nodes (get_or graph.of_wire w 0) ≡ bit_of s.nodes k
    at_node k at = ap (bit_of s.nodes) (get_or_from_slice_get graph.of_wire w k 0 at)

    by : ((v : ℕ) → ranks.rank v < m → v < length net.wires → bit_of s.nodes (get_or graph.of_wire v 0) ≡ bit_of flags v) → (d : Driver) → driver net w ≡ d → HasDriver net d w → bit_of s.nodes (get_or graph.of_wire w 0) ≡ bit_of flags w
    by before (d_input n) e has =
        let node = is.inputs n w has in
        at_node node.0 node.1 ∙ (found.fits.spread node.0 (Input n) node.2 ∙ (ap (λ row. bit_of row n) found.inputs ∙ image_bit (bit_of flags) (input_bits net) n w has))
    by before d_clock e has =
        let node = found_of_all (λ v. HasNode (drawing_of graph) v Zero) (clock_bits net) is.clock w has in
        at_node node.0 node.1 ∙ (found.fits.spread node.0 Zero node.2 ∙ sym (clock_public net marks flags well open_clock are w has))
    by before (d_equation f) e has =
        let node = is.equations has.0 (w, f) has.1 in
        let agree : (v : ℕ) → IsTrue (stands v f) → bit_of s.nodes (get_or graph.of_wire v 0) ≡ bit_of flags v = λ v stood. (
        let read : IsTrue (reads net w v) = any_at (λ k. (k.0 == w) && stands v k.1) net.lines has.0 (w, f) has.1 (and_from (w == w) (stands v f) (eq-eqb w w refl) stood) in
        let lower = ranks.lower w v read in
        let ever : IsTrue (reads_ever (driver net w) v) = ap (λ d. reads_ever d v) e ∙ stood in
        before v (omega arith) (reads_are_wires net well w v lt ever)) in
        at_node node.0 node.1
        ∙ (sym (stood_secret graph s.inputs s.registers s.nodes found.fits f _ node.0 node.2)
        ∙ (same_in (λ v. bit_of s.nodes (get_or graph.of_wire v 0)) (bit_of flags) f agree ∙ sym (equation_secret net marks flags well open_clock are w f has)))
    by before (d_register n next) e has =
        let r = has.0 in
        let node = is.registers n r has.1 in
        let q : slice_get graph.of_wire w ≡ Some node.0 = sym (ap (slice_get graph.of_wire) has.2) ∙ node.1 in
        at_node node.0 q
        ∙ (found.fits.spread node.0 (Q n) node.2
        ∙ (ap (λ row. bit_of row n) found.registers ∙ (image_bit (bit_of flags) (map (λ r. r.q) net.registers) n r.q (image_at net.registers n r has.1) ∙ ap (bit_of flags) has.2)))
      where
        image_at : (rs : List Stored) (n : ℕ) (r : Stored) → slice_get rs n ≡ Some r → slice_get (map (λ (r : Stored). r.q) rs) n ≡ Some r.q
        image_at [] n r h = absurd (cc)
        image_at (a ∷ rs) zero r h = let e : a ≡ r = cc in ap (λ (x : Stored). Some x.q) e
        image_at (a ∷ rs) (suc n) r h = image_at rs n r h
    by before d_nothing e has = absurd has

pub is_output : (p : Port) → not (is_input p) ≡ true → p.way ≡ way.Output
is_output p h = of_way p.way h
  where
    of_way : (w : Way) → not (is_in w) ≡ true → w ≡ way.Output
    of_way way.Input k = absurd (cc)
    of_way way.Output k = refl

not_input : (p : Port) → p.way ≡ way.Output → not (is_input p) ≡ true
not_input p h = ap (λ w. not (is_in w)) h

any_secret : (net : PlainNet) (marks : List Mark) (flags : List Bool) → AreWireSecrets net marks flags → (ws : List ℕ) → IsTrue (list_any (bit_of flags) ws) ↔ Any (IsSecret net marks) ws
any_secret net marks flags are ws = (
  λ h. (let found = place_of_any (bit_of flags) ws h in
      (found.0, found.1, slice_get_within ws found.0 found.1 found.2, get_or_from_slice_get ws found.0 found.1 found.1 found.2, (are.tells found.1).0 found.3)),
  λ h. any_at (bit_of flags) ws h.0 h.1 (slice_get-get_or ws h.0 h.1 h.2 ∙ ap Some h.3) ((are.tells h.1).1 h.4),
)

shared_port : (net : PlainNet) (marks : List Mark) (flags : List Bool) → AreWireSecrets net marks flags → (p : Port) (m : Mark) → IsTrue (is_shared flags p m) ↔ IsSharedPort net marks p m
shared_port net marks flags are p m = (
  λ h. elim (or_cases (is_secure m) (not (is_input p) && list_any (bit_of flags) p.bits) h) [
    | inl secure ↦ inl (secure_is m secure)
    | inr out ↦ (let both = and_parts (not (is_input p)) (list_any (bit_of flags) p.bits) out in inr (is_output p both.0, (any_secret net marks flags are p.bits).0 both.1))
  ],
  λ h. elim h [
    | inl secure ↦ or_left (is_secure m) (not (is_input p) && list_any (bit_of flags) p.bits) (ap is_secure secure)
    | inr out ↦ or_right (is_secure m) (not (is_input p) && list_any (bit_of flags) p.bits) (and_from (not (is_input p)) (list_any (bit_of flags) p.bits) (not_input p out.0) ((any_secret net marks flags are p.bits).1 out.1))
  ],
)

-- what is found are the secrets
pub secrets_found : (net : PlainNet) (graph : Graph) (marks : List Mark) (flags : List Bool) (s : Secrets) → WellFormed net → HasNoLoop net → ClockIsOpen net marks → length marks ≡ length net.ports → IsGraphOf net graph → AreWireSecrets net marks flags → IsFound net graph marks flags s
    → SecretsOf net graph marks s
secrets_found net graph marks flags s well none open_clock long is are found =
    let ranks = ranked net well none in
    record {
      inputs = tells (input_bits net) s.inputs found.inputs;
      registers = tells (map (λ r. r.q) net.registers) s.registers found.registers;
      wires = λ w k at. (
          let lt : w < length net.wires = (let l = slice_get_within graph.of_wire w k at in let m = is.wires in omega arith) in
          let same : bit_of s.nodes k ≡ bit_of flags w = sym (ap (bit_of s.nodes) (get_or_from_slice_get graph.of_wire w k 0 at)) ∙ nodes_agree net graph marks flags s well none open_clock is are found ranks (ranks.rank w + 1) w (omega arith) lt in
          let t = are.tells w in (λ h. t.0 (sym same ∙ h), λ h. same ∙ t.1 h));
      fits = found.fits;
      one_port_each = ap length found.ports ∙ (length-map (zip net.ports marks) (λ e. is_shared flags e.0 e.1) ∙ length-zip net.ports marks long);
      ports = λ n p m at mark. (
          let same : bit_of s.ports n ≡ is_shared flags p m = ap (λ row. bit_of row n) found.ports ∙ image_bit (λ e. is_shared flags e.0 e.1) (zip net.ports marks) n (p, m) (get_zip net.ports marks n p m at mark) in
          let t = shared_port net marks flags are p m in (λ h. t.0 (sym same ∙ h), λ h. same ∙ t.1 h));
    }
  where
    tells : (ws : List ℕ) (row : List Bool) → row ≡ flags_of flags ws → TellsWires net marks ws row
    tells ws row e = record {
      one_each = ap length e ∙ length-map ws (λ w. bit_of flags w);
      tells = λ i w at. (
          let same : bit_of row i ≡ bit_of flags w = ap (λ r. bit_of r i) e ∙ image_bit (λ v. bit_of flags v) ws i w at in
          let t = are.tells w in (λ h. t.0 (sym same ∙ h), λ h. same ∙ t.1 h));
    }

leak_is : (net : PlainNet) (marks : List Mark) (flags : List Bool) → AreWireSecrets net marks flags → (n : ℕ) (p : Port) (m : Mark) → slice_get net.ports n ≡ Some p → slice_get marks n ≡ Some m → is_leak flags p m ≡ true → Leaks net marks n
leak_is net marks flags are n p m at mark h =
    let both = and_parts (is_public m) (not (is_input p) && list_any (bit_of flags) p.bits) h in
    let rest = and_parts (not (is_input p)) (list_any (bit_of flags) p.bits) both.1 in
    (p, at, mark ∙ ap Some (public_is m both.0), is_output p rest.0, (any_secret net marks flags are p.bits).0 rest.1)
  where
    public_is : (m : Mark) → is_public m ≡ true → m ≡ Public
    public_is Unmarked k = absurd (cc)
    public_is Secure k = absurd (cc)
    public_is Public k = refl
    public_is Clock k = absurd (cc)

none_leak : (net : PlainNet) (marks : List Mark) (flags : List Bool) → AreWireSecrets net marks flags → (n : ℕ) → NoneBelow (is_leak flags) net.ports marks n → (j : ℕ) → j < n → Leaks net marks j → Prim.⊥
none_leak net marks flags are n below j lt leak =
    let f = below j leak.0 Public lt leak.1 leak.2 in
    let t : is_leak flags leak.0 Public ≡ true = and_from (not (is_input leak.0)) (list_any (bit_of flags) leak.0.bits) (not_input leak.0 leak.3) ((any_secret net marks flags are leak.0.bits).1 leak.4) in
    absurd (cc)

pub first_leaks : (net : PlainNet) (marks : List Mark) (flags : List Bool) (n : ℕ) → AreWireSecrets net marks flags → IsFirst (is_leak flags) net.ports marks (Some n) → IsFirstLeak net marks n
first_leaks net marks flags n are first =
    (leak_is net marks flags are n first.0.0 first.0.1 first.0.2 first.0.3 first.0.4, none_leak net marks flags are n first.1)

pub none_leaks : (net : PlainNet) (marks : List Mark) (flags : List Bool) → AreWireSecrets net marks flags → IsFirst (is_leak flags) net.ports marks None → NoneLeaks net marks
none_leaks net marks flags are first n leak = none_leak net marks flags are (length net.ports) first n (slice_get_within net.ports n leak.0 leak.1) leak

-- the outputs of registers
pub outputs_found : (flags : List Bool) (rs : List Register) → map (λ (r : Register). bit_of flags r.q) rs ≡ flags_of flags (map (λ (r : Stored). r.q) (map stored_of rs))
outputs_found flags [] = refl
outputs_found flags (r ∷ rs) = ap (λ xs. bit_of flags r.q ∷ xs) (outputs_found flags rs)

-- sources of a graph have flags
pub sourced : (net : PlainNet) (graph : Graph) → IsGraphOf net graph → (inputs registers : ℕ) → inputs ≡ length (input_bits net) → registers ≡ length net.registers → (k : ℕ) (n : Node) → slice_get graph.nodes k ≡ Some n → IsTrue (has_source inputs registers n)
sourced net graph is i r in_is reg_is k Zero at = refl
sourced net graph is i r in_is reg_is k One at = refl
sourced net graph is i r in_is reg_is k (Input j) at = let lt = is.input_nodes k j at in lt-ltb j i (omega arith)
sourced net graph is i r in_is reg_is k (Q j) at = let lt = is.register_nodes k j at in lt-ltb j r (omega arith)
sourced net graph is i r in_is reg_is k (Not a) at = refl
sourced net graph is i r in_is reg_is k (Xor a b) at = refl
sourced net graph is i r in_is reg_is k (And a b) at = refl
sourced net graph is i r in_is reg_is k (Or a b) at = refl
sourced net graph is i r in_is reg_is k (Mux s a b) at = refl

-- the same by the slices that are walked over
pub leak_from : (net : PlainNet) (marks kinds : List Mark) (flags slice : List Bool) (ports : List Port) (n : ℕ) → kinds ≡ marks → slice ≡ flags → ports ≡ net.ports → AreWireSecrets net kinds flags → IsFirst (is_leak slice) ports kinds (Some n) → IsFirstLeak net marks n
leak_from net marks kinds flags slice ports n k f p are first =
    first_leaks net marks flags n (subst (λ ms. AreWireSecrets net ms flags) k are)
    (subst (λ ms. IsFirst (is_leak flags) net.ports ms (Some n)) k (subst (λ ps. IsFirst (is_leak flags) ps kinds (Some n)) p (subst (λ fs. IsFirst (is_leak fs) ports kinds (Some n)) f first)))

pub none_from : (net : PlainNet) (marks kinds : List Mark) (flags slice : List Bool) (ports : List Port) → kinds ≡ marks → slice ≡ flags → ports ≡ net.ports → AreWireSecrets net kinds flags → IsFirst (is_leak slice) ports kinds None → NoneLeaks net marks
none_from net marks kinds flags slice ports k f p are first =
    none_leaks net marks flags (subst (λ ms. AreWireSecrets net ms flags) k are)
    (subst (λ ms. IsFirst (is_leak flags) net.ports ms None) k (subst (λ ps. IsFirst (is_leak flags) ps kinds None) p (subst (λ fs. IsFirst (is_leak fs) ports kinds None) f first)))

pub secrets_from : (net : PlainNet) (graph : Graph) (marks kinds : List Mark) (flags slice : List Bool) (s : Secrets) → WellFormed net → HasNoLoop net → ClockIsOpen net marks → length marks ≡ length net.ports → IsGraphOf net graph → kinds ≡ marks → slice ≡ flags → AreWireSecrets net kinds flags → IsFound net graph kinds slice s
    → SecretsOf net graph marks s
secrets_from net graph marks kinds flags slice s well none open_clock long is k f are found =
    secrets_found net graph marks flags s well none open_clock long is (subst (λ ms. AreWireSecrets net ms flags) k are)
    (subst (λ ms. IsFound net graph ms flags s) k (subst (λ fs. IsFound net graph kinds fs s) f found))

pub port_from : (net : PlainNet) (marks kinds : List Mark) (flags slice : List Bool) (ports : List Port) (o : Option ℕ) → kinds ≡ marks → slice ≡ flags → ports ≡ net.ports → AreWireSecrets net kinds flags → IsFirst (is_leak slice) ports kinds o → TellsPort net marks o
port_from net marks kinds flags slice ports None k f p are first = none_from net marks kinds flags slice ports k f p are first
port_from net marks kinds flags slice ports (Some n) k f p are first = leak_from net marks kinds flags slice ports n k f p are first
