-- All input ports of a masked net.
use Rattle.std.proofs.Common.{◌≡◌, ◌≢◌, ◌<◌, ◌≤◌, ◌+◌, ◌-◌, ◌++◌, ℕ, zero, suc, Bool, true, false, cond, List, [], ◌∷◌, Option, Some, codes, length, length-append, map, filter, refl, sym, ap, ap₂, subst, inl, inr, ◌∙◌, arith, append_assoc, bytes_eq}
use Rattle.std.specs.List.{AllByRecursion}
use Rattle.std.proofs.lemmas.Bool.{cases_Bool, false_from_ne_true}
use Rattle.std.proofs.lemmas.List.{length-map}
use Rattle.std.proofs.lemmas.Slice.Eq.{bytes_eq-Decides}
use Rattle.agm_net.specs.Plain.{PlainNet, bit_names, is_input, data_ports}
use Rattle.agm_net.specs.declared.port.Port.{Port}
use Rattle.agm_net.specs.declared.port.Range.{Range}
use Rattle.agm_net.specs.declared.port.Way.TheVariants.{Input}
use Rattle.agm_net.proofs.Lists.{all_from}
use Rattle.share_wiring.specs.Adds.{random_bits}
use Rattle.share_wiring.specs.Built.{IsBuilt, AreDistinct, HasItsBits, clock_port}
use Rattle.share_wiring.specs.Networks.{FitsOrder}
use Rattle.share_wiring.specs.Recombine.{port_value}
use Rattle.share_wiring.specs.Shape.{Header, header_of, one_input, input_of_width}
use Rattle.share_wiring.specs.Wiring.{Wiring, IsPublicWire, names, net_of}
use Rattle.share_wiring.specs.declared.gate.Source.TheVariants as source
use Rattle.share_wiring.specs.declared.report.Report.{Report}
use Rattle.share_wiring.proofs.Distinct.{Distinct, differ_from_Distinct}
use Rattle.share_wiring.proofs.Lists.{all_front, all_back}
use Rattle.share_wiring.proofs.Ruling.{start_rules}
use Rattle.share_wiring.proofs.Ports.{own_bits}
use Rattle.pipeline_balance.specs.declared.values.Value.{Value}
use Rattle.pipeline_balance.specs.Apart.{Apart, AreApart, IsHeader, HasNames, FitsLimits}
use Rattle.pipeline_balance.specs.Chained.{AreSources}
use Rattle.pipeline_balance.specs.Entered.{entered_headers, IsEntered}
use Rattle.pipeline_balance.specs.Masked.{initial_values}
use Rattle.pipeline_balance.specs.Ports.{FitsBeside, header_bits, input_header, input_port, row_of, AreEntered, public_value}
use Rattle.pipeline_balance.specs.Sound.{IsSound}
use Rattle.pipeline_balance.specs.Valued.{IsValue}
use Rattle.pipeline_balance.specs.Entering.{FitInOrder, IsOwn, Enters, HasPublicBits, headers_for, kinds_for, values_for, register_headers}
use Rattle.pipeline_balance.proofs.Beside.{fits_behind}
use Rattle.pipeline_balance.proofs.Standing as standing
use Rattle.pipeline_balance.proofs.EnteringSteps.{fit_parts, still, entered_all}
use Rattle.pipeline_balance.proofs.EnteringRegisters.{fallen, width_header, width_bits}

-- ---- a port whose bits have no value

pub port_enters : (n : ℕ) (old now : Wiring) (name : List ℕ) (range : Option Range) (bits : List ℕ) → ((d : ℕ) → FitsOrder d name) → AreEntered range (name ∷ []) old now 1 (bits ∷ [])
    → Enters n old now (input_header range name ∷ []) [] (λ net bit. []) []
port_enters n old now name range bits fits entered = record {
  made = input_port range name bits ∷ [];
  ports = entered.ports;
  headers_are = refl;
  extends = entered.extends;
  sources = tt;
  kinds_are = refl;
  told = λ net own bit t. refl;
  begun = entered.begun;
  given = entered.given;
  sound = λ h. record { cells = entered.cells h.cells; network = entered.network (n - 1) one_fits h.network };
}
  where
    one_fits : (i : ℕ) → i < 1 → FitsOrder (n - 1) (row_of (name ∷ []) i)
    one_fits zero lt = fits (n - 1)
    one_fits (suc i) lt = absurd (omega (arith, lt))

-- the load signal's
pub load_public : HasPublicBits (codes "agm_load")
load_public bit mine = inl (inl mine)

-- ---- all ports fit

fit_in_order : (olds hs : List Header) → AreApart (olds ++ hs) → AllByRecursion IsHeader hs → FitInOrder olds hs
fit_in_order olds [] apart made = tt
fit_in_order olds (h ∷ hs) apart made =
    (fits_behind olds h hs apart made.0, fit_in_order (olds ++ h ∷ []) hs (subst AreApart (sym (append_assoc olds (h ∷ []) hs)) apart) made.1)

module _ (original : PlainNet) (report : Report) where
  abbrev pub clock : Header
  clock = one_input (codes "agm_clk")

  abbrev pub load : Header
  load = one_input (codes "agm_load")

  abbrev pub random : List Header
  random = input_of_width (codes "agm_r") report.random

  abbrev pub own : List Header
  own = headers_for report (filter is_input (data_ports original))

  -- each call's ports fit behind those of the calls before
  pub record AllFit : Type 0 where
    pub load_fits : FitsBeside (clock ∷ []) load
    pub random_fit : FitInOrder (clock ∷ load ∷ []) random
    pub registers_fit : FitInOrder ((clock ∷ load ∷ []) ++ random) (register_headers report)
    pub own_fit : FitInOrder ((clock ∷ load ∷ []) ++ (random ++ register_headers report)) own

  pub all_fit : HasNames original → FitsLimits report → AllFit
  all_fit named fits =
      let all = fit_in_order (clock ∷ []) (load ∷ ((random ++ register_headers report) ++ own)) (standing.entered_apart report fits original named) (standing.entered_made report fits original named) in
      let parts = fit_parts (clock ∷ load ∷ []) (random ++ register_headers report) own all.1 in
      let front = fit_parts (clock ∷ load ∷ []) random (register_headers report) parts.0 in
      record { load_fits = all.0; random_fit = front.0; registers_fit = front.1; own_fit = parts.1 }

-- ---- how many random bits there are

abbrev random_width : List Header → ℕ
random_width [] = 0
random_width (h ∷ hs) = cond (bytes_eq h.name (codes "agm_r")) (length (header_bits h)) 0 + random_width hs

width_joined : (xs ys : List Header) → random_width (xs ++ ys) ≡ random_width xs + random_width ys
width_joined [] ys = omega arith
width_joined (x ∷ xs) ys =
    let rest = width_joined xs ys in
    let here : ℕ = cond (bytes_eq x.name (codes "agm_r")) (length (header_bits x)) 0 in
    ap (λ k. here + k) rest ∙ omega arith

not_random : (name : List ℕ) → name ≢ codes "agm_r" → bytes_eq name (codes "agm_r") ≡ false
not_random name other = false_from_ne_true (bytes_eq name (codes "agm_r")) (λ is. other ((bytes_eq-Decides name (codes "agm_r")).0 is))

width_none : (hs : List Header) → AllByRecursion (λ h. h.name ≢ codes "agm_r") hs → random_width hs ≡ 0
width_none [] other = refl
width_none (h ∷ hs) other = ap₂ (λ b k. cond b (length (header_bits h)) 0 + k) (not_random h.name other.0) (width_none hs other.1)

width_own : (count : ℕ) → random_width (input_of_width (codes "agm_r") count) ≡ count
width_own zero = refl
width_own (suc m) =
    let some : 1 ≤ suc m = omega arith in
    let wide = width_bits (codes "agm_r") (suc m) some in
    let is : bytes_eq (codes "agm_r") (codes "agm_r") ≡ true = (bytes_eq-Decides (codes "agm_r") (codes "agm_r")).1 refl in
    ap random_width (width_header (codes "agm_r") (suc m) some)
    ∙ (ap (λ b. cond b (length (bit_names (codes "agm_r") (Some (fallen (suc m))))) 0 + 0) is ∙ omega (arith, wide))

-- the bits of ports are as many as their ranges say
has_length : (ws : List (List ℕ)) (p : Port) → HasItsBits ws p → length p.bits ≡ length (bit_names p.name p.range)
has_length ws p is = sym (length-map p.bits _) ∙ (ap length is ∙ length-map (bit_names p.name p.range) _)

random_count : (ports : List Port) → AllByRecursion (λ p. length p.bits ≡ length (bit_names p.name p.range)) ports → length (random_bits ports) ≡ random_width (map header_of ports)
random_count [] long = refl
random_count (p ∷ ps) long =
    let rest = random_count ps long.1 in
    elim (cases_Bool (bytes_eq p.name (codes "agm_r"))) [
      | inl is ↦ rw is (length-append p.bits (random_bits ps) ∙ ap₂ (λ j k. j + k) long.0 rest)
      | inr other ↦ rw other (rest ∙ omega arith)
    ]

-- No other port has the name of the random bits', whether there is one or not.
random_wide : (original : PlainNet) (report : Report) → HasNames original → FitsLimits report → random_width (entered_headers original report) ≡ report.random
random_wide original report named fits =
    let one : Report = record report { random = 1 } in
    let all = standing.entered_apart one (record { order = fits.order; random = omega arith; publics = fits.publics; secrets = fits.secrets }) original named in
    let r : Header = record { name = codes "agm_r"; way = Input; range = Some (record { msb = 0; lsb = 0 }) } in
    let rest = register_headers report ++ own original report in
    let front = width_none (clock original report ∷ load original report ∷ []) (all.0.1.0.names, (all.1.0.0.names, tt)) in
    let back = width_none rest (all_from (Apart r) (λ h. h.name ≢ codes "agm_r") (λ h apart e. apart.names (sym e)) rest all.1.1.0) in
    let wide = width_own report.random in
    let parts = width_joined (random original report) rest in
    let whole = width_joined (clock original report ∷ load original report ∷ []) (random original report ++ rest) in
    ap (λ hs. random_width (clock original report ∷ load original report ∷ hs)) (append_assoc (random original report) (register_headers report) (own original report))
    ∙ omega (arith, front, back, wide, parts, whole)

random_long : (original : PlainNet) (report : Report) (now : Wiring) → HasNames original → FitsLimits report → IsBuilt now → map header_of now.ports ≡ entered_headers original report → length (random_bits now.ports) ≡ report.random
random_long original report now named fits built headers =
    random_count now.ports (all_from (HasItsBits (names now.wires)) (λ p. length p.bits ≡ length (bit_names p.name p.range)) (has_length (names now.wires)) now.ports built.bits_named)
    ∙ (ap random_width headers ∙ random_wide original report named fits)

-- the number of shares
pub sizes : (n order : ℕ) → order + 1 ≡ n → (1 ≤ order) × (order < 16) → (2 ≤ n) × (n ≤ 16)
sizes n order one limits =
    let low = limits.0 in
    let high = limits.1 in
    (omega (arith, one, low), omega (arith, one, high))

-- ---- all ports were made

to_distinct : (xs : List (List ℕ)) → AreDistinct xs → Distinct xs
to_distinct [] h = tt
to_distinct (x ∷ xs) h = (h.0, to_distinct xs h.1)

all_own : (now : Wiring) → IsBuilt now → AllByRecursion (IsOwn (net_of now)) now.ports
all_own now built = own_bits now.ports (differ_from_Distinct (map (λ p. p.name) now.ports) (to_distinct (map (λ p. p.name) now.ports) built.ports_differ))

sources_at : (n : ℕ) (net : Wiring) (vs : List (Value n)) → AllByRecursion (IsValue n net) vs → AreSources n net vs
sources_at n net [] h i lt = absurd (omega arith)
sources_at n net (v ∷ vs) h zero lt = h.0
sources_at n net (v ∷ vs) h (suc i) lt = sources_at n net vs h.1 i (omega (arith, lt))

public_wire : (n : ℕ) (net : Wiring) (w : ℕ) → IsValue n net (public_value w) → IsPublicWire net.wires w
public_wire n net w is = let one = is 0 (omega arith) in record { within = one.within; named = elim one.named [ inl public ↦ public | inr shared ↦ absurd (shared.0 refl) ] }

abbrev pub first_net : Wiring
first_net = record { ports = clock_port ∷ []; wires = record { name = codes "agm_clk"; source = source.Input } ∷ []; gadgets = 0; given = 0 }

module _ (n : ℕ) (original : PlainNet) (secrets : List Bool) (report : Report) (a : Wiring) (begin : a ≡ first_net) where
  pub begin_headers : map header_of a.ports ≡ clock original report ∷ []
  begin_headers = ap (λ (net : Wiring). map header_of net.ports) begin

  module _ (b : Wiring) (signal : ℕ) (one : Enters n a b (load original report ∷ []) (false ∷ []) (λ net bit. port_value net (codes "agm_load") bit) (public_value signal ∷ [])) where
    pub load_headers : map header_of b.ports ≡ clock original report ∷ load original report ∷ []
    load_headers =
        entered_all n a b (load original report ∷ []) (false ∷ []) (λ net bit. port_value net (codes "agm_load") bit) (public_value signal ∷ []) one
        ∙ ap (λ hs. hs ++ load original report ∷ []) begin_headers

    module _ (c : Wiring) (two : Enters n b c (random original report) [] (λ net bit. []) []) where
      pub random_headers : map header_of c.ports ≡ (clock original report ∷ load original report ∷ []) ++ random original report
      random_headers = entered_all n b c (random original report) [] (λ net bit. []) [] two ∙ ap (λ hs. hs ++ random original report) load_headers

      module _ (d : Wiring) (firsts : List (Value n)) (three : Enters n c d (register_headers report) secrets (initial_values secrets report) firsts) where
        pub state_headers_are : map header_of d.ports ≡ (clock original report ∷ load original report ∷ []) ++ (random original report ++ register_headers report)
        state_headers_are =
            entered_all n c d (register_headers report) secrets (initial_values secrets report) firsts three
            ∙ (ap (λ hs. hs ++ register_headers report) random_headers ∙ append_assoc (clock original report ∷ load original report ∷ []) (random original report) (register_headers report))

        module _ (e : Wiring) (inputs : List (Value n)) (four : Enters n d e (own original report) (kinds_for report (filter is_input (data_ports original))) (values_for report (filter is_input (data_ports original))) inputs) where
          all_headers : map header_of e.ports ≡ entered_headers original report
          all_headers =
              entered_all n d e (own original report) (kinds_for report (filter is_input (data_ports original))) (values_for report (filter is_input (data_ports original))) inputs four
              ∙ ap (λ hs. hs ++ own original report) state_headers_are

          pub is_entered : HasNames original → FitsLimits report → IsBuilt e → IsEntered n original secrets report e signal inputs firsts
          is_entered named fits built =
              let net = net_of e in
              let at_e = subst (AllByRecursion (IsOwn net)) four.ports (all_own e built) in
              let at_d = subst (AllByRecursion (IsOwn net)) three.ports (all_front (IsOwn net) d.ports four.made at_e) in
              let at_c = subst (AllByRecursion (IsOwn net)) two.ports (all_front (IsOwn net) c.ports three.made at_d) in
              let at_b = subst (AllByRecursion (IsOwn net)) one.ports (all_front (IsOwn net) b.ports two.made at_c) in
              record {
                ports = all_headers;
                load_is = four.extends.publics signal (three.extends.publics signal (two.extends.publics signal (public_wire n b signal one.sources.0)));
                load_told = λ bit. one.told net (all_back (IsOwn net) a.ports one.made at_b) (λ t. bit) 0;
                inputs_are = sources_at n e inputs four.sources;
                inputs_told = four.told net (all_back (IsOwn net) d.ports four.made at_e);
                inputs_kinds = four.kinds_are;
                firsts_are = sources_at n e firsts (still n d e four.extends firsts three.sources);
                firsts_told = three.told net (all_back (IsOwn net) c.ports three.made at_d);
                firsts_kinds = three.kinds_are;
                begun = four.begun ∙ (three.begun ∙ (two.begun ∙ (one.begun ∙ ap (λ (w : Wiring). w.gadgets) begin)));
                given = four.given ∙ (three.given ∙ (two.given ∙ (one.given ∙ ap (λ (w : Wiring). w.given) begin)));
                random = random_long original report e named fits built all_headers;
                sound = four.sound (three.sound (two.sound (one.sound (subst (IsSound n) (sym begin) (record { cells = (tt, tt); network = start_rules (n - 1) })))));
              }
