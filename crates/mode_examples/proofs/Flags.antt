-- The secrets of a net and of its graph, by passes over equations and registers.
use Rattle.std.proofs.Common.{◌≡◌, ◌<◌, ◌==◌, ◌&&◌, ◌||◌, ◌++◌, ℕ, Bool, true, false, not, cond, List, [], ◌∷◌, map, length, slice_get, slice_set, get_or, Some, IsTrue, refl, sym, ◌∙◌, subst, arith, inl, inr, eq-eqb, get_or-set_other, zero-add}
use Rattle.std.specs.List.{AllByRecursion, list_all, list_any, range_with_len, zip}
use Rattle.std.proofs.lemmas.Bool.{and_parts, and_from, cases_Bool, cases_eq, cases_lt, eqb-true, or_cases, or_left, or_right, not-true, both_ways}
use Rattle.std.proofs.lemmas.List.{get_or_past}
use Rattle.std.proofs.lemmas.Option.{slice_get_within, get_or_from_slice_get}
use Rattle.std.proofs.lemmas.List.FromFn.{get_or-map-range_with_len, length-map-range_with_len}
use Rattle.agm_net.proofs.Lists.{all_of_one, all_places, any_at, place_of_any}
use Rattle.agm_net.specs.Formula.{Formula, stands}
use Rattle.agm_net.specs.Loop.{IsChain, last_of, reads}
use Rattle.agm_net.specs.Plain.{Line, PlainNet, Stored, input_bits}
use Rattle.agm_net.specs.Secret.{depends, is_secure_bit, IsSecret}
use Rattle.agm_net.specs.WellFormed.{WellFormed}
use Rattle.agm_net.specs.declared.mark.Mark.{Mark}
use Rattle.logic_graph.specs.GraphOf.{IsGraphOf}
use Rattle.logic_graph.specs.Searching.{IsOrder}
use Rattle.logic_graph.specs.Settled.{bit_of}
use Rattle.logic_graph.specs.declared.nodes.Node.{Node}
use Rattle.logic_graph.specs.declared.graphs.Graph.{Graph}
use Rattle.logic_graph.proofs.Values.{ordered_no_loop}
use Rattle.secrecy_spread.specs.Clock.{ClockIsOpen}
use Rattle.secrecy_spread.specs.NodeSecrets.{is_secret, AreNodeSecrets}
use Rattle.secrecy_spread.specs.SecretsOf.{SecretsOf}
use Rattle.secrecy_spread.specs.Wires.{AreWireSecrets, flags_of, is_shared, secure_bits}
use Rattle.secrecy_spread.specs.declared.secrets.Secrets.{Secrets}
use Rattle.secrecy_spread.proofs.Agreed.{found_in, secret_in, secrets_found}
use Rattle.secrecy_spread.proofs.Reaching.{bit_within}
use Rattle.secrecy_spread.proofs.WireSecrets.{starts_are, starts_fit}
use Rattle.share_wiring.proofs.Decide.{each_passes}
use Rattle.mode_examples.proofs.NaiveCosts.{if_on}
use Rattle.mode_examples.proofs.Nets.{places}
use Rattle.mode_examples.proofs.Tests.{all_by, each_node, node_passes}

-- a wire is flagged where a flagged one stands in a formula
abbrev passed : List Bool → ℕ → Formula → List Bool
passed flags w f = cond (secret_in (bit_of flags) f) (slice_set flags w true) flags

abbrev by_lines : List Line → List Bool → List Bool
by_lines [] flags = flags
by_lines (l ∷ ls) flags = by_lines ls (passed flags l.0 l.1)

abbrev by_registers : List Stored → List Bool → List Bool
by_registers [] flags = flags
by_registers (r ∷ rs) flags = by_registers rs (passed flags r.q r.next)

abbrev first_flags : PlainNet → List Mark → List Bool
first_flags net marks = map (is_secure_bit net marks) (range_with_len 0 (length net.wires))

-- two passes, between which registers are passed
abbrev pub wire_flags : PlainNet → List Mark → List Bool
wire_flags net marks = by_lines net.lines (by_registers net.registers (by_lines net.lines (first_flags net marks)))

-- ---- what is flagged is secret

abbrev AreSound : PlainNet → List Mark → List Bool → Type 0
AreSound net marks flags = (w : ℕ) → IsTrue (bit_of flags w) → IsSecret net marks w

set_sound : (net : PlainNet) (marks : List Mark) (flags : List Bool) (k : ℕ) → AreSound net marks flags → IsSecret net marks k → AreSound net marks (slice_set flags k true)
set_sound net marks flags k sound at w h = elim (cases_eq w k) [
  | inl same ↦ subst (IsSecret net marks) (sym same) at
  | inr apart ↦ sound w (sym (get_or-set_other flags k w true false apart) ∙ h)
]

pass_sound : (net : PlainNet) (marks : List Mark) (flags : List Bool) (w : ℕ) (f : Formula) → ((v : ℕ) → IsTrue (stands v f) → IsTrue (depends net w v)) → AreSound net marks flags → AreSound net marks (passed flags w f)
pass_sound net marks flags w f on sound = elim (cases_Bool (secret_in (bit_of flags) f)) [
  | inl has ↦ (
      let found = found_in (bit_of flags) f has in
      let way = sound found.0 found.2 in
      subst (λ b. AreSound net marks (cond b (slice_set flags w true) flags)) (sym has) (set_sound net marks flags w sound (found.0 ∷ way.0, (on found.0 found.1, way.1), way.2)))
  | inr none ↦ subst (λ b. AreSound net marks (cond b (slice_set flags w true) flags)) (sym none) sound
]

-- a wire depends on those that stand in its equation or its register's next value
abbrev DependsBy : PlainNet → ℕ → Formula → Type 0
DependsBy net w f = (v : ℕ) → IsTrue (stands v f) → IsTrue (depends net w v)

line_depends : (net : PlainNet) (i : ℕ) (l : Line) → slice_get net.lines i ≡ Some l → DependsBy net l.0 l.1
line_depends net i l at v h =
    or_left (reads net l.0 v) (list_any (λ r. (r.q == l.0) && stands v r.next) net.registers)
    (any_at (λ (m : Line). (m.0 == l.0) && stands v m.1) net.lines i l at (and_from (l.0 == l.0) (stands v l.1) (eq-eqb l.0 l.0 refl) h))

register_depends : (net : PlainNet) (i : ℕ) (r : Stored) → slice_get net.registers i ≡ Some r → DependsBy net r.q r.next
register_depends net i r at v h =
    or_right (reads net r.q v) (list_any (λ (s : Stored). (s.q == r.q) && stands v s.next) net.registers)
    (any_at (λ (s : Stored). (s.q == r.q) && stands v s.next) net.registers i r at (and_from (r.q == r.q) (stands v r.next) (eq-eqb r.q r.q refl) h))

lines_sound : (net : PlainNet) (marks : List Mark) (ls : List Line) (flags : List Bool) → AllByRecursion (λ l. DependsBy net l.0 l.1) ls → AreSound net marks flags → AreSound net marks (by_lines ls flags)
lines_sound net marks [] flags on sound = sound
lines_sound net marks (l ∷ ls) flags on sound = lines_sound net marks ls (passed flags l.0 l.1) on.1 (pass_sound net marks flags l.0 l.1 on.0 sound)

registers_sound : (net : PlainNet) (marks : List Mark) (rs : List Stored) (flags : List Bool) → AllByRecursion (λ r. DependsBy net r.q r.next) rs → AreSound net marks flags → AreSound net marks (by_registers rs flags)
registers_sound net marks [] flags on sound = sound
registers_sound net marks (r ∷ rs) flags on sound = registers_sound net marks rs (passed flags r.q r.next) on.1 (pass_sound net marks flags r.q r.next on.0 sound)

first_sound : (net : PlainNet) (marks : List Mark) → AreSound net marks (first_flags net marks)
first_sound net marks w h =
    let n = length net.wires in
    elim (cases_lt w n) [
      | inl lt ↦ ([], tt, sym (get_or-map-range_with_len (is_secure_bit net marks) 0 n w w false lt (zero-add w)) ∙ h)
      | inr ge ↦ absurd (both_ways (bit_of (first_flags net marks) w) (get_or_past (first_flags net marks) w false (let long = length-map-range_with_len (is_secure_bit net marks) 0 n in omega (arith, long, ge))) h)
    ]

flags_sound : (net : PlainNet) (marks : List Mark) → AreSound net marks (wire_flags net marks)
flags_sound net marks =
    let lines = all_places (λ l. DependsBy net l.0 l.1) net.lines (line_depends net) in
    let registers = all_places (λ r. DependsBy net r.q r.next) net.registers (register_depends net) in
    let once = lines_sound net marks net.lines (first_flags net marks) lines (first_sound net marks) in
    let stored = registers_sound net marks net.registers (by_lines net.lines (first_flags net marks)) registers once in
    lines_sound net marks net.lines (by_registers net.registers (by_lines net.lines (first_flags net marks))) lines stored

-- ---- what is secret is flagged

-- bits of secure inputs are flagged, and a wire that depends on a flagged one
abbrev starts : PlainNet → List Mark → List Bool → ℕ → Bool
starts net marks flags w = not (is_secure_bit net marks w) || bit_of flags w

abbrev goes_on : List Bool → (w : ℕ) → Formula → ℕ → Bool
goes_on flags w f v = not (bit_of flags v && stands v f) || bit_of flags w

abbrev does_pass : ℕ → List Bool → (w : ℕ) → Formula → Bool
does_pass n flags w f = list_all (goes_on flags w f) (range_with_len 0 n)

abbrev do_pass : PlainNet → List Bool → Bool
do_pass net flags =
    list_all (λ l. does_pass (length net.wires) flags l.0 l.1) net.lines && list_all (λ r. does_pass (length net.wires) flags r.q r.next) net.registers

abbrev do_start : PlainNet → List Mark → List Bool → Bool
do_start net marks flags = list_all (starts net marks flags) (range_with_len 0 (length net.wires))

abbrev are_closed : PlainNet → List Mark → List Bool → Bool
are_closed net marks flags = (length flags == length net.wires) && (do_start net marks flags && do_pass net flags)

abbrev pub are_flags : PlainNet → List Mark → Bool
are_flags net marks = are_closed net marks (wire_flags net marks)

went_on : (n : ℕ) (flags : List Bool) (w : ℕ) (f : Formula) (v : ℕ) → length flags ≡ n → IsTrue (does_pass n flags w f) → IsTrue (bit_of flags v) → IsTrue (stands v f) → IsTrue (bit_of flags w)
went_on n flags w f v long h on is =
    let within = bit_within flags v on in
    if_on (bit_of flags v && stands v f) (bit_of flags w) (each_passes (goes_on flags w f) n v h (omega (arith, within, long))) (and_from (bit_of flags v) (stands v f) on is)

-- one step of a chain
stepped : (net : PlainNet) (flags : List Bool) → length flags ≡ length net.wires → IsTrue (do_pass net flags) → (w v : ℕ) → IsTrue (depends net w v) → IsTrue (bit_of flags v) → IsTrue (bit_of flags w)
stepped net flags long h w v step on =
    let lines = list_all (λ l. does_pass (length net.wires) flags l.0 l.1) net.lines in
    let registers = list_all (λ r. does_pass (length net.wires) flags r.q r.next) net.registers in
    let parts = and_parts lines registers h in
    elim (or_cases (reads net w v) (list_any (λ r. (r.q == w) && stands v r.next) net.registers) step) [
      | inl read ↦ (
          let found = place_of_any (λ (l : Line). (l.0 == w) && stands v l.1) net.lines read in
          let both = and_parts (found.1.0 == w) (stands v found.1.1) found.3 in
          let own = all_of_one (λ (l : Line). IsTrue (does_pass (length net.wires) flags l.0 l.1)) net.lines found.0 found.1 (all_by (λ (l : Line). does_pass (length net.wires) flags l.0 l.1) net.lines parts.0) found.2 in
          subst (λ u. IsTrue (bit_of flags u)) (eqb-true found.1.0 w both.0) (went_on (length net.wires) flags found.1.0 found.1.1 v long own on both.1))
      | inr stored ↦ (
          let found = place_of_any (λ (r : Stored). (r.q == w) && stands v r.next) net.registers stored in
          let both = and_parts (found.1.q == w) (stands v found.1.next) found.3 in
          let own = all_of_one (λ (r : Stored). IsTrue (does_pass (length net.wires) flags r.q r.next)) net.registers found.0 found.1 (all_by (λ (r : Stored). does_pass (length net.wires) flags r.q r.next) net.registers parts.1) found.2 in
          subst (λ u. IsTrue (bit_of flags u)) (eqb-true found.1.q w both.0) (went_on (length net.wires) flags found.1.q found.1.next v long own on both.1))
    ]

-- a bit of a port is a wire of the net
all_flagged : (net : PlainNet) (marks : List Mark) (flags : List Bool) → length flags ≡ length net.wires → IsTrue (do_start net marks flags) → IsTrue (do_pass net flags)
    → ((w : ℕ) → IsTrue (is_secure_bit net marks w) → w < length net.wires) → (w : ℕ) (ws : List ℕ) → IsChain (depends net) w ws → IsTrue (is_secure_bit net marks (last_of w ws)) → IsTrue (bit_of flags w)
all_flagged net marks flags long first pass within w [] chain start =
    if_on (is_secure_bit net marks w) (bit_of flags w) (each_passes (starts net marks flags) (length net.wires) w first (within w start)) start
all_flagged net marks flags long first pass within w (v ∷ vs) chain start = stepped net flags long pass w v chain.0 (all_flagged net marks flags long first pass within v vs chain.1 start)

wires_told : (net : PlainNet) (marks : List Mark) → ((w : ℕ) → IsTrue (is_secure_bit net marks w) → w < length net.wires) → IsTrue (are_flags net marks) → AreWireSecrets net marks (wire_flags net marks)
wires_told net marks within h =
    let flags = wire_flags net marks in
    let one = and_parts (length flags == length net.wires) (do_start net marks flags && do_pass net flags) h in
    let two = and_parts (do_start net marks flags) (do_pass net flags) one.1 in
    let long = eqb-true (length flags) (length net.wires) one.0 in
    record {
      one_each = long;
      tells = λ w. ((λ flag. flags_sound net marks w flag), (λ is. all_flagged net marks flags long two.0 two.1 within w is.0 is.1 is.2));
    }

-- a bit of a secure input port is a wire of the net
secure_within : (net : PlainNet) (marks : List Mark) → WellFormed net → (w : ℕ) → IsTrue (is_secure_bit net marks w) → w < length net.wires
secure_within net marks well w h =
    let bits = secure_bits net.ports marks in
    let found = place_of_any (λ v. v == w) bits (starts_are w net.ports marks ∙ h) in
    let within : get_or bits found.0 0 < length net.wires = starts_fit net marks well found.0 0 (slice_get_within bits found.0 found.1 found.2) in
    let is = get_or_from_slice_get bits found.0 found.1 0 found.2 in
    let same = eqb-true found.1 w found.3 in omega (arith, within, is, same)

-- the flags of nodes, one after another
abbrev flagged : (inputs registers : List Bool) → List Bool → List Node → List Bool
flagged inputs registers done [] = done
flagged inputs registers done (n ∷ ns) = flagged inputs registers (done ++ is_secret inputs registers (bit_of done) n ∷ []) ns

abbrev pub secrets_by : PlainNet → List Mark → List Node → (secret : List Bool) → Secrets
secrets_by net marks nodes secret =
    let inputs = flags_of secret (input_bits net) in
    let registers = flags_of secret (map (λ r. r.q) net.registers) in
    record {
      inputs = inputs;
      registers = registers;
      nodes = flagged inputs registers [] nodes;
      ports = map (λ e. is_shared secret e.0 e.1) (zip net.ports marks);
    }

abbrev pub secrets_of : PlainNet → List Mark → Graph → Secrets
secrets_of net marks graph = secrets_by net marks graph.nodes (wire_flags net marks)

abbrev same_flag : Bool → Bool → Bool
same_flag true b = b
same_flag false b = not b

flags_same : (a b : Bool) → IsTrue (same_flag a b) → a ≡ b
flags_same true b h = sym h
flags_same false b h = sym (not-true b h)

abbrev does_spread : Secrets → ℕ → Node → Bool
does_spread s k n = same_flag (bit_of s.nodes k) (is_secret s.inputs s.registers (bit_of s.nodes) n)

abbrev pub do_spread : List Node → Secrets → Bool
do_spread nodes s = (length s.nodes == length nodes) && each_node (does_spread s) nodes

spread : (nodes : List Node) (s : Secrets) → IsTrue (do_spread nodes s) → AreNodeSecrets nodes s.inputs s.registers s.nodes
spread nodes s h =
    let parts = and_parts (length s.nodes == length nodes) (each_node (does_spread s) nodes) h in
    record {
      one_each = eqb-true (length s.nodes) (length nodes) parts.0;
      spread = λ k n at. flags_same (bit_of s.nodes k) (is_secret s.inputs s.registers (bit_of s.nodes) n) (node_passes (does_spread s) nodes parts.1 k n at);
    }

pub are_secrets : (net : PlainNet) (marks : List Mark) (graph : Graph) → WellFormed net → IsOrder net.lines (places net) → IsGraphOf net graph → ClockIsOpen net marks → length marks ≡ length net.ports
    → IsTrue (are_flags net marks) → IsTrue (do_spread graph.nodes (secrets_of net marks graph)) → SecretsOf net graph marks (secrets_of net marks graph)
are_secrets net marks graph well order is clock marked flags nodes =
    secrets_found net graph marks (wire_flags net marks) (secrets_of net marks graph) well (ordered_no_loop net (places net) order) clock marked is
    (wires_told net marks (secure_within net marks well) flags)
    (record { inputs = refl; registers = refl; fits = spread graph.nodes (secrets_of net marks graph) nodes; ports = refl })
