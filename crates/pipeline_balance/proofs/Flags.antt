-- What the secrets of a net say of its report, and of the kinds of its inputs and outputs.
use Rattle.std.proofs.Common.{◌≡◌, ◌≢◌, ◌<◌, ◌≤◌, ◌+◌, ◌==◌, ◌++◌, ◌↔◌, ℕ, zero, suc, Bool, true, false, not, ◌&&◌, ◌||◌, cond, List, [], ◌∷◌, Option, Some, None, map, filter, length, length-append, replicate, flat_map, take, drop, slice_get, get_or, count_by, IsTrue, Any, refl, sym, ap, ◌∙◌, arith, inl, inr, eq-eqb, bytes_eq}
use Rattle.std.specs.List.{list_any, zip}
use Rattle.std.proofs.lemmas.Bool.{both_ways, cases_Bool, or_left, or_right, and_parts, and_from}
use Rattle.std.proofs.lemmas.List.{length-map, length-replicate, get_or-append-add, get_or-replicate}
use Rattle.std.proofs.lemmas.List.Folds.{list_any-append}
use Rattle.std.proofs.Math.ListN.{get_or-append}
use Rattle.std.proofs.lemmas.Option.{slice_get_within, get_or_from_slice_get}
use Rattle.std.proofs.lemmas.Slice.Eq.{bytes_eq-Decides}
use Rattle.agm_net.specs.Plain.{PlainNet, Stored, is_in, is_input, input_bits, data_ports, ports_but}
use Rattle.agm_net.specs.Secret.{is_secure, IsSecret, depends}
use Rattle.agm_net.specs.WellFormed.{WellFormed, Differ}
use Rattle.agm_net.specs.Run.{d_input, d_register, driver, reads_ever}
use Rattle.agm_net.specs.declared.mark.Mark.{Mark}
use Rattle.agm_net.specs.declared.port.Port.{Port}
use Rattle.agm_net.specs.Formula.{stands, reads_below}
use Rattle.agm_net.specs.Loop.{reads}
use Rattle.agm_net.proofs.Driving.{is_driver, reads_are_wires}
use Rattle.agm_net.proofs.Wires.{registers_fit}
use Rattle.agm_net.proofs.Lists.{items_same, get_image, count_append, count_some, all_of_one, any_at, place_of_any}
use Rattle.logic_graph.specs.Settled.{bit_of}
use Rattle.logic_graph.specs.GraphOf.{Stands, drawing_of, IsGraphOf, output_bits}
use Rattle.logic_graph.proofs.Places.{in_append}
use Rattle.logic_graph.specs.declared.graphs.Graph.{Graph}
use Rattle.secrecy_spread.specs.declared.secrets.Secrets.{Secrets}
use Rattle.secrecy_spread.specs.SecretsOf.{IsSharedPort, SecretsOf}
use Rattle.secrecy_spread.proofs.Agreed.{found_in, same_bool, stood_secret, depends_is, zip_get, get_zip, secure_is, is_output}
use Rattle.share_wiring.specs.Recombine.{is_shared}
use Rattle.share_wiring.specs.ReportOf.{IsShared, SharedNames, none, shared, public, ReportOf}
use Rattle.share_wiring.specs.Same.{TellsSecrets}
use Rattle.share_wiring.specs.declared.report.Report.{Report}
use Rattle.share_wiring.specs.declared.report.Mode.{Mode}
use Rattle.share_wiring.specs.declared.report.Balance.TheVariants.{Pipe}
use Rattle.level_plan.specs.declared.plans.Plan.{Plan}
use Rattle.pipeline_balance.specs.Entered.{shared_bits}
use Rattle.pipeline_balance.specs.LedOut.{shared_output_bits}
use Rattle.pipeline_balance.specs.Reporting.{flagged_names, pipe_report}
use Rattle.pipeline_balance.proofs.Originals.{found}

-- ---- the names of ports with a flag

names_same : (x y : List ℕ) → x ≡ y → bytes_eq x y ≡ true
names_same x y = (bytes_eq-Decides x y).1

names_other : (x y : List ℕ) → x ≢ y → bytes_eq x y ≡ false
names_other x y other = elim (cases_Bool (bytes_eq x y)) [ inl same ↦ absurd (other ((bytes_eq-Decides x y).0 same)) | inr differs ↦ differs ]

none_named : (name : List ℕ) (flags : List Bool) (ports : List Port) → ((n : ℕ) (q : Port) → slice_get ports n ≡ Some q → q.name ≢ name) → list_any (λ n. bytes_eq n name) (flagged_names flags ports) ≡ false
none_named name [] ports other = refl
none_named name (f ∷ fs) [] other = refl
none_named name (true ∷ fs) (q ∷ qs) other = rw (names_other q.name name (other 0 q refl)) (none_named name fs qs (λ n. other (suc n)))
none_named name (false ∷ fs) (q ∷ qs) other = none_named name fs qs (λ n. other (suc n))

first_named : (flag : Bool) (own name : List ℕ) (rest : List (List ℕ)) → bytes_eq own name ≡ true → list_any (λ n. bytes_eq n name) rest ≡ false → list_any (λ n. bytes_eq n name) (cond flag (own ∷ []) [] ++ rest) ≡ flag
first_named true own name rest here others = or_left (bytes_eq own name) (list_any (λ n. bytes_eq n name) rest) here
first_named false own name rest here others = others

later_named : (flag : Bool) (own name : List ℕ) (rest : List (List ℕ)) → bytes_eq own name ≡ false → list_any (λ n. bytes_eq n name) (cond flag (own ∷ []) [] ++ rest) ≡ list_any (λ n. bytes_eq n name) rest
later_named true own name rest other = ap (λ b. b || list_any (λ n. bytes_eq n name) rest) other
later_named false own name rest other = refl

-- port k is among them where it has a flag
pub named_at : (flags : List Bool) (ports : List Port) → Differ (map (λ p. p.name) ports) → length flags ≡ length ports → (k : ℕ) (p : Port) → slice_get ports k ≡ Some p
    → list_any (λ n. bytes_eq n p.name) (flagged_names flags ports) ≡ bit_of flags k
named_at [] [] differ long k p at = absurd (let no : None ≡ Some p = at in cc)
named_at [] (q ∷ qs) differ long k p at = absurd (omega (arith, long))
named_at (f ∷ fs) [] differ long k p at = absurd (omega (arith, long))
named_at (f ∷ fs) (q ∷ qs) differ long zero p at =
    let is : q ≡ p = cc in
    let len = length-map qs (λ (x : Port). x.name) in
    let others = none_named p.name fs qs (λ n r there same. (
    let lt = slice_get_within qs n r there in
    differ 0 (suc n) (omega arith) (omega (arith, lt, len)) (ap (λ (x : Port). Some x.name) is ∙ (ap Some (sym same) ∙ sym (get_image (λ (x : Port). x.name) qs n r there))))) in
    first_named f q.name p.name (flagged_names fs qs) (names_same q.name p.name (ap (λ (x : Port). x.name) is)) others
named_at (f ∷ fs) (q ∷ qs) differ long (suc k) p at =
    let rest = named_at fs qs (λ v w lt lw. differ (suc v) (suc w) (omega (arith, lt)) (omega (arith, lw))) (omega (arith, long)) k p at in
    let lt = slice_get_within qs k p at in
    let len = length-map qs (λ (x : Port). x.name) in
    let other : q.name ≢ p.name = λ same. differ 0 (suc k) (omega arith) (omega (arith, lt, len)) (ap Some same ∙ sym (get_image (λ (x : Port). x.name) qs k p at)) in
    later_named f q.name p.name (flagged_names fs qs) (names_other q.name p.name other) ∙ rest

shared_names : (net : PlainNet) (marks : List Mark) (ports : List Port) (kinds : List Mark) (flags : List Bool) → length kinds ≡ length ports → length flags ≡ length ports
    → ((n : ℕ) (p : Port) (m : Mark) → slice_get ports n ≡ Some p → slice_get kinds n ≡ Some m → IsTrue (bit_of flags n) ↔ IsShared net marks p m) → SharedNames net marks ports kinds (flagged_names flags ports)
shared_names net marks [] [] [] a b tells = none
shared_names net marks [] [] (f ∷ fs) a b tells = absurd (omega (arith, b))
shared_names net marks [] (m ∷ ms) flags a b tells = absurd (omega (arith, a))
shared_names net marks (p ∷ ps) [] flags a b tells = absurd (omega (arith, a))
shared_names net marks (p ∷ ps) (m ∷ ms) [] a b tells = absurd (omega (arith, b))
shared_names net marks (p ∷ ps) (m ∷ ms) (true ∷ fs) a b tells = shared ((tells 0 p m refl refl).0 refl) (shared_names net marks ps ms fs (omega (arith, a)) (omega (arith, b)) (λ n. tells (suc n)))
shared_names net marks (p ∷ ps) (m ∷ ms) (false ∷ fs) a b tells =
    public (λ h. (let no : false ≡ true = (tells 0 p m refl refl).1 h in absurd (cc))) (shared_names net marks ps ms fs (omega (arith, a)) (omega (arith, b)) (λ n. tells (suc n)))

-- ---- the bits of ports

-- the port of a bit, and what is said of it for each of its bits
pub port_of_bit : {X : Type 0} (d : X) (flag : Port → X) (ps : List Port) (i w : ℕ) → slice_get (flat_map (λ p. p.bits) ps) i ≡ Some w
    → (n : ℕ) × (p : Port) × (j : ℕ) × (slice_get ps n ≡ Some p) × (slice_get p.bits j ≡ Some w) × (get_or (flat_map (λ q. replicate (length q.bits) (flag q)) ps) i d ≡ flag p)
port_of_bit {X} d flag [] i w at = absurd (let no : None ≡ Some w = at in cc)
port_of_bit {X} d flag (p ∷ ps) i w at =
    let mine = replicate (length p.bits) (flag p) in
    let rest = flat_map (λ (q : Port). replicate (length q.bits) (flag q)) ps in
    let many = length-replicate (length p.bits) (flag p) in
    elim (in_append p.bits (flat_map (λ (q : Port). q.bits) ps) i w at) [
      | inl here ↦ (
          let lt = slice_get_within p.bits i w here in
          (0, p, i, refl, here, get_or-append mine rest d i (omega (arith, lt, many)) ∙ get_or-replicate (length p.bits) i (flag p) d lt))
      | inr later ↦ (
          let more = port_of_bit d flag ps later.0 w later.2 in
          let place : i ≡ length mine + later.0 = (let e = later.1 in omega (arith, e, many)) in
          (suc more.0, more.1, more.2, more.3, more.4, ap (λ k. get_or (mine ++ rest) k d) place ∙ (get_or-append-add mine rest later.0 d ∙ more.5)))
    ]

pub flags_long : {X : Type 0} (flag : Port → X) (ps : List Port) → length (flat_map (λ q. replicate (length q.bits) (flag q)) ps) ≡ length (flat_map (λ p. p.bits) ps)
flags_long flag [] = refl
flags_long flag (p ∷ ps) =
    let rest = flags_long flag ps in
    let many = length-replicate (length p.bits) (flag p) in
    let a = length-append (replicate (length p.bits) (flag p)) (flat_map (λ (q : Port). replicate (length q.bits) (flag q)) ps) in
    let b = length-append p.bits (flat_map (λ (q : Port). q.bits) ps) in
    omega (arith, rest, many, a, b)

-- a port that passes a test among some is one of them
pub kept_get : (test : Port → Bool) (ps : List Port) (n : ℕ) (p : Port) → slice_get (filter test ps) n ≡ Some p → (m : ℕ) × (slice_get ps m ≡ Some p) × IsTrue (test p)
kept_get test [] n p at = absurd (let no : None ≡ Some p = at in cc)
kept_get test (q ∷ qs) n p at = by (kept_get test qs) (test q) refl n at
  where
    by : ((n : ℕ) (p : Port) → slice_get (filter test qs) n ≡ Some p → (m : ℕ) × (slice_get qs m ≡ Some p) × IsTrue (test p)) → (b : Bool) → test q ≡ b
        → (n : ℕ) → slice_get (cond b (q ∷ filter test qs) (filter test qs)) n ≡ Some p → (m : ℕ) × (slice_get (q ∷ qs) m ≡ Some p) × IsTrue (test p)
    by later true e zero h = (let is : q ≡ p = cc in (0, h, sym (ap test is) ∙ e))
    by later true e (suc n) h = (let more = later n p h in (suc more.0, more.1, more.2))
    by later false e n h = (let more = later n p h in (suc more.0, more.1, more.2))

-- a port that is not the clock's is one of the ports
pub data_get : (clock : Option ℕ) (ports : List Port) (n : ℕ) (p : Port) → slice_get (ports_but clock ports) n ≡ Some p → (k : ℕ) × (slice_get ports k ≡ Some p)
data_get None ports n p at = (n, at)
data_get (Some c) ports n p at = elim (in_append (take c ports) (drop (c + 1) ports) n p at) [
  | inl front ↦ (n, taken c ports n front)
  | inr behind ↦ dropped (c + 1) ports behind.0 behind.2
]
  where
    taken : (c : ℕ) (ps : List Port) (n : ℕ) → slice_get (take c ps) n ≡ Some p → slice_get ps n ≡ Some p
    taken zero ps n h = absurd (let bad : None ≡ Some p = h in cc)
    taken (suc c) [] n h = absurd (let bad : None ≡ Some p = h in cc)
    taken (suc c) (q ∷ qs) zero h = h
    taken (suc c) (q ∷ qs) (suc n) h = taken c qs n h

    dropped : (c : ℕ) (ps : List Port) (n : ℕ) → slice_get (drop c ps) n ≡ Some p → (k : ℕ) × (slice_get ps k ≡ Some p)
    dropped zero ps n h = (n, h)
    dropped (suc c) [] n h = absurd (let bad : None ≡ Some p = h in cc)
    dropped (suc c) (q ∷ qs) n h = (let more = dropped c qs n h in (suc more.0, more.1))

-- ---- a wire is a bit of one port

abbrev has_bit : ℕ → Port → Bool
has_bit w p = list_any (λ b. b == w) p.bits

some_bit : (ps : List Port) (k w : ℕ) (p : Port) → slice_get ps k ≡ Some p → IsTrue (has_bit w p) → IsTrue (list_any (λ b. b == w) (flat_map (λ q. q.bits) ps))
some_bit [] k w p at h = absurd (let no : None ≡ Some p = at in cc)
some_bit (q ∷ qs) zero w p at h =
    let is : q ≡ p = cc in
    list_any-append (λ b. b == w) q.bits (flat_map (λ r. r.bits) qs) ∙ or_left (has_bit w q) (list_any (λ b. b == w) (flat_map (λ r. r.bits) qs)) (ap (has_bit w) is ∙ h)
some_bit (q ∷ qs) (suc k) w p at h =
    list_any-append (λ b. b == w) q.bits (flat_map (λ r. r.bits) qs) ∙ or_right (has_bit w q) (list_any (λ b. b == w) (flat_map (λ r. r.bits) qs)) (some_bit qs k w p at h)

same_port : (ps : List Port) (w : ℕ) → count_by (λ b. b == w) (flat_map (λ q. q.bits) ps) ≤ 1 → (n k : ℕ) (p q : Port) → slice_get ps n ≡ Some p → slice_get ps k ≡ Some q → IsTrue (has_bit w p) → IsTrue (has_bit w q) → n ≡ k
same_port [] w one n k p q at there h g = absurd (let no : None ≡ Some p = at in cc)
same_port (r ∷ rs) w one zero zero p q at there h g = refl
same_port (r ∷ rs) w one zero (suc k) p q at there h g =
    let is : r ≡ p = cc in
    let both = count_append (λ b. b == w) r.bits (flat_map (λ x. x.bits) rs) in
    let first = count_some (λ b. b == w) r.bits (ap (has_bit w) is ∙ h) in
    let later = count_some (λ b. b == w) (flat_map (λ x. x.bits) rs) (some_bit rs k w q there g) in
    absurd (omega (arith, one, both, first, later))
same_port (r ∷ rs) w one (suc n) zero p q at there h g =
    let is : r ≡ q = cc in
    let both = count_append (λ b. b == w) r.bits (flat_map (λ x. x.bits) rs) in
    let first = count_some (λ b. b == w) r.bits (ap (has_bit w) is ∙ g) in
    let later = count_some (λ b. b == w) (flat_map (λ x. x.bits) rs) (some_bit rs n w p at h) in
    absurd (omega (arith, one, both, first, later))
same_port (r ∷ rs) w one (suc n) (suc k) p q at there h g =
    let both = count_append (λ b. b == w) r.bits (flat_map (λ x. x.bits) rs) in
    ap suc (same_port rs w (omega (arith, one, both)) n k p q at there h g)

-- whether a port is an input that is marked secure, and a wire is a bit of it
abbrev secures : ℕ → Port × Mark → Bool
secures w e = is_input e.0 && (is_secure e.1 && list_any (λ b. b == w) e.0.bits)

bit_here : (p : Port) (j w : ℕ) → slice_get p.bits j ≡ Some w → IsTrue (has_bit w p)
bit_here p j w at = any_at (λ b. b == w) p.bits j w at (eq-eqb w w refl)

-- ---- what is secret

module _ (net : PlainNet) (graph : Graph) (marks : List Mark) (s : Secrets) (well : WellFormed net) (graph_of : IsGraphOf net graph) (long : length marks ≡ length net.ports) (of : SecretsOf net graph marks s) where
  -- only one list tells the secret registers
  pub only_secrets : (secrets : List Bool) → TellsSecrets net marks secrets → secrets ≡ s.registers
  only_secrets secrets tells =
      let count = tells.one_each in
      let count' = of.registers.one_each in
      let qs = length-map net.registers (λ (r : Stored). r.q) in
      items_same false secrets s.registers (omega (arith, count, count', qs)) (λ n lt. (
      let r = found net.registers n (omega (arith, lt, count)) in
      let told = tells.tells n r.0 r.1 in
      let told' = of.registers.tells n r.0.q (get_image (λ (x : Stored). x.q) net.registers n r.0 r.1) in
      same_bool (get_or secrets n false) (get_or s.registers n false) (λ h. told'.1 (told.0 h)) (λ h. told.1 (told'.0 h))))

  mark_of : (k : ℕ) (p : Port) → slice_get net.ports k ≡ Some p → (m : Mark) × (slice_get marks k ≡ Some m)
  mark_of k p at = (let lt = slice_get_within net.ports k p at in found marks k (omega (arith, lt, long)))

  -- the report's names are those of the shared ports
  pub ports_named : SharedNames net marks net.ports marks (flagged_names s.ports net.ports)
  ports_named = shared_names net marks net.ports marks s.ports long of.one_port_each of.ports

  pub port_named : (k : ℕ) (p : Port) → slice_get net.ports k ≡ Some p → list_any (λ n. bytes_eq n p.name) (flagged_names s.ports net.ports) ≡ bit_of s.ports k
  port_named k p at = (let right = well.ports_right in named_at s.ports net.ports right.ports_differ of.one_port_each k p at)

  pub pipe_reports : (plan : Plan) (mode : Mode) (order : ℕ) → ReportOf net marks order mode Pipe plan.gadgets plan.depth (pipe_report s plan net.ports mode order)
  pipe_reports plan mode order = record {
    order_is = refl;
    mode_is = refl;
    balance_is = refl;
    gadgets_are = refl;
    random_is = refl;
    latency_is = refl;
    period_is = refl;
    streams_are = refl;
    registers_are = λ secrets tells. (let is = only_secrets secrets tells in (ap (count_by (λ b. b)) (sym is), ap (count_by not) (sym is)));
    ports_are = ports_named;
  }

  -- a bit of an input port is secret where the port is shared
  input_marked : (i w k j : ℕ) (p : Port) (m : Mark) → slice_get (input_bits net) i ≡ Some w → slice_get net.ports k ≡ Some p → slice_get p.bits j ≡ Some w → slice_get marks k ≡ Some m → IsSecret net marks w → IsSharedPort net marks p m
  input_marked i w k j p m at there bit mark ([], chain, secure) =
      let hit = place_of_any (secures w) (zip net.ports marks) secure in
      let q = hit.1.0 in
      let n = hit.1.1 in
      let both = and_parts (is_input q) (is_secure n && has_bit w q) hit.3 in
      let rest = and_parts (is_secure n) (has_bit w q) both.1 in
      let here = zip_get net.ports marks hit.0 q n hit.2 in
      let right = well.ports_right in
      let one = right.one_port w in
      let same : hit.0 ≡ k = same_port net.ports w one hit.0 k q p here.0 there rest.1 (bit_here p j w bit) in
      let alike : Some n ≡ Some m = sym here.1 ∙ (ap (slice_get marks) same ∙ mark) in
      let mine : n ≡ m = cc in
      inl (sym mine ∙ secure_is n rest.0)
  input_marked i w k j p m at there bit mark (v ∷ vs, chain, secure) =
      let is = is_driver net well (d_input i) w at in
      let read = depends_is net well w v chain.0 in
      absurd (let no : false ≡ true = sym (ap (λ d. reads_ever d v) is) ∙ read in cc)

  input_secret : (w k j : ℕ) (p : Port) (m : Mark) → slice_get net.ports k ≡ Some p → IsTrue (is_input p) → slice_get p.bits j ≡ Some w → slice_get marks k ≡ Some m → IsSharedPort net marks p m → IsSecret net marks w
  input_secret w k j p m there input bit mark (inl secure) = (
    [],
    tt,
    any_at (secures w) (zip net.ports marks) k (p, m) (get_zip net.ports marks k p m there mark)
        (and_from (is_input p) (is_secure m && has_bit w p) input (and_from (is_secure m) (has_bit w p) (ap is_secure secure) (bit_here p j w bit))),
  )
  input_secret w k j p m there input bit mark (inr output) = absurd (let no : false ≡ true = sym (ap is_in output.0) ∙ input in cc)

  input_told : (i w k j : ℕ) (p : Port) → slice_get (input_bits net) i ≡ Some w → slice_get net.ports k ≡ Some p → IsTrue (is_input p) → slice_get p.bits j ≡ Some w → bit_of s.inputs i ≡ bit_of s.ports k
  input_told i w k j p at there input bit =
      let m = mark_of k p there in
      same_bool (bit_of s.inputs i) (bit_of s.ports k)
      (λ h. (of.ports k p m.0 there m.1).1 (input_marked i w k j p m.0 at there bit m.1 ((of.inputs.tells i w at).0 h)))
      (λ h. (of.inputs.tells i w at).1 (input_secret w k j p m.0 there input bit m.1 ((of.ports k p m.0 there m.1).0 h)))

  module _ (report : Report) (shares : (k : ℕ) (p : Port) → slice_get net.ports k ≡ Some p → is_shared report p.name ≡ bit_of s.ports k) where
    input_at : (i w n j : ℕ) (p : Port) → slice_get (input_bits net) i ≡ Some w → slice_get (filter is_input (data_ports net)) n ≡ Some p → slice_get p.bits j ≡ Some w
        → get_or (shared_bits net report) i false ≡ is_shared report p.name → get_or s.inputs i false ≡ get_or (shared_bits net report) i false
    input_at i w n j p here there bit flag =
        let kept = kept_get is_input (data_ports net) n p there in
        let at = data_get net.clock net.ports kept.0 p kept.1 in
        input_told i w at.0 j p here at.1 kept.2 bit ∙ (sym (shares at.0 p at.1) ∙ sym flag)

    -- so the inputs are as secret as their ports are shared
    pub inputs_are : s.inputs ≡ shared_bits net report
    inputs_are =
        let count = of.inputs.one_each in
        let many = flags_long (λ p. is_shared report p.name) (filter is_input (data_ports net)) in
        items_same false s.inputs (shared_bits net report) (omega (arith, count, many)) (λ i lt. (
        let w = found (input_bits net) i (omega (arith, lt, count)) in
        let port = port_of_bit false (λ p. is_shared report p.name) (filter is_input (data_ports net)) i w.0 w.1 in
        input_at i w.0 port.0 port.2 port.1 w.1 port.3 port.4 port.5))

    -- an output bit of a port that is not shared is public, and so is its node
    pub outputs_public : (o : ℕ) → o < length (output_bits net) → get_or (shared_output_bits net report) o true ≡ false → bit_of s.nodes (get_or graph.sinks o 0) ≡ false
    outputs_public o lt bare =
        let w = found (output_bits net) o lt in
        let port = port_of_bit true (λ p. is_shared report p.name) (filter (λ p. not (is_input p)) net.ports) o w.0 w.1 in
        let p = port.1 in
        let kept = kept_get (λ p. not (is_input p)) net.ports port.0 p port.3 in
        let m = mark_of kept.0 p kept.1 in
        let many = graph_of.sinks in
        let k = found graph.sinks o (omega (arith, lt, many)) in
        let node : get_or graph.sinks o 0 ≡ k.0 = get_or_from_slice_get graph.sinks o k.0 0 k.1 in
        let wire : slice_get graph.of_wire w.0 ≡ Some k.0 = sym (graph_of.outputs o w.0 w.1) ∙ k.1 in
        elim (cases_Bool (bit_of s.nodes k.0)) [
          | inl secret ↦ (
              let is = (of.wires w.0 k.0 wire).0 secret in
              let bits : Any (IsSecret net marks) p.bits = (port.2, w.0, slice_get_within p.bits port.2 w.0 port.4, get_or_from_slice_get p.bits port.2 w.0 w.0 port.4, is) in
              let shown : IsTrue (bit_of s.ports kept.0) = (of.ports kept.0 p m.0 kept.1 m.1).1 (inr (is_output p kept.2, bits)) in
              let no : false ≡ true = sym bare ∙ (port.5 ∙ (shares kept.0 p kept.1 ∙ shown)) in
              absurd (cc))
          | inr off ↦ ap (bit_of s.nodes) node ∙ off
        ]

  -- a register that stores a formula in which a secret wire stands is secret
  stored_secret : (r v : ℕ) (x : Stored) → slice_get net.registers r ≡ Some x → IsTrue (stands v x.next) → IsTrue (bit_of s.nodes (get_or graph.of_wire v 0)) → IsTrue (bit_of s.registers r)
  stored_secret r v x at stood secret =
      let fit = all_of_one (λ (y : Stored). (y.q < length net.wires) × IsTrue (reads_below (length net.wires) y.next)) net.registers r x (registers_fit net well) at in
      let ever : IsTrue (reads_ever (driver net x.q) v) = ap (λ d. reads_ever d v) (is_driver net well (d_register r x.next) x.q (x, at, refl, refl)) ∙ stood in
      let within = reads_are_wires net well x.q v fit.0 ever in
      let wires = graph_of.wires in
      let k = found graph.of_wire v (omega (arith, within, wires)) in
      let is = (of.wires v k.0 k.1).0 (sym (ap (bit_of s.nodes) (get_or_from_slice_get graph.of_wire v k.0 0 k.1)) ∙ secret) in
      let stored = any_at (λ (y : Stored). (y.q == x.q) && stands v y.next) net.registers r x at (and_from (x.q == x.q) (stands v x.next) (eq-eqb x.q x.q refl) stood) in
      let link : IsTrue (depends net x.q v) = or_right (reads net x.q v) (list_any (λ y. (y.q == x.q) && stands v y.next) net.registers) stored in
      (of.registers.tells r x.q (get_image (λ (y : Stored). y.q) net.registers r x at)).1 (v ∷ is.0, (link, is.1), is.2)

  next_secret : (r m k : ℕ) (x : Stored) → slice_get net.registers r ≡ Some x → Stands (drawing_of graph) m x.next k → IsTrue (bit_of s.nodes k) → IsTrue (bit_of s.registers r)
  next_secret r m k x at stands_at secret =
      let v = found_in (λ w. bit_of s.nodes (get_or graph.of_wire w 0)) x.next (stood_secret graph s.inputs s.registers s.nodes of.fits x.next m k stands_at ∙ secret) in
      stored_secret r v.0 x at v.1 v.2

  -- the next value of a public register is public
  pub nexts_public : (r : ℕ) → r < length net.registers → bit_of s.registers r ≡ false → bit_of s.nodes (get_or graph.sinks (length (output_bits net) + r) 0) ≡ false
  nexts_public r lt bare =
      let x = found net.registers r lt in
      let next = graph_of.next r x.0 x.1 in
      let node : get_or graph.sinks (length (output_bits net) + r) 0 ≡ next.0 = get_or_from_slice_get graph.sinks (length (output_bits net) + r) next.0 0 next.1 in
      elim (cases_Bool (bit_of s.nodes next.0)) [
        | inr off ↦ ap (bit_of s.nodes) node ∙ off
        | inl secret ↦ absurd (both_ways (bit_of s.registers r) bare (next_secret r _ next.0 x.0 x.1 next.2 secret))
      ]
