-- Marks of clock wires, wire by wire.
use Rattle.std.proofs.Common.{◌≡◌, ◌≢◌, ℕ, zero, suc, ◌+◌, ◌-◌, ◌<◌, ◌≤◌, Bool, true, false, ◌&&◌, cond, Option, Some, None, List, [], ◌∷◌, ◌++◌, length, get_or, set, map, replicate, refl, sym, ap, subst, ◌∙◌, arith, IsTrue}
use Rattle.std.specs.List.{list_any, list_all}
use Rattle.std.specs.Option.{option_map_or}
use Rattle.std.specs.Prelude.{slice_get, nat_lt, ◌==◌, slice_index}
use Rattle.std.proofs.Math.Seq.{get_or-append_seam}
use Rattle.std.proofs.lemmas.Bool.{cases_Bool, cases_order, cases_eq, both_ways, eq-eqb, eqb-true, ltb-true, cases_lt}
use Rattle.std.proofs.lemmas.Grind.{get_or-set_at}
use Rattle.std.proofs.lemmas.List.{length-append, length-set, get_or-set_same, get_or-set_other, get_or_past, get_or_append_left, length-replicate}
use Rattle.std.proofs.lemmas.Option.{slice_get-get_or, slice_get_within}
use mathlib.Core.Logic.{⊎_elim}
use Rattle.agm_net.specs.Formula.{formula_of, reads_below}
use Rattle.agm_net.specs.Loop.{IsChain, last_of}
use Rattle.agm_net.specs.Plain.{PlainNet, line_of, clock_bits, bits_of_port, bit_names}
use Rattle.agm_net.specs.View.{plain_of}
use Rattle.agm_net.specs.WellFormed.{PortsAreRight}
use Rattle.agm_net.specs.declared.expr.Equation.{Equation}
use Rattle.agm_net.specs.declared.net.Net.{Net}
use Rattle.agm_net.specs.declared.port.Port.{Port}
use Rattle.annotations.specs.Clocked.{is_alone, copies, is_clock_bit, IsClockWire}
use Rattle.annotations.specs.Spread.{copies_at, IsLast, IsIndex, is_set, unset, queue_after, AreReached, HasGrown, wire_at, MarkedFrom, AreDone, AreClockWires}

set_here : (marks : List Bool) (w : ℕ) → w < length marks → is_set (set marks w true) w ≡ true
set_here marks w within = get_or-set_same marks w true false within

-- a marked wire is one
pub set_within : (marks : List Bool) (k : ℕ) → is_set marks k ≡ true → k < length marks
set_within marks k h = ⊎_elim (λ lt. lt) (λ le. absurd (let past = get_or_past marks k false le in both_ways (is_set marks k) past h)) (cases_lt k (length marks))

set_keeps : (marks : List Bool) (w v : ℕ) → is_set marks v ≡ true → is_set (set marks w true) v ≡ true
set_keeps marks w v holds =
    ⊎_elim
    (λ same. get_or-set_at marks w v true false same (subst (λ (k : ℕ). k < length marks) same (set_within marks v holds)))
    (λ differ. get_or-set_other marks w v true false differ ∙ holds)
    (cases_eq v w)

set_only : (marks : List Bool) (w v : ℕ) → v ≢ w → is_set (set marks w true) v ≡ true → is_set marks v ≡ true
set_only marks w v differ holds = sym (get_or-set_other marks w v true false differ) ∙ holds

unset_less : (marks : List Bool) (w : ℕ) → w < length marks → is_set marks w ≡ false → unset (set marks w true) + 1 ≡ unset marks
unset_less [] w within fails = absurd (omega arith)
unset_less (true ∷ ms) zero within fails = absurd (cc)
unset_less (false ∷ ms) zero within fails = refl
unset_less (true ∷ ms) (suc w) within fails = unset_less ms w (omega arith) fails
unset_less (false ∷ ms) (suc w) within fails = ap (λ (n : ℕ). n + 1) (unset_less ms w (omega arith) fails)

set_again : (marks : List Bool) (w : ℕ) → is_set marks w ≡ true → set marks w true ≡ marks
set_again [] w holds = refl
set_again (m ∷ ms) zero holds = ap (λ (b : Bool). b ∷ ms) (sym holds)
set_again (m ∷ ms) (suc w) holds = ap (λ (bs : List Bool). m ∷ bs) (set_again ms w holds)

module _ (net : PlainNet) (marks : List Bool) (queue : List ℕ) (w : ℕ) where
  -- one more clock wire
  pub reached_more : w < length net.wires → IsClockWire net w → AreReached net marks queue → AreReached net (set marks w true) (queue_after marks queue w)
  reached_more within clock reached = ⊎_elim known fresh (cases_Bool (is_set marks w))
    where
      known : is_set marks w ≡ true → AreReached net (set marks w true) (queue_after marks queue w)
      known holds = subst (λ (ms : List Bool). AreReached net ms (queue_after marks queue w)) (sym (set_again marks w holds)) (subst (λ (b : Bool). AreReached net marks (cond b queue (queue ++ w ∷ []))) (sym holds) reached)

      longer : length (queue ++ w ∷ []) ≡ length queue + 1
      longer = length-append queue (w ∷ [])

      last : slice_index (queue ++ w ∷ []) (length queue) ≡ w
      last = get_or-append_seam queue w [] 0

      earlier : (j : ℕ) → j < length queue → slice_index (queue ++ w ∷ []) j ≡ slice_index queue j
      earlier j h = get_or_append_left queue (w ∷ []) 0 j h

      queued : (v : ℕ) → is_set (set marks w true) v ≡ true → (j : ℕ) × (j < length (queue ++ w ∷ [])) × (slice_index (queue ++ w ∷ []) j ≡ v)
      queued v holds =
          ⊎_elim
          (λ same. (length queue, omega (arith, longer), last ∙ sym same))
          (λ differ. let q = reached.queued v (set_only marks w v differ holds) in (q.0, (let h = q.1 in omega (arith, longer)), earlier q.0 q.1 ∙ q.2))
          (cases_eq v w)

      marked : (j : ℕ) → j < length (queue ++ w ∷ []) → is_set (set marks w true) (slice_index (queue ++ w ∷ []) j) ≡ true
      marked j h =
          ⊎_elim
          (λ same. subst (λ (k : ℕ). is_set (set marks w true) (slice_index (queue ++ w ∷ []) k) ≡ true) (sym same) (subst (λ (k : ℕ). is_set (set marks w true) k ≡ true) (sym last) (set_here marks w (subst (λ (k : ℕ). w < k) (sym reached.long) within))))
          (λ differ. let before : j < length queue = omega (arith, longer) in
          subst (λ (k : ℕ). is_set (set marks w true) k ≡ true) (sym (earlier j before)) (set_keeps marks w (slice_index queue j) (reached.marked j before)))
          (cases_eq j (length queue))

      fresh : is_set marks w ≡ false → AreReached net (set marks w true) (queue_after marks queue w)
      fresh fails = subst (λ (b : Bool). AreReached net (set marks w true) (cond b queue (queue ++ w ∷ []))) (sym fails) (record {
        long = length-set marks w true ∙ reached.long;
        filled = let less = unset_less marks w (subst (λ (k : ℕ). w < k) (sym reached.long) within) fails in let all = reached.filled in omega (arith, longer);
        sound = λ v holds. ⊎_elim (λ same. subst (λ (k : ℕ). IsClockWire net k) (sym same) clock) (λ differ. reached.sound v (set_only marks w v differ holds)) (cases_eq v w);
        queued = queued;
        marked = marked;
      })

  -- what was marked and queued stays
  pub grown_more : HasGrown marks queue (set marks w true) (queue_after marks queue w)
  grown_more = record { more = λ v holds. set_keeps marks w v holds; longer = longer (is_set marks w); same = λ j h. same (is_set marks w) j h }
    where
      longer : (b : Bool) → length queue ≤ length (cond b queue (queue ++ w ∷ []))
      longer true = omega arith
      longer false = omega (arith, length-append queue (w ∷ []))

      same : (b : Bool) (j : ℕ) → j < length queue → slice_index (cond b queue (queue ++ w ∷ [])) j ≡ slice_index queue j
      same true j h = refl
      same false j h = get_or_append_left queue (w ∷ []) 0 j h

  pub marked_more : w < length net.wires → AreReached net marks queue → is_set (set marks w true) w ≡ true
  marked_more within reached = set_here marks w (subst (λ (k : ℕ). w < k) (sym reached.long) within)

pub grown_same : (marks : List Bool) (queue : List ℕ) → HasGrown marks queue marks queue
grown_same marks queue = record { more = λ v holds. holds; longer = omega arith; same = λ j h. refl }

pub grown_both : (a : List Bool) (p : List ℕ) (b : List Bool) (q : List ℕ) (c : List Bool) (r : List ℕ) → HasGrown a p b q → HasGrown b q c r → HasGrown a p c r
grown_both a p b q c r first second = record {
  more = λ v holds. second.more v (first.more v holds);
  longer = let x = first.longer in let y = second.longer in omega arith;
  same = λ j h. second.same j (let x = first.longer in omega arith) ∙ first.same j h;
}

-- marked copies stay so
pub from_more : (es : List Equation) (v h : ℕ) (a b : List Bool) (p q : List ℕ) → HasGrown a p b q → MarkedFrom es v h a → MarkedFrom es v h b
from_more es v h a b p q grown from e lo holds = grown.more (wire_at es e) (from e lo holds)

-- before any wire is marked
pub none_reached : (net : PlainNet) → AreReached net (replicate (length net.wires) false) []
none_reached net = record {
  long = length-replicate (length net.wires) false;
  filled = all_unset (length net.wires);
  sound = λ w holds. absurd (both_ways (is_set (replicate (length net.wires) false) w) (none_set (length net.wires) w) holds);
  queued = λ w holds. absurd (both_ways (is_set (replicate (length net.wires) false) w) (none_set (length net.wires) w) holds);
  marked = λ j h. absurd (omega arith);
}
  where
    all_unset : (n : ℕ) → unset (replicate n false) + 0 ≡ n
    all_unset zero = refl
    all_unset (suc n) = let rest = all_unset n in omega arith

    none_set : (n w : ℕ) → is_set (replicate n false) w ≡ false
    none_set zero w = refl
    none_set (suc n) zero = refl
    none_set (suc n) (suc w) = none_set n w

-- the wire that equation e sets copies wire v
pub copies_from : (es : List Equation) (e v : ℕ) → copies_at es e v ≡ true → list_any (λ l. (l.0 == wire_at es e) && is_alone v l.1) (map line_of es) ≡ true
copies_from [] e v holds = absurd (cc)
copies_from (q ∷ es) zero v holds = rw (eq-eqb q.wire q.wire refl, holds) refl
copies_from (q ∷ es) (suc e) v holds = ⊎_elim (λ this. rw this refl) (λ other. rw other (copies_from es e v holds)) (cases_Bool ((q.wire == wire_at es e) && is_alone v (formula_of q.expr)))

-- an equation in which wire w copies wire v
pub copy_place : (es : List Equation) (w v : ℕ) → list_any (λ l. (l.0 == w) && is_alone v l.1) (map line_of es) ≡ true → (e : ℕ) × (copies_at es e v ≡ true) × (wire_at es e ≡ w)
copy_place [] w v holds = absurd (cc)
copy_place (q ∷ es) w v holds =
    ⊎_elim
    (λ this. (zero, and_right (q.wire == w) (is_alone v (formula_of q.expr)) this, eqb-true q.wire w (and_left (q.wire == w) (is_alone v (formula_of q.expr)) this)))
    (λ other. let rest = copy_place es w v (rw other at holds) in (suc rest.0, rest.1, rest.2))
    (cases_Bool ((q.wire == w) && is_alone v (formula_of q.expr)))
  where
    and_left : (a b : Bool) → (a && b) ≡ true → a ≡ true
    and_left true b h = refl
    and_left false b h = absurd (cc)

    and_right : (a b : Bool) → (a && b) ≡ true → b ≡ true
    and_right true b h = h
    and_right false b h = absurd (cc)

-- a copy of a clock wire is one
pub clock_copy : (net : Net) (e v : ℕ) → copies_at net.equations e v ≡ true → IsClockWire (plain_of net) v → IsClockWire (plain_of net) (wire_at net.equations e)
clock_copy net e v holds clock = (v ∷ clock.0, (copies_from net.equations e v holds, clock.1), clock.2)

-- each equation's wire is one
pub wire_fits : (es : List Equation) (n e : ℕ) → IsTrue (list_all (λ l. nat_lt l.0 n && reads_below n l.1) (map line_of es)) → e < length es → wire_at es e < n
wire_fits [] n e fit within = absurd (omega arith)
wire_fits (q ∷ es) n zero fit within = ltb-true q.wire n (both_left (nat_lt q.wire n) _ _ fit)
  where
    both_left : (a b c : Bool) → ((a && b) && c) ≡ true → a ≡ true
    both_left true b c h = refl
    both_left false b c h = absurd (cc)
wire_fits (q ∷ es) n (suc e) fit within = wire_fits es n e (last_of_two _ _ fit) (omega arith)
  where
    last_of_two : (a b : Bool) → (a && b) ≡ true → b ≡ true
    last_of_two true b h = h
    last_of_two false b h = absurd (cc)

module _ (net : Net) (marks : List Bool) (queue : List ℕ) (reached : AreReached (plain_of net) marks queue) (done : AreDone net.equations (length queue) marks queue)
    (bits : (w : ℕ) → IsTrue (is_clock_bit (plain_of net) w) → is_set marks w ≡ true) where
  all_marked : (w : ℕ) (ws : List ℕ) → IsChain (copies (plain_of net)) w ws → IsTrue (is_clock_bit (plain_of net) (last_of w ws)) → is_set marks w ≡ true
  all_marked w [] chain bit = bits w bit
  all_marked w (v ∷ vs) chain bit =
      let place = reached.queued v (all_marked v vs chain.1 bit) in
      let copy = copy_place net.equations w v chain.0 in
      let from : MarkedFrom net.equations v 0 marks = subst (λ (u : ℕ). MarkedFrom net.equations u 0 marks) place.2 (done place.0 place.1) in
      subst (λ (u : ℕ). is_set marks u ≡ true) copy.2 (from copy.0 (omega arith) copy.1)

  -- all clock wires are marked, and no others
  pub reached_all : AreClockWires (plain_of net) marks
  reached_all = record { long = reached.long; sound = reached.sound; complete = λ w clock. all_marked w clock.0 clock.1 clock.2 }

-- the bits of a port
pub port_bits_at : (ports : List Port) (c : ℕ) → bits_of_port ports (Some c) ≡ option_map_or (λ (p : Port). p.bits) (slice_get ports c) []
port_bits_at [] zero = refl
port_bits_at [] (suc c) = refl
port_bits_at (p ∷ ps) zero = nil_behind p.bits
  where
    nil_behind : (ks : List ℕ) → ks ++ [] ≡ ks
    nil_behind [] = refl
    nil_behind (k ∷ ks) = ap (λ (js : List ℕ). k ∷ js) (nil_behind ks)
port_bits_at (p ∷ ps) (suc c) = port_bits_at ps c

named_fit : (wires names : List (List ℕ)) (bits : List ℕ) (i : ℕ) → map (slice_get wires) bits ≡ map (λ name. Some name) names → i < length bits → get_or bits i 0 < length wires
named_fit wires names [] i same within = absurd (omega arith)
named_fit wires [] (b ∷ bs) i same within = absurd (cc)
named_fit wires (n ∷ ns) (b ∷ bs) zero same within = slice_get_within wires b n (cc)
named_fit wires (n ∷ ns) (b ∷ bs) (suc i) same within = named_fit wires ns bs i (cc) (omega arith)

-- the bits of the clock's port are wires
pub clock_bit_fits : (net : PlainNet) (bits : List ℕ) (i : ℕ) → bits ≡ clock_bits net → PortsAreRight net → i < length bits → get_or bits i 0 < length net.wires
clock_bit_fits net bits i are right within = subst (λ (bs : List ℕ). get_or bs i 0 < length net.wires) (sym are) (at net.clock (subst (λ (bs : List ℕ). i < length bs) are within))
  where
    inside : (o : Option Port) (c : ℕ) → slice_get net.ports c ≡ o → i < length (option_map_or (λ (p : Port). p.bits) o []) → get_or (option_map_or (λ (p : Port). p.bits) o []) i 0 < length net.wires
    inside None c found h = absurd (omega arith)
    inside (Some p) c found h = named_fit net.wires (bit_names p.name p.range) p.bits i (right.bits_named c p found) h

    at : (o : Option ℕ) → i < length (bits_of_port net.ports o) → get_or (bits_of_port net.ports o) i 0 < length net.wires
    at None h = absurd (omega arith)
    at (Some c) h =
        subst (λ (bs : List ℕ). get_or bs i 0 < length net.wires) (sym (port_bits_at net.ports c))
        (inside (slice_get net.ports c) c refl (subst (λ (bs : List ℕ). i < length bs) (port_bits_at net.ports c) h))

-- whether a bit is among those before place i, and at it
pub bit_is_clock : (net : PlainNet) (bits : List ℕ) (i : ℕ) → bits ≡ clock_bits net → i < length bits → IsClockWire net (get_or bits i 0)
bit_is_clock net bits i are within = ([], tt, ap (λ (bs : List ℕ). list_any (λ d. d == get_or bits i 0) bs) (sym are) ∙ any_at bits i within)
  where
    any_at : (bs : List ℕ) (k : ℕ) → k < length bs → list_any (λ d. d == get_or bs k 0) bs ≡ true
    any_at [] k h = absurd (omega arith)
    any_at (d ∷ ds) zero h = rw (eq-eqb d d refl) refl
    any_at (d ∷ ds) (suc k) h = ⊎_elim (λ here. rw here refl) (λ other. rw other (any_at ds k (omega arith))) (cases_Bool (d == get_or ds k 0))

-- the wire of an equation
pub wire_is : (es : List Equation) (e : ℕ) (d : Equation) → e < length es → wire_at es e ≡ (get_or es e d).wire
wire_is es e d within = ap (λ (o : Option Equation). option_map_or (λ (q : Equation). q.wire) o 0) (slice_get-get_or es e d within)

-- one more copy of a wire
module _ (net : Net) (heads links : List ℕ) (wire number next : ℕ) (marks marks' : List Bool) (queue queue' : List ℕ)
    (index : IsIndex net.equations (length net.wires) heads links) (within : wire < length net.wires) (some : 0 < number) (few : number ≤ length net.equations)
    (here : (e : ℕ) → number ≡ e + 1 → copies_at net.equations e wire ≡ true) (link : next ≡ slice_index links (number - 1)) where
  last : IsLast net.equations wire (number - 1) (slice_index links (number - 1))
  last = index.are_links (number - 1) wire (let long = index.links_long in omega arith) within (here (number - 1) (omega arith))

  pub next_less : next < number
  next_less = let h = last.within in omega arith

  pub next_here : (e : ℕ) → next ≡ e + 1 → copies_at net.equations e wire ≡ true
  next_here e same = last.here e (sym link ∙ same)

  pub next_marked : MarkedFrom net.equations wire number marks → HasGrown marks queue marks' queue' → is_set marks' (wire_at net.equations (number - 1)) ≡ true → MarkedFrom net.equations wire next marks'
  next_marked from grown this e lo copies =
      ⊎_elim
      (λ same. subst (λ (k : ℕ). is_set marks' (wire_at net.equations k) ≡ true) (sym same) this)
      (λ other. ⊎_elim
      (λ before. absurd (both_ways (copies_at net.equations e wire) (last.none_behind e (subst (λ (h : ℕ). h ≤ e) link lo) before) copies))
      (λ behind. grown.more (wire_at net.equations e) (from e (omega arith) copies)) other)
      (cases_order e (number - 1))

-- one more wire of the queue
pub done_more : (es : List Equation) (i : ℕ) (marks marks' : List Bool) (queue queue' : List ℕ) → i < length queue → AreDone es i marks queue → HasGrown marks queue marks' queue' → MarkedFrom es (slice_index queue i) 0 marks' → AreDone es (i + 1) marks' queue'
done_more es i marks marks' queue queue' within done grown this j before =
    ⊎_elim
    (λ same. subst (λ (v : ℕ). MarkedFrom es v 0 marks') (sym (grown.same j (omega arith) ∙ ap (slice_index queue) same)) this)
    (λ other. subst (λ (v : ℕ). MarkedFrom es v 0 marks') (sym (grown.same j (omega arith))) (from_more es (slice_index queue j) 0 marks marks' queue queue' grown (done j (omega arith))))
    (cases_eq j i)
