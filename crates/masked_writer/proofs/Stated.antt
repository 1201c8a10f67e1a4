-- What the members of an object state.
use Rattle.std.proofs.Common.{◌≡◌, ℕ, List, None, Some}
use Rattle.serde_json.specs.Data.{Members, object, no_members}
use Rattle.masked_writer.specs.Report.{versioned_data, opening_members, asked_members, ports_member, count_members, closing_members}
use Rattle.masked_writer.specs.Stated.{States, IsSmall, Takes, Any, Finds, report_of}
use Rattle.share_wiring.specs.declared.report.Balance.{Balance}
use Rattle.share_wiring.specs.declared.report.Mode.{Mode}
use Rattle.share_wiring.specs.declared.report.Report.{Report}

-- the members behind each part
abbrev pub behind_counts : Report → ℕ → Members
behind_counts r v = closing_members r.streams v no_members

abbrev pub behind_ports : Report → ℕ → Members
behind_ports r v = count_members r.public_registers r.random r.secret_registers (behind_counts r v)

abbrev pub behind_asked : Report → ℕ → Members
behind_asked r v = ports_member r.ports (behind_ports r v)

abbrev pub behind_opening : Report → ℕ → Members
behind_opening r v = asked_members r.mode r.order r.period (behind_asked r v)

members_are : (old : Members) (r : Report) (v : ℕ) → States (object old) r v → old ≡ opening_members r.balance r.gadgets r.latency (behind_opening r v)
unfolding versioned_data
members_are old r v s = let is = s.object_is in cc

-- what is left of a report behind what stood first
pub after_opening : (old mid : Members) (t : Balance × ℕ × ℕ) → old ≡ opening_members t.0 t.1 t.2 mid → (r : Report) (v : ℕ) → States (object old) r v → mid ≡ behind_opening r v
after_opening old mid t is r v s = let all = members_are old r v s in cc

pub after_asked : (old mid : Members) (t : Mode × ℕ × ℕ) → old ≡ asked_members t.0 t.1 t.2 mid → (r : Report) (v : ℕ) → old ≡ behind_opening r v → mid ≡ behind_asked r v
after_asked old mid t is r v all = cc

pub after_ports : (old mid : Members) (ports : List (List ℕ)) → old ≡ ports_member ports mid → (r : Report) (v : ℕ) → old ≡ behind_asked r v → mid ≡ behind_ports r v
after_ports old mid ports is r v all = cc

pub after_counts : (old mid : Members) (t : ℕ × ℕ × ℕ) → old ≡ count_members t.0 t.1 t.2 mid → (r : Report) (v : ℕ) → old ≡ behind_ports r v → mid ≡ behind_counts r v
after_counts old mid t is r v all = cc

-- what is not found stands in no report
pub no_opening : (old new : Members) → Takes (λ (t : Balance × ℕ × ℕ). IsSmall t.1 × IsSmall t.2) (λ t. opening_members t.0 t.1 t.2) old None new → (r : Report) (v : ℕ) → States (object old) r v → Prim.⊥
no_opening old new none r v s = none (r.balance, r.gadgets, r.latency) (behind_opening r v) (s.are_small.0, s.are_small.1.0) (members_are old r v s)

pub no_asked : (old new : Members) → Takes (λ (t : Mode × ℕ × ℕ). IsSmall t.1 × IsSmall t.2) (λ t. asked_members t.0 t.1 t.2) old None new → (d : Members) (r : Report) (v : ℕ) → States (object d) r v → old ≡ behind_opening r v → Prim.⊥
no_asked old new none d r v s all = none (r.mode, r.order, r.period) (behind_asked r v) (s.are_small.1.1.0, s.are_small.1.1.1.0) all

pub no_ports : (old new : Members) → Takes Any ports_member old None new → (r : Report) (v : ℕ) → old ≡ behind_asked r v → Prim.⊥
no_ports old new none r v all = none r.ports (behind_ports r v) tt all

pub no_counts : (old new : Members) → Takes (λ (t : ℕ × ℕ × ℕ). IsSmall t.0 × IsSmall t.1 × IsSmall t.2) (λ t. count_members t.0 t.1 t.2) old None new → (d : Members) (r : Report) (v : ℕ) → States (object d) r v → old ≡ behind_ports r v → Prim.⊥
no_counts old new none d r v s all =
    let small = s.are_small.1.1.1.1 in
    none (r.public_registers, r.random, r.secret_registers) (behind_counts r v) (small.0, small.1.0, small.1.1.0) all

pub no_closing : (old : Members) → Finds (λ (t : ℕ × ℕ). IsSmall t.0 × IsSmall t.1) (λ t. object (closing_members t.0 t.1 no_members)) (object old) None → (d : Members) (r : Report) (v : ℕ) → States (object d) r v → old ≡ behind_counts r v → Prim.⊥
no_closing old none d r v s all =
    let small = s.are_small.1.1.1.1.1.1.1 in
    none (r.streams, v) (small.0, small.1.0) (cc)

-- all parts make a report
pub states_all : (a b c d e : Members) (first : Balance × ℕ × ℕ) (second : Mode × ℕ × ℕ) (ports : List (List ℕ)) (third : ℕ × ℕ × ℕ) (last : ℕ × ℕ)
    → Takes (λ (t : Balance × ℕ × ℕ). IsSmall t.1 × IsSmall t.2) (λ t. opening_members t.0 t.1 t.2) a (Some first) b
    → Takes (λ (t : Mode × ℕ × ℕ). IsSmall t.1 × IsSmall t.2) (λ t. asked_members t.0 t.1 t.2) b (Some second) c
    → Takes Any ports_member c (Some ports) d
    → Takes (λ (t : ℕ × ℕ × ℕ). IsSmall t.0 × IsSmall t.1 × IsSmall t.2) (λ t. count_members t.0 t.1 t.2) d (Some third) e
    → Finds (λ (t : ℕ × ℕ). IsSmall t.0 × IsSmall t.1) (λ t. object (closing_members t.0 t.1 no_members)) (object e) (Some last)
    → States (object a) (report_of first second ports third last) last.1
unfolding versioned_data
states_all a b c d e first second ports third last one two three four five =
    let i = one.1 in let j = two.1 in let k = three.1 in let l = four.1 in let m = five.1 in
    record {
      object_is = cc;
      are_small = (one.0.0, (one.0.1, (two.0.0, (two.0.1, (four.0.0, (four.0.1, (four.0.2, (five.0.0, (five.0.1, tt)))))))));
    }
