-- The registers to which shared inputs lead.
use Rattle.std.proofs.Common.{◌≡◌, ◌≢◌, ℕ, zero, suc, Bool, true, false, cond, List, [], ◌∷◌, Option, None, Some, map, slice_get, slice_set, option_map, ap, subst, ◌∙◌}
use Rattle.std.proofs.lemmas.List.{length-map}
use Rattle.std.proofs.lemmas.Option.{slice_get-map}
use Rattle.agm_net.specs.Plain.{PlainNet, Stored}
use Rattle.agm_net.specs.declared.mark.Mark.{Mark}
use Rattle.agm_net.specs.declared.mark.Mark.TheVariants.{Secure, Unmarked, Public, Clock}
use Rattle.agm_net.specs.declared.port.Port.{Port}
use Rattle.logic_graph.specs.declared.graphs.Graph.{Graph}
use Rattle.secrecy_spread.specs.SecretsOf.{SecretsOf}
use Rattle.secrecy_spread.specs.Clock.{ClockIsOpen}
use Rattle.secrecy_spread.specs.Leaks.{Leaks}
use Rattle.secrecy_spread.specs.declared.secrets.Secrets.{Secrets}
use Rattle.share_wiring.specs.Recombine.{is_shared}
use Rattle.share_wiring.specs.Same.{TellsSecrets}
use Rattle.share_wiring.specs.declared.report.Report.{Report}
use Rattle.shared_tape.specs.SharedTape.{named_marks, port_marks, with_clock}

-- the flags of registers
pub registers_told : (net : PlainNet) (graph : Graph) (marks : List Mark) (s : Secrets) → SecretsOf net graph marks s → TellsSecrets net marks s.registers
registers_told net graph marks s secrets =
    record {
      one_each = secrets.registers.one_each ∙ length-map net.registers (λ (q : Stored). q.q);
      tells = λ n r at. secrets.registers.tells n r.q (slice_get-map (λ (q : Stored). q.q) net.registers n ∙ ap (option_map (λ (q : Stored). q.q)) at);
    }

not_public : (b : Bool) → Some (cond b Secure Unmarked) ≢ Some Public
not_public true e = absurd (cc)
not_public false e = absurd (cc)

-- no port is marked public
none_public : (report : Report) (ports : List Port) (n : ℕ) → slice_get (map (λ p. cond (is_shared report p.name) Secure Unmarked) ports) n ≢ Some Public
none_public report [] n e = absurd (cc)
none_public report (p ∷ ps) zero e = not_public (is_shared report p.name) e
none_public report (p ∷ ps) (suc n) e = none_public report ps n e

clocked_public : (marks : List Mark) (c n : ℕ) → ((k : ℕ) → slice_get marks k ≢ Some Public) → slice_get (slice_set marks c Clock) n ≢ Some Public
clocked_public [] c n none e = none n e
clocked_public (m ∷ ms) zero zero none e = absurd (cc)
clocked_public (m ∷ ms) zero (suc n) none e = none (suc n) e
clocked_public (m ∷ ms) (suc c) zero none e = none 0 e
clocked_public (m ∷ ms) (suc c) (suc n) none e = clocked_public ms c n (λ k. none (suc k)) e

none_named : (clock : Option ℕ) (report : Report) (ports : List Port) (n : ℕ) → slice_get (with_clock clock (port_marks report ports)) n ≢ Some Public
none_named None report ports n = none_public report ports n
none_named (Some c) report ports n = clocked_public (port_marks report ports) c n (none_public report ports)

pub none_leaks : (net : PlainNet) (report : Report) (marks : List Mark) (n : ℕ) → marks ≡ named_marks net report → Leaks net marks n → ⊥
none_leaks net report marks n are leaks = none_named net.clock report net.ports n (subst (λ ms. slice_get ms n ≡ Some Public) are leaks.2)

-- the clock is not marked secure
open_at : (marks : List Mark) (c : ℕ) → slice_get (slice_set marks c Clock) c ≢ Some Secure
open_at [] c e = absurd (cc)
open_at (m ∷ ms) zero e = absurd (cc)
open_at (m ∷ ms) (suc c) e = open_at ms c e

pub clock_is_open : (net : PlainNet) (report : Report) (marks : List Mark) → marks ≡ named_marks net report → ClockIsOpen net marks
clock_is_open net report marks are = λ c is. (λ e. open_at (port_marks report net.ports) c (subst (λ ms. slice_get ms c ≡ Some Secure) (are ∙ ap (λ o. with_clock o (port_marks report net.ports)) is) e))
