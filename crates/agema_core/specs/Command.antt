-- How the words of a command are read.
use Rattle.std.specs.Prelude.{◌-◌, ◌==◌, ℕ, Bool, not, ◌&&◌, cond, List, [], ◌∷◌, length, Option, Some, None, codes, nat_le}
use Rattle.std.specs.Str.{bytes_eq}
use Rattle.share_wiring.specs.declared.report.Mode.{Mode}
use Rattle.share_wiring.specs.declared.report.Mode.TheVariants.{Naive, Aig, Bdd}
use Rattle.share_wiring.specs.declared.report.Balance.{Balance}
use Rattle.share_wiring.specs.declared.report.Balance.TheVariants.{Pipe, Gate}
use Rattle.agema_core.specs.Seed.{seed_of}
use Rattle.agema_core.specs.Words.{Mask, Sim, Reporting, Auditing, Probing, Comparing, Request, mask, sim, reporting, auditing, probing, comparing}
use Rattle.agema_core.specs.declared.words.MaskWords.{MaskWords}
use Rattle.agema_core.specs.declared.words.SimWords.{SimWords}
use Rattle.agema_core.specs.declared.words.ReportWords.{ReportWords}
use Rattle.agema_core.specs.declared.words.AuditWords.{AuditWords}
use Rattle.agema_core.specs.declared.words.ConesWords.{ConesWords}
use Rattle.agema_core.specs.declared.words.BothWords.{BothWords}
use Rattle.agema_core.specs.declared.words.Command.{Command}
use Rattle.agema_core.specs.declared.words.Command.TheVariants as command

abbrev pub mask_of : MaskWords → Mask
mask_of c = record { library = c.library.now; net = c.net.now; order = c.order; mode = c.mode; balance = c.balance; out = c.out.now }

abbrev pub sim_of : SimWords → Sim
sim_of c = record { library = c.library.now; net = c.net.now; stimulus = c.stimulus.now }

abbrev pub reporting_of : ReportWords → Reporting
reporting_of c = record { out = c.out.now }

abbrev pub auditing_of : AuditWords → Auditing
auditing_of c = record { out = c.out.now; order = c.order }

abbrev pub probing_of : ConesWords → Probing
probing_of c = record { out = c.out.now; order = c.order; probes = c.probes.now }

abbrev pub comparing_of : BothWords → Comparing
comparing_of c = record { masking = mask_of c.mask; stimulus = c.stimulus.now; seed = c.seed }

abbrev pub request_of : Command → Request
request_of (command.Mask m) = mask (mask_of m)
request_of (command.Sim s) = sim (sim_of s)
request_of (command.Report r) = reporting (reporting_of r)
request_of (command.Audit a) = auditing (auditing_of a)
request_of (command.Cones c) = probing (probing_of c)
request_of (command.Both b) = comparing (comparing_of b)

infixl 10 ◌>>=◌
abbrev pub ◌>>=◌ : {A B : Type 0} → Option A → (A → Option B) → Option B
None >>= f = None
(Some x) >>= f = f x

-- one digit from 1 to 7
abbrev pub order_of : List ℕ → Option ℕ
order_of (b ∷ []) = cond (nat_le 49 b && nat_le b 55) (Some (b - 48)) None
order_of _ = None

abbrev pub mode_of : List ℕ → Option Mode
mode_of word = cond (bytes_eq word (codes "naive")) (Some Naive) (cond (bytes_eq word (codes "aig")) (Some Aig) (cond (bytes_eq word (codes "bdd")) (Some Bdd) None))

abbrev pub balance_of : List ℕ → Option Balance
balance_of word = cond (bytes_eq word (codes "pipe")) (Some Pipe) (cond (bytes_eq word (codes "gate")) (Some Gate) None)

abbrev pub is_filled : List ℕ → Bool
is_filled word = not (length word == 0)

-- the four words that need no look inside: the command's own, and three names that are not empty
abbrev pub are_names : (own command first second third : List ℕ) → Bool
are_names own command first second third = bytes_eq command own && (is_filled first && (is_filled second && is_filled third))

unfoldable pub parts_of : (library net order mode balance out : List ℕ) → Option Mask
parts_of library net order mode balance out = do
  d ← order_of order
  m ← mode_of mode
  b ← balance_of balance
  Some (record { library = library; net = net; order = d; mode = m; balance = b; out = out })

abbrev pub mask_request : Option Mask → Option Request
mask_request None = None
mask_request (Some m) = Some (mask m)

-- an audit of a file, if an order is spelled
abbrev pub audit_by : (out : List ℕ) → Option ℕ → Option Request
audit_by out None = None
audit_by out (Some d) = Some (auditing (record { out = out; order = d }))

abbrev pub audit_request : (command out order : List ℕ) → Option Request
audit_request command out order = cond (bytes_eq command (codes "audit") && is_filled out) (audit_by out (order_of order)) None

-- the cones of a file's probes, if an order is spelled
abbrev pub cones_by : (out probes : List ℕ) → Option ℕ → Option Request
cones_by out probes None = None
cones_by out probes (Some d) = Some (probing (record { out = out; order = d; probes = probes }))

abbrev pub cones_request : (out order probes : List ℕ) → Option Request
cones_request out order probes = cond (is_filled out && is_filled probes) (cones_by out probes (order_of order)) None

abbrev pub sim_request : (command library net stimulus : List ℕ) → Option Request
sim_request command library net stimulus =
    cond (are_names (codes "sim") command library net stimulus) (Some (sim (record { library = library; net = net; stimulus = stimulus }))) None

-- a netlist masked, with a stimulus and a seed
abbrev pub comparing_by : (stimulus : List ℕ) → Option Mask → Option (List ℕ) → Option Request
comparing_by stimulus None seed = None
comparing_by stimulus (Some m) None = None
comparing_by stimulus (Some m) (Some seed) = Some (comparing (record { masking = m; stimulus = stimulus; seed = seed }))

abbrev pub comparing_request : Option Mask → (stimulus seed : List ℕ) → Option Request
comparing_request masking stimulus seed = cond (is_filled stimulus) (comparing_by stimulus masking (seed_of seed)) None

-- what the words say
abbrev pub command_of : List (List ℕ) → Option Request
command_of (command ∷ library ∷ net ∷ order ∷ mode ∷ balance ∷ out ∷ []) =
    cond (are_names (codes "mask") command library net out) (mask_request (parts_of library net order mode balance out)) None
command_of (command ∷ library ∷ net ∷ order ∷ mode ∷ balance ∷ out ∷ stimulus ∷ seed ∷ []) =
    cond (are_names (codes "both") command library net out) (comparing_request (parts_of library net order mode balance out) stimulus seed) None
command_of (command ∷ first ∷ second ∷ third ∷ []) =
    cond (bytes_eq command (codes "cones")) (cones_request first second third) (sim_request command first second third)
command_of (command ∷ out ∷ order ∷ []) = audit_request command out order
command_of (command ∷ out ∷ []) = cond (bytes_eq command (codes "report") && is_filled out) (Some (reporting (record { out = out }))) None
command_of _ = None
