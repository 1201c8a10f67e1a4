-- The steps of masking a netlist that was read.
use Rattle.std.specs.Prelude.{◌≡◌, ◌≤◌, ◌<◌, ℕ, Bool, List, length, map}
use Rattle.agm_net.specs.Plain.{PlainNet}
use Rattle.agm_net.specs.declared.mark.Mark.{Mark}
use Rattle.annotations.specs.Rules.{Rule, Broken, NoneBroken, annotation_rules, mark_of}
use Rattle.annotations.specs.declared.fault.AnnotationFault.{AnnotationFault}
use Rattle.annotations.specs.declared.fault.AnnotationFault.TheVariants as fault
use Rattle.verilog_reader.specs.Plain.{PlainModule, PlainDesign}
use Rattle.top_module.specs.Top.{IsTop}
use Rattle.logic_graph.specs.Operators.{operators_of}
use Rattle.secrecy_spread.specs.Leaks.{IsFirstLeak}
use Rattle.agema_texts.specs.Original.{Breaks}
use Rattle.agema_texts.specs.Masks.{port_name, size_of, size_limit}
use Rattle.agema_texts.specs.Width.{IsWidth, width_of, width_limit}
use Rattle.agm_net.specs.Loop.{HasNoLoop}
use Rattle.level_plan.specs.PlanOf.{PlanOf}
use Rattle.level_plan.specs.declared.plans.Plan.{Plan}
use Rattle.logic_graph.specs.GraphOf.{IsGraphOf}
use Rattle.logic_graph.specs.declared.graphs.Graph.{Graph}
use Rattle.logic_graph.specs.declared.graphs.Xan.{Xan}
use Rattle.pipeline_balance.specs.Apart.{HasNames}
use Rattle.secrecy_spread.specs.Clock.{ClockIsOpen}
use Rattle.secrecy_spread.specs.Mode.{IsMadeBy}
use Rattle.secrecy_spread.specs.Naive.{NaiveGadgets, NaiveDepth}
use Rattle.secrecy_spread.specs.SecretsOf.{SecretsOf}
use Rattle.secrecy_spread.specs.declared.secrets.Secrets.{Secrets}
use Rattle.agema_answers.specs.declared.ended.Ended.{Ended}
use Rattle.agema_answers.specs.declared.ended.Ended.TheVariants.{Memory, Refused}
use Rattle.agema_answers.specs.declared.refusal.Refusal.{Refusal}
use Rattle.agema_answers.specs.declared.refusal.Refusal.TheVariants.{BadAnnotation, Leak, TooLarge, TooWide}

abbrev pub HasTopModule : PlainDesign → Type 0
HasTopModule design = (top : PlainModule) × IsTop design top

-- the answer for a fault of annotations
abbrev pub annotation_ended : AnnotationFault → Ended
annotation_ended (fault.Reserved port) = Refused (BadAnnotation (fault.Reserved port))
annotation_ended (fault.Value port) = Refused (BadAnnotation (fault.Value port))
annotation_ended (fault.Twice port) = Refused (BadAnnotation (fault.Twice port))
annotation_ended (fault.SecondClock port) = Refused (BadAnnotation (fault.SecondClock port))
annotation_ended fault.NoSecure = Refused (BadAnnotation fault.NoSecure)
annotation_ended fault.NoClock = Refused (BadAnnotation fault.NoClock)
annotation_ended (fault.ClockUse wire) = Refused (BadAnnotation (fault.ClockUse wire))
annotation_ended fault.Memory = Memory

-- no rule of annotations is broken, and these are the marks
abbrev pub IsMarked : PlainDesign → PlainNet → List Mark → Type 0
IsMarked design net marks =
    (top : PlainModule) × IsTop design top × NoneBroken (Broken top net) (annotation_rules net) × (marks ≡ map (mark_of top) net.ports)

-- one of some rules is broken
abbrev pub IsUnmarked : (PlainNet → List Rule) → PlainDesign → PlainNet → Refusal → Type 0
IsUnmarked rules design net (BadAnnotation fault) = Breaks rules design net fault
IsUnmarked rules design net _ = Prim.⊥

-- a port that leaks is named
abbrev pub IsPortNamed : PlainNet → ℕ → Refusal → Type 0
IsPortNamed net n (Leak name) = name ≡ port_name net n
IsPortNamed net n _ = Prim.⊥

-- the first output that leaks is named
abbrev pub IsLeaking : PlainNet → List Mark → Refusal → Type 0
IsLeaking net marks refusal = (n : ℕ) × IsFirstLeak net marks n × IsPortNamed net n refusal

-- a port of the masked net is too wide
abbrev pub IsTooWide : (order gadgets : ℕ) → List Bool → Refusal → Type 0
IsTooWide order gadgets secret (TooWide bits) = (bits ≡ width_of order gadgets secret) × (width_limit < bits)
IsTooWide order gadgets secret _ = Prim.⊥

-- the net is too large
abbrev pub IsOverSize : PlainNet → ℕ → Refusal → Type 0
IsOverSize net order (TooLarge operators) = (operators ≡ operators_of net) × (size_limit < size_of net order)
IsOverSize net order _ = Prim.⊥

-- What is known of a net that is masked: its graph, its secrets, what the naive mode makes of it and the plan of that, its clock, the names
-- and ranges of its ports, and its limits.
pub record IsMaskable (net : PlainNet) (graph : Graph) (marks : List Mark) (s : Secrets) (made : Xan) (plan : Plan) (order : ℕ) : Type 0 where
  pub first : 1 ≤ order
  pub last : order ≤ 7
  pub no_loop : HasNoLoop net
  pub is_graph : IsGraphOf net graph
  pub are_secrets : SecretsOf net graph marks s
  pub marked : length marks ≡ length net.ports
  pub clock : ClockIsOpen net marks
  pub is_made : IsMadeBy NaiveGadgets NaiveDepth graph s made
  pub is_planned : PlanOf made s plan
  pub names : HasNames net
  pub narrow : width_of order plan.gadgets s.registers ≤ width_limit

-- the net is too large, or the masked net would be too wide
abbrev pub IsTooBig : PlainNet → List Mark → ℕ → Refusal → Type 0
IsTooBig net marks order (TooLarge operators) = (operators ≡ operators_of net) × (size_limit < size_of net order)
IsTooBig net marks order (TooWide bits) = (size_of net order ≤ size_limit) × IsWidth net marks order bits × (width_limit < bits)
IsTooBig net marks order _ = Prim.⊥
