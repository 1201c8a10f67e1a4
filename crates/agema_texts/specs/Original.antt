-- What the bytes of a netlist give over the cells of a library.
use Rattle.std.specs.Prelude.{◌≡◌, ◌≤◌, ℕ, List, [], length, map, Ok, Err, slice_index_or}
use Rattle.agm_net.specs.Plain.{PlainNet}
use Rattle.agm_net.specs.Loop.{IsLoop, HasNoLoop}
use Rattle.agm_net.specs.declared.mark.Mark.{Mark}
use Rattle.cell_library.specs.Judged.{PlainCell}
use Rattle.verilog_reader.specs.Plain.{PlainModule, PlainDesign}
use Rattle.verilog_reader.specs.Grammar.{Spelled}
use Rattle.top_module.specs.Top.{IsTop}
use Rattle.net_binding.specs.Bound.{bound}
use Rattle.bound_items.specs.declared.fault.BindFault.{BindFault}
use Rattle.annotations.specs.Rules.{Rule, Broken, NoneBroken, IsFirstFault, annotation_rules, mark_of}
use Rattle.annotations.specs.declared.fault.AnnotationFault.{AnnotationFault}
use Rattle.agema_answers.specs.Faults.{bind_ended}
use Rattle.agema_answers.specs.declared.ended.Ended.{Ended}
use Rattle.agema_answers.specs.declared.ended.Ended.TheVariants.{Memory, Refused}
use Rattle.agema_answers.specs.declared.refusal.Refusal.{Refusal}
use Rattle.agema_answers.specs.declared.refusal.Refusal.TheVariants.{NetSyntax, Loop}

-- the most bytes of a file that is read
abbrev pub length_limit : ℕ
length_limit = 268435456

-- the bytes spell a design, which binds over the cells to a net without a loop
pub record IsRead (cells : List PlainCell) (bytes : List ℕ) (design : PlainDesign) (net : PlainNet) : Type 0 where
  pub short : length bytes ≤ length_limit
  pub spelled : Spelled bytes design
  pub binds : bound cells design ≡ Ok net
  pub no_loop : HasNoLoop net

-- the top module of a design breaks none of some rules for a net
abbrev pub Keeps : (PlainNet → List Rule) → PlainDesign → PlainNet → Type 0
Keeps rules design net = (top : PlainModule) × IsTop design top × NoneBroken (Broken top net) (rules net)

-- the fault is that of the first of some rules that it breaks
abbrev pub Breaks : (PlainNet → List Rule) → PlainDesign → PlainNet → AnnotationFault → Type 0
Breaks rules design net fault = (top : PlainModule) × IsTop design top × IsFirstFault (Broken top net) (rules net) fault

-- An original: a net that is read and keeps all rules of annotations, with the marks of its ports.
pub record IsOriginal (cells : List PlainCell) (bytes : List ℕ) (net : PlainNet) (marks : List Mark) : Type 0 where
  pub design : PlainDesign
  pub top : PlainModule
  pub read : IsRead cells bytes design net
  pub is_top : IsTop design top
  pub none_broken : NoneBroken (Broken top net) (annotation_rules net)
  pub marks_are : marks ≡ map (mark_of top) net.ports

abbrev pub wire_name : PlainNet → ℕ → List ℕ
wire_name net w = slice_index_or net.wires w []

-- Why bytes give no net without a loop: they spell no design, the design breaks a rule of binding, or the net has a loop of these wires.
abbrev pub IsUnread : List PlainCell → List ℕ → Refusal → Type 0
IsUnread cells bytes (NetSyntax at) = (length bytes ≤ length_limit) × ((design : PlainDesign) → Spelled bytes design → Prim.⊥) × (at ≤ length bytes)
IsUnread cells bytes (Loop names) =
    (length bytes ≤ length_limit) × (design : PlainDesign) × Spelled bytes design
    × (net : PlainNet) × (bound cells design ≡ Ok net) × (wires : List ℕ) × IsLoop net wires × (names ≡ map (wire_name net) wires)
IsUnread cells bytes refusal =
    (length bytes ≤ length_limit) × (design : PlainDesign) × Spelled bytes design
    × (fault : BindFault) × (bound cells design ≡ Err fault) × (bind_ended fault ≡ Refused refusal)

-- the net that the bytes give breaks one of some rules
abbrev pub BreaksRead : (PlainNet → List Rule) → List PlainCell → List ℕ → AnnotationFault → Type 0
BreaksRead rules cells bytes fault = (design : PlainDesign) × (net : PlainNet) × IsRead cells bytes design net × Breaks rules design net fault

-- an end that is a refusal for which there is this reason, or want of memory
abbrev pub EndsBy : (Refusal → Type 0) → Ended → Type 0
EndsBy Reason (Refused refusal) = Reason refusal
EndsBy Reason Memory = Unit {0}
EndsBy Reason _ = Prim.⊥
