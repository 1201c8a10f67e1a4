-- The steps of reading a netlist.
use Rattle.std.specs.Prelude.{◌≡◌, ◌≤◌, ℕ, List, length, map, Err}
use Rattle.agm_net.specs.Plain.{PlainNet}
use Rattle.agm_net.specs.Loop.{IsLoop}
use Rattle.cell_library.specs.Judged.{PlainCell}
use Rattle.verilog_reader.specs.Plain.{PlainDesign}
use Rattle.verilog_reader.specs.Grammar.{Spelled}
use Rattle.net_binding.specs.Bound.{bound}
use Rattle.bound_items.specs.declared.fault.BindFault.{BindFault}
use Rattle.agema_answers.specs.Faults.{bind_ended}
use Rattle.agema_answers.specs.declared.ended.Ended.TheVariants.{Refused}
use Rattle.agema_answers.specs.declared.refusal.Refusal.{Refusal}
use Rattle.agema_answers.specs.declared.refusal.Refusal.TheVariants.{NetSyntax, Loop}
use Rattle.agema_texts.specs.Original.{wire_name}

-- bytes spell no design
abbrev pub IsUnspelled : List ℕ → Refusal → Type 0
IsUnspelled bytes (NetSyntax at) = ((design : PlainDesign) → Spelled bytes design → Prim.⊥) × (at ≤ length bytes)
IsUnspelled bytes _ = Prim.⊥

-- a design breaks a rule of binding
abbrev pub IsUnbound : List PlainCell → PlainDesign → Refusal → Type 0
IsUnbound cells design refusal = (fault : BindFault) × (bound cells design ≡ Err fault) × (bind_ended fault ≡ Refused refusal)

-- the wires of a loop are named
abbrev pub IsLooped : PlainNet → List ℕ → Refusal → Type 0
IsLooped net wires (Loop names) = names ≡ map (wire_name net) wires
IsLooped net wires _ = Prim.⊥

abbrev pub IsAnyLoop : PlainNet → Refusal → Type 0
IsAnyLoop net refusal = (wires : List ℕ) × IsLoop net wires × IsLooped net wires refusal
