-- What `audit` prints for a netlist and an order, and when it is refused.
use Rattle.std.specs.Prelude.{◌≡◌, ◌≤◌, ◌⊎◌, ◌+◌, ◌*◌, ◌/◌, ◌++◌, ℕ, List, [], length, map, codes}
use Rattle.std.specs.Fmt.{decimal}
use Rattle.agm_net.specs.Loop.{HasNoLoop, IsLoop}
use Rattle.agm_net.specs.Network.{Hpc2, HasGadgets}
use Rattle.agm_net.specs.Plain.{PlainNet}
use Rattle.hpc2_audit.specs.Audited.{IsFirstBroken}
use Rattle.verilog_reader.specs.Plain.{PlainDesign}
use Rattle.verilog_reader.specs.Grammar.{Spelled}
use Rattle.net_binding.specs.Bound.{bound}
use Rattle.agema_texts.specs.Original.{IsRead, IsUnread, length_limit, wire_name}
use Rattle.agema_texts.specs.Masks.{GivesNet}
use Rattle.agema_texts.specs.Steps.{IsUnspelled, IsUnbound}
use Rattle.agema_answers.specs.declared.refusal.Refusal.{Refusal}
use Rattle.agema_answers.specs.declared.refusal.Refusal.TheVariants.{Loop, NotHpc2}

-- the random bits that so many gadgets take in a cycle: one for each pair of shares
abbrev pub random_of : (order gadgets : ℕ) → ℕ
random_of order gadgets = gadgets * order * (order + 1) / 2

-- `hpc2 order .. gadgets .. random ..`, and a line feed
unfoldable pub audit_line : (order gadgets : ℕ) → List ℕ
audit_line order gadgets =
    codes "hpc2 order " ++ (decimal order ++ (codes " gadgets " ++ (decimal gadgets ++ (codes " random " ++ (decimal (random_of order gadgets) ++ codes "\n")))))

-- the bytes are not too long, and give this net without a library
abbrev pub IsGiven : List ℕ → PlainNet → Type 0
IsGiven bytes net = (length bytes ≤ length_limit) × GivesNet bytes net

-- the bytes give an HPC2 network of this order
abbrev pub CanAudit : List ℕ → (order : ℕ) → Type 0
CanAudit bytes order = (net : PlainNet) × IsGiven bytes net × Hpc2 net order

-- What is printed: the line of the HPC2 network that the bytes give, with the number of its gadgets.
pub record Audits (bytes : List ℕ) (order : ℕ) (printed : List ℕ) : Type 0 where
  pub net : PlainNet
  pub given : IsGiven bytes net
  pub network : Hpc2 net order
  pub gadgets : ℕ
  pub counted : HasGadgets net order gadgets
  pub line_is : printed ≡ audit_line order gadgets

-- a name is that of the first wire of a net that breaks a rule
abbrev pub IsBrokenName : PlainNet → (order : ℕ) → List ℕ → Type 0
IsBrokenName net order name = (w : ℕ) × IsFirstBroken net order w × (name ≡ wire_name net w)

-- Why bytes give no HPC2 network of this order: they give no net without a loop, or a wire of it breaks a rule.
abbrev pub IsUnaudited : List ℕ → (order : ℕ) → Refusal → Type 0
IsUnaudited bytes order (NotHpc2 name) = (design : PlainDesign) × (net : PlainNet) × IsRead [] bytes design net × IsBrokenName net order name
IsUnaudited bytes order refusal = IsUnread [] bytes refusal

-- the wire that breaks a rule is named
abbrev pub IsWireNamed : PlainNet → ℕ → Refusal → Type 0
IsWireNamed net wire (NotHpc2 name) = name ≡ wire_name net wire
IsWireNamed net wire _ = Prim.⊥

-- bytes spell no design, or it breaks a rule of binding
abbrev pub IsUngiven : List ℕ → Refusal → Type 0
IsUngiven bytes refusal = IsUnspelled bytes refusal ⊎ ((design : PlainDesign) × Spelled bytes design × IsUnbound [] design refusal)

-- why a net is no HPC2 network of an order: it has a loop, or a wire breaks a rule
abbrev pub IsNoNetwork : PlainNet → (order : ℕ) → Refusal → Type 0
IsNoNetwork net order (NotHpc2 name) = HasNoLoop net × IsBrokenName net order name
IsNoNetwork net order (Loop names) = (wires : List ℕ) × IsLoop net wires × (names ≡ map (wire_name net) wires)
IsNoNetwork net order _ = Prim.⊥
