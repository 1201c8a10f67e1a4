-- How the secret wires of a net are found.
use Rattle.std.specs.Prelude.{◌≡◌, ◌<◌, ◌↔◌, ◌++◌, Option, Some, None, slice_get, ℕ, Bool, true, false, not, ◌&&◌, ◌||◌, cond, List, [], ◌∷◌, length, map, nat_lt, IsTrue}
use Rattle.std.specs.List.{list_any, flat_map}
use Rattle.agm_net.specs.Formula.{Formula, f_zero, f_one, f_wire, f_not, f_and, f_or, f_xor, f_mux}
use Rattle.agm_net.specs.Plain.{PlainNet, is_input}
use Rattle.agm_net.specs.Secret.{IsSecret, is_secure}
use Rattle.agm_net.specs.declared.mark.Mark.{Mark}
use Rattle.agm_net.specs.declared.mark.Mark.TheVariants.{Public}
use Rattle.agm_net.specs.declared.port.Port.{Port}
use Rattle.logic_graph.specs.Settled.{bit_of}
use Rattle.logic_graph.specs.declared.nodes.Node.{Node}
use Rattle.logic_graph.specs.declared.nodes.Node.TheVariants.{Input, Q}
use Rattle.secrecy_spread.specs.declared.reach.Edge.{Edge}

-- an edge to a wire from each wire that stands in a formula
abbrev pub edges_to : ℕ → Formula → List Edge
edges_to w f_zero = []
edges_to w f_one = []
edges_to w (f_wire v) = record { from = v; to = w } ∷ []
edges_to w (f_not x) = edges_to w x
edges_to w (f_and x y) = edges_to w x ++ edges_to w y
edges_to w (f_or x y) = edges_to w x ++ edges_to w y
edges_to w (f_xor x y) = edges_to w x ++ edges_to w y
edges_to w (f_mux s x y) = edges_to w s ++ (edges_to w x ++ edges_to w y)

-- those of a net: to the wires of equations and the outputs of registers
abbrev pub edges_of : PlainNet → List Edge
edges_of net = flat_map (λ l. edges_to l.0 l.1) net.lines ++ flat_map (λ r. edges_to r.q r.next) net.registers

-- the bits of input ports that are marked secure
abbrev pub secure_bits : List Port → List Mark → List ℕ
secure_bits [] ms = []
secure_bits (p ∷ ps) [] = []
secure_bits (p ∷ ps) (m ∷ ms) = cond (is_input p && is_secure m) p.bits [] ++ secure_bits ps ms

-- one flag for each wire of a net, which says whether it is secret
pub record AreWireSecrets (net : PlainNet) (marks : List Mark) (flags : List Bool) : Type 0 where
  pub one_each : length flags ≡ length net.wires
  pub tells : (w : ℕ) → IsTrue (bit_of flags w) ↔ IsSecret net marks w

-- the flags of some wires
abbrev pub flags_of : List Bool → List ℕ → List Bool
flags_of secret wires = map (λ w. bit_of secret w) wires

-- whether the source that a node is, if it is one, is among so many input bits and registers
abbrev pub has_source : (inputs registers : ℕ) → Node → Bool
has_source inputs registers (Input i) = nat_lt i inputs
has_source inputs registers (Q r) = nat_lt r registers
has_source inputs registers _ = true

abbrev pub is_public : Mark → Bool
is_public Public = true
is_public _ = false

-- whether a port with a mark is shared, and whether it leaks
abbrev pub is_shared : (secret : List Bool) → Port → Mark → Bool
is_shared secret p m = is_secure m || (not (is_input p) && list_any (bit_of secret) p.bits)

abbrev pub is_leak : (secret : List Bool) → Port → Mark → Bool
is_leak secret p m = is_public m && (not (is_input p) && list_any (bit_of secret) p.bits)

-- a test of a port and its mark passes at no port below n
abbrev pub NoneBelow : (Port → Mark → Bool) → List Port → List Mark → ℕ → Type 0
NoneBelow test ports marks n = (j : ℕ) (p : Port) (m : Mark) → j < n → slice_get ports j ≡ Some p → slice_get marks j ≡ Some m → test p m ≡ false

-- the first place at which a test passes, if there is one
abbrev pub IsFirst : (Port → Mark → Bool) → List Port → List Mark → Option ℕ → Type 0
IsFirst test ports marks None = NoneBelow test ports marks (length ports)
IsFirst test ports marks (Some n) =
    ((p : Port) × (m : Mark) × (slice_get ports n ≡ Some p) × (slice_get marks n ≡ Some m) × (test p m ≡ true)) × NoneBelow test ports marks n
