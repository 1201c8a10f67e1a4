-- The secret wires of a net are those that edges lead to.
use Rattle.std.proofs.Common.{◌≡◌, ◌<◌, ◌+◌, ◌==◌, ◌++◌, ℕ, zero, suc, Bool, true, false, ◌&&◌, ◌||◌, cond, List, [], ◌∷◌, length, map, drop, slice_get, get_or, Some, IsTrue, All, refl, sym, ap, ap₂, ◌∙◌, arith, ltb-true, append_assoc}
use Rattle.std.specs.List.{AllByRecursion, list_any, flat_map, zip}
use Rattle.std.proofs.lemmas.Bool.{and_parts}
use Rattle.std.proofs.lemmas.List.Folds.{list_any-append}
use Rattle.std.proofs.lemmas.Option.{slice_get-get_or}
use Rattle.agm_net.specs.Formula.{Formula, f_zero, f_one, f_wire, f_not, f_and, f_or, f_xor, f_mux, formula_of, stands, reads_below}
use Rattle.agm_net.specs.Plain.{Line, Stored, PlainNet, is_input, line_of, stored_of}
use Rattle.agm_net.specs.Loop.{IsChain, last_of}
use Rattle.agm_net.specs.Secret.{is_secure, depends}
use Rattle.agm_net.specs.WellFormed.{WellFormed}
use Rattle.agm_net.specs.View.{plain_of}
use Rattle.agm_net.specs.declared.net.Net.{Net}
use Rattle.agm_net.specs.declared.mark.Mark.{Mark}
use Rattle.agm_net.specs.declared.port.Port.{Port}
use Rattle.agm_net.proofs.Lists.{all_joined, all_of_one}
use Rattle.agm_net.proofs.Wires.{lines_fit, registers_fit, ports_bits}
use Rattle.secrecy_spread.specs.declared.reach.Edge.{Edge}
use Rattle.secrecy_spread.specs.Reach.{is_among, leads, AreReached}
use Rattle.secrecy_spread.specs.Wires.{edges_to, edges_of, secure_bits, AreWireSecrets}

-- the same of equations and registers themselves
pub mapped : {X Y Z : Type 0} (f : Y → List Z) (g : X → Y) (xs : List X) → flat_map f (map g xs) ≡ flat_map (λ x. f (g x)) xs
mapped f g [] = refl
mapped f g (x ∷ xs) = ap (λ ys. f (g x) ++ ys) (mapped f g xs)

pub net_edges : (net : Net) (start one all : List Edge) → start ≡ [] → one ≡ start ++ flat_map (λ e. edges_to e.wire (formula_of e.expr)) net.equations
    → all ≡ one ++ flat_map (λ r. edges_to r.q (formula_of r.next)) net.registers → all ≡ edges_of (plain_of net)
net_edges net start one all none first second =
    let lines = mapped (λ (l : Line). edges_to l.0 l.1) line_of net.equations in
    let stored = mapped (λ (r : Stored). edges_to r.q r.next) stored_of net.registers in
    let e : one ≡ flat_map (λ (l : Line). edges_to l.0 l.1) (plain_of net).lines = first ∙ (ap (λ xs. xs ++ flat_map (λ e. edges_to e.wire (formula_of e.expr)) net.equations) none ∙ sym lines) in
    second ∙ ap₂ (λ xs ys. xs ++ ys) e (sym stored)

both_or : (b x y : Bool) → ((b && x) || (b && y)) ≡ (b && (x || y))
both_or true x y = refl
both_or false x y = refl

never : (b : Bool) → (b && false) ≡ false
never true = refl
never false = refl

or_false : (b : Bool) → (b || false) ≡ b
or_false true = refl
or_false false = refl

abbrev edge_is : ℕ → ℕ → Edge → Bool
edge_is w v e = (e.to == w) && (e.from == v)

-- an edge that leads to a wire because of a formula starts where a wire stands in it
edges_stand : (to : ℕ) (f : Formula) (w v : ℕ) → list_any (edge_is w v) (edges_to to f) ≡ ((to == w) && stands v f)
edges_stand to f_zero w v = sym (never (to == w))
edges_stand to f_one w v = sym (never (to == w))
edges_stand to (f_wire u) w v = or_false ((to == w) && (u == v))
edges_stand to (f_not x) w v = edges_stand to x w v
edges_stand to (f_and x y) w v = list_any-append (edge_is w v) (edges_to to x) (edges_to to y) ∙ (ap₂ (λ p q. p || q) (edges_stand to x w v) (edges_stand to y w v) ∙ both_or (to == w) (stands v x) (stands v y))
edges_stand to (f_or x y) w v = list_any-append (edge_is w v) (edges_to to x) (edges_to to y) ∙ (ap₂ (λ p q. p || q) (edges_stand to x w v) (edges_stand to y w v) ∙ both_or (to == w) (stands v x) (stands v y))
edges_stand to (f_xor x y) w v = list_any-append (edge_is w v) (edges_to to x) (edges_to to y) ∙ (ap₂ (λ p q. p || q) (edges_stand to x w v) (edges_stand to y w v) ∙ both_or (to == w) (stands v x) (stands v y))
edges_stand to (f_mux s x y) w v =
    list_any-append (edge_is w v) (edges_to to s) (edges_to to x ++ edges_to to y)
    ∙ (ap₂ (λ p q. p || q) (edges_stand to s w v) (list_any-append (edge_is w v) (edges_to to x) (edges_to to y) ∙ (ap₂ (λ p q. p || q) (edges_stand to x w v) (edges_stand to y w v) ∙ both_or (to == w) (stands v x) (stands v y)))
    ∙ both_or (to == w) (stands v s) (stands v x || stands v y))

any_flat : {X : Type 0} (f : X → List Edge) (test : X → Bool) (w v : ℕ) → ((x : X) → list_any (edge_is w v) (f x) ≡ test x) → (xs : List X) → list_any (edge_is w v) (flat_map f xs) ≡ list_any test xs
any_flat f test w v same [] = refl
any_flat f test w v same (x ∷ xs) = list_any-append (edge_is w v) (f x) (flat_map f xs) ∙ ap₂ (λ p q. p || q) (same x) (any_flat f test w v same xs)

-- an edge leads to a wire from another exactly where it depends on it
pub leads_are : (net : PlainNet) (w v : ℕ) → leads (edges_of net) w v ≡ depends net w v
leads_are net w v =
    list_any-append (edge_is w v) (flat_map (λ l. edges_to l.0 l.1) net.lines) (flat_map (λ r. edges_to r.q r.next) net.registers)
    ∙ ap₂ (λ p q. p || q)
    (any_flat (λ (l : Line). edges_to l.0 l.1) (λ l. (l.0 == w) && stands v l.1) w v (λ l. edges_stand l.0 l.1 w v) net.lines)
    (any_flat (λ (r : Stored). edges_to r.q r.next) (λ r. (r.q == w) && stands v r.next) w v (λ r. edges_stand r.q r.next w v) net.registers)

abbrev secure_port : ℕ → Port × Mark → Bool
secure_port w p = is_input p.0 && (is_secure p.1 && list_any (λ b. b == w) p.0.bits)

port_bits : (w : ℕ) (a b : Bool) (bits : List ℕ) → list_any (λ v. v == w) (cond (a && b) bits []) ≡ (a && (b && list_any (λ v. v == w) bits))
port_bits w true true bits = refl
port_bits w true false bits = refl
port_bits w false b bits = refl

-- the starts are the bits of secure input ports
pub starts_are : (w : ℕ) (ports : List Port) (marks : List Mark) → is_among (secure_bits ports marks) w ≡ list_any (secure_port w) (zip ports marks)
starts_are w [] ms = refl
starts_are w (p ∷ ps) [] = refl
starts_are w (p ∷ ps) (m ∷ ms) =
    list_any-append (λ v. v == w) (cond (is_input p && is_secure m) p.bits []) (secure_bits ps ms)
    ∙ ap₂ (λ a b. a || b) (port_bits w (is_input p) (is_secure m) p.bits) (starts_are w ps ms)

-- chains of two relations that are one
pub same_chain : (r s : ℕ → ℕ → Bool) → ((w v : ℕ) → r w v ≡ s w v) → (w : ℕ) (ws : List ℕ) → IsChain r w ws → IsChain s w ws
same_chain r s same w [] h = tt
same_chain r s same w (v ∷ vs) h = (sym (same w v) ∙ h.0, same_chain r s same v vs h.1)

pub wire_secrets : (net : PlainNet) (marks : List Mark) (flags : List Bool) → AreReached (length net.wires) (edges_of net) (secure_bits net.ports marks) flags → AreWireSecrets net marks flags
wire_secrets net marks flags are = record {
  one_each = are.one_each;
  tells = λ w. let is = are.tells w in (
    λ h. (let r = is.0 h in (r.0, same_chain (leads (edges_of net)) (depends net) (leads_are net) w r.0 r.1, sym (starts_are (last_of w r.0) net.ports marks) ∙ r.2)),
    λ h. is.1 (h.0, same_chain (depends net) (leads (edges_of net)) (λ a b. sym (leads_are net a b)) w h.0 h.1, starts_are (last_of w h.0) net.ports marks ∙ h.2),
  );
}

-- edges and starts are among the wires
abbrev Within : ℕ → Edge → Type 0
Within n e = (e.from < n) × (e.to < n)

edges_within : (n to : ℕ) (f : Formula) → to < n → IsTrue (reads_below n f) → AllByRecursion (Within n) (edges_to to f)
edges_within n to f_zero lt h = tt
edges_within n to f_one lt h = tt
edges_within n to (f_wire v) lt h = ((ltb-true v n h, lt), tt)
edges_within n to (f_not x) lt h = edges_within n to x lt h
edges_within n to (f_and x y) lt h = let both = and_parts (reads_below n x) (reads_below n y) h in all_joined (Within n) (edges_to to x) (edges_to to y) (edges_within n to x lt both.0) (edges_within n to y lt both.1)
edges_within n to (f_or x y) lt h = let both = and_parts (reads_below n x) (reads_below n y) h in all_joined (Within n) (edges_to to x) (edges_to to y) (edges_within n to x lt both.0) (edges_within n to y lt both.1)
edges_within n to (f_xor x y) lt h = let both = and_parts (reads_below n x) (reads_below n y) h in all_joined (Within n) (edges_to to x) (edges_to to y) (edges_within n to x lt both.0) (edges_within n to y lt both.1)
edges_within n to (f_mux s x y) lt h =
    let all = and_parts (reads_below n s) (reads_below n x && reads_below n y) h in
    let both = and_parts (reads_below n x) (reads_below n y) all.1 in
    all_joined (Within n) (edges_to to s) (edges_to to x ++ edges_to to y) (edges_within n to s lt all.0)
    (all_joined (Within n) (edges_to to x) (edges_to to y) (edges_within n to x lt both.0) (edges_within n to y lt both.1))

all_flat : {X : Type 0} (n : ℕ) (P : X → Type 0) (f : X → List Edge) → ((x : X) → P x → AllByRecursion (Within n) (f x)) → (xs : List X) → AllByRecursion P xs → AllByRecursion (Within n) (flat_map f xs)
all_flat n P f h [] all = tt
all_flat n P f h (x ∷ xs) all = all_joined (Within n) (f x) (flat_map f xs) (h x all.0) (all_flat n P f h xs all.1)

net_within : (net : PlainNet) → WellFormed net → AllByRecursion (Within (length net.wires)) (edges_of net)
net_within net well =
    let n = length net.wires in
    all_joined (Within n) (flat_map (λ l. edges_to l.0 l.1) net.lines) (flat_map (λ r. edges_to r.q r.next) net.registers)
    (all_flat n (λ (l : Line). (l.0 < n) × IsTrue (reads_below n l.1)) (λ l. edges_to l.0 l.1) (λ l h. edges_within n l.0 l.1 h.0 h.1) net.lines (lines_fit net well))
    (all_flat n (λ (r : Stored). (r.q < n) × IsTrue (reads_below n r.next)) (λ r. edges_to r.q r.next) (λ r h. edges_within n r.q r.next h.0 h.1) net.registers (registers_fit net well))

pub edges_fit : (net : PlainNet) → WellFormed net → All (Within (length net.wires)) (edges_of net)
edges_fit net well k d lt = all_of_one (Within (length net.wires)) (edges_of net) k (get_or (edges_of net) k d) (net_within net well) (slice_get-get_or (edges_of net) k d lt)

cond_bits : (n : ℕ) (b : Bool) (bits : List ℕ) → AllByRecursion (λ w. w < n) bits → AllByRecursion (λ w. w < n) (cond b bits [])
cond_bits n true bits h = h
cond_bits n false bits h = tt

starts_within : (n : ℕ) (ports : List Port) (marks : List Mark) → AllByRecursion (λ p. AllByRecursion (λ w. w < n) p.bits) ports → AllByRecursion (λ w. w < n) (secure_bits ports marks)
starts_within n [] ms all = tt
starts_within n (p ∷ ps) [] all = tt
starts_within n (p ∷ ps) (m ∷ ms) all = all_joined (λ w. w < n) (cond (is_input p && is_secure m) p.bits []) (secure_bits ps ms) (cond_bits n (is_input p && is_secure m) p.bits all.0) (starts_within n ps ms all.1)

pub starts_fit : (net : PlainNet) (marks : List Mark) → WellFormed net → All (λ w. w < length net.wires) (secure_bits net.ports marks)
starts_fit net marks well k d lt =
    all_of_one (λ w. w < length net.wires) (secure_bits net.ports marks) k (get_or (secure_bits net.ports marks) k d) (starts_within (length net.wires) net.ports marks (ports_bits net well)) (slice_get-get_or (secure_bits net.ports marks) k d lt)

-- the items from a place on
drop_at : {X : Type 0} (xs : List X) (n : ℕ) (x : X) → slice_get xs n ≡ Some x → drop n xs ≡ x ∷ drop (n + 1) xs
drop_at [] n x h = absurd (cc)
drop_at (y ∷ ys) zero x h = let e : y ≡ x = cc in ap (λ z. z ∷ ys) e
drop_at (y ∷ ys) (suc n) x h =
    let one : suc n + 1 ≡ suc (n + 1) = omega arith in
    drop_at ys n x h ∙ ap (λ m. x ∷ drop m (y ∷ ys)) (sym one)

-- one port more
pub secure_more : (ports : List Port) (marks : List Mark) (n : ℕ) (p : Port) (m d : Mark) (bits more all : List ℕ) → p ≡ get_or ports n p → n < length ports → length marks ≡ length ports → m ≡ get_or marks n d
    → more ≡ bits ++ cond (is_input p && is_secure m) p.bits [] → bits ++ secure_bits (drop n ports) (drop n marks) ≡ all → more ++ secure_bits (drop (n + 1) ports) (drop (n + 1) marks) ≡ all
secure_more ports marks n p m d bits more all is lt long mark added before =
    let at : slice_get ports n ≡ Some p = slice_get-get_or ports n p lt ∙ ap Some (sym is) in
    let mark_at : slice_get marks n ≡ Some m = slice_get-get_or marks n d (omega arith) ∙ ap Some (sym mark) in
    let rest = secure_bits (drop (n + 1) ports) (drop (n + 1) marks) in
    let own = cond (is_input p && is_secure m) p.bits [] in
    ap (λ xs. xs ++ rest) added
    ∙ (append_assoc bits own rest ∙ (ap (λ xs. bits ++ xs) (sym (ap₂ secure_bits (drop_at ports n p at) (drop_at marks n m mark_at))) ∙ before))
