-- What bytes determine of an audit, and how the reasons of its steps become that of the whole.
use Rattle.std.proofs.Common.{◌≡◌, ◌≤◌, ◌<◌, ◌∙◌, ℕ, Bool, true, false, List, [], Result, Ok, Err, IfOk, length, ap, sym, refl, subst, inl, inr, arith, nat_lt}
use Rattle.std.proofs.lemmas.Bool.Decides.{nat_tests}
use Rattle.agm_net.specs.Network.{Hpc2, HasGadgets}
use Rattle.agm_net.specs.Plain.{PlainNet}
use Rattle.cell_library.specs.Judged.{PlainCell}
use Rattle.verilog_reader.specs.Plain.{PlainDesign}
use Rattle.verilog_reader.specs.Grammar.{Spelled}
use Rattle.net_binding.specs.Bound.{bound}
use Rattle.agema_answers.specs.declared.ended.Ended.{Ended}
use Rattle.agema_answers.specs.declared.refusal.Refusal.{Refusal}
use Rattle.agema_answers.specs.declared.refusal.Refusal.TheVariants.{NetSyntax, Loop, NotHpc2}
use Rattle.agema_texts.specs.Auditing.{Audits, CanAudit, IsGiven, IsNoNetwork, IsUnaudited, IsUngiven, audit_line}
use Rattle.agema_texts.specs.Masks.{GivesNet, Masks}
use Rattle.agema_texts.specs.Original.{length_limit}
use Rattle.agema_texts.specs.Steps.{IsUnbound, IsUnspelled}
use Rattle.agema_texts.proofs.Ends.{of_binding}
use Rattle.agema_texts.proofs.Same.{SpellsOnce, read_not_unread}

below : (n m : ℕ) → nat_lt n m ≡ true → n < m
below n m h = grind (arith, nat_tests)

from : (n m : ℕ) → nat_lt n m ≡ false → m ≤ n
from n m h = grind (arith, nat_tests)

-- two numbers of which neither is below the other
by_tests : (m n : ℕ) (x y : Bool) → nat_lt m n ≡ x → nat_lt n m ≡ y → (m < n → Prim.⊥) → (n < m → Prim.⊥) → m ≡ n
by_tests m n true y e f a b = absurd (a (below m n e))
by_tests m n false true e f a b = absurd (b (below n m f))
by_tests m n false false e f a b =
    let high : n ≤ m = from m n e in
    let low : m ≤ n = from n m f in
    omega arith

not_below_itself : (n : ℕ) → n < n → Prim.⊥
not_below_itself n h = absurd (omega (arith, h))

-- a network has one number of gadgets
same_gadgets : (net : PlainNet) (d m n : ℕ) → HasGadgets net d m → HasGadgets net d n → m ≡ n
same_gadgets net d m n first second =
    by_tests m n (nat_lt m n) (nat_lt n m) refl refl (λ h. not_below_itself m ((first m).0 ((second m).1 h))) (λ h. not_below_itself n ((second n).0 ((first n).1 h)))

-- bytes give one net without a library
pub one_given : SpellsOnce → (bytes : List ℕ) (m n : PlainNet) → GivesNet bytes m → GivesNet bytes n → m ≡ n
one_given once bytes m n (d, first, binds) (e, second, too) =
    let same : d ≡ e = once bytes d e first second in
    let both = sym binds ∙ ap (bound []) same ∙ too in
    cc

pub audits_once : SpellsOnce → (bytes : List ℕ) (order : ℕ) (p q : List ℕ) → Audits bytes order p → Audits bytes order q → p ≡ q
audits_once once bytes order p q first second =
    let nets : first.net ≡ second.net = one_given once bytes first.net second.net first.given.1 second.given.1 in
    let G : PlainNet → Type 0 = λ n. HasGadgets n order first.gadgets in
    let same : first.gadgets ≡ second.gadgets = same_gadgets second.net order first.gadgets second.gadgets (subst G nets first.counted) second.counted in
    first.line_is ∙ ap (audit_line order) same ∙ sym second.line_is

-- what can be audited is not refused
pub audited_not_refused : SpellsOnce → (bytes : List ℕ) (order : ℕ) (r : Refusal) → CanAudit bytes order → IsUnaudited bytes order r → Prim.⊥
audited_not_refused once bytes order (NotHpc2 name) (net, given, network) (design, other, read, (w, broken, named)) =
    let same : other ≡ net = one_given once bytes other net (design, read.spelled, read.binds) given.1 in
    let K : PlainNet → Type 0 = λ n. Hpc2 n order in
    let whole : Hpc2 other order = subst K (sym same) network in
    broken.broken (whole.keeps w broken.wire)
audited_not_refused once bytes order r (net, (short, (design, spelled, binds)), network) unread =
    read_not_unread once [] bytes design net r (record { short = short; spelled = spelled; binds = binds; no_loop = network.no_loop }) unread

-- what `mask` writes can be audited
pub masked_can : (cells : List PlainCell) (bytes : List ℕ) (order : ℕ) (out file line : List ℕ) → Masks cells bytes order out file line → length out ≤ length_limit → CanAudit out order
masked_can cells bytes order out file line all short = (all.masks.masked, (short, all.masks.gives), all.masks.network)

-- bytes that give no net
pub ungiven : (bytes : List ℕ) (order : ℕ) → length bytes ≤ length_limit → (r : Refusal) → IsUngiven bytes r → IsUnaudited bytes order r
ungiven bytes order short (NetSyntax at) (inl h) = (short, h.0, h.1)
ungiven bytes order short (NetSyntax at) (inr (design, spelled, (fault, fails, told))) = absurd (of_binding fault (NetSyntax at) told)
ungiven bytes order short (Loop names) (inl h) = absurd h
ungiven bytes order short (Loop names) (inr (design, spelled, (fault, fails, told))) = absurd (of_binding fault (Loop names) told)
ungiven bytes order short (NotHpc2 name) (inl h) = absurd h
ungiven bytes order short (NotHpc2 name) (inr (design, spelled, (fault, fails, told))) = absurd (of_binding fault (NotHpc2 name) told)
ungiven bytes order short _ (inl h) = absurd h
ungiven bytes order short _ (inr (design, spelled, (fault, fails, told))) = (short, design, spelled, fault, fails, told)

pub unspelled : (bytes : List ℕ) (r : Refusal) → IsUnspelled bytes r → IsUngiven bytes r
unspelled bytes r h = inl h

pub unbound : (bytes : List ℕ) (design : PlainDesign) (cells : List PlainCell) → cells ≡ [] → Spelled bytes design → (r : Refusal) → IsUnbound cells design r → IsUngiven bytes r
unbound bytes design cells none spelled r h = let U : List PlainCell → Type 0 = λ c. IsUnbound c design r in inr (design, spelled, subst U none h)

-- a net that is no network
pub no_network : (bytes : List ℕ) (order : ℕ) (net : PlainNet) → IsGiven bytes net → (r : Refusal) → IsNoNetwork net order r → IsUnaudited bytes order r
no_network bytes order net (short, (design, spelled, binds)) (NotHpc2 name) (no_loop, broken) =
    (design, net, record { short = short; spelled = spelled; binds = binds; no_loop = no_loop }, broken)
no_network bytes order net (short, (design, spelled, binds)) (Loop names) (wires, is_loop, named) = (short, design, spelled, net, binds, wires, is_loop, named)
no_network bytes order net given _ h = absurd h

-- the line of a network
pub line_audits : {S : Type 0} (bytes_of : S → List ℕ) (bytes : List ℕ) (order gadgets : ℕ) (net : PlainNet) → IsGiven bytes net → Hpc2 net order → HasGadgets net order gadgets → (r : Result S Ended)
    → IfOk r (λ s. bytes_of s ≡ audit_line order gadgets) → IfOk r (λ s. Audits bytes order (bytes_of s))
line_audits bytes_of bytes order gadgets net given network counted (Ok s) h = record { net = net; given = given; network = network; gadgets = gadgets; counted = counted; line_is = h }
line_audits bytes_of bytes order gadgets net given network counted (Err e) h = tt
