use Rattle.std.proofs.Common.{sym, subst, All, ◌<◌, List, ℕ, length, ◌≡◌, ◌∙◌, ap, Result, Ok, Err, IfOk, Bool}
use Rattle.agm_net.specs.View.{plain_of}
use Rattle.agm_net.specs.Plain.{PlainNet}
use Rattle.agm_net.specs.declared.mark.Mark.{Mark}
use Rattle.secrecy_spread.specs.declared.reach.Edge.{Edge}
use Rattle.secrecy_spread.specs.Reach.{AreReached}
use Rattle.secrecy_spread.specs.Wires.{edges_of, secure_bits, AreWireSecrets}
use Rattle.secrecy_spread.proofs.WireSecrets.{edges_fit, starts_fit, wire_secrets}
use Rattle.secrecy_spread.proofs.wires.secret_wires.Goals as goal

pub reached-requires-clause-starts : goal.reached-requires-clause-starts
reached-requires-clause-starts c =
    let net = plain_of c.args.net.now in
    let is : c.as_slice-3.result.now ≡ secure_bits net.ports c.args.marks.now = c.as_slice-3.ensures ∙ (c.in_ok-starts.ensures ∙ ap (λ ps. secure_bits ps c.args.marks.now) c.as_slice.ensures) in
    let all = starts_fit net c.args.marks.now c.args.net.now.well_formed in
    subst (λ n. All (λ w. w < n) c.as_slice-3.result.now) (sym c.len.ensures) (subst (All (λ w. w < length net.wires)) (sym is) all)

fits : (n m : ℕ) (edges all : List Edge) (P : Edge → ℕ) → m ≡ n → edges ≡ all → All (λ e. P e < n) all → All (λ e. P e < m) edges
fits n m edges all P same is h = subst (λ k. All (λ e. P e < k) edges) (sym same) (subst (All (λ e. P e < n)) (sym is) h)

pub reached-requires-clause-from : goal.reached-requires-clause-from
reached-requires-clause-from c =
    let net = plain_of c.args.net.now in
    let all = edges_fit net c.args.net.now.well_formed in
    fits (length net.wires) c.len.result c.as_slice-2.result.now (edges_of net) (λ e. e.from) c.len.ensures (c.as_slice-2.ensures ∙ c.in_ok-edges.ensures) (λ k d lt. (all k d lt).0)

pub reached-requires-clause-to : goal.reached-requires-clause-to
reached-requires-clause-to c =
    let net = plain_of c.args.net.now in
    let all = edges_fit net c.args.net.now.well_formed in
    fits (length net.wires) c.len.result c.as_slice-2.result.now (edges_of net) (λ e. e.to) c.len.ensures (c.as_slice-2.ensures ∙ c.in_ok-edges.ensures) (λ k d lt. (all k d lt).1)

ends : (net : PlainNet) (marks : List Mark) (n : ℕ) (edges : List Edge) (starts : List ℕ) {E : Type 0} (r : Result (List Bool) E) → n ≡ length net.wires → edges ≡ edges_of net → starts ≡ secure_bits net.ports marks
    → IfOk r (AreReached n edges starts) → IfOk r (AreWireSecrets net marks)
ends net marks n edges starts (Ok flags) long is at h =
    wire_secrets net marks flags (subst (λ m. AreReached m (edges_of net) (secure_bits net.ports marks) flags) long (subst (λ es. AreReached n es (secure_bits net.ports marks) flags) is (subst (λ ss. AreReached n edges ss flags) at h)))
ends net marks n edges starts (Err e) long is at h = tt

pub returns : goal.returns
returns c =
    ends (plain_of c.args.net.now) c.args.marks.now c.len.result c.as_slice-2.result.now c.as_slice-3.result.now c.reached.result c.len.ensures (c.as_slice-2.ensures ∙ c.in_ok-edges.ensures) (c.as_slice-3.ensures ∙ (c.in_ok-starts.ensures ∙ ap (λ ps. secure_bits ps c.args.marks.now) c.as_slice.ensures)) c.reached.ensures
