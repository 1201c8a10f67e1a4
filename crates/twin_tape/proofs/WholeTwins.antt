-- Twins: there is one, it gives the same observation, and it leads back.
use Rattle.std.proofs.Common.{◌≡◌, ◌<◌, ℕ, true, List, [], length, sym, ◌∙◌, subst}
use Rattle.agm_net.specs.Network.{Hpc2}
use Rattle.agm_net.specs.Plain.{PlainNet}
use Rattle.agm_net.specs.Trace.{Row, bit_at}
use Rattle.agm_net.specs.WellFormed.{WellFormed}
use Rattle.agm_net.specs.declared.label.Label.{Label}
use Rattle.probe_cones.specs.Cone.{observed}
use Rattle.probe_cones.specs.declared.probe.Probe.{Probe}
use Rattle.twin_tape.specs.Permitted.{AreLabels, known, permitted, sights}
use Rattle.twin_tape.specs.Security.{Agree, AreProbes, role_at, sees}
use Rattle.probe_cones.specs.Inputs.{bit_with, random_width, roles}
use Rattle.twin_tape.specs.Tapes.{IsTape}
use Rattle.twin_tape.specs.Twin.{IsTwin}
use Rattle.twin_tape.proofs.Blinding.{twisted_tape}
use Rattle.twin_tape.proofs.Counting.{length-IsTape}
use Rattle.twin_tape.proofs.Exchange.{exchanged}
use Rattle.twin_tape.proofs.Isolation.{twin_sees}
use Rattle.twin_tape.proofs.Labels.{names}
use Rattle.twin_tape.proofs.Network.{Names, sights_of}
use Rattle.twin_tape.proofs.PermittedIs.{same_sights}
use Rattle.twin_tape.proofs.Rules.{is_network}
use Rattle.twin_tape.proofs.Sources.{Ranked, ranked_by}
use Rattle.twin_tape.proofs.TwinIs.{from_labels, to_labels}
use Rattle.twin_tape.proofs.TwinMap.{is_twin, mask, only_twin, twin_of}

module _ (net : PlainNet) (d : ℕ) (well : WellFormed net) (hpc2 : Hpc2 net d) (label : ℕ → Label) (labels : AreLabels net d label) (T : ℕ) (probes : List Probe) (A : List ℕ) (inside : AreProbes net T probes) (power : Row) (first second : List Row) where
  abbrev own : Names
  own = names net d well hpc2

  abbrev ordered : Ranked net
  ordered = ranked_by net well hpc2.no_loop

  abbrev made : List Row → List Row
  made random = twin_of net own d (is_network net d well hpc2) ordered probes A T power first second random

  pub exists : (random : List Row) → IsTape (random_width net) T random → (twin : List Row) × IsTape (random_width net) T twin × IsTwin net d label probes A T power first second random twin
  exists random is = (
    made random,
    twisted_tape (random_width net) T (mask net own d (is_network net d well hpc2) ordered probes A T power first second) [] [] random is,
    to_labels net d well hpc2 label labels T probes A inside power first second random (made random) (is_twin net own d (is_network net d well hpc2) ordered probes A T power first second random is),
  )

  is_made : (random twin : List Row) → IsTape (random_width net) T random → IsTape (random_width net) T twin → IsTwin net d label probes A T power first second random twin → twin ≡ made random
  is_made random twin is is' twin_is =
      only_twin net own d (is_network net d well hpc2) ordered probes A T power first second random twin is is' (from_labels net d well hpc2 label labels T probes A inside power first second random twin twin_is)

  pub only_one : (random twin other : List Row) → IsTape (random_width net) T random → IsTape (random_width net) T twin → IsTape (random_width net) T other
      → IsTwin net d label probes A T power first second random twin → IsTwin net d label probes A T power first second random other → twin ≡ other
  only_one random twin other is is' is'' one two = is_made random twin is is' one ∙ sym (is_made random other is is'' two)

  module _ (is_first : IsTape (length (roles net)) T first) (agree : Agree net (permitted (sights label probes) A T) first second) where
    agreed : (t n : ℕ) → t < T → n < length (roles net) → sees (known (sights_of own probes) A T 0) (role_at net n) ≡ true → bit_at first t n ≡ bit_at second t n
    agreed t n below small e =
        agree t n (subst (λ k. t < k) (sym (length-IsTape (length (roles net)) T first is_first)) below) small
        (subst (λ ss. sees (known ss A T 0) (role_at net n) ≡ true) (same_sights net d well hpc2 label labels T probes inside) e)

    pub see_alike : (random twin : List Row) → IsTape (random_width net) T random → IsTape (random_width net) T twin → IsTwin net d label probes A T power first second random twin
        → observed net probes A T (bit_with net power first random) ≡ observed net probes A T (bit_with net power second twin)
    see_alike random twin is is' twin_is =
        subst (λ r. observed net probes A T (bit_with net power first random) ≡ observed net probes A T (bit_with net power second r)) (sym (is_made random twin is is' twin_is))
        (twin_sees net own d (is_network net d well hpc2) ordered T probes A inside power first second agreed random is)

    pub lead_back : (random twin : List Row) → IsTwin net d label probes A T power first second random twin → IsTwin net d label probes A T power second first twin random
    lead_back random twin twin_is =
        to_labels net d well hpc2 label labels T probes A inside power second first twin random
        (exchanged net own d (is_network net d well hpc2) ordered probes A T power first second random twin (from_labels net d well hpc2 label labels T probes A inside power first second random twin twin_is) agreed)
