-- The permitted indices by labels are those of the proof.
use Rattle.std.proofs.Common.{◌≡◌, ◌<◌, ℕ, suc, true, List, [], ◌∷◌, Some, None, IsTrue, length, refl, sym, ap, ap₂, ◌∙◌, subst, inl, inr, arith, true≢false}
use Rattle.agm_net.specs.Label.{HasLabel, is_share_kind, is_inner_kind}
use Rattle.agm_net.specs.Network.{Hpc2}
use Rattle.agm_net.specs.Plain.{PlainNet}
use Rattle.agm_net.specs.Trace.{Row}
use Rattle.agm_net.specs.WellFormed.{WellFormed}
use Rattle.agm_net.specs.declared.label.Label.{Label}
use Rattle.agm_net.specs.declared.label.Label.TheVariants.{Clock as l_clock, Public as l_public, Random as l_random, Share as l_share, Inner as l_inner}
use Rattle.agm_net.specs.declared.label.Part.{Part as PartOf}
use Rattle.agm_net.specs.declared.label.PartKind.{PartKind}
use Rattle.agm_net.specs.declared.label.PartKind.TheVariants.{Clk as KClk, R as KR, Rr as KRr, Vx as KVx, V as KV, Ux as KUx, Wx as KWx}
use Rattle.probe_cones.specs.declared.probe.Probe.{Probe}
use Rattle.twin_tape.specs.Permitted as by_label
use Rattle.twin_tape.specs.Permitted.{AreLabels, inner_sight, known, permitted}
use Rattle.twin_tape.specs.declared.sight.Sight.TheVariants.{One as One'}
use Rattle.twin_tape.specs.Security.{Agree, AreProbes, seen}
use Rattle.probe_cones.specs.Inputs.{roles}
use Rattle.twin_tape.specs.Tapes.{IsTape}
use Rattle.twin_tape.proofs.Counting.{length-IsTape}
use Rattle.twin_tape.proofs.Isolation.{twins_of}
use Rattle.twin_tape.proofs.Labels.{label_is, names, tag}
use Rattle.twin_tape.proofs.Network.{part_sight, sight, sights_of}
use Rattle.twin_tape.proofs.Rules.{is_network}
use Rattle.twin_tape.proofs.Sources.{ranked_by}
use Rattle.twin_tape.proofs.Twins.{seen_same}

share_sight : (g : ℕ) (k : PartKind) (i j t : ℕ) → IsTrue (is_share_kind k) → part_sight g k i j t ≡ One' i
share_sight g KClk i j t h = absurd (true≢false (sym h))
share_sight g KR i j t h = absurd (true≢false (sym h))
share_sight g KRr i j t h = absurd (true≢false (sym h))
share_sight g KVx i j t h = absurd (true≢false (sym h))
share_sight g KV i j t h = absurd (true≢false (sym h))
share_sight g KUx i j t h = absurd (true≢false (sym h))
share_sight g KWx i j t h = absurd (true≢false (sym h))
share_sight g _ i j t h = refl

inner_same : (p : PartOf) (k : PartKind) (t : ℕ) → IsTrue (is_inner_kind k) → part_sight p.gadget k p.i p.j t ≡ inner_sight k p t
inner_same p KR t h = refl
inner_same p KRr t h = refl
inner_same p KVx t h = refl
inner_same p KV t h = refl
inner_same p KUx t h = refl
inner_same p KWx t h = refl
inner_same p _ t h = absurd (true≢false (sym h))

module _ (net : PlainNet) (d : ℕ) (well : WellFormed net) (hpc2 : Hpc2 net d) where
  tag_sight : (w : ℕ) (a : Label) (h : HasLabel net d w a) (t : ℕ) → sight (tag net d well hpc2 w a h) t ≡ by_label.sight a t
  tag_sight w l_clock (inl e) t = refl
  tag_sight w l_clock (inr p) t = refl
  tag_sight w l_public h t = refl
  tag_sight w (l_random g i j) h t = refl
  tag_sight w (l_share i None) h t = refl
  tag_sight w (l_share i (Some p)) h t = share_sight p.gadget p.kind p.i p.j t h.0 ∙ ap One' h.1
  tag_sight w (l_inner p) h t = inner_same p p.kind t h.0

  pub same_sights : (label : ℕ → Label) → AreLabels net d label → (T : ℕ) (probes : List Probe) → AreProbes net T probes → sights_of (names net d well hpc2) probes ≡ by_label.sights label probes
  same_sights label labels T [] inside = refl
  same_sights label labels T (p ∷ probes) inside =
      let here = inside 0 p (omega arith) in
      ap₂ (λ s ss. s ∷ ss) (ap (λ l. sight l p.cycle) (label_is net d well hpc2 p.wire here.0 (label p.wire) (labels p.wire here.0)) ∙ tag_sight p.wire (label p.wire) (labels p.wire here.0) p.cycle)
      (same_sights label labels T probes (λ m other h. inside (suc m) other (omega arith)))

  pub permitted_seen : (label : ℕ → Label) → AreLabels net d label → (T : ℕ) (probes : List Probe) (A : List ℕ) → AreProbes net T probes → (power : Row) (first second : List Row) → IsTape (length (roles net)) T first
      → Agree net (permitted (by_label.sights label probes) A T) first second → (o : Row) → seen net T power first probes A o ≡ seen net T power second probes A o
  permitted_seen label labels T probes A inside power first second is_first agree o =
      let same = same_sights label labels T probes inside in
      let twins = twins_of net (names net d well hpc2) d (is_network net d well hpc2) (ranked_by net well hpc2.no_loop) T probes A inside power first second
      (λ t n below small e.
      agree t n (subst (λ k. t < k) (sym (length-IsTape (length (roles net)) T first is_first)) below) small
      (subst (λ ss. Rattle.twin_tape.specs.Security.sees (known ss A T 0) (Rattle.twin_tape.specs.Security.role_at net n) ≡ true) same e)) in
      seen_same net power first second probes A T twins.0 twins.1 twins.2 o
