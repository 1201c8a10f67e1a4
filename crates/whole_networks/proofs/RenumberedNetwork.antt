-- An HPC2 network stays one where its wires are renumbered.
use Rattle.std.proofs.Common.{◌≡◌, ◌<◌, ℕ, zero, suc, List, [], ◌∷◌, Some, None, codes, map, length, slice_get, IsTrue, refl, sym, ap, subst, inl, inr, ◌∙◌}
use Rattle.agm_net.specs.Label.{part, name_of, IsBitOf, IsUserName, IsPublicName, IsShareName, IsPart, IsPartName, IsReadByPart, HasLabel, MayServe, is_reader}
use Rattle.agm_net.specs.Loop.{reads, IsChain, last_of, IsLoop}
use Rattle.agm_net.specs.Network.{Recipe, the_clock, a_share, a_random_bit, inverse, product, sum, stored, recipe, HasWire, IsMade, HasPart, IsOfGadget, HasGadget, IsPastGap, MayClock, Keeps, Hpc2, HasGadgets}
use Rattle.agm_net.specs.Plain.{Stored, PlainNet}
use Rattle.agm_net.specs.Renumbered.{renumbered_register, Renumbered}
use Rattle.agm_net.specs.Run.{driver, reads_ever}
use Rattle.agm_net.specs.declared.label.Label.{Label}
use Rattle.agm_net.specs.declared.label.Label.TheVariants.{Clock, Public, Random, Share, Inner}
use Rattle.agm_net.specs.declared.label.Part.{Part}
use Rattle.agm_net.specs.declared.label.PartKind.TheVariants.{Clk, R}
use Rattle.whole_networks.proofs.Renumbering.{renumbered_driver, name_there, wire_there, wire_back, one_wire, driver_there, reads_there, now_there, reader_there, port_there, random_there}

-- an item of an image is that of an item of the list
pub from_image : {X Y : Type 0} (f : X → Y) (xs : List X) (n : ℕ) (y : Y) → slice_get (map f xs) n ≡ Some y → (x : X) × (slice_get xs n ≡ Some x) × (y ≡ f x)
from_image f [] n y at = absurd (cc)
from_image f (x ∷ xs) zero y at = (x, refl, cc)
from_image f (x ∷ xs) (suc n) y at = from_image f xs n y at

module _ (net other : PlainNet) (r : Renumbered net other) where
  -- ---- no loop

  reads_back : (w v : ℕ) → IsTrue (reads other w v) → IsTrue (reads net (r.back w) (r.back v))
  reads_back w v h =
      sym (now_there net other r (r.back w) (r.back v))
      ∙ (ap (λ a. reads other a (r.there (r.back v))) (r.back_and_there w) ∙ (ap (λ b. reads other w b) (r.back_and_there v) ∙ h))

  chain_back : (w : ℕ) (ws : List ℕ) → IsChain (reads other) w ws → IsChain (reads net) (r.back w) (map r.back ws)
  chain_back w [] h = tt
  chain_back w (v ∷ vs) h = (reads_back w v h.0, chain_back v vs h.1)

  last_back : (w : ℕ) (ws : List ℕ) → last_of (r.back w) (map r.back ws) ≡ r.back (last_of w ws)
  last_back w [] = refl
  last_back w (v ∷ vs) = last_back v vs

  loop_back : (ws : List ℕ) → IsLoop other ws → IsLoop net (map r.back ws)
  loop_back [] loop = loop
  loop_back (w ∷ ws) loop = (
    chain_back w ws loop.0,
    subst (λ v. IsTrue (reads net v (r.back w))) (sym (last_back w ws)) (reads_back (last_of w ws) w loop.1),
  )

  module _ (d : ℕ) where
    -- ---- labels

    named_there : (P : List ℕ → Type 0) (w : ℕ) → P (name_of net w) → P (name_of other (r.there w))
    named_there P w h = subst P (sym (name_there net other r w)) h

    named_back : (P : List ℕ → Type 0) (w : ℕ) → P (name_of other (r.there w)) → P (name_of net w)
    named_back P w h = subst P (name_there net other r w) h

    part_there : (w : ℕ) (p : Part) → IsPart net d w p → IsPart other d (r.there w) p
    part_there w p h = named_there (λ name. IsPartName d p name) w h

    part_back : (w : ℕ) (p : Part) → IsPart other d (r.there w) p → IsPart net d w p
    part_back w p h = named_back (λ name. IsPartName d p name) w h

    reader_is : (u w : ℕ) → IsTrue (is_reader other u (r.there w)) → IsTrue (is_reader net (r.back u) w)
    reader_is u w h = sym (reader_there net other r (r.back u) w) ∙ (ap (λ x. is_reader other x (r.there w)) (r.back_and_there u) ∙ h)

    read_there : (w : ℕ) (p : Part) → IsReadByPart net d w p → IsReadByPart other d (r.there w) p
    read_there w p h = (
      r.there h.0,
      part_there h.0 p h.1,
      reader_there net other r h.0 w ∙ h.2,
      (λ u reader. sym (r.back_and_there u) ∙ ap r.there (h.3 (r.back u) (reader_is u w reader))),
    )

    -- a label of a wire is one of its number in the other net
    label_there : (w : ℕ) (l : Label) → HasLabel net d w l → HasLabel other d (r.there w) l
    label_there w Clock (inl e) = inl (name_there net other r w ∙ e)
    label_there w Clock (inr h) = inr (h.0, h.1, part_there w h.0 h.2)
    label_there w Public (inl h) = inl (named_there IsPublicName w h)
    label_there w Public (inr h) = inr (named_there IsUserName w h.0, port_there net other r w ∙ h.1)
    label_there w (Random g i j) h = (named_there (λ name. IsBitOf (codes "agm_r") name) w h.0, read_there w (part g R i j) h.1)
    label_there w (Share i None) h = (h.0, named_there (λ name. IsShareName i name) w h.1)
    label_there w (Share i (Some p)) h = (h.0, h.1, part_there w p h.2)
    label_there w (Inner p) h = (h.0, part_there w p h.1)

    public_back : (w : ℕ) → HasLabel other d (r.there w) Public → HasLabel net d w Public
    public_back w (inl h) = inl (named_back IsPublicName w h)
    public_back w (inr h) = inr (named_back IsUserName w h.0, sym (port_there net other r w) ∙ h.1)

    share_back : (w i : ℕ) → HasLabel other d (r.there w) (Share i None) → HasLabel net d w (Share i None)
    share_back w i h = (h.0, named_back (λ name. IsShareName i name) w h.1)

    serve_there : (i w : ℕ) → MayServe net d i w → MayServe other d i (r.there w)
    serve_there i w (inl h) = inl (label_there w Public h)
    serve_there i w (inr h) = inr (h.0, label_there w (Share i h.0) h.1)

    -- ---- parts and gadgets

    made_by : (w : ℕ) (f : _) → driver net w ≡ f → driver other (r.there w) ≡ renumbered_driver r.there f
    made_by w f e = driver_there net other r w ∙ ap (renumbered_driver r.there) e

    made_there : (w : ℕ) (x : Recipe) → IsMade net d w x → IsMade other d (r.there w) x
    made_there w the_clock h = (r.there h.0, made_by w _ h.1, name_there net other r h.0 ∙ h.2)
    made_there w (a_share i) h = (r.there h.0, made_by w _ h.1, serve_there i h.0 h.2)
    made_there w a_random_bit h = (r.there h.0, made_by w _ h.1, named_there (λ name. IsBitOf (codes "agm_r") name) h.0 h.2)
    made_there w (inverse p) h = (r.there h.0, made_by w _ h.1, part_there h.0 p h.2)
    made_there w (product p q) h = (r.there h.0, r.there h.1, made_by w _ h.2, part_there h.0 p h.3, part_there h.1 q h.4)
    made_there w (sum p q) h = (r.there h.0, r.there h.1, made_by w _ h.2, part_there h.0 p h.3, part_there h.1 q h.4)
    made_there w (stored p) h = (h.0, r.there h.1, made_by w _ h.2, part_there h.1 p h.3)

    has_part : (p : Part) → HasPart net d p → HasPart other d p
    has_part p h = (r.there h.0, wire_there net other r h.0 h.1, part_there h.0 p h.2)

    gadget_there : (w g : ℕ) → IsOfGadget net d w g → IsOfGadget other d (r.there w) g
    gadget_there w g h = (h.0, h.1, part_there w h.0 h.2)

    gadget_back : (w g : ℕ) → IsOfGadget other d (r.there w) g → IsOfGadget net d w g
    gadget_back w g h = (h.0, h.1, part_back w h.0 h.2)

    has_gadget : (g : ℕ) → HasGadget net d g → HasGadget other d g
    has_gadget g h = (r.there h.0, wire_there net other r h.0 h.1, gadget_there h.0 g h.2)

    had_gadget : (g : ℕ) → HasGadget other d g → HasGadget net d g
    had_gadget g h =
        let same = sym (r.back_and_there h.0) in (
          r.back h.0,
          wire_back net other r (r.back h.0) (subst (λ v. v < length other.wires) same h.1),
          gadget_back (r.back h.0) g (subst (λ v. IsOfGadget other d v g) same h.2),
        )

    pub has_gadgets : (n : ℕ) → HasGadgets net d n → HasGadgets other d n
    has_gadgets n counted g = ((λ has. (counted g).0 (had_gadget g has)), (λ lt. has_gadget g ((counted g).1 lt)))

    gap_back : (g : ℕ) → IsPastGap other d g → IsPastGap net d g
    gap_back g h = (h.0, h.1, (λ k lt. had_gadget k (h.2 k lt)), (λ k le lt has. h.3 k le lt (has_gadget k has)))

    -- ---- clocks

    has_wire : (name : List ℕ) → HasWire net name → HasWire other name
    has_wire name h = (r.there h.0, wire_there net other r h.0 h.1, name_there net other r h.0 ∙ h.2)

    may_clock : (w c : ℕ) → MayClock net d w c → MayClock other d (r.there w) (r.there c)
    may_clock w c (inl e) = inl (name_there net other r c ∙ e)
    may_clock w c (inr h) = inr (has_wire (codes "agm_clk") h.0, h.1, gadget_there w h.1 h.2, part_there c (part h.1 Clk 0 0) h.3)

    clocked_there : (w : ℕ) → Keeps net d w → (s : Stored) (n : ℕ) → slice_get other.registers n ≡ Some s → s.q ≡ r.there w → MayClock other d (r.there w) s.clock
    clocked_there w k s n at q =
        let found = from_image (renumbered_register r.there) net.registers n s (sym (ap (λ rs. slice_get rs n) r.same_registers) ∙ at) in
        let same : found.0.q ≡ w = one_wire net other r found.0.q w (sym (ap (λ (t : Stored). t.q) found.2) ∙ q) in
        subst (λ c. MayClock other d (r.there w) c) (sym (ap (λ (t : Stored). t.clock) found.2)) (may_clock w found.0.clock (k.clocked found.0 n found.1 same))

    -- ---- the rules

    ever_back : (w v : ℕ) → IsTrue (reads_ever (driver other (r.there w)) v) → IsTrue (reads_ever (driver net w) (r.back v))
    ever_back w v h = sym (reads_there net other r w (r.back v)) ∙ (ap (λ u. reads_ever (driver other (r.there w)) u) (r.back_and_there v) ∙ h)

    keeps_there : (w : ℕ) → Keeps net d w → Keeps other d (r.there w)
    keeps_there w k = record {
      labelled = (k.labelled.0, label_there w k.labelled.0 k.labelled.1);
      is_clock = (λ e. made_by w _ (k.is_clock (sym (name_there net other r w) ∙ e)));
      is_random = (λ e. random_there net other r w ∙ k.is_random (named_back (λ name. IsBitOf (codes "agm_r") name) w e));
      public_reads = (λ label v reads. subst (λ u. HasLabel other d u Public) (r.back_and_there v) (label_there (r.back v) Public (k.public_reads (public_back w label) (r.back v) (ever_back w v reads))));
      share_reads = (λ i label v reads. subst (λ u. MayServe other d i u) (r.back_and_there v) (serve_there i (r.back v) (k.share_reads i (share_back w i label) (r.back v) (ever_back w v reads))));
      made = (λ p is. made_there w (recipe d p.gadget p.kind p.i p.j) (k.made p (part_back w p is)));
      whole = (λ g of kind i j numbers. has_part (part g kind i j) (k.whole g (gadget_back w g of) kind i j numbers));
      numbered = (λ g of gap. k.numbered g (gadget_back w g of) (gap_back g gap));
      clocked = (λ s n at q. clocked_there w k s n at q);
    }

    pub is_network : Hpc2 net d → Hpc2 other d
    is_network network = record {
      no_loop = (λ ws loop. network.no_loop (map r.back ws) (loop_back ws loop));
      keeps = (λ v lt.
          let same = sym (r.back_and_there v) in
          subst (λ u. Keeps other d u) (r.back_and_there v) (keeps_there (r.back v) (network.keeps (r.back v) (wire_back net other r (r.back v) (subst (λ u. u < length other.wires) same lt)))));
    }
