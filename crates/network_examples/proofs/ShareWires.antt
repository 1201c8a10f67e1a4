-- Wires that have the name of a share keep the rules where they read what may serve that share.
use Rattle.std.proofs.Common.{◌≡◌, ◌<◌, ◌≤◌, ◌^◌, ◌==◌, ◌&&◌, ◌||◌, ◌⊎◌, ℕ, zero, suc, Bool, true, false, List, [], ◌∷◌, length, codes, IsTrue, Option, Some, None, refl, sym, subst, inl, inr, ◌∙◌, arith, slice_get}
use Rattle.std.specs.List.{list_any}
use Rattle.std.proofs.lemmas.Bool.{eqb-true}
use Rattle.agm_net.specs.Plain.{PlainNet, Stored}
use Rattle.agm_net.specs.Role.{share_name}
use Rattle.agm_net.specs.Loop.{reads, IsChain, HasNoLoop, last_of}
use Rattle.agm_net.specs.Run.{driver, reads_ever}
use Rattle.agm_net.specs.Label.{name_of, HasLabel, MayServe, IsBitOf}
use Rattle.agm_net.specs.Network.{random_bits_of, Keeps, Hpc2}
use Rattle.agm_net.specs.declared.label.Label.TheVariants.{Public, Share}
use Rattle.agm_net.specs.declared.label.Part.{Part}
use Rattle.agm_net.proofs.OneLabel.{one_label}
use Rattle.network_examples.specs.Examples.{apart, added}

share_not_public : (i : ℕ) (p : Option Part) → Share i p ≡ Public → Prim.⊥
share_not_public i p e = absurd (cc)

same_index : (i j : ℕ) (p q : Option Part) → Share i p ≡ Share j q → i ≡ j
same_index i j p q e = cc

module _ (net : PlainNet) (d w i : ℕ) (x : List ℕ) (within : i ≤ d) (small : i < 2 ^ 32) (some : 0 < length x) (is : name_of net w ≡ share_name i x) where
  pub share_label : HasLabel net d w (Share i None)
  share_label = (within, inl (share_name i x, (small, inl (x, some, refl)), inl is))

  pub keeps_share : ((v : ℕ) → IsTrue (reads_ever (driver net w) v) → MayServe net d i v) → ((n : ℕ) (r : Stored) → slice_get net.registers n ≡ Some r → Prim.⊥) → Keeps net d w
  keeps_share serve none =
      record {
        labelled = (Share i None, share_label);
        is_clock = λ e. (let r : ◌≡◌ {A = ℕ} 115 99 = (let same = sym is ∙ e in cc) in absurd (omega (arith, r)));
        is_random = not_random;
        public_reads = λ h. absurd (share_not_public i None (one_label net d w (Share i None) Public share_label h));
        share_reads = λ j h. subst (λ k. (v : ℕ) → IsTrue (reads_ever (driver net w) v) → MayServe net d k v) (same_index i j None None (one_label net d w (Share i None) (Share j None) share_label h)) serve;
        made = λ p h. (let r : ◌≡◌ {A = ℕ} 115 103 = (let same = sym is ∙ h.4 in cc) in absurd (omega (arith, r)));
        whole = λ g h. (let r : ◌≡◌ {A = ℕ} 115 103 = (let same = sym is ∙ h.2.4 in cc) in absurd (omega (arith, r)));
        numbered = λ g h past. (let r : ◌≡◌ {A = ℕ} 115 103 = (let same = sym is ∙ h.2.4 in cc) in absurd (omega (arith, r)));
        clocked = λ r n at. absurd (none n r at);
      }
    where
      not_random : IsBitOf (codes "agm_r") (name_of net w) → IsTrue (list_any (λ b. b == w) (random_bits_of net))
      not_random (inl e) = let r : ◌≡◌ {A = ℕ} 115 114 = (let same = sym is ∙ e in cc) in absurd (omega (arith, r))
      not_random (inr (k, few, e)) = let r : ◌≡◌ {A = ℕ} 115 114 = (let same = sym is ∙ e in cc) in absurd (omega (arith, r))

no_registers : (n : ℕ) (r : Stored) → slice_get [] n ≡ Some r → Prim.⊥
no_registers zero r e = absurd (cc)
no_registers (suc n) r e = absurd (cc)

reads_none : (v i : ℕ) (net : PlainNet) → IsTrue false → MayServe net 1 i v
reads_none v i net h = absurd (let wrong : false ≡ true = h in cc)

first : HasLabel apart 1 0 (Share 0 None)
first = share_label apart 1 0 0 (codes "x") (omega arith) (omega arith) (omega arith) refl

second : HasLabel apart 1 1 (Share 1 None)
second = share_label apart 1 1 1 (codes "x") (omega arith) (omega arith) (omega arith) refl

keeps_each : (w : ℕ) → w < 4 → Keeps apart 1 w
keeps_each zero lt = keeps_share apart 1 0 0 (codes "x") (omega arith) (omega arith) (omega arith) refl (λ v h. reads_none v 0 apart h) no_registers
keeps_each (suc zero) lt = keeps_share apart 1 1 1 (codes "x") (omega arith) (omega arith) (omega arith) refl (λ v h. reads_none v 1 apart h) no_registers
keeps_each (suc (suc zero)) lt =
    keeps_share apart 1 2 0 (codes "y") (omega arith) (omega arith) (omega arith) refl (λ v h. subst (MayServe apart 1 0) (eqb-true 0 v h) (inr (None, first))) no_registers
keeps_each (suc (suc (suc zero))) lt =
    keeps_share apart 1 3 1 (codes "y") (omega arith) (omega arith) (omega arith) refl (λ v h. subst (MayServe apart 1 1) (eqb-true 1 v h) (inr (None, second))) no_registers
keeps_each (suc (suc (suc (suc w)))) lt = absurd (omega arith)

either : (p q : Bool) → IsTrue (p || (q || false)) → IsTrue p ⊎ IsTrue q
either true q h = inl refl
either false true h = inr refl
either false false h = absurd (let wrong : false ≡ true = h in cc)

both : (p q : Bool) → IsTrue (p && q) → IsTrue p × IsTrue q
both true true h = (refl, refl)
both true false h = absurd (let wrong : false ≡ true = h in cc)
both false q h = absurd (let wrong : false ≡ true = h in cc)

falls : (w v : ℕ) → IsTrue (reads apart w v) → v < w
falls w v h = go (either ((2 == w) && (0 == v)) ((3 == w) && (1 == v)) h)
  where
    go : IsTrue ((2 == w) && (0 == v)) ⊎ IsTrue ((3 == w) && (1 == v)) → v < w
    go (inl one) = let p = both (2 == w) (0 == v) one in let a = eqb-true 2 w p.0 in let b = eqb-true 0 v p.1 in omega arith
    go (inr other) = let p = both (3 == w) (1 == v) other in let a = eqb-true 3 w p.0 in let b = eqb-true 1 v p.1 in omega arith

chain_falls : (w : ℕ) (vs : List ℕ) → IsChain (reads apart) w vs → last_of w vs ≤ w
chain_falls w [] chain = omega arith
chain_falls w (v ∷ vs) (step, chain) = let rest = chain_falls v vs chain in let less = falls w v step in omega arith

no_loop : HasNoLoop apart
no_loop [] loop = absurd loop
no_loop (w ∷ ws) (chain, closes) = let low = chain_falls w ws chain in let less = falls (last_of w ws) w closes in absurd (omega arith)

pub is_network : Hpc2 apart 1
is_network = record { no_loop = no_loop; keeps = λ w lt. keeps_each w lt }

-- share 0 of y reads share 1 of x, which may not serve it
other : HasLabel added 1 1 (Share 1 None)
other = share_label added 1 1 1 (codes "x") (omega arith) (omega arith) (omega arith) refl

no_service : MayServe added 1 0 1 → Prim.⊥
no_service (inl h) = share_not_public 1 None (one_label added 1 1 (Share 1 None) Public other h)
no_service (inr (p, h)) = let same : ◌≡◌ {A = ℕ} 1 0 = same_index 1 0 None p (one_label added 1 1 (Share 1 None) (Share 0 p) other h) in omega (arith, same)

pub is_no_network : Hpc2 added 1 → Prim.⊥
is_no_network h = no_service ((h.keeps 2 (omega arith)).share_reads 0 (share_label added 1 2 0 (codes "y") (omega arith) (omega arith) (omega arith) refl) 1 refl)
