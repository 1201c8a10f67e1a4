-- A name says one thing.
use Rattle.std.proofs.Common.{◌≡◌, ◌⊎◌, ℕ, zero, suc, List, codes, refl, sym, ap, subst, inl, inr, ◌∙◌}
use Rattle.agm_net.specs.Label.{IsPartName, IsShareName, IsUserName}
use Rattle.agm_net.specs.declared.label.Part.{Part}
use Rattle.agm_net.proofs.OneLabel.{IsIn, one_family, no_user, public_in, random_in, form_in, share_form, part_in, one_share}
use Rattle.agm_net.proofs.OnePart.{one_part}
use Rattle.hpc2_audit.specs.Spelled.{Spells}
use Rattle.hpc2_audit.specs.declared.spelled.Spelled.{Spelled}
use Rattle.hpc2_audit.specs.declared.spelled.Spelled.TheVariants.{OfUser, OfClock, OfPublic, OfRandom, OfShare, OfPart, OfNothing}

module _ (d : ℕ) (name : List ℕ) where
  abbrev Told : ℕ → Spelled → Type 0
  Told zero a = Prim.⊥
  Told (suc zero) a = a ≡ OfClock
  Told (suc (suc zero)) a = a ≡ OfPublic
  Told (suc (suc (suc zero))) a = a ≡ OfRandom
  Told (suc (suc (suc (suc zero)))) a = (i : ℕ) × IsShareName i name × (a ≡ OfShare i)
  Told (suc (suc (suc (suc (suc k))))) a = (p : Part) × IsPartName d p name × (a ≡ OfPart p)

  agree : (k : ℕ) (a b : Spelled) → Told k a → Told k b → a ≡ b
  agree zero a b p q = absurd p
  agree (suc zero) a b p q = p ∙ sym q
  agree (suc (suc zero)) a b p q = p ∙ sym q
  agree (suc (suc (suc zero))) a b p q = p ∙ sym q
  agree (suc (suc (suc (suc zero)))) a b (i, named, p) (j, named', q) = p ∙ (ap (λ k. OfShare k) (one_share i j name named named') ∙ sym q)
  agree (suc (suc (suc (suc (suc k))))) a b (x, named, p) (y, named', q) = p ∙ (ap (λ z. OfPart z) (one_part d name x y named named') ∙ sym q)

  abbrev Seen : Spelled → Type 0
  Seen a = (a ≡ OfNothing) ⊎ ((IsUserName name × (a ≡ OfUser)) ⊎ ((k : ℕ) × IsIn k name × Told k a))

  seen : (a : Spelled) → Spells d name a → Seen a
  seen OfUser h = inr (inl (h, refl))
  seen OfClock h = inr (inr (1, (codes "clk", h, refl), refl))
  seen OfPublic h = inr (inr (2, public_in name h, refl))
  seen OfRandom h = inr (inr (3, random_in name h, refl))
  seen (OfShare i) h = inr (inr (4, form_in i name (share_form i name h.1), (i, h.1, refl)))
  seen (OfPart p) h = inr (inr (5, part_in d p name h, (p, h, refl)))
  seen OfNothing h = inl refl

  nothing_else : (a : Spelled) → Spells d name OfNothing → Spells d name a → a ≡ OfNothing
  nothing_else OfUser none h = absurd (none.0.no_user h)
  nothing_else OfClock none h = absurd (none.0.no_clock h)
  nothing_else OfPublic none h = absurd (none.0.no_public h)
  nothing_else OfRandom none h = absurd (none.0.no_random h)
  nothing_else (OfShare i) none h = absurd (none.0.no_share i h.0 h.1)
  nothing_else (OfPart p) none h = absurd (none.1 p h)
  nothing_else OfNothing none h = refl

  pub one_reading : (a b : Spelled) → Spells d name a → Spells d name b → a ≡ b
  one_reading a b p q = go (seen a p) (seen b q)
    where
      go : Seen a → Seen b → a ≡ b
      go (inl e) y = e ∙ sym (nothing_else b (subst (Spells d name) e p) q)
      go (inr x) (inl f) = nothing_else a (subst (Spells d name) f q) p ∙ sym f
      go (inr (inl (user, e))) (inr (inl (user', f))) = e ∙ sym f
      go (inr (inl (user, e))) (inr (inr (k, is, told))) = absurd (no_user k name user is)
      go (inr (inr (k, is, told))) (inr (inl (user, f))) = absurd (no_user k name user is)
      go (inr (inr (k, is, told))) (inr (inr (l, is', told'))) = agree k a b told (subst (λ m. Told m b) (sym (one_family k l name is is')) told')
