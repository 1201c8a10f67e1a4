-- The values of ports by their names, where ports are made beside others.
use Rattle.std.proofs.Common.{◌≡◌, ◌≢◌, ◌++◌, ℕ, zero, suc, Bool, false, List, [], ◌∷◌, map, bytes_eq, IsTrue, refl, sym, ap, inl, inr, ◌∙◌, append_assoc, append-nil}
use Rattle.std.specs.List.{insert}
use Rattle.std.proofs.lemmas.Bool.{cases_Bool, false_from_ne_true}
use Rattle.std.proofs.lemmas.Slice.Eq.{bytes_eq-Decides}
use Rattle.agm_net.specs.declared.port.Port.{Port}
use Rattle.share_wiring.specs.Built.{IsNew}
use Rattle.share_wiring.specs.Recombine.{port_value}
use Rattle.share_wiring.specs.Wiring.{Wiring, net_of}
use Rattle.share_wiring.proofs.Ports.{bits_named}

-- names that differ
other_name : (x y : List ℕ) → x ≢ y → bytes_eq x y ≡ false
other_name x y apart = false_from_ne_true (bytes_eq x y) (λ same. apart ((bytes_eq-Decides x y).0 same))

module _ (bit : ℕ → Bool) (name : List ℕ) where
  -- ports without one that has another name
  front_other : (p : Port) (ps : List Port) → p.name ≢ name → bits_named bit name (p ∷ ps) ≡ bits_named bit name ps
  front_other p ps apart = let other = other_name p.name name apart in rw other refl

  front_same : (p : Port) (ps : List Port) → p.name ≡ name → bits_named bit name (p ∷ ps) ≡ map bit p.bits ++ bits_named bit name ps
  front_same p ps is = let same : IsTrue (bytes_eq p.name name) = (bytes_eq-Decides p.name name).1 is in rw same refl

  -- a name that no port has
  pub value_nowhere : (ports : List Port) → IsNew (map (λ p. p.name) ports) name → bits_named bit name ports ≡ []
  value_nowhere [] new = refl
  value_nowhere (p ∷ ps) new = front_other p ps new.0 ∙ value_nowhere ps new.1

  -- ports behind others
  pub value_joined : (ps qs : List Port) → bits_named bit name (ps ++ qs) ≡ bits_named bit name ps ++ bits_named bit name qs
  value_joined [] qs = refl
  value_joined (p ∷ ps) qs =
      let rest = value_joined ps qs in
      elim (cases_Bool (bytes_eq p.name name)) [
        | inl own ↦ rw own (ap (λ xs. map bit p.bits ++ xs) rest ∙ sym (append_assoc (map bit p.bits) (bits_named bit name ps) (bits_named bit name qs)))
        | inr other ↦ rw other rest
      ]

  -- ports with other names behind them
  pub value_behind : (ps qs : List Port) → IsNew (map (λ p. p.name) qs) name → bits_named bit name (ps ++ qs) ≡ bits_named bit name ps
  value_behind ps qs new = value_joined ps qs ∙ (ap (λ xs. bits_named bit name ps ++ xs) (value_nowhere qs new) ∙ append-nil (bits_named bit name ps))

  -- and a port with another name at any place
  pub value_inserted : (ports : List Port) (i : ℕ) (p : Port) → p.name ≢ name → bits_named bit name (insert ports i p) ≡ bits_named bit name ports
  value_inserted [] zero p apart = front_other p [] apart
  value_inserted [] (suc i) p apart = front_other p [] apart
  value_inserted (q ∷ qs) zero p apart = front_other p (q ∷ qs) apart
  value_inserted (q ∷ qs) (suc i) p apart =
      let rest = value_inserted qs i p apart in
      elim (cases_Bool (bytes_eq q.name name)) [ inl own ↦ rw own (ap (λ xs. map bit q.bits ++ xs) rest) | inr other ↦ rw other rest ]

  -- a port with the name where no other has it
  pub value_own : (before : List Port) (p : Port) (after : List Port) → p.name ≡ name → IsNew (map (λ q. q.name) before) name → IsNew (map (λ q. q.name) after) name
      → bits_named bit name (before ++ p ∷ after) ≡ map bit p.bits
  value_own before p after is none_before none_after =
      value_joined before (p ∷ after)
      ∙ (ap (λ xs. xs ++ bits_named bit name (p ∷ after)) (value_nowhere before none_before)
      ∙ (front_same p after is ∙ (ap (λ xs. map bit p.bits ++ xs) (value_nowhere after none_after) ∙ append-nil (map bit p.bits))))

  -- the same of a port that was put at a place
  pub value_put : (ports : List Port) (i : ℕ) (p : Port) → p.name ≡ name → IsNew (map (λ q. q.name) ports) name → bits_named bit name (insert ports i p) ≡ map bit p.bits
  value_put [] zero p is new = front_same p [] is ∙ append-nil (map bit p.bits)
  value_put [] (suc i) p is new = front_same p [] is ∙ append-nil (map bit p.bits)
  value_put (q ∷ qs) zero p is new = front_same p (q ∷ qs) is ∙ (ap (λ xs. map bit p.bits ++ xs) (value_nowhere (q ∷ qs) new) ∙ append-nil (map bit p.bits))
  value_put (q ∷ qs) (suc i) p is new = front_other q (insert qs i p) new.0 ∙ value_put qs i p is new.1

-- ---- the same of a builder's nets

pub named_nowhere : (net : Wiring) (name : List ℕ) (bit : ℕ → Bool) → IsNew (map (λ p. p.name) net.ports) name → port_value (net_of net) name bit ≡ []
named_nowhere net name bit new = value_nowhere bit name net.ports new

module _ (old now : Wiring) (bit : ℕ → Bool) where
  pub keeps_behind : (more : List Port) (name : List ℕ) → now.ports ≡ old.ports ++ more → IsNew (map (λ p. p.name) more) name → port_value (net_of now) name bit ≡ port_value (net_of old) name bit
  keeps_behind more name made new = ap (bits_named bit name) made ∙ value_behind bit name old.ports more new

  pub keeps_inserted : (place : ℕ) (p : Port) (name : List ℕ) → now.ports ≡ insert old.ports place p → p.name ≢ name → port_value (net_of now) name bit ≡ port_value (net_of old) name bit
  keeps_inserted place p name made apart = ap (bits_named bit name) made ∙ value_inserted bit name old.ports place p apart

  pub has_inserted : (place : ℕ) (p : Port) → now.ports ≡ insert old.ports place p → IsNew (map (λ q. q.name) old.ports) p.name → port_value (net_of now) p.name bit ≡ map bit p.bits
  has_inserted place p made new = ap (bits_named bit p.name) made ∙ value_put bit p.name old.ports place p refl new

  pub has_behind : (before : List Port) (p : Port) (after : List Port) → now.ports ≡ before ++ p ∷ after → IsNew (map (λ q. q.name) before) p.name → IsNew (map (λ q. q.name) after) p.name
      → port_value (net_of now) p.name bit ≡ map bit p.bits
  has_behind before p after made front back = ap (bits_named bit p.name) made ∙ value_own bit p.name before p after refl front back
