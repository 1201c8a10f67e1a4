-- How many input bits have each kind of role.
use Rattle.std.proofs.Common.{◌≡◌, ◌+◌, ◌-◌, ℕ, suc, Bool, true, false, not, cond, List, [], ◌∷◌, filter, length, map, refl, sym, ap, ◌∙◌, arith}
use Rattle.agm_net.specs.Plain.{PlainNet, data_ports, is_input}
use Rattle.probe_cones.specs.Inputs.{BitRole, bit_roles, is_random, random_width, roles}
use Rattle.probe_cones.specs.Observing.{flags_of}
use Rattle.probe_cones.proofs.Joined.{flags_are}

set_are : (rs : List BitRole) → length (filter (λ f. f) (map is_random rs)) ≡ length (filter is_random rs)
set_are [] = refl
set_are (r ∷ rs) = go (is_random r) (set_are rs)
  where
    go : (b : Bool) → length (filter (λ f. f) (map is_random rs)) ≡ length (filter is_random rs)
        → length (cond b (b ∷ filter (λ f. f) (map is_random rs)) (filter (λ f. f) (map is_random rs))) ≡ length (cond b (r ∷ filter is_random rs) (filter is_random rs))
    go true rest = ap suc rest
    go false rest = rest

both_are : (rs : List BitRole) → length (map is_random rs) ≡ length (filter is_random rs) + length (filter (λ role. not (is_random role)) rs)
both_are [] = refl
both_are (r ∷ rs) = go (is_random r) (both_are rs)
  where
    go : (b : Bool) → length (map is_random rs) ≡ length (filter is_random rs) + length (filter (λ role. not (is_random role)) rs)
        → suc (length (map is_random rs)) ≡ length (cond b (r ∷ filter is_random rs) (filter is_random rs)) + length (cond (not b) (r ∷ filter (λ role. not (is_random role)) rs) (filter (λ role. not (is_random role)) rs))
    go true rest = omega (arith, rest)
    go false rest = omega (arith, rest)

pub random_are : (net : PlainNet) → length (filter (λ f. f) (flags_of (data_ports net))) ≡ random_width net
random_are net = ap (λ fs. length (filter (λ f. f) fs)) (sym (flags_are (filter is_input (data_ports net)))) ∙ set_are (bit_roles net)

pub all_are : (net : PlainNet) → length (flags_of (data_ports net)) ≡ random_width net + length (roles net)
all_are net = ap (λ fs. length fs) (sym (flags_are (filter is_input (data_ports net)))) ∙ both_are (bit_roles net)
