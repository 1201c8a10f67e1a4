-- The columns of a tape have the roles of its bits.
use Rattle.std.proofs.Common.{◌≡◌, ◌<◌, ◌+◌, ◌==◌, ◌++◌, ◌∷◌, [], ℕ, zero, suc, Bool, true, false, not, ◌||◌, cond, List, Option, Some, None, codes, drop, filter, length, map, take, refl, sym, ap, ap₂, ◌∙◌, arith, inl, inr, eqb-true, eq-eqb}
use Rattle.std.specs.List.{flat_map, range_with_len}
use Rattle.std.specs.Str.{bytes_eq}
use Rattle.std.proofs.lemmas.Bool.{cases_Bool}
use Rattle.std.proofs.lemmas.List.Elements.{filter-append}
use Rattle.agm_net.specs.Plain.{PlainNet, is_input, ports_but}
use Rattle.agm_net.specs.declared.port.Port.{Port}
use Rattle.probe_cones.specs.Inputs.{BitRole, bit_role, is_random, port_roles, random_bit, roles, share_role}
use Rattle.probe_cones.specs.Shares.{share_of}
use Rattle.twin_tape.specs.Differences.{Column, columns, columns_from, is_clock, port_columns}

abbrev other : BitRole → Bool
other r = not (is_random r)

-- the roles of a port's columns, and of some ports'
abbrev part_of : Port → List BitRole
part_of p = filter other (cond (is_input p) (port_roles p) [])

abbrev others_in : List Port → List BitRole
others_in ps = filter other (flat_map port_roles (filter is_input ps))

others_more : (p : Port) (ps : List Port) → others_in (p ∷ ps) ≡ part_of p ++ others_in ps
others_more p ps = go (is_input p)
  where
    go : (b : Bool) → filter other (flat_map port_roles (cond b (p ∷ filter is_input ps) (filter is_input ps))) ≡ filter other (cond b (port_roles p) []) ++ others_in ps
    go true = filter-append other (port_roles p) (flat_map port_roles (filter is_input ps))
    go false = refl

role_kind : (name : List ℕ) (place : ℕ) (b : Bool) → bytes_eq name (codes "agm_r") ≡ b → other (bit_role name place) ≡ not b
role_kind name place b e = ap (λ c. other (cond c random_bit (share_role (share_of name) place))) e ∙ go b (share_of name)
  where
    go : (c : Bool) (o : Option (ℕ × List ℕ)) → other (cond c random_bit (share_role o place)) ≡ not c
    go true o = refl
    go false None = refl
    go false (Some s) = refl

kept : (name : List ℕ) → bytes_eq name (codes "agm_r") ≡ false → (a m : ℕ) → filter other (map (bit_role name) (range_with_len a m)) ≡ map (bit_role name) (range_with_len a m)
kept name e a zero = refl
kept name e a (suc m) =
    ap (λ b. cond b (bit_role name a ∷ filter other (map (bit_role name) (range_with_len (a + 1) m))) (filter other (map (bit_role name) (range_with_len (a + 1) m)))) (role_kind name a false e)
    ∙ ap (λ rs. bit_role name a ∷ rs) (kept name e (a + 1) m)

left_out : (name : List ℕ) → bytes_eq name (codes "agm_r") ≡ true → (a m : ℕ) → filter other (map (bit_role name) (range_with_len a m)) ≡ []
left_out name e a zero = refl
left_out name e a (suc m) =
    ap (λ b. cond b (bit_role name a ∷ filter other (map (bit_role name) (range_with_len (a + 1) m))) (filter other (map (bit_role name) (range_with_len (a + 1) m)))) (role_kind name a true e)
    ∙ left_out name e (a + 1) m

abbrev pub role_of : Column → BitRole
role_of c = c.1

abbrev bits_of : ℕ → Port → List Column
bits_of n p = map (λ place. (n, bit_role p.name place)) (range_with_len 0 (length p.bits))

bit_roles_of : (n : ℕ) (p : Port) (a m : ℕ) → map role_of (map (λ place. (n, bit_role p.name place)) (range_with_len a m)) ≡ map (bit_role p.name) (range_with_len a m)
bit_roles_of n p a zero = refl
bit_roles_of n p a (suc m) = ap (λ rs. bit_role p.name a ∷ rs) (bit_roles_of n p (a + 1) m)

port_is : (clock : Option ℕ) (n : ℕ) (p : Port) → map role_of (port_columns clock n p) ≡ cond (is_clock clock n) [] (part_of p)
port_is clock n p = go (is_clock clock n) (is_input p) (bytes_eq p.name (codes "agm_r")) refl
  where
    go : (c i r : Bool) → bytes_eq p.name (codes "agm_r") ≡ r → map role_of (cond (c || (not i || r)) [] (bits_of n p)) ≡ cond c [] (filter other (cond i (port_roles p) []))
    go true i r e = refl
    go false false r e = refl
    go false true true e = sym (left_out p.name e 0 (length p.bits))
    go false true false e = bit_roles_of n p 0 (length p.bits) ∙ sym (kept p.name e 0 (length p.bits))

map_joined : {X Y : Type 0} (f : X → Y) (xs ys : List X) → map f (xs ++ ys) ≡ map f xs ++ map f ys
map_joined f [] ys = refl
map_joined f (x ∷ xs) ys = ap (λ zs. f x ∷ zs) (map_joined f xs ys)

step_is : (clock : Option ℕ) (n : ℕ) (p : Port) (ps : List Port) → map role_of (columns_from clock n (p ∷ ps)) ≡ cond (is_clock clock n) [] (part_of p) ++ map role_of (columns_from clock (n + 1) ps)
step_is clock n p ps = map_joined role_of (port_columns clock n p) (columns_from clock (n + 1) ps) ∙ ap (λ rs. rs ++ map role_of (columns_from clock (n + 1) ps)) (port_is clock n p)

no_clock : (n : ℕ) (ps : List Port) → map role_of (columns_from None n ps) ≡ others_in ps
no_clock n [] = refl
no_clock n (p ∷ ps) = step_is None n p ps ∙ (ap (λ rs. part_of p ++ rs) (no_clock (n + 1) ps) ∙ sym (others_more p ps))

apart : (c n : ℕ) → c < n → (c == n) ≡ false
apart c n lt = elim (cases_Bool (c == n)) [ inl same ↦ absurd (let e = eqb-true c n same in omega (arith, e, lt)) | inr differs ↦ differs ]

past_clock : (c n : ℕ) (ps : List Port) → c < n → map role_of (columns_from (Some c) n ps) ≡ others_in ps
past_clock c n [] lt = refl
past_clock c n (p ∷ ps) lt =
    step_is (Some c) n p ps
    ∙ (ap₂ (λ b rs. cond b [] (part_of p) ++ rs) (apart c n lt) (past_clock c (n + 1) ps (omega (arith, lt))) ∙ sym (others_more p ps))

before_clock : (c n k : ℕ) (ps : List Port) → k ≡ n + c → map role_of (columns_from (Some k) n ps) ≡ others_in (take c ps ++ drop (c + 1) ps)
before_clock zero n k [] e = refl
before_clock (suc c) n k [] e = let g : suc c + 1 ≡ suc (c + 1) = omega arith in ap (λ m. others_in (take (suc c) [] ++ drop m [])) (sym g)
before_clock zero n k (p ∷ ps) e =
    let here : (k == n) ≡ true = eq-eqb k n (omega (arith, e)) in
    step_is (Some k) n p ps ∙ ap₂ (λ b rs. cond b [] (part_of p) ++ rs) here (past_clock k (n + 1) ps (omega (arith, e)))
before_clock (suc c) n k (p ∷ ps) e =
    let other_port : (k == n) ≡ false = elim (cases_Bool (k == n)) [ inl same ↦ absurd (let f = eqb-true k n same in omega (arith, e, f)) | inr differs ↦ differs ] in
    let g : suc c + 1 ≡ suc (c + 1) = omega arith in
    step_is (Some k) n p ps
    ∙ (ap₂ (λ b rs. cond b [] (part_of p) ++ rs) other_port (before_clock c (n + 1) k ps (omega (arith, e)))
    ∙ (sym (others_more p (take c ps ++ drop (c + 1) ps)) ∙ ap (λ m. others_in ((p ∷ take c ps) ++ drop m (p ∷ ps))) (sym g)))

pub columns_are : (net : PlainNet) → map role_of (columns net) ≡ roles net
columns_are net = go net.clock
  where
    go : (clock : Option ℕ) → map role_of (columns_from clock 0 net.ports) ≡ others_in (ports_but clock net.ports)
    go None = no_clock 0 net.ports
    go (Some c) = before_clock c 0 c net.ports (omega arith)
