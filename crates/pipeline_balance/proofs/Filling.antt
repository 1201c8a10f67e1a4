-- A table of chains that is filled node by node.
use Rattle.std.proofs.Common.{◌≡◌, ◌<◌, ◌≤◌, ◌+◌, ◌-◌, ◌*◌, ◌/◌, ◌^◌, ◌++◌, ◌&&◌, ◌||◌, ℕ, zero, suc, Bool, false, cond, List, [], ◌∷◌, length, length-append, take, map, get_or, true, slice_get, Some, sum_by, refl, sym, ap, ap₂, subst, subst₂, inl, inr, ◌∙◌, arith, IsTrue, nat_lt}
use Rattle.std.proofs.lemmas.Bool.{cases_lt, and_parts, ltb-true}
use Rattle.std.proofs.lemmas.List.{get_or_append_left, length-map}
use Rattle.std.proofs.lemmas.List.Sums.{sum_by-cons}
use Rattle.std.proofs.lemmas.Nat.{mul-le}
use Rattle.std.proofs.Math.Seq.{get_or-append_seam}
use Rattle.std.proofs.Math.ListN.{get_or-map}
use Rattle.logic_graph.specs.Nodes.{xan_reads_before}
use Rattle.logic_graph.specs.declared.nodes.XanNode.{XanNode}
use Rattle.logic_graph.specs.declared.nodes.XanNode.TheVariants.{Zero, One, Input, Q, Not, Xor, And}
use Rattle.share_wiring.specs.Wiring.{Wiring}
use Rattle.share_wiring.specs.Adds.{random_bits}
use Rattle.pipeline_balance.specs.declared.values.Value.{Value}
use Rattle.pipeline_balance.specs.declared.values.Value.TheVariants.{Public}
use Rattle.pipeline_balance.specs.declared.chains.Chain.{Chain}
use Rattle.pipeline_balance.specs.declared.chains.Layout.{Layout}
use Rattle.pipeline_balance.specs.Pipelines.{IsMade}
use Rattle.pipeline_balance.specs.Growing.{AreInOrder, HasMore}
use Rattle.pipeline_balance.specs.Shared.{Adds, Agree, placed}
use Rattle.pipeline_balance.specs.Valued.{is_secret}
use Rattle.level_plan.specs.Passes.{has_source}
use Rattle.pipeline_balance.specs.Chained.{value_at, chain_at, stage, kind_at, places_of, IsChain, AreChains, AreValues, AreSources, IsCarried, AreCarried, IsRead, CanBeMade, node_kind, gadgets_in, MakesNode, Within, IsPlanned, secret_at, first_at, last_at, late_at, IsLayout, NodesMade, gadgets_before, IsFilled}
use Rattle.pipeline_balance.proofs.Bridges.{agree_made}
use Rattle.pipeline_balance.proofs.Adding.{adds_none, adds_then, adds_so, value_still}
use Rattle.pipeline_balance.proofs.Chaining.{has_values, chain_stays}

-- ---- counts of gadgets

pub gadgets_step : (f : XanNode → ℕ) (nodes : List XanNode) (k : ℕ) (node : XanNode) → slice_get nodes k ≡ Some node → sum_by f (take (suc k) nodes) ≡ sum_by f (take k nodes) + f node
gadgets_step f [] k node at = absurd (cc)
gadgets_step f (x ∷ xs) zero node at = let same : x ≡ node = cc in subst (λ m. sum_by f (x ∷ []) ≡ 0 + f m) same (let one = sum_by-cons f x [] in omega (arith, one))
gadgets_step f (x ∷ xs) (suc k) node at =
    let whole = sum_by-cons f x (take (suc k) xs) in
    let before = sum_by-cons f x (take k xs) in
    let more = gadgets_step f xs k node at in
    omega (arith, whole, before, more)

gadgets_grow : (f : XanNode → ℕ) (nodes : List XanNode) (j k : ℕ) → j ≤ k → sum_by f (take j nodes) ≤ sum_by f (take k nodes)
gadgets_grow f [] zero zero le = omega arith
gadgets_grow f [] zero (suc k) le = omega arith
gadgets_grow f [] (suc j) zero le = absurd (omega arith)
gadgets_grow f [] (suc j) (suc k) le = omega arith
gadgets_grow f (x ∷ xs) zero k le = omega arith
gadgets_grow f (x ∷ xs) (suc j) zero le = absurd (omega arith)
gadgets_grow f (x ∷ xs) (suc j) (suc k) le =
    let a = sum_by-cons f x (take j xs) in
    let b = sum_by-cons f x (take k xs) in
    let more = gadgets_grow f xs j k (omega arith) in
    omega (arith, a, b, more)

-- ---- what the plan says of a node, as the table has it

module _ (n : ℕ) (inputs registers : List (Value n)) (nodes : List XanNode) (layout : Layout) (now : Wiring) (table : List (Chain n))
    (plan : IsLayout nodes (map is_secret inputs) (map is_secret registers) layout) (chains : AreChains n now (secret_at layout) (first_at layout) (last_at layout) table) where
  pub kind_of_node : (a : ℕ) → a < length table → kind_at table a ≡ secret_at layout a
  kind_of_node a lt =
      let c = chains a lt in
      let order = c.in_order in
      let reaches = c.reaches in
      c.kinds 0 (omega (arith, order, reaches))

  pub are_values : AreValues n now table
  are_values k lt = has_values n now (secret_at layout k) (first_at layout k) (last_at layout k) (chain_at table k) (chains k lt)

  can_read : (a q : ℕ) → a < length table → Within (first_at layout) (last_at layout) a q → IsRead n table a q
  can_read a q lt within =
      let c = chains a lt in
      let begins = c.level_is in
      let reaches = c.reaches in
      let from = within.0 in
      let to = within.1 in
      record { known = lt; from = omega (arith, begins, from); to = omega (arith, begins, reaches, to) }

  source_kind : (values : List (Value n)) (i : ℕ) → get_or (map is_secret values) i false ≡ is_secret (value_at values i)
  source_kind values i = get_or-map is_secret values i (Public (record { shares = [] }))

  -- its kind, and its gadgets
  pub kind_of : (node : XanNode) → IsTrue (xan_reads_before (length table) node)
      → node_kind (λ i. is_secret (value_at inputs i)) (λ r. is_secret (value_at registers r)) (kind_at table) node
      ≡ node_kind (λ i. get_or (map is_secret inputs) i false) (λ r. get_or (map is_secret registers) r false) (secret_at layout) node
  kind_of Zero reads = refl
  kind_of One reads = refl
  kind_of (Input i) reads = sym (source_kind inputs i)
  kind_of (Q r) reads = sym (source_kind registers r)
  kind_of (Not a) reads = kind_of_node a (ltb-true a (length table) reads)
  kind_of (Xor a b) reads =
      let both = and_parts (nat_lt a (length table)) (nat_lt b (length table)) reads in
      ap₂ (λ x y. x || y) (kind_of_node a (ltb-true a (length table) both.0)) (kind_of_node b (ltb-true b (length table) both.1))
  kind_of (And a b) reads =
      let both = and_parts (nat_lt a (length table)) (nat_lt b (length table)) reads in
      ap₂ (λ x y. x || y) (kind_of_node a (ltb-true a (length table) both.0)) (kind_of_node b (ltb-true b (length table) both.1))

  both_kinds : (a b : ℕ) → IsTrue (nat_lt a (length table) && nat_lt b (length table)) → (kind_at table a && kind_at table b) ≡ (secret_at layout a && secret_at layout b)
  both_kinds a b reads =
      let both = and_parts (nat_lt a (length table)) (nat_lt b (length table)) reads in
      ap₂ (λ x y. x && y) (kind_of_node a (ltb-true a (length table) both.0)) (kind_of_node b (ltb-true b (length table) both.1))

  pub gadgets_of : (node : XanNode) → IsTrue (xan_reads_before (length table) node) → gadgets_in (kind_at table) node ≡ gadgets_in (secret_at layout) node
  gadgets_of Zero reads = refl
  gadgets_of One reads = refl
  gadgets_of (Input i) reads = refl
  gadgets_of (Q r) reads = refl
  gadgets_of (Not a) reads = refl
  gadgets_of (Xor a b) reads = refl
  gadgets_of (And a b) reads = ap (λ x. cond x 1 0) (both_kinds a b reads)

  late_known : (late : Bool) (a b : ℕ) → a < length table → b < length table → cond late a b < length table
  late_known false a b la lb = lb
  late_known true a b la lb = la

  read_products : (level a b : ℕ) (late secret : Bool) → a < length table → b < length table
      → cond secret ((2 ≤ level) × Within (first_at layout) (last_at layout) (cond late a b) (level - 1) × Within (first_at layout) (last_at layout) (cond late b a) (level - 2))
      (Within (first_at layout) (last_at layout) a level × Within (first_at layout) (last_at layout) b level)
      → cond secret ((2 ≤ level) × IsRead n table (cond late a b) (level - 1) × IsRead n table (cond late b a) (level - 2)) (IsRead n table a level × IsRead n table b level)
  read_products level a b late true la lb planned =
      (planned.0, can_read (cond late a b) (level - 1) (late_known late a b la lb) planned.1, can_read (cond late b a) (level - 2) (late_known late b a lb la) planned.2)
  read_products level a b late false la lb planned = (can_read a level la planned.0, can_read b level lb planned.1)

  -- it can be made
  can : (late : Bool) (node : XanNode) → IsTrue (xan_reads_before (length table) node) → IsTrue (has_source (length (map is_secret inputs)) (length (map is_secret registers)) node)
      → IsPlanned (secret_at layout) (first_at layout) (last_at layout) late (length table) node → CanBeMade n (length inputs) (length registers) table (first_at layout (length table)) late node
  can late Zero reads known planned = tt
  can late One reads known planned = tt
  can late (Input i) reads known planned = (planned, subst (λ m. i < m) (length-map inputs is_secret) (ltb-true i (length (map is_secret inputs)) known))
  can late (Q r) reads known planned = (planned, subst (λ m. r < m) (length-map registers is_secret) (ltb-true r (length (map is_secret registers)) known))
  can late (Not a) reads known planned =
      let lt = ltb-true a (length table) reads in
      let c = chains a lt in
      let order = c.in_order in
      (can_read a (first_at layout (length table)) lt (omega (arith, planned), omega (arith, planned, order)), planned ∙ sym c.level_is)
  can late (Xor a b) reads known planned =
      let both = and_parts (nat_lt a (length table)) (nat_lt b (length table)) reads in
      (can_read a (first_at layout (length table)) (ltb-true a (length table) both.0) planned.0, can_read b (first_at layout (length table)) (ltb-true b (length table) both.1) planned.1)
  can late (And a b) reads known planned =
      let both = and_parts (nat_lt a (length table)) (nat_lt b (length table)) reads in
      let level = first_at layout (length table) in
      subst (λ x. cond x ((2 ≤ level) × IsRead n table (cond late a b) (level - 1) × IsRead n table (cond late b a) (level - 2)) (IsRead n table a level × IsRead n table b level)) (sym (both_kinds a b reads))
      (read_products level a b late (secret_at layout a && secret_at layout b) (ltb-true a (length table) both.0) (ltb-true b (length table) both.1) planned)

  pub can_be_made : (node : XanNode) → AreInOrder nodes → slice_get nodes (length table) ≡ Some node
      → CanBeMade n (length inputs) (length registers) table (first_at layout (length table)) (late_at layout (length table)) node
  can_be_made node order at =
      can (late_at layout (length table)) node (order (length table) node at) (plan.sourced (length table) node at) (plan.planned (length table) node at)

-- ---- one node more

chain_front : {n : ℕ} (table : List (Chain n)) (c : Chain n) (k : ℕ) → k < length table → chain_at (table ++ c ∷ []) k ≡ chain_at table k
chain_front table c k lt = get_or_append_left table (c ∷ []) (record { level = 0; stages = [] }) k lt

chain_last : {n : ℕ} (table : List (Chain n)) (c : Chain n) → chain_at (table ++ c ∷ []) (length table) ≡ c
chain_last table c = get_or-append_seam table c [] (record { level = 0; stages = [] })

module _ (n : ℕ) (table : List (Chain n)) (c : Chain n) where
  agrees : Agree (length table) (places_of n table) (places_of n (table ++ c ∷ []))
  agrees = record {
    shares = λ k lt. ap (λ d. (places_of n (d ∷ [])).shares 0) (chain_front table c k lt);
    size = λ k lt. ap (λ d. (places_of n (d ∷ [])).size 0) (chain_front table c k lt);
    level = λ k lt. ap (λ (d : Chain n). d.level) (chain_front table c k lt);
  }

  has_more : (level : ℕ) → c.level ≡ level → HasMore (length table) (places_of n table) (places_of n (table ++ c ∷ [])) ((places_of n (c ∷ [])).size 0) level ((places_of n (c ∷ [])).shares 0)
  has_more level is = record {
    agree = agrees;
    new_size = ap (λ d. (places_of n (d ∷ [])).size 0) (chain_last table c);
    new_level = ap (λ (d : Chain n). d.level) (chain_last table c) ∙ is;
    new_shares = ap (λ d. (places_of n (d ∷ [])).shares 0) (chain_last table c);
  }

  -- what holds of each chain
  each_chain : (P : ℕ → Chain n → Type 0) → ((k : ℕ) → k < length table → P k (chain_at table k)) → P (length table) c → (k : ℕ) → k < length (table ++ c ∷ []) → P k (chain_at (table ++ c ∷ []) k)
  each_chain P before last k lt =
      let len = length-append table (c ∷ []) in
      elim (cases_lt k (length table)) [
        | inl old ↦ subst (P k) (sym (chain_front table c k old)) (before k old)
        | inr new ↦ (let here : k ≡ length table = omega (arith, lt, len, new) in
            subst (λ j. P j (chain_at (table ++ c ∷ []) j)) (sym here) (subst (P (length table)) (sym (chain_last table c)) last))
      ]

  nodes_more : (nodes : List XanNode) (inputs registers : List (Value n)) (node : XanNode) (level cycles : ℕ) (bits : ℕ → ℕ → Bool) → AreInOrder nodes → slice_get nodes (length table) ≡ Some node → c.level ≡ level
      → AreCarried n table cycles bits → NodesMade n nodes inputs registers table cycles bits → MakesNode n inputs registers table node level (stage c 0) cycles bits
      → NodesMade n nodes inputs registers (table ++ c ∷ []) cycles bits
  nodes_more nodes inputs registers node level cycles bits order at is carried before made s sources k m lt here =
      let q = places_of n (table ++ c ∷ []) in
      let len = length-append table (c ∷ []) in
      elim (cases_lt k (length table)) [
        | inl old ↦ agree_made cycles bits (places_of n table) q s (length table) k m agrees old (order k m here) (before s sources k m old here)
        | inr new ↦ (
            let place : k ≡ length table = omega (arith, lt, len, new) in
            let same : node ≡ m = (let there : slice_get nodes (length table) ≡ Some m = ap (slice_get nodes) (sym place) ∙ here in cc) in
            subst (λ j. IsMade cycles q.level (placed bits q s) j m) (sym place)
            (subst (λ x. IsMade cycles q.level (placed bits q s) (length table) x) same (made carried q s sources (has_more level is))))
      ]

-- ---- the loop

pub filled_begins : (n : ℕ) (nodes : List XanNode) (inputs registers : List (Value n)) (layout : Layout) (net : Wiring) (table : List (Chain n)) → table ≡ [] → IsFilled n nodes inputs registers layout net net 0 table
filled_begins n nodes inputs registers layout net table e =
    subst (λ t. IsFilled n nodes inputs registers layout net net 0 t) (sym e)
    (record {
      count = refl;
      chains = λ k lt. absurd (omega arith);
      adds = adds_so net net 0 (gadgets_before (secret_at layout) nodes 0) 0 (gadgets_before (secret_at layout) nodes 0 * (n * (n - 1) / 2)) _ _ refl (omega arith) (λ cycles bits f. f)
          (adds_none net (λ cycles bits. AreCarried n [] cycles bits × NodesMade n nodes inputs registers [] cycles bits) (λ cycles bits. (λ k lt. absurd (omega arith), λ s sources k node lt. absurd (omega arith))));
    })

module _ (n : ℕ) (nodes : List XanNode) (inputs registers : List (Value n)) (layout : Layout) (start now : Wiring) (k : ℕ) (table : List (Chain n))
    (filled : IsFilled n nodes inputs registers layout start now k table) (order : AreInOrder nodes) (plan : IsLayout nodes (map is_secret inputs) (map is_secret registers) layout) (node : XanNode) (at : slice_get nodes k ≡ Some node) where
  at_table : slice_get nodes (length table) ≡ Some node
  at_table = ap (slice_get nodes) filled.count ∙ at

  pub next_reads : IsTrue (xan_reads_before (length table) node)
  next_reads = order (length table) node at_table

  pub next_can : CanBeMade n (length inputs) (length registers) table (first_at layout k) (late_at layout k) node
  next_can = subst (λ j. CanBeMade n (length inputs) (length registers) table (first_at layout j) (late_at layout j) node) filled.count
      (can_be_made n inputs registers nodes layout now table plan filled.chains node order at_table)

  pub next_values : AreValues n now table
  next_values = are_values n inputs registers nodes layout now table plan filled.chains

  pub next_sources : (values : List (Value n)) → AreSources n start values → AreSources n now values
  next_sources values inside i lt = value_still n start now (value_at values i) filled.adds.extends (inside i lt)

  gadgets_here : gadgets_in (kind_at table) node ≡ gadgets_in (secret_at layout) node
  gadgets_here = gadgets_of n inputs registers nodes layout now table plan filled.chains node next_reads

  gadgets_next : gadgets_before (secret_at layout) nodes (k + 1) ≡ gadgets_before (secret_at layout) nodes k + gadgets_in (secret_at layout) node
  gadgets_next = let next : k + 1 ≡ suc k = omega arith in ap (gadgets_before (secret_at layout) nodes) next ∙ gadgets_step (gadgets_in (secret_at layout)) nodes k node at

  gadgets_fit : k < length nodes → gadgets_before (secret_at layout) nodes k + gadgets_in (kind_at table) node ≤ gadgets_before (secret_at layout) nodes (length nodes)
  gadgets_fit lt =
      let here = gadgets_here in
      let next = gadgets_next in
      let grow = gadgets_grow (gadgets_in (secret_at layout)) nodes (k + 1) (length nodes) (omega arith) in
      omega (arith, here, next, grow)

  pub next_random : k < length nodes → start.given + gadgets_before (secret_at layout) nodes (length nodes) * (n * (n - 1) / 2) ≤ length (random_bits start.ports)
      → now.given + gadgets_in (kind_at table) node * (n * (n - 1) / 2) ≤ length (random_bits now.ports)
  next_random lt room =
      let r = n * (n - 1) / 2 in
      let before = gadgets_before (secret_at layout) nodes k in
      let here = gadgets_in (kind_at table) node in
      let total = gadgets_before (secret_at layout) nodes (length nodes) in
      let given : now.given ≡ start.given + before * r = filled.adds.given in
      let fits : (before + here) * r ≤ total * r = mul-le (before + here) r total r (gadgets_fit lt) (omega arith) in
      let spread : (before + here) * r ≡ before * r + here * r = grind arith in
      subst (λ ps. now.given + here * r ≤ length (random_bits ps)) (sym filled.adds.ports) (omega (arith, given, fits, spread, room))

  pub next_gadgets : k < length nodes → start.gadgets + gadgets_before (secret_at layout) nodes (length nodes) ≤ 2 ^ 32 → now.gadgets + gadgets_in (kind_at table) node ≤ 2 ^ 32
  next_gadgets lt room =
      let begun = filled.adds.begun in
      let fit = gadgets_fit lt in
      omega (arith, begun, fit, room)

  pub filled_more : (new : Wiring) (c : Chain n) (longer : List (Chain n)) → longer ≡ table ++ c ∷ []
      → IsChain n new (node_kind (λ i. is_secret (value_at inputs i)) (λ r. is_secret (value_at registers r)) (kind_at table) node) (first_at layout k) (last_at layout k) c
      → Adds n now new (gadgets_in (kind_at table) node) (gadgets_in (kind_at table) node * (n * (n - 1) / 2)) (λ cycles bits. MakesNode n inputs registers table node (first_at layout k) (stage c 0) cycles bits × IsCarried n c cycles bits)
      → IsFilled n nodes inputs registers layout start new (k + 1) longer
  filled_more new c longer e chain adds =
      let r = n * (n - 1) / 2 in
      let before = gadgets_before (secret_at layout) nodes k in
      let here = gadgets_in (kind_at table) node in
      let next = gadgets_next in
      let same = gadgets_here in
      let count = filled.count in
      let len = length-append table (c ∷ []) in
      let spread : (before + here) * r ≡ before * r + here * r = grind arith in
      let total : before + here ≡ gadgets_before (secret_at layout) nodes (k + 1) = omega (arith, next, same) in
      let kind = kind_of n inputs registers nodes layout now table plan filled.chains node next_reads ∙ sym (plan.kinds k node at) in
      let is_chain : IsChain n new (secret_at layout (length table)) (first_at layout (length table)) (last_at layout (length table)) c =
      subst (λ j. IsChain n new (secret_at layout j) (first_at layout j) (last_at layout j) c) (sym filled.count) (subst (λ s. IsChain n new s (first_at layout k) (last_at layout k) c) kind chain) in
      subst (λ t. IsFilled n nodes inputs registers layout start new (k + 1) t) (sym e)
      (record {
        count = omega (arith, count, len);
        chains = each_chain n table c (λ j d. IsChain n new (secret_at layout j) (first_at layout j) (last_at layout j) d)
            (λ j lt. chain_stays n now new (secret_at layout j) (first_at layout j) (last_at layout j) (chain_at table j) adds.extends (filled.chains j lt)) is_chain;
        adds = adds_so start new (before + here) (gadgets_before (secret_at layout) nodes (k + 1)) (before * r + here * r) (gadgets_before (secret_at layout) nodes (k + 1) * r) _ _
            total (sym spread ∙ ap (λ g. g * r) total)
            (λ cycles bits f. (
              each_chain n table c (λ j d. IsCarried n d cycles bits) f.0.0 f.1.1,
              nodes_more n table c nodes inputs registers node (first_at layout k) cycles bits order at_table chain.level_is f.0.0 f.0.1 f.1.0,
            ))
            (adds_then start now new before here (before * r) (here * r) _ _ filled.adds adds);
      })

  -- the same, where the table and the levels were lent
  pub filled_read : (new : Wiring) (c : Chain n) (longer t : List (Chain n)) (levels lasts : List ℕ) → t ≡ table → levels ≡ layout.levels → lasts ≡ layout.lasts → longer ≡ table ++ c ∷ []
      → IsChain n new (node_kind (λ i. is_secret (value_at inputs i)) (λ r. is_secret (value_at registers r)) (kind_at t) node) (get_or levels k 0) (get_or lasts k 0) c
      → Adds n now new (gadgets_in (kind_at t) node) (gadgets_in (kind_at t) node * (n * (n - 1) / 2)) (λ cycles bits. MakesNode n inputs registers t node (get_or levels k 0) (stage c 0) cycles bits × IsCarried n c cycles bits)
      → IsFilled n nodes inputs registers layout start new (k + 1) longer
  filled_read new c longer t levels lasts e f h l chain adds =
      filled_more new c longer l
      (subst (λ x. IsChain n new (node_kind (λ i. is_secret (value_at inputs i)) (λ r. is_secret (value_at registers r)) (kind_at x) node) (first_at layout k) (last_at layout k) c) e
      (subst₂ (λ x y. IsChain n new (node_kind (λ i. is_secret (value_at inputs i)) (λ r. is_secret (value_at registers r)) (kind_at t) node) (get_or x k 0) (get_or y k 0) c) f h chain))
      (subst₂ (λ x y. Adds n now new (gadgets_in (kind_at x) node) (gadgets_in (kind_at x) node * (n * (n - 1) / 2)) (λ cycles bits. MakesNode n inputs registers x node (get_or y k 0) (stage c 0) cycles bits × IsCarried n c cycles bits)) e f adds)
