-- The nodes of input bits and registers.
use Rattle.std.proofs.Common.{◌≡◌, ◌≢◌, ◌<◌, ◌≤◌, ◌+◌, ◌==◌, ◌++◌, ℕ, zero, suc, List, [], ◌∷◌, map, length, length-append, replicate, slice_get, slice_set, get_or, Some, refl, sym, ap, ◌∙◌, subst, arith, append_assoc, append-nil, eq-eqb, inl, inr}
use Rattle.std.specs.List.{range_with_len}
use Rattle.std.proofs.lemmas.Bool.{cases_eq, cases_Bool}
use Rattle.std.proofs.lemmas.List.{get_or-set_same, get_or-set_other}
use Rattle.std.proofs.Math.ListN.{length-set}
use Rattle.agm_net.proofs.Lists.{count_no, count_yes}
use Rattle.agm_net.proofs.Wires.{times}
use Rattle.logic_graph.specs.declared.nodes.Node.{Node}
use Rattle.logic_graph.specs.declared.drawing.Drawing.{Drawing}
use Rattle.logic_graph.specs.Sources.{with_source, with_sources}
use Rattle.logic_graph.proofs.Places.{AreBelow}

-- what nodes of wires add to a drawing
pub record AddsSources (kind : ℕ → Node) (i : ℕ) (ws : List ℕ) (d e : Drawing) : Type 0 where
  pub nodes : e.nodes ≡ d.nodes ++ map kind (range_with_len i (length ws))
  pub numbers : e.numbers ≡ d.numbers ++ replicate (length ws) 0
  pub below : AreBelow e.of_wire (length e.nodes)
  pub wires : length e.of_wire ≡ length d.of_wire
  pub others : (w : ℕ) → times w ws ≡ 0 → get_or e.of_wire w 0 ≡ get_or d.of_wire w 0
  pub own : ((w : ℕ) → times w ws ≤ 1) → (k w : ℕ) → slice_get ws k ≡ Some w → w < length d.of_wire → get_or e.of_wire w 0 ≡ length d.nodes + k

pub sources_add : (kind : ℕ → Node) (i : ℕ) (ws : List ℕ) (d : Drawing) → AreBelow d.of_wire (length d.nodes) → AddsSources kind i ws d (with_sources kind i ws d)
sources_add kind i [] d below =
    record { nodes = sym (append-nil d.nodes); numbers = sym (append-nil d.numbers); below = below; wires = refl; others = λ w none. refl; own = λ once k w at lt. absurd (cc) }
sources_add kind i (v ∷ vs) d below =
    let d1 = with_source d v (kind i) in
    let long : length d1.nodes ≡ length d.nodes + 1 = length-append d.nodes (kind i ∷ []) in
    let below1 : AreBelow d1.of_wire (length d1.nodes) = record {
      two = (let two = below.two in omega arith);
      each = λ w. elim (cases_eq w v) [
        | inl same ↦ (let here : get_or d1.of_wire w 0 ≡ get_or d1.of_wire v 0 = ap (λ u. get_or d1.of_wire u 0) same in let lt = set_within d.of_wire v (length d.nodes) (length d.nodes + 1) (omega arith) in omega arith)
        | inr apart ↦ (let old = get_or-set_other d.of_wire v w (length d.nodes) 0 apart in let lt = below.each w in omega arith)
      ];
    } in
    let more = sources_add kind (i + 1) vs d1 below1 in
    let size = length-set d.of_wire v (length d.nodes) in
    record {
      nodes = more.nodes ∙ append_assoc d.nodes (kind i ∷ []) (map kind (range_with_len (i + 1) (length vs)));
      numbers = more.numbers ∙ append_assoc d.numbers (0 ∷ []) (replicate (length vs) 0);
      below = more.below;
      wires = more.wires ∙ size;
      others = λ w none. (
          let apart : w ≢ v = λ same. absurd (let one = count_yes (λ b. b == w) v vs (eq-eqb v w (sym same)) in omega arith) in
          let rest : times w vs ≡ 0 = (let fewer = times_rest w v vs in omega arith) in
          more.others w rest ∙ get_or-set_other d.of_wire v w (length d.nodes) 0 apart);
      own = λ once k w at lt. own_at vs d (λ u. times_rest u v vs) more size once k w at lt;
    }
  where
    set_within : (ws : List ℕ) (j x n : ℕ) → x < n → get_or (slice_set ws j x) j 0 < n
    set_within [] j x n lt = omega arith
    set_within (w ∷ ws) zero x n lt = lt
    set_within (w ∷ ws) (suc j) x n lt = set_within ws j x n lt

    times_rest : (w v : ℕ) (vs : List ℕ) → times w vs ≤ times w (v ∷ vs)
    times_rest w v vs = elim (cases_Bool (v == w)) [
      | inl same ↦ (let one = count_yes (λ b. b == w) v vs same in omega arith)
      | inr apart ↦ (let one = count_no (λ b. b == w) v vs apart in omega arith)
    ]

    own_at : (vs : List ℕ) (d : Drawing) → ((u : ℕ) → times u vs ≤ times u (v ∷ vs)) → AddsSources kind (i + 1) vs (with_source d v (kind i)) (with_sources kind (i + 1) vs (with_source d v (kind i)))
        → length (slice_set d.of_wire v (length d.nodes)) ≡ length d.of_wire → ((w : ℕ) → times w (v ∷ vs) ≤ 1) → (k w : ℕ) → slice_get (v ∷ vs) k ≡ Some w → w < length d.of_wire
        → get_or (with_sources kind (i + 1) vs (with_source d v (kind i))).of_wire w 0 ≡ length d.nodes + k
    own_at vs d fewer more size once zero w at lt =
        let same : v ≡ w = cc in
        let one = count_yes (λ b. b == w) v vs (eq-eqb v w same) in
        let most = once w in
        let here : get_or (slice_set d.of_wire v (length d.nodes)) w 0 ≡ length d.nodes = subst (λ u. get_or (slice_set d.of_wire v (length d.nodes)) u 0 ≡ length d.nodes) same (get_or-set_same d.of_wire v (length d.nodes) 0 (subst (λ u. u < length d.of_wire) (sym same) lt)) in
        more.others w (omega arith) ∙ (here ∙ omega arith)
    own_at vs d fewer more size once (suc k) w at lt =
        let long : length (d.nodes ++ kind i ∷ []) ≡ length d.nodes + 1 = length-append d.nodes (kind i ∷ []) in
        more.own (λ u. (let most = once u in let less = fewer u in omega arith)) k w at (omega arith) ∙ omega arith
