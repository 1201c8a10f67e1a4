-- Rows of nodes, laid out one behind the other.
use Rattle.std.proofs.Common.{◌≡◌, ◌<◌, ◌+◌, ◌++◌, ℕ, suc, Bool, true, false, ◌&&◌, List, [], ◌∷◌, length, drop, get_or, IsTrue, nat_lt, ltb-true, refl, sym, ap, ap₂, ◌∙◌, subst, arith}
use Rattle.std.proofs.Math.Seq.{drop-cons}
use Rattle.std.proofs.lemmas.Bool.{and_parts}
use Rattle.std.proofs.lemmas.List.{append_assoc, length-append}
use Rattle.logic_graph.specs.declared.nodes.Node.{Node}
use Rattle.logic_graph.specs.declared.nodes.Node.TheVariants.{Zero, One, Input, Q, Not, Xor, And, Or, Mux}
use Rattle.logic_graph.specs.declared.nodes.XanNode.{XanNode}
use Rattle.logic_graph.specs.declared.nodes.XanNode.TheVariants as xan
use Rattle.logic_graph.specs.Nodes.{reads_before}
use Rattle.naive_mode.specs.Rows.{row, live_row, laid, ArePlaced}

-- places that agree below a node give it one row
row_same : (b : ℕ) (p q : ℕ → ℕ) (k : ℕ) (n : Node) → IsTrue (reads_before k n) → ((j : ℕ) → j < k → p j ≡ q j) → row b p n ≡ row b q n
row_same b p q k Zero h same = refl
row_same b p q k One h same = refl
row_same b p q k (Input i) h same = refl
row_same b p q k (Q r) h same = refl
row_same b p q k (Not x) h same = ap (λ a. xan.Not a ∷ []) (same x (ltb-true x k h))
row_same b p q k (Xor x y) h same =
    let both = and_parts (nat_lt x k) (nat_lt y k) h in
    ap₂ (λ a c. xan.Xor a c ∷ []) (same x (ltb-true x k both.0)) (same y (ltb-true y k both.1))
row_same b p q k (And x y) h same =
    let both = and_parts (nat_lt x k) (nat_lt y k) h in
    ap₂ (λ a c. xan.And a c ∷ []) (same x (ltb-true x k both.0)) (same y (ltb-true y k both.1))
row_same b p q k (Or x y) h same =
    let both = and_parts (nat_lt x k) (nat_lt y k) h in
    ap₂ (λ a c. xan.Not a ∷ xan.Not c ∷ xan.And b (b + 1) ∷ xan.Not (b + 2) ∷ []) (same x (ltb-true x k both.0)) (same y (ltb-true y k both.1))
row_same b p q k (Mux s x y) h same =
    let all = and_parts (nat_lt s k) (nat_lt x k && nat_lt y k) h in
    let both = and_parts (nat_lt x k) (nat_lt y k) all.1 in
    ap₂ (λ a c. xan.Xor a c ∷ xan.And (p s) b ∷ xan.Xor a (b + 1) ∷ []) (same x (ltb-true x k both.0)) (same y (ltb-true y k both.1))
    ∙ ap (λ t. xan.Xor (q x) (q y) ∷ xan.And t b ∷ xan.Xor (q x) (b + 1) ∷ []) (same s (ltb-true s k all.0))

pub live_row_same : (live : Bool) (b : ℕ) (p q : ℕ → ℕ) (k : ℕ) (n : Node) → IsTrue (reads_before k n) → ((j : ℕ) → j < k → p j ≡ q j) → live_row live b p n ≡ live_row live b q n
live_row_same true b p q k n h same = row_same b p q k n h same
live_row_same false b p q k n h same = refl

-- the rows that are left, with one row less
pub rows_more : (live : ℕ → Bool) (p q : ℕ → ℕ) (nodes : List Node) (k : ℕ) (t : Bool) (rows new : List XanNode) → k < length nodes → IsTrue (reads_before k (get_or nodes k Zero)) → t ≡ live k → ((j : ℕ) → j < k → q j ≡ p j)
    → new ≡ rows ++ live_row t (length rows) q (get_or nodes k Zero)
    → new ++ laid live p (length new) (k + 1) (drop (k + 1) nodes) ≡ rows ++ laid live p (length rows) k (drop k nodes)
rows_more live p q nodes k t rows new lt before is same made =
    let n = get_or nodes k Zero in
    let mine : List XanNode = live_row (live k) (length rows) p n in
    let own : new ≡ rows ++ mine = made ∙ (ap (λ l. rows ++ live_row l (length rows) q n) is ∙ ap (λ r. rows ++ r) (live_row_same (live k) (length rows) q p k n before same)) in
    let long : length new ≡ length rows + length mine = ap length own ∙ length-append rows mine in
    let next : suc k ≡ k + 1 = omega arith in
    let split : drop k nodes ≡ n ∷ drop (k + 1) nodes = drop-cons nodes k Zero lt ∙ ap (λ i. n ∷ drop i nodes) next in
    let rest : List XanNode = laid live p (length rows + length mine) (k + 1) (drop (k + 1) nodes) in
    ap₂ (λ r i. r ++ laid live p i (k + 1) (drop (k + 1) nodes)) own long
    ∙ (append_assoc rows mine rest
    ∙ ap (λ ns. rows ++ laid live p (length rows) k ns) (sym split))

pub placed_more : (live : ℕ → Bool) (p q : ℕ → ℕ) (nodes : List Node) (k : ℕ) (t : Bool) (rows new : List XanNode) → k < length nodes → IsTrue (reads_before k (get_or nodes k Zero)) → t ≡ live k → ((j : ℕ) → j < k → q j ≡ p j)
    → new ≡ rows ++ live_row t (length rows) q (get_or nodes k Zero)
    → (IsTrue t → p k + 1 ≡ length rows + length (live_row t (length rows) q (get_or nodes k Zero)))
    → ArePlaced live p (length new) (k + 1) (drop (k + 1) nodes) → ArePlaced live p (length rows) k (drop k nodes)
placed_more live p q nodes k t rows new lt before is same made last placed =
    let n = get_or nodes k Zero in
    let mine : List XanNode = live_row (live k) (length rows) p n in
    let alike : live_row t (length rows) q n ≡ mine = ap (λ l. live_row l (length rows) q n) is ∙ live_row_same (live k) (length rows) q p k n before same in
    let long : length new ≡ length rows + length mine = ap length made ∙ (length-append rows (live_row t (length rows) q n) ∙ ap (λ r. length rows + length r) alike) in
    let next : suc k ≡ k + 1 = omega arith in
    let split : drop k nodes ≡ n ∷ drop (k + 1) nodes = drop-cons nodes k Zero lt ∙ ap (λ i. n ∷ drop i nodes) next in
    subst (λ ns. ArePlaced live p (length rows) k ns) (sym split)
    ((λ on. last (is ∙ on) ∙ ap (λ r. length rows + length r) alike), subst (λ i. ArePlaced live p i (k + 1) (drop (k + 1) nodes)) long placed)
