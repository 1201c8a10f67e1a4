-- Places in lists.
use Rattle.std.proofs.Common.{◌≡◌, ◌<◌, ◌≤◌, ◌+◌, ◌++◌, ◌⊎◌, ℕ, zero, suc, true, ◌&&◌, List, [], ◌∷◌, Some, IsTrue, refl, sym, ap, ◌∙◌, subst, inl, inr, length, slice_get, arith, zero-add}
use Rattle.std.specs.List.{range_with_len}
use Rattle.std.proofs.lemmas.Bool.{and_from}
use Rattle.agm_net.specs.Formula.{Formula, f_zero, f_one, f_wire, f_not, f_and, f_or, f_xor, f_mux}
use Rattle.std.proofs.Common.{get_or, nat_lt}
use Rattle.std.proofs.lemmas.Bool.{lt-ltb}
use Rattle.logic_graph.specs.declared.nodes.Node.{Node}
use Rattle.logic_graph.specs.declared.nodes.Node.TheVariants.{Xor, And, Or}
use Rattle.logic_graph.specs.Nodes.{is_operator, reads_before}
use Rattle.logic_graph.specs.Operators.{operators}
use Rattle.logic_graph.specs.Drawn.{place, drawn}
use Rattle.logic_graph.proofs.Blocks.{length_drawn}

pub get_front : {X : Type 0} (xs ys : List X) (k : ℕ) (x : X) → slice_get xs k ≡ Some x → slice_get (xs ++ ys) k ≡ Some x
get_front [] ys k x h = absurd (cc)
get_front (y ∷ xs) ys zero x h = h
get_front (y ∷ xs) ys (suc k) x h = get_front xs ys k x h

pub get_back : {X : Type 0} (xs ys : List X) (k : ℕ) → slice_get (xs ++ ys) (length xs + k) ≡ slice_get ys k
get_back [] ys k = ap (slice_get ys) (zero-add k)
get_back (x ∷ xs) ys k = let same : suc (length xs) + k ≡ suc (length xs + k) = omega arith in ap (slice_get (x ∷ (xs ++ ys))) same ∙ get_back xs ys k

-- an item of two lists in a row is one of the first or of the second
pub in_append : {X : Type 0} (xs ys : List X) (k : ℕ) (x : X) → slice_get (xs ++ ys) k ≡ Some x → (slice_get xs k ≡ Some x) ⊎ ((j : ℕ) × (k ≡ length xs + j) × (slice_get ys j ≡ Some x))
in_append [] ys k x h = inr (k, sym (zero-add k), h)
in_append (y ∷ xs) ys zero x h = inl h
in_append (y ∷ xs) ys (suc k) x h =
    elim (in_append xs ys k x h) [ inl front ↦ inl front | inr back ↦ inr (back.0, (let e = back.1 in omega arith), back.2) ]

-- a list stands in another from a place on
pub record Has {X : Type 0} (xs : List X) (at : ℕ) (ys : List X) : Type 0 where
  pub item : (j : ℕ) (y : X) → slice_get ys j ≡ Some y → slice_get xs (at + j) ≡ Some y

pub has_front : {X : Type 0} (xs : List X) (at : ℕ) (a b : List X) → Has xs at (a ++ b) → Has xs at a
has_front xs at a b h = record { item = λ j y e. h.item j y (get_front a b j y e) }

pub has_back : {X : Type 0} (xs : List X) (at n : ℕ) (a b : List X) → length a ≡ n → Has xs at (a ++ b) → Has xs (at + n) b
has_back xs at n a b long h = record { item = λ j y e. (let same : at + n + j ≡ at + (length a + j) = omega arith in ap (slice_get xs) same ∙ h.item (length a + j) y (get_back a b j ∙ e)) }

pub has_first : {X : Type 0} (xs : List X) (at : ℕ) (a : X) (b : List X) → Has xs at (a ∷ b) → slice_get xs at ≡ Some a
has_first xs at a b h = let same : at ≡ at + 0 = omega arith in ap (slice_get xs) same ∙ h.item 0 a refl

pub has_middle : {X : Type 0} (pre ys post : List X) → Has ((pre ++ ys) ++ post) (length pre) ys
has_middle pre ys post = record { item = λ j y e. get_front (pre ++ ys) post (length pre + j) y (get_back pre ys j ∙ e) }

-- numbers count up from m, from a place on
pub record Counts (xs : List ℕ) (at m n : ℕ) : Type 0 where
  pub item : (j : ℕ) → j < n → slice_get xs (at + j) ≡ Some (m + j)

get_range : (a n j : ℕ) → j < n → slice_get (range_with_len a n) j ≡ Some (a + j)
get_range a zero j lt = absurd (omega arith)
get_range a (suc n) zero lt = let same : a ≡ a + 0 = omega arith in ap Some same
get_range a (suc n) (suc j) lt = let same : a + 1 + j ≡ a + suc j = omega arith in get_range (a + 1) n j (omega arith) ∙ ap Some same

pub counts_of : (xs : List ℕ) (at m n : ℕ) → Has xs at (range_with_len m n) → Counts xs at m n
counts_of xs at m n h = record { item = λ j lt. h.item j (m + j) (get_range m n j lt) }

pub counts_part : (xs : List ℕ) (at m n k l : ℕ) → k + l ≤ n → Counts xs at m n → Counts xs (at + k) (m + k) l
counts_part xs at m n k l le h = record {
  item = λ j lt. (let place : at + k + j ≡ at + (k + j) = omega arith in let number : m + (k + j) ≡ m + k + j = omega arith in ap (slice_get xs) place ∙ (h.item (k + j) (omega arith) ∙ ap Some number));
}

-- Operators, each behind its operands, where the first stands at k.
abbrev pub AreBehind : ℕ → List Node → Type 0
AreBehind k [] = Unit {0}
AreBehind k (n ∷ ns) = (is_operator n ≡ true) × IsTrue (reads_before k n) × AreBehind (k + 1) ns

pub behind_joined : (k j : ℕ) (xs ys : List Node) → k + length xs ≡ j → AreBehind k xs → AreBehind j ys → AreBehind k (xs ++ ys)
behind_joined k j [] ys e h g = let same : j ≡ k = omega arith in subst (λ i. AreBehind i ys) same g
behind_joined k j (x ∷ xs) ys e h g = (h.0, h.1, behind_joined (k + 1) j xs ys (omega arith) h.2 g)

pub behind_at : (k : ℕ) (ns : List Node) (j : ℕ) (n : Node) → AreBehind k ns → slice_get ns j ≡ Some n → (is_operator n ≡ true) × IsTrue (reads_before (k + j) n)
behind_at k [] j n h at = absurd (cc)
behind_at k (x ∷ xs) zero n h at = let same : x ≡ n = cc in let place : k ≡ k + 0 = omega arith in (ap is_operator (sym same) ∙ h.0, subst (λ i. IsTrue (reads_before i n)) place (subst (λ m. IsTrue (reads_before k m)) same h.1))
behind_at k (x ∷ xs) (suc j) n h at =
    let rest = behind_at (k + 1) xs j n h.2 at in
    let place : k + 1 + j ≡ k + suc j = omega arith in (rest.0, subst (λ i. IsTrue (reads_before i n)) place rest.1)

-- wires have nodes below `at`
pub record AreBelow (ow : List ℕ) (at : ℕ) : Type 0 where
  pub two : 2 ≤ at
  pub each : (w : ℕ) → get_or ow w 0 < at

pub below_more : (ow : List ℕ) (at n : ℕ) → AreBelow ow at → AreBelow ow (at + n)
below_more ow at n h = record { two = (let two = h.two in omega arith); each = λ w. (let lt = h.each w in omega arith) }

-- the node of a formula stands before its operators' end
pub place_below : (ow : List ℕ) (at : ℕ) (f : Formula) → AreBelow ow at → place ow at f < at + operators f
place_below ow at f_zero h = let two = h.two in omega arith
place_below ow at f_one h = let two = h.two in omega arith
place_below ow at (f_wire w) h = let lt = h.each w in omega arith
place_below ow at (f_not x) h = omega arith
place_below ow at (f_and x y) h = omega arith
place_below ow at (f_or x y) h = omega arith
place_below ow at (f_xor x y) h = omega arith
place_below ow at (f_mux s x y) h = omega arith

-- an operator of two operands stands behind them
two_behind : (ow : List ℕ) (at : ℕ) (x y : Formula) (op : ℕ → ℕ → Node) → AreBelow ow at → AreBehind at (drawn ow at x) → AreBehind (at + operators x) (drawn ow (at + operators x) y)
    → is_operator (op (place ow at x) (place ow (at + operators x) y)) ≡ true → ((k a b : ℕ) → IsTrue (nat_lt a k) → IsTrue (nat_lt b k) → IsTrue (reads_before k (op a b)))
    → AreBehind at (drawn ow at x ++ (drawn ow (at + operators x) y ++ op (place ow at x) (place ow (at + operators x) y) ∷ []))
two_behind ow at x y op h first second own fits =
    let end = at + operators x + operators y in
    let left = place_below ow at x h in
    let right = place_below ow (at + operators x) y (below_more ow at (operators x) h) in
    behind_joined at (at + operators x) (drawn ow at x) _ (ap (λ n. at + n) (length_drawn ow at x)) first
    (behind_joined (at + operators x) end (drawn ow (at + operators x) y) _ (ap (λ n. at + operators x + n) (length_drawn ow (at + operators x) y)) second
    (own, fits end (place ow at x) (place ow (at + operators x) y) (lt-ltb (place ow at x) end (omega arith)) (lt-ltb (place ow (at + operators x) y) end right), tt))

-- the operators of a formula stand behind their operands
pub drawn_behind : (ow : List ℕ) (at : ℕ) (f : Formula) → AreBelow ow at → AreBehind at (drawn ow at f)
drawn_behind ow at f_zero h = tt
drawn_behind ow at f_one h = tt
drawn_behind ow at (f_wire w) h = tt
drawn_behind ow at (f_not x) h =
    behind_joined at (at + operators x) (drawn ow at x) _ (ap (λ n. at + n) (length_drawn ow at x)) (drawn_behind ow at x h)
    (refl, lt-ltb (place ow at x) (at + operators x) (place_below ow at x h), tt)
drawn_behind ow at (f_and x y) h = two_behind ow at x y And h (drawn_behind ow at x h) (drawn_behind ow (at + operators x) y (below_more ow at (operators x) h)) refl (λ k a b. and_from (nat_lt a k) (nat_lt b k))
drawn_behind ow at (f_or x y) h = two_behind ow at x y Or h (drawn_behind ow at x h) (drawn_behind ow (at + operators x) y (below_more ow at (operators x) h)) refl (λ k a b. and_from (nat_lt a k) (nat_lt b k))
drawn_behind ow at (f_xor x y) h = two_behind ow at x y Xor h (drawn_behind ow at x h) (drawn_behind ow (at + operators x) y (below_more ow at (operators x) h)) refl (λ k a b. and_from (nat_lt a k) (nat_lt b k))
drawn_behind ow at (f_mux s x y) h =
    let at1 = at + operators s in
    let at2 = at1 + operators x in
    let end = at2 + operators y in
    let h1 = below_more ow at (operators s) h in
    let h2 = below_more ow at1 (operators x) h1 in
    let a = place_below ow at s h in
    let b = place_below ow at1 x h1 in
    let c = place_below ow at2 y h2 in
    behind_joined at at1 (drawn ow at s) _ (ap (λ n. at + n) (length_drawn ow at s)) (drawn_behind ow at s h)
    (behind_joined at1 at2 (drawn ow at1 x) _ (ap (λ n. at1 + n) (length_drawn ow at1 x)) (drawn_behind ow at1 x h1)
    (behind_joined at2 end (drawn ow at2 y) _ (ap (λ n. at2 + n) (length_drawn ow at2 y)) (drawn_behind ow at2 y h2) (
      refl,
      and_from (nat_lt (place ow at s) end) (nat_lt (place ow at1 x) end && nat_lt (place ow at2 y) end) (lt-ltb (place ow at s) end (omega arith))
          (and_from (nat_lt (place ow at1 x) end) (nat_lt (place ow at2 y) end) (lt-ltb (place ow at1 x) end (omega arith)) (lt-ltb (place ow at2 y) end c)),
      tt,
    )))
