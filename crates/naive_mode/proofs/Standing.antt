-- Rows that stand among nodes, their order, and their sources.
use Rattle.std.proofs.Common.{◌≡◌, ◌<◌, ◌+◌, ◌++◌, ◌==◌, ℕ, zero, suc, Bool, true, false, ◌||◌, List, [], ◌∷◌, length, slice_get, Some, IsTrue, nat_lt, refl, sym, ap, ap₂, ◌∙◌, subst, arith, inl, inr, zero-add, eq-eqb}
use Rattle.std.specs.List.{AllByRecursion}
use Rattle.std.proofs.lemmas.Bool.{cases_eq, cases_Bool, and_from, or_left, or_right, lt-ltb}
use Rattle.std.proofs.lemmas.List.{append_assoc, length-append}
use Rattle.std.proofs.lemmas.Option.{slice_get_within}
use Rattle.agm_net.proofs.Lists.{all_joined}
use Rattle.logic_graph.specs.declared.nodes.Node.{Node}
use Rattle.logic_graph.specs.declared.nodes.Node.TheVariants.{Zero, One, Input, Q, Not, Xor, And, Or, Mux}
use Rattle.logic_graph.specs.declared.nodes.XanNode.{XanNode}
use Rattle.logic_graph.specs.declared.nodes.XanNode.TheVariants as xan
use Rattle.logic_graph.specs.Live.{has_operand}
use Rattle.logic_graph.specs.Nodes.{xan_reads_before}
use Rattle.naive_mode.specs.Rows.{row, live_row, laid, ArePlaced}

get_front : {X : Type 0} (xs ys : List X) (i : ℕ) (x : X) → slice_get xs i ≡ Some x → slice_get (xs ++ ys) i ≡ Some x
get_front [] ys i x at = absurd (cc)
get_front (y ∷ xs) ys zero x at = at
get_front (y ∷ xs) ys (suc i) x at = get_front xs ys i x at

get_behind : {X : Type 0} (xs ys : List X) (i : ℕ) → slice_get (xs ++ ys) (length xs + i) ≡ slice_get ys i
get_behind [] ys i = ap (slice_get ys) (zero-add i)
get_behind (x ∷ xs) ys i =
    let e : length (x ∷ xs) + i ≡ suc (length xs + i) = omega arith in
    ap (slice_get ((x ∷ xs) ++ ys)) e ∙ get_behind xs ys i

-- the row of a node stands among nodes from place b on, and its last node is at place k
pub record HasRow (every : List XanNode) (p : ℕ → ℕ) (b k : ℕ) (n : Node) : Type 0 where
  pub here : (i : ℕ) (m : XanNode) → slice_get (row b p n) i ≡ Some m → slice_get every (b + i) ≡ Some m
  pub last : k + 1 ≡ b + length (row b p n)

abbrev pub HaveRows : List XanNode → (live : ℕ → Bool) → (p : ℕ → ℕ) → (b k : ℕ) → List Node → Type 0
HaveRows every live p b k [] = Unit {0}
HaveRows every live p b k (n ∷ ns) =
    (IsTrue (live k) → HasRow every p b (p k) n) × HaveRows every live p (b + length (live_row (live k) b p n)) (k + 1) ns

pub have_rows : (every : List XanNode) (live : ℕ → Bool) (p : ℕ → ℕ) (front : List XanNode) (b k : ℕ) (ns : List Node) → every ≡ front ++ laid live p b k ns → b ≡ length front → ArePlaced live p b k ns → HaveRows every live p b k ns
have_rows every live p front b k [] is long placed = tt
have_rows every live p front b k (n ∷ ns) is long placed =
    let mine : List XanNode = live_row (live k) b p n in
    let rest : List XanNode = laid live p (b + length mine) (k + 1) ns in (
      (λ on. (
          let own : mine ≡ row b p n = ap (λ l. live_row l b p n) on in
          record {
            here = λ i m at. (
                let e : slice_get every (b + i) ≡ slice_get (mine ++ rest) i = ap₂ slice_get is (ap (λ x. x + i) long) ∙ get_behind front (mine ++ rest) i in
                e ∙ get_front mine rest i m (ap (λ r. slice_get r i) own ∙ at));
            last = placed.0 on ∙ ap (λ r. b + length r) own;
          })),
      have_rows every live p (front ++ mine) (b + length mine) (k + 1) ns (is ∙ sym (append_assoc front mine rest)) (ap (λ x. x + length mine) long ∙ sym (length-append front mine)) placed.1,
    )

pub row_of : (every : List XanNode) (live : ℕ → Bool) (p : ℕ → ℕ) (b k : ℕ) (ns : List Node) → HaveRows every live p b k ns → (j i : ℕ) (n : Node) → k + j ≡ i → slice_get ns j ≡ Some n → IsTrue (live i)
    → (base : ℕ) × HasRow every p base (p i) n
row_of every live p b k [] h j i n is at on = absurd (cc)
row_of every live p b k (x ∷ xs) h zero i n is at on =
    let same : x ≡ n = cc in
    let there : k ≡ i = omega arith in
    (b, subst (λ t. HasRow every p b (p t) n) there (subst (λ y. HasRow every p b (p k) y) same (h.0 (subst (λ t. IsTrue (live t)) (sym there) on))))
row_of every live p b k (x ∷ xs) h (suc j) i n is at on =
    row_of every live p (b + length (live_row (live k) b p x)) (k + 1) xs h.1 j i n (omega arith) at on

-- a row of one node
pub single : (every : List XanNode) (p : ℕ → ℕ) (b k : ℕ) (n : Node) (m : XanNode) → row b p n ≡ m ∷ [] → HasRow every p b k n → slice_get every k ≡ Some m
single every p b k n m is h =
    let last : k + 1 ≡ b + 1 = h.last ∙ ap (λ r. b + length r) is in
    let place : b + 0 ≡ k = omega arith in
    subst (λ t. slice_get every t ≡ Some m) place (h.here 0 m (ap (λ r. slice_get r 0) is))

pub sum_row : (every : List XanNode) (p : ℕ → ℕ) (b k x y : ℕ) → HasRow every p b k (Or x y)
    → (slice_get every b ≡ Some (xan.Not (p x))) × (slice_get every (b + 1) ≡ Some (xan.Not (p y))) × (slice_get every (b + 2) ≡ Some (xan.And b (b + 1))) × (slice_get every k ≡ Some (xan.Not (b + 2)))
sum_row every p b k x y h =
    let last : k + 1 ≡ b + 4 = h.last in
    let first : b + 0 ≡ b = omega arith in
    let place : b + 3 ≡ k = omega arith in (
      subst (λ t. slice_get every t ≡ Some (xan.Not (p x))) first (h.here 0 (xan.Not (p x)) refl),
      h.here 1 (xan.Not (p y)) refl,
      h.here 2 (xan.And b (b + 1)) refl,
      subst (λ t. slice_get every t ≡ Some (xan.Not (b + 2))) place (h.here 3 (xan.Not (b + 2)) refl),
    )

pub choice_row : (every : List XanNode) (p : ℕ → ℕ) (b k s x y : ℕ) → HasRow every p b k (Mux s x y)
    → (slice_get every b ≡ Some (xan.Xor (p x) (p y))) × (slice_get every (b + 1) ≡ Some (xan.And (p s) b)) × (slice_get every k ≡ Some (xan.Xor (p x) (b + 1)))
choice_row every p b k s x y h =
    let last : k + 1 ≡ b + 3 = h.last in
    let first : b + 0 ≡ b = omega arith in
    let place : b + 2 ≡ k = omega arith in (
      subst (λ t. slice_get every t ≡ Some (xan.Xor (p x) (p y))) first (h.here 0 (xan.Xor (p x) (p y)) refl),
      h.here 1 (xan.And (p s) b) refl,
      subst (λ t. slice_get every t ≡ Some (xan.Xor (p x) (b + 1))) place (h.here 2 (xan.Xor (p x) (b + 1)) refl),
    )

-- what stands for a node is a node
pub row_within : (every : List XanNode) (p : ℕ → ℕ) (b k : ℕ) (n : Node) → HasRow every p b k n → k < length every
row_within every p b k Zero h = slice_get_within every k xan.Zero (single every p b k Zero xan.Zero refl h)
row_within every p b k One h = slice_get_within every k xan.One (single every p b k One xan.One refl h)
row_within every p b k (Input i) h = slice_get_within every k (xan.Input i) (single every p b k (Input i) (xan.Input i) refl h)
row_within every p b k (Q r) h = slice_get_within every k (xan.Q r) (single every p b k (Q r) (xan.Q r) refl h)
row_within every p b k (Not x) h = slice_get_within every k (xan.Not (p x)) (single every p b k (Not x) (xan.Not (p x)) refl h)
row_within every p b k (Xor x y) h = slice_get_within every k (xan.Xor (p x) (p y)) (single every p b k (Xor x y) (xan.Xor (p x) (p y)) refl h)
row_within every p b k (And x y) h = slice_get_within every k (xan.And (p x) (p y)) (single every p b k (And x y) (xan.And (p x) (p y)) refl h)
row_within every p b k (Or x y) h = slice_get_within every k (xan.Not (b + 2)) (sum_row every p b k x y h).3
row_within every p b k (Mux s x y) h = slice_get_within every k (xan.Xor (p x) (b + 1)) (choice_row every p b k s x y h).2

-- nodes in order, the first of which is node b
abbrev pub InOrderFrom : ℕ → List XanNode → Type 0
InOrderFrom b [] = Unit {0}
InOrderFrom b (n ∷ ns) = IsTrue (xan_reads_before b n) × InOrderFrom (b + 1) ns

none_between : (b : ℕ) → b + 0 ≡ b
none_between b = omega arith

order_joined : (b : ℕ) (xs ys : List XanNode) → InOrderFrom b xs → InOrderFrom (b + length xs) ys → InOrderFrom b (xs ++ ys)
order_joined b [] ys h g = subst (λ t. InOrderFrom t ys) (none_between b) g
order_joined b (x ∷ xs) ys h g =
    let e : b + length (x ∷ xs) ≡ b + 1 + length xs = omega arith in
    (h.0, order_joined (b + 1) xs ys h.1 (subst (λ t. InOrderFrom t ys) e g))

pub order_at : (b : ℕ) (ns : List XanNode) → InOrderFrom b ns → (i k : ℕ) (m : XanNode) → b + i ≡ k → slice_get ns i ≡ Some m → IsTrue (xan_reads_before k m)
order_at b [] h i k m is at = absurd (cc)
order_at b (n ∷ ns) h zero k m is at =
    let same : n ≡ m = cc in
    let there : b ≡ k = omega arith in
    subst (λ t. IsTrue (xan_reads_before t m)) there (subst (λ t. IsTrue (xan_reads_before b t)) same h.0)
order_at b (n ∷ ns) h (suc i) k m is at = order_at (b + 1) ns h.1 i k m (omega arith) at

pub is_operand : (a : ℕ) → IsTrue (a == a)
is_operand a = eq-eqb a a refl

pub left_operand : (a b : ℕ) → IsTrue ((a == a) || (b == a))
left_operand a b = or_left (a == a) (b == a) (is_operand a)

pub right_operand : (a b : ℕ) → IsTrue ((a == b) || (b == b))
right_operand a b = or_right (a == b) (b == b) (is_operand b)

row_order : (b : ℕ) (p : ℕ → ℕ) (n : Node) → ((a : ℕ) → IsTrue (has_operand a n) → p a < b) → InOrderFrom b (row b p n)
row_order b p Zero f = (refl, tt)
row_order b p One f = (refl, tt)
row_order b p (Input i) f = (refl, tt)
row_order b p (Q r) f = (refl, tt)
row_order b p (Not x) f = (lt-ltb (p x) b (f x (is_operand x)), tt)
row_order b p (Xor x y) f = (and_from (nat_lt (p x) b) (nat_lt (p y) b) (lt-ltb (p x) b (f x (left_operand x y))) (lt-ltb (p y) b (f y (right_operand x y))), tt)
row_order b p (And x y) f = (and_from (nat_lt (p x) b) (nat_lt (p y) b) (lt-ltb (p x) b (f x (left_operand x y))) (lt-ltb (p y) b (f y (right_operand x y))), tt)
row_order b p (Or x y) f =
    let first = f x (left_operand x y) in
    let second = f y (right_operand x y) in (
      lt-ltb (p x) b first,
      (
        lt-ltb (p y) (b + 1) (omega arith),
        (
          and_from (nat_lt b (b + 1 + 1)) (nat_lt (b + 1) (b + 1 + 1)) (lt-ltb b (b + 1 + 1) (omega arith)) (lt-ltb (b + 1) (b + 1 + 1) (omega arith)),
          (lt-ltb (b + 2) (b + 1 + 1 + 1) (omega arith), tt),
        ),
      ),
    )
row_order b p (Mux s x y) f =
    let test = f s (or_left (s == s) ((x == s) || (y == s)) (is_operand s)) in
    let first = f x (or_right (s == x) ((x == x) || (y == x)) (left_operand x y)) in
    let second = f y (or_right (s == y) ((x == y) || (y == y)) (right_operand x y)) in (
      and_from (nat_lt (p x) b) (nat_lt (p y) b) (lt-ltb (p x) b first) (lt-ltb (p y) b second),
      (
        and_from (nat_lt (p s) (b + 1)) (nat_lt b (b + 1)) (lt-ltb (p s) (b + 1) (omega arith)) (lt-ltb b (b + 1) (omega arith)),
        (and_from (nat_lt (p x) (b + 1 + 1)) (nat_lt (b + 1) (b + 1 + 1)) (lt-ltb (p x) (b + 1 + 1) (omega arith)) (lt-ltb (b + 1) (b + 1 + 1) (omega arith)), tt),
      ),
    )

-- rows are in order
pub laid_order : (live : ℕ → Bool) (p : ℕ → ℕ) (b k : ℕ) (ns : List Node) → ((j : ℕ) → j < k → IsTrue (live j) → p j < b) → ArePlaced live p b k ns
    → ((j i : ℕ) (n : Node) → k + j ≡ i → slice_get ns j ≡ Some n → IsTrue (live i) → (a : ℕ) → IsTrue (has_operand a n) → (a < i) × IsTrue (live a)) → InOrderFrom b (laid live p b k ns)
laid_order live p b k [] low placed ops = tt
laid_order live p b k (n ∷ ns) low placed ops =
    let mine : List XanNode = live_row (live k) b p n in
    let own : InOrderFrom b mine = elim (cases_Bool (live k)) [
      | inl on ↦ subst (λ l. InOrderFrom b (live_row l b p n)) (sym on) (row_order b p n (λ a h. (let o = ops 0 k n (omega arith) refl on a h in low a o.0 o.1)))
      | inr off ↦ subst (λ l. InOrderFrom b (live_row l b p n)) (sym off) tt
    ] in
    let lower : (j : ℕ) → j < k + 1 → IsTrue (live j) → p j < b + length mine = λ j lt on. elim (cases_eq j k) [
      | inl same ↦ (
          let place = placed.0 (subst (λ t. IsTrue (live t)) same on) in
          let e : p j ≡ p k = ap p same in omega arith)
      | inr apart ↦ (let l = low j (omega arith) on in omega arith)
    ] in
    order_joined b mine (laid live p (b + length mine) (k + 1) ns) own
    (laid_order live p (b + length mine) (k + 1) ns lower placed.1 (λ j i m is at. ops (suc j) i m (omega arith) at))

-- a source is one of these nodes
abbrev pub IsAmong : List Node → XanNode → Type 0
IsAmong nodes (xan.Input i) = (j : ℕ) × (slice_get nodes j ≡ Some (Input i))
IsAmong nodes (xan.Q r) = (j : ℕ) × (slice_get nodes j ≡ Some (Q r))
IsAmong nodes _ = Unit {0}

row_among : (nodes : List Node) (b : ℕ) (p : ℕ → ℕ) (j : ℕ) (n : Node) → slice_get nodes j ≡ Some n → AllByRecursion (IsAmong nodes) (row b p n)
row_among nodes b p j Zero at = (tt, tt)
row_among nodes b p j One at = (tt, tt)
row_among nodes b p j (Input i) at = ((j, at), tt)
row_among nodes b p j (Q r) at = ((j, at), tt)
row_among nodes b p j (Not x) at = (tt, tt)
row_among nodes b p j (Xor x y) at = (tt, tt)
row_among nodes b p j (And x y) at = (tt, tt)
row_among nodes b p j (Or x y) at = (tt, (tt, (tt, (tt, tt))))
row_among nodes b p j (Mux s x y) at = (tt, (tt, (tt, tt)))

live_row_among : (nodes : List Node) (t : Bool) (b : ℕ) (p : ℕ → ℕ) (j : ℕ) (n : Node) → slice_get nodes j ≡ Some n → AllByRecursion (IsAmong nodes) (live_row t b p n)
live_row_among nodes true b p j n at = row_among nodes b p j n at
live_row_among nodes false b p j n at = tt

pub laid_among : (nodes : List Node) (live : ℕ → Bool) (p : ℕ → ℕ) (b k : ℕ) (ns : List Node) → ((j : ℕ) (n : Node) → slice_get ns j ≡ Some n → slice_get nodes (k + j) ≡ Some n) → AllByRecursion (IsAmong nodes) (laid live p b k ns)
laid_among nodes live p b k [] h = tt
laid_among nodes live p b k (n ∷ ns) h =
    let mine : List XanNode = live_row (live k) b p n in
    all_joined (IsAmong nodes) mine (laid live p (b + length mine) (k + 1) ns) (live_row_among nodes (live k) b p (k + 0) n (h 0 n refl))
    (laid_among nodes live p (b + length mine) (k + 1) ns (λ j m at. (let e : k + suc j ≡ k + 1 + j = omega arith in subst (λ t. slice_get nodes t ≡ Some m) e (h (suc j) m at))))
