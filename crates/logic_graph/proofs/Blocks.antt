-- Nodes that are drawn for a formula.
use Rattle.std.proofs.Common.{◌≡◌, ◌-◌, slice_set, ◌+◌, ◌++◌, ℕ, zero, suc, List, [], ◌∷◌, refl, sym, ap, ap₂, ◌∙◌, length, length-append, arith, append_assoc}
use Rattle.std.specs.List.{range_with_len}
use Rattle.std.specs.Prelude.{IfOk, Result, Ok, Err}
use Rattle.agm_bits.specs.declared.list.Memory.{Memory}
use Rattle.agm_net.specs.Formula.{Formula, f_zero, f_one, f_wire, f_not, f_and, f_or, f_xor, f_mux}
use Rattle.logic_graph.specs.declared.nodes.Node.{Node}
use Rattle.logic_graph.specs.Operators.{operators}
use Rattle.logic_graph.specs.Drawn.{place, drawn, with_line}
use Rattle.logic_graph.specs.declared.drawing.Drawing.{Drawing}

-- one number more at the end
pub range_more : (a n : ℕ) → range_with_len a (n + 1) ≡ range_with_len a n ++ (a + n) ∷ []
range_more a zero = let same : a ≡ a + 0 = omega arith in ap (λ k. k ∷ []) same
range_more a (suc n) =
    let rest = range_more (a + 1) n in
    let same : a + 1 + n ≡ a + suc n = omega arith in
    let count : suc n + 1 ≡ suc (n + 1) = omega arith in
    ap (range_with_len a) count ∙ ap (λ ks. a ∷ ks) (rest ∙ ap (λ k. range_with_len (a + 1) n ++ k ∷ []) same)

-- there is a node for each operator
pub length_drawn : (of_wire : List ℕ) (at : ℕ) (f : Formula) → length (drawn of_wire at f) ≡ operators f
length_drawn of_wire at f_zero = refl
length_drawn of_wire at f_one = refl
length_drawn of_wire at (f_wire w) = refl
length_drawn of_wire at (f_not x) = let one = length_drawn of_wire at x in length-append (drawn of_wire at x) _ ∙ omega arith
length_drawn of_wire at (f_and x y) =
    let one = length_drawn of_wire at x in
    let two = length_drawn of_wire (at + operators x) y in
    length-append (drawn of_wire at x) _ ∙ (ap (λ k. length (drawn of_wire at x) + k) (length-append (drawn of_wire (at + operators x) y) _) ∙ omega arith)
length_drawn of_wire at (f_or x y) =
    let one = length_drawn of_wire at x in
    let two = length_drawn of_wire (at + operators x) y in
    length-append (drawn of_wire at x) _ ∙ (ap (λ k. length (drawn of_wire at x) + k) (length-append (drawn of_wire (at + operators x) y) _) ∙ omega arith)
length_drawn of_wire at (f_xor x y) =
    let one = length_drawn of_wire at x in
    let two = length_drawn of_wire (at + operators x) y in
    length-append (drawn of_wire at x) _ ∙ (ap (λ k. length (drawn of_wire at x) + k) (length-append (drawn of_wire (at + operators x) y) _) ∙ omega arith)
length_drawn of_wire at (f_mux s x y) =
    let one = length_drawn of_wire at s in
    let two = length_drawn of_wire (at + operators s) x in
    let three = length_drawn of_wire (at + operators s + operators x) y in
    length-append (drawn of_wire at s) _
    ∙ (ap (λ k. length (drawn of_wire at s) + k) (length-append (drawn of_wire (at + operators s) x) _ ∙ ap (λ k. length (drawn of_wire (at + operators s) x) + k) (length-append (drawn of_wire (at + operators s + operators x) y) _)) ∙ omega arith)

-- The steps of drawing an operator. It has two operands.
pub drawn_two : (ow : List ℕ) (n0 n1 n2 n3 : List Node) (f fx fy : Formula) (op : ℕ → ℕ → Node) (x y : ℕ) (r : Result ℕ Memory)
    → drawn ow (length n0) f ≡ drawn ow (length n0) fx ++ (drawn ow (length n0 + operators fx) fy ++ op (place ow (length n0) fx) (place ow (length n0 + operators fx) fy) ∷ [])
    → place ow (length n0) f ≡ length n0 + operators fx + operators fy
    → (x ≡ place ow (length n0) fx) × (n1 ≡ n0 ++ drawn ow (length n0) fx)
    → (y ≡ place ow (length n1) fy) × (n2 ≡ n1 ++ drawn ow (length n1) fy)
    → IfOk r (λ k. (k ≡ length n2) × (n3 ≡ n2 ++ op x y ∷ []))
    → IfOk r (λ k. (k ≡ place ow (length n0) f) × (n3 ≡ n0 ++ drawn ow (length n0) f))
drawn_two ow n0 n1 n2 n3 f fx fy op x y (Err e) shape at dx dy added = tt
drawn_two ow n0 n1 n2 n3 f fx fy op x y (Ok k) shape at dx dy added =
    let long : length n1 ≡ length n0 + operators fx = ap length dx.1 ∙ (length-append n0 (drawn ow (length n0) fx) ∙ ap (λ k. length n0 + k) (length_drawn ow (length n0) fx)) in
    let long2 : length n2 ≡ length n1 + operators fy = ap length dy.1 ∙ (length-append n1 (drawn ow (length n1) fy) ∙ ap (λ k. length n1 + k) (length_drawn ow (length n1) fy)) in
    let second : y ≡ place ow (length n0 + operators fx) fy = dy.0 ∙ ap (λ k. place ow k fy) long in
    let two : n2 ≡ (n0 ++ drawn ow (length n0) fx) ++ drawn ow (length n0 + operators fx) fy = dy.1 ∙ ap₂ (λ ns k. ns ++ drawn ow k fy) dx.1 long in
    let own : op x y ≡ op (place ow (length n0) fx) (place ow (length n0 + operators fx) fy) = ap₂ op dx.0 second in (
      added.0 ∙ (long2 ∙ (ap (λ k. k + operators fy) long ∙ sym at)),
      added.1
          ∙ (ap₂ (λ ns n. ns ++ n ∷ []) two own
          ∙ (append_assoc (n0 ++ drawn ow (length n0) fx) (drawn ow (length n0 + operators fx) fy) _
          ∙ (append_assoc n0 (drawn ow (length n0) fx) _ ∙ ap (λ ns. n0 ++ ns) (sym shape)))),
    )

-- It has one operand.
pub drawn_one : (ow : List ℕ) (n0 n1 n3 : List Node) (f fx : Formula) (op : ℕ → Node) (x : ℕ) (r : Result ℕ Memory)
    → drawn ow (length n0) f ≡ drawn ow (length n0) fx ++ op (place ow (length n0) fx) ∷ []
    → place ow (length n0) f ≡ length n0 + operators fx
    → (x ≡ place ow (length n0) fx) × (n1 ≡ n0 ++ drawn ow (length n0) fx)
    → IfOk r (λ k. (k ≡ length n1) × (n3 ≡ n1 ++ op x ∷ []))
    → IfOk r (λ k. (k ≡ place ow (length n0) f) × (n3 ≡ n0 ++ drawn ow (length n0) f))
drawn_one ow n0 n1 n3 f fx op x (Err e) shape at dx added = tt
drawn_one ow n0 n1 n3 f fx op x (Ok k) shape at dx added =
    let long : length n1 ≡ length n0 + operators fx = ap length dx.1 ∙ (length-append n0 (drawn ow (length n0) fx) ∙ ap (λ k. length n0 + k) (length_drawn ow (length n0) fx)) in (
      added.0 ∙ (long ∙ sym at),
      added.1 ∙ (ap₂ (λ ns n. ns ++ n ∷ []) dx.1 (ap op dx.0) ∙ (append_assoc n0 (drawn ow (length n0) fx) _ ∙ ap (λ ns. n0 ++ ns) (sym shape))),
    )

-- It is a choice.
pub drawn_three : (ow : List ℕ) (n0 n1 n2 n3 n4 : List Node) (f fs fx fy : Formula) (op : ℕ → ℕ → ℕ → Node) (s x y : ℕ) (r : Result ℕ Memory)
    → drawn ow (length n0) f ≡ drawn ow (length n0) fs ++ (drawn ow (length n0 + operators fs) fx ++ (drawn ow (length n0 + operators fs + operators fx) fy
    ++ op (place ow (length n0) fs) (place ow (length n0 + operators fs) fx) (place ow (length n0 + operators fs + operators fx) fy) ∷ []))
    → place ow (length n0) f ≡ length n0 + operators fs + operators fx + operators fy
    → (s ≡ place ow (length n0) fs) × (n1 ≡ n0 ++ drawn ow (length n0) fs)
    → (x ≡ place ow (length n1) fx) × (n2 ≡ n1 ++ drawn ow (length n1) fx)
    → (y ≡ place ow (length n2) fy) × (n3 ≡ n2 ++ drawn ow (length n2) fy)
    → IfOk r (λ k. (k ≡ length n3) × (n4 ≡ n3 ++ op s x y ∷ []))
    → IfOk r (λ k. (k ≡ place ow (length n0) f) × (n4 ≡ n0 ++ drawn ow (length n0) f))
drawn_three ow n0 n1 n2 n3 n4 f fs fx fy op s x y (Err e) shape at ds dx dy added = tt
drawn_three ow n0 n1 n2 n3 n4 f fs fx fy op s x y (Ok k) shape at ds dx dy added =
    let long : length n1 ≡ length n0 + operators fs = ap length ds.1 ∙ (length-append n0 (drawn ow (length n0) fs) ∙ ap (λ k. length n0 + k) (length_drawn ow (length n0) fs)) in
    let long2 : length n2 ≡ length n0 + operators fs + operators fx =
    ap length dx.1 ∙ (length-append n1 (drawn ow (length n1) fx) ∙ (ap (λ k. length n1 + k) (length_drawn ow (length n1) fx) ∙ ap (λ k. k + operators fx) long)) in
    let long3 : length n3 ≡ length n2 + operators fy = ap length dy.1 ∙ (length-append n2 (drawn ow (length n2) fy) ∙ ap (λ k. length n2 + k) (length_drawn ow (length n2) fy)) in
    let second : x ≡ place ow (length n0 + operators fs) fx = dx.0 ∙ ap (λ k. place ow k fx) long in
    let third : y ≡ place ow (length n0 + operators fs + operators fx) fy = dy.0 ∙ ap (λ k. place ow k fy) long2 in
    let d0 = drawn ow (length n0) fs in
    let d1 = drawn ow (length n0 + operators fs) fx in
    let d2 = drawn ow (length n0 + operators fs + operators fx) fy in
    let two : n2 ≡ (n0 ++ d0) ++ d1 = dx.1 ∙ ap₂ (λ ns k. ns ++ drawn ow k fx) ds.1 long in
    let three : n3 ≡ ((n0 ++ d0) ++ d1) ++ d2 = dy.1 ∙ ap₂ (λ ns k. ns ++ drawn ow k fy) two long2 in
    let own : op s x y ≡ op (place ow (length n0) fs) (place ow (length n0 + operators fs) fx) (place ow (length n0 + operators fs + operators fx) fy) =
    ap₂ (λ a b. op a b y) ds.0 second ∙ ap (op (place ow (length n0) fs) (place ow (length n0 + operators fs) fx)) third in (
      added.0 ∙ (long3 ∙ (ap (λ k. k + operators fy) long2 ∙ sym at)),
      added.1
          ∙ (ap₂ (λ ns n. ns ++ n ∷ []) three own
          ∙ (append_assoc ((n0 ++ d0) ++ d1) d2 _
          ∙ (append_assoc (n0 ++ d0) d1 _
          ∙ (append_assoc n0 d0 _ ∙ ap (λ ns. n0 ++ ns) (sym shape))))),
    )

-- an equation is drawn
pub line_drawn : (d : Drawing) (w m k count : ℕ) (f : Formula) (nodes : List Node) (numbers of_wire : List ℕ)
    → (k ≡ place d.of_wire (length d.nodes) f) × (nodes ≡ d.nodes ++ drawn d.of_wire (length d.nodes) f)
    → numbers ≡ d.numbers ++ range_with_len m count → count ≡ length nodes - length d.nodes → of_wire ≡ slice_set d.of_wire w k
    → ◌≡◌ {A = Drawing} (record { nodes = nodes; numbers = numbers; of_wire = of_wire }) (with_line d (w, f) m)
line_drawn d w m k count f nodes numbers of_wire dn num cnt ow =
    let long : length nodes ≡ length d.nodes + operators f = ap length dn.1 ∙ (length-append d.nodes (drawn d.of_wire (length d.nodes) f) ∙ ap (λ n. length d.nodes + n) (length_drawn d.of_wire (length d.nodes) f)) in
    let as_many : count ≡ operators f = omega arith in
    let one : numbers ≡ d.numbers ++ range_with_len m (operators f) = num ∙ ap (λ n. d.numbers ++ range_with_len m n) as_many in
    let two : of_wire ≡ slice_set d.of_wire w (place d.of_wire (length d.nodes) f) = ow ∙ ap (slice_set d.of_wire w) dn.0 in
    three nodes (d.nodes ++ drawn d.of_wire (length d.nodes) f) numbers _ of_wire _ dn.1 one two
  where
    three : (a a' : List Node) (b b' c c' : List ℕ) → a ≡ a' → b ≡ b' → c ≡ c' → ◌≡◌ {A = Drawing} (record { nodes = a; numbers = b; of_wire = c }) (record { nodes = a'; numbers = b'; of_wire = c' })
    three a a' b b' c c' e f g = cc
