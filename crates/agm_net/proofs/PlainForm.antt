-- What the checks of a plain net say.
use Rattle.std.proofs.Common.{◌≡◌, ◌≢◌, ◌≤◌, ◌<◌, ◌+◌, ℕ, Bool, true, false, not, cond, List, [], ◌∷◌, ◌++◌, Option, Some, None, length, get_or, min, map, take, refl, sym, ap, subst, ◌∙◌, IsTrue, ◌↔◌, arith}
use Rattle.std.specs.Prelude.{◌==◌, ◌&&◌, ◌||◌, nat_lt, nat_le, slice_get}
use Rattle.std.specs.List.{AllByRecursion, list_all, list_any}
use Rattle.std.specs.Str.{bytes_eq}
use Rattle.std.specs.Cmp.Lexicographic.{bytes_decides}
use Rattle.std.proofs.lemmas.Bool.{cases_Bool, cases_eq, cases_lt, eqb-false, ne_eqb, and_parts, and_from, not-true, not_from_false, lt-ltb, ltb-true, le-leb, leb-true, eq-eqb, eqb-true}
use Rattle.std.proofs.lemmas.List.Folds.{list_any-append, list_any_at, list_any_more, Any-from_list_any}
use Rattle.std.proofs.lemmas.Option.{get_or_from_slice_get, slice_get-get_or, slice_get_within}
use mathlib.Core.Logic.{⊎_elim}
use Rattle.agm_net.specs.Formula.{Formula, formula_of, f_zero, f_one, f_wire, f_not, f_and, f_or, f_xor, f_mux}
use Rattle.agm_net.specs.Plain.{line_of, stored_of}
use Rattle.agm_net.specs.PlainForm.{IsWire, IsOneOperator, IsNextOf, RangeFits, PortNamesAreBits, IsPlain}
use Rattle.agm_net.specs.View.{plain_of}
use Rattle.agm_net.specs.Writable.{IsWritable, is_graphic}
use Rattle.agm_net.specs.Checks.{Texts, is_wire, is_this_wire, is_one_operator, is_next_of, is_writable, range_fits, is_plain_port, is_other_or_counted, uses, port_bits, parts_plain}
use Rattle.agm_net.specs.declared.net.Net.{Net}
use Rattle.agm_net.specs.declared.expr.Equation.{Equation}
use Rattle.agm_net.specs.declared.expr.Register.{Register}
use Rattle.agm_net.specs.declared.port.Port.{Port}
use Rattle.agm_net.specs.declared.port.Range.{Range}
use Rattle.agm_net.proofs.Counts.{count, count-head, count-tail, uses-count}

-- a test decides a fact
abbrev pub Tells : Bool → Type 0 → Type 0
Tells b P = IsTrue b ↔ P

both : {P Q : Type 0} (a b : Bool) → Tells a P → Tells b Q → Tells (a && b) (P × Q)
both a b p q = (λ h. let parts = and_parts a b h in (p.0 parts.0, q.0 parts.1), λ h. and_from a b (p.1 h.0) (q.1 h.1))

three : {P Q R : Type 0} (a b c : Bool) → Tells a P → Tells b Q → Tells c R → Tells (a && (b && c)) (P × Q × R)
three a b c p q r = (
  λ h. let parts = and_parts a (b && c) h in let rest = and_parts b c parts.1 in (p.0 parts.0, q.0 rest.0, r.0 rest.1),
  λ h. and_from a (b && c) (p.1 h.0) (and_from b c (q.1 h.1) (r.1 h.2)),
)

always : Tells true (Unit {0})
always = (λ h. tt, λ h. refl)

never : Tells false Prim.⊥
never = (λ h. absurd (cc), λ h. absurd h)

module _ {X : Type 0} (p : X → Bool) (P : X → Type 0) (each : (x : X) → Tells (p x) (P x)) where
  all_tell : (xs : List X) → Tells (list_all p xs) (AllByRecursion P xs)
  all_tell [] = (λ h. tt, λ h. refl)
  all_tell (x ∷ xs) = both (p x) (list_all p xs) (each x) (all_tell xs)

wire_tells : (f : Formula) → Tells (is_wire f) (IsWire f)
wire_tells f_zero = (λ h. absurd (cc), λ h. absurd (let e = h.1 in cc))
wire_tells f_one = (λ h. absurd (cc), λ h. absurd (let e = h.1 in cc))
wire_tells (f_wire w) = (λ h. (w, refl), λ h. refl)
wire_tells (f_not x) = (λ h. absurd (cc), λ h. absurd (let e = h.1 in cc))
wire_tells (f_and x y) = (λ h. absurd (cc), λ h. absurd (let e = h.1 in cc))
wire_tells (f_or x y) = (λ h. absurd (cc), λ h. absurd (let e = h.1 in cc))
wire_tells (f_xor x y) = (λ h. absurd (cc), λ h. absurd (let e = h.1 in cc))
wire_tells (f_mux s x y) = (λ h. absurd (cc), λ h. absurd (let e = h.1 in cc))

this_wire_tells : (q : ℕ) (f : Formula) → Tells (is_this_wire q f) (f ≡ f_wire q)
this_wire_tells q f_zero = (λ h. absurd (cc), λ h. absurd (cc))
this_wire_tells q f_one = (λ h. absurd (cc), λ h. absurd (cc))
this_wire_tells q (f_wire w) = (λ h. ap f_wire (eqb-true w q h), λ h. let same : w ≡ q = cc in eq-eqb w q same)
this_wire_tells q (f_not x) = (λ h. absurd (cc), λ h. absurd (cc))
this_wire_tells q (f_and x y) = (λ h. absurd (cc), λ h. absurd (cc))
this_wire_tells q (f_or x y) = (λ h. absurd (cc), λ h. absurd (cc))
this_wire_tells q (f_xor x y) = (λ h. absurd (cc), λ h. absurd (cc))
this_wire_tells q (f_mux s x y) = (λ h. absurd (cc), λ h. absurd (cc))

one_operator_tells : (f : Formula) → Tells (is_one_operator f) (IsOneOperator f)
one_operator_tells f_zero = always
one_operator_tells f_one = always
one_operator_tells (f_wire w) = always
one_operator_tells (f_not x) = wire_tells x
one_operator_tells (f_and x y) = both (is_wire x) (is_wire y) (wire_tells x) (wire_tells y)
one_operator_tells (f_or x y) = both (is_wire x) (is_wire y) (wire_tells x) (wire_tells y)
one_operator_tells (f_xor x y) = both (is_wire x) (is_wire y) (wire_tells x) (wire_tells y)
one_operator_tells (f_mux s x y) = three (is_wire s) (is_wire x) (is_wire y) (wire_tells s) (wire_tells x) (wire_tells y)

next_tells : (q : ℕ) (f : Formula) → Tells (is_next_of q f) (IsNextOf q f)
next_tells q f_zero = never
next_tells q f_one = never
next_tells q (f_wire w) = always
next_tells q (f_not x) = never
next_tells q (f_and x y) = never
next_tells q (f_or x y) = never
next_tells q (f_xor x y) = never
next_tells q (f_mux s x y) = three (is_wire s) (is_this_wire q x) (is_wire y) (wire_tells s) (this_wire_tells q x) (wire_tells y)

above : (n : ℕ) → n ≢ 0 → 0 < n
above n other = ⊎_elim (λ yes. yes) (λ no. absurd (other (omega arith))) (cases_lt 0 n)

some_tells : (name : List ℕ) → Tells (not (length name == 0)) (0 < length name)
some_tells name = (
  λ h. let other = eqb-false (length name) 0 (not-true _ h) in above (length name) other,
  λ h. not_from_false _ (ne_eqb (length name) 0 (λ none. absurd (omega arith))),
)

writable_tells : (name : List ℕ) → Tells (is_writable name) (IsWritable name)
writable_tells name =
    both (not (length name == 0)) (list_all is_graphic name) (some_tells name)
    (all_tell is_graphic (λ b. IsTrue (is_graphic b)) (λ b. (λ h. h, λ h. h)) name)

small_tells : (n : ℕ) → Tells (nat_le n 65535) (n ≤ 65535)
small_tells n = (leb-true n 65535, le-leb n 65535)

range_tells : (range : Option Range) → Tells (range_fits range) (RangeFits range)
range_tells None = always
range_tells (Some r) = both (nat_le r.msb 65535) (nat_le r.lsb 65535) (small_tells r.msb) (small_tells r.lsb)

-- all ports have both properties exactly where all have the one and all have the other
ports_tell : (ports : List Port) → Tells (list_all is_plain_port ports) (AllByRecursion (λ p. IsWritable p.name) ports × AllByRecursion (λ p. RangeFits p.range) ports)
ports_tell [] = (λ h. (tt, tt), λ h. refl)
ports_tell (p ∷ ps) =
    let here = both (is_writable p.name) (range_fits p.range) (writable_tells p.name) (range_tells p.range) in
    let rest = ports_tell ps in (
      λ h. let parts = and_parts (is_plain_port p) (list_all is_plain_port ps) h in
          let own = here.0 parts.0 in let others = rest.0 parts.1 in ((own.0, others.0), (own.1, others.1)),
      λ h. and_from (is_plain_port p) (list_all is_plain_port ps) (here.1 (h.0.0, h.1.0)) (rest.1 (h.0.1, h.1.1)),
    )

or_false : (b : Bool) → (b || false) ≡ b
or_false true = refl
or_false false = refl

not_false : (b : Bool) → not b ≡ false → b ≡ true
not_false true h = refl
not_false false h = absurd (cc)

pub other_told : (answer found any more : Bool) → found ≡ not answer → found ≡ any → more ≡ false → answer ≡ (not any || more)
other_told true found any more told is none = let absent : any ≡ false = sym is ∙ told in rw absent refl
other_told false found any more told is none = let there : any ≡ true = sym is ∙ told in rw (there, none) refl

-- one more name, where it is new
pub names_more : (names : Texts) (ports : List Port) (i : ℕ) (p : Port) (own : List ℕ) (after : Texts) (fresh : Bool) → i < length ports → p ≡ get_or ports i p → own ≡ p.name
    → fresh ≡ not (list_any (λ n. bytes_eq n own) names) → after ≡ cond fresh (names ++ own ∷ []) names → (name : List ℕ)
    → list_any (λ n. bytes_eq n name) names ≡ list_any (λ q. bytes_eq q.name name) (take i ports)
    → list_any (λ n. bytes_eq n name) after ≡ list_any (λ q. bytes_eq q.name name) (take (i + 1) ports)
names_more names ports i p own after fresh within here named told added name before =
    let more = list_any_more (λ (q : Port). bytes_eq q.name name) ports i p within in
    let last : bytes_eq (get_or ports i p).name name ≡ bytes_eq own name = ap (λ (n : List ℕ). bytes_eq n name) (ap (λ (q : Port). q.name) (sym here) ∙ sym named) in
    let goal : list_any (λ n. bytes_eq n name) after ≡ (list_any (λ n. bytes_eq n name) names || bytes_eq own name) =
    ⊎_elim
    (λ new.
    let longer : after ≡ names ++ own ∷ [] = added ∙ ap (λ (t : Bool). cond t (names ++ own ∷ []) names) new in
    ap (λ (ns : Texts). list_any (λ n. bytes_eq n name) ns) longer ∙ (list_any-append (λ n. bytes_eq n name) names (own ∷ []) ∙ ap (λ (t : Bool). list_any (λ n. bytes_eq n name) names || t) (or_false (bytes_eq own name))))
    (λ old.
    let same_names : after ≡ names = added ∙ ap (λ (t : Bool). cond t (names ++ own ∷ []) names) old in
    ap (λ (ns : Texts). list_any (λ n. bytes_eq n name) ns) same_names
    ∙ (⊎_elim
    (λ same. let e : own ≡ name = (bytes_decides own name).0 same in
    let known : list_any (λ n. bytes_eq n name) names ≡ true = subst (λ (m : List ℕ). list_any (λ n. bytes_eq n m) names ≡ true) e (not_false _ (sym told ∙ old)) in
    rw known refl)
    (λ other. rw other (sym (or_false (list_any (λ n. bytes_eq n name) names))))
    (cases_Bool (bytes_eq own name))))
    (cases_Bool fresh) in
    goal ∙ (ap (λ (t : Bool). t || bytes_eq own name) before ∙ (ap (λ (t : Bool). list_any (λ q. bytes_eq q.name name) (take i ports) || t) (sym last) ∙ sym more))

-- a wire stands in a list where it is counted
counted_stands : (w : ℕ) (ws : List ℕ) → 0 < count w ws → list_any (λ b. b == w) ws ≡ true
counted_stands w [] h = absurd (omega arith)
counted_stands w (b ∷ bs) h =
    ⊎_elim
    (λ same. let here : (b == w) ≡ true = eq-eqb b w same in rw here refl)
    (λ other. let rest = counted_stands w bs (omega (arith, count-tail w b bs other)) in
    let here : (b == w) ≡ false = ne_eqb b w other in rw here rest)
    (cases_eq b w)

stands_counted : (w : ℕ) (ws : List ℕ) → list_any (λ b. b == w) ws ≡ true → 0 < count w ws
stands_counted w [] h = absurd (cc)
stands_counted w (b ∷ bs) h =
    ⊎_elim
    (λ same. omega (arith, count-head w b bs same))
    (λ other. let here : (b == w) ≡ false = ne_eqb b w other in
    let rest = stands_counted w bs (rw here at h) in omega (arith, count-tail w b bs other))
    (cases_eq b w)

module _ (names wires : Texts) (ports : List Port) (counts : List ℕ) (uses_are : counts ≡ uses (length wires) (port_bits ports))
    (known : (name : List ℕ) → list_any (λ n. bytes_eq n name) names ≡ list_any (λ p. bytes_eq p.name name) ports) where
  count_at : (w : ℕ) → w < length wires → get_or counts w 0 ≡ min (count w (port_bits ports)) 255
  count_at w within = ap (λ (cs : List ℕ). get_or cs w 0) uses_are ∙ uses-count (length wires) (port_bits ports) w within

  abbrev Other : ℕ → Type 0
  Other w = IsTrue (is_other_or_counted names (get_or wires w []) (get_or counts w 0))

  -- what the checks of wires say of names
  from_others : ((w : ℕ) → w < length wires → Other w) → PortNamesAreBits ports wires
  from_others all n w p port wire =
      let within = slice_get_within wires w p.name wire in
      let named : get_or wires w [] ≡ p.name = get_or_from_slice_get wires w p.name [] wire in
      let any : list_any (λ q. bytes_eq q.name (get_or wires w [])) ports ≡ true =
      list_any_at (λ (q : Port). bytes_eq q.name (get_or wires w [])) ports n p (slice_get_within ports n p port)
      ((bytes_decides _ _).1 (ap (λ (q : Port). q.name) (get_or_from_slice_get ports n p p port) ∙ sym named)) in
      let there : list_any (λ m. bytes_eq m (get_or wires w [])) names ≡ true = known (get_or wires w []) ∙ any in
      let test : nat_lt 0 (get_or counts w 0) ≡ true = rw there at (all w within) in
      let some = ltb-true 0 (get_or counts w 0) test in
      let many = count_at w within in
      counted_stands w (port_bits ports) (omega arith)

  to_others : PortNamesAreBits ports wires → (w : ℕ) → w < length wires → Other w
  to_others bits w within =
      let name : List ℕ = get_or wires w [] in
      ⊎_elim
      (λ yes.
      let found = Any-from_list_any (λ (p : Port). bytes_eq p.name name) ports (sym (known name) ∙ yes) in
      let p : Port = found.1 in
      let port : slice_get ports found.0 ≡ Some p = slice_get-get_or ports found.0 p found.2 ∙ ap Some found.3 in
      let wire : slice_get wires w ≡ Some p.name = slice_get-get_or wires w [] within ∙ ap Some (sym ((bytes_decides p.name name).0 found.4)) in
      let some = stands_counted w (port_bits ports) (bits found.0 w p port wire) in
      let many = count_at w within in
      rw yes (lt-ltb 0 (get_or counts w 0) (omega arith)))
      (λ no. rw no refl)
      (cases_Bool (list_any (λ n. bytes_eq n name) names))

  pub bits_told : (b : Bool) → Tells b ((w : ℕ) → w < length wires → Other w) → Tells b (PortNamesAreBits ports wires)
  bits_told b tells = (λ h. from_others (tells.0 h), λ h. tells.1 (to_others h))

module _ (net : Net) where
  abbrev lines_are : List Equation → Bool
  lines_are equations = list_all (λ e. is_one_operator (formula_of e.expr)) equations

  lines_tell : (equations : List Equation) → Tells (lines_are equations) (AllByRecursion (λ l. IsOneOperator l.1) (map line_of equations))
  lines_tell [] = (λ h. tt, λ h. refl)
  lines_tell (e ∷ es) = both (is_one_operator (formula_of e.expr)) (lines_are es) (one_operator_tells (formula_of e.expr)) (lines_tell es)

  abbrev nexts_are : List Register → Bool
  nexts_are registers = list_all (λ r. is_next_of r.q (formula_of r.next)) registers

  nexts_tell : (registers : List Register) → Tells (nexts_are registers) (AllByRecursion (λ r. IsNextOf r.q r.next) (map stored_of registers))
  nexts_tell [] = (λ h. tt, λ h. refl)
  nexts_tell (r ∷ rs) = both (is_next_of r.q (formula_of r.next)) (nexts_are rs) (next_tells r.q (formula_of r.next)) (nexts_tell rs)

  -- a net is plain where all checks say so
  plain_told : Tells (parts_plain net.ports net.wires net.equations net.registers && net.port_names_are_bits) (IsPlain (plain_of net))
  plain_told =
      let checks = both (lines_are net.equations) _ (lines_tell net.equations)
      (both (nexts_are net.registers) _ (nexts_tell net.registers)
      (both (list_all is_plain_port net.ports) _ (ports_tell net.ports) (all_tell is_writable IsWritable writable_tells net.wires))) in
      let all = both (parts_plain net.ports net.wires net.equations net.registers) net.port_names_are_bits checks net.told in (
        λ h. let parts = all.0 h in
            record {
              one_operator = parts.0.0;
              next_kept = parts.0.1.0;
              ports_writable = parts.0.1.1.0.0;
              wires_writable = parts.0.1.1.1;
              ranges_fit = parts.0.1.1.0.1;
              port_names_are_bits = parts.1;
            },
        λ h. all.1 ((h.one_operator, (h.next_kept, ((h.ports_writable, h.ranges_fit), h.wires_writable))), h.port_names_are_bits),
      )

  pub plain_yes : (parts : Bool) → parts ≡ parts_plain net.ports net.wires net.equations net.registers → parts ≡ true → Tells net.port_names_are_bits (IsPlain (plain_of net))
  plain_yes parts are passed = subst (λ (b : Bool). Tells (b && net.port_names_are_bits) (IsPlain (plain_of net))) (sym are ∙ passed) plain_told

  pub plain_no : (parts : Bool) → parts ≡ parts_plain net.ports net.wires net.equations net.registers → parts ≡ false → Tells parts (IsPlain (plain_of net))
  plain_no parts are failed =
      subst (λ (b : Bool). Tells b (IsPlain (plain_of net))) (sym failed)
      (subst (λ (b : Bool). Tells (b && net.port_names_are_bits) (IsPlain (plain_of net))) (sym are ∙ failed) plain_told)
