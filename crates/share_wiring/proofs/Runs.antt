-- The traces of a net with more wires, and what stays.
use Rattle.std.proofs.Common.{◌-◌, ◌≡◌, ◌≢◌, ◌<◌, ◌≤◌, ◌+◌, ◌*◌, ◌++◌, ◌⊎◌, ℕ, zero, suc, Bool, List, [], length, take, drop, get_or, append_assoc, refl, sym, ap, ap₂, subst, ◌∙◌, length-append, arith}
use Rattle.std.specs.List.{AllByRecursion}
use Rattle.std.proofs.lemmas.List.{take-append-drop, get_or_append_left, get_or-append-add, length-map}
use Rattle.std.proofs.Math.Seq.{take-append_seam, take-length}
use Rattle.agm_net.specs.Label.{IsPublic, CountsAsShare}
use Rattle.share_wiring.specs.Wiring.{Wiring, IsRun, Keeps, source_at, name_at, names, stored_at, stored_below, MayBeShare, IsPublicWire}
use Rattle.share_wiring.specs.Adds.{Extends, AddsRegisters}
use Rattle.share_wiring.specs.Built.{is_stored}
use Rattle.share_wiring.specs.declared.gate.Source.{Source}
use Rattle.share_wiring.specs.declared.gate.Source.TheVariants.{Input, Equation, Register, Held}
use Rattle.share_wiring.specs.declared.gate.Wire.{Wire}
use Rattle.share_wiring.proofs.Grown.{source_front, source_back, names_append, sources_at}

pub name_front : (old more : List Wire) (w : ℕ) → w < length old → name_at (old ++ more) w ≡ name_at old w
name_front old more w lt =
    ap (λ ns. get_or ns w []) (names_append old more)
    ∙ get_or_append_left (names old) (names more) [] w (subst (λ k. w < k) (sym (length-map old (λ (x : Wire). x.name))) lt)

pub name_back : (old more : List Wire) (k : ℕ) → name_at (old ++ more) (length old + k) ≡ name_at more k
name_back old more k =
    ap (λ ns. get_or ns (length old + k) []) (names_append old more)
    ∙ (ap (λ m. get_or (names old ++ names more) (m + k) []) (sym (length-map old (λ (x : Wire). x.name)))
    ∙ get_or-append-add (names old) (names more) k [])

-- a trace of more wires is one of the first
pub run_front : (old more : List Wire) (cycles : ℕ) (bits : ℕ → ℕ → Bool) → IsRun (old ++ more) cycles bits → IsRun old cycles bits
unfolding IsRun
run_front old more cycles bits run w lt =
    let len = length-append old more in
    subst (λ s. Keeps cycles bits w s) (source_front old more w lt) (run w (omega arith))

pub run_at : (wires : List Wire) (cycles : ℕ) (bits : ℕ → ℕ → Bool) → IsRun wires cycles bits → (w : ℕ) → w < length wires → Keeps cycles bits w (source_at wires w)
unfolding IsRun
run_at wires cycles bits run = run

-- the new wires keep their sources
pub run_back : (old more : List Wire) (cycles : ℕ) (bits : ℕ → ℕ → Bool) → IsRun (old ++ more) cycles bits → (k : ℕ) → k < length more → Keeps cycles bits (length old + k) (source_at more k)
run_back old more cycles bits run k lt =
    let len = length-append old more in
    subst (λ s. Keeps cycles bits (length old + k) s) (source_back old more k) (run_at (old ++ more) cycles bits run (length old + k) (omega arith))

may_more : (old more : List Wire) (n i w : ℕ) → MayBeShare old n i w → MayBeShare (old ++ more) n i w
may_more old more n i w h =
    let len = length-append old more in
    let lt = h.within in
    record { within = omega arith; named = subst (λ name. IsPublic name ⊎ ((n ≢ 1) × CountsAsShare (n - 1) i name)) (sym (name_front old more w lt)) h.named }

public_more : (old more : List Wire) (w : ℕ) → IsPublicWire old w → IsPublicWire (old ++ more) w
public_more old more w h =
    let len = length-append old more in
    let lt = h.within in
    record { within = omega arith; named = subst IsPublic (sym (name_front old more w lt)) h.named }

pub extends_append : (old new : Wiring) (more : List Wire) → new.wires ≡ old.wires ++ more → old.gadgets ≤ new.gadgets → Extends old new
extends_append old new more e g =
    let len = length-append old.wires more in
    let count = ap (λ (ws : List Wire). length ws) e in
    record {
      wires = ap (λ ws. take (length old.wires) ws) e ∙ take-append_seam old.wires more;
      count = omega arith;
      gadgets = g;
      shares = λ n i w h. subst (λ ws. MayBeShare ws n i w) (sym e) (may_more old.wires more n i w h);
      publics = λ w h. subst (λ ws. IsPublicWire ws w) (sym e) (public_more old.wires more w h);
    }

pub extends_refl : (net : Wiring) → Extends net net
extends_refl net = record { wires = take-length net.wires; count = omega arith; gadgets = omega arith; shares = λ n i w h. h; publics = λ w h. h }

pub extends_same : (old new : Wiring) → new.wires ≡ old.wires → old.gadgets ≤ new.gadgets → Extends old new
extends_same old new e g =
    let count = ap (λ (ws : List Wire). length ws) e in
    record {
      wires = ap (λ ws. take (length old.wires) ws) e ∙ take-length old.wires;
      count = omega arith;
      gadgets = g;
      shares = λ n i w h. subst (λ ws. MayBeShare ws n i w) (sym e) h;
      publics = λ w h. subst (λ ws. IsPublicWire ws w) (sym e) h;
    }

-- the later wires are the earlier ones and more
pub grown : (old new : List Wire) → take (length old) new ≡ old → new ≡ old ++ drop (length old) new
grown old new e = sym (take-append-drop (length old) new) ∙ ap (λ s. s ++ drop (length old) new) e

-- what stays, stays
pub extends_trans : (a b c : Wiring) → Extends a b → Extends b c → Extends a c
extends_trans a b c e f =
    let p = grown a.wires b.wires e.wires in
    let q = grown b.wires c.wires f.wires in
    let r : c.wires ≡ a.wires ++ (drop (length a.wires) b.wires ++ drop (length b.wires) c.wires) = q ∙ (ap (λ s. s ++ drop (length b.wires) c.wires) p ∙ append_assoc a.wires (drop (length a.wires) b.wires) (drop (length b.wires) c.wires)) in
    let g = e.gadgets in
    let h = f.gadgets in
    let i = e.count in
    let j = f.count in
    record {
      wires = ap (λ s. take (length a.wires) s) r ∙ take-append_seam a.wires (drop (length a.wires) b.wires ++ drop (length b.wires) c.wires);
      count = omega arith;
      gadgets = omega arith;
      shares = λ n i w s. f.shares n i w (e.shares n i w s);
      publics = λ w s. f.publics w (e.publics w s);
    }

one_stored : (w : ℕ) (source : Source) → length (stored_at w source) ≡ is_stored source
one_stored w Input = refl
one_stored w (Equation gate) = refl
one_stored w (Register next clock) = refl
one_stored w Held = refl

stored_front : (old more : List Wire) (n : ℕ) → n ≤ length old → stored_below (old ++ more) n ≡ stored_below old n
stored_front old more zero le = refl
stored_front old more (suc n) le =
    let lt : n < length old = omega arith in
    ap (λ rest. rest ++ stored_at n (source_at (old ++ more) n)) (stored_front old more n (omega arith)) ∙ ap (λ s. stored_below old n ++ stored_at n s) (source_front old more n lt)

stored_back : (old more : List Wire) (r m : ℕ) → AllByRecursion (λ wire. is_stored wire.source ≡ r) more → m ≤ length more
    → length (stored_below (old ++ more) (length old + m)) ≡ length (stored_below old (length old)) + m * r
stored_back old more r zero all le =
    let none : length old + 0 ≡ length old = omega arith in
    let product : 0 * r ≡ 0 = omega arith in
    let start : length (stored_below old (length old)) ≡ length (stored_below old (length old)) + 0 * r = omega (arith, product) in
    ap (λ k. length (stored_below (old ++ more) k)) none ∙ (ap (λ rs. length rs) (stored_front old more (length old) (omega arith)) ∙ start)
stored_back old more r (suc m) all le =
    let at : length old + suc m ≡ suc (length old + m) = omega arith in
    let before = stored_back old more r m all (omega arith) in
    let source = source_at (old ++ more) (length old + m) in
    let this : length (stored_at (length old + m) source) ≡ r =
    one_stored (length old + m) source ∙ (ap is_stored (source_back old more m) ∙ sources_at (λ s. is_stored s ≡ r) more m all (omega arith)) in
    let both = length-append (stored_below (old ++ more) (length old + m)) (stored_at (length old + m) source) in
    let product : suc m * r ≡ m * r + r = grind arith in
    ap (λ k. length (stored_below (old ++ more) k)) at ∙ (both ∙ (ap₂ (λ x y. x + y) before this ∙ omega (arith, product)))

-- the registers of more wires
pub registers_more : (old new : Wiring) (more : List Wire) (r : ℕ) → new.wires ≡ old.wires ++ more → AllByRecursion (λ wire. is_stored wire.source ≡ r) more → AddsRegisters (length more * r) old new
registers_more old new more r e all =
    let len = length-append old.wires more in
    ap (λ (ws : List Wire). length (stored_below ws (length ws))) e
    ∙ (ap (λ k. length (stored_below (old.wires ++ more) k)) len ∙ stored_back old.wires more r (length more) all (omega arith))
