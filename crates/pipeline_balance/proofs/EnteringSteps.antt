-- Input ports that are made in several steps.
use Rattle.std.proofs.Common.{◌≡◌, ◌<◌, ◌++◌, ℕ, zero, suc, Bool, List, [], ◌∷◌, map, refl, sym, ap, ap₂, subst, inl, inr, ◌∙◌, arith, append_assoc, append-nil}
use Rattle.std.specs.List.{AllByRecursion}
use Rattle.std.proofs.lemmas.Bool.{cases_lt}
use Rattle.std.proofs.lemmas.List.{map-append}
use Rattle.agm_net.specs.Plain.{PlainNet}
use Rattle.agm_net.specs.Trace.{Row}
use Rattle.agm_net.proofs.Lists.{all_from, all_joined}
use Rattle.share_wiring.specs.Adds.{Extends}
use Rattle.share_wiring.specs.Own.{upto}
use Rattle.share_wiring.specs.Shape.{Header, header_of}
use Rattle.share_wiring.specs.Wiring.{Wiring, share}
use Rattle.share_wiring.proofs.Lists.{all_front, all_back}
use Rattle.share_wiring.proofs.Runs.{extends_refl, extends_trans}
use Rattle.pipeline_balance.specs.declared.values.Value.{Value}
use Rattle.pipeline_balance.specs.Ports.{FitsBeside, value_row}
use Rattle.pipeline_balance.specs.Valued.{is_secret, size_of, wires_of, IsValue, signal}
use Rattle.pipeline_balance.specs.Entering.{FitInOrder, IsOwn, Enters}

-- ---- ports that can stand beside each other

pub fit_parts : (olds xs ys : List Header) → FitInOrder olds (xs ++ ys) → FitInOrder olds xs × FitInOrder (olds ++ xs) ys
fit_parts olds [] ys h = (tt, subst (λ os. FitInOrder os ys) (sym (append-nil olds)) h)
fit_parts olds (x ∷ xs) ys h = let rest = fit_parts (olds ++ x ∷ []) xs ys h.1 in ((h.0, rest.0), subst (λ os. FitInOrder os ys) (append_assoc olds (x ∷ []) xs) rest.1)

pub fit_at : (olds : List Header) (n : ℕ) (f : ℕ → Header) → FitInOrder olds (upto n f) → (k : ℕ) → k < n → FitsBeside (olds ++ upto k f) (f k)
fit_at olds zero f h k lt = absurd (omega arith)
fit_at olds (suc n) f h k lt =
    let parts = fit_parts olds (upto n f) (f n ∷ []) h in
    elim (cases_lt k n) [
      | inl early ↦ fit_at olds n f parts.0 k early
      | inr late ↦ (let here : k ≡ n = omega (arith, lt, late) in subst (λ j. FitsBeside (olds ++ upto j f) (f j)) (sym here) parts.1.0)
    ]

-- ---- values stay values

pub still : (n : ℕ) (a b : Wiring) → Extends a b → (vs : List (Value n)) → AllByRecursion (IsValue n a) vs → AllByRecursion (IsValue n b) vs
still n a b more vs h = all_from (IsValue n a) (IsValue n b) (λ v is i lt. more.shares (size_of n v) i (share (wires_of v) i) (is i lt)) vs h

-- ---- one step after another

pub enters_none : (n : ℕ) (net : Wiring) → Enters n net net [] [] (λ plain bit. []) []
enters_none n net = record {
  made = [];
  ports = sym (append-nil net.ports);
  headers_are = refl;
  extends = extends_refl net;
  sources = tt;
  kinds_are = refl;
  told = λ plain own bits t. refl;
  begun = refl;
  given = refl;
  sound = λ h. h;
}

pub enters_more : (n : ℕ) (a b c : Wiring) (hs gs : List Header) (ks ls : List Bool) (row next : PlainNet → (ℕ → Bool) → Row) (vs ws : List (Value n))
    → Enters n a b hs ks row vs → Enters n b c gs ls next ws → Enters n a c (hs ++ gs) (ks ++ ls) (λ net bit. row net bit ++ next net bit) (vs ++ ws)
enters_more n a b c hs gs ks ls row next vs ws e f = record {
  made = e.made ++ f.made;
  ports = f.ports ∙ (ap (λ ps. ps ++ f.made) e.ports ∙ append_assoc a.ports e.made f.made);
  headers_are = map-append header_of e.made f.made ∙ ap₂ (λ xs ys. xs ++ ys) e.headers_are f.headers_are;
  extends = extends_trans a b c e.extends f.extends;
  sources = all_joined (IsValue n c) vs ws (still n b c f.extends vs e.sources) f.sources;
  kinds_are = map-append is_secret vs ws ∙ ap₂ (λ xs ys. xs ++ ys) e.kinds_are f.kinds_are;
  told = λ net own bits t.
      ap₂ (λ (xs : Row) ys. xs ++ ys) (e.told net (all_front (IsOwn net) e.made f.made own) bits t) (f.told net (all_back (IsOwn net) e.made f.made own) bits t)
      ∙ sym (map-append (λ v. signal n bits v t) vs ws);
  begun = f.begun ∙ e.begun;
  given = f.given ∙ e.given;
  sound = λ h. f.sound (e.sound h);
}

-- the same with other words
pub enters_as : (n : ℕ) (a b : Wiring) (hs gs : List Header) (ks ls : List Bool) (row next : PlainNet → (ℕ → Bool) → Row) (vs ws : List (Value n))
    → hs ≡ gs → ks ≡ ls → ((net : PlainNet) (bit : ℕ → Bool) → next net bit ≡ row net bit) → vs ≡ ws → Enters n a b hs ks row vs → Enters n a b gs ls next ws
enters_as n a b hs gs ks ls row next vs ws headers kinds rows values e = record {
  made = e.made;
  ports = e.ports;
  headers_are = e.headers_are ∙ headers;
  extends = e.extends;
  sources = subst (AllByRecursion (IsValue n b)) values e.sources;
  kinds_are = ap (map is_secret) (sym values) ∙ (e.kinds_are ∙ kinds);
  told = λ net own bits t. rows net (bits t) ∙ (e.told net own bits t ∙ ap (value_row n bits t) values);
  begun = e.begun;
  given = e.given;
  sound = e.sound;
}

-- the headers of all ports
pub entered_all : (n : ℕ) (a b : Wiring) (hs : List Header) (ks : List Bool) (row : PlainNet → (ℕ → Bool) → Row) (vs : List (Value n))
    → Enters n a b hs ks row vs → map header_of b.ports ≡ map header_of a.ports ++ hs
entered_all n a b hs ks row vs e = ap (map header_of) e.ports ∙ (map-append header_of a.ports e.made ∙ ap (λ gs. map header_of a.ports ++ gs) e.headers_are)
