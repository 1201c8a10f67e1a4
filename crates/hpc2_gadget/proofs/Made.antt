-- One part more, and steps in a row.
use Rattle.std.proofs.Common.{◌≡◌, ◌<◌, ◌≤◌, ◌+◌, ◌-◌, ◌*◌, ◌/◌, ◌^◌, ◌++◌, ℕ, zero, suc, Bool, List, [], ◌∷◌, length, slice_set, IsTrue, refl, sym, ap, subst, inl, inr, ◌∙◌, arith, add-zero, length-append}
use Rattle.std.proofs.lemmas.List.{get_or-set_other, get_or-set_same, length-set}
use Rattle.std.proofs.lemmas.Bool.{cases_eq, cases_lt}
use Rattle.std.proofs.lemmas.Nat.{div-mul-add}
use Rattle.agm_net.specs.Label.{part_name, part_text, is_share_kind, CountsAsShare}
use Rattle.agm_net.specs.declared.label.PartKind.{PartKind}
use Rattle.share_wiring.specs.Wiring.{Wiring, MayBeShare, IsSharing, names, name_at, share}
use Rattle.share_wiring.specs.Adds.{Extends, Stays, AddsFact}
use Rattle.share_wiring.specs.Built.{IsNewPart}
use Rattle.share_wiring.specs.Gates.{gate_of, gate_formula}
use Rattle.share_wiring.specs.declared.gate.Gate.{Gate}
use Rattle.share_wiring.specs.declared.gate.Gate.TheVariants.{Zero, One, Same, Not, And, Or, Xor, Mux}
use Rattle.share_wiring.specs.declared.gate.Source.{Source}
use Rattle.share_wiring.specs.declared.gate.Wire.{Wire}
use Rattle.share_wiring.proofs.Grown.{names_append}
use Rattle.share_wiring.proofs.Runs.{name_back, extends_refl, extends_trans}
use Rattle.hpc2_gadget.specs.Order.{rank, IsIndex, Below}
use Rattle.hpc2_gadget.specs.Grown.{Grown, Makes, Fills, triangle}
use Rattle.hpc2_gadget.proofs.PartNames.{part_new, below_part, below_more, part_writable, part_of_share}
use Rattle.share_wiring.specs.Cells.{AreCells, AddsCells}

-- a gate is that of its formula
pub gate_back : (gate : Gate) → gate_of (gate_formula gate) ≡ gate
gate_back Zero = refl
gate_back One = refl
gate_back (Same a) = refl
gate_back (Not a) = refl
gate_back (And a b) = refl
gate_back (Or a b) = refl
gate_back (Xor a b) = refl
gate_back (Mux s a b) = refl

-- a part's name may be given
pub new_part : (net : Wiring) (n g : ℕ) (kind : PartKind) (i j : ℕ) (name : List ℕ) → name ≡ part_name n g kind i j → (2 ≤ n) × (n ≤ 16) → g < 2 ^ 32 → g < net.gadgets → IsIndex n kind i j
    → Below n g (rank n kind i j) (names net.wires) → IsNewPart net name
new_part net n g kind i j name is size small begun index below =
    let some : 1 ≤ n = (let le = size.0 in omega arith) in
    subst (IsNewPart net) (sym is)
    (record { new = part_new n g kind i j (names net.wires) index below; written = part_writable n g kind i j some small index; of_gadget = (g, part_text n kind i j, begun, refl) })

pub part_grown : (old new : Wiring) (n g : ℕ) (kind : PartKind) (i j : ℕ) (name : List ℕ) (source : Source) → name ≡ part_name n g kind i j → (2 ≤ n) × (n ≤ 16) → IsIndex n kind i j
    → Below n g (rank n kind i j) (names old.wires) → Extends old new → Stays old new → AddsCells old new → new.wires ≡ old.wires ++ (record { name = name; source = source }) ∷ [] → Grown n g (rank n kind i j + 1) 0 old new
part_grown old new n g kind i j name source is size index below extends stays cells made =
    let some : 1 ≤ n = (let le = size.0 in omega arith) in
    let given = stays.given in
    let all : names new.wires ≡ names old.wires ++ part_name n g kind i j ∷ [] =
    ap names made ∙ (names_append old.wires ((record { name = name; source = source }) ∷ []) ∙ ap (λ a. names old.wires ++ a ∷ []) is) in
    record {
      extends = extends;
      ports = stays.ports;
      gadgets = stays.gadgets;
      given = omega arith;
      cells = cells;
      below = subst (Below n g (rank n kind i j + 1)) (sym all) (below_part n g kind i j (names old.wires) some index below);
    }

pub part_shared : (old new : Wiring) (n g : ℕ) (kind : PartKind) (i j : ℕ) (name : List ℕ) (source : Source) (w : ℕ) → name ≡ part_name n g kind i j → (2 ≤ n) × (n ≤ 16) → g < 2 ^ 32 → IsIndex n kind i j
    → new.wires ≡ old.wires ++ (record { name = name; source = source }) ∷ [] → w ≡ length old.wires → IsTrue (is_share_kind kind) → MayBeShare new.wires n i w
part_shared old new n g kind i j name source w is size small index made at shared =
    let more : List Wire = (record { name = name; source = source }) ∷ [] in
    let len = length-append old.wires more in
    let count = ap (λ (ws : List Wire). length ws) made in
    let le = size.0 in
    let none : length old.wires + 0 ≡ w = omega arith in
    let here : name_at (old.wires ++ more) w ≡ part_name n g kind i j = ap (name_at (old.wires ++ more)) (sym none) ∙ (name_back old.wires more 0 ∙ is) in
    let named : name_at new.wires w ≡ part_name n g kind i j = ap (λ ws. name_at ws w) made ∙ here in
    record {
      within = omega arith;
      named = inr (λ one. (let no_one = one in omega arith), subst (CountsAsShare (n - 1) i) (sym named) (part_of_share n g kind i j (omega arith) small index shared));
    }

-- steps in a row
pub grown_trans : (n g r s k l : ℕ) (a b c : Wiring) → Grown n g r k a b → Grown n g s l b c → Grown n g s (k + l) a c
grown_trans n g r s k l a b c p q =
    let one = p.given in
    let two = q.given in
    record { extends = extends_trans a b c p.extends q.extends; ports = q.ports ∙ p.ports; gadgets = q.gadgets ∙ p.gadgets; given = omega arith; cells = λ h. q.cells (p.cells h); below = q.below }

pub grown_more : (n g r s k : ℕ) (a b : Wiring) → r ≤ s → Grown n g r k a b → Grown n g s k a b
grown_more n g r s k a b le p = record { extends = p.extends; ports = p.ports; gadgets = p.gadgets; given = p.given; cells = p.cells; below = below_more n g r s (names b.wires) le p.below }

-- a random bit more
pub random_grown : (n g r : ℕ) (old new : Wiring) → Extends old new → new ≡ record old { given = old.given + 1 } → Below n g r (names old.wires) → Grown n g r 1 old new
random_grown n g r old new extends is below =
    record {
      extends = extends;
      ports = ap (λ (w : Wiring). w.ports) is;
      gadgets = ap (λ (w : Wiring). w.gadgets) is;
      given = ap (λ (w : Wiring). w.given) is;
      cells = λ h. subst (λ (w : Wiring). AreCells w.wires) (sym is) h;
      below = subst (λ (w : Wiring). Below n g r (names w.wires)) (sym is) below;
    }

-- nothing yet
pub grown_none : (n g r : ℕ) (net : Wiring) → Below n g r (names net.wires) → Grown n g r 0 net net
grown_none n g r net below = let none : net.given ≡ net.given + 0 = omega arith in record { extends = extends_refl net; ports = refl; gadgets = refl; given = none; cells = λ h. h; below = below }

-- no share yet
pub fills_none : (n : ℕ) (shares : List ℕ) (net : Wiring) (fact : ℕ → (ℕ → ℕ → Bool) → ℕ → ℕ → Type 0) → length shares ≡ n → Fills net net n 0 shares fact
fills_none n shares net fact full =
    record { full = full; sharing = λ k lt. absurd (omega arith); facts = λ cycles bits run. (run, λ k lt. absurd (omega arith)) }

-- one share more
pub fills_more : (n m w : ℕ) (shares : List ℕ) (old mid new : Wiring) (fact : ℕ → (ℕ → ℕ → Bool) → ℕ → ℕ → Type 0) → m < n → Fills old mid n m shares fact → Extends mid new
    → MayBeShare new.wires n m w → AddsFact mid new (λ cycles bits. fact cycles bits m w) → Fills old new n (m + 1) (slice_set shares m w) fact
fills_more n m w shares old mid new fact lt filled e may added =
    let full = filled.full in
    let here : share (slice_set shares m w) m ≡ w = get_or-set_same shares m w 0 (omega (arith, lt, full)) in
    record {
      full = length-set shares m w ∙ full;
      sharing = λ k below.
          elim (cases_eq k m) [
            | inl same ↦ subst (λ j. MayBeShare new.wires n j (share (slice_set shares m w) j)) (sym same) (subst (MayBeShare new.wires n m) (sym here) may)
            | inr other ↦ subst (MayBeShare new.wires n k) (sym (get_or-set_other shares m k w 0 other)) (e.shares n k (share shares k) (filled.sharing k (omega arith)))
          ];
      facts = λ cycles bits run.
          let now = added cycles bits run in
          let past = filled.facts cycles bits now.0 in (
            past.0,
            λ k below.
                elim (cases_eq k m) [
                  | inl same ↦ subst (λ j. fact cycles bits j (share (slice_set shares m w) j)) (sym same) (subst (fact cycles bits m) (sym here) now.1)
                  | inr other ↦ subst (fact cycles bits k) (sym (get_or-set_other shares m k w 0 other)) (past.1 k (omega arith))
                ],
          );
    }

-- the start of the loops over pairs
pub makes_same : (n : ℕ) (net : Wiring) (shares : List ℕ) (fact : ℕ → (ℕ → ℕ → Bool) → Type 0) → length shares ≡ n → IsSharing net.wires n shares → ((cycles : ℕ) (bits : ℕ → ℕ → Bool) → fact cycles bits) → Makes net net n shares fact
makes_same n net shares fact full inside holds = record { full = full; sharing = inside; facts = λ cycles bits run. (run, holds cycles bits) }

-- one pair more
pub makes_pair : (n i j p q : ℕ) (shares : List ℕ) (old mid new : Wiring) (before now after : ℕ → (ℕ → ℕ → Bool) → Type 0) → i < j → j < n → Makes old mid n shares before → Extends mid new
    → MayBeShare new.wires n i p → MayBeShare new.wires n j q → AddsFact mid new now → ((cycles : ℕ) (bits : ℕ → ℕ → Bool) → before cycles bits → now cycles bits → after cycles bits)
    → Makes old new n (slice_set (slice_set shares i p) j q) after
makes_pair n i j p q shares old mid new before now after lt index made e low high added joined =
    let full = made.full in
    let one = slice_set shares i p in
    let count : length one ≡ n = length-set shares i p ∙ full in
    let at_i : share one i ≡ p = get_or-set_same shares i p 0 (omega (arith, lt, index, full)) in
    let at_j : share (slice_set one j q) j ≡ q = get_or-set_same one j q 0 (omega (arith, count, index)) in
    record {
      full = length-set one j q ∙ count;
      sharing = λ k below.
          elim (cases_eq k j) [
            | inl same ↦ subst (λ m. MayBeShare new.wires n m (share (slice_set one j q) m)) (sym same) (subst (MayBeShare new.wires n j) (sym at_j) high)
            | inr other ↦ subst (MayBeShare new.wires n k) (sym (get_or-set_other one j k q 0 other))
                (elim (cases_eq k i) [
                  | inl same ↦ subst (λ m. MayBeShare new.wires n m (share one m)) (sym same) (subst (MayBeShare new.wires n i) (sym at_i) low)
                  | inr apart ↦ subst (MayBeShare new.wires n k) (sym (get_or-set_other shares i k p 0 apart)) (e.shares n k (share shares k) (made.sharing k below))
                ])
          ];
      facts = λ cycles bits run.
          let late = added cycles bits run in
          let past = made.facts cycles bits late.0 in
          (past.0, joined cycles bits past.1 late.1);
    }

-- one row more
pub makes_row : (n : ℕ) (shares : List ℕ) (old mid new : Wiring) (sums : List ℕ) (before now after : ℕ → (ℕ → ℕ → Bool) → Type 0) → Makes old mid n sums before → Makes mid new n shares now
    → ((cycles : ℕ) (bits : ℕ → ℕ → Bool) → before cycles bits → now cycles bits → after cycles bits) → Makes old new n shares after
makes_row n shares old mid new sums before now after made more joined =
    record {
      full = more.full;
      sharing = more.sharing;
      facts = λ cycles bits run.
          let late = more.facts cycles bits run in
          let past = made.facts cycles bits late.0 in
          (past.0, joined cycles bits past.1 late.1);
    }

-- pairs of more indices
pub triangle_more : (j n : ℕ) → j < n → triangle j + j ≤ triangle n
triangle_more j zero lt = absurd (omega arith)
triangle_more j (suc n) lt =
    elim (cases_lt j n) [
      | inl less ↦ (let rest = triangle_more j n less in omega arith)
      | inr last ↦ (let same : j ≡ n = omega arith in subst (λ k. triangle j + j ≤ triangle k + k) same (omega arith))
    ]

module _ (n g r k : ℕ) (old new : Wiring) (grew : Grown n g r k old new) where
  -- what stays as the gadget grows
  pub begun_later : g < old.gadgets → g < new.gadgets
  begun_later h = let same = grew.gadgets in omega arith

  pub wire_later : (w : ℕ) → w < length old.wires → w < length new.wires
  wire_later w h = let count = grew.extends.count in omega arith

  pub sharing_later : (m : ℕ) (shares : List ℕ) → IsSharing old.wires m shares → IsSharing new.wires m shares
  sharing_later m shares h i lt = grew.extends.shares m i (share shares i) (h i lt)

twice : (n : ℕ) → triangle n * 2 ≡ n * (n - 1)
twice zero = refl
twice (suc zero) = refl
twice (suc (suc n)) =
    let before : triangle (suc n) * 2 ≡ suc n * n = (let one : suc n - 1 ≡ n = omega arith in twice (suc n) ∙ ap (λ m. suc n * m) one) in
    let here : suc (suc n) - 1 ≡ suc n = omega arith in
    let spread : (triangle (suc n) + suc n) * 2 ≡ triangle (suc n) * 2 + suc n * 2 = omega arith in
    let product : suc n * n + suc n * 2 ≡ suc (suc n) * suc n = grind arith in
    spread ∙ (ap (λ m. m + suc n * 2) before ∙ (product ∙ ap (λ m. suc (suc n) * m) (sym here)))

-- the number of pairs in closed form
pub triangle_half : (n : ℕ) → n * (n - 1) / 2 ≡ triangle n
triangle_half n =
    let none : n * (n - 1) ≡ triangle n * 2 + 0 = sym (twice n) ∙ sym (add-zero (triangle n * 2)) in
    ap (λ m. m / 2) none ∙ div-mul-add (triangle n) 2 0 (omega arith)
