-- A value is written for one list of probes at most, so bytes have one answer.
use Rattle.std.proofs.Common.{◌≡◌, ℕ, List, [], ◌∷◌, Option, Some, None, Ok, Err, inl, inr, map, refl, subst, sym, ap₂, ◌∙◌}
use Rattle.serde_json.specs.Data.{Data}
use Rattle.serde_json.specs.View.{items_of}
use Rattle.json_values.specs.Finds.{whole_number}
use Rattle.probe_cones.specs.declared.probe.Probes.{Probes}
use Rattle.probe_lists.specs.Answer.{Answers, judged, probes_of}
use Rattle.probe_lists.specs.Asked.{first_fault}
use Rattle.probe_lists.specs.Written.{list_data, probe_data}
use Rattle.probe_lists.specs.declared.fault.ProbeCause.{ProbeCause}
use Rattle.probe_lists.specs.declared.fault.ProbeFault.{ProbeFault}
use Rattle.probe_lists.specs.declared.fault.ProbeFault.TheVariants.{Bad}
use Rattle.probe_lists.specs.declared.texts.ListText.{ListText}
use Rattle.probe_lists.specs.declared.texts.ProbeText.{ProbeText}

same_number : (m n : ℕ) → whole_number m ≡ whole_number n → m ≡ n
same_number m n same = cc

same_probe : (a b : ProbeText) → probe_data a ≡ probe_data b → a ≡ b
same_probe a b same =
    let cycle : a.cycle ≡ b.cycle = cc in
    let wire : a.wire ≡ b.wire = cc in
    ap₂ (λ (w : List ℕ) (c : ℕ). record { wire = w; cycle = c }) wire cycle

same_items : {X : Type 0} (written : X → Data) → ((x y : X) → written x ≡ written y → x ≡ y) → (a b : List X) → items_of (map written a) ≡ items_of (map written b) → a ≡ b
same_items written one [] [] same = refl
same_items written one [] (y ∷ ys) same = absurd (cc)
same_items written one (x ∷ xs) [] same = absurd (cc)
same_items {X} written one (x ∷ xs) (y ∷ ys) same =
    let here : written x ≡ written y = cc in
    let rest : items_of (map written xs) ≡ items_of (map written ys) = cc in
    ap₂ (λ (z : X) (zs : List X). z ∷ zs) (one x y here) (same_items written one xs ys rest)

same_list : (a b : ListText) → list_data a ≡ list_data b → a ≡ b
same_list a b same =
    let indices : items_of (map whole_number a.indices) ≡ items_of (map whole_number b.indices) = cc in
    let probes : items_of (map probe_data a.probes) ≡ items_of (map probe_data b.probes) = cc in
    ap₂ (λ (ps : List ProbeText) (is : List ℕ). record { probes = ps; indices = is })
    (same_items probe_data same_probe a.probes b.probes probes)
    (same_items whole_number same_number a.indices b.indices indices)

abbrev Told : List (List ℕ) → ℕ → ListText → Probes → Type 0
Told wires order t asked = Ok asked ≡ judged (first_fault wires order t) (probes_of wires t)

one_told : (wires : List (List ℕ)) (order : ℕ) (t : ListText) (a b : Probes) → Told wires order t a → Told wires order t b → a ≡ b
one_told wires order t a b first second = let same = first ∙ sym second in cc

pub one_read : (wires : List (List ℕ)) (order : ℕ) (value : Option Data) (a b : Probes) → Answers wires order value (Ok a) → Answers wires order value (Ok b) → a ≡ b
one_read wires order None a b (inl h) second = absurd (cc)
one_read wires order None a b (inr h) second = absurd (cc)
one_read wires order (Some d) a b (inl (inl h)) second = absurd (cc)
one_read wires order (Some d) a b (inl (inr h)) second = absurd (let e = h.0 in cc)
one_read wires order (Some d) a b (inr h) (inl (inl g)) = absurd (cc)
one_read wires order (Some d) a b (inr h) (inl (inr g)) = absurd (let e = g.0 in cc)
one_read wires order (Some d) a b (inr h) (inr g) =
    let same : g.0 ≡ h.0 = same_list g.0 h.0 (sym g.1 ∙ h.1) in
    one_told wires order h.0 a b h.2 (subst (λ t. Told wires order t b) same g.2)

abbrev Refused : List (List ℕ) → ℕ → ListText → ProbeFault → Type 0
Refused wires order t fault = Err fault ≡ judged (first_fault wires order t) (probes_of wires t)

never_both : (wires : List (List ℕ)) (order : ℕ) (t : ListText) (a : Probes) (fault : ProbeFault) → Told wires order t a → Refused wires order t fault → Prim.⊥
never_both wires order t a fault told refused = let same = told ∙ sym refused in cc

pub read_not_bad : (wires : List (List ℕ)) (order : ℕ) (value : Option Data) (a : Probes) (cause : ProbeCause) (index : ℕ)
    → Answers wires order value (Ok a) → Answers wires order value (Err (Bad cause index)) → Prim.⊥
read_not_bad wires order None a cause index (inl h) bad = cc
read_not_bad wires order None a cause index (inr h) bad = cc
read_not_bad wires order (Some d) a cause index (inl (inl h)) bad = cc
read_not_bad wires order (Some d) a cause index (inl (inr h)) bad = let e = h.0 in cc
read_not_bad wires order (Some d) a cause index (inr h) (inl (inl g)) = cc
read_not_bad wires order (Some d) a cause index (inr h) (inl (inr g)) = g.1 h.0 h.1
read_not_bad wires order (Some d) a cause index (inr h) (inr g) =
    let same : g.0 ≡ h.0 = same_list g.0 h.0 (sym g.1 ∙ h.1) in
    never_both wires order h.0 a (Bad cause index) h.2 (subst (λ t. Refused wires order t (Bad cause index)) same g.2)
