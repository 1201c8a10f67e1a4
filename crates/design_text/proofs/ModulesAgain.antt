-- Modules and designs.
use Rattle.std.proofs.Common.{◌≡◌, ◌++◌, not, true, List, [], ◌∷◌, codes, refl, sym, ap, subst, inl, inr, append_assoc, append-nil}
use Rattle.std.specs.List.{flat_map}
use Rattle.verilog_tokens.specs.Token.{Key}
use Rattle.verilog_reader.specs.Plain.{PlainModule, PlainDesign}
use Rattle.verilog_reader.specs.Grammar.{Row, IsItem, IsModule, Spelled}
use Rattle.design_text.specs.Parts.{Part, word, symbol, blank}
use Rattle.design_text.specs.Written.{name_parts, names_parts, attributes_parts, item_parts, last_parts, module_parts, design_text}
use Rattle.design_text.specs.Writable.{IsWritableItem, IsWritableModule, IsWritableDesign}
use Rattle.design_text.proofs.LaidOut.{tokens_of, IsLaid, laid_cuts}
use Rattle.design_text.proofs.Lists.{Reads, WritesAlone, name_again, maybe_names_again, row_again}
use Rattle.design_text.proofs.FormsAgain.{names_no_star}
use Rattle.design_text.proofs.ItemsAgain.{attributes_again, item_again}

spliced : (a n p i l ps : List Part) →
    ((a ++ word (Key (codes "module")) ∷ blank ∷ (n ++ symbol 40 ∷ (p ++ symbol 41 ∷ symbol 59 ∷ []))) ++ (i ++ l)) ++ ps
    ≡ a ++ word (Key (codes "module")) ∷ blank ∷ (n ++ symbol 40 ∷ (p ++ symbol 41 ∷ symbol 59 ∷ (i ++ (l ++ ps))))
spliced a n p i l ps = simp append_assoc

-- what stands behind the list of ports, behind the name, and behind `module`
abbrev body : PlainModule → List Part → List Part
body m ps = flat_map item_parts m.items ++ (last_parts ++ ps)

abbrev listed : PlainModule → List Part → List Part
listed m ps = names_parts m.ports ++ symbol 41 ∷ symbol 59 ∷ body m ps

abbrev headed : PlainModule → List Part → List Part
headed m ps = word (Key (codes "module")) ∷ blank ∷ (name_parts m.name ++ symbol 40 ∷ listed m ps)

module_again : (m : PlainModule) → IsWritableModule m → WritesAlone IsModule m (module_parts m)
module_again m w ps h =
    let Q : List Part → Type 0 = λ qs. Reads IsModule m qs ps in
    let last : IsLaid (last_parts ++ ps) = ((refl, tt), (refl, refl, ((refl, tt), h))) in
    let items = row_again IsItem IsWritableItem item_parts item_again m.items w.items (last_parts ++ ps) last in
    let ports = maybe_names_again m.ports w.ports (symbol 41 ∷ symbol 59 ∷ body m ps) ((refl, refl, (refl, refl, items.0)), refl) in
    let name = name_again m.name w.name (symbol 40 ∷ listed m ps) ((refl, ap not (names_no_star m.ports (symbol 59 ∷ body m ps)), ports.0), refl) in
    let front = attributes_again m.attributes w.attributes (headed m ps) (refl, refl, ((refl, tt), name.0)) in
    subst Q (sym (spliced (attributes_parts m.attributes) (name_parts m.name) (names_parts m.ports) (flat_map item_parts m.items) last_parts ps)) (
      front.0,
      record {
        head = tokens_of (headed m ps);
        listed = tokens_of (symbol 40 ∷ listed m ps);
        body = tokens_of (body m ps);
        declared = [];
        items = m.items;
        has_attributes = front.1;
        has_name = ap (λ ts. Key (codes "module") ∷ ts) name.1;
        has_ports = inr (tokens_of (listed m ps), refl, inl (ports.1, refl));
        has_items = items.1;
        all_items = refl;
      },
    )

pub design_spelled : (d : PlainDesign) → IsWritableDesign d → Spelled (design_text d) d
design_spelled d w =
    let P : List Part → Type 0 = λ qs. Reads (Row IsModule) d qs [] in
    let r = row_again IsModule IsWritableModule module_parts module_again d w.1 [] tt in
    let whole = subst P (append-nil (flat_map module_parts d)) r in
    (tokens_of (flat_map module_parts d), laid_cuts (flat_map module_parts d) whole.0 true, (w.0, whole.1))
