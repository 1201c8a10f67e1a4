-- A report can be read off its object.
use Rattle.std.proofs.Common.{◌≡◌, ℕ, List, [], ◌∷◌, map, Some, refl, sym, ap, ap₂, ◌∙◌}
use Rattle.serde_json.specs.Data.{Data, Members, no_members, string}
use Rattle.serde_json.specs.View.{items_of}
use Rattle.masked_writer.specs.Report.{versioned_data, opening_members, asked_members, ports_member, count_members, closing_members, mode_text, balance_text, mode_of, balance_of}
use Rattle.masked_writer.specs.Stated.{States}
use Rattle.masked_writer.proofs.Stated.{behind_opening, behind_asked, behind_ports, behind_counts}
use Rattle.masked_writer.proofs.Words.{mode_read, balance_read}
use Rattle.share_wiring.specs.declared.report.Balance.{Balance}
use Rattle.share_wiring.specs.declared.report.Mode.{Mode}
use Rattle.share_wiring.specs.declared.report.Report.{Report}

some_same : {A : Type 0} (x y : A) → Some x ≡ Some y → x ≡ y
some_same x y h = cc

same_mode : (m n : Mode) → mode_text m ≡ mode_text n → m ≡ n
same_mode m n same = some_same m n (sym (mode_read m) ∙ ap mode_of same ∙ mode_read n)

same_balance : (a b : Balance) → balance_text a ≡ balance_text b → a ≡ b
same_balance a b same = some_same a b (sym (balance_read a) ∙ ap balance_of same ∙ balance_read b)

same_names : (a b : List (List ℕ)) → items_of (map string a) ≡ items_of (map string b) → a ≡ b
same_names [] [] same = refl
same_names [] (n ∷ ns) same = absurd (cc)
same_names (m ∷ ms) [] same = absurd (cc)
same_names (m ∷ ms) (n ∷ ns) same =
    let here : m ≡ n = cc in
    let rest : items_of (map string ms) ≡ items_of (map string ns) = cc in
    ap₂ (λ (x : List ℕ) (xs : List (List ℕ)). x ∷ xs) here (same_names ms ns rest)

-- the parts of equal members are equal
same_opening : (a b : Balance) (g h l m : ℕ) (rest more : Members) → opening_members a g l rest ≡ opening_members b h m more → (a ≡ b) × (g ≡ h) × (l ≡ m) × (rest ≡ more)
same_opening a b g h l m rest more same = let text : balance_text a ≡ balance_text b = cc in (same_balance a b text, cc, cc, cc)

same_asked : (a b : Mode) (g h l m : ℕ) (rest more : Members) → asked_members a g l rest ≡ asked_members b h m more → (a ≡ b) × (g ≡ h) × (l ≡ m) × (rest ≡ more)
same_asked a b g h l m rest more same = let text : mode_text a ≡ mode_text b = cc in (same_mode a b text, cc, cc, cc)

same_ports : (a b : List (List ℕ)) (rest more : Members) → ports_member a rest ≡ ports_member b more → (a ≡ b) × (rest ≡ more)
same_ports a b rest more same = let names : items_of (map string a) ≡ items_of (map string b) = cc in (same_names a b names, cc)

same_counts : (a b g h l m : ℕ) (rest more : Members) → count_members a g l rest ≡ count_members b h m more → (a ≡ b) × (g ≡ h) × (l ≡ m) × (rest ≡ more)
same_counts a b g h l m rest more same = (cc, cc, cc, cc)

same_closing : (a b v w : ℕ) → closing_members a v no_members ≡ closing_members b w no_members → (a ≡ b) × (v ≡ w)
same_closing a b v w same = (cc, cc)

pub same_report : (d : Data) (r s : Report) (v w : ℕ) → States d r v → States d s w → (r ≡ s) × (v ≡ w)
unfolding versioned_data
same_report d r s v w one two =
    let members : opening_members r.balance r.gadgets r.latency (behind_opening r v) ≡ opening_members s.balance s.gadgets s.latency (behind_opening s w) = (let same = sym one.object_is ∙ two.object_is in cc) in
    let a = same_opening r.balance s.balance r.gadgets s.gadgets r.latency s.latency (behind_opening r v) (behind_opening s w) members in
    let b = same_asked r.mode s.mode r.order s.order r.period s.period (behind_asked r v) (behind_asked s w) a.3 in
    let c = same_ports r.ports s.ports (behind_ports r v) (behind_ports s w) b.3 in
    let e = same_counts r.public_registers s.public_registers r.random s.random r.secret_registers s.secret_registers (behind_counts r v) (behind_counts s w) c.1 in
    let f = same_closing r.streams s.streams v w e.3 in
    (rw (sym a.0, sym a.1, sym a.2, sym b.0, sym b.1, sym b.2, sym c.0, sym e.0, sym e.1, sym e.2, sym f.0) refl, f.1)
