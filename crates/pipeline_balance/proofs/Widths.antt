-- A masked net with the ports of one has as many bits for an output as the original.
use Rattle.std.proofs.Common.{◌≡◌, ◌≢◌, ◌≤◌, ℕ, zero, suc, Bool, false, not, [], ◌∷◌, length, Some, IsTrue, sym, ap, ◌∙◌, subst, arith, inl, inr}
use Rattle.std.specs.Option.{is_none, option_map_or}
use Rattle.std.proofs.lemmas.Bool.{and_parts, both_ways, cases_Bool, cond-true, cond-false}
use Rattle.std.proofs.lemmas.List.{length-map}
use Rattle.agm_net.specs.Plain.{PlainNet, is_input}
use Rattle.agm_net.specs.Role.{share_name}
use Rattle.agm_net.specs.Trace.{Row}
use Rattle.agm_net.specs.WellFormed.{WellFormed, is_clock_port}
use Rattle.share_wiring.specs.Recombine.{xor_rows, recombined_rows, port_value, is_shared}
use Rattle.share_wiring.specs.Shape.{Shape, Header, header_of}
use Rattle.share_wiring.specs.declared.report.Report.{Report}
use Rattle.share_wiring.proofs.ShapePorts.{HasPort, data_port, share_port, public_port, width, port_bits, bit_count}
use Rattle.pipeline_balance.specs.Masked.{HasWidths}

xor_rows_long : (xs ys : Row) (n : ℕ) → length xs ≡ n → length ys ≡ n → length (xor_rows xs ys) ≡ n
xor_rows_long [] ys n lx ly = lx
xor_rows_long (x ∷ xs) [] n lx ly = absurd (omega arith)
xor_rows_long (x ∷ xs) (y ∷ ys) zero lx ly = absurd (omega arith)
xor_rows_long (x ∷ xs) (y ∷ ys) (suc n) lx ly = let rest = xor_rows_long xs ys n (omega arith) (omega arith) in omega arith

rows_long : (d : ℕ) (row : ℕ → Row) (n : ℕ) → ((i : ℕ) → i ≤ d → length (row i) ≡ n) → length (recombined_rows d row) ≡ n
rows_long zero row n long = long 0 (omega arith)
rows_long (suc d) row n long = xor_rows_long (recombined_rows d row) (row (suc d)) n (rows_long d row n (λ i le. long i (omega arith))) (long (suc d) (omega arith))

module _ (original : PlainNet) (report : Report) (net : PlainNet) (first : WellFormed original) (well : WellFormed net) (shape : Shape original report net) where
  header_long : (h : Header) → HasPort net h → (bit : ℕ → Bool) → length (port_value net h.name bit) ≡ width h.range
  header_long h found bit =
      let name = ap (λ (x : Header). x.name) found.is in
      let range = ap (λ (x : Header). x.range) found.is in
      ap (λ x. length (port_value net x bit)) (sym name)
      ∙ (ap (λ (row : Row). length row) (port_bits net well found.number found.port found.at bit)
      ∙ (length-map found.port.bits bit
      ∙ (bit_count net well found.number found.port found.at ∙ ap width range)))

  pub widths_right : HasWidths original report net
  widths_right n p bit at out =
      let apart : original.clock ≢ Some n = λ clock. (
      let fits : IsTrue (is_clock_port p) = subst (λ o. IsTrue (option_map_or is_clock_port o false)) at (first.ports_right.clock_fits n clock) in
      both_ways (not (is_input p)) (ap not (and_parts (is_input p) (is_none p.range) fits).0) out) in
      let one = data_port original n p at apart in
      let wide = bit_count original first n p at in
      elim (cases_Bool (is_shared report p.name)) [
        | inl shared ↦ (
            ap (λ (row : Row). length row) (cond-true (is_shared report p.name) (recombined_rows report.order (λ i. port_value net (share_name i p.name) bit)) (port_value net p.name bit) shared)
            ∙ (rows_long report.order (λ i. port_value net (share_name i p.name) bit) (width p.range)
            (λ i le. header_long (record { name = share_name i p.name; way = p.way; range = p.range }) (share_port original report net shape p i one shared le) bit)
            ∙ sym wide))
        | inr public ↦ (
            ap (λ (row : Row). length row) (cond-false (is_shared report p.name) (recombined_rows report.order (λ i. port_value net (share_name i p.name) bit)) (port_value net p.name bit) public)
            ∙ (header_long (header_of p) (public_port original report net shape p one public) bit ∙ sym wide))
      ]
