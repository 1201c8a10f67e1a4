use Rattle.std.proofs.Common.{◌≡◌, List, ℕ, Some, IsTrue, string_bytes, ap, sym, subst₂, ◌∙◌}
use Rattle.agm_shelf.specs.Shelf.{IsFrontOrOld}
use Rattle.agema_core.specs.Answer.{report_name}
use Rattle.agema_core.proofs.Left.{another_name, net_part, on_err_map}
use Rattle.agema_core.proofs.mask.write_files.Goals as goal

pub returns-clause-part : goal.returns-clause-part
returns-clause-part g c =
    on_err_map c.write_file-2.result c.write_file-2.ensures.front
    (λ front told.
    (let out = c.args.out.now in
    let old = g.H.Shelf.holds c.args.shelf.now in
    let mid = g.H.Shelf.holds c.write_file.new.shelf in
    let new = g.H.Shelf.holds c.write_file-2.new.shelf in
    let name : c.as_str.result.now ≡ report_name out = c.as_str.ensures.value ∙ c.in-Ok.ensures in
    let held : mid out ≡ Some c.args.texts.now.net = c.in_ok-write_file.ensures.ok told ∙ ap (λ t. Some t) c.as_slice.ensures in
    let telling : IsTrue (g.H.Shelf.tells c.write_file.new.shelf) = c.write_file.ensures.goes_on.same_telling ∙ told in
    let kept : new out ≡ mid out = c.write_file-2.ensures.others out (λ e. another_name out (sym (e ∙ name))) in
    let before : mid (report_name out) ≡ old (report_name out) = c.write_file.ensures.others (report_name out) (λ e. another_name out e) in
    let F : List ℕ → List ℕ → Type 0 = λ n t. IsFrontOrOld t (mid n) (new n) in
    net_part out c.args.texts.now.net (string_bytes c.args.texts.now.report) old mid new held kept before (subst₂ F name c.as_bytes.ensures.value (front telling))))
