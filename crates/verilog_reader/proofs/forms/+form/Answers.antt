use Rattle.std.proofs.Common.{◌≡◌, ◌-◌, ◌+◌, ◌++◌, ◌∷◌, [], false, length, map, refl, sym, ap, ◌∙◌, arith}
use Rattle.std.proofs.lemmas.Result.{err_from_is_err_and}
use Rattle.std.proofs.lemmas.List.{map_push}
use Rattle.verilog_tokens.specs.Row.{tokens_of}
use Rattle.verilog_tokens.proofs.TokenRow.{tokens_within}
use Rattle.verilog_reader.specs.Grammar.{Next}
use Rattle.verilog_reader.specs.Reading.{single, begins, next_at, listed_at, form_at}
use Rattle.verilog_reader.specs.View.{form_view}
use Rattle.verilog_reader.proofs.Ahead.{shrinks, solid_next, solid_good}
use Rattle.verilog_reader.proofs.FoundLists.{right_next, listed_first}
use Rattle.verilog_reader.proofs.FoundForms.{IsGood, right_form}
use Rattle.verilog_reader.proofs.Many.{begun, go_on, stops_here, at_end, fails_here}
use Rattle.verilog_reader.proofs.forms.+form.Goals as goal

pub forms-loop-init : goal.forms-loop-init
forms-loop-init t c =
    let p = form_at c.args.values c.args.depth in
    let new : c.push.new.self ≡ c.in_ok-first.first ∷ [] = c.in_ok-push.ensures.ok ∙ ap (λ w. w ++ c.in_ok-first.first ∷ []) c.new-forms.ensures in
    begun single (begins 44) (next_at p)
    (shrinks (Next (IsGood c.args.values c.args.depth)) (next_at p) (solid_next (IsGood c.args.values c.args.depth) (solid_good c.args.values c.args.depth)) (right_next (IsGood c.args.values c.args.depth) p (right_form c.args.values c.args.depth)))
    refl (form_view c.in_ok-first.first ∷ []) (map form_view c.push.new.self) (length c.in_ok-first.behind.now - 0) (tokens_of c.in_ok-first.behind.now) (ap (map form_view) new) (omega (arith, tokens_within false c.in_ok-first.behind.now))
    ∙ listed_first p (tokens_of c.args.bytes.now) (tokens_of c.in_ok-first.behind.now) (form_view c.in_ok-first.first) c.in_ok-first.ensures

pub forms-returns-then-not-begins : goal.forms-returns-then-not-begins
forms-returns-then-not-begins t c = stops_here single (begins 44) (next_at (form_at c.args.values c.args.depth)) (length c.in_ok-first.behind.now - c.loop.counter) (map form_view c.loop.forms) (tokens_of c.loop.rest.now) (listed_at (form_at c.args.values c.args.depth) (tokens_of c.args.bytes.now)) c.loop.invariant (sym c.begins.ensures ∙ c.if-not-begins.true)

pub forms-returns-in_err-next : goal.forms-returns-in_err-next
forms-returns-in_err-next t c =
    let p = err_from_is_err_and c.from_residual-in_err-next.result c.from_residual-in_err-next.ensures.1 in
    rw (p.1, p.2) (fails_here single (begins 44) (next_at (form_at c.args.values c.args.depth)) (length c.in_ok-first.behind.now - c.loop.counter) (map form_view c.loop.forms) (tokens_of c.loop.rest.now) (listed_at (form_at c.args.values c.args.depth) (tokens_of c.args.bytes.now)) c.in_err-next.field-0.0 c.loop.invariant (omega arith) (sym c.begins.ensures ∙ c.if-not-begins.false) c.in_err-next.ensures)

pub forms-loop-preserved : goal.forms-loop-preserved
forms-loop-preserved t c =
    let new : map form_view c.push-in-loop.new.self ≡ map form_view c.loop.forms ++ form_view c.in_ok-next.next ∷ [] = ap (map form_view) c.in_ok-push-2.ensures.ok ∙ map_push form_view c.loop.forms c.in_ok-next.next in
    go_on single (begins 44) (next_at (form_at c.args.values c.args.depth)) (length c.in_ok-first.behind.now - c.loop.counter) (length c.in_ok-first.behind.now - (c.loop.counter + 1)) (map form_view c.loop.forms) (map form_view c.push-in-loop.new.self) (tokens_of c.loop.rest.now) (tokens_of c.in_ok-next.after.now) (form_view c.in_ok-next.next) (listed_at (form_at c.args.values c.args.depth) (tokens_of c.args.bytes.now)) c.loop.invariant (omega arith) (sym c.begins.ensures ∙ c.if-not-begins.false) c.in_ok-next.ensures new (omega arith)

pub forms-returns : goal.forms-returns
forms-returns t c = at_end single (begins 44) (next_at (form_at c.args.values c.args.depth)) (length c.in_ok-first.behind.now - c.loop.counter) (map form_view c.loop.forms) (tokens_of c.loop.rest.now) (listed_at (form_at c.args.values c.args.depth) (tokens_of c.args.bytes.now)) c.loop.invariant (omega arith)
