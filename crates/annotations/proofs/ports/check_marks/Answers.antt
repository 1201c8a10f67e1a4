use Rattle.std.proofs.Common.{ℕ, false, ◌&&◌, Option, sym, ap, ◌∙◌, inr}
use Rattle.std.specs.Option.{option_map_or}
use Rattle.std.specs.Prelude.{nat_lt}
use Rattle.annotations.proofs.Marked.{twice_first, second_first, none_of_port}
use Rattle.annotations.proofs.ports.check_marks.Goals as goal

pub returns-then-is_marked_twice : goal.returns-then-is_marked_twice
returns-then-is_marked_twice c top net same are =
    inr (twice_first top net c.args.number c.args.port.now c.args.marks are (sym c.is_wrong_value.ensures ∙ c.if-is_wrong_value.false) (sym c.is_marked_twice.ensures ∙ c.if-is_marked_twice.true))

pub returns-then-is_second_clock : goal.returns-then-is_second_clock
returns-then-is_second_clock c top net same are =
    inr (second_first top net c.args.number c.args.port.now c.args.marks are (sym c.is_wrong_value.ensures ∙ c.if-is_wrong_value.false) (sym c.is_marked_twice.ensures ∙ c.if-is_marked_twice.false)
    (ap (λ (o : Option ℕ). c.args.marks.clock && option_map_or (λ b. nat_lt b c.args.number) o false) same ∙ (sym c.is_second_clock.ensures ∙ c.if-is_second_clock.true)))

pub returns : goal.returns
returns c top net same are = (
  none_of_port top net c.args.number c.args.port.now c.args.marks are (sym c.is_wrong_value.ensures ∙ c.if-is_wrong_value.false) (sym c.is_marked_twice.ensures ∙ c.if-is_marked_twice.false)
      (ap (λ (o : Option ℕ). c.args.marks.clock && option_map_or (λ b. nat_lt b c.args.number) o false) same ∙ (sym c.is_second_clock.ensures ∙ c.if-is_second_clock.false)),
  tt,
)
