use Rattle.std.proofs.Common.{◌*◌, ◌-◌, ◌/◌, ◌∙◌, cond, sym, ap, lit<}
use Rattle.pipeline_balance.proofs.Sizes.{value_fits}
use Rattle.pipeline_balance.proofs.Noding as noding
use Rattle.pipeline_balance.proofs.Adding as adding
use Rattle.pipeline_balance.proofs.nodes.product_node.Goals as goal

pub gadget_node-requires : goal.gadget_node-requires
gadget_node-requires g c =
    let n = g.row.S in
    let both = sym c.are_secret-both.ensures ∙ c.if-both.true in
    let can = noding.reads_first n c.args.table.now c.args.level c.args.a c.args.b c.args.late_first both c.if-late_first.true c.requires.can in (
      lit< tt,
      (
        value_fits n c.requires.size.1,
        (
          c.requires.size,
          (
            c.requires.values,
            (
              can.0,
              (
                can.1,
                (
                  can.2,
                  (
                    adding.one_fits _ c.args.builder.now.given (n * (n - 1) / 2) _ both c.requires.random,
                    adding.one_more _ c.args.builder.now.gadgets _ both c.requires.gadgets,
                  ),
                ),
              ),
            ),
          ),
        ),
      ),
    )

pub gadget_node-requires-else-late_first : goal.gadget_node-requires-else-late_first
gadget_node-requires-else-late_first g c =
    let n = g.row.S in
    let both = sym c.are_secret-both.ensures ∙ c.if-both.true in
    let can = noding.reads_second n c.args.table.now c.args.level c.args.a c.args.b c.args.late_first both c.if-late_first.false c.requires.can in (
      lit< tt,
      (
        value_fits n c.requires.size.1,
        (
          c.requires.size,
          (
            c.requires.values,
            (
              can.0,
              (
                can.1,
                (
                  can.2,
                  (
                    adding.one_fits _ c.args.builder.now.given (n * (n - 1) / 2) _ both c.requires.random,
                    adding.one_more _ c.args.builder.now.gadgets _ both c.requires.gadgets,
                  ),
                ),
              ),
            ),
          ),
        ),
      ),
    )

pub public_node-requires : goal.public_node-requires
public_node-requires g c =
    let n = g.row.S in
    let one = sym c.are_secret-both.ensures ∙ c.if-both.false in
    let can = noding.can_public n c.args.table.now c.args.level c.args.a c.args.b c.args.late_first one c.requires.can in
    (lit< tt, (value_fits n c.requires.size.1, (c.requires.size, (c.requires.values, (can.0, (can.1, one))))))

pub returns-in_ok-answer-clause-made : goal.returns-in_ok-answer-clause-made
returns-in_ok-answer-clause-made g c =
    let n = g.row.S in
    let both = sym c.are_secret-both.ensures ∙ c.if-both.true in
    let can = noding.reads_first n c.args.table.now c.args.level c.args.a c.args.b c.args.late_first both c.if-late_first.true c.requires.can in
    adding.makes_as _ _ _ 1 _ (n * (n - 1) / 2) _ _ _ _ (sym (ap (λ b. cond b 1 0) both)) (adding.one_times _ (n * (n - 1) / 2) both)
    (λ cycles bits f inputs registers. noding.first_late n inputs registers c.args.table.now c.args.level c.in_ok-answer.answer cycles bits c.args.a c.args.b can.0 can.1 can.2 f)
    c.in_ok-answer.ensures.made

pub returns-in_ok-answer-2-clause-made : goal.returns-in_ok-answer-2-clause-made
returns-in_ok-answer-2-clause-made g c =
    let n = g.row.S in
    let both = sym c.are_secret-both.ensures ∙ c.if-both.true in
    let can = noding.reads_second n c.args.table.now c.args.level c.args.a c.args.b c.args.late_first both c.if-late_first.false c.requires.can in
    adding.makes_as _ _ _ 1 _ (n * (n - 1) / 2) _ _ _ _ (sym (ap (λ b. cond b 1 0) both)) (adding.one_times _ (n * (n - 1) / 2) both)
    (λ cycles bits f inputs registers. noding.second_late n inputs registers c.args.table.now c.args.level c.in_ok-answer-2.answer cycles bits c.args.a c.args.b can.0 can.1 can.2 f)
    c.in_ok-answer-2.ensures.made

pub returns-in_ok-made-clause-made : goal.returns-in_ok-made-clause-made
returns-in_ok-made-clause-made g c =
    let n = g.row.S in
    let one = sym c.are_secret-both.ensures ∙ c.if-both.false in
    let can = noding.can_public n c.args.table.now c.args.level c.args.a c.args.b c.args.late_first one c.requires.can in
    adding.makes_as _ _ _ 0 _ 0 _ _ _ _ (sym (ap (λ b. cond b 1 0) one)) (adding.none_times _ (n * (n - 1) / 2) one)
    (λ cycles bits f inputs registers. noding.public_made n inputs registers c.args.table.now c.args.level c.in_ok-made.made cycles bits c.args.a c.args.b can.0 can.1 f)
    c.in_ok-made.ensures.made
