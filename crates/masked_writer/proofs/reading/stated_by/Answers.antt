use Rattle.std.proofs.Common.{ℕ, List, Option, subst}
use Rattle.serde_json.specs.View.{members_view}
use Rattle.masked_writer.specs.Report.{ports_member}
use Rattle.masked_writer.specs.Stated.{Takes, Any}
use Rattle.masked_writer.proofs.Stated.{after_opening, after_asked, after_ports, after_counts, no_opening, no_asked, no_ports, no_counts, no_closing, states_all}
use Rattle.masked_writer.proofs.reading.stated_by.Goals as goal

pub returns-in-None : goal.returns-in-None
returns-in-None c = no_opening _ (members_view c.opening.new.members) c.in-None.ensures

pub returns-in-None-asked : goal.returns-in-None-asked
returns-in-None-asked c r v s =
    let a = members_view c.args.members.now in let b = members_view c.opening.new.members in
    no_asked b (members_view c.asked.new.members) c.in-None-asked.ensures a r v s (after_opening a b c.in-Some.first c.in-Some.ensures.1 r v s)

pub returns-in-None-2 : goal.returns-in-None-2
returns-in-None-2 c r v s =
    let a = members_view c.args.members.now in let b = members_view c.opening.new.members in let d = members_view c.asked.new.members in let e = members_view c.ports.new.members in
    let none = subst (λ (o : Option (List (List ℕ))). Takes Any ports_member d o e) c.in-None-2.is c.in_ok-names.ensures in
    no_ports d e none r v (after_asked b d c.in-Some-asked.second c.in-Some-asked.ensures.1 r v (after_opening a b c.in-Some.first c.in-Some.ensures.1 r v s))

pub returns-in-None-counts : goal.returns-in-None-counts
returns-in-None-counts c r v s =
    let a = members_view c.args.members.now in let b = members_view c.opening.new.members in let d = members_view c.asked.new.members in let e = members_view c.ports.new.members in let f = members_view c.counts.new.members in
    let some = subst (λ (o : Option (List (List ℕ))). Takes Any ports_member d o e) c.in-Some-2.is c.in_ok-names.ensures in
    no_counts e f c.in-None-counts.ensures a r v s
    (after_ports d e c.in-Some-2.names some.1 r v (after_asked b d c.in-Some-asked.second c.in-Some-asked.ensures.1 r v (after_opening a b c.in-Some.first c.in-Some.ensures.1 r v s)))

pub returns-in-None-closing : goal.returns-in-None-closing
returns-in-None-closing c r v s =
    let a = members_view c.args.members.now in let b = members_view c.opening.new.members in let d = members_view c.asked.new.members in let e = members_view c.ports.new.members in let f = members_view c.counts.new.members in
    let some = subst (λ (o : Option (List (List ℕ))). Takes Any ports_member d o e) c.in-Some-2.is c.in_ok-names.ensures in
    no_closing f c.in-None-closing.ensures a r v s
    (after_counts e f c.in-Some-counts.third c.in-Some-counts.ensures.1 r v
    (after_ports d e c.in-Some-2.names some.1 r v (after_asked b d c.in-Some-asked.second c.in-Some-asked.ensures.1 r v (after_opening a b c.in-Some.first c.in-Some.ensures.1 r v s))))

pub returns-in-Some-closing : goal.returns-in-Some-closing
returns-in-Some-closing c =
    let a = members_view c.args.members.now in let b = members_view c.opening.new.members in let d = members_view c.asked.new.members in let e = members_view c.ports.new.members in let f = members_view c.counts.new.members in
    let some = subst (λ (o : Option (List (List ℕ))). Takes Any ports_member d o e) c.in-Some-2.is c.in_ok-names.ensures in
    rw (c.stated_of.ensures.report, c.stated_of.ensures.version)
    (states_all a b d e f c.in-Some.first c.in-Some-asked.second c.in-Some-2.names c.in-Some-counts.third c.in-Some-closing.last c.in-Some.ensures c.in-Some-asked.ensures some c.in-Some-counts.ensures c.in-Some-closing.ensures)
