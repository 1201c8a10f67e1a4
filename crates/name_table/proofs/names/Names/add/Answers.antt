use Rattle.std.proofs.Common.{◌∙◌, sym, refl}
use Rattle.name_table.proofs.Keys.{place_of_key, any_key, any_of_Some}
use Rattle.std.specs.Str.{bytes_eq}
use Rattle.name_table.proofs.names.Names.add.Goals as goal

pub returns-clause-number : goal.returns-clause-number
returns-clause-number c = rw (← c.self.view_is, ← c.in_ok-key.ensures.items) (c.in_ok-number.ensures.index ∙ place_of_key c.in_ok-key.key.items c.self.inside.table.keys)

pub returns-clause-fresh : goal.returns-clause-fresh
returns-clause-fresh c = rw (← c.self.view_is, ← c.in_ok-key.ensures.items, ← any_key c.in_ok-key.key.items c.self.inside.table.keys) c.in_ok-number.ensures.added

pub returns-in-Some-clause-fresh : goal.returns-in-Some-clause-fresh
returns-in-Some-clause-fresh c = rw (any_of_Some (λ n. bytes_eq n c.args.name.now) c.args.self.now c.in-Some.number (sym c.find.ensures ∙ c.in-Some.is)) refl
