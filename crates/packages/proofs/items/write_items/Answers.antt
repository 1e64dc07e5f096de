use Rattle.std.proofs.Common.{rules, arith}
use Rattle.packages.proofs.Fitted.{fitting_told, fitting_room}
use Rattle.packages.proofs.items.write_items.Goals as goal

pub push_records-formed-requires : goal.push_records-formed-requires
push_records-formed-requires c = omega (arith, fitting_room c.args.field c.args.value.now c.args.output.now c.args.at c.requires)

pub returns-clause-stored : goal.returns-clause-stored
returns-clause-stored c = rw (fitting_told c.args.field c.args.value.now c.args.output.now c.args.at c.requires) (let h = c.push_records-formed.ensures.taken in search rules)

pub returns-clause-next : goal.returns-clause-next
returns-clause-next c = rw (fitting_told c.args.field c.args.value.now c.args.output.now c.args.at c.requires) c.push_records-formed.ensures.taken.at
