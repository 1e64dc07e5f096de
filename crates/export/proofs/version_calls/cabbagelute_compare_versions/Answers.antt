-- `export::version_calls::cabbagelute_compare_versions` meets its contract: a number an order. Assumes nothing.
use Rattle.std.proofs.Common.{ap}
use Rattle.rules.specs.Versions.{compare_versions, order_number}
use Rattle.rules.specs.Versions as Rules
use Rattle.versions.specs.Total.{told-one}
use Rattle.export.proofs.version_calls.cabbagelute_compare_versions.Goals as goal

pub returns-in-Equal : goal.returns-in-Equal
unfolding order_number
returns-in-Equal c = ap order_number (told-one Rules.Order.equal (compare_versions c.args.a.now c.args.b.now) c.in-Equal.ensures)

pub returns-in-Less : goal.returns-in-Less
unfolding order_number
returns-in-Less c = ap order_number (told-one Rules.Order.lower (compare_versions c.args.a.now c.args.b.now) c.in-Less.ensures)

pub returns-in-Greater : goal.returns-in-Greater
unfolding order_number
returns-in-Greater c = ap order_number (told-one Rules.Order.higher (compare_versions c.args.a.now c.args.b.now) c.in-Greater.ensures)
