-- `lines::list::role_at` meets its contract. Assumes nothing.
use Rattle.std.proofs.Common.{refl, ◌∙◌, ap}
use Rattle.lines.proofs.Roles.{role-inside, role-outside}
use Rattle.lines.specs.Rows.{role_of, kind_of}
use Rattle.lines.proofs.list.role_at.Goals as goal

pub returns-in-None-clause-role : goal.returns-in-None-clause-role
returns-in-None-clause-role c = λ y q e. role-outside c.args.tokens.now c.args.i 0 q (e ∙ ap kind_of c.in-None.is) _ c.kind-kind.ensures refl (role_of c.role_outside.result) c.role_outside.ensures

pub returns-in-Some-clause-role : goal.returns-in-Some-clause-role
returns-in-Some-clause-role c = λ y q e. role-inside c.args.tokens.now c.args.i c.in-Some.open.kind q (e ∙ ap kind_of c.in-Some.is) _ c.kind-kind.ensures c.in-Some.open.quotes _ c.kind.ensures (role_of c.role_inside.result) c.role_inside.ensures
