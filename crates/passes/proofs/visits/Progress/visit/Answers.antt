use Rattle.std.proofs.Common.{sym, ◌∙◌, arith}
use Rattle.passes.proofs.States.{told, stop-inside, stop-fits, value-fits, visit-over, visit-blocked, visit-valued}
use Rattle.passes.proofs.visits.Progress.visit.Goals as goal

pub overflow_add-self : goal.overflow_add-self
overflow_add-self c = omega (arith, value-fits c.requires.0 c.args.i c.requires.1 _ (sym c.in-Ok.is ∙ c.resume.ensures))

pub overflow_cast-self : goal.overflow_cast-self
overflow_cast-self c = omega (arith, value-fits c.requires.0 c.args.i c.requires.1 _ (sym c.in-Ok.is ∙ c.resume.ensures))

pub overflow_add-self-in-Err-Missing : goal.overflow_add-self-in-Err-Missing
overflow_add-self-in-Err-Missing c = omega (arith, stop-inside c.requires.0 c.args.i c.requires.1 _ _ (told _ _ _ _ c.in-Err-Missing.is c.in-Err-Missing.field-0-is c.resume.ensures))

pub overflow_cast-self-in-Err-Missing : goal.overflow_cast-self-in-Err-Missing
overflow_cast-self-in-Err-Missing c = omega (arith, stop-inside c.requires.0 c.args.i c.requires.1 _ _ (told _ _ _ _ c.in-Err-Missing.is c.in-Err-Missing.field-0-is c.resume.ensures))

pub overflow_cast-self-in-Err-Missing-2 : goal.overflow_cast-self-in-Err-Missing-2
overflow_cast-self-in-Err-Missing-2 c = omega (arith, stop-fits c.requires.0 c.args.i c.requires.1 _ _ (told _ _ _ _ c.in-Err-Missing.is c.in-Err-Missing.field-0-is c.resume.ensures))

pub returns-in-Ok-clause-visits : goal.returns-in-Ok-clause-visits
returns-in-Ok-clause-visits c = visit-valued c.requires.0 c.args.i c.requires.1 _ (sym c.in-Ok.is ∙ c.resume.ensures) c.requires.2

pub returns-in-Err-Missing-clause-visits : goal.returns-in-Err-Missing-clause-visits
returns-in-Err-Missing-clause-visits c = visit-blocked c.requires.0 c.args.i c.requires.1 _ _ (told _ _ _ _ c.in-Err-Missing.is c.in-Err-Missing.field-0-is c.resume.ensures)

pub returns-in-Err-Over-clause-visits : goal.returns-in-Err-Over-clause-visits
returns-in-Err-Over-clause-visits c = visit-over c.requires.0 c.args.i c.requires.1 (told _ _ _ _ c.in-Err-Over.is c.in-Err-Over.field-0-is c.resume.ensures)
