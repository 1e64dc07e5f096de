-- `lexer::Gathered::with` meets its contract. Assumes nothing.
use Rattle.std.proofs.Common.{eq-eqb, ne_eqb}
use Rattle.rules.specs.Bytes.{pick}
use Rattle.lexer.proofs.Gathered.with.Goals as goal

pub returns-then-self : goal.returns-then-self
unfolding pick
returns-then-self c = rw (eq-eqb c.args.self.start c.args.self.end c.if-self.true)

pub returns : goal.returns
unfolding pick
returns c = rw (ne_eqb c.args.self.start c.args.self.end c.if-self.false)
