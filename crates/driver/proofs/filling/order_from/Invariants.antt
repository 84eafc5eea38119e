use Rattle.driver.specs.Filling.{Grown}
use Rattle.driver.proofs.Growing.{FromTo}
use Rattle.driver.proofs.filling.order_from.Given as goal

abbrev pub invariant-loop-later : goal.invariant-loop-later
invariant-loop-later l = Grown (FromTo l.earlier l.later) l.initial.key l.key
