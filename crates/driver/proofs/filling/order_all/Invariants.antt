use Rattle.driver.specs.Filling.{Grown}
use Rattle.driver.proofs.Growing.{AllTo}
use Rattle.driver.proofs.filling.order_all.Given as goal

abbrev pub invariant-loop-earlier : goal.invariant-loop-earlier
invariant-loop-earlier l = Grown (AllTo l.earlier) l.initial.key l.key
