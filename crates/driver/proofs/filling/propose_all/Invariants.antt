use Rattle.driver.specs.Filling.{Grown}
use Rattle.driver.proofs.Growing.{LandmarksTo}
use Rattle.driver.proofs.filling.propose_all.Given as goal

abbrev pub invariant-loop-number : goal.invariant-loop-number
invariant-loop-number l = Grown (LandmarksTo l.number) l.initial.key l.key
