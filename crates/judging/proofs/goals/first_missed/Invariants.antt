use Rattle.std.proofs.Common.{◌≡◌}
use Rattle.task.specs.Task.{offset}
use Rattle.reach.specs.Built.{ReachBuilt}
use Rattle.judging.proofs.Reached.{GoalsBelow}
use Rattle.judging.proofs.goals.first_missed.Given as goal

abbrev pub invariant-loop-variable : goal.invariant-loop-variable
invariant-loop-variable g l =
    let t = g.S.TaskSource.task l.source in
    (l.offset ≡ offset t.size l.variable) × (ReachBuilt t l.reach.table → GoalsBelow t l.variable)
