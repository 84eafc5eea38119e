use Rattle.std.proofs.Common.{◌≡◌}
use Rattle.task.specs.Task.{offset}
use Rattle.judging.proofs.Levels.{LevelBelow}
use Rattle.judging.proofs.measures.goal_level.Given as goal

abbrev pub invariant-loop-variable : goal.invariant-loop-variable
invariant-loop-variable g l =
    let t = g.S.TaskSource.task l.source in
    (l.offset ≡ offset t.size l.variable) × LevelBelow t l.variable l.highest
