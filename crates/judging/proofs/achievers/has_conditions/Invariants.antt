use Rattle.std.proofs.Common.{◌≡◌}
use Rattle.task.specs.Task.{offset}
use Rattle.judging.proofs.Lacks.{InBelow}
use Rattle.judging.proofs.achievers.has_conditions.Given as goal

abbrev pub invariant-loop-variable : goal.invariant-loop-variable
invariant-loop-variable g l =
    let t = g.S.TaskSource.task l.source in
    (l.offset ≡ offset t.size l.variable) × InBelow t l.reach l.action l.variable
