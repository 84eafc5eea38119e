use Rattle.std.proofs.Common.{◌≡◌}
use Rattle.task.specs.Task.{offset}
use Rattle.task.proofs.task_source.TaskSource.offset.Given as goal

abbrev pub invariant-loop-earlier : goal.invariant-loop-earlier
invariant-loop-earlier g l = l.offset ≡ offset (g.Self.TaskSource.task l.self).size l.earlier
