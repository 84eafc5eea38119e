use Rattle.std.proofs.Common.{◌≡◌, ◌+◌}
use Rattle.task.specs.Task.{offset}
use Rattle.task.proofs.facts.fact_at.Given as goal

abbrev pub invariant-loop-variable : goal.invariant-loop-variable
invariant-loop-variable g l = l.number ≡ offset (g.S.TaskSource.task l.source).size l.variable + l.value
