use Rattle.std.proofs.Common.{◌≡◌}
use Rattle.task.specs.Task.{offset}
use Rattle.judging.specs.Position.{Marked, state_of}
use Rattle.judging.proofs.position.Position.mark_facts.Given as goal

abbrev pub invariant-loop-variable : goal.invariant-loop-variable
invariant-loop-variable g l =
    let t = g.S.TaskSource.task l.source in
    (l.offset ≡ offset t.size l.variable) × Marked t l.initial.marks (state_of l.self) l.variable l.marks
