use Rattle.std.proofs.Common.{◌≡◌}
use Rattle.task.specs.Task.{offset}
use Rattle.judging.specs.Position.{state_of}
use Rattle.judging.proofs.Places.{MetBelow}
use Rattle.judging.proofs.position.Position.first_unmet.Given as goal

abbrev pub invariant-loop-variable : goal.invariant-loop-variable
invariant-loop-variable g l =
    let t = g.S.TaskSource.task l.source in
    (l.offset ≡ offset t.size l.variable) × MetBelow t (state_of l.self) l.action l.variable
