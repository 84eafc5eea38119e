use Rattle.std.proofs.Common.{◌≡◌}
use Rattle.task.specs.Task.{offset}
use Rattle.reach.specs.Working.{started}
use Rattle.reach.proofs.start.mark_start.Given as goal

abbrev pub invariant-loop-variable : goal.invariant-loop-variable
invariant-loop-variable g l =
    let t = g.S.TaskSource.task l.source in
    let o = g.M.Measure.ops in
    (l.offset ≡ offset t.size l.variable) × (l.values ≡ started o t l.initial.values l.variable)
