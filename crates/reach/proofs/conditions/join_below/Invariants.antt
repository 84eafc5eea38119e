use Rattle.std.proofs.Common.{◌≡◌}
use Rattle.task.specs.Task.{offset}
use Rattle.reach.specs.Layering.{conditions, value_of}
use Rattle.reach.proofs.conditions.join_below.Given as goal

abbrev pub invariant-loop-variable : goal.invariant-loop-variable
invariant-loop-variable g l =
    let t = g.S.TaskSource.task l.source in
    let o = g.M.Measure.ops in
    (l.offset ≡ offset t.size l.variable) × (l.joined ≡ conditions o t (value_of o t l.values) l.action l.variable)
