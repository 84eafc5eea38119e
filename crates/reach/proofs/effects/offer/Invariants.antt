use Rattle.std.proofs.Common.{◌≡◌}
use Rattle.task.specs.Task.{offset}
use Rattle.reach.specs.Working.{offered}
use Rattle.reach.proofs.effects.offer.Given as goal

abbrev pub invariant-loop-variable : goal.invariant-loop-variable
invariant-loop-variable g l =
    let t = g.S.TaskSource.task l.source in
    let o = g.M.Measure.ops in
    (l.offset ≡ offset t.size l.variable) × (l.next ≡ offered o t l.action l.value l.initial.next l.variable)
