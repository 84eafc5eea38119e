use Rattle.std.proofs.Common.{◌≡◌}
use Rattle.reach.specs.Working.{acted}
use Rattle.reach.proofs.layers.act.Given as goal

abbrev pub invariant-loop-action : goal.invariant-loop-action
invariant-loop-action g l =
    let t = g.S.TaskSource.task l.source in
    let o = g.M.Measure.ops in
    l.next ≡ acted o t l.values l.action
