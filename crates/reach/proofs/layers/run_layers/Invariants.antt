use Rattle.std.proofs.Common.{◌≡◌, ℕ, suc, ◌+◌, ◌<◌, ◌≤◌, sum_by}
use Rattle.reach.specs.Layering.{layer}
use Rattle.reach.proofs.layers.run_layers.Given as goal

abbrev pub invariant-loop-layers : goal.invariant-loop-layers
invariant-loop-layers g l =
    let t = g.S.TaskSource.task l.source in
    let o = g.M.Measure.ops in
    (l.values ≡ layer o t l.layers)
    × (l.layers + sum_by o.rank l.values ≤ sum_by o.rank (layer o t 0))
    × ((m : ℕ) → m < l.layers → layer o t (suc m) ≡ layer o t m → ⊥)

abbrev pub decreases-loop-layers : goal.decreases-loop-layers
decreases-loop-layers g l = sum_by g.M.Measure.ops.rank l.values
