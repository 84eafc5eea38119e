use Rattle.std.proofs.Common.{◌≡◌, ℕ, ◌<◌, get_or}
use Rattle.reach.proofs.start.clear.Given as goal

abbrev pub invariant-loop-value : goal.invariant-loop-value
invariant-loop-value g l = let o = g.M.Measure.ops in (k : ℕ) → k < l.value-index → get_or l.values k o.none ≡ o.none
