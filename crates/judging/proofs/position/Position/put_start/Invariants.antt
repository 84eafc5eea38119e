use Rattle.std.proofs.Common.{◌≡◌, ℕ, ◌<◌, length, slice_index}
use Rattle.judging.proofs.position.Position.put_start.Given as goal

abbrev pub invariant-loop-variable : goal.invariant-loop-variable
invariant-loop-variable g l = record {
  long : length l.value-items ≡ 64;
  started : (v : ℕ) → v < l.variable → slice_index l.value-items v ≡ (g.S.TaskSource.task l.source).start v;
}
