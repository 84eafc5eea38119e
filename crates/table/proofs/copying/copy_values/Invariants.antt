use Rattle.std.proofs.Common.{◌≡◌, ℕ, ◌<◌, length, None, slice_index_or}
use Rattle.table.proofs.copying.copy_values.Given as goal

abbrev pub invariant-loop-variable : goal.invariant-loop-variable
invariant-loop-variable g l = record {
  long : length l.value-items ≡ 64;
  copied : (v : ℕ) → v < l.variable → goal.F-post g l.answer v (slice_index_or l.value-items v None);
}
