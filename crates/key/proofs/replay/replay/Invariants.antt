use Rattle.std.proofs.Common.{vec_items}
use Rattle.key.proofs.Prefixes.{Going}
use Rattle.key.proofs.replay.replay.Given as goal

abbrev pub invariant-loop-call : goal.invariant-loop-call
invariant-loop-call g l = Going (g.S.TaskSource.task l.source) l.calls l.call-index (vec_items l.answers) l.key
