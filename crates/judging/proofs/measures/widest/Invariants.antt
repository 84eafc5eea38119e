use Rattle.judging.proofs.Widths.{WidthBelow}
use Rattle.judging.proofs.measures.widest.Given as goal

abbrev pub invariant-loop-action : goal.invariant-loop-action
invariant-loop-action g l = WidthBelow (g.S.TaskSource.task l.source) l.action l.width
