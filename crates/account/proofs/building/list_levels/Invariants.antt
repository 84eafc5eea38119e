use Rattle.std.proofs.Common.{vec_items}
use Rattle.account.specs.Accounts.{Listed}
use Rattle.account.proofs.building.list_levels.Given as goal

abbrev pub invariant-loop-number : goal.invariant-loop-number
invariant-loop-number g l = Listed (g.S.TaskSource.task l.source) l.number (vec_items l.list)
