use Rattle.rules.proofs.Reachable.{goal_reached_together_lem}
use Rattle.rules.proofs.goal_reached_together.Goals as goal

pub returns : goal.returns
returns c = goal_reached_together_lem
