use Rattle.rules.proofs.Orderings.{necessary_keeps_greedy_lem}
use Rattle.rules.proofs.necessary_keeps_greedy.Goals as goal

pub returns : goal.returns
returns c = necessary_keeps_greedy_lem
