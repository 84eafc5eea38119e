use Rattle.rules.proofs.Achieving.{necessary_is_greedy_lem}
use Rattle.rules.proofs.necessary_is_greedy.Goals as goal

pub returns : goal.returns
returns c = necessary_is_greedy_lem
