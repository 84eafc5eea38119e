use Rattle.rules.proofs.Achieving.{achievers_count_lem}
use Rattle.rules.proofs.achievers_count.Goals as goal

pub returns : goal.returns
returns c = achievers_count_lem
