use Rattle.rules.proofs.Covered.{achievers_covered_lem}
use Rattle.rules.proofs.achievers_covered.Goals as goal

pub returns : goal.returns
returns c = achievers_covered_lem
