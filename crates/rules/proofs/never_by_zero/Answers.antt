use Rattle.rules.proofs.Effectless.{never_by_zero_lem}
use Rattle.rules.proofs.never_by_zero.Goals as goal

pub returns : goal.returns
returns c = never_by_zero_lem
