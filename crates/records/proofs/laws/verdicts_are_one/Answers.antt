use Rattle.records.proofs.Verdicts.{one_verdict}
use Rattle.records.proofs.laws.verdicts_are_one.Goals as goal

pub returns : goal.returns
returns c = one_verdict
