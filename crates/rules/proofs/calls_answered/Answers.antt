use Rattle.rules.proofs.OneSession.{calls_answered_lem}
use Rattle.rules.proofs.calls_answered.Goals as goal

pub returns : goal.returns
returns c = calls_answered_lem
