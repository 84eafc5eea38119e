use Rattle.rules.proofs.OneSession.{sessions_answered_lem}
use Rattle.rules.proofs.sessions_answered.Goals as goal

pub returns : goal.returns
returns c = sessions_answered_lem
