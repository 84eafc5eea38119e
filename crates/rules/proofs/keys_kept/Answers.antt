use Rattle.rules.proofs.Sessions.{session_kept}
use Rattle.rules.proofs.keys_kept.Goals as goal

pub returns : goal.returns
returns c = λ t cs rs m. session_kept t
