use Rattle.trials.proofs.Laws.{papers_accepted_lem}
use Rattle.trials.proofs.papers_accepted.Goals as goal

pub returns : goal.returns
returns c = papers_accepted_lem
