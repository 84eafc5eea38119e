use Rattle.trials.proofs.Trials.{trial_9_lem}
use Rattle.trials.proofs.trial_9.Goals as goal

pub returns : goal.returns
returns c = trial_9_lem
