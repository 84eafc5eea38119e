use Rattle.trials.proofs.Trials.{trial_10_lem}
use Rattle.trials.proofs.trial_10.Goals as goal

pub returns : goal.returns
returns c = trial_10_lem
