use Rattle.trials.proofs.Trials.{trial_7_lem}
use Rattle.trials.proofs.trial_7.Goals as goal

pub returns : goal.returns
returns c = trial_7_lem
