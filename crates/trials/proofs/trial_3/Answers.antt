use Rattle.trials.proofs.Trials.{trial_3_lem}
use Rattle.trials.proofs.trial_3.Goals as goal

pub returns : goal.returns
returns c = trial_3_lem
