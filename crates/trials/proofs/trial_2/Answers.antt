use Rattle.trials.proofs.Trials.{trial_2_lem}
use Rattle.trials.proofs.trial_2.Goals as goal

pub returns : goal.returns
returns c = trial_2_lem
