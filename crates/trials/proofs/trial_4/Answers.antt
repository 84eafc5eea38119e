use Rattle.trials.proofs.Trials.{trial_4_lem}
use Rattle.trials.proofs.trial_4.Goals as goal

pub returns : goal.returns
returns c = trial_4_lem
