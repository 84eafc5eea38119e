use Rattle.trials.proofs.Trials.{trial_3_lem}
use Rattle.trial_runs.proofs.Runs.{only_answers}
use Rattle.trial_runs.proofs.run_trial_3.Goals as goal

pub returns : goal.returns
returns c = only_answers c.run_calls.result trial_3_lem.0 c.run_calls.ensures
