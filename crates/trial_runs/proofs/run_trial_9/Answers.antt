use Rattle.trials.proofs.Trials.{trial_9_lem}
use Rattle.trial_runs.proofs.Runs.{only_answers}
use Rattle.trial_runs.proofs.run_trial_9.Goals as goal

pub returns : goal.returns
returns c = only_answers c.run_calls.result (trial_9_lem) c.run_calls.ensures
