use Rattle.std.proofs.Common.{vec_items, subst}
use Rattle.rules.specs.Machine.{Session}
use Rattle.trial_runs.proofs.run_calls.Goals as goal

pub returns : goal.returns
returns c =
    let means = c.in_ok-paper.ensures.verdict.means in
    let last = c.in_ok-transcript.ensures.shown in
    (last.0, subst (λ t. Session t c.args.calls.now (vec_items c.in_ok-transcript.transcript.answers) last.0) means last.1.0)
