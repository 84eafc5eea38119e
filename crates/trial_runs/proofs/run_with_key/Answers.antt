use Rattle.std.proofs.Common.{◌≡◌, ◌++◌, vec_items, ◌∙◌, subst}
use Rattle.std.proofs.lemmas.Slice.{pushed}
use Rattle.rules.specs.Machine.{Machine, Session}
use Rattle.trials.specs.Key.{key_calls}
use Rattle.trials.specs.Papers.{task_a}
use Rattle.trial_runs.proofs.Runs.{made_then}
use Rattle.trial_runs.proofs.run_with_key.Goals as goal

pub returns : goal.returns
returns c =
    let more = c.args.more.now in
    let all : c.as_slice.result.now ≡ key_calls ++ more = c.as_slice.ensures.value
    ∙ pushed {was = vec_items c.in_ok-calls.calls} {xs = key_calls} more c.in_ok-calls.ensures.items c.in_ok-extend_from_slice.was c.extend_from_slice.ensures.items in
    made_then (λ v. (n : Machine) × Session task_a c.as_slice.result.now (vec_items v) n) (λ v. (n : Machine) × Session task_a (key_calls ++ more) (vec_items v) n) c.run_calls.result
    (λ v p. (p.0, subst (λ cs. Session task_a cs (vec_items v) p.0) all p.1)) c.run_calls.ensures
