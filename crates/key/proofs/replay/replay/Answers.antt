use Rattle.std.proofs.lemmas.List.{get_or_default}
use Rattle.rules.specs.declared.calls.Call.TheVariants.{Propose}
use Rattle.key.proofs.Prefixes.{going_none, going_on, replayed}
use Rattle.key.proofs.replay.replay.Goals as goal

pub loop-call-init : goal.loop-call-init
loop-call-init g c = going_none _ _ c.in_ok-key.ensures c.new-answers.ensures.items

pub loop-call-preserved : goal.loop-call-preserved
loop-call-preserved g c =
    let calls = c.args.calls.now in
    let at = c.loop-call.call-index in
    going_on calls at _ _ c.loop-call.key c.answer.new.self c.loop-call-test.true (get_or_default calls at (Propose 0) _ c.loop-call-test.true) c.in_ok-push.ensures.items c.loop-call.invariant c.answer.ensures

pub returns : goal.returns
returns g c = replayed (g.S.TaskSource.lawful c.args.source.now) c.args.calls.now _ _ _ c.loop-call-test.false c.loop-call.invariant
