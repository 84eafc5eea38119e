use Rattle.std.proofs.Common.{◌≡◌, ap, ◌∙◌, arith}
use Rattle.task.specs.Task.{facts}
use Rattle.key.specs.Keys.{task_of}
use Rattle.driver.proofs.Growing.{landmarks_none, landmarks_more, landmarks_all}
use Rattle.driver.proofs.filling.propose_all.Goals as goal

pub loop-number-init : goal.loop-number-init
loop-number-init c = landmarks_none c.args.key.now

pub loop-number-preserved : goal.loop-number-preserved
loop-number-preserved c = landmarks_more {a = c.args.key.now} {b = c.loop-number.key} c.loop-number.number c.loop-number.invariant c.propose.ensures

pub returns : goal.returns
returns c =
    let limit : c.count_facts-number-end.result ≡ facts (task_of c.args.key.now) = c.count_facts-number-end.ensures.value ∙ ap facts c.source.ensures in
    let last : c.loop-number.number ≡ facts (task_of c.args.key.now) = omega (arith, limit, c.loop-number.auto.number-end, c.loop-number-test.false) in
    landmarks_all {a = c.args.key.now} {b = c.loop-number.key} c.loop-number.number last c.loop-number.invariant
