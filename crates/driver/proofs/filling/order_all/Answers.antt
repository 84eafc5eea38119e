use Rattle.std.proofs.Common.{◌≡◌, ap, ◌∙◌, arith}
use Rattle.task.specs.Task.{facts}
use Rattle.key.specs.Keys.{task_of}
use Rattle.driver.proofs.Growing.{all_none, all_more, all_all}
use Rattle.driver.proofs.filling.order_all.Goals as goal

pub loop-earlier-init : goal.loop-earlier-init
loop-earlier-init c = all_none c.args.key.now

pub loop-earlier-preserved : goal.loop-earlier-preserved
loop-earlier-preserved c = all_more {a = c.args.key.now} {b = c.loop-earlier.key} {c = c.order_from.new.key} c.loop-earlier.earlier c.loop-earlier.invariant c.order_from.ensures

pub returns : goal.returns
returns c =
    let limit : c.count_facts-earlier-end.result ≡ facts (task_of c.args.key.now) = c.count_facts-earlier-end.ensures.value ∙ ap facts c.source.ensures in
    let last : c.loop-earlier.earlier ≡ facts (task_of c.args.key.now) = omega (arith, limit, c.loop-earlier.auto.earlier-end, c.loop-earlier-test.false) in
    all_all {a = c.args.key.now} {b = c.loop-earlier.key} c.loop-earlier.earlier last c.loop-earlier.invariant
