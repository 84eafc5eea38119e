use Rattle.std.proofs.Common.{◌≡◌, ap, ◌∙◌, arith}
use Rattle.task.specs.Task.{facts}
use Rattle.key.specs.Keys.{task_of}
use Rattle.driver.proofs.Growing.{from_none, from_more, from_all}
use Rattle.driver.proofs.filling.order_from.Goals as goal

pub loop-later-init : goal.loop-later-init
loop-later-init c = from_none c.args.earlier c.args.key.now

pub loop-later-preserved : goal.loop-later-preserved
loop-later-preserved c = from_more {a = c.args.key.now} {b = c.loop-later.key} {c = c.order.new.self} c.args.earlier c.loop-later.later c.into.ensures c.into-in-loop-later.ensures c.loop-later.invariant c.order.ensures c.order-in-loop-later.ensures

pub returns : goal.returns
returns c =
    let limit : c.count_facts-later-end.result ≡ facts (task_of c.args.key.now) = c.count_facts-later-end.ensures.value ∙ ap facts c.source.ensures in
    let last : c.loop-later.later ≡ facts (task_of c.args.key.now) = omega (arith, limit, c.loop-later.auto.later-end, c.loop-later-test.false) in
    from_all {a = c.args.key.now} {b = c.loop-later.key} c.args.earlier c.loop-later.later last c.loop-later.invariant
