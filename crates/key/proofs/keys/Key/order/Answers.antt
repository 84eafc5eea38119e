use Rattle.rules.specs.declared.calls.Call.TheVariants.{Order}
use Rattle.rules.specs.Results.{marked}
use Rattle.key.proofs.Leading.{led_more, key_answered}
use Rattle.key.proofs.keys.Key.order.Goals as goal

pub invariant_of-self : goal.invariant_of-self
invariant_of-self c = record { led = led_more (Order c.args.kind c.args.earlier c.args.later) (marked c.order.result) c.order.ensures.source c.order.ensures.tally c.order.ensures.turn c.args.self.now.led }

pub returns : goal.returns
returns c = key_answered c.args.self.now _ (Order c.args.kind c.args.earlier c.args.later) (marked c.order.result) c.order.ensures.source c.order.ensures.tally c.order.ensures.turn
