use Rattle.key.proofs.Leading.{led_more, key_answered}
use Rattle.key.proofs.keys.Key.answer.Goals as goal

pub invariant_of-self : goal.invariant_of-self
invariant_of-self c = record { led = led_more c.args.call c.answer.result c.answer.ensures.source c.answer.ensures.tally c.answer.ensures.turn c.args.self.now.led }

pub returns : goal.returns
returns c = key_answered c.args.self.now _ c.args.call c.answer.result c.answer.ensures.source c.answer.ensures.tally c.answer.ensures.turn
