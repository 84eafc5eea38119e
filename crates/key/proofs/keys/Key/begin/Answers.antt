use Rattle.rules.specs.declared.calls.Call.TheVariants.{Begin}
use Rattle.rules.specs.Results.{acted}
use Rattle.key.proofs.Leading.{led_more, key_answered}
use Rattle.key.proofs.keys.Key.begin.Goals as goal

pub invariant_of-self : goal.invariant_of-self
invariant_of-self c = record { led = led_more Begin (acted c.begin.result) c.begin.ensures.source c.begin.ensures.tally c.begin.ensures.turn c.args.self.now.led }

pub returns : goal.returns
returns c = key_answered c.args.self.now _ Begin (acted c.begin.result) c.begin.ensures.source c.begin.ensures.tally c.begin.ensures.turn
