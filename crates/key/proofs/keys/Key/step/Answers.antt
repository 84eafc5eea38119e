use Rattle.rules.specs.declared.calls.Call.TheVariants.{Step}
use Rattle.rules.specs.Results.{acted}
use Rattle.key.proofs.Leading.{led_more, key_answered}
use Rattle.key.proofs.keys.Key.step.Goals as goal

pub invariant_of-self : goal.invariant_of-self
invariant_of-self c = record { led = led_more (Step c.args.action) (acted c.step.result) c.step.ensures.source c.step.ensures.tally c.step.ensures.turn c.args.self.now.led }

pub returns : goal.returns
returns c = key_answered c.args.self.now _ (Step c.args.action) (acted c.step.result) c.step.ensures.source c.step.ensures.tally c.step.ensures.turn
