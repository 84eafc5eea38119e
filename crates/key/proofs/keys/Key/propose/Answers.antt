use Rattle.rules.specs.declared.calls.Call.TheVariants.{Propose}
use Rattle.rules.specs.Results.{marked}
use Rattle.key.proofs.Leading.{led_more, key_answered}
use Rattle.key.proofs.keys.Key.propose.Goals as goal

pub invariant_of-self : goal.invariant_of-self
invariant_of-self c = record { led = led_more (Propose c.args.number) (marked c.propose.result) c.propose.ensures.source c.propose.ensures.tally c.propose.ensures.turn c.args.self.now.led }

pub returns : goal.returns
returns c = key_answered c.args.self.now _ (Propose c.args.number) (marked c.propose.result) c.propose.ensures.source c.propose.ensures.tally c.propose.ensures.turn
