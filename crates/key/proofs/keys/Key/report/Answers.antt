use Rattle.std.proofs.Common.{refl}
use Rattle.rules.specs.declared.calls.Call.TheVariants.{Report}
use Rattle.rules.specs.Results.{reported}
use Rattle.key.proofs.Leading.{key_answered}
use Rattle.key.proofs.keys.Key.report.Goals as goal

pub returns : goal.returns
returns c = key_answered c.args.self.now c.args.self.now Report (reported c.report.result) refl c.report.ensures.tally c.report.ensures.turn
