use Rattle.std.proofs.Common.{[], ◌∷◌, length, decimal, ap, arith, length-append}
use Rattle.lines.proofs.Texts.{short_number}
use Rattle.lines.proofs.write.push_field.Goals as goal

pub push_number-requires : goal.push_number-requires
push_number-requires c =
    omega (arith, ap length c.push.ensures, length-append c.args.text.now (32 ∷ []), short_number c.args.number c.ranges.number.fits, c.requires)

pub returns-clause-bound : goal.returns-clause-bound
returns-clause-bound c =
    omega (arith, ap length c.push.ensures, length-append c.args.text.now (32 ∷ []), ap length c.push_number.ensures, length-append c.push.new.self (decimal c.args.number), short_number c.args.number c.ranges.number.fits)
