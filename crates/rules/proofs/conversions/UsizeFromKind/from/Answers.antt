use Rattle.std.proofs.Common.{sym, subst}
use Rattle.rules.specs.Machine.{KindNumber, KindNumber.one_greedy, KindNumber.two_necessary}
use Rattle.rules.proofs.conversions.UsizeFromKind.from.Goals as goal

pub returns-in-Greedy : goal.returns-in-Greedy
returns-in-Greedy c = subst (KindNumber 1) (sym c.in-Greedy.is) one_greedy

pub returns-in-Necessary : goal.returns-in-Necessary
returns-in-Necessary c = subst (KindNumber 2) (sym c.in-Necessary.is) two_necessary
