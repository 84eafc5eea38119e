use Rattle.std.proofs.Common.{[]}
use Rattle.task.proofs.Lookups.{exactly_none}
use Rattle.sitting.proofs.Splitting.{none_first, one_decided}
use Rattle.sitting.proofs.numbers.one_number.Goals as goal

pub returns-in_err-number : goal.returns-in_err-number
returns-in_err-number c = rw c.from_residual.ensures (exactly_none (λ n h. none_first c.in_err-number.ensures n [] h))

pub returns : goal.returns
returns c =
    let one = c.in_ok-number.ensures in
    rw c.then_some.ensures (one_decided c.is_done.result one.1 one.2 c.is_done.ensures)
