use Rattle.std.proofs.Common.{[], ◌∷◌}
use Rattle.task.proofs.Lookups.{exactly_none}
use Rattle.task.proofs.Options.{no_some}
use Rattle.sitting.proofs.Splitting.{none_first, rest_numbers, three_found}
use Rattle.sitting.proofs.numbers.three_numbers.Goals as goal

pub returns-in_err-first : goal.returns-in_err-first
returns-in_err-first c =
    rw c.from_residual.ensures
    (exactly_none (λ x h. none_first c.in_err-first.ensures x.0 (x.1 ∷ x.2 ∷ []) h))

pub returns-in_err-second : goal.returns-in_err-second
returns-in_err-second c =
    rw c.from_residual-in_err-second.ensures
    (exactly_none (λ x h. none_first c.in_err-second.ensures x.1 (x.2 ∷ []) (rest_numbers c.in_ok-first.ensures.1 x.0 (x.1 ∷ x.2 ∷ []) h)))

pub returns-in_err-third : goal.returns-in_err-third
returns-in_err-third c =
    rw c.from_residual-in_err-third.ensures
    (exactly_none (λ x h.
    no_some x.2
    (c.in_err-third.ensures.found x.2
    (rest_numbers c.in_ok-second.ensures.1 x.1 (x.2 ∷ []) (rest_numbers c.in_ok-first.ensures.1 x.0 (x.1 ∷ x.2 ∷ []) h)))))

pub returns : goal.returns
returns c =
    let one = c.in_ok-first.ensures in
    let two = c.in_ok-second.ensures in
    three_found one.1 one.2 two.1 two.2 c.in_ok-third.ensures
