-- Results of the single calls as answers, and the kind with a number.
use Rattle.std.specs.Prelude.{◌≡◌, ℕ, Ok, Err, Result}
use Rattle.rules.specs.declared.calls.Answer.{Answer}
use Rattle.rules.specs.declared.calls.Answer.TheVariants.{Done, Marked, Reported, Refused}
use Rattle.rules.specs.declared.calls.Kind.{Kind}
use Rattle.rules.specs.declared.calls.Mark.{Mark}
use Rattle.rules.specs.declared.calls.Refusal.{Refusal}
use Rattle.rules.specs.declared.calls.Refusal.TheVariants.{NoSuch}
use Rattle.rules.specs.declared.calls.Standing.{Standing}
use Rattle.rules.specs.Machine.{KindNumber}

-- the answer to a proposal or an ordering
abbrev pub marked : Result Mark Refusal → Answer
marked (Ok k) = Marked k
marked (Err e) = Refused e

-- the answer to a move
abbrev pub acted : Result (Unit {0}) Refusal → Answer
acted (Ok u) = Done
acted (Err e) = Refused e

-- the answer to a report
abbrev pub reported : Result Standing Refusal → Answer
reported (Ok s) = Reported s
reported (Err e) = Refused e

-- the result is exactly the kind with the number; where no kind has it, that number is refused
pub record KindOf (k : ℕ) (r : Result Kind Refusal) : Type 0 where
  pub right : (κ : Kind) → r ≡ Ok κ → KindNumber k κ
  pub found : (κ : Kind) → KindNumber k κ → r ≡ Ok κ
  pub refused : (e : Refusal) → r ≡ Err e → e ≡ NoSuch k
