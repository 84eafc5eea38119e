-- The tally, by the answers.
use Rattle.std.specs.Prelude.{ℕ, ◌+◌, min, Bool, false, cond, ◌||◌, ◌==◌}
use Rattle.rules.specs.declared.calls.Answer.{Answer}
use Rattle.rules.specs.declared.calls.Answer.TheVariants.{Done, Marked, Reported, Refused}
use Rattle.rules.specs.Refusals.{refusal_number}

-- the refusals that the tally counts: a proposal or an ordering that is not confirmed
abbrev pub unconfirmed : Answer → Bool
unconfirmed Done = false
unconfirmed (Marked k) = false
unconfirmed (Reported s) = false
unconfirmed (Refused e) = refusal_number e == 9 || refusal_number e == 12

-- the tally after an answer: it stops at 65535
abbrev pub tallied : ℕ → Answer → ℕ
tallied n r = cond (unconfirmed r) (min (n + 1) 65535) n
