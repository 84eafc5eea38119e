-- The text of an answer.
use Rattle.std.specs.Prelude.{ℕ, List, ◌++◌, codes, decimal}
use Rattle.rules.specs.declared.calls.Answer.{Answer}
use Rattle.rules.specs.declared.calls.Answer.TheVariants.{Done, Marked, Reported, Refused}
use Rattle.rules.specs.declared.calls.Remainder.{Remainder}
use Rattle.rules.specs.declared.calls.Remainder.TheVariants.{AtLeast, DeadEnd}
use Rattle.rules.specs.Refusals.{mark_number, refusal_number, returned}

-- the text of what is left
abbrev pub remainder_text : Remainder → List ℕ
remainder_text (AtLeast n) = decimal n
remainder_text DeadEnd = codes "dead end"

-- the text of an answer
abbrev pub answer_text : Answer → List ℕ
answer_text Done = codes "0"
answer_text (Marked m) = decimal (mark_number m)
answer_text (Reported s) = decimal s.steps ++ (codes " " ++ (decimal s.visited ++ (codes " " ++ remainder_text s.remainder)))
answer_text (Refused r) = codes "refused " ++ (decimal (refusal_number r) ++ (codes " " ++ decimal (returned r)))
