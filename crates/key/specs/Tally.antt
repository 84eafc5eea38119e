-- The tally of a list of answers.
use Rattle.std.specs.Prelude.{ℕ, ◌+◌, min, cond, List, [], ◌∷◌}
use Rattle.rules.specs.declared.calls.Answer.{Answer}
use Rattle.marker.specs.Answers.{unconfirmed}

-- how many of the answers are refusals of a proposal or an ordering that was not confirmed
abbrev pub how_many : List Answer → ℕ
how_many [] = 0
how_many (r ∷ rs) = cond (unconfirmed r) 1 0 + how_many rs

-- their number, and 65535 where there are more
abbrev pub tally_after : List Answer → ℕ
tally_after rs = min (how_many rs) 65535
