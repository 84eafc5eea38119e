-- The numbers that go with answers and refusals.
use Rattle.std.specs.Prelude.{ℕ}
use Rattle.rules.specs.declared.calls.Mark.{Mark}
use Rattle.rules.specs.declared.calls.Mark.TheVariants.{Accepted, Known}
use Rattle.rules.specs.declared.calls.Refusal.{Refusal}
use Rattle.rules.specs.declared.calls.Refusal.TheVariants.{GoalOutOfReach, NoSuch, NoLandmark, OutsideKey, LaterAtStart, Unordered, NoAction, UnmetCondition, TooManySteps}

-- the number of a mark
abbrev pub mark_number : Mark → ℕ
mark_number Accepted = 1
mark_number Known = 2

-- the number of a refusal
abbrev pub refusal_number : Refusal → ℕ
refusal_number (GoalOutOfReach n) = 7
refusal_number (NoSuch n) = 8
refusal_number (NoLandmark n) = 9
refusal_number (OutsideKey n) = 10
refusal_number (LaterAtStart n) = 11
refusal_number (Unordered n) = 12
refusal_number (NoAction n) = 13
refusal_number (UnmetCondition n) = 14
refusal_number (TooManySteps n) = 15

-- what a refusal returns
abbrev pub returned : Refusal → ℕ
returned (GoalOutOfReach n) = n
returned (NoSuch n) = n
returned (NoLandmark n) = n
returned (OutsideKey n) = n
returned (LaterAtStart n) = n
returned (Unordered n) = n
returned (NoAction n) = n
returned (UnmetCondition n) = n
returned (TooManySteps n) = n
