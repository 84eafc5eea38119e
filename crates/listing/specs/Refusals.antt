-- The numbers that go with refusals.
use Rattle.std.specs.Prelude.{ℕ}
use Rattle.listing.specs.declared.refusal.ListingRefusal.{ListingRefusal}
use Rattle.listing.specs.declared.refusal.ListingRefusal.TheVariants.{GoalOutOfReach, ShortBuffer, NoSuchLine}

-- the number of a refusal
abbrev pub refusal_number : ListingRefusal → ℕ
refusal_number (GoalOutOfReach n) = 7
refusal_number (ShortBuffer n) = 16
refusal_number (NoSuchLine n) = 17

-- what a refusal returns
abbrev pub given_back : ListingRefusal → ℕ
given_back (GoalOutOfReach n) = n
given_back (ShortBuffer n) = n
given_back (NoSuchLine n) = n
