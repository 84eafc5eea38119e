use Rattle.std.proofs.Common.{◌≡◌, ℕ, Bool}
use Rattle.listing.proofs.Finds.{Seen}
use Rattle.listing.proofs.find.find_passing.Given as goal

abbrev pub invariant-loop-number : goal.invariant-loop-number
invariant-loop-number g l = Seen (λ (p : ℕ → Bool). (n : ℕ) (b : Bool) → goal.F-post g l.passes n b → b ≡ p n) l.number l.before l.index
