use Rattle.std.proofs.Common.{◌≡◌, ◌*◌, ◌≤◌}
use Rattle.rules.specs.Machine.{Machine}
use Rattle.key.specs.Keys.{Shows}
use Rattle.listing.specs.Listing.{OrderedAt}
use Rattle.key_text.proofs.Standing.{NoneIn}
use Rattle.key_text.proofs.cursor.next_pair.Given as goal

abbrev pub invariant-loop-earlier : goal.invariant-loop-earlier
invariant-loop-earlier l = (m : Machine) → Shows l.key m → NoneIn (OrderedAt m) l.from (l.earlier-counter * 256)
