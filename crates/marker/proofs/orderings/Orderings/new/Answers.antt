use Rattle.rules.specs.declared.calls.Kind.TheVariants.{Greedy, Necessary}
use Rattle.marker.proofs.Writes.{all_none}
use Rattle.marker.proofs.orderings.Orderings.new.Goals as goal

pub returns : goal.returns
returns c Greedy e l = all_none 256 _ _ (c.in_ok-greedy.ensures.items_if_clones_equal (λ y is. is)) c.empty.ensures e l
returns c Necessary e l = all_none 256 _ _ (c.in_ok-necessary.ensures.items_if_clones_equal (λ y is. is)) c.empty-2.ensures e l
