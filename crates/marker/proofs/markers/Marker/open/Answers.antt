use Rattle.std.proofs.Common.{refl}
use Rattle.marker.proofs.Walks.{shows_opened}
use Rattle.marker.proofs.markers.Marker.open.Goals as goal

pub returns : goal.returns
returns g c = record {
  source = refl;
  opened = shows_opened _ _ c.empty.ensures c.in_ok-orderings.ensures c.start_of-sitting.ensures c.missed_goal-missed.ensures.reach c.missed_goal-missed.ensures.missed;
  tally = refl;
}
