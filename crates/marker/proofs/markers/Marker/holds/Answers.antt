use Rattle.std.proofs.Common.{◌∙◌}
use Rattle.marker.proofs.markers.Marker.holds.Goals as goal

pub returns : goal.returns
returns g c m s = c.contains.ensures ∙ s.held c.args.number
