use Rattle.std.proofs.Common.{◌∙◌}
use Rattle.marker.proofs.markers.Marker.is_ordered.Goals as goal

pub returns : goal.returns
returns g c m s = c.contains.ensures ∙ s.ordered c.args.kind c.args.earlier c.args.later
