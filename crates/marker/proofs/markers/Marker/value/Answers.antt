use Rattle.std.proofs.Common.{◌∙◌}
use Rattle.marker.proofs.markers.Marker.value.Goals as goal

pub returns : goal.returns
returns g c m s = c.value.ensures ∙ s.sitting.state c.args.variable
