use Rattle.key.proofs.Leading.{led_opened, key_opened}
use Rattle.key.proofs.keys.Key.open.Goals as goal

pub invariant_of-result : goal.invariant_of-result
invariant_of-result g c = record { led = led_opened _ _ c.in_ok-marker.ensures.source c.in_ok-marker.ensures.opened c.in_ok-marker.ensures.tally }

pub returns : goal.returns
returns g c = key_opened _ _ c.in_ok-table.ensures c.in_ok-marker.ensures.source c.in_ok-marker.ensures.opened c.in_ok-marker.ensures.tally
