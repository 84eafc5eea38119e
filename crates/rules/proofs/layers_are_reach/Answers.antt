use Rattle.reach.proofs.LayerFacts.{layer_reach, reach_layer}
use Rattle.rules.proofs.layers_are_reach.Goals as goal

pub returns : goal.returns
returns c = λ t law f. (reach_layer t f, λ (n, h). layer_reach law n f h)
