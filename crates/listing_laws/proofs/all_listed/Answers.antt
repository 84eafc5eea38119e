use Rattle.listing_laws.proofs.OneLine.{all_listed}
use Rattle.listing_laws.proofs.all_listed.Goals as goal

pub returns : goal.returns
returns c = all_listed
