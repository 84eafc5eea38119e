use Rattle.listing_laws.proofs.OneLine.{one_line}
use Rattle.listing_laws.proofs.one_line.Goals as goal

pub returns : goal.returns
returns c = one_line
