use Rattle.std.proofs.Common.{map, ap, ◌∙◌}
use Rattle.records.specs.Records.{of_quad}
use Rattle.records.proofs.Quads.{records_of_chunks}
use Rattle.records.proofs.bytes.quads.Goals as goal

pub returns : goal.returns
returns c = ap (map of_quad) c.as_chunks.ensures.front ∙ records_of_chunks c.args.bytes.now
