use Rattle.std.proofs.Common.{refl}
use Rattle.forms.proofs.Lawfuls.{form_lawful}
use Rattle.paper.specs.Paper.{paper_rules}
use Rattle.paper.specs.Papers.{paper_grows}
use Rattle.paper.proofs.laws.papers_are_lawful.Goals as goal

pub returns : goal.returns
returns c = form_lawful paper_rules refl paper_grows
