use Rattle.forms.proofs.Lawfuls.{form_lawful}
use Rattle.forms.proofs.laws.forms_are_lawful.Goals as goal

pub returns : goal.returns
returns c = form_lawful
