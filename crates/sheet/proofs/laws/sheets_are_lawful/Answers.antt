use Rattle.std.proofs.Common.{refl}
use Rattle.forms.proofs.Lawfuls.{form_lawful}
use Rattle.sheet.specs.Sheet.{sheet_rules}
use Rattle.sheet.specs.Sheets.{sheet_grows}
use Rattle.sheet.proofs.laws.sheets_are_lawful.Goals as goal

pub returns : goal.returns
returns c = form_lawful sheet_rules refl sheet_grows
