use Rattle.sheet.specs.Sayings.{sheet_says}
use Rattle.sheet.proofs.laws.sheets_say.Goals as goal

pub returns : goal.returns
returns c = sheet_says
