use Rattle.lists.specs.View.{lists_of}
use Rattle.forms.proofs.Readings.{Read}
use Rattle.forms.proofs.reader.read_table.Given as goal

abbrev pub invariant-loop-index : goal.invariant-loop-index
invariant-loop-index g l = Read g.F.RecordForm.rules l.bytes l.index (lists_of l.table)
