use Rattle.std.proofs.Common.{sym, ap, subst}
use Rattle.records.specs.Records.{records}
use Rattle.lists.specs.Lists.{Lists, task_of}
use Rattle.lists.specs.View.{lists_of}
use Rattle.forms.proofs.Lawfuls.{form_lawful}
use Rattle.forms.proofs.Readings.{whole_lawful}
use Rattle.forms.proofs.document.Document.read.Goals as goal

pub invariant_of-result : goal.invariant_of-result
invariant_of-result g c =
    let f = g.F.RecordForm.rules in
    let laws = g.met.F.RecordForm in
    record { lawful = ∣ whole_lawful f (form_lawful f laws.begins laws.grows) c.args.bytes.now (lists_of c.in_ok-table.table) c.in_ok-table.ensures ∣₁ }

pub returns : goal.returns
returns g c =
    let w = c.in_ok-table.ensures in
    let rs = records c.args.bytes.now in
    record {
      verdict = record { long = w.long; sound = w.sound; means = ap task_of w.is };
      says = subst (λ (b : Lists). g.F.SayingForm.says rs (task_of b)) (sym w.is) (g.met.F.SayingForm.told rs w.sound);
    }
