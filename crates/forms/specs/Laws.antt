-- What holds of every form.
use Rattle.std.specs.Prelude.{◌<◌, List, length}
use Rattle.task.specs.Task.{Task, Lawful}
use Rattle.records.specs.declared.record.Record.{Record}
use Rattle.records.specs.Faults.{Sound}
use Rattle.lists.specs.Lists.{task_of}
use Rattle.forms.specs.Forms.{FormRules, task_by, fault_of, Begins, Grows}

-- Some records without a fault mean a lawful task, in any form whose records grow the lists one by one.
abbrev pub FormsLawful : Type 0
FormsLawful = (f : FormRules) → Begins f → Grows f → (rs : List Record) → 0 < length rs → Sound (fault_of f) rs → Lawful (task_of (f.lists rs))

-- The task of sound records is what they say.
abbrev pub SoundSay : FormRules → (List Record → Task → Type 0) → Type 0
SoundSay f says = (rs : List Record) → Sound (fault_of f) rs → says rs (task_by f rs)
