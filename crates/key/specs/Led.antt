-- What every key keeps.
use Rattle.std.specs.Prelude.{◌≡◌, List}
use Rattle.rules.specs.declared.calls.Call.{Call}
use Rattle.rules.specs.declared.calls.Answer.{Answer}
use Rattle.rules.specs.Machine.{Machine, Session}
use Rattle.table.specs.Meaning.{held}
use Rattle.table.specs.declared.task_table.TaskTable.{TaskTable}
use Rattle.marker.specs.declared.markers.Marker.{Marker}
use Rattle.marker.specs.Shows.{Shows}
use Rattle.key.specs.Tally.{tally_after}

-- a list of calls on a key opened empty that led to the marker: it shows the machine to which they lead, and has the tally of their answers
pub record History (k : Marker TaskTable) : Type 0 where
  pub calls : List Call
  pub answers : List Answer
  pub machine : Machine
  pub session : Session (held k.source) calls answers machine
  pub shown : Shows (held k.source) k machine
  pub tally : k.tally ≡ tally_after answers

-- some list of calls on a key opened empty led here
abbrev pub Led : Marker TaskTable → Type 0
Led k = ∥ History k ∥₁
