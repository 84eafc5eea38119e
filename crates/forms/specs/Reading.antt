-- What a reader answers.
use Rattle.std.specs.Prelude.{◌≡◌, ℕ, ◌<◌, ◌≤◌, List, length, Some, None, Ok, Err, Option, Result}
use Rattle.task.specs.Task.{Task}
use Rattle.records.specs.declared.record.Record.{Record as FormRecord}
use Rattle.records.specs.declared.record.Kind.{Kind}
use Rattle.records.specs.declared.fault.Ground.{Ground}
use Rattle.records.specs.declared.fault.RecordFault.{RecordFault}
use Rattle.records.specs.declared.fault.ReadFault.{ReadFault}
use Rattle.records.specs.declared.fault.ReadFault.TheVariants.{Length, Record, Memory}
use Rattle.records.specs.Records.{records, BadLength}
use Rattle.records.specs.Faults.{Form, fault_at, Sound, FirstFault}
use Rattle.lists.specs.Lists.{Lists}
use Rattle.lists.specs.Puts.{put}
use Rattle.forms.specs.Forms.{FormRules, after, fault_of}

-- Bytes are not read for a bad length, else for the first faulty record, or for want of memory to keep a record i, where all up to it are sound.
abbrev pub Refused : Form → List ℕ → ReadFault → Type 0
Refused fault bs Length = BadLength (length bs)
Refused fault bs (Record f) = (BadLength (length bs) → ⊥) × FirstFault fault (records bs) f.index f.ground
Refused fault bs Memory = (BadLength (length bs) → ⊥) × ((i : ℕ) × (i < length (records bs)) × ((j : ℕ) → j ≤ i → fault_at fault (records bs) j ≡ None))

-- The bytes are accepted, and mean this task.
pub record Accepted (fault : Form) (meaning : List FormRecord → Task) (bs : List ℕ) (t : Task) : Type 0 where
  pub long : BadLength (length bs) → ⊥
  pub sound : Sound fault (records bs)
  pub means : t ≡ meaning (records bs)

-- All bytes were taken up into these lists.
pub record Whole (f : FormRules) (bs : List ℕ) (b : Lists) : Type 0 where
  pub long : BadLength (length bs) → ⊥
  pub sound : Sound (fault_of f) (records bs)
  pub is : b ≡ f.lists (records bs)

-- Record i is of this kind and has no fault, or has this one.
abbrev pub Checked : FormRules → Lists → ℕ → FormRecord → Result Kind RecordFault → Type 0
Checked f b i r (Ok k) = (f.kind r.kind ≡ Some k) × (after f (f.kind r.kind) b r ≡ None)
Checked f b i r (Err e) = (e.index ≡ i) × (after f (f.kind r.kind) b r ≡ Some e.ground)

-- Record i was refused on this ground, or was sound and there was no memory for it.
abbrev pub Stopped : Option Ground → ℕ → ReadFault → Type 0
Stopped fault i Length = ⊥
Stopped fault i (Record e) = (e.index ≡ i) × (fault ≡ Some e.ground)
Stopped fault i Memory = fault ≡ None

-- Record i was sound and its entry was put to the lists, or it was not.
abbrev pub Took : FormRules → Lists → ℕ → FormRecord → Lists → Result (Unit {0}) ReadFault → Type 0
Took f b i r b' (Ok u) = (k : Kind) × (f.kind r.kind ≡ Some k) × (after f (f.kind r.kind) b r ≡ None) × (b' ≡ put k (f.enters k r).first (f.enters k r).second b)
Took f b i r b' (Err e) = Stopped (after f (f.kind r.kind) b r) i e
