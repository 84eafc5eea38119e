-- What a form has of its own, and the order in which every form's records are tested.
use Rattle.std.specs.Prelude.{◌≡◌, ℕ, Bool, cond, not, ◌&&◌, List, [], ◌∷◌, ◌++◌, Some, None, Option, ◌==◌, nat_lt}
use Rattle.task.specs.Task.{Task}
use Rattle.records.specs.declared.record.Record.{Record}
use Rattle.records.specs.declared.record.Kind.{Kind}
use Rattle.records.specs.declared.fault.Refusal.{Refusal}
use Rattle.records.specs.declared.fault.Refusal.TheVariants as refusal
use Rattle.records.specs.declared.fault.Ground.{Ground}
use Rattle.records.specs.Faults.{Form}
use Rattle.lists.specs.Lists.{Lists, blank, task_of}
use Rattle.lists.specs.Puts.{put}
use Rattle.forms.specs.declared.form.Entry.{Entry}
use Rattle.forms.specs.Rules.{in_place, full, wide_first, wide_second, repeated}

-- The page of a form: the kind that byte 0 tells, how many of the bytes 1 and 2 a kind uses, what a record enters, and the lists that records mean.
pub record FormRules : Type 0 where
  pub kind : ℕ → Option Kind
  pub uses : Kind → ℕ
  pub enters : Kind → Record → Entry
  pub lists : List Record → Lists

-- The task that records mean.
abbrev pub task_by : FormRules → List Record → Task
task_by f rs = task_of (f.lists rs)

-- A cause to refuse a record, and whether it is there.
pub record Cause : Type 0 where
  pub ground : Ground
  pub there : Bool

-- A cause by its refusal and byte.
abbrev pub cause : Refusal → ℕ → Bool → Cause
cause n k t = record { ground = record { refusal = n; byte = k }; there = t }

-- The ground of the first cause that is there.
abbrev pub first_cause : List Cause → Option Ground
first_cause [] = None
first_cause (c ∷ cs) = cond c.there (Some c.ground) (first_cause cs)

-- A byte that is not 0.
abbrev pub used : ℕ → Bool
used x = not (x == 0)

-- What a record of the kind k is tested for, in order: form, place, limit, range, repeat, lower byte first; a second number stands at the last byte used.
abbrev pub causes : FormRules → Kind → Lists → Record → List Cause
causes f k b r =
    cause refusal.Form 1 (nat_lt (f.uses k) 1 && used r.one)
    ∷ cause refusal.Form 2 (nat_lt (f.uses k) 2 && used r.two)
    ∷ cause refusal.Form 3 (used r.three)
    ∷ cause refusal.Place 0 (not (in_place k b))
    ∷ cause refusal.Limit 0 (full k (f.enters k r).first b)
    ∷ cause refusal.Range 1 (wide_first k (f.enters k r).first b)
    ∷ cause refusal.Range (f.uses k) (wide_second k (f.enters k r).first (f.enters k r).second b)
    ∷ cause refusal.Repeated 1 (repeated k (f.enters k r).first b)
    ∷ []

-- What is wrong with a record after the lists of those before it; a kind that is not of the form is refused at byte 0.
abbrev pub after : FormRules → Option Kind → Lists → Record → Option Ground
after f None b r = Some (record { refusal = refusal.Form; byte = 0 })
after f (Some k) b r = first_cause (causes f k b r)

-- What is wrong with a record after the records before it.
abbrev pub fault_of : FormRules → Form
fault_of f before r = after f (f.kind r.kind) (f.lists before) r

-- No records mean the lists of nothing.
abbrev pub Begins : FormRules → Type 0
Begins f = f.lists [] ≡ blank

-- One more record adds its entry to the lists.
abbrev pub Grows : FormRules → Type 0
Grows f = (rs : List Record) (r : Record) (k : Kind) → f.kind r.kind ≡ Some k
    → f.lists (rs ++ r ∷ []) ≡ put k (f.enters k r).first (f.enters k r).second (f.lists rs)
