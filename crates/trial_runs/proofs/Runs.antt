-- From the session of a run to its answers.
use Rattle.std.proofs.Common.{◌≡◌, List, IfOk, Ok, Err, vec_items, Result, Vec}
use Rattle.std.specs.declared.alloc.Global.{Global}
use Rattle.records.specs.declared.fault.ReadFault.{ReadFault}
use Rattle.task.specs.Task.{Task}
use Rattle.rules.specs.declared.calls.Call.{Call}
use Rattle.rules.specs.declared.calls.Answer.{Answer}
use Rattle.rules.specs.Machine.{Machine, Session}
use Rattle.trials.specs.Trials.{Answered}

-- what follows of a value that was made
pub made_then : {X E : Type 0} (P Q : X → Type 0) (r : Result X E) → ((x : X) → P x → Q x) → IfOk r P → IfOk r Q
made_then P Q (Ok x) f h = f x h
made_then P Q (Err e) f h = tt

-- the answers of a run are the only ones that there are
pub only_answers : {t : Task} {calls : List Call} {answers : List Answer} {m : Machine} (r : Result (Vec Answer Global) ReadFault) → Answered t calls answers m → IfOk r (λ v. (n : Machine) × Session t calls (vec_items v) n) → IfOk r (λ v. vec_items v ≡ answers)
only_answers {t} {calls} {answers} r trial h =
    made_then (λ v. (n : Machine) × Session t calls (vec_items v) n) (λ v. vec_items v ≡ answers) r (λ v p. (trial.only (vec_items v) p.0 p.1).0) h
