-- The front parts of a list of calls.
use Rattle.std.proofs.Common.{◌≡◌, ℕ, ◌+◌, ◌<◌, ◌≤◌, List, [], ◌∷◌, ◌++◌, length, get_or, take, sym, refl, ap, ◌∙◌, subst, inl, inr, arith, length-append, take_all}
use lib.Seq.{take-append-le}
use Rattle.std.proofs.lemmas.List.{take_more}
use Rattle.std.proofs.lemmas.Bool.{cases_lt}
use Rattle.task.specs.Task.{Task, Lawful}
use Rattle.rules.specs.declared.calls.Call.{Call}
use Rattle.rules.specs.declared.calls.Answer.{Answer}
use Rattle.rules.specs.Machine.{Machine, Session, Session.open_empty, Session.and_then, opened}
use Rattle.rules.proofs.Soundness.{never_marked_down_lem}
use Rattle.key.specs.declared.keys.Key.{Key}
use Rattle.key.specs.Keys.{Shows, Opened, Answered, task_of, tally_of}
use Rattle.key.specs.Tally.{tally_after}
use Rattle.key.specs.Replayed.{Replayed}
use Rattle.key.proofs.Leading.{tally_more}

-- each call has an answer
session_length : {t : Task} {cs : List Call} {rs : List Answer} {m : Machine} → Session t cs rs m → length rs ≡ length cs
session_length open_empty = refl
session_length (and_then {cs} {rs} {c = c} {r = r} s turn) = omega (arith, length-append cs (c ∷ []), length-append rs (r ∷ []), session_length s)

-- the machine was led to by every front part of the calls
session_front : {t : Task} {cs : List Call} {rs : List Answer} {m : Machine} → Session t cs rs m → (i : ℕ) → i ≤ length cs → (n : Machine) × Session t (take i cs) (take i rs) n
session_front {t} open_empty i h =
    let none : i ≡ 0 = omega arith in
    (opened, subst (λ j. Session t (take j []) (take j []) opened) (sym none) open_empty)
session_front {t} (and_then {cs} {rs} {m} {m'} {c} {r} s turn) i h =
    elim (cases_lt (length cs) i) [
      | inl past ↦
          let long : length (cs ++ c ∷ []) ≤ i = omega (arith, length-append cs (c ∷ [])) in
          let also : length (rs ++ r ∷ []) ≤ i = omega (arith, length-append rs (r ∷ []), session_length s) in
          (m', rw (take_all i (cs ++ c ∷ []) long, take_all i (rs ++ r ∷ []) also) (and_then s turn))
      | inr low ↦
          let within : i ≤ length rs = omega (arith, session_length s) in
          let front = session_front s i low in
          (front.0, rw (take-append-le i cs (c ∷ []) low, take-append-le i rs (r ∷ []) within) front.1)
    ]

-- what a loop over the calls keeps: after i of them the key shows the machine that they lead to
pub record Going (t : Task) (calls : List Call) (i : ℕ) (rs : List Answer) (k : Key) : Type 0 where
  pub task : task_of k ≡ t
  pub m : Machine
  pub session : Session (task_of k) (take i calls) rs m
  pub shown : Shows k m
  pub tally : tally_of k ≡ tally_after rs

pub going_none : {t : Task} (calls : List Call) {rs : List Answer} (k : Key) → Opened t k → rs ≡ [] → Going t calls 0 rs k
going_none calls {rs} k new e = record {
  task = new.task;
  m = opened;
  session = rw e open_empty;
  shown = new.shown;
  tally = new.tally ∙ ap tally_after (sym e);
}

pub going_on : {t : Task} (calls : List Call) (i : ℕ) {rs ss : List Answer} (c : Call) (r : Answer) (before after : Key) → i < length calls → c ≡ get_or calls i c → ss ≡ rs ++ r ∷ []
    → Going t calls i rs before → Answered before c r after → Going t calls (i + 1) ss after
going_on {t} calls i {rs} {ss} c r before after h is e going answered =
    let next = answered.turn going.m going.shown in
    let more : take (i + 1) calls ≡ take i calls ++ c ∷ [] = take_more calls i c h ∙ ap (λ x. take i calls ++ x ∷ []) (sym is) in
    record {
      task = answered.task ∙ going.task;
      m = next.0;
      session = subst (λ x. Session x (take (i + 1) calls) ss next.0) (sym answered.task) (rw (e, more) (and_then going.session next.1));
      shown = next.2;
      tally = answered.tally ∙ tally_more rs r (tally_of before) going.tally ∙ ap tally_after (sym e);
    }

-- at the end
pub replayed : {t : Task} → Lawful t → (calls : List Call) (i : ℕ) (rs : List Answer) (k : Key) → length calls ≤ i → Going t calls i rs k → Replayed t calls rs k
replayed {t} law calls i rs k h going = record {
  task = going.task;
  each = λ j low. let front = session_front session j low in (front.0, (front.1, λ near. never_marked_down_lem t law near _ _ _ front.1));
  shown = (going.m, (session, λ near. never_marked_down_lem t law near _ _ _ session), going.shown);
  tally = going.tally;
}
  where
    session : Session t calls rs going.m
    session = subst (λ x. Session x calls rs going.m) going.task (subst (λ xs. Session (task_of k) xs rs going.m) (take_all i calls h) going.session)
