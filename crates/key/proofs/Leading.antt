-- From call to call: the invariant of a key, and what a call on it is answered.
use Rattle.std.proofs.Common.{◌≡◌, ℕ, ◌+◌, min, Bool, true, false, cond, List, [], ◌∷◌, ◌++◌, sym, ap, ◌∙◌, subst, arith}
use mathlib.Core.Logic.{∥∥₁_map}
use Rattle.task.specs.Single.{is_lawful}
use Rattle.task.specs.Task.{Task, Lawful}
use Rattle.rules.specs.declared.calls.Call.{Call}
use Rattle.rules.specs.declared.calls.Answer.{Answer}
use Rattle.rules.specs.Machine.{Machine, Session, Session.open_empty, Session.and_then, opened}
use Rattle.rules.proofs.Soundness.{never_marked_down_lem}
use Rattle.table.specs.Meaning.{held}
use Rattle.table.specs.declared.task_table.TaskTable.{TaskTable}
use Rattle.marker.specs.declared.markers.Marker.{Marker}
use Rattle.marker.specs.Answers.{tallied, unconfirmed}
use Rattle.marker.specs.Shows.{Shows as MarkerShows, Answered as MarkerAnswered}
use Rattle.key.specs.declared.keys.Key.{Key}
use Rattle.key.specs.Tally.{how_many, tally_after}
use Rattle.key.specs.Led.{Led}
use Rattle.key.specs.Keys.{Opened, Answered, task_of}

-- one answer more
how_many_more : (rs : List Answer) (r : Answer) → how_many (rs ++ r ∷ []) ≡ how_many rs + cond (unconfirmed r) 1 0
how_many_more [] r = omega arith
how_many_more (x ∷ rs) r = omega (arith, how_many_more rs r)

counted_on : (b : Bool) (n x y : ℕ) → n ≡ min x 65535 → y ≡ x + cond b 1 0 → cond b (min (n + 1) 65535) n ≡ min y 65535
counted_on true n x y e f = omega arith
counted_on false n x y e f = omega arith

pub tally_more : (rs : List Answer) (r : Answer) (n : ℕ) → n ≡ tally_after rs → tallied n r ≡ tally_after (rs ++ r ∷ [])
tally_more rs r n e = counted_on (unconfirmed r) n (how_many rs) (how_many (rs ++ r ∷ [])) e (how_many_more rs r)

-- an opened marker is led to by no calls
pub led_opened : (k : Marker TaskTable) (table : TaskTable) → k.source ≡ table → MarkerShows (held table) k opened → k.tally ≡ 0 → Led k
led_opened k table same shown none = ∣ record { calls = []; answers = []; machine = opened; session = open_empty; shown = subst (λ s. MarkerShows (held s) k opened) (sym same) shown; tally = none } ∣₁

pub key_opened : {t : Task} (k : Key) (table : TaskTable) → held table ≡ t → k.marker.source ≡ table → MarkerShows (held table) k.marker opened → k.marker.tally ≡ 0 → Opened t k
key_opened k table is same shown none = record {
  task = ap held same ∙ is;
  shown = subst (λ s. MarkerShows (held s) k.marker opened) (sym same) shown;
  tally = none;
}

-- one call more leads on
module _ {before after : Marker TaskTable} (c : Call) (r : Answer) (same : after.source ≡ before.source) (tally : after.tally ≡ tallied before.tally r) (turn : MarkerAnswered (held before.source) before c r after) where
  pub led_more : Led before → Led after
  led_more led = ∥∥₁_map led (λ past.
      let next = turn past.machine past.shown in
      record {
        calls = past.calls ++ c ∷ [];
        answers = past.answers ++ r ∷ [];
        machine = next.0;
        session = subst (λ s. Session (held s) (past.calls ++ c ∷ []) (past.answers ++ r ∷ []) next.0) (sym same) (and_then past.session next.1);
        shown = subst (λ s. MarkerShows (held s) after next.0) (sym same) next.2;
        tally = tally ∙ tally_more past.answers r before.tally past.tally;
      })

pub key_answered : (before after : Key) (c : Call) (r : Answer) → after.marker.source ≡ before.marker.source → after.marker.tally ≡ tallied before.marker.tally r
    → MarkerAnswered (task_of before) before.marker c r after.marker → Answered before c r after
key_answered before after c r same tally turn = record {
  task = ap held same;
  turn = λ m s. let next = turn m s in (next.0, next.1, shown next.0 next.2);
  tally = tally;
  followed = ∥∥₁_map before.led (λ past.
      let next = turn past.machine past.shown in
      record {
        past = past;
        next = next.0;
        turn = next.1;
        shown = shown next.0 next.2;
        sound_before = λ near. never_marked_down_lem (task_of before) law near past.calls past.answers past.machine past.session;
        sound_after = λ near. never_marked_down_lem (task_of before) law near (past.calls ++ c ∷ []) (past.answers ++ r ∷ []) next.0 (and_then past.session next.1);
      });
}
  where
    law : Lawful (task_of before)
    law = is_lawful (task_of before) before.marker.source.lawful

    shown : (n : Machine) → MarkerShows (task_of before) after.marker n → MarkerShows (task_of after) after.marker n
    shown n s = subst (λ x. MarkerShows (held x) after.marker n) (sym same) s
