-- What a key shows, and what a call on it is answered.
use Rattle.std.specs.Prelude.{◌≡◌, ℕ}
use Rattle.task.specs.Task.{Task}
use Rattle.reach.specs.Relaxed.{GoalInReach}
use Rattle.rules.specs.declared.calls.Call.{Call}
use Rattle.rules.specs.declared.calls.Answer.{Answer}
use Rattle.rules.specs.Machine.{Machine, Turn, opened}
use Rattle.rules.specs.Sound.{Sound}
use Rattle.table.specs.Meaning.{held}
use Rattle.marker.specs.Answers.{tallied}
use Rattle.marker.specs.Shows.{Shows as MarkerShows}
use Rattle.key.specs.declared.keys.Key.{Key}
use Rattle.key.specs.Led.{History}

-- the task of a key
abbrev pub task_of : Key → Task
task_of k = held k.marker.source

-- the tally of a key
abbrev pub tally_of : Key → ℕ
tally_of k = k.marker.tally

-- the key shows the machine: the same facts, orderings, state, steps and facts visited
abbrev pub Shows : Key → Machine → Type 0
Shows k m = MarkerShows (task_of k) k.marker m

-- a new key over the task t
pub record Opened (t : Task) (k : Key) : Type 0 where
  pub task : task_of k ≡ t
  pub shown : Shows k opened
  pub tally : tally_of k ≡ 0

-- the key has a history, and the call leads on from the machine there; where the goal is in relaxed reach, neither that machine nor the next marks a plan down
pub record Followed (before : Key) (c : Call) (r : Answer) (after : Key) : Type 0 where
  pub past : History before.marker
  pub next : Machine
  pub turn : Turn (task_of before) past.machine c r next
  pub shown : Shows after next
  pub sound_before : GoalInReach (task_of before) → Sound (task_of before) past.machine
  pub sound_after : GoalInReach (task_of before) → Sound (task_of before) next

-- a call: the task stays; whatever machine the key showed, the answer is that machine's, and the key shows the machine after it; the tally is counted on; and the key has such a machine
pub record Answered (before : Key) (c : Call) (r : Answer) (after : Key) : Type 0 where
  pub task : task_of after ≡ task_of before
  pub turn : (m : Machine) → Shows before m → (n : Machine) × Turn (task_of before) m c r n × Shows after n
  pub tally : tally_of after ≡ tallied (tally_of before) r
  pub followed : ∥ Followed before c r after ∥₁
