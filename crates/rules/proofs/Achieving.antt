-- The achievers that count: the greedy kind counts the fewer, and a landmark that is in reach has one.
use Rattle.std.proofs.Common.{ℕ}
use Rattle.task.specs.Task.{Task, Fact}
use Rattle.rules.specs.declared.calls.Kind.{Kind}
use Rattle.rules.specs.declared.calls.Kind.TheVariants.{Greedy, Necessary}
use Rattle.rules.specs.Marks.{Counts}
use Rattle.rules.specs.Marked.{AchieversCount, NecessaryIsGreedy}
use Rattle.rules.proofs.Barring.{barred_reach}
use Rattle.rules.proofs.Landmarks.{landmark_had, first_counts}

-- what counts for the greedy kind counts for the necessary one
greedy_counts : (t : Task) (f : Fact) (a : ℕ) → Counts Greedy t f a → Counts Necessary t f a
greedy_counts t f a c = record { present = c.present; achieves = c.achieves; possible = λ g n. barred_reach t f g (c.possible g n) }

pub necessary_is_greedy_lem : NecessaryIsGreedy
necessary_is_greedy_lem t earlier later all a c = all a (greedy_counts t later a c)

-- and so for either
counts_for : (k : Kind) (t : Task) (f : Fact) (a : ℕ) → Counts Greedy t f a → Counts k t f a
counts_for Greedy t f a c = c
counts_for Necessary t f a c = greedy_counts t f a c

pub achievers_count_lem : AchieversCount
achievers_count_lem t (p, r, goal) f mark out k =
    let (i, l, c) = first_counts t p f r out (landmark_had t p f mark r goal) in
    (_, counts_for k t f _ c)
