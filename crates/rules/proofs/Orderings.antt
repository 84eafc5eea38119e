-- Confirmed orderings: every path keeps them.
use Rattle.std.proofs.Common.{ℕ, suc, ◌<◌, List, length, get_or, subst, ⊎_elim, arith}
use Rattle.task.specs.Task.{Task, Fact, Gives, Lawful}
use Rattle.task.specs.Paths.{Holds, Path, state_at}
use Rattle.task.proofs.Running.{reached_more, allowed_at, held_or_given, given_holds_at}
use Rattle.reach.proofs.Sequences.{path_relaxed}
use Rattle.rules.specs.declared.calls.Kind.{Kind}
use Rattle.rules.specs.declared.calls.Kind.TheVariants.{Greedy, Necessary}
use Rattle.rules.specs.Marks.{Counts, Confirmed, Keeps}
use Rattle.rules.specs.Marked.{NecessaryKeepsGreedy}
use Rattle.rules.proofs.Covered.{achievers_covered_lem}

-- an action of a path that counts for a confirmed ordering finds the earlier fact
earlier_holds : (k : Kind) (t : Task) (p : List ℕ) (e l : Fact) → Confirmed k t e l → Path t p → (i : ℕ) → i < length p → Counts k t l (get_or p i 0) → Holds t (state_at t p i) e
earlier_holds k t p e l c w i h counts = (allowed_at t t.start p w i h).met e (c (get_or p i 0) counts)

-- the action before a fact first holds achieves it
first_given : (t : Task) (p : List ℕ) (l : Fact) (i : ℕ) → i < length p → Holds t (state_at t p (suc i)) l → (Holds t (state_at t p i) l → ⊥) → Gives t (get_or p i 0) l
first_given t p l i h later before =
    ⊎_elim (λ held. absurd (before held)) (λ given. given)
    (held_or_given t (state_at t p i) (get_or p i 0) l (subst (λ s. Holds t s l) (reached_more t t.start p i h) later))

pub necessary_keeps_greedy_lem : NecessaryKeepsGreedy
necessary_keeps_greedy_lem t p e l keeps i h later none_before = keeps i h (first_given t p l i h later (none_before i (omega arith)))

-- a confirmed ordering is kept by every path: until the later fact first holds, no action achieves it
pub ordering_kept : (t : Task) → Lawful t → (k : Kind) (e l : Fact) → Confirmed k t e l → (p : List ℕ) → Path t p → Keeps k t p e l
ordering_kept t law Greedy e l c p w = λ i h later none_before.
    let given = first_given t p l i h later (none_before i (omega arith)) in
    earlier_holds Greedy t p e l c w i h
    ((achievers_covered_lem t p (path_relaxed t p w) l i h given).1 (λ j below gives. none_before (suc j) below (given_holds_at t law p j l (omega arith) gives)))
ordering_kept t law Necessary e l c p w = λ i h given. earlier_holds Necessary t p e l c w i h (achievers_covered_lem t p (path_relaxed t p w) l i h given).0
