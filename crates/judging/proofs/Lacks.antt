-- Achievers that lack a condition, by what a table of the reach says.
use Rattle.std.proofs.Common.{◌≡◌, ℕ, ◌+◌, ◌<◌, true, false, get_or, Some, None, Option, sym, refl, ap, ◌∙◌, inl, inr, arith, MatchOption}
use Rattle.std.proofs.lemmas.Bool.{cases_eq}
use Rattle.task.specs.Task.{Task, Fact, Lawful, Needs, Numbered, fact, offset}
use Rattle.task.proofs.Inside.{need_var}
use Rattle.task.proofs.Options.{dec_some}
use Rattle.reach.specs.declared.tables.ReachTable.{ReachTable}
use Rattle.reach.specs.Built.{ReachBuilt}
use Rattle.reach.specs.Measures.{of_yes}
use Rattle.rules.specs.declared.calls.Kind.{Kind}
use Rattle.rules.specs.declared.calls.Kind.TheVariants.{Greedy, Necessary}
use Rattle.rules.specs.Marks.{Confirmed, counted_in}
use Rattle.rules.specs.Machine.{Lowest, Lacking}
use Rattle.judging.specs.Achievers.{AllIn, LacksIn}
use Rattle.judging.proofs.Lowest.{lowest_as}

-- the table has the conditions on the variables below i
abbrev pub InBelow : Task → ReachTable → ℕ → ℕ → Type 0
InBelow t reach a i = (k : ℕ) (f : Fact) → f.variable < i → Numbered t k f → Needs t a f → (get_or reach.table k (of_yes false)).yes ≡ true

pub in_more : (t : Task) (reach : ReachTable) (a i off : ℕ) → off ≡ offset t.size i → InBelow t reach a i → ((x : ℕ) → t.need a i ≡ Some x → (get_or reach.table (off + x) (of_yes false)).yes ≡ true) → InBelow t reach a (i + 1)
in_more t reach a i off at below here k f l num need =
    elim (cases_eq f.variable i) [
      | inl e ↦
          (let place : k ≡ off + f.value = omega (arith, num.is, ap (offset t.size) e) in
          ap (λ n. (get_or reach.table n (of_yes false)).yes) place ∙ here f.value (ap (t.need a) (sym e) ∙ need))
      | inr ne ↦ below k f (omega arith) num need
    ]

pub in_all : (t : Task) (reach : ReachTable) (a : ℕ) → InBelow t reach a t.vars → AllIn t reach a
in_all t reach a all k f num need = all k f num.in_vars num need

-- a condition of an action has a number
pub need_numbered : {t : Task} → Lawful t → (a v off x : ℕ) → off ≡ offset t.size v → t.need a v ≡ Some x → Numbered t (off + x) (fact v x)
need_numbered law a v off x at need = record { in_vars = need_var law a v x need; in_size = law.need_in a v x need; is = ap (λ o. o + x) at }

-- facts have the same numbers in the task that counts
pub numbered_counted : (κ : Kind) (later : Fact) {t : Task} {k : ℕ} {f : Fact} → Numbered t k f → Numbered (counted_in κ t later) k f
numbered_counted Greedy later num = record { in_vars = num.in_vars; in_size = num.in_size; is = num.is }
numbered_counted Necessary later num = num

module _ {t : Task} (law : Lawful t) (κ : Kind) (earlier later : Fact) (reach : ReachTable) (built : ReachBuilt (counted_in κ t later) reach.table) where
  lacks_to : (a : ℕ) → LacksIn t reach earlier later a → Lacking κ t earlier later a
  lacks_to a (here, gives, all, lacks) = (
    record {
      present = here;
      achieves = gives;
      possible = λ g need.
          let num = need_numbered law a g.variable _ g.value refl need in
          (built _ g (numbered_counted κ later num)).0 (all _ g num need);
    },
    lacks,
  )

  lacks_from : (a : ℕ) → Lacking κ t earlier later a → LacksIn t reach earlier later a
  lacks_from a (counts, lacks) = (counts.present, counts.achieves, λ k g num need. (built k g (numbered_counted κ later num)).1 (counts.possible g need), lacks)

  pub lacks_judged : (r : Option ℕ) → MatchOption r ((a : ℕ) → LacksIn t reach earlier later a → ⊥) (Lowest (LacksIn t reach earlier later)) → MatchOption r (Confirmed κ t earlier later) (Lowest (Lacking κ t earlier later))
  lacks_judged None never = λ a counts. elim (dec_some (t.need a earlier.variable) earlier.value) [ yes need ↦ need | no lacks ↦ absurd (never a (lacks_from a (counts, lacks))) ]
  lacks_judged (Some a) low = lowest_as lacks_to lacks_from low
