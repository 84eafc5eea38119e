-- The papers are accepted and their tasks are lawful; all of it is computed.
use Rattle.std.proofs.Common.{◌≡◌, ℕ, zero, suc, ◌%◌, ◌<◌, Bool, true, false, eqb, ltb, List, length, Some, None, Option, sym, refl, subst, inl, inr, arith}
use Rattle.std.proofs.lemmas.Bool.{cases_eq, both_ways, false≢true, eqb-true, eqb-false, ltb-true, lt-ltb}
use Rattle.task.specs.Task.{Lawful}
use Rattle.reach.specs.Relaxed.{GoalInReach}
use Rattle.records.specs.declared.record.Record.{Record}
use Rattle.records.specs.declared.fault.Ground.{Ground}
use Rattle.records.specs.Records.{records, BadLength}
use Rattle.records.specs.Faults.{fault_at, Sound}
use Rattle.forms.specs.Reading.{Accepted}
use Rattle.forms.proofs.Lawfuls.{form_lawful}
use Rattle.paper.specs.Paper.{paper_rules, paper_fault, paper_task}
use Rattle.paper.specs.Papers.{paper_grows}
use Rattle.trials.specs.Papers.{paper_a, paper_b, paper_c, paper_d, task_a, task_b, task_c, task_d, PapersAccepted}
use Rattle.trials.proofs.Tests.{both}
use Rattle.trials.proofs.Layers.{both_parts, says_near}

-- no fault among the first n records
abbrev fine : Option Ground → Bool
fine None = true
fine (Some g) = false

fine_none : (o : Option Ground) → fine o ≡ true → o ≡ None
fine_none None e = refl
fine_none (Some g) e = absurd (false≢true e)

abbrev clear : List Record → ℕ → Bool
clear rs zero = true
clear rs (suc n) = both (fine (fault_at paper_fault rs n)) (λ _. clear rs n)

clear_none : (rs : List Record) (n : ℕ) → clear rs n ≡ true → (i : ℕ) → i < n → fault_at paper_fault rs i ≡ None
clear_none rs zero e i l = absurd (let z : ⊥ = omega arith in z)
clear_none rs (suc n) e i l =
    let (here, below) = both_parts (fine (fault_at paper_fault rs n)) (λ _. clear rs n) e in
    elim (cases_eq i n) [
      | inl q ↦ subst (λ j. fault_at paper_fault rs j ≡ None) (sym q) (fine_none (fault_at paper_fault rs n) here)
      | inr ne ↦ clear_none rs n below i (omega arith)
    ]

-- a length that the computed tests pass
good_length : (n : ℕ) → eqb n 0 ≡ false → eqb (n % 4) 0 ≡ true → ltb 35328 n ≡ false → BadLength n → ⊥
good_length n some whole few (inl e) = eqb-false n 0 some e
good_length n some whole few (inr (inl part)) = part (eqb-true (n % 4) 0 whole)
good_length n some whole few (inr (inr more)) = both_ways (ltb 35328 n) few (lt-ltb 35328 n more)

-- bytes of such a length whose records are clear are accepted
accepted : (bs : List ℕ) → eqb (length bs) 0 ≡ false → eqb (length bs % 4) 0 ≡ true → ltb 35328 (length bs) ≡ false → clear (records bs) (length (records bs)) ≡ true → Accepted paper_fault paper_task bs (paper_task (records bs))
accepted bs some whole few e = record { long = good_length (length bs) some whole few; sound = clear_none (records bs) (length (records bs)) e; means = refl }

pub papers_accepted_lem : PapersAccepted
papers_accepted_lem = record {
  a = accepted paper_a refl refl refl refl;
  b = accepted paper_b refl refl refl refl;
  c = accepted paper_c refl refl refl refl;
  d = accepted paper_d refl refl refl refl;
}

-- so their tasks are lawful
lawful_paper : (rs : List Record) → 0 < length rs → Sound paper_fault rs → Lawful (paper_task rs)
lawful_paper = form_lawful paper_rules refl paper_grows

pub law_a : Lawful task_a
law_a = lawful_paper (records paper_a) (ltb-true 0 _ refl) papers_accepted_lem.a.sound

pub law_b : Lawful task_b
law_b = lawful_paper (records paper_b) (ltb-true 0 _ refl) papers_accepted_lem.b.sound

pub law_c : Lawful task_c
law_c = lawful_paper (records paper_c) (ltb-true 0 _ refl) papers_accepted_lem.c.sound

pub law_d : Lawful task_d
law_d = lawful_paper (records paper_d) (ltb-true 0 _ refl) papers_accepted_lem.d.sound

-- and the goals of three of them are in reach
pub near_a : GoalInReach task_a
near_a = (says_near law_a).holds refl

pub near_b : GoalInReach task_b
near_b = (says_near law_b).holds refl

pub near_c : GoalInReach task_c
near_c = (says_near law_c).holds refl
