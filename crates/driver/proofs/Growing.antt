-- From call to call, and from one part of filling a key to the next.
use Rattle.std.proofs.Common.{◌≡◌, ℕ, ◌+◌, ◌<◌, true, sym, refl, ◌∙◌, subst, inl, inr, arith}
use Rattle.std.proofs.lemmas.Bool.{cases_eq}
use Rattle.task.specs.Task.{Task, facts}
use Rattle.task.proofs.Numbers.{numbered_below}
use Rattle.reach.specs.Relaxed.{GoalInReach}
use Rattle.rules.specs.declared.calls.Kind.{Kind}
use Rattle.rules.specs.declared.calls.Kind.TheVariants.{Greedy, Necessary}
use Rattle.rules.specs.declared.calls.Call.TheVariants.{Propose, Order}
use Rattle.rules.specs.declared.calls.Answer.{Answer}
use Rattle.rules.specs.Machine.{Machine, KindNumber, opened}
use Rattle.rules.specs.Sound.{LandmarkAt, ConfirmedAt, Kept}
use Rattle.rules.proofs.Sessions.{session_kept}
use Rattle.key.specs.declared.keys.Key.{Key}
use Rattle.key.specs.Keys.{Shows, Opened, Answered, task_of}
use Rattle.driver.specs.Filling.{Leads, Leads.stays, Leads.proposes, Leads.orders, Grown, LandmarksHeld, OrderedFrom, OrderingsHeld}
use Rattle.driver.specs.Marking.{AllMarked, MarkedKey}
use Rattle.driver.proofs.Turning.{took, bonded}
use Rattle.driver.proofs.Leading.{leads_on, held_grows, ordered_grows, same_moves, stays_put, leads_session}

-- what is said of a task and two machines
abbrev pub Saying : Type 1
Saying = Task → Machine → Machine → Type 0

-- so far nothing was done
pub grown_start : {Said : Saying} (k : Key) → ((t : Task) (m : Machine) → Said t m m) → Grown Said k k
grown_start k h = record { task = refl; shown = λ m s. (m, s, stays, λ near. h (task_of k) m) }

-- the same over another name of the task
pub over : {Said : Saying} {a b : Key} {t : Task} → Grown Said a b → task_of a ≡ t → (m : Machine) → Shows a m → (n : Machine) × Shows b n × Leads t m n × (GoalInReach t → Said t m n)
over {Said} {a} {b} g e m s = subst (λ (t : Task). (n : Machine) × Shows b n × Leads t m n × (GoalInReach t → Said t m n)) e (g.shown m s)

-- one part after another
pub grown_more : {Said Step Next : Saying} {a b c : Key} → Grown Said a b → Grown Step b c → ((t : Task) (m n p : Machine) → Leads t m n → Leads t n p → Said t m n → Step t n p → Next t m p) → Grown Next a c
grown_more {Said} {Step} {Next} {a} {b} {c} g h join = record {
  task = h.task ∙ g.task;
  shown = λ m s.
      let (n, sn, to-n, said) = g.shown m s in
      let (p, sp, to-p, step) = over h g.task n sn in
      (p, sp, leads_on to-n to-p, λ near. join (task_of a) m n p to-n to-p (said near) (step near));
}

-- less is said
pub grown_as : {Said Next : Saying} {a b : Key} → Grown Said a b → ((m n : Machine) → Said (task_of a) m n → Next (task_of a) m n) → Grown Next a b
grown_as g h = record {
  task = g.task;
  shown = λ m s. let (n, sn, to-n, said) = g.shown m s in (n, sn, to-n, λ near. h m n (said near));
}

-- the fact k is held if it is a landmark
abbrev pub Took : ℕ → Saying
Took k t m n = LandmarkAt t k → n.held k ≡ true

-- the ordering is held if it is confirmed
abbrev pub Bonded : Kind → ℕ → ℕ → Saying
Bonded κ e l t m n = m.held e ≡ true → m.held l ≡ true → ConfirmedAt t κ e l → n.ordered κ e l ≡ true

pub called_propose : {a b : Key} {k : ℕ} {r : Answer} → Answered a (Propose k) r b → Grown (Took k) a b
called_propose h = record {
  task = h.task;
  shown = λ m s. let (n, turn, sn) = h.turn m s in (n, sn, proposes stays turn, λ near mark. took turn near mark);
}

pub called_order : {a b : Key} {k e l : ℕ} {r : Answer} (κ : Kind) → KindNumber k κ → Answered a (Order k e l) r b → Grown (Bonded κ e l) a b
called_order κ kind h = record {
  task = h.task;
  shown = λ m s. let (n, turn, sn) = h.turn m s in (n, sn, orders stays turn, λ near he hl sure. bonded turn near κ kind he hl sure);
}

-- the landmarks below a bound are held
abbrev pub LandmarksTo : ℕ → Saying
LandmarksTo bound t m n = (k : ℕ) → k < bound → LandmarkAt t k → n.held k ≡ true

pub landmarks_none : (k : Key) → Grown (LandmarksTo 0) k k
landmarks_none k = grown_start k (λ t m j low mark. let z : ⊥ = omega arith in absurd z)

pub landmarks_more : {a b c : Key} {r : Answer} (i : ℕ) → Grown (LandmarksTo i) a b → Answered b (Propose i) r c → Grown (LandmarksTo (i + 1)) a c
landmarks_more {a} {b} {c} i g h = grown_more {Said = LandmarksTo i} {Step = Took i} {Next = LandmarksTo (i + 1)} g (called_propose h) join
  where
    join : (t : Task) (m n p : Machine) → Leads t m n → Leads t n p → LandmarksTo i t m n → Took i t n p → LandmarksTo (i + 1) t m p
    join t m n p to-n to-p said step k low mark = elim (cases_eq k i) [
      | inl e ↦ subst (λ (j : ℕ). p.held j ≡ true) (sym e) (step (subst (LandmarkAt t) e mark))
      | inr ne ↦ held_grows to-p k (said k (omega arith) mark)
    ]

pub landmarks_all : {a b : Key} (i : ℕ) → i ≡ facts (task_of a) → Grown (LandmarksTo i) a b → Grown LandmarksHeld a b
landmarks_all {a} i e g = grown_as {Said = LandmarksTo i} {Next = LandmarksHeld} g (λ m n said k mark. said k (omega (arith, numbered_below mark.1)) mark)

-- the orderings of an earlier fact with those below a bound are held
abbrev pub FromTo : ℕ → ℕ → Saying
FromTo e bound t m n = (κ : Kind) (l : ℕ) → l < bound → Bonded κ e l t m n

pub from_none : (e : ℕ) (k : Key) → Grown (FromTo e 0) k k
from_none e k = grown_start k (λ t m κ l low he hl sure. let z : ⊥ = omega arith in absurd z)

-- and the greedy one with the next
abbrev HalfTo : ℕ → ℕ → Saying
HalfTo e i t m n = FromTo e i t m n × Bonded Greedy e i t m n

pub from_more : {a b c d : Key} {r s : Answer} {j k : ℕ} (e i : ℕ) → KindNumber j Greedy → KindNumber k Necessary → Grown (FromTo e i) a b → Answered b (Order j e i) r c → Answered c (Order k e i) s d → Grown (FromTo e (i + 1)) a d
from_more {a} {b} {c} {d} e i greedy necessary g h₁ h₂ =
    grown_more {Said = HalfTo e i} {Step = Bonded Necessary e i} {Next = FromTo e (i + 1)}
    (grown_more {Said = FromTo e i} {Step = Bonded Greedy e i} {Next = HalfTo e i} g (called_order Greedy greedy h₁) half)
    (called_order Necessary necessary h₂) whole
  where
    half : (t : Task) (m n p : Machine) → Leads t m n → Leads t n p → FromTo e i t m n → Bonded Greedy e i t n p → HalfTo e i t m p
    half t m n p to-n to-p said step =
        (λ κ l low he hl sure. ordered_grows to-p κ e l (said κ l low he hl sure), λ he hl sure. step (held_grows to-n e he) (held_grows to-n i hl) sure)

    whole : (t : Task) (m n p : Machine) → Leads t m n → Leads t n p → HalfTo e i t m n → Bonded Necessary e i t n p → FromTo e (i + 1) t m p
    whole t m n p to-n to-p (said, greedy) step κ l low he hl sure = elim (cases_eq l i) [
      | inl q ↦ subst (λ (j : ℕ). p.ordered κ e j ≡ true) (sym q) (last κ (subst (λ (j : ℕ). m.held j ≡ true) q hl) (subst (ConfirmedAt t κ e) q sure))
      | inr ne ↦ ordered_grows to-p κ e l (said κ l (omega arith) he hl sure)
    ]
      where
        last : (κ : Kind) → m.held i ≡ true → ConfirmedAt t κ e i → p.ordered κ e i ≡ true
        last Greedy hi at = ordered_grows to-p Greedy e i (greedy he hi at)
        last Necessary hi at = step (held_grows to-n e he) (held_grows to-n i hi) at

pub from_all : {a b : Key} (e i : ℕ) → i ≡ facts (task_of a) → Grown (FromTo e i) a b → Grown (OrderedFrom e) a b
from_all {a} e i q g = grown_as {Said = FromTo e i} {Next = OrderedFrom e} g (λ m n said κ l he hl sure. said κ l (omega (arith, numbered_below sure.1.2)) he hl sure)

-- the orderings of the earlier facts below a bound are held
abbrev pub AllTo : ℕ → Saying
AllTo bound t m n = (e : ℕ) → e < bound → OrderedFrom e t m n

pub all_none : (k : Key) → Grown (AllTo 0) k k
all_none k = grown_start k (λ t m e low κ l he hl sure. let z : ⊥ = omega arith in absurd z)

pub all_more : {a b c : Key} (i : ℕ) → Grown (AllTo i) a b → Grown (OrderedFrom i) b c → Grown (AllTo (i + 1)) a c
all_more {a} {b} {c} i g h = grown_more {Said = AllTo i} {Step = OrderedFrom i} {Next = AllTo (i + 1)} g h join
  where
    join : (t : Task) (m n p : Machine) → Leads t m n → Leads t n p → AllTo i t m n → OrderedFrom i t n p → AllTo (i + 1) t m p
    join t m n p to-n to-p said step e low κ l he hl sure = elim (cases_eq e i) [
      | inl q ↦ subst (λ (j : ℕ). p.ordered κ j l ≡ true) (sym q) (step κ l (held_grows to-n i (subst (λ (j : ℕ). m.held j ≡ true) q he)) (held_grows to-n l hl) (subst (λ (j : ℕ). ConfirmedAt t κ j l) q sure))
      | inr ne ↦ ordered_grows to-p κ e l (said e (omega arith) κ l he hl sure)
    ]

pub all_all : {a b : Key} (i : ℕ) → i ≡ facts (task_of a) → Grown (AllTo i) a b → Grown OrderingsHeld a b
all_all {a} i q g = grown_as {Said = AllTo i} {Next = OrderingsHeld} g (λ m n said e κ l he hl sure. said e (omega (arith, numbered_below sure.1.1)) κ l he hl sure)

-- an empty key that was filled has all that is confirmed
all_marked : (t : Task) (m n : Machine) → Leads t opened m → (GoalInReach t → LandmarksHeld t opened m) → Leads t m n → (GoalInReach t → OrderingsHeld t m n) → AllMarked t n
all_marked t m n to-m marks to-n bonds = record {
  facts = λ near k. (kept.landmarks k, λ mark. held_grows to-n k (marks near k mark));
  orderings = λ near κ e l. (
    λ o. let (he, hl) = kept.ends κ e l o in (kept.landmarks e he, kept.landmarks l hl, kept.orderings κ e l o),
    λ h. bonds near e κ l (marks near e h.0) (marks near l h.1) h.2,
  );
  empty = λ far. stays_put far (leads_on to-m to-n);
  moves = same_moves (leads_on to-m to-n);
}
  where
    kept : Kept t n
    kept = session_kept t (leads_session (leads_on to-m to-n)).1.1

pub marked_key_lem : {t : Task} {a b c : Key} → Opened t a → Grown LandmarksHeld a b → Grown OrderingsHeld b c → MarkedKey t c
marked_key_lem {t} {a} {b} {c} new g h =
    let (m, sm, to-m, marks) = over g new.task opened new.shown in
    let (n, sn, to-n, bonds) = over h (g.task ∙ new.task) m sm in
    record { task = h.task ∙ g.task ∙ new.task; machine = n; shown = sn; marked = all_marked t m n to-m marks to-n bonds }
