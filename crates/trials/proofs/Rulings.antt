-- What each call is answered, computed, and that the rules say so.
use Rattle.std.proofs.Common.{◌≡◌, ℕ, zero, suc, ◌+◌, ◌<◌, ◌≤◌, max, Bool, true, false, not, eqb, ltb, ◌⊎◌, List, [], ◌∷◌, ◌++◌, map, length, Some, None, Option, sym, refl, subst, inl, inr, append_assoc, append-nil, arith}
use Rattle.std.proofs.lemmas.Bool.{cases_eq, cases_Bool, both_ways, eqb-true, eqb-false, ltb-true, ltb-false}
use Rattle.task.specs.Task.{Task, Fact, Goal, Needs, Lawful, Numbered, offset, facts}
use Rattle.task.specs.Paths.{State, Holds, Allowed, Visits, state_at, restarted, gives?}
use Rattle.task.specs.Limits.{barred_lawful, restarted_lawful}
use Rattle.task.proofs.Inside.{need_var, present_in}
use Rattle.task.proofs.Numbers.{numbered_below}
use Rattle.reach.specs.Relaxed.{GoalInReach}
use Rattle.rules.specs.declared.calls.Kind.{Kind}
use Rattle.rules.specs.declared.calls.Kind.TheVariants.{Greedy, Necessary}
use Rattle.rules.specs.declared.calls.Call.{Call}
use Rattle.rules.specs.declared.calls.Call.TheVariants.{Propose, Order, Begin, Step, Report}
use Rattle.rules.specs.declared.calls.Answer.{Answer}
use Rattle.rules.specs.declared.calls.Answer.TheVariants.{Done, Marked, Reported, Refused}
use Rattle.rules.specs.declared.calls.Mark.TheVariants.{Accepted, Known}
use Rattle.rules.specs.declared.calls.Refusal.TheVariants.{GoalOutOfReach, NoSuch, NoLandmark, OutsideKey, LaterAtStart, Unordered, NoAction, UnmetCondition, TooManySteps}
use Rattle.rules.specs.declared.calls.Remainder.TheVariants.{AtLeast, DeadEnd}
use Rattle.rules.specs.Marks.{Confirmed, counted_in}
use Rattle.rules.specs.Machine.{Machine, with_fact, with_ordering, with_moves, position, Lowest, MissedGoal, Unmet, Lacking, KindNumber, KindNumber.one_greedy, KindNumber.two_necessary, Visited, Owed, Effects, Width, quotient, standing, Ruled, Session}
use Rattle.rules.specs.Machine.Ruled.{propose_no_fact, propose_known, propose_confirmed, propose_rejected}
use Rattle.rules.specs.Machine.Ruled.{order_no_kind, order_no_earlier, order_no_later, order_earlier_out, order_later_out, order_start, order_known, order_confirmed, order_rejected}
use Rattle.rules.specs.Machine.Ruled.{begin_done, step_absent, step_full, step_unmet, step_done, report_dead, report_standing}
use Rattle.rules.specs.Machine.Turn.{goal_missed, ruled}
use Rattle.rules.specs.Machine.Session.{and_then}
use Rattle.rules.proofs.Counting.{count_unique}
use Rattle.trials.proofs.Tests.{choose, choose_both, both, either, Says, refuted, says_as, says_both, says_either, says_not, says_true, says_is, any, says_any, some_below, says_below, each, says_each, lowest, Found, lowest_found, tally, tallied}
use Rattle.trials.proofs.Layers.{fact_of, numbered_of, says_numbered, holding, says_holding, reached, says_reached, near, says_near, marked, says_marked, goal_layer, goal_level_lem}

-- an answer and the machine after it
abbrev pub Outcome : Type 0
Outcome = Answer × Machine

abbrev Right : Task → Machine → Call → Outcome → Type 0
Right t m c o = Ruled t m c o.0 o.1

-- propose
abbrev pub proposed : Task → Machine → ℕ → Outcome
proposed t m n =
    choose (ltb n (facts t))
    (λ _. choose (m.held n) (λ _. (Marked Known, m))
    (λ _. choose (marked t (fact_of t n)) (λ _. (Marked Accepted, with_fact m n)) (λ _. (Refused (NoLandmark n), m))))
    (λ _. (Refused (NoSuch n), m))

-- order
abbrev pub kind_of_lem : ℕ → Option Kind
kind_of_lem k = choose (eqb k 1) (λ _. Some Greedy) (λ _. choose (eqb k 2) (λ _. Some Necessary) (λ _. None))

abbrev pub lacking : Kind → Task → Fact → Fact → ℕ → Bool
lacking k t ef lf a =
    both (t.present a) (λ _. both (gives? (t.give a lf.variable) lf.value)
    (λ _. both (each (t.need a) (reached (counted_in k t lf)) t.vars) (λ _. not (gives? (t.need a ef.variable) ef.value))))

abbrev pub weighed : Machine → Kind → ℕ → ℕ → Option ℕ → Outcome
weighed m κ e l (Some a) = (Refused (Unordered a), m)
weighed m κ e l None = (Marked Accepted, with_ordering m κ e l)

abbrev pub compared : Task → Machine → Kind → ℕ → ℕ → Fact → Fact → Outcome
compared t m κ e l ef lf =
    choose (holding t t.start lf) (λ _. (Refused (LaterAtStart l), m))
    (λ _. choose (m.ordered κ e l) (λ _. (Marked Known, m)) (λ _. weighed m κ e l (lowest (lacking κ t ef lf) t.actions)))

abbrev pub found : Task → Machine → Kind → ℕ → ℕ → Outcome
found t m κ e l =
    choose (m.held e)
    (λ _. choose (m.held l) (λ _. compared t m κ e l (fact_of t e) (fact_of t l)) (λ _. (Refused (OutsideKey l), m)))
    (λ _. (Refused (OutsideKey e), m))

abbrev pub ordered : Task → Machine → ℕ → ℕ → ℕ → Option Kind → Outcome
ordered t m k e l None = (Refused (NoSuch k), m)
ordered t m k e l (Some κ) =
    choose (ltb e (facts t)) (λ _. choose (ltb l (facts t)) (λ _. found t m κ e l) (λ _. (Refused (NoSuch l), m))) (λ _. (Refused (NoSuch e), m))

-- step
abbrev pub unmet : Task → State → ℕ → Fact → Bool
unmet t s a f = both (gives? (t.need a f.variable) f.value) (λ _. not (holding t s f))

abbrev pub taken : Machine → ℕ → Option ℕ → Outcome
taken m a (Some n) = (Refused (UnmetCondition n), m)
taken m a None = (Done, with_moves m (m.moves ++ a ∷ []))

abbrev pub stepped : Task → Machine → ℕ → Outcome
stepped t m a =
    choose (t.present a)
    (λ _. choose (ltb (length m.moves) 65535) (λ _. taken m a (lowest (λ n. unmet t (position t m) a (fact_of t n)) (facts t))) (λ _. (Refused (TooManySteps a), m)))
    (λ _. (Refused (NoAction a), m))

-- report
abbrev pub visiting : Task → List ℕ → Fact → Bool
visiting t p f = some_below (suc (length p)) (λ i. holding t (state_at t p i) f)

abbrev pub visited : Task → Machine → ℕ → Bool
visited t m n = both (m.held n) (λ _. visiting t m.moves (fact_of t n))

abbrev pub owed_at : Task → Machine → ℕ → Fact → Bool
owed_at t m n f =
    either (both (m.held n) (λ _. not (visiting t m.moves f)))
    (λ _. both (gives? (t.goal f.variable) f.value) (λ _. not (holding t (position t m) f)))

abbrev pub owed : Task → Machine → ℕ → Bool
owed t m n = owed_at t m n (fact_of t n)

abbrev pub effects : Task → ℕ → ℕ
effects t a = tally (λ v. any (t.give a v)) t.vars

abbrev pub larger : ℕ → ℕ → ℕ
larger w c = choose (ltb w c) (λ _. c) (λ _. w)

abbrev pub widest : Task → ℕ → ℕ
widest t zero = 0
widest t (suc k) = choose (t.present k) (λ _. larger (widest t k) (effects t k)) (λ _. widest t k)

abbrev pub seen : Task → Machine → ℕ
seen t m = tally (visited t m) (facts t)

abbrev pub reported : Task → Machine → Outcome
reported t m =
    choose (near (restarted t (position t m)))
    (λ _. (Reported (standing (length m.moves) (seen t m) (AtLeast (max (goal_layer (restarted t (position t m))) (quotient (tally (owed t m) (facts t)) (widest t t.actions))))), m))
    (λ _. (Reported (standing (length m.moves) (seen t m) DeadEnd), m))

-- a call
abbrev pub respond : Task → Machine → Call → Outcome
respond t m (Propose n) = proposed t m n
respond t m (Order k e l) = ordered t m k e l (kind_of_lem k)
respond t m Begin = (Done, with_moves m [])
respond t m (Step a) = stepped t m a
respond t m Report = reported t m

-- the answers to calls, and the machine after them
abbrev pub play : Task → Machine → List Call → List Answer × Machine
play t m [] = ([], m)
play t m (c ∷ cs) = let o = respond t m c in let r = play t o.1 cs in (o.0 ∷ r.0, r.1)

-- the kind that a number stands for
abbrev KindIs : ℕ → Option Kind → Type 0
KindIs k (Some κ) = KindNumber k κ
KindIs k None = (κ : Kind) → KindNumber k κ → ⊥

kind_in : {k : ℕ} {κ : Kind} → KindNumber k κ → (1 ≤ k) × (k ≤ 2)
kind_in one_greedy = (omega arith, omega arith)
kind_in two_necessary = (omega arith, omega arith)

kind_is : (k : ℕ) → KindIs k (kind_of_lem k)
kind_is k =
    choose_both (eqb k 1) (Some Greedy) (choose (eqb k 2) (λ _. Some Necessary) (λ _. None)) (KindIs k)
    (λ e. subst (λ j. KindNumber j Greedy) (sym (eqb-true k 1 e)) one_greedy)
    (λ e. choose_both (eqb k 2) (Some Necessary) None (KindIs k)
    (λ d. subst (λ j. KindNumber j Necessary) (sym (eqb-true k 2 d)) two_necessary)
    (λ d κ h. let (low, high) = kind_in h in let p = eqb-false k 1 e in let q = eqb-false k 2 d in let z : ⊥ = omega arith in z))

counted_lawful : (k : Kind) {t : Task} → Lawful t → (later : Fact) → Lawful (counted_in k t later)
counted_lawful Greedy law later = barred_lawful law later
counted_lawful Necessary law later = law

-- the most effects of the present actions below k
record WidthBelow (t : Task) (k w : ℕ) : Type 0 where
  most : (a c : ℕ) → a < k → t.present a ≡ true → Effects t a c → c ≤ w
  reaches : (w ≡ 0) ⊎ ((a : ℕ) × (t.present a ≡ true) × Effects t a w)

effects_are : (t : Task) (a : ℕ) → Effects t a (effects t a)
effects_are t a = tallied (λ v. any (t.give a v)) t.vars (λ v l. says_any (t.give a v))

width_more : (t : Task) (k w : ℕ) → t.present k ≡ true → WidthBelow t k w → WidthBelow t (suc k) (larger w (effects t k))
width_more t k w here below =
    choose_both (ltb w (effects t k)) (effects t k) w (WidthBelow t (suc k))
    (λ e. let more = ltb-true w (effects t k) e in record {
      most = λ a d l there s. elim (cases_eq a k) [
        | inl q ↦ omega (arith, count_unique (subst (λ j. Effects t j d) q s) (effects_are t k))
        | inr ne ↦ omega (arith, below.most a d (omega arith) there s)
      ];
      reaches = inr (k, here, effects_are t k);
    })
    (λ e. let less = ltb-false w (effects t k) e in record {
      most = λ a d l there s. elim (cases_eq a k) [
        | inl q ↦ omega (arith, count_unique (subst (λ j. Effects t j d) q s) (effects_are t k))
        | inr ne ↦ below.most a d (omega arith) there s
      ];
      reaches = below.reaches;
    })

width_same : (t : Task) (k w : ℕ) → t.present k ≡ false → WidthBelow t k w → WidthBelow t (suc k) w
width_same t k w absent below = record {
  most = λ a d l there s. elim (cases_eq a k) [
    | inl q ↦ absurd (both_ways (t.present k) absent (subst (λ j. t.present j ≡ true) q there))
    | inr ne ↦ below.most a d (omega arith) there s
  ];
  reaches = below.reaches;
}

width_below : (t : Task) (k : ℕ) → WidthBelow t k (widest t k)
width_below t zero = record { most = λ a c l. absurd (let z : ⊥ = omega arith in z); reaches = inl refl }
width_below t (suc k) =
    choose_both (t.present k) (larger (widest t k) (effects t k)) (widest t k) (WidthBelow t (suc k))
    (λ here. width_more t k (widest t k) here (width_below t k)) (λ absent. width_same t k (widest t k) absent (width_below t k))

module _ {t : Task} (law : Lawful t) where
  says_lacking : (k : Kind) (ef lf : Fact) (a : ℕ) → Says (lacking k t ef lf a) (Lacking k t ef lf a)
  says_lacking k ef lf a =
      says_as
      (λ h. (record { present = h.0; achieves = h.1.0; possible = λ g n. h.1.1.0 g (need_var law a g.variable g.value n) n }, h.1.1.1))
      (λ h. (h.0.present, (h.0.achieves, (λ g l n. h.0.possible g n, h.1))))
      (says_both (says_true (t.present a))
      (says_both (says_is (t.give a lf.variable) lf.value)
      (says_both (says_each (t.need a) (reached (counted_in k t lf)) (says_reached (counted_lawful k law lf)) t.vars)
      (says_not (says_is (t.need a ef.variable) ef.value)))))

  confirmed : (k : Kind) (ef lf : Fact) → ((a : ℕ) → a < t.actions → Lacking k t ef lf a → ⊥) → Confirmed k t ef lf
  confirmed k ef lf none a c = elim (cases_Bool (gives? (t.need a ef.variable) ef.value)) [
    | inl e ↦ (says_is (t.need a ef.variable) ef.value).holds e
    | inr e ↦ absurd (none a (present_in law a c.present) (c, refuted (says_is (t.need a ef.variable) ef.value) e))
  ]

  says_unmet : (s : State) (a n : ℕ) → n < facts t → Says (unmet t s a (fact_of t n)) (Unmet t s a n)
  says_unmet s a n l =
      let f = fact_of t n in
      says_as (λ (f, is, p). (f, is, p.0, p.1)) (λ (f, is, g, out). (f, is, (g, out)))
      (says_numbered t {P = λ f. Needs t a f × (Holds t s f → ⊥)} n l
      (says_both (says_is (t.need a f.variable) f.value) (says_not (says_holding t s f))))

  allowed : (s : State) (a : ℕ) → t.present a ≡ true → ((n : ℕ) → n < facts t → Unmet t s a n → ⊥) → Allowed t s a
  allowed s a here none = record {
    present = here;
    met = λ f n. elim (cases_Bool (holding t s f)) [
      | inl e ↦ (says_holding t s f).holds e
      | inr e ↦ absurd (none (offset t.size f.variable + f.value) (numbered_below (at f n)) (f, at f n, n, refuted (says_holding t s f) e))
    ];
  }
    where
      at : (f : Fact) → Needs t a f → Numbered t (offset t.size f.variable + f.value) f
      at f n = record { in_vars = need_var law a f.variable f.value n; in_size = law.need_in a f.variable f.value n; is = refl }

  says_visiting : (p : List ℕ) (f : Fact) → Says (visiting t p f) (Visits t p f)
  says_visiting p f =
      says_as (λ (i, l, h). (i, omega arith, h)) (λ (i, l, h). (i, omega arith, h))
      (says_below {P = λ i. Holds t (state_at t p i) f} (λ i. holding t (state_at t p i) f) (λ i. says_holding t (state_at t p i) f) (suc (length p)))

  module _ (m : Machine) where
    says_visited : (n : ℕ) → n < facts t → Says (visited t m n) (Visited t m n)
    says_visited n l =
        says_both (says_true (m.held n))
        (says_numbered t {P = Visits t m.moves} n l (says_visiting m.moves (fact_of t n)))

    says_owed : (n : ℕ) → n < facts t → Says (owed t m n) (Owed t m n)
    says_owed n l =
        let f = fact_of t n in
        says_numbered t {P = λ f. ((m.held n ≡ true) × (Visits t m.moves f → ⊥)) ⊎ (Goal t f × (Holds t (position t m) f → ⊥))} n l
        (says_either
        (says_both (says_true (m.held n)) (says_not (says_visiting m.moves f)))
        (says_both (says_is (t.goal f.variable) f.value) (says_not (says_holding t (position t m) f))))

    right_propose : (n : ℕ) → Right t m (Propose n) (proposed t m n)
    right_propose n =
        choose_both (ltb n (facts t)) _ _ (Right t m (Propose n))
        (λ low. choose_both (m.held n) _ _ (Right t m (Propose n))
        (λ there. propose_known (ltb-true n (facts t) low) there)
        (λ new. choose_both (marked t (fact_of t n)) _ _ (Right t m (Propose n))
        (λ e. propose_confirmed (numbered_of t n (ltb-true n (facts t) low)) new ((says_marked law (fact_of t n)).holds e))
        (λ e. propose_rejected (numbered_of t n (ltb-true n (facts t) low)) new (refuted (says_marked law (fact_of t n)) e))))
        (λ past. propose_no_fact (ltb-false n (facts t) past))

    right_weighed : (k e l : ℕ) (κ : Kind) (ef lf : Fact) → KindNumber k κ → m.held e ≡ true → m.held l ≡ true → Numbered t e ef → Numbered t l lf → (Holds t t.start lf → ⊥) → m.ordered κ e l ≡ false → (o : Option ℕ) → Found (Lacking κ t ef lf) t.actions o → Right t m (Order k e l) (weighed m κ e l o)
    right_weighed k e l κ ef lf kind he hl ie il out new (Some a) low = order_rejected kind he hl ie il out new low
    right_weighed k e l κ ef lf kind he hl ie il out new None none = order_confirmed kind he hl ie il out new (confirmed κ ef lf none)

    right_compared : (k e l : ℕ) (κ : Kind) (ef lf : Fact) → KindNumber k κ → e < facts t → m.held e ≡ true → m.held l ≡ true → Numbered t e ef → Numbered t l lf → Right t m (Order k e l) (compared t m κ e l ef lf)
    right_compared k e l κ ef lf kind le he hl ie il =
        choose_both (holding t t.start lf) _ _ (Right t m (Order k e l))
        (λ s. order_start kind le he hl il ((says_holding t t.start lf).holds s))
        (λ out. choose_both (m.ordered κ e l) _ _ (Right t m (Order k e l))
        (λ there. order_known kind le he hl il (refuted (says_holding t t.start lf) out) there)
        (λ new. right_weighed k e l κ ef lf kind he hl ie il (refuted (says_holding t t.start lf) out) new (lowest (lacking κ t ef lf) t.actions)
        (lowest_found {P = Lacking κ t ef lf} (lacking κ t ef lf) t.actions (λ a _. says_lacking κ ef lf a))))

    right_found : (k e l : ℕ) (κ : Kind) → KindNumber k κ → e < facts t → l < facts t → Right t m (Order k e l) (found t m κ e l)
    right_found k e l κ kind le ll =
        choose_both (m.held e) _ _ (Right t m (Order k e l))
        (λ he. choose_both (m.held l) _ _ (Right t m (Order k e l)) (λ hl. right_compared k e l κ (fact_of t e) (fact_of t l) kind le he hl (numbered_of t e le) (numbered_of t l ll)) (λ out. order_later_out kind le ll he out))
        (λ out. order_earlier_out kind le ll out)

    right_order : (k e l : ℕ) (o : Option Kind) → KindIs k o → Right t m (Order k e l) (ordered t m k e l o)
    right_order k e l None none = order_no_kind none
    right_order k e l (Some κ) kind =
        choose_both (ltb e (facts t)) _ _ (Right t m (Order k e l))
        (λ le. choose_both (ltb l (facts t)) _ _ (Right t m (Order k e l))
        (λ ll. right_found k e l κ kind (ltb-true e (facts t) le) (ltb-true l (facts t) ll))
        (λ past. order_no_later kind (ltb-true e (facts t) le) (ltb-false l (facts t) past)))
        (λ past. order_no_earlier kind (ltb-false e (facts t) past))

    right_taken : (a : ℕ) → t.present a ≡ true → length m.moves < 65535 → (o : Option ℕ) → Found (Unmet t (position t m) a) (facts t) o → Right t m (Step a) (taken m a o)
    right_taken a here room (Some n) low = step_unmet here room low
    right_taken a here room None none = step_done room (allowed (position t m) a here none)

    right_step : (a : ℕ) → Right t m (Step a) (stepped t m a)
    right_step a =
        choose_both (t.present a) _ _ (Right t m (Step a))
        (λ here. choose_both (ltb (length m.moves) 65535) _ _ (Right t m (Step a))
        (λ room. right_taken a here (ltb-true (length m.moves) 65535 room) (lowest (λ n. unmet t (position t m) a (fact_of t n)) (facts t)) (lowest_found {P = Unmet t (position t m) a} (λ n. unmet t (position t m) a (fact_of t n)) (facts t) (says_unmet (position t m) a)))
        (λ full. step_full here (ltb-false (length m.moves) 65535 full)))
        (λ absent. step_absent absent)

    width_is : Width t (widest t t.actions)
    width_is = let below = width_below t t.actions in record { most = λ a c here. below.most a c (present_in law a here) here; reaches = below.reaches }

    right_report : Right t m Report (reported t m)
    right_report =
        let there = restarted_lawful law (position t m) in
        let visits = tallied {P = Visited t m} (visited t m) (facts t) says_visited in
        choose_both (near (restarted t (position t m))) _ _ (Right t m Report)
        (λ e. let goal = (says_near there).holds e in report_standing visits goal (tallied {P = Owed t m} (owed t m) (facts t) says_owed) width_is (goal_level_lem there goal))
        (λ e. report_dead visits (refuted (says_near there) e))

    right : (c : Call) → Right t m c (respond t m c)
    right (Propose n) = right_propose n
    right (Order k e l) = right_order k e l (kind_of_lem k) (kind_is k)
    right Begin = begin_done
    right (Step a) = right_step a
    right Report = right_report

  -- a session goes on by what is computed
  module _ (goal : GoalInReach t) where
    session_more : (more : List Call) {cs : List Call} {rs : List Answer} {m : Machine} → Session t cs rs m → Session t (cs ++ more) (rs ++ (play t m more).0) (play t m more).1
    session_more [] {cs} {rs} {m} s = subst (λ xs. Session t xs (rs ++ []) m) (sym (append-nil cs)) (subst (λ xs. Session t cs xs m) (sym (append-nil rs)) s)
    session_more (c ∷ more) {cs} {rs} {m} s =
        let o = respond t m c in
        let r = play t o.1 more in
        let whole : Session t ((cs ++ c ∷ []) ++ more) ((rs ++ o.0 ∷ []) ++ r.0) r.1 = session_more more (and_then s (ruled goal (right m c))) in
        subst (λ xs. Session t xs (rs ++ (o.0 ∷ r.0)) r.1) (append_assoc cs (c ∷ []) more)
        (subst (λ ys. Session t ((cs ++ c ∷ []) ++ more) ys r.1) (append_assoc rs (o.0 ∷ []) r.0) whole)

    -- so the answers and the machine that are computed are those of the session
    pub session_on : (more : List Call) (ss : List Answer) (n : Machine) {cs : List Call} {rs : List Answer} {m : Machine} → Session t cs rs m → play t m more ≡ (ss, n) → Session t (cs ++ more) (rs ++ ss) n
    session_on more ss n {cs} {rs} {m} s e = subst (λ (r : List Answer × Machine). Session t (cs ++ more) (rs ++ r.0) r.1) e (session_more more s)

-- where a goal fact is out of reach every call is refused
pub session_refused : (t : Task) (n : ℕ) → Lowest (MissedGoal t) n → (more : List Call) {cs : List Call} {rs : List Answer} {m : Machine} → Session t cs rs m → Session t (cs ++ more) (rs ++ map (λ (c : Call). Refused (GoalOutOfReach n)) more) m
session_refused t n low [] {cs} {rs} {m} s = subst (λ xs. Session t xs (rs ++ []) m) (sym (append-nil cs)) (subst (λ xs. Session t cs xs m) (sym (append-nil rs)) s)
session_refused t n low (c ∷ more) {cs} {rs} {m} s =
    let r = Refused (GoalOutOfReach n) in
    let rest : List Answer = map (λ (c : Call). Refused (GoalOutOfReach n)) more in
    let whole : Session t ((cs ++ c ∷ []) ++ more) ((rs ++ r ∷ []) ++ rest) m = session_refused t n low more (and_then s (goal_missed low)) in
    subst (λ xs. Session t xs (rs ++ (r ∷ rest)) m) (append_assoc cs (c ∷ []) more)
    (subst (λ ys. Session t ((cs ++ c ∷ []) ++ more) ys m) (append_assoc rs (r ∷ []) rest) whole)
