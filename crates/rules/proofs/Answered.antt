-- Every call on a lawful task has an answer.
use Rattle.std.proofs.Common.{◌≡◌, ℕ, zero, suc, ◌+◌, ◌<◌, ◌≤◌, Bool, true, false, ◌⊎◌, List, length, Some, None, Option, sym, refl, subst, inl, inr, not-suc-le-zero, arith}
use Rattle.std.proofs.lemmas.Bool.{cases_lt, cases_eq, cases_Bool, both_ways}
use Rattle.task.specs.Task.{Task, Fact, Goal, Needs, Lawful, Numbered, fact, offset, facts}
use Rattle.task.specs.Paths.{State, Holds, Allowed, Visits, state_at}
use Rattle.task.specs.Limits.{barred_lawful, restarted_lawful}
use Rattle.task.proofs.Inside.{need_var, present_in}
use Rattle.task.proofs.Numbers.{numbered, numbered_below}
use Rattle.task.proofs.Options.{no_some, some_same, dec_some, dec_any}
use Rattle.reach.specs.Relaxed.{Reach, GoalInReach, Layer, Level}
use Rattle.rules.specs.declared.calls.Kind.{Kind}
use Rattle.rules.specs.declared.calls.Kind.TheVariants.{Greedy, Necessary}
use Rattle.rules.specs.declared.calls.Call.{Call}
use Rattle.rules.specs.declared.calls.Call.TheVariants.{Propose, Order, Begin, Step, Report}
use Rattle.rules.specs.declared.calls.Answer.{Answer}
use Rattle.rules.specs.Marks.{Landmark, Counts, Confirmed, counted_in}
use Rattle.rules.specs.Machine.{Machine, position, Lowest, Unmet, Lacking, KindNumber, KindNumber.one_greedy, KindNumber.two_necessary, Visited, Owed, Effects, Width, GoalLevel, Ruled, Turn}
use Rattle.rules.specs.Machine.Ruled.{propose_no_fact, propose_known, propose_confirmed, propose_rejected}
use Rattle.rules.specs.Machine.Ruled.{order_no_kind, order_no_earlier, order_no_later, order_earlier_out, order_later_out, order_start, order_known, order_confirmed, order_rejected}
use Rattle.rules.specs.Machine.Ruled.{begin_done, step_absent, step_full, step_unmet, step_done, report_dead, report_standing}
use Rattle.rules.specs.Machine.Turn.{goal_missed, ruled}
use Rattle.rules.proofs.Barring.{landmark_test_lem}
use Rattle.rules.proofs.Counting.{counted, count_unique}
use Rattle.rules.proofs.Deciding.{scan, dec_gives, dec_holds}
use Rattle.rules.proofs.Reachable.{dec_as, dec_both, dec_either, dec_not, settled, dec_numbered, lowest_or_none, dec_each, layer_later, dec_reach, reach_level, goal_var, goal_or_missed, dec_goal}

-- whether a test came out true
dec_true : (b : Bool) → Dec (b ≡ true)
dec_true b = elim (cases_Bool b) [ inl e ↦ yes e | inr e ↦ no (both_ways b e) ]

-- whether an action needs a fact
dec_needs : (t : Task) (a : ℕ) (f : Fact) → Dec (Needs t a f)
dec_needs t a f = dec_some (t.need a f.variable) f.value

-- whether a list of actions visits a fact
dec_visits : (t : Task) (p : List ℕ) (f : Fact) → Dec (Visits t p f)
dec_visits t p f = elim (scan (λ i. Holds t (state_at t p i) f) (λ i. dec_holds t (state_at t p i) f) (suc (length p))) [
  | inl (i, l, holds, before) ↦ yes (i, omega arith, holds)
  | inr none ↦ no λ (i, l, holds). none i (omega arith) holds
]

-- the kind that a number stands for, if any
kind_in : {k : ℕ} {κ : Kind} → KindNumber k κ → (1 ≤ k) × (k ≤ 2)
kind_in one_greedy = (omega arith, omega arith)
kind_in two_necessary = (omega arith, omega arith)

kind_of_lem : (k : ℕ) → ((κ : Kind) × KindNumber k κ) ⊎ ((κ : Kind) → KindNumber k κ → ⊥)
kind_of_lem k = elim (cases_eq k 1) [
  | inl e ↦ inl (Greedy, subst (λ j. KindNumber j Greedy) (sym e) one_greedy)
  | inr not-one ↦ elim (cases_eq k 2) [
    | inl e ↦ inl (Necessary, subst (λ j. KindNumber j Necessary) (sym e) two_necessary)
    | inr not-two ↦ inr (λ κ h. let (low, high) = kind_in h in let z : ⊥ = omega arith in z)
  ]
]

-- the task whose reach counts is lawful
counted_lawful : (k : Kind) {t : Task} → Lawful t → (later : Fact) → Lawful (counted_in k t later)
counted_lawful Greedy law later = barred_lawful law later
counted_lawful Necessary law later = law

module _ {t : Task} (law : Lawful t) where
  -- whether a fact is a landmark
  dec_landmark : (f : Fact) → Dec (Landmark t f)
  dec_landmark f = dec_as (landmark_test_lem t f).1 (landmark_test_lem t f).0 (dec_either (dec_holds t t.start f) (dec_not (dec_goal (barred_lawful law f))))

  -- whether an achiever counts
  dec_counts : (k : Kind) (later : Fact) (a : ℕ) → Dec (Counts k t later a)
  dec_counts k later a =
      dec_as
      (λ h. record { present = h.0; achieves = h.1.0; possible = λ g n. h.1.1 g (need_var law a g.variable g.value n) n })
      (λ c. (c.present, (c.achieves, λ g l n. c.possible g n)))
      (dec_both (dec_true (t.present a)) (dec_both (dec_gives t a later) (dec_each (t.need a) (Reach (counted_in k t later)) (dec_reach (counted_lawful k law later)) t.vars)))

  -- an ordering is confirmed, or there is a lowest achiever that counts and lacks the earlier fact
  pub weighed : (k : Kind) (earlier later : Fact) → ((a : ℕ) × Lowest (Lacking k t earlier later) a) ⊎ Confirmed k t earlier later
  weighed k earlier later = elim (lowest_or_none (Lacking k t earlier later) (λ a. dec_both (dec_counts k later a) (dec_not (dec_needs t a earlier))) t.actions) [
    | inl found ↦ inl found
    | inr none ↦ inr (λ a c. settled (dec_needs t a earlier) (λ lacks. none a (present_in law a c.present) (c, lacks)))
  ]

  -- an action that is present has a lowest condition that does not hold, or is allowed
  pub met : (s : State) (a : ℕ) → t.present a ≡ true → ((n : ℕ) × Lowest (Unmet t s a) n) ⊎ Allowed t s a
  met s a here = elim (lowest_or_none (Unmet t s a) decide (facts t)) [
    | inl found ↦ inl found
    | inr none ↦ inr (record { present = here; met = λ f n. settled (dec_holds t s f) (λ out. none _ (numbered_below (at f n)) (f, at f n, n, out)) })
  ]
    where
      at : (f : Fact) → Needs t a f → Numbered t (offset t.size f.variable + f.value) f
      at f n = record { in_vars = need_var law a f.variable f.value n; in_size = law.need_in a f.variable f.value n; is = refl }

      decide : (n : ℕ) → Dec (Unmet t s a n)
      decide n =
          dec_as (λ (f, is, p). (f, is, p.0, p.1)) (λ (f, is, g, out). (f, is, (g, out)))
          (dec_numbered t (λ f. Needs t a f × (Holds t s f → ⊥)) (λ f. dec_both (dec_needs t a f) (dec_not (dec_holds t s f))) n)

  -- the most effects of the present actions below k
  pub record WidthBelow (k w : ℕ) : Type 0 where
    pub most : (a c : ℕ) → a < k → t.present a ≡ true → Effects t a c → c ≤ w
    pub reaches : (w ≡ 0) ⊎ ((a : ℕ) × (t.present a ≡ true) × Effects t a w)

  width_below : (k : ℕ) → (w : ℕ) × WidthBelow k w
  width_below zero = (0, record { most = λ a c l. absurd (not-suc-le-zero l); reaches = inl refl })
  width_below (suc k) = go (width_below k) (cases_Bool (t.present k)) (counted t.vars (λ v l. dec_any (t.give k v)))
    where
      go : (w : ℕ) × WidthBelow k w → (t.present k ≡ true) ⊎ (t.present k ≡ false) → (c : ℕ) × Effects t k c → (w : ℕ) × WidthBelow (suc k) w
      go (w, below) (inr absent) (c, s) = (
        w,
        record {
          most = λ a d l here e. elim (cases_eq a k) [
            | inl q ↦ absurd (both_ways (t.present k) absent (subst (λ j. t.present j ≡ true) q here))
            | inr ne ↦ below.most a d (omega arith) here e
          ];
          reaches = below.reaches;
        },
      )
      go (w, below) (inl present) (c, s) = elim (cases_lt w c) [
        | inl more ↦ (
          c,
          record {
            most = λ a d l here e. elim (cases_eq a k) [
              | inl q ↦ omega (arith, count_unique (subst (λ j. Effects t j d) q e) s)
              | inr ne ↦ omega (arith, below.most a d (omega arith) here e)
            ];
            reaches = inr (k, present, s);
          },
        )
        | inr less ↦ (
          w,
          record {
            most = λ a d l here e. elim (cases_eq a k) [
              | inl q ↦ omega (arith, count_unique (subst (λ j. Effects t j d) q e) s)
              | inr ne ↦ below.most a d (omega arith) here e
            ];
            reaches = below.reaches;
          },
        )
      ]

  -- a task has a width
  pub width : (w : ℕ) × Width t w
  width = let (w, below) = width_below t.actions in (w, record { most = λ a c here. below.most a c (present_in law a here) here; reaches = below.reaches })

  -- the greatest level of the goal facts on the variables below k
  pub record LevelBelow (k g : ℕ) : Type 0 where
    pub most : (f : Fact) → f.variable < k → Goal t f → Layer t g f
    pub reaches : (g ≡ 0) ⊎ ((f : Fact) × Goal t f × Level t f g)

  module _ (near : GoalInReach t) where
    level_below : (k : ℕ) → (g : ℕ) × LevelBelow k g
    level_below zero = (0, record { most = λ f l. absurd (not-suc-le-zero l); reaches = inl refl })
    level_below (suc k) = go (level_below k) (t.goal k) refl
      where
        more : (g : ℕ) → ((f : Fact) → f.variable < k → Goal t f → Layer t g f) → ((x : ℕ) → t.goal k ≡ Some x → Layer t g (fact k x)) → (f : Fact) → f.variable < suc k → Goal t f → Layer t g f
        more g below here f l goal = elim (cases_lt f.variable k) [
          | inl low ↦ below f low goal
          | inr top ↦
              let at : f.variable ≡ k = omega arith in
              let same : fact k f.value ≡ f = λ i. record { variable = sym at i; value = f.value } in
              subst (Layer t g) same (here f.value (subst (λ w. t.goal w ≡ Some f.value) at goal))
        ]

        go : (g : ℕ) × LevelBelow k g → (o : Option ℕ) → t.goal k ≡ o → (g : ℕ) × LevelBelow (suc k) g
        go (g, below) None e = (g, record { most = more g below.most (λ x h. absurd (no_some x (rw e at h))); reaches = below.reaches })
        go (g, below) (Some x) e =
            let (n, level) = reach_level law (fact k x) (near.0, near.1, near.2 (fact k x) e) in
            elim (cases_lt g n) [
              | inl up ↦ (
                n,
                record {
                  most = more n (λ f l goal. layer_later t g n f (omega arith) (below.most f l goal)) (λ y h. subst (λ z. Layer t n (fact k z)) (some_same x y (rw e at h)) level.has);
                  reaches = inr (fact k x, e, level);
                },
              )
              | inr low ↦ (
                g,
                record {
                  most = more g below.most (λ y h. subst (λ z. Layer t g (fact k z)) (some_same x y (rw e at h)) (layer_later t n g (fact k x) low level.has));
                  reaches = below.reaches;
                },
              )
            ]

    -- a task with the goal in reach has a goal level
    pub goal_level_lem : (g : ℕ) × GoalLevel t g
    goal_level_lem = let (g, below) = level_below t.vars in (g, record { most = λ f goal. below.most f (goal_var law f goal) goal; reaches = below.reaches })

-- each call where the goal is in reach
module _ {t : Task} (law : Lawful t) (m : Machine) where
  abbrev Ruling : Call → Type 0
  Ruling c = (r : Answer) × (m' : Machine) × Ruled t m c r m'

  proposal : (n : ℕ) → Ruling (Propose n)
  proposal n = elim (cases_lt n (facts t)) [
    | inr past ↦ (_, _, propose_no_fact past)
    | inl low ↦ elim (cases_Bool (m.held n)) [
      | inl there ↦ (_, _, propose_known low there)
      | inr new ↦ judged (numbered t n low) new
    ]
  ]
    where
      judged : (f : Fact) × Numbered t n f → m.held n ≡ false → Ruling (Propose n)
      judged (f, is) new = elim (dec_landmark law f) [ yes mark ↦ (_, _, propose_confirmed is new mark) | no out ↦ (_, _, propose_rejected is new out) ]

  -- an ordering of two facts of the key
  compared : (k e l : ℕ) (κ : Kind) → KindNumber k κ → e < facts t → m.held e ≡ true → m.held l ≡ true → (ef : Fact) × Numbered t e ef → (lf : Fact) × Numbered t l lf → Ruling (Order k e l)
  compared k e l κ kind low he hl (ef, ie) (lf, il) = elim (dec_holds t t.start lf) [
    | yes s ↦ (_, _, order_start kind low he hl il s)
    | no out ↦ elim (cases_Bool (m.ordered κ e l)) [
      | inl there ↦ (_, _, order_known kind low he hl il out there)
      | inr new ↦ elim (weighed law κ ef lf) [
        | inl (a, lacking) ↦ (_, _, order_rejected kind he hl ie il out new lacking)
        | inr confirmed ↦ (_, _, order_confirmed kind he hl ie il out new confirmed)
      ]
    ]
  ]

  -- an ordering of two facts
  found : (k e l : ℕ) (κ : Kind) → KindNumber k κ → e < facts t → l < facts t → Ruling (Order k e l)
  found k e l κ kind le ll = elim (cases_Bool (m.held e)) [
    | inr out ↦ (_, _, order_earlier_out kind le ll out)
    | inl he ↦ elim (cases_Bool (m.held l)) [
      | inr out ↦ (_, _, order_later_out kind le ll he out)
      | inl hl ↦ compared k e l κ kind le he hl (numbered t e le) (numbered t l ll)
    ]
  ]

  ordering : (k e l : ℕ) → Ruling (Order k e l)
  ordering k e l = elim (kind_of_lem k) [
    | inr none ↦ (_, _, order_no_kind none)
    | inl (κ, kind) ↦ elim (cases_lt e (facts t)) [
      | inr past ↦ (_, _, order_no_earlier kind past)
      | inl le ↦ elim (cases_lt l (facts t)) [
        | inr past ↦ (_, _, order_no_later kind le past)
        | inl ll ↦ found k e l κ kind le ll
      ]
    ]
  ]

  stepping : (a : ℕ) → Ruling (Step a)
  stepping a = elim (cases_Bool (t.present a)) [
    | inr absent ↦ (_, _, step_absent absent)
    | inl here ↦ elim (cases_lt (length m.moves) 65535) [
      | inr full ↦ (_, _, step_full here full)
      | inl room ↦ elim (met law (position t m) a here) [
        | inl (n, unmet) ↦ (_, _, step_unmet here room unmet)
        | inr allowed ↦ (_, _, step_done room allowed)
      ]
    ]
  ]

  dec_visited : (n : ℕ) → Dec (Visited t m n)
  dec_visited n = dec_both (dec_true (m.held n)) (dec_numbered t (Visits t m.moves) (dec_visits t m.moves) n)

  dec_owed : (n : ℕ) → Dec (Owed t m n)
  dec_owed n =
      dec_numbered t (λ f. ((m.held n ≡ true) × (Visits t m.moves f → ⊥)) ⊎ (Goal t f × (Holds t (position t m) f → ⊥)))
      (λ f.
      dec_either (dec_both (dec_true (m.held n)) (dec_not (dec_visits t m.moves f)))
      (dec_both (dec_some (t.goal f.variable) f.value) (dec_not (dec_holds t (position t m) f)))) n

  reporting : Ruling Report
  reporting =
      let there = restarted_lawful law (position t m) in
      let (visited, seen) = counted (facts t) (λ n l. dec_visited n) in
      elim (dec_goal there) [
        | no far ↦ (_, _, report_dead seen far)
        | yes near ↦
            let (owed, left) = counted (facts t) (λ n l. dec_owed n) in
            let (w, wide) = width law in
            let (g, level) = goal_level_lem there near in
            (_, _, report_standing seen near left wide level)
      ]

  ruling : (c : Call) → Ruling c
  ruling (Propose n) = proposal n
  ruling (Order k e l) = ordering k e l
  ruling Begin = (_, _, begin_done)
  ruling (Step a) = stepping a
  ruling Report = reporting

  -- every call has an answer
  pub turning : (c : Call) → (r : Answer) × (m' : Machine) × Turn t m c r m'
  turning c = elim (goal_or_missed law) [
    | inl (n, low) ↦ (_, _, goal_missed low)
    | inr near ↦ let (r, m', rule) = ruling c in (r, m', ruled near rule)
  ]
