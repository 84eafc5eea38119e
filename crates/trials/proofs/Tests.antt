-- Tests that compute, and what they say. What follows a test is computed only where it is asked for.
use Rattle.std.proofs.Common.{◌≡◌, ℕ, zero, suc, ◌<◌, Bool, true, false, not, eqb, ltb, ◌⊎◌, Some, None, Option, sym, refl, ap, ◌∙◌, subst, inl, inr, arith}
use Rattle.std.proofs.lemmas.Bool.{cases_lt, cases_eq, cases_Bool, both_ways, false≢true, eqb-true, eq-eqb, ltb-true, lt-ltb}
use Rattle.task.specs.Task.{Fact, fact}
use Rattle.task.specs.Paths.{gives?}
use Rattle.task.proofs.Options.{no_some, some_same, gives_some, some_gives}
use Rattle.rules.specs.Machine.{Count, Count.none, Count.one, Count.skip, Lowest}
use Rattle.rules.proofs.Reachable.{Each}

-- one of two by a test
abbrev pub choose : {A : Type 0} → Bool → (Unit {0} → A) → (Unit {0} → A) → A
choose true x y = x tt
choose false x y = y tt

pub choose_both : {A : Type 0} (b : Bool) (x y : A) (P : A → Type 0) → (b ≡ true → P x) → (b ≡ false → P y) → P (choose b (λ _. x) (λ _. y))
choose_both true x y P p q = p refl
choose_both false x y P p q = q refl

-- a test and another, or one or another
abbrev pub both : Bool → (Unit {0} → Bool) → Bool
both true k = k tt
both false k = false

abbrev pub either : Bool → (Unit {0} → Bool) → Bool
either true k = true
either false k = k tt

-- a test says whether P holds
pub record Says (b : Bool) (P : Type 0) : Type 0 where
  pub holds : b ≡ true → P
  pub shown : P → b ≡ true

pub refuted : {b : Bool} {P : Type 0} → Says b P → b ≡ false → P → ⊥
refuted {b} s e p = both_ways b e (s.shown p)

pub says_as : {b : Bool} {P Q : Type 0} → (P → Q) → (Q → P) → Says b P → Says b Q
says_as to from s = record { holds = λ e. to (s.holds e); shown = λ q. s.shown (from q) }

pub says_both : {a b : Bool} {P Q : Type 0} → Says a P → Says b Q → Says (both a (λ _. b)) (P × Q)
says_both {a = true} p q = record { holds = λ e. (p.holds refl, q.holds e); shown = λ h. q.shown h.1 }
says_both {a = false} p q = record { holds = λ e. absurd (false≢true e); shown = λ h. p.shown h.0 }

pub says_either : {a b : Bool} {P Q : Type 0} → Says a P → Says b Q → Says (either a (λ _. b)) (P ⊎ Q)
says_either {a = true} p q = record { holds = λ e. inl (p.holds refl); shown = λ h. refl }
says_either {a = false} p q = record { holds = λ e. inr (q.holds e); shown = λ h. elim h [ inl x ↦ absurd (false≢true (p.shown x)) | inr y ↦ q.shown y ] }

pub says_not : {a : Bool} {P : Type 0} → Says a P → Says (not a) (P → ⊥)
says_not {a = true} p = record { holds = λ e. absurd (false≢true e); shown = λ h. absurd (h (p.holds refl)) }
says_not {a = false} p = record { holds = λ e x. false≢true (p.shown x); shown = λ h. refl }

pub says_true : (b : Bool) → Says b (b ≡ true)
says_true b = record { holds = λ e. e; shown = λ e. e }

pub says_eq : (a b : ℕ) → Says (eqb a b) (a ≡ b)
says_eq a b = record { holds = eqb-true a b; shown = eq-eqb a b }

pub says_less : (a b : ℕ) → Says (ltb a b) (a < b)
says_less a b = record { holds = ltb-true a b; shown = lt-ltb a b }

-- an option is a given number, or any
pub says_is : (o : Option ℕ) (x : ℕ) → Says (gives? o x) (o ≡ Some x)
says_is o x = record { holds = gives_some o x; shown = some_gives o x }

abbrev pub any : Option ℕ → Bool
any (Some x) = true
any None = false

pub says_any : (o : Option ℕ) → Says (any o) ((x : ℕ) × (o ≡ Some x))
says_any (Some x) = record { holds = λ e. (x, refl); shown = λ h. refl }
says_any None = record { holds = λ e. absurd (false≢true e); shown = λ h. absurd (no_some h.0 h.1) }

-- some number below n
abbrev pub some_below : ℕ → (ℕ → Bool) → Bool
some_below zero p = false
some_below (suc n) p = either (p n) (λ _. some_below n p)

pub says_below : {P : ℕ → Type 0} (p : ℕ → Bool) → ((i : ℕ) → Says (p i) (P i)) → (n : ℕ) → Says (some_below n p) ((i : ℕ) × (i < n) × P i)
says_below p s zero = record { holds = λ e. absurd (false≢true e); shown = λ h. absurd (let z : ⊥ = omega (arith, h.1) in z) }
says_below {P} p s (suc n) = says_as to from (says_either (s n) (says_below p s n))
  where
    to : P n ⊎ ((i : ℕ) × (i < n) × P i) → (i : ℕ) × (i < suc n) × P i
    to (inl h) = (n, omega arith, h)
    to (inr (i, l, h)) = (i, omega arith, h)

    from : (i : ℕ) × (i < suc n) × P i → P n ⊎ ((i : ℕ) × (i < n) × P i)
    from (i, l, h) = elim (cases_eq i n) [ inl e ↦ inl (subst P e h) | inr ne ↦ inr (i, omega arith, h) ]

-- each fact that a row has for the variables below k
abbrev pub so : (Fact → Bool) → ℕ → Option ℕ → Bool
so p k None = true
so p k (Some x) = p (fact k x)

abbrev pub each : (ℕ → Option ℕ) → (Fact → Bool) → ℕ → Bool
each row p zero = true
each row p (suc k) = both (so p k (row k)) (λ _. each row p k)

says_so : {P : Fact → Type 0} (p : Fact → Bool) → ((f : Fact) → Says (p f) (P f)) → (k : ℕ) (o : Option ℕ) → Says (so p k o) ((x : ℕ) → o ≡ Some x → P (fact k x))
says_so p s k None = record { holds = λ e x h. absurd (no_some x h); shown = λ h. refl }
says_so {P} p s k (Some y) = says_as (λ h x e. subst (λ z. P (fact k z)) (some_same y x e) h) (λ h. h y refl) (s (fact k y))

pub says_each : (row : ℕ → Option ℕ) {P : Fact → Type 0} (p : Fact → Bool) → ((f : Fact) → Says (p f) (P f)) → (k : ℕ) → Says (each row p k) (Each row P k)
says_each row p s zero = record { holds = λ e f l. absurd (let z : ⊥ = omega arith in z); shown = λ h. refl }
says_each row {P} p s (suc k) = says_as to from (says_both (says_so p s k (row k)) (says_each row p s k))
  where
    to : ((x : ℕ) → row k ≡ Some x → P (fact k x)) × Each row P k → Each row P (suc k)
    to (here, below) f l e = elim (cases_lt f.variable k) [
      | inl low ↦ below f low e
      | inr top ↦
          let at : f.variable ≡ k = omega arith in
          let same : fact k f.value ≡ f = λ i. record { variable = sym at i; value = f.value } in
          subst P same (here f.value (subst (λ w. row w ≡ Some f.value) at e))
    ]

    from : Each row P (suc k) → ((x : ℕ) → row k ≡ Some x → P (fact k x)) × Each row P k
    from h = (λ x e. h (fact k x) (omega arith) e, λ f l e. h f (omega arith) e)

-- where the test fails one of them fails
pub each_false : (row : ℕ → Option ℕ) (p : Fact → Bool) (k : ℕ) → each row p k ≡ false → (f : Fact) × (row f.variable ≡ Some f.value) × (p f ≡ false)
each_false row p zero e = absurd (false≢true (sym e))
each_false row p (suc k) e = go (each_false row p k) (row k) refl e
  where
    go : (each row p k ≡ false → (f : Fact) × (row f.variable ≡ Some f.value) × (p f ≡ false)) → (o : Option ℕ) → row k ≡ o → both (so p k o) (λ _. each row p k) ≡ false → (f : Fact) × (row f.variable ≡ Some f.value) × (p f ≡ false)
    go below None is h = below h
    go below (Some x) is h = elim (cases_Bool (p (fact k x))) [
      | inl yes_it ↦ below (sym (ap (λ b. both b (λ _. each row p k)) yes_it) ∙ h)
      | inr no-it ↦ (fact k x, is, no-it)
    ]

-- the lowest number below n of which a test says so
abbrev pub or_after : Option ℕ → (Unit {0} → Option ℕ) → Option ℕ
or_after (Some m) k = Some m
or_after None k = k tt

abbrev pub lowest : (ℕ → Bool) → ℕ → Option ℕ
lowest p zero = None
lowest p (suc n) = or_after (lowest p n) (λ _. choose (p n) (λ _. Some n) (λ _. None))

abbrev pub Found : (ℕ → Type 0) → ℕ → Option ℕ → Type 0
Found P n (Some m) = Lowest P m
Found P n None = (i : ℕ) → i < n → P i → ⊥

pub lowest_found : {P : ℕ → Type 0} (p : ℕ → Bool) (n : ℕ) → ((i : ℕ) → i < n → Says (p i) (P i)) → Found P n (lowest p n)
lowest_found p zero s = λ i l h. let z : ⊥ = omega arith in z
lowest_found {P} p (suc n) s = go (lowest p n) (lowest_found p n (λ i l. s i (omega arith)))
  where
    go : (o : Option ℕ) → Found P n o → Found P (suc n) (or_after o (λ _. choose (p n) (λ _. Some n) (λ _. None)))
    go (Some m) low = low
    go None before =
        choose_both (p n) (Some n) None (Found P (suc n))
        (λ e. record { holds = (s n (omega arith)).holds e; first = before })
        (λ e i l h. elim (cases_eq i n) [ inl q ↦ refuted (s n (omega arith)) e (subst P q h) | inr ne ↦ before i (omega arith) h ])

-- how many numbers below n a test says so of
abbrev pub tally : (ℕ → Bool) → ℕ → ℕ
tally p zero = 0
tally p (suc n) = choose (p n) (λ _. suc (tally p n)) (λ _. tally p n)

pub tallied : {P : ℕ → Type 0} (p : ℕ → Bool) (n : ℕ) → ((i : ℕ) → i < n → Says (p i) (P i)) → Count P n (tally p n)
tallied p zero s = none
tallied {P} p (suc n) s =
    let rest = tallied {P = P} p n (λ i l. s i (omega arith)) in
    choose_both (p n) (suc (tally p n)) (tally p n) (Count P (suc n))
    (λ e. one rest ((s n (omega arith)).holds e))
    (λ e. skip rest (refuted (s n (omega arith)) e))
