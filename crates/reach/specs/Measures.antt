-- What a measure of facts is, and the two measures: whether a fact is in reach, and in which layer it is first.
use Rattle.std.specs.Prelude.{◌≡◌, ℕ, ◌+◌, ◌<◌, ◌≤◌, min, max, Bool, true, false, cond, ◌&&◌, ◌||◌, ◌⊎◌, Some, None, Option, ◌==◌, refl}
use Rattle.std.proofs.Common.{ap, inl, inr, arith}
use Rattle.std.proofs.lemmas.Bool.{cases_lt, cond_both}
use Rattle.std.proofs.lemmas.Bool.Decides.{Decides-eqb}
use Rattle.std.specs.Bool.{Decides, beq}
use Rattle.std.specs.Cmp.{booleans_Decides}
use Rattle.reach.specs.declared.measure.AtLevel.{AtLevel}
use Rattle.reach.specs.declared.measure.InReach.{InReach}

-- the values of a start fact, of no conditions and of a fact out of reach; how values are put together, and a rank that is lower the better a value is
pub record Ops (M : Type 0) : Type 0 where
  pub first : M
  pub free : M
  pub none : M
  pub join : M → M → M
  pub better : M → M → M
  pub step : M → M
  pub rank : M → ℕ

-- x is at least as good as y: of the two it is the better
abbrev pub AtLeast : {M : Type 0} → Ops M → M → M → Type 0
AtLeast o x y = o.better x y ≡ x

-- a value of the measure: its rank is at most 65535
abbrev pub Proper : {M : Type 0} → Ops M → M → Type 0
Proper o x = o.rank x ≤ 65535

-- what every measure keeps: joining and better are associative and commutative, a value is the better of itself and itself, "none" is the worst, joining and step never turn a better value into a worse result, each strict betterment lowers the rank, and the operations lead from values to values
pub record Laws {M : Type 0} (o : Ops M) : Type 0 where
  pub join_assoc : (x y z : M) → o.join (o.join x y) z ≡ o.join x (o.join y z)
  pub join_comm : (x y : M) → o.join x y ≡ o.join y x
  pub better_assoc : (x y z : M) → o.better (o.better x y) z ≡ o.better x (o.better y z)
  pub better_comm : (x y : M) → o.better x y ≡ o.better y x
  pub better_same : (x : M) → o.better x x ≡ x
  pub worst : (x : M) → Proper o x → AtLeast o x o.none
  pub join_keeps : (x y z : M) → AtLeast o x y → AtLeast o (o.join x z) (o.join y z)
  pub step_keeps : (x y : M) → AtLeast o x y → AtLeast o (o.step x) (o.step y)
  pub falls : (x y : M) → (o.better x y ≡ x) ⊎ (o.rank (o.better x y) < o.rank x)
  pub first_proper : Proper o o.first
  pub free_proper : Proper o o.free
  pub none_proper : Proper o o.none
  pub join_proper : (x y : M) → Proper o x → Proper o y → Proper o (o.join x y)
  pub better_proper : (x y : M) → Proper o x → Proper o y → Proper o (o.better x y)
  pub step_proper : (x : M) → Proper o x → Proper o (o.step x)

-- whether a fact is in reach
abbrev pub of_yes : Bool → InReach
of_yes b = record { yes = b }

abbrev pub reach_rank : InReach → ℕ
reach_rank x = cond x.yes 0 1

abbrev pub reaches : Ops InReach
reaches = record {
  first = of_yes true;
  free = of_yes true;
  none = of_yes false;
  join = λ x y. of_yes (x.yes && y.yes);
  better = λ x y. of_yes (x.yes || y.yes);
  step = λ x. x;
  rank = reach_rank;
}

reach_falls : (a b : Bool) → (of_yes (a || b) ≡ of_yes a) ⊎ (cond (a || b) 0 1 < cond a 0 1)
reach_falls true b = inl refl
reach_falls false true = inr (omega arith)
reach_falls false false = inl refl

and_assoc : (a b c : Bool) → (a && b) && c ≡ a && (b && c)
and_assoc true b c = refl
and_assoc false b c = refl

and_comm : (a b : Bool) → a && b ≡ b && a
and_comm true true = refl
and_comm true false = refl
and_comm false true = refl
and_comm false false = refl

or_assoc : (a b c : Bool) → (a || b) || c ≡ a || (b || c)
or_assoc true b c = refl
or_assoc false b c = refl

or_comm : (a b : Bool) → a || b ≡ b || a
or_comm true true = refl
or_comm true false = refl
or_comm false true = refl
or_comm false false = refl

or_same : (a : Bool) → a || a ≡ a
or_same true = refl
or_same false = refl

or_none_lem : (a : Bool) → a || false ≡ a
or_none_lem true = refl
or_none_lem false = refl

and_keeps : (a b c : Bool) → a || b ≡ a → (a && c) || (b && c) ≡ a && c
and_keeps true b true e = refl
and_keeps true true false e = refl
and_keeps true false false e = refl
and_keeps false b c e = ap (λ d. d && c) e

small : (b : Bool) → cond b 0 1 ≤ 65535
small b = cond_both b 0 1 (λ n. n ≤ 65535) (λ _. omega arith) (λ _. omega arith)

pub reach_laws : Laws reaches
reach_laws = record {
  join_assoc = λ x y z. ap of_yes (and_assoc x.yes y.yes z.yes);
  join_comm = λ x y. ap of_yes (and_comm x.yes y.yes);
  better_assoc = λ x y z. ap of_yes (or_assoc x.yes y.yes z.yes);
  better_comm = λ x y. ap of_yes (or_comm x.yes y.yes);
  better_same = λ x. ap of_yes (or_same x.yes);
  worst = λ x _. ap of_yes (or_none_lem x.yes);
  join_keeps = λ x y z e. ap of_yes (and_keeps x.yes y.yes z.yes (ap (λ (r : InReach). r.yes) e));
  step_keeps = λ x y e. e;
  falls = λ x y. reach_falls x.yes y.yes;
  first_proper = omega arith;
  free_proper = omega arith;
  none_proper = omega arith;
  join_proper = λ x y _ _. small (x.yes && y.yes);
  better_proper = λ x y _ _. small (x.yes || y.yes);
  step_proper = λ x h. h;
}

-- equal values are the same, since they hold the same
pub reach_same : (x y : InReach) → Decides (beq x.yes y.yes) (x ≡ y)
reach_same x y = let d = booleans_Decides x.yes y.yes in (λ e. ap of_yes (d.0 e), λ e. d.1 (ap (λ (r : InReach). r.yes) e))

-- in which layer a fact is first, 65535 for none
abbrev pub of_level : ℕ → AtLevel
of_level n = record { level = n }

abbrev pub levels : Ops AtLevel
levels = record {
  first = of_level 0;
  free = of_level 0;
  none = of_level 65535;
  join = λ x y. of_level (max x.level y.level);
  better = λ x y. of_level (min x.level y.level);
  step = λ x. of_level (min (x.level + 1) 65535);
  rank = λ x. x.level;
}

level_falls : (x y : ℕ) → (of_level (min x y) ≡ of_level x) ⊎ (min x y < x)
level_falls x y = elim (cases_lt y x) [ inl h ↦ inr (omega arith) | inr h ↦ inl (ap of_level (omega arith)) ]

pub level_laws : Laws levels
level_laws = record {
  join_assoc = λ x y z. ap of_level (omega arith);
  join_comm = λ x y. ap of_level (omega arith);
  better_assoc = λ x y z. ap of_level (omega arith);
  better_comm = λ x y. ap of_level (omega arith);
  better_same = λ x. ap of_level (omega arith);
  worst = λ x h. ap of_level (omega arith);
  join_keeps = λ x y z e. let h : min x.level y.level ≡ x.level = ap (λ (r : AtLevel). r.level) e in ap of_level (omega arith);
  step_keeps = λ x y e. let h : min x.level y.level ≡ x.level = ap (λ (r : AtLevel). r.level) e in ap of_level (omega arith);
  falls = λ x y. level_falls x.level y.level;
  first_proper = omega arith;
  free_proper = omega arith;
  none_proper = omega arith;
  join_proper = λ x y h k. omega arith;
  better_proper = λ x y h k. omega arith;
  step_proper = λ x h. omega arith;
}

pub level_same : (x y : AtLevel) → Decides (x.level == y.level) (x ≡ y)
level_same x y = let d = Decides-eqb x.level y.level in (λ e. ap of_level (d.0 e), λ e. d.1 (ap (λ (r : AtLevel). r.level) e))

-- the layer that a level stands for, if any
abbrev pub layer_of : AtLevel → Option ℕ
layer_of x = cond (x.level == 65535) None (Some x.level)
