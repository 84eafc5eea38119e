-- One line for each number, and a line for each fact and each pair.
use Rattle.std.proofs.Common.{◌≡◌, ℕ, ◌+◌, ◌*◌, ◌/◌, ◌%◌, ◌<◌, Bool, true, ◌⊎◌, Some, None, Option, sym, refl, ap, ◌∙◌, subst, inl, inr, le_antisymm, arith}
use Rattle.std.proofs.lemmas.Bool.{cases_eq, cases_order, cases_Bool, both_ways}
use Rattle.task.specs.Task.{Task, Fact as TaskFact, Lawful, Numbered, fact, facts}
use Rattle.task.proofs.Numbers.{numbered_below, numbered_unique}
use Rattle.reach.specs.Built.{LevelIs}
use Rattle.reach.proofs.LayerFacts.{layer_reach}
use Rattle.rules.specs.declared.calls.Kind.TheVariants.{Greedy, Necessary}
use Rattle.rules.specs.Machine.{Machine, Count, Count.none, Count.one, Count.skip}
use Rattle.rules.proofs.Counting.{count_unique, counted}
use Rattle.rules.proofs.Reachable.{dec_either}
use Rattle.lines.specs.declared.line.Line.{Line}
use Rattle.lines.specs.declared.line.FactLine.{FactLine}
use Rattle.lines.specs.declared.line.OrderLine.{OrderLine}
use Rattle.lines.specs.declared.line.Line.TheVariants.{Fact, Order}
use Rattle.listing.specs.Listing.{HeldAt, OrderedAt, InAnyKind, shown_kind, FactShown, OrderShown, LineAt, LineAt.fact_line_lem, LineAt.order_line_lem}
use Rattle.listing_laws.specs.Laws.{OneLine, AllListed}

-- a number that counts has fewer below it than any greater number
count_below : {P : ℕ → Type 0} {n i j : ℕ} (k : ℕ) → k < n → P k → Count P k i → Count P n j → i < j
count_below k l p at none = let z : ⊥ = omega arith in absurd z
count_below {P} {i = i} k l p at (one {n} {c} r q) = elim (cases_eq k n) [
  | inl e ↦ omega (arith, count_unique (subst (λ (x : ℕ). Count P x i) e at) r)
  | inr ne ↦ omega (arith, count_below k (omega arith) p at r)
]
count_below {P} k l p at (skip {n} r nq) = elim (cases_eq k n) [
  | inl e ↦ absurd (nq (subst P e p))
  | inr ne ↦ count_below k (omega arith) p at r
]

-- so a count tells the number
index_unique : {P : ℕ → Type 0} {i : ℕ} (a b : ℕ) → P a → P b → Count P a i → Count P b i → a ≡ b
index_unique a b pa pb ca cb = elim (cases_order a b) [
  | inl e ↦ e
  | inr o ↦ elim o [
    | inl l ↦ (let z : ⊥ = omega (arith, count_below a l pa ca cb) in absurd z)
    | inr g ↦ (let z : ⊥ = omega (arith, count_below b g pb cb ca) in absurd z)
  ]
]

-- a fact has one level
level_one : {t : Task} → Lawful t → (f : TaskFact) (a b : Option ℕ) → LevelIs t f a → LevelIs t f b → a ≡ b
level_one law f (Some x) (Some y) p q = ap Some (le_antisymm (p.first y q.has) (q.first x p.has))
level_one law f (Some x) None p q = absurd (q (layer_reach law x f p.has))
level_one law f None (Some y) p q = absurd (p (layer_reach law y f q.has))
level_one law f None None p q = refl

-- a line of a fact, by its parts
pub record FactPart (t : Task) (m : Machine) (n : ℕ) (y : Line) : Type 0 where
  pub line : FactLine
  pub is : y ≡ Fact line
  pub held : HeldAt m line.number
  pub shown : FactShown t line
  pub count : Count (HeldAt m) line.number n

-- a line of a pair, by its parts
pub record OrderPart (t : Task) (m : Machine) (n : ℕ) (y : Line) : Type 0 where
  pub line : OrderLine
  pub is : y ≡ Order line
  pub shown : OrderShown m line
  pub i : ℕ
  pub j : ℕ
  pub held : Count (HeldAt m) (facts t) i
  pub count : Count (OrderedAt m) (line.earlier * 256 + line.later) j
  pub sum : n ≡ i + j

parts : {t : Task} {m : Machine} {n : ℕ} {y : Line} → LineAt t m n y → FactPart t m n y ⊎ OrderPart t m n y
parts (fact_line_lem {x = x} h s c) = inl (record { line = x; is = refl; held = h; shown = s; count = c })
parts (order_line_lem {i} {j} {x} s h c) = inr (record { line = x; is = refl; shown = s; i = i; j = j; held = h; count = c; sum = refl })

-- two fact lines of one number
fact_same : {t : Task} → Lawful t → (x y : FactLine) → x.number ≡ y.number → FactShown t x → FactShown t y → x ≡ y
fact_same {t} law x y e sx sy = λ i. record { number = e i; variable = (same i).variable; value = (same i).value; level = level i }
  where
    same : fact x.variable x.value ≡ fact y.variable y.value
    same = numbered_unique (subst (λ (k : ℕ). Numbered t k (fact x.variable x.value)) e sx.numbered) sy.numbered

    level : x.level ≡ y.level
    level = level_one law (fact y.variable y.value) x.level y.level (subst (λ (f : TaskFact). LevelIs t f x.level) same sx.level) sy.level

-- two lines of one pair
order_same : {m : Machine} (x y : OrderLine) → x.earlier ≡ y.earlier → x.later ≡ y.later → OrderShown m x → OrderShown m y → x ≡ y
order_same {m} x y e l sx sy = λ i. record { kind = kind i; earlier = e i; later = l i }
  where
    kind : x.kind ≡ y.kind
    kind = sx.kind ∙ (λ i. shown_kind m (e i) (l i)) ∙ sym sy.kind

-- the pair at the place of a pair is that pair
at_place : {m : Machine} (x : OrderLine) → OrderShown m x → OrderedAt m (x.earlier * 256 + x.later)
at_place {m} x s = subst (λ (a : ℕ). InAnyKind m a ((x.earlier * 256 + x.later) % 256)) (sym high) (subst (InAnyKind m x.earlier) (sym low) s.ordered)
  where
    high : (x.earlier * 256 + x.later) / 256 ≡ x.earlier
    high = omega (arith, s.later)

    low : (x.earlier * 256 + x.later) % 256 ≡ x.later
    low = omega (arith, s.later)

pub one_line : OneLine
one_line t law m i x y a b = elim (parts a) [
  | inl p ↦ elim (parts b) [
    | inl q ↦ p.is ∙ ap Fact (fact_same law p.line q.line (index_unique p.line.number q.line.number p.held q.held p.count q.count) p.shown q.shown) ∙ sym q.is
    | inr q ↦ absurd (apart p q)
  ]
  | inr p ↦ elim (parts b) [
    | inl q ↦ absurd (apart q p)
    | inr q ↦ p.is ∙ ap Order (pair p q) ∙ sym q.is
  ]
]
  where
    apart : {v w : Line} → FactPart t m i v → OrderPart t m i w → ⊥
    apart p q = omega (arith, q.sum, count_below p.line.number (numbered_below p.shown.numbered) p.held p.count q.held)

    pair : (p : OrderPart t m i x) (q : OrderPart t m i y) → p.line ≡ q.line
    pair p q =
        let first : p.i ≡ q.i = count_unique p.held q.held in
        let second : p.j ≡ q.j = omega (arith, p.sum, q.sum, first) in
        let place : p.line.earlier * 256 + p.line.later ≡ q.line.earlier * 256 + q.line.later = index_unique (p.line.earlier * 256 + p.line.later) (q.line.earlier * 256 + q.line.later) (at_place p.line p.shown) (at_place q.line q.shown) (subst (Count (OrderedAt m) (p.line.earlier * 256 + p.line.later)) second p.count) q.count in
        let e : p.line.earlier ≡ q.line.earlier = omega (arith, place, p.shown.later, q.shown.later) in
        let l : p.line.later ≡ q.line.later = omega (arith, place, p.shown.later, q.shown.later) in
        order_same p.line q.line e l p.shown q.shown

dec_true : (b : Bool) → Dec (b ≡ true)
dec_true b = elim (cases_Bool b) [ inl e ↦ yes e | inr e ↦ no (both_ways b e) ]

pub all_listed : AllListed
all_listed t m = (facts_listed, pairs_listed)
  where
    dec_held : (n k : ℕ) → k < n → Dec (HeldAt m k)
    dec_held n k low = dec_true (m.held k)

    facts_listed : (x : FactLine) → HeldAt m x.number → FactShown t x → (i : ℕ) × LineAt t m i (Fact x)
    facts_listed x h s = let (i, c) = counted {P = HeldAt m} x.number (dec_held x.number) in (i, fact_line_lem h s c)

    pairs_listed : (x : OrderLine) → OrderShown m x → (i : ℕ) × LineAt t m i (Order x)
    pairs_listed x s =
        let (i, h) = counted {P = HeldAt m} (facts t) (dec_held (facts t)) in
        let (j, c) = counted {P = OrderedAt m} (x.earlier * 256 + x.later) (λ k low. dec_either (dec_true (m.ordered Greedy (k / 256) (k % 256))) (dec_true (m.ordered Necessary (k / 256) (k % 256)))) in
        (i + j, order_line_lem s h c)
