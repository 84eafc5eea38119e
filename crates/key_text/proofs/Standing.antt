-- From number to number, and from line to line.
use Rattle.std.proofs.Common.{◌≡◌, ℕ, zero, suc, ◌+◌, ◌-◌, ◌/◌, ◌%◌, ◌<◌, ◌≤◌, sym, refl, ◌∙◌, subst, arith}
use Rattle.task.specs.Task.{Task, facts}
use Rattle.reach.specs.Built.{LevelsBuilt}
use Rattle.rules.specs.Machine.{Machine, Count, Count.none}
use Rattle.judging.proofs.Sums.{count_hit, count_miss}
use Rattle.lines.specs.declared.line.FactLine.{FactLine}
use Rattle.lines.specs.declared.line.OrderLine.{OrderLine}
use Rattle.lines.specs.declared.line.Line.TheVariants.{Fact, Order}
use Rattle.key_text.specs.declared.cursor.Cursor.{Cursor}
use Rattle.listing.specs.Listing.{HeldAt, OrderedAt, shown_kind, FactShown, LineAt, LineCount}
use Rattle.key_text.specs.Cursors.{Stands, Stands.at_facts, Stands.at_pairs}
use Rattle.listing.proofs.Lining.{line_of_fact, line_of_pair}

-- no number from one on and below another satisfies P
abbrev pub NoneIn : (ℕ → Type 0) → ℕ → ℕ → Type 0
NoneIn P from n = (k : ℕ) → from ≤ k → k < n → P k → ⊥

-- the first number from one on and below a limit that satisfies P
abbrev pub First : (ℕ → Type 0) → ℕ → ℕ → ℕ → Type 0
First P from limit k = (from ≤ k) × (k < limit) × P k × NoneIn P from k

-- a count goes on over numbers that do not count
count_on : {P : ℕ → Type 0} {c : ℕ} (a d : ℕ) → Count P a c → NoneIn P a (a + d) → Count P (a + d) c
count_on {P} {c} a zero count not = let e : a ≡ a + 0 = omega arith in subst (λ (n : ℕ). Count P n c) e count
count_on {P} {c} a (suc d) count not =
    let e : (a + d) + 1 ≡ a + suc d = omega arith in
    subst (λ (n : ℕ). Count P n c) e (count_miss (count_on a d count (λ k low high. not k low (omega arith))) (not (a + d) (omega arith) (omega arith)))

pub count_to : {P : ℕ → Type 0} {c : ℕ} (a b : ℕ) → a ≤ b → Count P a c → NoneIn P a b → Count P b c
count_to {P} {c} a b le count not =
    let e : a + (b - a) ≡ b = omega arith in
    subst (λ (n : ℕ). Count P n c) e (count_on a (b - a) count (λ k low high. not k low (omega arith)))

-- a cursor before the first line
pub stands_first : (t : Task) (m : Machine) (x : Cursor) → LevelsBuilt t x.levels.table → x.fact ≡ 0 → x.place ≡ 0 → Stands t m x 0
stands_first t m x built e z = at_facts built (omega arith) (subst (λ (k : ℕ). Count (HeldAt m) k 0) (sym e) none) z

pub knows_levels : {t : Task} {m : Machine} {n : ℕ} (x : Cursor) → Stands t m x n → LevelsBuilt t x.levels.table
knows_levels x (at_facts built low count z) = built
knows_levels x (at_pairs built low count few pairs) = built

-- past a fact
pub past_fact : {t : Task} {m : Machine} {n : ℕ} (x y : Cursor) (k : ℕ) (line : FactLine) → Stands t m x n → First (HeldAt m) x.fact (facts t) k → y.levels.table ≡ x.levels.table → y.fact ≡ k + 1 → y.place ≡ x.place → line.number ≡ k → (LevelsBuilt t x.levels.table → FactShown t line) → LineAt t m n (Fact line) × Stands t m y (n + 1)
past_fact {t} {m} x y k line (at_facts {i} built low count z) next el ef ep number shown =
    (line_of_fact line k i number (next.2, here) (shown built), at_facts (subst (LevelsBuilt t) (sym el) built) (omega (arith, next.1)) (subst (λ (j : ℕ). Count (HeldAt m) j (i + 1)) (sym ef) (count_hit here next.2)) (ep ∙ z))
  where
    here : Count (HeldAt m) k i
    here = count_to x.fact k next.0 count next.3
past_fact {t} {m} x y k line (at_pairs built all count few pairs) next el ef ep number shown =
    let z : ⊥ = omega (arith, next.0, next.1, all) in absurd z

-- a cursor with no fact to come stands among the pairs
pub record AmongPairs (t : Task) (m : Machine) (x : Cursor) (n : ℕ) : Type 0 where
  pub held : ℕ
  pub ordered : ℕ
  pub built : LevelsBuilt t x.levels.table
  pub facts_before : Count (HeldAt m) (facts t) held
  pub inside : x.place ≤ 65536
  pub pairs_before : Count (OrderedAt m) x.place ordered
  pub is : n ≡ held + ordered

pub no_fact : {t : Task} {m : Machine} {n : ℕ} (x : Cursor) → Stands t m x n → NoneIn (HeldAt m) x.fact (facts t) → AmongPairs t m x n
no_fact {t} {m} x (at_facts {i} built low count z) none_left = record {
  held = i;
  ordered = 0;
  built = built;
  facts_before = count_to x.fact (facts t) low count none_left;
  inside = omega arith;
  pairs_before = subst (λ (k : ℕ). Count (OrderedAt m) k 0) (sym z) none;
  is = omega arith;
}
no_fact {t} {m} x (at_pairs {i} {j} built all count few pairs) none_left = record {
  held = i;
  ordered = j;
  built = built;
  facts_before = count;
  inside = few;
  pairs_before = pairs;
  is = refl;
}

-- past a pair
pub past_pair : {t : Task} {m : Machine} {n : ℕ} (x y : Cursor) (k : ℕ) (line : OrderLine) → AmongPairs t m x n → First (OrderedAt m) x.place 65536 k → y.levels.table ≡ x.levels.table → y.fact ≡ facts t → y.place ≡ k + 1 → line.earlier ≡ k / 256 → line.later ≡ k % 256 → line.kind ≡ shown_kind m (k / 256) (k % 256) → LineAt t m n (Order line) × Stands t m y (n + 1)
past_pair {t} {m} {n} x y k line among next el ef ep e l kind =
    (line_of_pair line k i n next.1 e l kind (next.2, subst (Count (OrderedAt m) k) rest here) among.facts_before (omega (arith, among.is)), subst (Stands t m y) whole (at_pairs (subst (LevelsBuilt t) (sym el) among.built) ef among.facts_before (omega (arith, next.1)) (subst (λ (p : ℕ). Count (OrderedAt m) p (j + 1)) (sym ep) (count_hit here next.2))))
  where
    i : ℕ
    i = among.held

    j : ℕ
    j = among.ordered

    here : Count (OrderedAt m) k j
    here = count_to x.place k next.0 among.pairs_before next.3

    rest : among.ordered ≡ n - among.held
    rest = omega (arith, among.is)

    whole : among.held + (among.ordered + 1) ≡ n + 1
    whole = omega (arith, among.is)

-- behind the last line
pub past_all : {t : Task} {m : Machine} {n : ℕ} (x : Cursor) → AmongPairs t m x n → NoneIn (OrderedAt m) x.place 65536 → LineCount t m n
past_all {t} {m} x among none_left =
    (among.held, (among.ordered, among.facts_before, count_to x.place 65536 among.inside among.pairs_before none_left, among.is))
