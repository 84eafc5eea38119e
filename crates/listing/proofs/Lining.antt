-- Lines from what the searches found.
use Rattle.std.proofs.Common.{◌≡◌, ℕ, ◌+◌, ◌-◌, ◌*◌, ◌/◌, ◌%◌, ◌<◌, ◌≤◌, List, ◌++◌, length, drop, Bool, true, ◌||◌, ◌⊎◌, ⊎_elim, refl, false, Some, None, Option, IsSome, Decides, Ok, Err, Result, MatchOption, MatchResult, inl, inr, sym, ap, ◌∙◌, subst, arith, length-append}
use Rattle.std.proofs.lemmas.Bool.{cases_lt, or_cases, or_left, or_right, false_from_ne_true, false≢true}
use Rattle.task.specs.Task.{Task, Fact as TaskFact, Lawful, Numbered, facts}
use Rattle.task.specs.Facts.{Exactly}
use Rattle.task.specs.Single.{is_lawful}
use Rattle.task.proofs.Numbers.{numbered, number_in}
use Rattle.task.proofs.Options.{no_some}
use Rattle.reach.specs.Relaxed.{GoalInReach}
use Rattle.rules.specs.declared.calls.Kind.TheVariants.{Greedy, Necessary}
use Rattle.rules.specs.Machine.{Machine, Count}
use Rattle.judging.proofs.Sums.{count_as}
use Rattle.key.specs.declared.keys.Key.{Key}
use Rattle.key.specs.Keys.{task_of}
use Rattle.lines.specs.declared.line.Line.{Line}
use Rattle.lines.specs.declared.line.FactLine.{FactLine}
use Rattle.lines.specs.declared.line.OrderLine.{OrderLine}
use Rattle.lines.specs.declared.line.Line.TheVariants.{Fact, Order}
use Rattle.listing.specs.declared.refusal.ListingRefusal.{ListingRefusal}
use Rattle.listing.specs.declared.refusal.ListingRefusal.TheVariants.{NoSuchLine}
use Rattle.listing.specs.Finding.{Sought, Lined}
use Rattle.listing.specs.Listing.{HeldAt, OrderedAt, InAnyKind, shown_kind, FactShown, OrderShown, LineAt, Refused, LineAt.fact_line_lem, LineAt.order_line_lem}

-- a key's task keeps the limits
pub key_lawful : (k : Key) → Lawful (task_of k)
key_lawful k = is_lawful (task_of k) k.marker.source.lawful

-- what is answered where there is no reason not to
pub is_there : {A : Type 0} (P : Type 0) (Q : A → Type 0) (r : Option A) → (P → ⊥) → MatchOption r P Q → IsSome r
is_there P Q (Some x) not said = refl
is_there P Q None not said = absurd (not said)

-- what is said of an answer
pub said_of : {A : Type 0} (P : Type 0) (Q : A → Type 0) (r : Option A) (x : A) → r ≡ Some x → MatchOption r P Q → Q x
said_of {A} P Q r x e said = subst (λ (o : Option A). MatchOption o P Q) e said

-- a number that no fact has is none of the facts', by a task's other name
pub no_fact : (t u : Task) (n : ℕ) (r : Option TaskFact) → t ≡ u → Exactly (Numbered t n) r → r ≡ None → facts u ≤ n
no_fact t u n r e exact none = subst (λ (v : Task). facts v ≤ n) e (go (cases_lt n (facts t)))
  where
    go : (n < facts t) ⊎ (facts t ≤ n) → facts t ≤ n
    go (inl low) = let (f, is) = numbered t n low in absurd (no_some f (sym none ∙ exact.found f is))
    go (inr high) = high

-- a fact's number is one of the facts'
pub below_facts : (t : Task) (n : ℕ) (f : TaskFact) → Numbered t n f → n < facts t
below_facts t n f d = omega (arith, d.is, number_in t.size f.variable t.vars f.value d.in_vars d.in_size)

-- the fact of a number, by a task's other name
pub fact_of : (t u : Task) (n : ℕ) (r : Option TaskFact) (f : TaskFact) → t ≡ u → Exactly (Numbered t n) r → r ≡ Some f → Numbered u n f
fact_of t u n r f e exact is = subst (λ (v : Task). Numbered v n f) e (exact.right f is)

-- the line of a fact that was found
pub line_of_fact : {t : Task} {m : Machine} (x : FactLine) (n i : ℕ) → x.number ≡ n → HeldAt m n × Count (HeldAt m) n i → FactShown t x → LineAt t m i (Fact x)
line_of_fact {t} {m} x n i e (held, count) shown =
    fact_line_lem (subst (HeldAt m) (sym e) held) shown (subst (λ (k : ℕ). Count (HeldAt m) k i) (sym e) count)

-- the line of a pair that was found
pub line_of_pair : {t : Task} {m : Machine} (x : OrderLine) (k i number : ℕ) → k < 65536 → x.earlier ≡ k / 256 → x.later ≡ k % 256 → x.kind ≡ shown_kind m (k / 256) (k % 256) → OrderedAt m k × Count (OrderedAt m) k (number - i) → Count (HeldAt m) (facts t) i → i ≤ number → LineAt t m number (Order x)
line_of_pair {t} {m} x k i number low e l kind (here, count) held few =
    subst (λ (n : ℕ). LineAt t m n (Order x)) whole (order_line_lem shown held (subst (λ (n : ℕ). Count (OrderedAt m) n (number - i)) (sym place) count))
  where
    whole : i + (number - i) ≡ number
    whole = omega arith

    place : x.earlier * 256 + x.later ≡ k
    place = omega arith

    shown : OrderShown m x
    shown = record {
      earlier = omega arith;
      later = omega arith;
      ordered = subst (λ (a : ℕ). InAnyKind m a x.later) (sym e) (subst (InAnyKind m (k / 256)) (sym l) here);
      kind = subst (λ (a : ℕ). x.kind ≡ shown_kind m a x.later) (sym e) (subst (λ (b : ℕ). x.kind ≡ shown_kind m (k / 256) b) (sym l) kind);
    }

-- one of two tests
or_of : (x y : Bool) → (x ≡ true) ⊎ (y ≡ true) → (x || y) ≡ true
or_of x y = ⊎_elim (or_left x y) (or_right x y)

-- whether two facts are ordered, in any kind
abbrev pub any_of : Machine → ℕ → ℕ → Bool
any_of m e l = m.ordered Greedy e l || m.ordered Necessary e l

-- what says whether a pair is ordered says that
pub says_of : (m : Machine) (b : Bool) (e l e' l' : ℕ) → e' ≡ e → l' ≡ l → Decides b (InAnyKind m e' l') → b ≡ any_of m e l
says_of m b e l e' l' he hl d = go b (subst (λ (i : ℕ). Decides b (InAnyKind m i l)) he (subst (λ (j : ℕ). Decides b (InAnyKind m e' j)) hl d))
  where
    go : (b : Bool) → Decides b (InAnyKind m e l) → b ≡ any_of m e l
    go true d = sym (or_of _ _ (d.0 refl))
    go false d = sym (false_from_ne_true _ (λ x. false≢true (d.1 (or_cases _ _ x))))

-- so a pair is ordered, or not
pub is_of : (m : Machine) (e l : ℕ) → true ≡ any_of m e l → InAnyKind m e l
is_of m e l x = or_cases _ _ (sym x)

pub not_of : (m : Machine) (e l : ℕ) → false ≡ any_of m e l → InAnyKind m e l → ⊥
not_of m e l x o = false≢true (x ∙ or_of _ _ o)

-- the same of the pair at a place
abbrev pub any_kind : Machine → ℕ → Bool
any_kind m k = any_of m (k / 256) (k % 256)

pub says_any : (m : Machine) (b : Bool) (k e l : ℕ) → e ≡ k / 256 → l ≡ k % 256 → Decides b (InAnyKind m e l) → b ≡ any_kind m k
says_any m b k e l he hl d = says_of m b (k / 256) (k % 256) e l he hl d

-- a search by that finds ordered pairs
pub pairs_sought : (m : Machine) (index : ℕ) (r : Result ℕ ℕ) → Sought (λ k. any_kind m k ≡ true) 65536 index r → Sought (OrderedAt m) 65536 index r
pairs_sought m index (Ok k) (here, count) = (or_cases _ _ here, count_as (λ j low. or_cases _ _) (λ j low. or_of _ _) count)
pairs_sought m index (Err c) count = count_as (λ j low. or_cases _ _) (λ j low. or_of _ _) count

-- the refusal of a number that no line has
pub no_such_line : (t : Task) (m : Machine) (number room : ℕ) (r : Result Line ℕ) (told : Result Line ListingRefusal) (e : ListingRefusal) → GoalInReach t → 32 ≤ room → Lined t m number r → MatchResult r (λ x. told ≡ Ok x) (λ n. told ≡ Err (NoSuchLine n)) → told ≡ Err e → Refused t m number room e
no_such_line t m number room (Ok x) told e reach wide lined is told_is = absurd (apart (sym is ∙ told_is))
  where
    apart : Ok x ≡ Err e → ⊥
    apart h = cc
no_such_line t m number room (Err n) told e reach wide (count, low) is told_is = subst (Refused t m number room) same (reach, wide, count, low)
  where
    same : NoSuchLine n ≡ e
    same = cc

-- a text in front of a list is no longer than the whole
pub front_fits : (before text left : List ℕ) (n : ℕ) → n ≡ length text → left ≡ text ++ drop n before → n ≤ length left
front_fits before text left n e is = omega (arith, e, ap (λ (xs : List ℕ). length xs) is, length-append text (drop n before))
