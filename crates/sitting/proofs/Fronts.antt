-- The bytes of one kind at the front of a list.
use Rattle.std.proofs.Common.{◌≡◌, ℕ, suc, ◌+◌, Bool, true, false, List, [], ◌∷◌, ◌++◌, length, take, drop, sym, refl, ap, ◌∙◌, subst, inl, inr, one-add}
use Rattle.std.specs.List.{prefix_len, AllByRecursion}
use Rattle.std.proofs.lemmas.Bool.{cases_Bool, cond-true, cond-false}

-- what passes p ends there
abbrev pub Stops : (ℕ → Bool) → List ℕ → Type 0
Stops p [] = Unit {0}
Stops p (c ∷ cs) = p c ≡ false

module _ (p : ℕ → Bool) where
  pub leading_yes : (x : ℕ) (xs : List ℕ) → p x ≡ true → prefix_len p (x ∷ xs) ≡ suc (prefix_len p xs)
  leading_yes x xs e = cond-true (p x) (1 + prefix_len p xs) 0 e ∙ one-add (prefix_len p xs)

  leading_no : (x : ℕ) (xs : List ℕ) → p x ≡ false → prefix_len p (x ∷ xs) ≡ 0
  leading_no x xs e = cond-false (p x) (1 + prefix_len p xs) 0 e

  -- the front passes
  pub all_leading : (xs : List ℕ) → AllByRecursion (λ c. p c ≡ true) (take (prefix_len p xs) xs)
  all_leading [] = tt
  all_leading (x ∷ xs) =
      elim (cases_Bool (p x)) [
        | inl e ↦ subst (λ n. AllByRecursion (λ c. p c ≡ true) (take n (x ∷ xs))) (sym (leading_yes x xs e)) (e, all_leading xs)
        | inr e ↦ subst (λ n. AllByRecursion (λ c. p c ≡ true) (take n (x ∷ xs))) (sym (leading_no x xs e)) tt
      ]

  -- and ends there
  pub stops_leading : (xs : List ℕ) → Stops p (drop (prefix_len p xs) xs)
  stops_leading [] = tt
  stops_leading (x ∷ xs) =
      elim (cases_Bool (p x)) [
        | inl e ↦ subst (λ n. Stops p (drop n (x ∷ xs))) (sym (leading_yes x xs e)) (stops_leading xs)
        | inr e ↦ subst (λ n. Stops p (drop n (x ∷ xs))) (sym (leading_no x xs e)) e
      ]

  leading_stop : (ys : List ℕ) → Stops p ys → prefix_len p ys ≡ 0
  leading_stop [] s = refl
  leading_stop (y ∷ ys) s = leading_no y ys s

  -- the front is what passes, if that ends there
  pub leading_front : (xs ys : List ℕ) → AllByRecursion (λ c. p c ≡ true) xs → Stops p ys → prefix_len p (xs ++ ys) ≡ length xs
  leading_front [] ys all s = leading_stop ys s
  leading_front (x ∷ xs) ys all s = leading_yes x (xs ++ ys) all.0 ∙ ap suc (leading_front xs ys all.1 s)
