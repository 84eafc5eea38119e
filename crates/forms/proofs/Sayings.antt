-- What lists made from records hold. Assumes nothing.
use Rattle.std.proofs.Common.{◌≡◌, ℕ, zero, suc, List, [], ◌∷◌, map, get_or, Some, refl, ap, ◌∙◌, subst}
use Rattle.std.proofs.lemmas.List.{get_or-map}
use Rattle.records.specs.declared.record.Record.{Record}
use Rattle.records.specs.Records.{no_record}
use Rattle.records.specs.Kinds.{of_kind, At, before}
use Rattle.records.proofs.Members.{Mem, mem_map, map_mem, at_kind}
use Rattle.lists.specs.declared.table.Pair.{Pair}
use Rattle.lists.specs.Lists.{value_in}
use Rattle.forms.proofs.Apart.{Apart, apart_mem, value_mem}

-- a list made from records that name a variable once
module _ (f : Record → Pair) (ms : List Record) (once : Apart (map f ms)) (v x : ℕ) where
  pub given : value_in (map f ms) v ≡ Some x → (r : Record) × Mem r ms × (f r ≡ record { variable = v; value = x })
  given e = map_mem f (record { variable = v; value = x }) ms (value_mem (map f ms) v x e)

  pub taken : (r : Record) → Mem r ms → (f r).variable ≡ v → (f r).value ≡ x → value_in (map f ms) v ≡ Some x
  taken r m e g = subst (λ u. value_in (map f ms) u ≡ Some x) e (apart_mem (map f ms) (f r) once (mem_map f r ms m) ∙ ap Some g)

-- a row is made from the records of its action
pub row_is : {X : Type 0} (f : List Record → X) (ps : List (List Record)) (a : ℕ) → get_or (map f ps) a (f []) ≡ f (get_or ps a [])
row_is f [] a = refl
row_is f (p ∷ ps) zero = refl
row_is f (p ∷ ps) (suc a) = row_is f ps a

pub variable_is : (f : Record → ℕ) (k : ℕ) (rs : List Record) (i : ℕ) (r : Record) → At rs i k r → get_or (map f (of_kind k rs)) (before k rs i) 0 ≡ f r
variable_is f k rs i r a = let h = at_kind k rs i r a in get_or-map f (of_kind k rs) (before k rs i) no_record 0 h.0 ∙ ap f h.1

pub first : {a b c d : ℕ} → ◌≡◌ {A = Pair} (record { variable = a; value = b }) (record { variable = c; value = d }) → a ≡ c
first e = ap (λ (p : Pair). p.variable) e

pub second : {a b c d : ℕ} → ◌≡◌ {A = Pair} (record { variable = a; value = b }) (record { variable = c; value = d }) → b ≡ d
second e = ap (λ (p : Pair). p.value) e
