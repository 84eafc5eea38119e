-- Sound records of any form mean a lawful task, and name a variable once in each list. Assumes nothing.
use Rattle.std.proofs.Common.{◌≡◌, ℕ, ◌<◌, ◌≤◌, false, eqb, ltb, leb, List, [], ◌∷◌, ◌++◌, length, get_or, Some, None, Option, sym, refl, subst, arith}
use Rattle.std.proofs.lemmas.Bool.{eqb-false, ltb-false, leb-false, or_parts}
use Rattle.task.specs.Task.{Lawful}
use Rattle.records.specs.declared.record.Record.{Record}
use Rattle.records.specs.declared.record.Kind.{Kind}
use Rattle.records.specs.declared.record.Kind.TheVariants.{Variable, Goal, Action, Condition, Effect, Delete}
use Rattle.records.specs.Faults.{Sound}
use Rattle.records.proofs.Along.{along}
use Rattle.lists.specs.Lists.{Lists, task_of}
use Rattle.forms.specs.Forms.{FormRules, first_cause, causes, after, fault_of, Begins, Grows}
use Rattle.forms.proofs.Clear.{clear, placed, room}
use Rattle.forms.proofs.Good.{Good, FitsIn, In, good_none, good_put, lawful}
use Rattle.forms.proofs.Apart.{ListsApart, apart_put}

inside : (b : Lists) (x y : ℕ) → leb (length b.sizes) x ≡ false → leb (get_or b.sizes x 0) y ≡ false → In b.sizes (record { variable = x; value = y })
inside b x y p q = (leb-false (length b.sizes) x p, leb-false (get_or b.sizes x 0) y q)

module _ (f : FormRules) (begins : Begins f) (grows : Grows f) where
  -- an accepted record fits
  fits : (k : Kind) (b : Lists) (r : Record) → first_cause (causes f k b r) ≡ None → FitsIn k (f.enters k r).first (f.enters k r).second b
  fits Variable b r e =
      let h = clear (causes f Variable b r) e in
      let x = (f.enters Variable r).first in
      let y = (f.enters Variable r).second in
      let p = placed Variable b h.1.1.1.0 in
      let q = room x b h.1.1.1.1.0 in
      let w = or_parts (eqb x 0) (ltb 16 x) h.1.1.1.1.1.0 in
      let l = ltb-false 16 x w.1 in
      let n = eqb-false x 0 w.0 in
      let pos : 1 ≤ x = omega arith in
      (p.0, p.1, q.0, q.1, (pos, l, leb-false x y h.1.1.1.1.1.1.0))
  fits Goal b r e = let h = clear (causes f Goal b r) e in inside b _ _ h.1.1.1.1.1.0 h.1.1.1.1.1.1.0
  fits Action b r e = let h = clear (causes f Action b r) e in (placed Action b h.1.1.1.0, leb-false 512 (length b.rows) h.1.1.1.1.0)
  fits Condition b r e = let h = clear (causes f Condition b r) e in (placed Condition b h.1.1.1.0, inside b _ _ h.1.1.1.1.1.0 h.1.1.1.1.1.1.0)
  fits Effect b r e = let h = clear (causes f Effect b r) e in (placed Effect b h.1.1.1.0, inside b _ _ h.1.1.1.1.1.0 h.1.1.1.1.1.1.0)
  fits Delete b r e = let h = clear (causes f Delete b r) e in (placed Delete b h.1.1.1.0, inside b _ _ h.1.1.1.1.1.0 h.1.1.1.1.1.1.0)

  abbrev Kept : List Record → Type 0
  Kept rs = Good (f.lists rs) × (0 < length rs → 0 < length (f.lists rs).sizes)

  more : (rs : List Record) (r : Record) → Kept rs → (o : Option Kind) → f.kind r.kind ≡ o → after f o (f.lists rs) r ≡ None → Kept (rs ++ r ∷ [])
  more rs r g None q e = absurd cc
  more rs r g (Some k) q e =
      let h = good_put k (f.enters k r).first (f.enters k r).second (f.lists rs) g.0 (fits k (f.lists rs) r e) in
      subst (λ (b : Lists). Good b × (0 < length (rs ++ r ∷ []) → 0 < length b.sizes)) (sym (grows rs r k q)) (h.0, λ _. h.1)

  pub form_lawful : (rs : List Record) → 0 < length rs → Sound (fault_of f) rs → Lawful (task_of (f.lists rs))
  form_lawful rs l s =
      let start : Kept [] = (subst (λ (b : Lists). Good b) (sym begins) good_none, λ h. absurd (omega arith)) in
      let g = along (fault_of f) Kept start (λ qs r h e. more qs r h (f.kind r.kind) refl e) rs s in
      lawful (f.lists rs) g.0 (g.1 l)

  more_apart : (qs : List Record) (r : Record) → ListsApart (f.lists qs) → (o : Option Kind) → f.kind r.kind ≡ o → after f o (f.lists qs) r ≡ None → ListsApart (f.lists (qs ++ r ∷ []))
  more_apart qs r h None q e = absurd cc
  more_apart qs r h (Some k) q e = subst (λ (b : Lists). ListsApart b) (sym (grows qs r k q)) (apart_put k _ _ (f.lists qs) h (clear (causes f k (f.lists qs) r) e).1.1.1.1.1.1.1.0)

  -- each list names a variable once
  pub form_apart : (rs : List Record) → Sound (fault_of f) rs → ListsApart (f.lists rs)
  form_apart rs s = along (fault_of f) (λ qs. ListsApart (f.lists qs)) (subst (λ (b : Lists). ListsApart b) (sym begins) (record { goals = tt; rows = tt })) (λ qs r h e. more_apart qs r h (f.kind r.kind) refl e) rs s
