-- The lists of a task with one more record. Assumes nothing.
use Rattle.std.proofs.Common.{◌≡◌, ℕ, true, false, cond, eqb, List, [], ◌∷◌, ◌++◌, map, ap, ◌∙◌}
use Rattle.std.proofs.lemmas.List.{append-nil, map_push}
use Rattle.records.specs.declared.record.Record.{Record}
use Rattle.lists.specs.declared.table.Pair.{Pair}
use Rattle.records.specs.declared.record.Kind.TheVariants.{Variable, Goal, Action}
use Rattle.records.specs.Kinds.{of_kind, parts}
use Rattle.lists.specs.Lists.{Row, Lists, no_row}
use Rattle.lists.specs.Puts.{last_row}
use Rattle.lists.specs.Puts.{put, with_last}
use Rattle.lists.proofs.Sames.{same_lists}
use Rattle.records.proofs.Parts.{of_kind_push, on_end_same, on_end_set, map_on_end, parts_other, parts_same}

pub kept_yes : (k : ℕ) (rs : List Record) (r : Record) → eqb r.kind k ≡ true → of_kind k (rs ++ r ∷ []) ≡ of_kind k rs ++ r ∷ []
kept_yes k rs r e = of_kind_push k rs r ∙ ap (λ t. of_kind k rs ++ cond t (r ∷ []) []) e

pub kept_no : (k : ℕ) (rs : List Record) (r : Record) → eqb r.kind k ≡ false → of_kind k (rs ++ r ∷ []) ≡ of_kind k rs
kept_no k rs r e = of_kind_push k rs r ∙ ap (λ t. of_kind k rs ++ cond t (r ∷ []) []) e ∙ append-nil (of_kind k rs)

module _ (nv ng na : ℕ) (size start : Record → ℕ) (goal : Record → Pair) (row : List Record → Row) where
  abbrev pub lists_by : List Record → Lists
  lists_by rs = record { sizes = map size (of_kind nv rs); starts = map start (of_kind nv rs); goals = map goal (of_kind ng rs); rows = map row (parts na rs) }

  module _ (rs : List Record) (r : Record) where
    rows_kept : eqb r.kind na ≡ false → ((p : List Record) → row (p ++ r ∷ []) ≡ row p) → map row (parts na (rs ++ r ∷ [])) ≡ map row (parts na rs)
    rows_kept e h = ap (map row) (parts_other na r e rs) ∙ map_on_end row (λ p. p ++ r ∷ []) (λ x. x) h (parts na rs) ∙ on_end_same (map row (parts na rs))

    pub push_variable : eqb r.kind nv ≡ true → eqb r.kind ng ≡ false → eqb r.kind na ≡ false → ((p : List Record) → row (p ++ r ∷ []) ≡ row p) → lists_by (rs ++ r ∷ []) ≡ put Variable (size r) (start r) (lists_by rs)
    push_variable v g a h = same_lists (ap (map size) (kept_yes nv rs r v) ∙ map_push size (of_kind nv rs) r) (ap (map start) (kept_yes nv rs r v) ∙ map_push start (of_kind nv rs) r) (ap (map goal) (kept_no ng rs r g)) (rows_kept a h)

    pub push_goal : eqb r.kind nv ≡ false → eqb r.kind ng ≡ true → eqb r.kind na ≡ false → ((p : List Record) → row (p ++ r ∷ []) ≡ row p) → lists_by (rs ++ r ∷ []) ≡ put Goal (goal r).variable (goal r).value (lists_by rs)
    push_goal v g a h = same_lists (ap (map size) (kept_no nv rs r v)) (ap (map start) (kept_no nv rs r v)) (ap (map goal) (kept_yes ng rs r g) ∙ map_push goal (of_kind ng rs) r) (rows_kept a h)

    pub push_action : eqb r.kind nv ≡ false → eqb r.kind ng ≡ false → eqb r.kind na ≡ true → row [] ≡ no_row → lists_by (rs ++ r ∷ []) ≡ put Action 0 0 (lists_by rs)
    push_action v g a h = same_lists (ap (map size) (kept_no nv rs r v)) (ap (map start) (kept_no nv rs r v)) (ap (map goal) (kept_no ng rs r g)) (ap (map row) (parts_same na r a rs) ∙ map_push row (parts na rs) [] ∙ ap (λ x. map row (parts na rs) ++ x ∷ []) h)

    pub push_row : (f : Row → Row) → eqb r.kind nv ≡ false → eqb r.kind ng ≡ false → eqb r.kind na ≡ false → ((p : List Record) → row (p ++ r ∷ []) ≡ f (row p)) → lists_by (rs ++ r ∷ []) ≡ with_last (lists_by rs) (f (last_row (lists_by rs)))
    push_row f v g a h = same_lists (ap (map size) (kept_no nv rs r v)) (ap (map start) (kept_no nv rs r v)) (ap (map goal) (kept_no ng rs r g)) (ap (map row) (parts_other na r a rs) ∙ map_on_end row (λ p. p ++ r ∷ []) f h (parts na rs) ∙ on_end_set f no_row (map row (parts na rs)))
