-- What sound records of a paper say of their task. Assumes nothing.
use Rattle.std.proofs.Common.{◌≡◌, ℕ, List, [], map, length, get_or, Some, None, Option, sym, refl, ap, ◌∙◌, subst}
use lib.ListN.{length-map}
use Rattle.std.proofs.lemmas.Bool.{lt-ltb}
use Rattle.records.specs.declared.record.Record.{Record}
use Rattle.records.specs.Kinds.{of_kind, parts}
use Rattle.records.specs.Faults.{Sound}
use Rattle.records.proofs.Members.{mem_kind, kind_mem, length_parts, part_mem, mem_part}
use Rattle.lists.specs.Lists.{Row, value_in, or_else, no_row}
use Rattle.forms.proofs.Apart.{Apart, ListsApart, row_apart}
use Rattle.forms.proofs.Lawfuls.{form_apart}
use Rattle.forms.proofs.Sayings.{given, taken, row_is, variable_is, first, second}
use Rattle.paper.specs.Paper.{paper_fault, paper_task, paper_row, paper_lists, paper_rules, pair}
use Rattle.paper.specs.Meaning.{PaperSays}
use Rattle.paper.specs.Papers.{paper_grows}

pub paper_says : (rs : List Record) → Sound paper_fault rs → PaperSays rs (paper_task rs)
paper_says rs s = record {
  vars = length-map (of_kind 1 rs) (λ (r : Record). r.one);
  size = variable_is (λ (r : Record). r.one) 1 rs;
  start = variable_is (λ (r : Record). r.two) 1 rs;
  goal = λ v x. (
    λ e. let h = given pair (of_kind 2 rs) apart.goals v x e in let k = kind_mem 2 rs h.0 h.1 in (k.0, h.0, k.1, (first h.2, second h.2)),
    λ h. taken pair (of_kind 2 rs) apart.goals v x h.1 (mem_kind 2 rs h.0 h.1 h.2) h.3.0 h.3.1,
  );
  actions = length-map (parts 3 rs) paper_row ∙ length_parts 3 rs;
  present = λ a l. lt-ltb a (length (paper_lists rs).rows) l;
  need = λ a v x. (
    λ e. let h = given pair (of_kind 4 (part a)) (conditions a) v x (subst (λ (w : Row). value_in w.conditions v ≡ Some x) (row a) e) in let k = mem_part 3 4 refl h.0 rs a h.1 in (k.0, h.0, k.1, k.2, (first h.2, second h.2)),
    λ h. subst (λ (w : Row). value_in w.conditions v ≡ Some x) (sym (row a)) (taken pair (of_kind 4 (part a)) (conditions a) v x h.1 (part_mem 3 4 refl h.1 rs h.0 a h.2 h.3) h.4.0 h.4.1),
  );
  give = λ a v x. (
    λ e. let h = given pair (of_kind 5 (part a)) (effects a) v x (whole a v x (subst (λ (w : Row). or_else (value_in w.effects v) (value_in w.deletes v) ≡ Some x) (row a) e)) in let k = mem_part 3 5 refl h.0 rs a h.1 in (k.0, h.0, k.1, k.2, (first h.2, second h.2)),
    λ h. subst (λ (w : Row). or_else (value_in w.effects v) (value_in w.deletes v) ≡ Some x) (sym (row a)) (ap (λ o. or_else o None) (taken pair (of_kind 5 (part a)) (effects a) v x h.1 (part_mem 3 5 refl h.1 rs h.0 a h.2 h.3) h.4.0 h.4.1)),
  );
}
  where
    apart : ListsApart (paper_lists rs)
    apart = form_apart paper_rules refl paper_grows rs s

    part : ℕ → List Record
    part a = get_or (parts 3 rs) a []

    row : (a : ℕ) → get_or (paper_lists rs).rows a no_row ≡ paper_row (part a)
    row a = row_is paper_row (parts 3 rs) a

    conditions : (a : ℕ) → Apart (map pair (of_kind 4 (part a)))
    conditions a = subst (λ (w : Row). Apart w.conditions) (row a) (row_apart (paper_lists rs) apart a).conditions

    effects : (a : ℕ) → Apart (map pair (of_kind 5 (part a)))
    effects a = subst (λ (w : Row). Apart w.effects) (row a) (row_apart (paper_lists rs) apart a).effects

    only : (o : Option ℕ) → or_else o None ≡ o
    only None = refl
    only (Some y) = refl

    whole : (a v x : ℕ) → or_else (value_in (map pair (of_kind 5 (part a))) v) None ≡ Some x → value_in (map pair (of_kind 5 (part a))) v ≡ Some x
    whole a v x e = sym (only (value_in (map pair (of_kind 5 (part a))) v)) ∙ e
