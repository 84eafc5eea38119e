-- A reader that goes through the records. Assumes nothing.
use Rattle.std.proofs.Common.{◌≡◌, ℕ, ◌+◌, ◌%◌, ◌<◌, ◌≤◌, List, length, get_or, take, Some, None, sym, ap, ◌∙◌, subst, ap₂, inl, inr, ⊎_elim, arith, below_more}
use Rattle.std.proofs.lemmas.List.{take_more, take_all}
use Rattle.records.specs.declared.record.Record.{Record as FormRecord}
use Rattle.records.specs.declared.fault.ReadFault.{ReadFault}
use Rattle.records.specs.declared.fault.ReadFault.TheVariants.{Length, Record, Memory}
use Rattle.records.specs.declared.record.Kind.{Kind}
use Rattle.records.specs.Records.{records, no_record, BadLength}
use Rattle.records.specs.Faults.{fault_at, Sound, FirstFault}
use Rattle.std.proofs.lemmas.Bool.{cases_eq, cases_lt}
use Rattle.task.specs.Task.{Lawful}
use Rattle.lists.specs.Lists.{Lists, task_of}
use Rattle.lists.specs.Puts.{put}
use Rattle.forms.specs.Forms.{FormRules, Grows, after, fault_of}
use Rattle.forms.specs.Reading.{Refused, Stopped, Whole}
use Rattle.records.proofs.Quads.{length_records}

-- what holds when the first i records are taken up
pub record Read (f : FormRules) (bs : List ℕ) (i : ℕ) (b : Lists) : Type 0 where
  pub lists : b ≡ f.lists (take i (records bs))
  pub sound : (j : ℕ) → j < i → fault_at (fault_of f) (records bs) j ≡ None

module _ (f : FormRules) (bs : List ℕ) (i : ℕ) (b : Lists) (h : Read f bs i b) where
  -- what the code tested is what the page tests
  same_fault : (r : FormRecord) → r ≡ get_or (records bs) i no_record → after f (f.kind r.kind) b r ≡ fault_at (fault_of f) (records bs) i
  same_fault r e = ap₂ (λ (c : Lists) (q : FormRecord). after f (f.kind q.kind) c q) h.lists e

  pub one_more : Grows f → i < length (records bs) → (r : FormRecord) → r ≡ get_or (records bs) i no_record → (k : Kind) → f.kind r.kind ≡ Some k → after f (f.kind r.kind) b r ≡ None → (b' : Lists) → b' ≡ put k (f.enters k r).first (f.enters k r).second b → Read f bs (i + 1) b'
  one_more g l r e k q n b' p =
      let rs = records bs in
      record {
        lists = p ∙ ap₂ (λ (c : Lists) (s : FormRecord). put k (f.enters k s).first (f.enters k s).second c) h.lists e ∙ sym (g (take i rs) (get_or rs i no_record) k (subst (λ (s : FormRecord). f.kind s.kind ≡ Some k) e q)) ∙ ap f.lists (sym (take_more rs i no_record l));
        sound = below_more (λ j. fault_at (fault_of f) rs j ≡ None) i h.sound (sym (same_fault r e) ∙ n);
      }

  pub refused : (BadLength (length bs) → ⊥) → i < length (records bs) → (r : FormRecord) → r ≡ get_or (records bs) i no_record → (e : ReadFault) → Stopped (after f (f.kind r.kind) b r) i e → Refused (fault_of f) bs e
  refused long l r q Length s = absurd s
  refused long l r q (Record e) s = (long, subst (λ k. FirstFault (fault_of f) (records bs) k e.ground) (sym s.0) (record { within = l; faulty = sym (same_fault r q) ∙ s.1; first = h.sound }))
  refused long l r q Memory s = (long, (i, l, λ j m. ⊎_elim (λ less. h.sound j less) (λ same. let e : i ≡ j = omega arith in subst (λ k. fault_at (fault_of f) (records bs) k ≡ None) e (sym (same_fault r q) ∙ s)) (cases_lt j i)))

  pub whole : (BadLength (length bs) → ⊥) → length (records bs) ≤ i → Whole f bs b
  whole long l = record {
    long = long;
    sound = λ j m. h.sound j (omega arith);
    is = h.lists ∙ ap f.lists (take_all i (records bs) l);
  }

some_records : (bs : List ℕ) → (BadLength (length bs) → ⊥) → 0 < length (records bs)
some_records bs long =
    let not_none : length bs ≡ 0 → ⊥ = λ e. long (inl e) in
    let fours : length bs % 4 ≡ 0 = ⊎_elim (λ e. e) (λ ne. absurd (long (inr (inl ne)))) (cases_eq (length bs % 4) 0) in
    subst (λ n. 0 < n) (sym (length_records bs)) (omega arith)

-- what was read is lawful, where what is sound is
pub whole_lawful : (f : FormRules) → ((rs : List FormRecord) → 0 < length rs → Sound (fault_of f) rs → Lawful (task_of (f.lists rs))) → (bs : List ℕ) (b : Lists) → Whole f bs b → Lawful (task_of b)
whole_lawful f h bs b w = subst (λ (c : Lists). Lawful (task_of c)) (sym w.is) (h (records bs) (some_records bs w.long) w.sound)
