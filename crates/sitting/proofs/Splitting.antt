-- The first word of a line, and the numbers of its words.
use Rattle.std.proofs.Common.{◌≡◌, ℕ, ◌-◌, ◌^◌, ◌<◌, min, Bool, true, false, not, eqb, List, [], ◌∷◌, ◌++◌, length, take, drop, Some, None, Option, Decides, sym, refl, ap, ◌∙◌, subst, inl, inr, append-nil, arith, length-append, length-drop, take-append-drop, length-take}
use lib.Seq.{take-append_seam, drop-append_seam, take-length}
use Rattle.std.specs.List.{prefix_len}
use Rattle.std.specs.Bool.{then_some}
use Rattle.std.specs.Option.{MatchOption, is_some}
use Rattle.std.proofs.lemmas.List.Sums.{prefix_len-le-length}
use Rattle.std.proofs.lemmas.Bool.{cases_lt, eqb-false, false≢true, not_from_false, not-true, true≢false}
use Rattle.task.specs.Facts.{Exactly}
use Rattle.task.proofs.Options.{no_some}
use Rattle.task.proofs.Lookups.{exactly_none, exactly_some}
use Rattle.sitting.specs.Lines.{Apart, Blanks, First, Numbers, Word, Words, Writes, Written, blank?, digits_value, of_kind}
use Rattle.sitting.proofs.Fronts.{Stops, all_leading, stops_leading, leading_front, leading_yes}

-- what follows the blanks at the front
abbrev pub text : List ℕ → List ℕ
text bytes = drop (prefix_len (of_kind true) bytes) bytes

-- the length of the word at the front
abbrev pub size : List ℕ → ℕ
size bytes = prefix_len (of_kind false) bytes

apart_stops : (rest : List ℕ) → Apart rest → Stops (of_kind false) rest
apart_stops [] h = tt
apart_stops (c ∷ rest) h = h

stops_apart : (rest : List ℕ) → Stops (of_kind false) rest → Apart rest
stops_apart [] h = tt
stops_apart (c ∷ rest) h = h

-- blanks end where a word begins
word_stops : (w rest : List ℕ) → Word w → Stops (of_kind true) (w ++ rest)
word_stops [] rest h = absurd (omega (arith, h.0))
word_stops (c ∷ w) rest h = not-true (blank? c) h.1.0

-- and a word begins where they end
word_begins : (bytes : List ℕ) → 0 < length bytes → Stops (of_kind true) bytes → 0 < size bytes
word_begins [] h s = absurd (omega arith)
word_begins (c ∷ bytes) h s = omega (arith, leading_yes (of_kind false) c bytes (not_from_false (blank? c) s))

-- the first word
pub first_word : (bytes : List ℕ) → 0 < length (text bytes) → First bytes (take (size (text bytes)) (text bytes)) (drop (size (text bytes)) (text bytes))
first_word bytes some = record {
  front = take (prefix_len (of_kind true) bytes) bytes;
  is = sym (ap (λ r. take (prefix_len (of_kind true) bytes) bytes ++ r) (take-append-drop (size (text bytes)) (text bytes)) ∙ take-append-drop (prefix_len (of_kind true) bytes) bytes);
  blanks = all_leading (of_kind true) bytes;
  word = (
    omega (
      arith,
      length-take (size (text bytes)) (text bytes),
      prefix_len-le-length (of_kind false) (text bytes),
      word_begins (text bytes) some (stops_leading (of_kind true) bytes),
    ),
    all_leading (of_kind false) (text bytes),
  );
  apart = stops_apart _ (stops_leading (of_kind false) (text bytes));
}

-- there is one first word at most
module _ {bytes w rest : List ℕ} (f : First bytes w rest) where
  front_size : prefix_len (of_kind true) bytes ≡ length f.front
  front_size = ap (prefix_len (of_kind true)) f.is ∙ leading_front (of_kind true) f.front (w ++ rest) f.blanks (word_stops w rest f.word)

  text_is : text bytes ≡ w ++ rest
  text_is = ap (λ n. drop n bytes) front_size ∙ ap (drop (length f.front)) f.is ∙ drop-append_seam f.front (w ++ rest)

  word_size : size (text bytes) ≡ length w
  word_size = ap size text_is ∙ leading_front (of_kind false) w rest f.word.1 (apart_stops rest f.apart)

  word_is : take (size (text bytes)) (text bytes) ≡ w
  word_is = ap (λ n. take n (text bytes)) word_size ∙ ap (take (length w)) text_is ∙ take-append_seam w rest

  rest_is : drop (size (text bytes)) (text bytes) ≡ rest
  rest_is = ap (λ n. drop n (text bytes)) word_size ∙ ap (drop (length w)) text_is ∙ drop-append_seam w rest

  pub not_blanks : Blanks bytes → ⊥
  not_blanks all =
      let whole : prefix_len (of_kind true) bytes ≡ length bytes = ap (prefix_len (of_kind true)) (sym (append-nil bytes)) ∙ leading_front (of_kind true) bytes [] all tt in
      omega (arith, whole, front_size, ap length f.is, length-append f.front (w ++ rest), length-append w rest, f.word.0)

pub same_word : {bytes w rest v tail : List ℕ} → First bytes w rest → First bytes v tail → w ≡ v
same_word f g = sym (word_is f) ∙ word_is g

pub same_rest : {bytes w rest v tail : List ℕ} → First bytes w rest → First bytes v tail → rest ≡ tail
same_rest f g = sym (rest_is f) ∙ rest_is g

-- no word is left where nothing follows the blanks
pub only_blanks : (bytes : List ℕ) → length (text bytes) ≡ 0 → Blanks bytes
only_blanks bytes h =
    let whole : prefix_len (of_kind true) bytes ≡ length bytes = omega (arith, h, length-drop (prefix_len (of_kind true) bytes) bytes, prefix_len-le-length (of_kind true) bytes) in
    subst Blanks (ap (λ n. take n bytes) whole ∙ take-length bytes) (all_leading (of_kind true) bytes)

pub some_left : (n : ℕ) → eqb n 0 ≡ false → 0 < n
some_left n e = elim (cases_lt 0 n) [ inl h ↦ h | inr h ↦ absurd (eqb-false n 0 e (omega arith)) ]

-- the same of parts that were cut
pub blanks_cut : (bytes t : List ℕ) (n : ℕ) → n ≡ prefix_len (of_kind true) bytes → t ≡ drop n bytes → length t ≡ 0 → Blanks bytes
blanks_cut bytes t n e is h = only_blanks bytes (ap length (ap (λ k. drop k bytes) (sym e) ∙ sym is) ∙ h)

pub first_cut : (bytes t w rest : List ℕ) (n m : ℕ) → n ≡ prefix_len (of_kind true) bytes → t ≡ drop n bytes → 0 < length t
    → m ≡ prefix_len (of_kind false) t → w ≡ take m t → rest ≡ drop m t → First bytes w rest
first_cut bytes t w rest n m e is some k front back =
    let same : text bytes ≡ t = ap (λ j. drop j bytes) (sym e) ∙ sym is in
    let whole : First bytes (take (size t) t) (drop (size t) t) =
    subst (λ x. First bytes (take (size x) x) (drop (size x) x)) same (first_word bytes (subst (λ x. 0 < length x) (sym same) some)) in
    let left : take (size t) t ≡ w = ap (λ j. take j t) (sym k) ∙ sym front in
    let right : drop (size t) t ≡ rest = ap (λ j. drop j t) (sym k) ∙ sym back in
    subst (First bytes w) right (subst (λ x. First bytes x (drop (size t) t)) left whole)

-- the numbers of the words
pub no_numbers : {bytes : List ℕ} → Blanks bytes → Numbers bytes []
no_numbers all = ([], all, tt)

none_of : (bytes : List ℕ) (ws : List (List ℕ)) → Words bytes ws → Written ws [] → Blanks bytes
none_of bytes [] words written = words
none_of bytes (w ∷ ws) words written = absurd written

pub numbers_none : (bytes : List ℕ) → Numbers bytes [] → Blanks bytes
numbers_none bytes (ws, words, written) = none_of bytes ws words written

pub numbers_more : {bytes w rest : List ℕ} {n : ℕ} {ns : List ℕ} → First bytes w rest → Writes w n → Numbers rest ns → Numbers bytes (n ∷ ns)
numbers_more {w = w} {rest = rest} f h (ws, words, written) = (w ∷ ws, (rest, f, words), (h, written))

first_of : (bytes : List ℕ) (n : ℕ) (ns : List ℕ) (ws : List (List ℕ)) → Words bytes ws → Written ws (n ∷ ns)
    → (w : List ℕ) × (rest : List ℕ) × First bytes w rest × Writes w n × Numbers rest ns
first_of bytes n ns [] words written = absurd written
first_of bytes n ns (w ∷ ws) (rest, f, words) (h, written) = (w, rest, f, h, (ws, words, written))

pub first_number : (bytes : List ℕ) (n : ℕ) (ns : List ℕ) → Numbers bytes (n ∷ ns) → (w : List ℕ) × (rest : List ℕ) × First bytes w rest × Writes w n × Numbers rest ns
first_number bytes n ns (ws, words, written) = first_of bytes n ns ws words written

-- the rest of the numbers
pub rest_numbers : {bytes w rest : List ℕ} → First bytes w rest → (n : ℕ) (ns : List ℕ) → Numbers bytes (n ∷ ns) → Numbers rest ns
rest_numbers {bytes} f n ns h = let (v, tail, g, k, more) = first_number bytes n ns h in subst (λ r. Numbers r ns) (same_rest g f) more

writes_alone : {w v : List ℕ} {x y : ℕ} → w ≡ v → Writes w x → Writes v y → x ≡ y
writes_alone e h k = h.1 ∙ ap (λ u. min (digits_value u) (2 ^ 64 - 1)) e ∙ sym k.1

-- no bytes are words that write other numbers
pub numbers_alone : (bytes ns ms : List ℕ) → Numbers bytes ns → Numbers bytes ms → ns ≡ ms
numbers_alone bytes [] [] h k = refl
numbers_alone bytes [] (m ∷ ms) h k = let (w, rest, f, _, _) = first_number bytes m ms k in absurd (not_blanks f (numbers_none bytes h))
numbers_alone bytes (n ∷ ns) [] h k = let (w, rest, f, _, _) = first_number bytes n ns h in absurd (not_blanks f (numbers_none bytes k))
numbers_alone bytes (n ∷ ns) (m ∷ ms) h k =
    let (w, rest, f, p, more) = first_number bytes n ns h in
    let (v, tail, g, q, others) = first_number bytes m ms k in
    let same : n ≡ m = writes_alone (same_word f g) p q in
    let after : ns ≡ ms = numbers_alone rest ns ms more (subst (λ r. Numbers r ms) (same_rest g f) others) in
    λ i. same i ∷ after i

-- what the functions that read numbers owe
pub not_done : {bytes w rest : List ℕ} → First bytes w rest → Decides false (Numbers bytes [])
not_done {bytes} f = (λ e. absurd (false≢true e), λ h. absurd (not_blanks f (numbers_none bytes h)))

pub no_number : {bytes v tail : List ℕ} → First bytes v tail → Exactly (Writes v) None → (w rest : List ℕ) (n : ℕ) → First bytes w rest → Writes w n → ⊥
no_number g none w rest n f h = no_some n (none.found n (subst (λ x. Writes x n) (same_word f g) h))

pub none_first : {bytes : List ℕ} → ((w rest : List ℕ) (n : ℕ) → First bytes w rest → Writes w n → ⊥) → (n : ℕ) (ns : List ℕ) → Numbers bytes (n ∷ ns) → ⊥
none_first {bytes} none n ns h = let (w, rest, f, k, more) = first_number bytes n ns h in none w rest n f k

-- where no word is left there is no number, and where one is there is
pub done_decides : {bytes : List ℕ} {A : Type 0} (o : Option A) (front rest : A → List ℕ) (b : Bool) → MatchOption o (Blanks bytes) (λ x. First bytes (front x) (rest x))
    → is_some o ≡ not b → Decides b (Numbers bytes [])
done_decides None front rest true all e = (λ _. no_numbers all, λ _. refl)
done_decides None front rest false all e = absurd (false≢true e)
done_decides (Some x) front rest true f e = absurd (true≢false e)
done_decides (Some x) front rest false f e = not_done f

-- the only number, where nothing follows it
pub one_decided : {bytes w rest : List ℕ} {n : ℕ} (b : Bool) → First bytes w rest → Writes w n → Decides b (Numbers rest []) → Exactly (λ x. Numbers bytes (x ∷ [])) (then_some b n)
one_decided {bytes} {n = n} true f h done =
    exactly_some (λ x y p q. let e = numbers_alone bytes (x ∷ []) (y ∷ []) p q in cc) n (numbers_more f h (done.0 refl))
one_decided false f h done = exactly_none (λ x h. false≢true (done.1 (rest_numbers f x [] h)))

-- the bytes are words that write three numbers
abbrev pub Three : List ℕ → ℕ × ℕ × ℕ → Type 0
Three bytes x = Numbers bytes (x.0 ∷ x.1 ∷ x.2 ∷ [])

pub three_found : {bytes w r v s : List ℕ} {a b c : ℕ} → First bytes w r → Writes w a → First r v s → Writes v b → Exactly (λ x. Numbers s (x ∷ [])) (Some c)
    → Exactly (Three bytes) (Some (a, b, c))
three_found {bytes} {a = a} {b = b} {c = c} f h g k last =
    exactly_some {P = Three bytes}
    (λ x y p q. let e = numbers_alone bytes (x.0 ∷ x.1 ∷ x.2 ∷ []) (y.0 ∷ y.1 ∷ y.2 ∷ []) p q in
    let i : x.0 ≡ y.0 = cc in let j : x.1 ≡ y.1 = cc in let l : x.2 ≡ y.2 = cc in λ t. (i t, j t, l t))
    (a, b, c) (numbers_more f h (numbers_more g k (last.right c refl)))
