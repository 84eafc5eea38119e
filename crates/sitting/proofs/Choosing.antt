-- From a command and its numbers to the request, and back.
use Rattle.std.proofs.Common.{◌≡◌, ℕ, cond, eqb, List, [], ◌∷◌, get_or, Some, None, Option, sym, refl, ap, ◌∙◌, subst}
use Rattle.std.specs.Option.{option_map}
use Rattle.task.specs.Facts.{Exactly}
use Rattle.task.proofs.Options.{no_some}
use Rattle.task.proofs.Lookups.{exactly_none, exactly_some}
use Rattle.rules.specs.declared.calls.Call.TheVariants as call
use Rattle.sitting.specs.declared.requests.Command.{Command}
use Rattle.sitting.specs.declared.requests.Command.TheVariants.{Propose, Order, Begin, Step, Report, Tally, Held}
use Rattle.sitting.specs.declared.requests.Request.{Request}
use Rattle.sitting.specs.declared.requests.Request.TheVariants as request
use Rattle.sitting.specs.Lines.{Blanks, First, Numbers, Words}
use Rattle.sitting.specs.Requests.{Means, command, numbers, word_of}
use Rattle.sitting.proofs.Splitting.{not_blanks, same_rest, same_word}

-- the command by the first letter of its word
named : ℕ → Command
named c =
    cond (eqb c 112) Propose (cond (eqb c 111) Order (cond (eqb c 98) Begin (cond (eqb c 115) Step (cond (eqb c 114) Report (cond (eqb c 116) Tally Held)))))

named_is : (x : Command) → named (get_or (word_of x) 0 0) ≡ x
unfolding named
named_is Propose = refl
named_is Order = refl
named_is Begin = refl
named_is Step = refl
named_is Report = refl
named_is Tally = refl
named_is Held = refl

-- no two commands have one word
pub one_word : (x y : Command) → word_of x ≡ word_of y → x ≡ y
one_word x y e = sym (named_is x) ∙ ap (λ w. named (get_or w 0 0)) e ∙ named_is y

pub is_command : (w : List ℕ) (x : Command) → w ≡ word_of x → Exactly (λ y. w ≡ word_of y) (Some x)
is_command w x e = exactly_some (λ y z p q. one_word y z (sym p ∙ q)) x e

-- the request of a command with its numbers
abbrev pub rebuilt : Command → List ℕ → Request
rebuilt Propose ns = request.Call (call.Propose (get_or ns 0 0))
rebuilt Order ns = request.Call (call.Order (get_or ns 0 0) (get_or ns 1 0) (get_or ns 2 0))
rebuilt Begin ns = request.Call call.Begin
rebuilt Step ns = request.Call (call.Step (get_or ns 0 0))
rebuilt Report ns = request.Call call.Report
rebuilt Tally ns = request.Tally
rebuilt Held ns = request.Held

rebuilt_is : (q : Request) → rebuilt (command q) (numbers q) ≡ q
rebuilt_is (request.Call (call.Propose f)) = refl
rebuilt_is (request.Call (call.Order k e l)) = refl
rebuilt_is (request.Call call.Begin) = refl
rebuilt_is (request.Call (call.Step a)) = refl
rebuilt_is (request.Call call.Report) = refl
rebuilt_is request.Tally = refl
rebuilt_is request.Held = refl

pub request_of_lem : (q : Request) (c : Command) → command q ≡ c → q ≡ rebuilt c (numbers q)
request_of_lem q c e = sym (rebuilt_is q) ∙ ap (λ x. rebuilt x (numbers q)) e

-- an answer for one thing carried over to another
module _ {A : Type 0} {B : Type 0} {Q : A → Type 0} {P : B → Type 0} (make : A → B) where
  pub carried : ((x : A) → Q x → P (make x)) → ((y : B) → P y → (x : A) × Q x × (y ≡ make x)) → (o : Option A) → Exactly Q o → Exactly P (option_map make o)
  carried to from None e = exactly_none (λ y p. let (x, q, is) = from y p in no_some x (e.found x q))
  carried to from (Some x) e = record {
    right = λ y h. let same : make x ≡ y = cc in subst P same (to x (e.right x refl));
    found = λ y p. let (z, q, is) = from y p in let h : Some x ≡ Some z = e.found z q in let same : x ≡ z = cc in ap {B = Option B} Some (ap make same ∙ sym is);
  }

pub exactly_same : {A : Type 0} {Q P : A → Type 0} → ((x : A) → Q x → P x) → ((x : A) → P x → Q x) → (o : Option A) → Exactly Q o → Exactly P o
exactly_same to from o e = record { right = λ x h. to x (e.right x h); found = λ x p. e.found x (from x p) }

-- the request of a command and the numbers after it
abbrev pub Asks : Command → List ℕ → Request → Type 0
Asks c rest q = (command q ≡ c) × Numbers rest (numbers q)

pub asks_at : {rest : List ℕ} {x c : Command} {o : Option Request} → x ≡ c → Exactly (Asks c rest) o → Exactly (Asks x rest) o
asks_at {rest} {o = o} e = subst (λ y. Exactly (Asks y rest) o) (sym e)

pub asks_one : (c : Command) (make : ℕ → Request) (rest : List ℕ) → ((n : ℕ) → command (make n) ≡ c) → ((n : ℕ) → numbers (make n) ≡ n ∷ [])
    → ((ns : List ℕ) → rebuilt c ns ≡ make (get_or ns 0 0)) → (o : Option ℕ) → Exactly (λ n. Numbers rest (n ∷ [])) o → Exactly (Asks c rest) (option_map make o)
asks_one c make rest named' has is o e =
    carried {Q = λ n. Numbers rest (n ∷ [])} {P = Asks c rest} make
    (λ n h. (named' n, subst (Numbers rest) (sym (has n)) h))
    (λ q p.
    let same : q ≡ make (get_or (numbers q) 0 0) = request_of_lem q c p.0 ∙ is (numbers q) in
    (get_or (numbers q) 0 0, subst (Numbers rest) (ap numbers same ∙ has (get_or (numbers q) 0 0)) p.1, same))
    o e

abbrev pub order : ℕ × ℕ × ℕ → Request
order x = request.Call (call.Order x.0 x.1 x.2)

pub asks_three : (rest : List ℕ) (o : Option (ℕ × ℕ × ℕ)) → Exactly (λ x. Numbers rest (x.0 ∷ x.1 ∷ x.2 ∷ [])) o → Exactly (Asks Order rest) (option_map order o)
asks_three rest o e =
    carried {Q = λ x. Numbers rest (x.0 ∷ x.1 ∷ x.2 ∷ [])} {P = Asks Order rest} order
    (λ x h. (refl, h))
    (λ q p.
    let same : q ≡ order (get_or (numbers q) 0 0, get_or (numbers q) 1 0, get_or (numbers q) 2 0) = request_of_lem q Order p.0 in
    ((get_or (numbers q) 0 0, get_or (numbers q) 1 0, get_or (numbers q) 2 0), subst (Numbers rest) (ap numbers same) p.1, same))
    o e

pub asks_none : (c : Command) (q : Request) (rest : List ℕ) → command q ≡ c → numbers q ≡ [] → ((ns : List ℕ) → rebuilt c ns ≡ q)
    → (o : Option Request) → Exactly (λ x. (x ≡ q) × Numbers rest []) o → Exactly (Asks c rest) o
asks_none c q rest named' has is =
    exactly_same
    (λ x h. (ap command h.0 ∙ named', subst (Numbers rest) (sym (ap numbers h.0 ∙ has)) h.1))
    (λ x h.
    let same : x ≡ q = request_of_lem x c h.0 ∙ is (numbers x) in
    (same, subst (Numbers rest) (ap numbers same ∙ has) h.1))

-- a line with a first word means what the command of that word and the numbers after it ask for
pub means_none : {line w rest : List ℕ} → First line w rest → ((x : Command) → w ≡ word_of x → ⊥) → (q : Request) → Means line q → ⊥
means_none f other q (ws, (tail, g, words), written) = other (command q) (same_word f g)

pub means_asks : {line w rest : List ℕ} → First line w rest → (c : Command) → w ≡ word_of c → (o : Option Request) → Exactly (Asks c rest) o → Exactly (Means line) o
means_asks {line} {w} {rest} f c is =
    exactly_same
    (λ q (e, (ws, words, written)). (ws, (rest, subst (λ v. First line v rest) (is ∙ ap word_of (sym e)) f, words), written))
    (λ q (ws, (tail, g, words), written).
    (one_word (command q) c (sym (same_word f g) ∙ is), (ws, subst (λ r. Words r ws) (sym (same_rest f g)) words, written)))

-- the same of a line whose bytes were read
pub request_none : {line bytes : List ℕ} → bytes ≡ line → Blanks bytes → Exactly (Means line) None
request_none e all = subst (λ l. Exactly (Means l) None) e (exactly_none (λ q (ws, (rest, f, words), written). not_blanks f all))

pub command_none : {line bytes w rest : List ℕ} → bytes ≡ line → First bytes w rest → Exactly (λ x. w ≡ word_of x) None → Exactly (Means line) None
command_none e f other = subst (λ l. Exactly (Means l) None) e (exactly_none (means_none f (λ x h. no_some x (other.found x h))))

pub request_found : {line bytes w rest : List ℕ} (c : Command) (o : Option Request) → bytes ≡ line → First bytes w rest → Exactly (λ x. w ≡ word_of x) (Some c)
    → Exactly (Asks c rest) o → Exactly (Means line) o
request_found c o e f is h = subst (λ l. Exactly (Means l) o) e (means_asks f c (is.right c refl) o h)
