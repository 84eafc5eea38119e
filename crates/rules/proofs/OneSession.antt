-- A list of calls has one list of answers, and leaves one machine.
use Rattle.std.proofs.Common.{◌≡◌, List, [], ◌∷◌, ◌++◌, length, sym, refl, ap, ◌∙◌, subst, append_assoc, append-nil, arith, length-append}
use Rattle.task.specs.Task.{Task, Lawful}
use Rattle.rules.specs.declared.calls.Call.{Call}
use Rattle.rules.specs.declared.calls.Answer.{Answer}
use Rattle.rules.specs.Machine.{Machine, Turn, Session}
use Rattle.rules.specs.Machine.Session.{open_empty, and_then}
use Rattle.rules.specs.Answered.{CallsAnswered, SessionsAnswered}
use Rattle.rules.proofs.Answered.{turning}
use Rattle.rules.proofs.OneAnswer.{one_answer}

pub calls_answered_lem : CallsAnswered
calls_answered_lem t law m c =
    let (r, m', turn) = turning law m c in
    record { first = r; second = m'; holds = turn; only = λ s n other. one_answer t m c s r n m' other turn }

-- a list with an element at its end is not empty
no_end : {A : Type 0} (xs : List A) (x : A) → ◌≡◌ {A = List A} [] (xs ++ x ∷ []) → ⊥
no_end xs x e = let z = ap length e in omega (arith, length-append xs (x ∷ []))

-- two lists with an element at their ends that are equal
same_ends : {A : Type 0} (xs ys : List A) (x y : A) → xs ++ x ∷ [] ≡ ys ++ y ∷ [] → (xs ≡ ys) × (x ≡ y)
same_ends [] [] x y e = (refl, cc)
same_ends {A} [] (z ∷ ys) x y e = let rest : ◌≡◌ {A = List A} [] (ys ++ y ∷ []) = cc in absurd (no_end ys y rest)
same_ends {A} (z ∷ xs) [] x y e = let rest : ◌≡◌ {A = List A} [] (xs ++ x ∷ []) = cc in absurd (no_end xs x rest)
same_ends (z ∷ xs) (w ∷ ys) x y e =
    let rest : xs ++ x ∷ [] ≡ ys ++ y ∷ [] = cc in
    let head : z ≡ w = cc in
    let (p, q) = same_ends xs ys x y rest in
    (cc, q)

-- equal calls get equal answers
session_unique : (t : Task) {cs ds : List Call} {rs ss : List Answer} {m n : Machine} → Session t cs rs m → Session t ds ss n → cs ≡ ds → (rs ≡ ss) × (m ≡ n)
session_unique t open_empty open_empty e = (refl, refl)
session_unique t open_empty (and_then {cs = ds} {c = d} s turn) e = absurd (no_end ds d e)
session_unique t (and_then {cs} {c} s turn) open_empty e = absurd (no_end cs c (sym e))
session_unique t (and_then {cs} {rs} {m} {m'} {c} {r} s turn) (and_then {cs = ds} {rs = ss} {m = n} {m' = n'} {c = d} {r = q} z other) e =
    let (before, last) = same_ends cs ds c d e in
    let (answers, machine) = session_unique t s z before in
    let same : Turn t m c q n' = subst (λ k. Turn t k c q n') (sym machine) (subst (λ k. Turn t n k q n') (sym last) other) in
    let (answer, end) = one_answer t m c r q m' n' turn same in
    (ap (λ xs. xs ++ r ∷ []) answers ∙ ap (λ x. ss ++ x ∷ []) answer, end)

-- a session goes on with any calls
session_on : (t : Task) → Lawful t → (more : List Call) {cs : List Call} {rs : List Answer} {m : Machine} → Session t cs rs m → (ss : List Answer) × (n : Machine) × Session t (cs ++ more) ss n
session_on t law [] {cs} {rs} {m} s = (rs, m, subst (λ xs. Session t xs rs m) (sym (append-nil cs)) s)
session_on t law (c ∷ more) {cs} {rs} {m} s =
    let (r, m', turn) = turning law m c in
    let (ss, n, whole) = session_on t law more (and_then s turn) in
    (ss, n, subst (λ xs. Session t xs ss n) (append_assoc cs (c ∷ []) more) whole)

pub sessions_answered_lem : SessionsAnswered
sessions_answered_lem t law cs =
    let (rs, m, session) = session_on t law cs open_empty in
    record { first = rs; second = m; holds = session; only = λ ss n other. session_unique t other session refl }
