-- The opening of a book whose entries fit: it is legal, and it is the Boot with the aborts, and then the ends of jobs.
use Rattle.std.proofs.Common.{refl, ◌≡◌, ℕ, suc, ◌+◌, ◌≤◌, Bool, true, false, Option, Some, None, List, [], ◌∷◌, ◌++◌, length, map, fold, sym, ap, ◌∙◌, subst, arith, append_assoc, length-append}
use Rattle.std.specs.Prelude.{if◌then◌else◌, IsTrue, IsSomeAnd, is_none}
use Rattle.std.specs.List.{slice_get}
use Rattle.std.proofs.lemmas.List.Sums.{fold-append}
use Rattle.hv_base.specs.declared.ids.Limits.{Limits}
use Rattle.hv_history.specs.declared.entry.Entry.{Entry}
use Rattle.hv_history.specs.declared.entry.Entry.TheVariants.{Boot}
use Rattle.hv_history.specs.declared.entry.Cause.TheVariants.{Lost}
use Rattle.hv_history.specs.declared.state.Ending.{Ending}
use Rattle.hv_history.specs.declared.state.Ending.TheVariants.{Aborted}
use Rattle.hv_history.specs.declared.state.Transaction.{Transaction}
use Rattle.hv_history.specs.State.{State, Job, nothing_yet, numbered, changed, changed_at, unless_ended, while_open, ended, acted, after, state_of}
use Rattle.hv_history.specs.Legal.{is_open, is_working, load, Fits, IsTruthful, AllFit, AllTruthful, IsLegalFrom, IsLegal, LostFits}
use Rattle.hv_history.specs.JobsFit.{is_live_job}
use Rattle.hv_finals.specs.hv_law_made.specs.Entries.{publishing}
use Rattle.hv_finals.specs.hv_law_made.specs.Opening.{is_to_publish, fails_as_lost, fails_as_gone, job_end, job_ends}
use Rattle.hv_house.specs.Booting.{number_next, marked_from, open_numbers, lost_entry, lost_entries, lost_book, opening_entries, opening_with}
use Rattle.hv_house.specs.Ending.{ends_of}
use Rattle.hv_house.proofs.Faithful.{truthful-from}
use Rattle.hv_house.proofs.JobEnds.{end-jobs, end-fits}

-- ---- the one at a place

place-at : (pre rest : List Transaction) (x : Transaction) → slice_get (pre ++ x ∷ rest) (length pre) ≡ Some x
place-at [] rest x = refl
place-at (y ∷ pre) rest x = place-at pre rest x

numbered-at : (pre rest : List Transaction) (x : Transaction) → numbered (pre ++ x ∷ rest) (length pre + 1) ≡ Some x
numbered-at pre rest x =
    let next : length pre + 1 ≡ suc (length pre) = omega arith in
    ap (numbered (pre ++ x ∷ rest)) next ∙ place-at pre rest x

change-at : (f : Transaction → Transaction) (pre rest : List Transaction) (x : Transaction) → changed_at f (pre ++ x ∷ rest) (length pre) ≡ pre ++ f x ∷ rest
change-at f [] rest x = refl
change-at f (y ∷ pre) rest x = ap (λ ys. y ∷ ys) (change-at f pre rest x)

changed-there : (f : Transaction → Transaction) (pre rest : List Transaction) (x : Transaction) → changed f (pre ++ x ∷ rest) (length pre + 1) ≡ pre ++ f x ∷ rest
changed-there f pre rest x =
    let next : length pre + 1 ≡ suc (length pre) = omega arith in
    ap (changed f (pre ++ x ∷ rest)) next ∙ change-at f pre rest x

-- ---- each that is open is aborted as lost

abbrev lost-numbers : ℕ → List Transaction → List Entry
lost-numbers number rest = map lost_entry (marked_from number (map is_open rest))

pub none-of : (o : Option Ending) → is_none o ≡ true → o ≡ None
none-of None h = refl
none-of (Some x) h = cc

-- the state behind an abort
aborted-there : (pre rest : List Transaction) (x : Transaction) (s : State) → s.transactions ≡ pre ++ x ∷ rest → is_open x ≡ true
    → (after s (lost_entry (length pre + 1))).transactions ≡ pre ++ ended (Aborted s.entries Lost) x ∷ rest
unfolding acted
aborted-there pre rest x s are unended =
    ap (λ ts. changed (while_open (ended (Aborted s.entries Lost))) ts (length pre + 1)) are
    ∙ changed-there (while_open (ended (Aborted s.entries Lost))) pre rest x
    ∙ ap (λ o. pre ++ unless_ended o x (ended (Aborted s.entries Lost) x) ∷ rest) (none-of x.ending unended)

aborted-openings : (s : State) (number : ℕ) → IsTrue s.openings.only_lost → IsTrue (after s (lost_entry number)).openings.only_lost
aborted-openings s number only = only

abort-fits : (limits : Limits) (pre rest : List Transaction) (x : Transaction) (s : State) → s.transactions ≡ pre ++ x ∷ rest → is_open x ≡ true → IsTrue s.openings.only_lost
    → Fits limits s (lost_entry (length pre + 1)) × IsTruthful s (lost_entry (length pre + 1))
abort-fits limits pre rest x s are unended only =
    let at : numbered s.transactions (length pre + 1) ≡ Some x = ap (λ ts. numbered ts (length pre + 1)) are ∙ numbered-at pre rest x in (
      subst (λ o. IsSomeAnd o (LostFits s)) (sym at) (record { unended = unended; behind = only }),
      subst (λ o. IsSomeAnd o (λ (t : Transaction). Unit {0})) (sym at) tt,
    )

lost-by : (limits : Limits) (pre rest : List Transaction) (x : Transaction) (s : State) → s.transactions ≡ pre ++ x ∷ rest → IsTrue s.openings.only_lost → (b : Bool) → is_open x ≡ b
    → (is_open x ≡ false → IsLegalFrom limits s (lost-numbers (length (pre ++ x ∷ []) + 1) rest))
    → (is_open x ≡ true → IsLegalFrom limits (after s (lost_entry (length pre + 1))) (lost-numbers (length (pre ++ ended (Aborted s.entries Lost) x ∷ []) + 1) rest))
    → IsLegalFrom limits s (map lost_entry (number_next b (length pre + 1) (marked_from (length pre + 1 + 1) (map is_open rest))))
lost-by limits pre rest x s are only false is skip lose =
    let next : length (pre ++ x ∷ []) + 1 ≡ length pre + 1 + 1 = omega (arith, length-append pre (x ∷ [])) in
    subst (λ n. IsLegalFrom limits s (lost-numbers n rest)) next (skip is)
lost-by limits pre rest x s are only true is skip lose =
    let next : length (pre ++ ended (Aborted s.entries Lost) x ∷ []) + 1 ≡ length pre + 1 + 1 = omega (arith, length-append pre (ended (Aborted s.entries Lost) x ∷ [])) in
    let behind : IsLegalFrom limits (after s (lost_entry (length pre + 1))) (lost-numbers (length pre + 1 + 1) rest) =
    subst (λ n. IsLegalFrom limits (after s (lost_entry (length pre + 1))) (lost-numbers n rest)) next (lose is) in
    let here = abort-fits limits pre rest x s are is only in
    record {
      fit = (here.0, behind.fit);
      truthful = (here.1, behind.truthful);
    }

lost-all : (limits : Limits) (pre rest : List Transaction) (s : State) → s.transactions ≡ pre ++ rest → IsTrue s.openings.only_lost
    → IsLegalFrom limits s (lost-numbers (length pre + 1) rest)
lost-all limits pre [] s are only = record { fit = tt; truthful = tt }
lost-all limits pre (x ∷ rest) s are only =
    lost-by limits pre rest x s are only (is_open x) refl
    (λ closed. lost-all limits (pre ++ x ∷ []) rest s (are ∙ sym (append_assoc pre (x ∷ []) rest)) only)
    (λ unended. lost-all limits (pre ++ ended (Aborted s.entries Lost) x ∷ []) rest (after s (lost_entry (length pre + 1)))
    (aborted-there pre rest x s are unended ∙ sym (append_assoc pre (ended (Aborted s.entries Lost) x ∷ []) rest))
    (aborted-openings s (length pre + 1) only))

-- ---- the Boot and the aborts

pub booted : (s : State) (run : ℕ) → (after s (Boot run)).transactions ≡ s.transactions
unfolding acted
booted s run = refl

-- they are legal
pub lost-legal : (limits : Limits) (book : List Entry) → load (state_of book) + 1 ≤ limits.entries → IsLegalFrom limits (state_of book) (lost_entries (state_of book))
lost-legal limits book room =
    let s : State = state_of book in
    let one : State = after s (Boot s.openings.count) in
    let lost : IsLegalFrom limits one (map lost_entry (open_numbers s)) =
    subst (λ ts. IsLegalFrom limits one (map lost_entry (marked_from 1 (map is_open ts)))) (booted s s.openings.count) (lost-all limits [] one.transactions one refl refl) in
    record {
      fit = (record { next = refl; room = room }, lost.fit);
      truthful = (tt, lost.truthful);
    }

-- they change no job
booted-jobs : (s : State) (run : ℕ) → (after s (Boot run)).jobs ≡ s.jobs
unfolding acted
booted-jobs s run = refl

aborted-jobs : (s : State) (n : ℕ) → (after s (lost_entry n)).jobs ≡ s.jobs
unfolding acted
aborted-jobs s n = refl

lost-jobs_at : (numbers : List ℕ) (s : State) → (fold after s (map lost_entry numbers)).jobs ≡ s.jobs
lost-jobs_at [] s = refl
lost-jobs_at (n ∷ numbers) s = lost-jobs_at numbers (after s (lost_entry n)) ∙ aborted-jobs s n

pub lost-jobs : (s : State) → (fold after s (lost_entries s)).jobs ≡ s.jobs
lost-jobs s = lost-jobs_at (open_numbers s) (after s (Boot s.openings.count)) ∙ booted-jobs s s.openings.count

-- ---- the ends of jobs

end-true : (whole : List ℕ) (s : State) (n : ℕ) (j : Job) → IsTruthful s (job_end whole s n j)
end-true whole s n j = by (is_live_job s j) (is_to_publish whole s n j)
  where
    by : (c d : Bool) → IsTruthful s (if c then (if d then publishing s n j else fails_as_lost n) else fails_as_gone n)
    by true true = tt
    by true false = tt
    by false d = tt

-- where these are the jobs from that number on
pub ends-legal : (limits : Limits) (whole : List ℕ) (jobs : List Job) (s : State) (n : ℕ) → ((k : ℕ) → numbered s.jobs (n + k) ≡ slice_get jobs k)
    → IsLegalFrom limits s (job_ends whole s n jobs)
ends-legal limits whole [] s n are = record { fit = tt; truthful = tt }
ends-legal limits whole (j ∷ jobs) s n are =
    by (is_working j) refl (ends-legal limits whole jobs (after s (job_end whole s n j)) (n + 1) behind) (ends-legal limits whole jobs s (n + 1) others)
  where
    here : numbered s.jobs n ≡ Some j
    here =
        let same : n ≡ n + 0 = omega arith in
        ap (numbered s.jobs) same ∙ are 0

    others : (k : ℕ) → numbered s.jobs (n + 1 + k) ≡ slice_get jobs k
    others k =
        let same : n + 1 + k ≡ n + suc k = omega arith in
        ap (numbered s.jobs) same ∙ are (suc k)

    behind : (k : ℕ) → numbered (after s (job_end whole s n j)).jobs (n + 1 + k) ≡ slice_get jobs k
    behind k = end-jobs whole s n j (n + 1 + k) (λ same. omega (arith, same)) ∙ others k

    by : (b : Bool) → is_working j ≡ b
        → IsLegalFrom limits (after s (job_end whole s n j)) (job_ends whole (after s (job_end whole s n j)) (n + 1) jobs)
        → IsLegalFrom limits s (job_ends whole s (n + 1) jobs)
        → IsLegalFrom limits s
        (if b then (job_end whole s n j ∷ job_ends whole (after s (job_end whole s n j)) (n + 1) jobs) else job_ends whole s (n + 1) jobs)
    by true works rest idle =
        record {
          fit = (end-fits limits whole s n j here works, rest.fit);
          truthful = (end-true whole s n j, rest.truthful);
        }
    by false works ended idle = idle

-- ---- one behind the other

pub fit-from : (limits : Limits) (s : State) (book more : List Entry) → AllFit limits s book → AllFit limits (fold after s book) more → AllFit limits s (book ++ more)
fit-from limits s [] more fit next = next
fit-from limits s (e ∷ book) more fit next = (fit.0, fit-from limits (after s e) book more fit.1 next)

pub legal-from : (limits : Limits) (s : State) (book more : List Entry) → IsLegalFrom limits s book → IsLegalFrom limits (fold after s book) more
    → IsLegalFrom limits s (book ++ more)
legal-from limits s book more first next = record {
  fit = fit-from limits s book more first.fit next.fit;
  truthful = truthful-from s book more first.truthful next.truthful;
}

fit-front : (limits : Limits) (s : State) (book more : List Entry) → AllFit limits s (book ++ more) → AllFit limits s book
fit-front limits s [] more fit = tt
fit-front limits s (e ∷ book) more fit = (fit.0, fit-front limits (after s e) book more fit.1)

truthful-front : (s : State) (book more : List Entry) → AllTruthful s (book ++ more) → AllTruthful s book
truthful-front s [] more truthful = tt
truthful-front s (e ∷ book) more truthful = (truthful.0, truthful-front (after s e) book more truthful.1)

pub legal-front : (limits : Limits) (s : State) (book more : List Entry) → IsLegalFrom limits s (book ++ more) → IsLegalFrom limits s book
legal-front limits s book more legal = record {
  fit = fit-front limits s book more legal.fit;
  truthful = truthful-front s book more legal.truthful;
}

-- ---- the opening

-- the jobs that it ends are those of the book
jobs-are : (s : State) (k : ℕ) → numbered (fold after s (lost_entries s)).jobs (1 + k) ≡ slice_get s.jobs k
jobs-are s k =
    let next : 1 + k ≡ suc k = omega arith in
    ap (λ (js : List Job). numbered js (1 + k)) (lost-jobs s) ∙ ap (numbered s.jobs) next

-- it is legal
pub opening-legal : (limits : Limits) (whole : List ℕ) (book : List Entry) → load (state_of book) + 1 ≤ limits.entries
    → IsLegalFrom limits (state_of book) (opening_entries whole (state_of book))
opening-legal limits whole book room =
    let s : State = state_of book in
    legal-from limits s (lost_entries s) (job_ends whole (fold after s (lost_entries s)) 1 s.jobs) (lost-legal limits book room)
    (ends-legal limits whole s.jobs (fold after s (lost_entries s)) 1 (jobs-are s))

-- and all of the book with its opening fits
pub opened-fits : (limits : Limits) (whole : List ℕ) (book : List Entry) → AllFit limits nothing_yet book → load (state_of book) + 1 ≤ limits.entries
    → AllFit limits nothing_yet (opening_with whole book)
opened-fits limits whole book fit room =
    fit-from limits nothing_yet book (opening_entries whole (state_of book)) fit (opening-legal limits whole book room).fit

pub opened-legal : (limits : Limits) (whole : List ℕ) (book : List Entry) → IsLegal limits book → load (state_of book) + 1 ≤ limits.entries
    → IsLegal limits (opening_with whole book)
opened-legal limits whole book legal room =
    legal-from limits nothing_yet book (opening_entries whole (state_of book)) legal (opening-legal limits whole book room)

-- ---- the book behind the Boot and the aborts

pub lost-state : (book : List Entry) → state_of (lost_book book) ≡ fold after (state_of book) (lost_entries (state_of book))
lost-state book = fold-append after nothing_yet book (lost_entries (state_of book))

pub lost-fits : (limits : Limits) (book : List Entry) → AllFit limits nothing_yet book → load (state_of book) + 1 ≤ limits.entries
    → AllFit limits nothing_yet (lost_book book)
lost-fits limits book fit room = fit-from limits nothing_yet book (lost_entries (state_of book)) fit (lost-legal limits book room).fit

pub lost-book-legal : (limits : Limits) (book : List Entry) → IsLegal limits book → load (state_of book) + 1 ≤ limits.entries → IsLegal limits (lost_book book)
lost-book-legal limits book legal room = legal-from limits nothing_yet book (lost_entries (state_of book)) legal (lost-legal limits book room)

pub lost-book-jobs : (book : List Entry) → (state_of (lost_book book)).jobs ≡ (state_of book).jobs
lost-book-jobs book = ap (λ (s : State). s.jobs) (lost-state book) ∙ lost-jobs (state_of book)

-- what it notes behind that
pub ends-are : (whole : List ℕ) (book : List Entry)
    → ends_of whole (lost_book book) ≡ job_ends whole (fold after (state_of book) (lost_entries (state_of book))) 1 (state_of book).jobs
ends-are whole book =
    ap (λ (s : State). job_ends whole s 1 s.jobs) (lost-state book)
    ∙ ap (job_ends whole (fold after (state_of book) (lost_entries (state_of book))) 1) (lost-jobs (state_of book))

pub opening-is : (whole : List ℕ) (book : List Entry) → lost_book book ++ ends_of whole (lost_book book) ≡ opening_with whole book
opening-is whole book =
    append_assoc book (lost_entries (state_of book)) (ends_of whole (lost_book book))
    ∙ ap (λ (es : List Entry). book ++ (lost_entries (state_of book) ++ es)) (ends-are whole book)
