-- Where a book is legal and no compaction failed, a pass and a job add what one thread adds.
use Rattle.std.proofs.Common.{◌≡◌, ◌⊎◌, ℕ, ◌+◌, ◌≤◌, inl, inr, Bool, true, false, Option, Some, None, List, [], ◌∷◌, ◌++◌, length, map, refl, sym, ap, ◌∙◌, subst, append-nil, append_assoc}
use Rattle.std.specs.Prelude.{IsSomeAnd}
use Rattle.std.specs.List.{AllByRecursion}
use Rattle.std.proofs.lemmas.Bool.{le-ltb, lt-ltb}
use Rattle.hv_base.specs.declared.ids.JobId.{JobId}
use Rattle.hv_base.specs.declared.ids.WriteId.{WriteId}
use Rattle.hv_history.specs.declared.entry.Entry.{Entry}
use Rattle.hv_history.specs.declared.entry.Entry.TheVariants as entry
use Rattle.hv_history.specs.declared.entry.JobCause.TheVariants as job_cause
use Rattle.hv_history.specs.declared.entry.JobKind.{JobKind}
use Rattle.hv_history.specs.State.{State, Job, numbered, state_of}
use Rattle.hv_history.specs.Jobs.{due, pieces_for}
use Rattle.hv_history.specs.JobsFit.{PickedFits, PublishedFits, EmptyFits, FailedFits, CleanedFits, ForgotFits}
use Rattle.hv_history.specs.Legal.{Fits, IsLegal, load, profile}
use Rattle.hv_history.proofs.StateLaws.{state_of-snoc}
use Rattle.hv_trail.specs.Trail.{book_of}
use Rattle.hv_law_next.specs.Next.{lacks_room}
use Rattle.hv_law_next.proofs.Going.{legal-parts}
use Rattle.hv_program.specs.hv_compact.specs.hv_job_acts.specs.declared.asking.PartAt.{PartAt}
use Rattle.hv_program.specs.hv_compact.specs.hv_job_acts.specs.declared.asking.LostId.{LostId}
use Rattle.hv_program.specs.hv_compact.specs.hv_job_acts.specs.hv_job_calls.specs.Refusals.{asking, picking, mark_at, number_in, to_pick, published_by}
use Rattle.hv_program.specs.hv_compact.specs.hv_job_acts.specs.Work.{parts_in, lost_in}
use Rattle.hv_program.specs.hv_compact.specs.Initiating.{asks_kind, asks_for}
use Rattle.hv_program.specs.hv_compact.specs.Alone.{initiated_from}
use Rattle.hv_program.specs.hv_clean.specs.Alone.{free_in, forgot_entry}
use Rattle.hv_program.specs.Background.{LacksRoomFor, IsCleaning, Initiated, IsEndOfJob, TakesUp, WorksAt, Compacts, IsWholePass}
use Rattle.hv_law_serial.specs.Passes.{asked_if, asked_turn, asked_turns, is_empty_one, ended_if, ended_of, worked_if, worked, compacted, noted_if, noted_each, cleaned}
use Rattle.hv_law_serial.specs.History.{IsNoFailure, AddsNoFailure}
use Rattle.hv_law_serial.proofs.Living.{IsAlive, picked-alive, gone-never}

-- ---- room

roomy : (s : State) (more : ℕ) → load s + more ≤ profile.entries → lacks_room s more ≡ false
roomy s more room = le-ltb profile.entries (load s + more) room

lacking : (book : List Entry) (more : ℕ) → LacksRoomFor book more → lacks_room (state_of book) more ≡ true
lacking book more lacks = lt-ltb profile.entries (load (state_of book) + more) lacks

some-such : {T : Type 0} (o : Option T) (P : T → Type 0) (R : Type 0) → ((x : T) → P x → R) → IsSomeAnd o P → R
some-such None P R f is = absurd is
some-such (Some x) P R f is = f x is

-- ---- a pass of an initiator

initiated-grown : (book : List Entry) (parts : List PartAt) → (more : List Entry) × (initiated_from book parts ≡ book ++ more)
initiated-grown book [] = ([], sym (append-nil book))
initiated-grown book (part ∷ parts) =
    let asked : List Entry = book_of (asks_for book part) in
    let rest = initiated-grown (book ++ asked) parts in
    (asked ++ rest.0, rest.1 ∙ append_assoc book asked rest.0)

turn-by : (kind : Option JobKind) (book : List Entry) (part : PartAt) → IsLegal profile (book ++ book_of (asks_kind book part kind))
    → asked_if (lacks_room (state_of book) 1) kind book part ≡ book ++ book_of (asks_kind book part kind)
turn-by None book part legal = sym (append-nil book)
turn-by (Some kind) book part legal =
    let fits = (legal-parts book (asking book part.table part.partition kind 0 ∷ []) legal).behind.fit.0 in
    ap (λ (b : Bool). asked_if b (Some kind) book part) (roomy (state_of book) 1 fits.room)

turn-same : (book : List Entry) (part : PartAt) → IsLegal profile (book ++ book_of (asks_for book part))
    → asked_turn book part ≡ book ++ book_of (asks_for book part)
turn-same book part legal = turn-by (due (state_of book) part.table.0 part.partition) book part legal

lack-by : (kind : Option JobKind) (book : List Entry) (part : PartAt) → lacks_room (state_of book) 1 ≡ true
    → asked_if (lacks_room (state_of book) 1) kind book part ≡ book
lack-by None book part lacks = refl
lack-by (Some kind) book part lacks = ap (λ (b : Bool). asked_if b (Some kind) book part) lacks

all-lack : (book : List Entry) (rest : List PartAt) → lacks_room (state_of book) 1 ≡ true → asked_turns book rest ≡ book
all-lack book [] lacks = refl
all-lack book (part ∷ rest) lacks =
    ap (λ (b : List Entry). asked_turns b rest) (lack-by (due (state_of book) part.table.0 part.partition) book part lacks) ∙ all-lack book rest lacks

rest-same : (book : List Entry) (rest : List PartAt) → (rest ≡ []) ⊎ LacksRoomFor book 1 → asked_turns book rest ≡ book
rest-same book rest (inl none) = ap (asked_turns book) none
rest-same book rest (inr lacks) = all-lack book rest (lacking book 1 lacks)

turns-same : (book : List Entry) (parts rest : List PartAt) → IsLegal profile (initiated_from book parts)
    → (rest ≡ []) ⊎ LacksRoomFor (initiated_from book parts) 1 → asked_turns book (parts ++ rest) ≡ initiated_from book parts
turns-same book [] rest legal ends = rest-same book rest ends
turns-same book (part ∷ parts) rest legal ends =
    let next : List Entry = book ++ book_of (asks_for book part) in
    let grown = initiated-grown next parts in
    let front : IsLegal profile next = (legal-parts next grown.0 (subst (IsLegal profile) grown.1 legal)).front in
    ap (λ (b : List Entry). asked_turns b (parts ++ rest)) (turn-same book part front) ∙ turns-same next parts rest legal ends

initiated-same : (before now : List Entry) → Initiated before now → IsLegal profile now → now ≡ asked_turns before (parts_in before)
initiated-same before now i legal =
    i.goes
    ∙ sym (ap (asked_turns before) i.parts_are
    ∙ turns-same before i.turns i.rest (subst (IsLegal profile) i.goes legal)
    (subst (λ (book : List Entry). (i.rest ≡ []) ⊎ LacksRoomFor book 1) i.goes i.ends))

-- ---- one job

picked-room : (s : State) (o : Option Job) (number mark : ℕ) → IsSomeAnd o (PickedFits profile s number mark) → load s + 2 ≤ profile.entries
picked-room s o number mark is =
    some-such o (PickedFits profile s number mark) (load s + 2 ≤ profile.entries) (λ job fits. fits.room) is

abbrev FitsSo : List Entry → Job → Job → Type 0
FitsSo book j job =
    PublishedFits (state_of book) (pieces_for (state_of book) j).low (pieces_for (state_of book) j).high (length (state_of book).transactions + 1) job

published-by : (book : List Entry) (number : ℕ) (o : Option Job) → numbered (state_of book).jobs number ≡ o
    → Fits profile (state_of book) (published_by (state_of book) (record { 0 = number }) o)
    → ended_if (is_empty_one (state_of book) o) book number ≡ published_by (state_of book) (record { 0 = number }) o
published-by book number None is fits = refl
published-by book number (Some j) is fits =
    let here : FitsSo book j j = subst (λ (o : Option Job). IsSomeAnd o (FitsSo book j)) is fits in
    ap (λ (b : Bool). ended_if b book number) here.some ∙ ap (published_by (state_of book) (record { 0 = number })) is

empty-by : (book : List Entry) (number : ℕ) (o : Option Job) → IsSomeAnd o (EmptyFits (state_of book))
    → ended_if (is_empty_one (state_of book) o) book number ≡ entry.Empty (record { 0 = number })
empty-by book number None is = absurd is
empty-by book number (Some j) is = ap (λ (b : Bool). ended_if b book number) is.nothing

-- one that was taken up is of a live table
taken-alive : (before : List Entry) (number : ℕ) → to_pick (state_of before) ≡ Some number → Fits profile (state_of before) (picking before)
    → IsAlive (state_of (before ++ picking before ∷ [])) number
taken-alive before number is fits =
    let job : JobId = record { 0 = number_in (to_pick (state_of before)) } in
    let mark : WriteId = record { 0 = mark_at (state_of before) (numbered (state_of before).jobs (number_in (to_pick (state_of before)))) } in
    subst (IsAlive (state_of (before ++ picking before ∷ []))) (ap number_in is)
    (subst (λ (s : State). IsAlive s (number_in (to_pick (state_of before)))) (sym (state_of-snoc before (picking before)))
    (picked-alive (state_of before) job mark fits))

end-same : (book : List Entry) (number : ℕ) (event : Entry) → IsEndOfJob book (record { 0 = number }) event → Fits profile (state_of book) event
    → IsAlive (state_of book) number → IsNoFailure event → event ≡ ended_of book number
end-same book number (entry.Published one low high mark) is fits alive unfailed =
    is
    ∙ sym (published-by book number (numbered (state_of book).jobs number) refl (subst (Fits profile (state_of book)) is fits))
end-same book number (entry.Empty one) is fits alive unfailed =
    ap entry.Empty is
    ∙ sym (empty-by book number (numbered (state_of book).jobs number)
    (subst (λ (job : JobId). IsSomeAnd (numbered (state_of book).jobs job.0) (EmptyFits (state_of book))) is fits))
end-same book number (entry.Failed one job_cause.Gone) is fits alive unfailed =
    absurd (gone-never (state_of book) (numbered (state_of book).jobs number)
    (subst (λ (job : JobId). IsSomeAnd (numbered (state_of book).jobs job.0) (FailedFits (state_of book) job_cause.Gone)) is fits) alive)
end-same book number (entry.Failed one why) is fits alive unfailed = absurd unfailed
end-same book number event is fits alive unfailed = absurd is

taken-same : (before now : List Entry) (number : ℕ) → to_pick (state_of before) ≡ Some number → TakesUp before now number → IsLegal profile now → AddsNoFailure before now
    → now ≡ worked_if (lacks_room (state_of before) 2) (Some number) before
taken-same before now number is t legal unfailed =
    let picked : List Entry = before ++ picking before ∷ [] in
    let joined : picked ++ t.event ∷ [] ≡ before ++ picking before ∷ t.event ∷ [] = append_assoc before (picking before ∷ []) (t.event ∷ []) in
    let first = (legal-parts before (picking before ∷ t.event ∷ []) (subst (IsLegal profile) t.goes legal)).behind.fit.0 in
    let last = (legal-parts picked (t.event ∷ []) (subst (IsLegal profile) (t.goes ∙ sym joined) legal)).behind.fit.0 in
    let ends : t.event ≡ ended_of picked number =
    end-same picked number t.event t.ends last (taken-alive before number is first) (unfailed (picking before ∷ t.event ∷ []) t.goes).1.0 in
    t.goes
    ∙ ap (λ (event : Entry). before ++ picking before ∷ event ∷ []) ends
    ∙ sym (ap (λ (b : Bool). worked_if b (Some number) before) (roomy (state_of before) 2 (picked-room (state_of before) _ _ _ first)))

works-by : (before now : List Entry) (o : Option ℕ) → to_pick (state_of before) ≡ o → WorksAt before now o → IsLegal profile now → AddsNoFailure before now
    → now ≡ worked_if (lacks_room (state_of before) 2) o before
works-by before now None is works legal unfailed = works
works-by before now (Some number) is (inl taken) legal unfailed = taken-same before now number is taken legal unfailed
works-by before now (Some number) is (inr left) legal unfailed =
    left.0 ∙ sym (ap (λ (b : Bool). worked_if b (Some number) before) (lacking before 2 left.1))

-- what a job adds stands behind the book
works-grown : (before now : List Entry) (o : Option ℕ) → WorksAt before now o → (more : List Entry) × (now ≡ before ++ more)
works-grown before now None works = ([], works ∙ sym (append-nil before))
works-grown before now (Some number) (inl taken) = (picking before ∷ taken.event ∷ [], taken.goes)
works-grown before now (Some number) (inr left) = ([], left.0 ∙ sym (append-nil before))

all-behind : (P : Entry → Type 0) (xs ys : List Entry) → AllByRecursion P (xs ++ ys) → AllByRecursion P ys
all-behind P [] ys all = all
all-behind P (x ∷ xs) ys all = all-behind P xs ys all.1

pub compacts-same : (before now : List Entry) → Compacts before now → IsLegal profile now → AddsNoFailure before now → now ≡ compacted before
compacts-same before now c legal unfailed =
    let grown = works-grown c.between now (to_pick (state_of c.between)) c.works in
    let front : IsLegal profile c.between = (legal-parts c.between grown.0 (subst (IsLegal profile) grown.1 legal)).front in
    let asked : c.between ≡ asked_turns before (parts_in before) = initiated-same before c.between c.initiated front in
    let first = initiated-grown before c.initiated.turns in
    let begins : c.between ≡ before ++ first.0 = c.initiated.goes ∙ first.1 in
    let behind : AddsNoFailure c.between now =
    λ added goes.
    all-behind IsNoFailure first.0 added
    (unfailed (first.0 ++ added) (goes ∙ ap (λ (b : List Entry). b ++ added) begins ∙ append_assoc before first.0 added)) in
    works-by c.between now (to_pick (state_of c.between)) refl c.works legal behind ∙ ap worked asked

-- ---- a pass of a cleaner

cleaning-room : (s : State) (event : Entry) → IsCleaning event → Fits profile s event → load s + 1 ≤ profile.entries
cleaning-room s (entry.Cleaned job) is fits =
    some-such (numbered s.jobs job.0) (CleanedFits profile s) (load s + 1 ≤ profile.entries) (λ j fits_. fits_.room) fits
cleaning-room s (entry.Forgot table write) is fits =
    some-such (numbered s.tables table.0) (ForgotFits profile s write.0) (load s + 1 ≤ profile.entries) (λ t fits_. fits_.room) fits
cleaning-room s event is fits = absurd is

noted-same : (book events rest : List Entry) → IsLegal profile (book ++ events) → AllByRecursion IsCleaning events
    → noted_each book (events ++ rest) ≡ noted_each (book ++ events) rest
noted-same book [] rest legal each = ap (λ (b : List Entry). noted_each b rest) (sym (append-nil book))
noted-same book (event ∷ events) rest legal each =
    let fits = (legal-parts book (event ∷ events) legal).behind.fit.0 in
    let joined : (book ++ event ∷ []) ++ events ≡ book ++ event ∷ events = append_assoc book (event ∷ []) events in
    ap (λ (b : Bool). noted_each (noted_if b book event) (events ++ rest)) (roomy (state_of book) 1 (cleaning-room (state_of book) event each.0 fits))
    ∙ noted-same (book ++ event ∷ []) events rest (subst (IsLegal profile) (sym joined) legal) each.1
    ∙ ap (λ (b : List Entry). noted_each b rest) joined

-- where there is no room nothing more is noted
none-noted : (book rest : List Entry) → lacks_room (state_of book) 1 ≡ true → noted_each book rest ≡ book
none-noted book [] lacks = refl
none-noted book (event ∷ rest) lacks = ap (λ (b : Bool). noted_each (noted_if b book event) rest) lacks ∙ none-noted book rest lacks

left-same : (book rest : List Entry) → (rest ≡ []) ⊎ LacksRoomFor book 1 → noted_each book rest ≡ book
left-same book rest (inl none) = ap (noted_each book) none
left-same book rest (inr lacks) = none-noted book rest (lacking book 1 lacks)

cleaned-kind : (jobs : List JobId) (ids : List LostId) → AllByRecursion IsCleaning (map entry.Cleaned jobs ++ map forgot_entry ids)
cleaned-kind [] [] = tt
cleaned-kind [] (id ∷ ids) = (tt, cleaned-kind [] ids)
cleaned-kind (job ∷ jobs) ids = (tt, cleaned-kind jobs ids)

all-front : (P : Entry → Type 0) (xs ys : List Entry) → AllByRecursion P (xs ++ ys) → AllByRecursion P xs
all-front P [] ys all = tt
all-front P (x ∷ xs) ys all = (all.0, all-front P xs ys all.1)

pub cleans-same : (before now : List Entry) → IsWholePass before now → IsLegal profile now → now ≡ cleaned before
cleans-same before now whole legal =
    let kinds : AllByRecursion IsCleaning whole.noted =
    all-front IsCleaning whole.noted whole.rest
    (subst (AllByRecursion IsCleaning) whole.all_are (cleaned-kind (free_in before) (lost_in (state_of before)))) in
    let same : cleaned before ≡ now =
    ap (noted_each before) whole.all_are
    ∙ noted-same before whole.noted whole.rest (subst (IsLegal profile) whole.goes legal) kinds
    ∙ ap (λ (b : List Entry). noted_each b whole.rest) (sym whole.goes)
    ∙ left-same now whole.rest whole.ends in
    sym same
