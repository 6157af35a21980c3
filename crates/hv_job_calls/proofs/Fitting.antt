-- What was tested makes each entry fit.
use Rattle.std.proofs.Common.{◌≡◌, ◌⊎◌, ℕ, suc, ◌+◌, ◌==◌, Bool, true, false, true≢false, Option, Some, None, List, [], ◌∷◌, length, refl, sym, ap, ◌∙◌, subst, arith}
use Rattle.std.specs.Prelude.{if◌then◌else◌, ◌&&◌, not, is_some, is_none, IsTrue, IsFalse, IsSomeAnd}
use Rattle.std.specs.List.{list_any, slice_get}
use Rattle.std.proofs.lemmas.Bool.{and_parts}
use Rattle.hv_base.specs.declared.ids.TableId.{TableId}
use Rattle.hv_base.specs.declared.ids.WriteId.{WriteId}
use Rattle.hv_history.specs.declared.entry.Entry.{Entry}
use Rattle.hv_history.specs.declared.entry.Entry.TheVariants as entry
use Rattle.hv_history.specs.declared.entry.JobKind.{JobKind}
use Rattle.hv_history.specs.declared.state.Table.{Table}
use Rattle.hv_history.specs.State.{State, Job, numbered, state_of}
use Rattle.hv_history.specs.Legal.{Of, HasRoom, is_working, Fits, profile}
use Rattle.hv_history.specs.Jobs.{has_busy, is_initiated, is_live_one, is_ready, is_past, is_past_by, is_empty_of, pieces_for, watermark}
use Rattle.hv_history.specs.JobsFit.{OfJob, is_live_job, name_in, IsAsker, first_initiated, PickedFits, PublishedFits, EmptyFits, CleanedFits, ForgotFits, is_aborted_id}
use Rattle.hv_job_calls.specs.Refusals.{is_live_in, HasLiveJob, WorksAt, asking, to_pick, holder_by, CanForget}
use Rattle.hv_job_calls.specs.Tests.{held_in}

pub asked-fits : (book : List Entry) (table : TableId) (partition : List ℕ) (kind : JobKind) (by : ℕ) → is_live_in (state_of book) table.0 ≡ true
    → has_busy (state_of book) table.0 partition ≡ false
    → (by ≡ 0) ⊎ Of (state_of book) by (IsAsker (name_in (numbered (state_of book).tables table.0)) kind)
    → HasRoom profile (state_of book) 1 → Fits profile (state_of book) (asking book table partition kind by)
asked-fits book table partition kind by live free asker room = record { live = live; next = refl; free = free; asker = asker; room = room }

-- the job that is picked is there
first-there : (state : State) (k : ℕ) (jobs : List Job) (n : ℕ) → first_initiated state k jobs ≡ Some n → (i : ℕ) × (n ≡ k + i) × ((j : Job) × (slice_get jobs i ≡ Some j))
first-there state k [] n is = cc
first-there state k (j ∷ jobs) n is = by (first-there state (k + 1) jobs n) (is_initiated j && is_live_job state j) is
  where
    by : (first_initiated state (k + 1) jobs ≡ Some n → (i : ℕ) × (n ≡ k + 1 + i) × ((x : Job) × (slice_get jobs i ≡ Some x)))
        → (b : Bool) → (if b then Some k else first_initiated state (k + 1) jobs) ≡ Some n → (i : ℕ) × (n ≡ k + i) × ((x : Job) × (slice_get (j ∷ jobs) i ≡ Some x))
    by rest true e =
        let some : Some k ≡ Some n = e in
        let same : k ≡ n = cc in
        (0, omega (arith, same), (j, refl))
    by rest false e =
        let there = rest e in
        let at = there.1 in
        (suc there.0, omega (arith, at), (there.2.0, there.2.1))

pub picked-fits : (book : List Entry) (number mark : ℕ) → to_pick (state_of book) ≡ Some number
    → ((j : Job) → numbered (state_of book).jobs number ≡ Some j → mark ≡ watermark (state_of book) j.table)
    → HasRoom profile (state_of book) 2 → Fits profile (state_of book) (entry.Picked (record { 0 = number }) (record { 0 = mark }))
picked-fits book number mark lowest marks room =
    let there = first-there (state_of book) 1 (state_of book).jobs number lowest in
    let at = there.1 in
    let next : number ≡ suc there.0 = omega (arith, at) in
    let here : numbered (state_of book).jobs number ≡ Some there.2.0 = ap (numbered (state_of book).jobs) next ∙ there.2.1 in
    subst (λ o. IsSomeAnd o (PickedFits profile (state_of book) number mark)) (sym here)
    (record { lowest = lowest; mark_is = marks there.2.0 here; room = room })

pub empty-fits : (state : State) (number : ℕ) → WorksAt state number → OfJob state number (λ j. IsTrue (is_empty_of j.kind (pieces_for state j)))
    → OfJob state number (EmptyFits state)
empty-fits state number works empty = by (numbered state.jobs number) works empty
  where
    by : (o : Option Job) → IsSomeAnd o (λ (j : Job). IsTrue (is_working j)) → IsSomeAnd o (λ (j : Job). IsTrue (is_empty_of j.kind (pieces_for state j)))
        → IsSomeAnd o (EmptyFits state)
    by None works empty = absurd works
    by (Some j) works empty = record { working = works; nothing = empty }

pub cleaned-fits : (state : State) (number : ℕ) → OfJob state number (λ j. IsTrue (is_ready j)) → OfJob state number (λ j. IsTrue (is_past state j))
    → HasRoom profile state 1 → OfJob state number (CleanedFits profile state)
cleaned-fits state number ready past room = by (numbered state.jobs number) ready past
  where
    by : (o : Option Job) → IsSomeAnd o (λ (j : Job). IsTrue (is_ready j)) → IsSomeAnd o (λ (j : Job). IsTrue (is_past state j))
        → IsSomeAnd o (CleanedFits profile state)
    by None ready past = absurd ready
    by (Some j) ready past = record { ready = ready; past = past; room = room }

pub forgot-fits : (book : List Entry) (table : TableId) (write : WriteId) → is_live_in (state_of book) table.0 ≡ true → CanForget (state_of book) table.0 write.0
    → HasRoom profile (state_of book) 1 → Fits profile (state_of book) (entry.Forgot table write)
forgot-fits book table write live can room = by (numbered (state_of book).tables table.0) live can
  where
    by : (o : Option Table) → is_live_one o ≡ true
        → IsSomeAnd o (λ (t : Table). IsTrue (is_aborted_id (state_of book).transactions (numbered t.owners write.0)) × IsFalse (list_any (λ other. other == write.0) t.forgotten))
        → IsSomeAnd o (ForgotFits profile (state_of book) write.0)
    by None live can = absurd can
    by (Some t) live can = record { live = live; aborted = can.0; kept = can.1; room = room }

-- with its range over the book
pub published-fits : (state : State) (number : ℕ) → WorksAt state number → HasLiveJob state number
    → OfJob state number (λ j. is_empty_of j.kind (pieces_for state j) ≡ false)
    → OfJob state number (λ j. PublishedFits state (pieces_for state j).low (pieces_for state j).high (length state.transactions + 1) j)
published-fits state number works live some = by (numbered state.jobs number) works live some
  where
    by : (o : Option Job) → IsSomeAnd o (λ (j : Job). IsTrue (is_working j)) → IsSomeAnd o (λ (j : Job). is_live_job state j ≡ true)
        → IsSomeAnd o (λ (j : Job). is_empty_of j.kind (pieces_for state j) ≡ false)
        → IsSomeAnd o (λ (j : Job). PublishedFits state (pieces_for state j).low (pieces_for state j).high (length state.transactions + 1) j)
    by None works live some = absurd works
    by (Some j) works live some =
        record { working = works; live = live; some = some; low_is = refl; high_is = refl; mark_is = refl }

-- nobody below its mark is open
pub past-now : (state : State) (number : ℕ) (held : Option ℕ) → held ≡ held_in state (numbered state.jobs number)
    → held ≡ None → OfJob state number (λ j. IsTrue (is_ready j)) → OfJob state number (λ j. IsTrue (is_past state j))
past-now state number held is none ready = by (numbered state.jobs number) refl ready
  where
    past : (o : Option (ℕ × ℕ × ℕ)) → is_some o ≡ true → holder_by state o ≡ None → is_past_by state o ≡ true
    past None some e = absurd (true≢false (sym some))
    past (Some range) some e = ap (λ (x : Option ℕ). is_none x) e

    by : (o : Option Job) → numbered state.jobs number ≡ o → IsSomeAnd o (λ (j : Job). IsTrue (is_ready j)) → IsSomeAnd (numbered state.jobs number) (λ (j : Job). IsTrue (is_past state j))
    by None e ready = absurd ready
    by (Some j) e ready =
        subst (λ o. IsSomeAnd o (λ (x : Job). IsTrue (is_past state x))) (sym e)
        (past j.published (and_parts (is_some j.published) (not j.is_cleaned) ready).0 (sym (is ∙ ap (held_in state) e) ∙ none))
