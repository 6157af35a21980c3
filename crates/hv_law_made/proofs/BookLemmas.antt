-- What is said of books with jobs holds behind each entry that fits.
use Rattle.std.proofs.Common.{refl, ◌≡◌, ℕ, zero, suc, ◌+◌, ◌<◌, ◌≤◌, true, Option, Some, None, List, [], ◌∷◌, ◌++◌, length, map, option_map, fold, sym, ap, ◌∙◌, subst, arith, true≢false}
use Rattle.std.specs.List.{flat_map, AllByRecursion}
use Rattle.std.specs.Option.{option_to_list}
use Rattle.std.proofs.lemmas.List.{append-nil, length-append}
use Rattle.hv_base.specs.declared.ids.Limits.{Limits}
use Rattle.hv_dirs.specs.Names.{statement_end}
use Rattle.hv_logic.specs.declared.catalog.TableInfo.{TableInfo}
use Rattle.hv_logic.specs.declared.meaning.Meaning.{Meaning}
use Rattle.hv_logic.specs.declared.meaning.Meaning.TheVariants.{Refused, Listing, Change, Make, Unmake, Ask, Plain, Twice, RowLimit, PartitionLimit}
use Rattle.hv_stands.specs.hv_history.specs.declared.entry.Entry.{Entry}
use Rattle.hv_stands.specs.hv_history.specs.declared.entry.Entry.TheVariants as entry
use Rattle.hv_stands.specs.hv_history.specs.declared.state.Ending.{Ending}
use Rattle.hv_stands.specs.hv_history.specs.declared.state.Ending.TheVariants.{Committed, Aborted, Made, Dropped}
use Rattle.hv_stands.specs.hv_history.specs.declared.state.Statement.{Statement}
use Rattle.hv_stands.specs.hv_history.specs.declared.state.Table.{Table}
use Rattle.hv_stands.specs.hv_history.specs.declared.state.Transaction.{Transaction}
use Rattle.hv_stands.specs.hv_history.specs.declared.state.Written.{Written}
use Rattle.hv_stands.specs.hv_history.specs.State.{State, Job, numbered, changed, changed_at, given_in, writes_of, written_by, wrote_as, commits, tables_behind, written_to, owned, dropped, forgot, made_by, asked_job, picked, published_at, empty_at, failed_at, cleaned, acted, after, nothing_yet}
use Rattle.hv_stands.specs.hv_history.specs.Lasting.{GoesOn}
use Rattle.hv_stands.specs.hv_history.specs.Legal.{CommitFits, Fits, AllFit}
use Rattle.hv_stands.specs.hv_history.specs.JobsFit.{ForgotFits, is_aborted_by, is_aborted_one, is_aborted_id}
use Rattle.hv_stands.specs.hv_history.proofs.LastingLaws.{goes-on}
use Rattle.hv_stands.specs.Files.{ending_of}
use Rattle.hv_stands.specs.Sound.{info_in, IsSingle, IsSound}
use Rattle.hv_stands.proofs.Numbers.{found, numbered-map, numbered-more}
use Rattle.hv_stands.proofs.Soundness.{all-numbered}
use Rattle.hv_stands.proofs.Keeping.{sound-after, nothing-sound}
use Rattle.hv_law_jobs.proofs.OrderLemmas.{all-more, all-append, all-changed, all-changed-here}
use Rattle.hv_law_jobs.proofs.GrowLemmas.{ended-same}
use Rattle.hv_law_jobs.proofs.GoLemmas.{jobs-go-on}
use Rattle.hv_law_made.specs.Entries.{IsFewStatement, HasFewStatements, IsAbortedEnd, IsOfAborted, ForgetsAborted, IsSoundBook, BooksGoOn, BooksAreSound}

-- ---- statements: each transaction has one

abbrev IsFew : ℕ × Written → Type 0
IsFew x = IsFewStatement x.1

first-few : 0 < statement_end
first-few = omega arith

one-few : (m : Option Meaning) (given : List (ℕ × ℕ)) → AllByRecursion IsFew (writes_of m 0 given)
one-few None given = tt
one-few (Some (Refused why)) given = tt
one-few (Some (Listing names rows)) given = tt
one-few (Some (Change info effect)) given = by (given_in info.table.0 given)
  where
    by : (o : Option ℕ) → AllByRecursion IsFew (option_to_list (option_map (λ (write : ℕ). (info.table.0, written_by info.shape write 0 effect)) o))
    by None = tt
    by (Some write) = (first-few, tt)
one-few (Some (Make shape)) given = tt
one-few (Some (Unmake table)) given = tt
one-few (Some (Ask table region kind)) given = tt
one-few (Some Plain) given = tt
one-few (Some (Twice region row)) given = tt
one-few (Some RowLimit) given = tt
one-few (Some PartitionLimit) given = tt

commit-few : (infos : List TableInfo) (t : Transaction) → IsSingle infos t → AllByRecursion IsFew (commits (Some t))
commit-few infos t single =
    subst (AllByRecursion IsFew)
    (sym (ap (λ (ss : List Statement). flat_map (λ (statement : Statement). statement.wrote) (changed_at (wrote_as t.given 0) ss 0)) single.one
    ∙ append-nil (writes_of single.statement.meaning 0 t.given)))
    (one-few single.statement.meaning t.given)

behind-few : (ws : List (ℕ × Written)) → AllByRecursion IsFew ws → (tables : List Table) → AllByRecursion HasFewStatements tables
    → AllByRecursion HasFewStatements (tables_behind ws tables)
behind-few [] each tables h = h
behind-few (w ∷ ws) each tables h =
    behind-few ws each.1 (changed (written_to w.1) tables w.0)
    (all-changed HasFewStatements (written_to w.1) (λ t few. all-append IsFewStatement t.writes (w.1 ∷ []) few (each.0, tt)) tables w.0 h)

statements-next : (limits : Limits) (s : State) (event : Entry) → Fits limits s event → IsSound s → AllByRecursion HasFewStatements s.tables
    → AllByRecursion HasFewStatements (after s event).tables
unfolding acted
statements-next limits s (entry.Given txn table write) fits sound h = all-changed HasFewStatements (owned txn.0) (λ t few. few) s.tables table.0 h
statements-next limits s (entry.Commit txn wrote) fits sound h =
    let here = found (CommitFits s wrote) (numbered s.transactions txn.0) fits in
    behind-few (commits (numbered s.transactions txn.0))
    (subst (λ (o : Option Transaction). AllByRecursion IsFew (commits o)) (sym here.1)
    (commit-few (map info_in s.tables) here.0 (all-numbered (IsSingle (map info_in s.tables)) s.transactions txn.0 here.0 here.1 sound.single)))
    s.tables h
statements-next limits s (entry.Create txn table) fits sound h =
    all-append HasFewStatements s.tables (made_by table.0 (numbered s.transactions txn.0) ∷ []) h (tt, tt)
statements-next limits s (entry.Drop txn table) fits sound h = all-changed HasFewStatements dropped (λ t few. few) s.tables table.0 h
statements-next limits s (entry.Forgot table write) fits sound h = all-changed HasFewStatements (forgot write.0) (λ t few. few) s.tables table.0 h
statements-next limits s (entry.Boot run) fits sound h = h
statements-next limits s (entry.Opened txn session number text) fits sound h = h
statements-next limits s (entry.Start txn statement) fits sound h = h
statements-next limits s (entry.Abort txn cause) fits sound h = h
statements-next limits s (entry.Asked job table partition kind by) fits sound h = h
statements-next limits s (entry.Picked job mark) fits sound h = h
statements-next limits s (entry.Published job low high mark) fits sound h = h
statements-next limits s (entry.Empty job) fits sound h = h
statements-next limits s (entry.Cleaned job) fits sound h = h
statements-next limits s (entry.Failed job cause) fits sound h = h
statements-next limits s (entry.Next txn statement number text) fits sound h = absurd fits
statements-next limits s (entry.Did txn statement wrote) fits sound h = absurd fits
statements-next limits s (entry.Alter txn table) fits sound h = absurd fits

-- ---- ids that were forgotten

aborted-end : (o : Option Ending) → is_aborted_by o ≡ true → IsAbortedEnd (Some o)
aborted-end None e = absurd (true≢false (sym e))
aborted-end (Some (Committed place wrote)) e = absurd (true≢false (sym e))
aborted-end (Some (Aborted place cause)) e = tt
aborted-end (Some (Made place table)) e = absurd (true≢false (sym e))
aborted-end (Some (Dropped place table)) e = absurd (true≢false (sym e))

aborted-one : (o : Option Transaction) → is_aborted_one o ≡ true → IsAbortedEnd (option_map ending_of o)
aborted-one None e = absurd (true≢false (sym e))
aborted-one (Some t) e = aborted-end t.ending e

pub aborted-id : (ts : List Transaction) (o : Option ℕ) → is_aborted_id ts o ≡ true → (txn : ℕ) × (o ≡ Some txn) × IsAbortedEnd (numbered (map ending_of ts) txn)
aborted-id ts None e = absurd (true≢false (sym e))
aborted-id ts (Some txn) e = (txn, refl, subst IsAbortedEnd (sym (numbered-map ending_of ts txn)) (aborted-one (numbered ts txn) e))

-- one that was aborted is so later
module _ (state now : State) (goes : GoesOn state now) where
  aborted-later : (txn : ℕ) → IsAbortedEnd (numbered (map ending_of state.transactions) txn) → IsAbortedEnd (numbered (map ending_of now.transactions) txn)
  aborted-later txn is = by (numbered state.transactions txn) refl (subst IsAbortedEnd (numbered-map ending_of state.transactions txn) is)
    where
      with_end : (t : Transaction) → numbered state.transactions txn ≡ Some t → (o : Option Ending) → t.ending ≡ o → IsAbortedEnd (Some o)
          → IsAbortedEnd (numbered (map ending_of now.transactions) txn)
      with_end t at None ends is = absurd is
      with_end t at (Some e) ends is =
          subst IsAbortedEnd (sym (numbered-map ending_of now.transactions txn ∙ ap (option_map ending_of) (ended-same state now goes txn t e at ends) ∙ ap (λ o. Some o) ends)) is

      by : (o : Option Transaction) → numbered state.transactions txn ≡ o → IsAbortedEnd (option_map ending_of o)
          → IsAbortedEnd (numbered (map ending_of now.transactions) txn)
      by None at is = absurd is
      by (Some t) at is = with_end t at t.ending refl is

  forgets-later : AllByRecursion (ForgetsAborted (map ending_of state.transactions)) state.tables → AllByRecursion (ForgetsAborted (map ending_of now.transactions)) state.tables
  forgets-later h =
      all-more (ForgetsAborted (map ending_of state.transactions)) (ForgetsAborted (map ending_of now.transactions))
      (λ table each.
      all-more (IsOfAborted (map ending_of state.transactions) table.owners) (IsOfAborted (map ending_of now.transactions) table.owners)
      (λ write is. (is.0, is.1, aborted-later is.0 is.2)) table.forgotten each)
      state.tables h

module _ (endings : List (Option Ending)) where
  owned-forgets : (txn : ℕ) (table : Table) → ForgetsAborted endings table → ForgetsAborted endings (owned txn table)
  owned-forgets txn table each =
      all-more (IsOfAborted endings table.owners) (IsOfAborted endings (table.owners ++ txn ∷ []))
      (λ write is. (is.0, numbered-more table.owners txn write is.0 is.1, is.2)) table.forgotten each

  behind-forgets : (ws : List (ℕ × Written)) (tables : List Table) → AllByRecursion (ForgetsAborted endings) tables
      → AllByRecursion (ForgetsAborted endings) (tables_behind ws tables)
  behind-forgets [] tables h = h
  behind-forgets (w ∷ ws) tables h =
      behind-forgets ws (changed (written_to w.1) tables w.0) (all-changed (ForgetsAborted endings) (written_to w.1) (λ t each. each) tables w.0 h)

  more-forgets : (k write : ℕ) (which : Table) (tables : List Table) → numbered tables k ≡ Some which → IsOfAborted endings which.owners write
      → AllByRecursion (ForgetsAborted endings) tables → AllByRecursion (ForgetsAborted endings) (changed (forgot write) tables k)
  more-forgets k write which tables at of h =
      all-changed-here (ForgetsAborted endings) (ForgetsAborted endings) (forgot write) (λ t each. each) tables k which at
      (λ each. all-append (IsOfAborted endings which.owners) which.forgotten (write ∷ []) each (of, tt)) h

forgotten-next : (limits : Limits) (s : State) (event : Entry) → Fits limits s event
    → AllByRecursion (ForgetsAborted (map ending_of (after s event).transactions)) s.tables
    → AllByRecursion (ForgetsAborted (map ending_of (after s event).transactions)) (after s event).tables
unfolding acted
forgotten-next limits s (entry.Given txn table write) fits h =
    let endings = map ending_of (after s (entry.Given txn table write)).transactions in
    all-changed (ForgetsAborted endings) (owned txn.0) (owned-forgets endings txn.0) s.tables table.0 h
forgotten-next limits s (entry.Commit txn wrote) fits h =
    behind-forgets (map ending_of (after s (entry.Commit txn wrote)).transactions) (commits (numbered s.transactions txn.0)) s.tables h
forgotten-next limits s (entry.Create txn table) fits h =
    all-append (ForgetsAborted (map ending_of (after s (entry.Create txn table)).transactions)) s.tables (made_by table.0 (numbered s.transactions txn.0) ∷ []) h (tt, tt)
forgotten-next limits s (entry.Drop txn table) fits h =
    all-changed (ForgetsAborted (map ending_of (after s (entry.Drop txn table)).transactions)) dropped (λ t each. each) s.tables table.0 h
forgotten-next limits s (entry.Forgot table write) fits h =
    let here = found (ForgotFits limits s write.0) (numbered s.tables table.0) fits in
    more-forgets (map ending_of s.transactions) table.0 write.0 here.0 s.tables here.1 (aborted-id s.transactions (numbered here.0.owners write.0) here.2.aborted) h
forgotten-next limits s (entry.Boot run) fits h = h
forgotten-next limits s (entry.Opened txn session number text) fits h = h
forgotten-next limits s (entry.Start txn statement) fits h = h
forgotten-next limits s (entry.Abort txn cause) fits h = h
forgotten-next limits s (entry.Asked job table partition kind by) fits h = h
forgotten-next limits s (entry.Picked job mark) fits h = h
forgotten-next limits s (entry.Published job low high mark) fits h = h
forgotten-next limits s (entry.Empty job) fits h = h
forgotten-next limits s (entry.Cleaned job) fits h = h
forgotten-next limits s (entry.Failed job cause) fits h = h
forgotten-next limits s (entry.Next txn statement number text) fits h = absurd fits
forgotten-next limits s (entry.Did txn statement wrote) fits h = absurd fits
forgotten-next limits s (entry.Alter txn table) fits h = absurd fits

-- ---- jobs: each entry asks for one at most

length-changed_at : {A : Type 0} (f : A → A) (xs : List A) (n : ℕ) → length (changed_at f xs n) ≡ length xs
length-changed_at f [] n = refl
length-changed_at f (x ∷ xs) zero = refl
length-changed_at f (x ∷ xs) (suc n) = ap suc (length-changed_at f xs n)

length-changed : {A : Type 0} (f : A → A) (xs : List A) (n : ℕ) → length (changed f xs n) ≡ length xs
length-changed f xs zero = refl
length-changed f xs (suc n) = length-changed_at f xs n

few-more : (s : State) (jobs : List Job) → length jobs ≡ length s.jobs → length s.jobs ≤ s.entries → length jobs ≤ s.entries + 1
few-more s jobs same few = omega (arith, same, few)

jobs-few : (limits : Limits) (s : State) (event : Entry) → Fits limits s event → length s.jobs ≤ s.entries → length (after s event).jobs ≤ s.entries + 1
unfolding acted
jobs-few limits s (entry.Asked job table partition kind by) fits few =
    let its = asked_job s.entries table.0 partition kind by in
    let more : length (s.jobs ++ its ∷ []) ≡ length s.jobs + 1 = length-append s.jobs (its ∷ []) in
    omega (arith, more, few)
jobs-few limits s (entry.Picked job mark) fits few = few-more s (changed (picked mark.0) s.jobs job.0) (length-changed (picked mark.0) s.jobs job.0) few
jobs-few limits s (entry.Published job low high mark) fits few =
    let step = published_at s.entries (low.0, high.0, mark.0) in
    few-more s (changed step s.jobs job.0) (length-changed step s.jobs job.0) few
jobs-few limits s (entry.Empty job) fits few = few-more s (changed (empty_at s.entries) s.jobs job.0) (length-changed (empty_at s.entries) s.jobs job.0) few
jobs-few limits s (entry.Cleaned job) fits few = few-more s (changed cleaned s.jobs job.0) (length-changed cleaned s.jobs job.0) few
jobs-few limits s (entry.Failed job cause) fits few =
    few-more s (changed (failed_at s.entries cause) s.jobs job.0) (length-changed (failed_at s.entries cause) s.jobs job.0) few
jobs-few limits s (entry.Forgot table write) fits few = few-more s s.jobs refl few
jobs-few limits s (entry.Boot run) fits few = few-more s s.jobs refl few
jobs-few limits s (entry.Opened txn session number text) fits few = few-more s s.jobs refl few
jobs-few limits s (entry.Start txn statement) fits few = few-more s s.jobs refl few
jobs-few limits s (entry.Given txn table write) fits few = few-more s s.jobs refl few
jobs-few limits s (entry.Commit txn wrote) fits few = few-more s s.jobs refl few
jobs-few limits s (entry.Abort txn cause) fits few = few-more s s.jobs refl few
jobs-few limits s (entry.Create txn table) fits few = few-more s s.jobs refl few
jobs-few limits s (entry.Drop txn table) fits few = few-more s s.jobs refl few
jobs-few limits s (entry.Next txn statement number text) fits few = absurd fits
jobs-few limits s (entry.Did txn statement wrote) fits few = absurd fits
jobs-few limits s (entry.Alter txn table) fits few = absurd fits

-- ---- books

pub books-go-on : BooksGoOn
books-go-on limits state event fits sound = record {
  jobs = jobs-go-on limits state event fits sound.jobs;
  few_jobs = jobs-few limits state event fits sound.few_jobs;
  base = sound-after limits state event fits sound.base;
  statements = statements-next limits state event fits sound.base sound.statements;
  forgotten = forgotten-next limits state event fits (forgets-later state (after state event) (goes-on state event) sound.forgotten);
}

nothing-yet : IsSoundBook nothing_yet
nothing-yet = record {
  jobs = record { each = tt; order = tt; owned = tt };
  few_jobs = omega arith;
  base = nothing-sound;
  statements = tt;
  forgotten = tt;
}

all-go-on : (limits : Limits) (book : List Entry) (state : State) → AllFit limits state book → IsSoundBook state → IsSoundBook (fold after state book)
all-go-on limits [] state fit sound = sound
all-go-on limits (event ∷ book) state fit sound = all-go-on limits book (after state event) fit.1 (books-go-on limits state event fit.0 sound)

pub books-are-sound : BooksAreSound
books-are-sound limits book fit = all-go-on limits book nothing_yet fit nothing-yet
