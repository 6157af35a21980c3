-- The notes beside a book go with the state that its entries leave: transactions, tables, jobs, and what is open.
use Rattle.std.proofs.Common.{◌≡◌, ℕ, zero, suc, ◌+◌, ◌<◌, Option, Some, None, List, [], ◌∷◌, ◌++◌, length, map, filter, refl, sym, ap, ◌∙◌, arith}
use Rattle.std.specs.Prelude.{Bool, true, false, not, ◌==◌, if◌then◌else◌, is_none, is_some}
use Rattle.std.specs.Option.{option_map}
use Rattle.std.proofs.lemmas.Bool.{eq-eqb, eqb-true}
use Rattle.std.proofs.lemmas.List.{map-append, length-append}
use Rattle.hv_book.specs.declared.notes.End.{End}
use Rattle.hv_history.specs.declared.entry.Entry.{Entry}
use Rattle.hv_history.specs.declared.entry.Entry.TheVariants as entry
use Rattle.hv_book.specs.declared.notes.TransactionNote.{TransactionNote}
use Rattle.hv_book.specs.declared.jobs.Step.TheVariants as step
use Rattle.hv_book.specs.Jobs.{new_job, stepped}
use Rattle.hv_history.specs.declared.state.Transaction.{Transaction}
use Rattle.hv_history.specs.declared.state.Table.{Table}
use Rattle.hv_history.specs.declared.state.Snapshot.{Snapshot}
use Rattle.hv_history.specs.declared.state.Ending.{Ending}
use Rattle.hv_history.specs.declared.state.Written.{Written}
use Rattle.hv_history.specs.declared.state.Ending.TheVariants.{Aborted, Made, Dropped}
use Rattle.hv_history.specs.State.{State, Job, numbered, changed, changed_at, while_open, unless_ended, started, given_id, committed, ended, first_of, owned, dropped, forgot, written_to, tables_behind, commits, opened, made_by, asked_job, picked, published_at, empty_at, failed_at, cleaned, acted, after}
use Rattle.hv_book.specs.Notes.{Notes, noted, while_unended, unended, started_at, ended_at, start_note, end_note, ending, one_more, gone, other_than, note_open}
use Rattle.hv_book.specs.Briefs.{brief, brief_table, brief_range, brief_job, end_of, snapshot_place, open_from, open_next}

-- ---- a map over what is changed

module _ {A B : Type 0} (h : A → B) (f : A → A) (g : B → B) (goes : (x : A) → h (f x) ≡ g (h x)) where
  map-changed_at : (xs : List A) (n : ℕ) → map h (changed_at f xs n) ≡ changed_at g (map h xs) n
  map-changed_at [] n = refl
  map-changed_at (x ∷ xs) zero = ap (λ y. y ∷ map h xs) (goes x)
  map-changed_at (x ∷ xs) (suc n) = ap (λ ys. h x ∷ ys) (map-changed_at xs n)

  pub map-changed : (xs : List A) (n : ℕ) → map h (changed f xs n) ≡ changed g (map h xs) n
  map-changed xs zero = refl
  map-changed xs (suc n) = map-changed_at xs n

module _ {A B : Type 0} (h : A → B) (f : A → A) (same : (x : A) → h (f x) ≡ h x) where
  map-same_at : (xs : List A) (n : ℕ) → map h (changed_at f xs n) ≡ map h xs
  map-same_at [] n = refl
  map-same_at (x ∷ xs) zero = ap (λ y. y ∷ map h xs) (same x)
  map-same_at (x ∷ xs) (suc n) = ap (λ ys. h x ∷ ys) (map-same_at xs n)

  pub map-same : (xs : List A) (n : ℕ) → map h (changed f xs n) ≡ map h xs
  map-same xs zero = refl
  map-same xs (suc n) = map-same_at xs n

-- ---- transactions

brief-while : (f : Transaction → Transaction) (g : TransactionNote → TransactionNote) → ((t : Transaction) → brief (f t) ≡ g (brief t))
    → (t : Transaction) → brief (while_open f t) ≡ while_unended g (brief t)
brief-while f g goes t = by t.ending
  where
    by : (e : Option Ending) → brief (unless_ended e t (f t)) ≡ unended (option_map end_of e) (brief t) (g (brief t))
    by None = goes t
    by (Some e) = refl

brief-while-same : (f : Transaction → Transaction) → ((t : Transaction) → brief (f t) ≡ brief t) → (t : Transaction) → brief (while_open f t) ≡ brief t
brief-while-same f same t = by t.ending
  where
    by : (e : Option Ending) → brief (unless_ended e t (f t)) ≡ brief t
    by None = same t
    by (Some e) = refl

first-place : (o : Option Snapshot) (s : Snapshot) → option_map snapshot_place (first_of o s) ≡ first_of (option_map snapshot_place o) s.place
first-place None s = refl
first-place (Some x) s = refl

brief-started : (state : State) (number : ℕ) (t : Transaction) → brief (started state number t) ≡ started_at state.entries (brief t)
brief-started state number t =
    ap (λ (o : Option ℕ). record { started = o; ending = option_map end_of t.ending }) (first-place t.snapshot (record { place = state.entries; tables = state.tables; opened = length state.transactions }))

abbrev pub TransactionsFollow : State → Notes → Type 0
TransactionsFollow state notes = notes.transactions ≡ map brief state.transactions

pub transactions-follow : (state : State) (event : Entry) (notes : Notes) → TransactionsFollow state notes
    → TransactionsFollow (after state event) (noted state.entries event notes)
unfolding acted ending start_note end_note
transactions-follow state (entry.Boot run) notes h = h
transactions-follow state (entry.Opened txn session number text) notes h =
    ap (λ ts. ts ++ record { started = None; ending = None } ∷ []) h ∙ sym (map-append brief state.transactions (opened session number text ∷ []))
transactions-follow state (entry.Start txn statement) notes h =
    ap (λ ts. changed (start_note state.entries) ts txn.0) h
    ∙ sym (map-changed brief (while_open (started state statement)) (start_note state.entries) (brief-while (started state statement) (started_at state.entries) (brief-started state statement)) state.transactions txn.0)
transactions-follow state (entry.Given txn table write) notes h =
    h ∙ sym (map-same brief (while_open (given_id table.0 write.0)) (brief-while-same (given_id table.0 write.0) (λ t. refl)) state.transactions txn.0)
transactions-follow state (entry.Commit txn wrote) notes h =
    ap (λ ts. changed (end_note state.entries true) ts txn.0) h
    ∙ sym (map-changed brief (while_open (committed state.entries wrote)) (end_note state.entries true) (brief-while (committed state.entries wrote) (ended_at state.entries true) (λ t. refl)) state.transactions txn.0)
transactions-follow state (entry.Abort txn cause) notes h =
    ap (λ ts. changed (end_note state.entries false) ts txn.0) h
    ∙ sym (map-changed brief (while_open (ended (Aborted state.entries cause))) (end_note state.entries false) (brief-while (ended (Aborted state.entries cause)) (ended_at state.entries false) (λ t. refl)) state.transactions txn.0)
transactions-follow state (entry.Create txn table) notes h =
    ap (λ ts. changed (end_note state.entries true) ts txn.0) h
    ∙ sym (map-changed brief (while_open (ended (Made state.entries table.0))) (end_note state.entries true) (brief-while (ended (Made state.entries table.0)) (ended_at state.entries true) (λ t. refl)) state.transactions txn.0)
transactions-follow state (entry.Drop txn table) notes h =
    ap (λ ts. changed (end_note state.entries true) ts txn.0) h
    ∙ sym (map-changed brief (while_open (ended (Dropped state.entries table.0))) (end_note state.entries true) (brief-while (ended (Dropped state.entries table.0)) (ended_at state.entries true) (λ t. refl)) state.transactions txn.0)
transactions-follow state (entry.Asked job table partition kind by) notes h = h
transactions-follow state (entry.Picked job watermark) notes h = h
transactions-follow state (entry.Published job low high mark) notes h = h
transactions-follow state (entry.Empty job) notes h = h
transactions-follow state (entry.Cleaned job) notes h = h
transactions-follow state (entry.Next txn statement number text) notes h = h
transactions-follow state (entry.Did txn statement wrote) notes h = h
transactions-follow state (entry.Alter txn table) notes h = h
transactions-follow state (entry.Failed job cause) notes h = h
transactions-follow state (entry.Forgot table write) notes h = h

-- ---- tables

abbrev pub TablesFollow : State → Notes → Type 0
TablesFollow state notes = notes.tables ≡ map brief_table state.tables

one-given : (txn : ℕ) (t : Table) → brief_table (owned txn t) ≡ one_more (brief_table t)
unfolding one_more
one-given txn t = ap (λ n. record { id = t.info.table.0; is_live = t.is_live; high = n }) (length-append t.owners (txn ∷ []))

same-behind : (ws : List (ℕ × Written)) (ts : List Table) → map brief_table (tables_behind ws ts) ≡ map brief_table ts
same-behind [] ts = refl
same-behind (w ∷ ws) ts = same-behind ws (changed (written_to w.1) ts w.0) ∙ map-same brief_table (written_to w.1) (λ t. refl) ts w.0

pub tables-follow : (state : State) (event : Entry) (notes : Notes) → TablesFollow state notes
    → TablesFollow (after state event) (noted state.entries event notes)
unfolding acted ending one_more gone
tables-follow state (entry.Boot run) notes h = h
tables-follow state (entry.Opened txn session number text) notes h = h
tables-follow state (entry.Start txn statement) notes h = h
tables-follow state (entry.Given txn table write) notes h =
    ap (λ ts. changed one_more ts table.0) h ∙ sym (map-changed brief_table (owned txn.0) one_more (one-given txn.0) state.tables table.0)
tables-follow state (entry.Commit txn wrote) notes h = h ∙ sym (same-behind (commits (numbered state.transactions txn.0)) state.tables)
tables-follow state (entry.Abort txn cause) notes h = h
tables-follow state (entry.Create txn table) notes h =
    ap (λ ts. ts ++ record { id = table.0; is_live = true; high = 0 } ∷ []) h
    ∙ sym (map-append brief_table state.tables (made_by table.0 (numbered state.transactions txn.0) ∷ []))
tables-follow state (entry.Drop txn table) notes h =
    ap (λ ts. changed gone ts table.0) h ∙ sym (map-changed brief_table dropped gone (λ t. refl) state.tables table.0)
tables-follow state (entry.Asked job table partition kind by) notes h = h
tables-follow state (entry.Picked job watermark) notes h = h
tables-follow state (entry.Published job low high mark) notes h = h
tables-follow state (entry.Empty job) notes h = h
tables-follow state (entry.Cleaned job) notes h = h
tables-follow state (entry.Next txn statement number text) notes h = h
tables-follow state (entry.Did txn statement wrote) notes h = h
tables-follow state (entry.Alter txn table) notes h = h
tables-follow state (entry.Failed job cause) notes h = h
tables-follow state (entry.Forgot table write) notes h = h ∙ sym (map-same brief_table (forgot write.0) (λ t. refl) state.tables table.0)

-- ---- jobs

abbrev pub JobsFollow : State → Notes → Type 0
JobsFollow state notes = notes.jobs ≡ map brief_job state.jobs

once : {A : Type 0} (o : Option A) (x : A) → is_some (first_of o x) ≡ true
once None x = refl
once (Some y) x = refl

first-mapped : {A B : Type 0} (f : A → B) (o : Option A) (x : A) → option_map f (first_of o x) ≡ first_of (option_map f o) (f x)
first-mapped f None x = refl
first-mapped f (Some y) x = refl

pub jobs-follow : (state : State) (event : Entry) (notes : Notes) → JobsFollow state notes
    → JobsFollow (after state event) (noted state.entries event notes)
unfolding acted ending
jobs-follow state (entry.Boot run) notes h = h
jobs-follow state (entry.Opened txn session number text) notes h = h
jobs-follow state (entry.Start txn statement) notes h = h
jobs-follow state (entry.Given txn table write) notes h = h
jobs-follow state (entry.Commit txn wrote) notes h = h
jobs-follow state (entry.Abort txn cause) notes h = h
jobs-follow state (entry.Create txn table) notes h = h
jobs-follow state (entry.Drop txn table) notes h = h
jobs-follow state (entry.Asked job table partition kind by) notes h =
    ap (λ js. js ++ new_job table.0 kind state.entries ∷ []) h
    ∙ sym (map-append brief_job state.jobs (asked_job state.entries table.0 partition kind by ∷ []))
jobs-follow state (entry.Picked job watermark) notes h =
    ap (λ js. changed (stepped (step.Picked watermark.0)) js job.0) h
    ∙ sym (map-changed brief_job (picked watermark.0) (stepped (step.Picked watermark.0)) (λ (j : Job). refl) state.jobs job.0)
jobs-follow state (entry.Published job low high mark) notes h =
    let range : ℕ × ℕ × ℕ = (low.0, high.0, mark.0) in
    let does = step.Published state.entries (brief_range range) in
    ap (λ js. changed (stepped does) js job.0) h
    ∙ sym (map-changed brief_job (published_at state.entries range) (stepped does)
    (λ (j : Job). ap (λ o. record (brief_job j) { published = o; ended = first_of j.ended state.entries }) (first-mapped brief_range j.published range)) state.jobs job.0)
jobs-follow state (entry.Empty job) notes h =
    ap (λ js. changed (stepped (step.Empty state.entries)) js job.0) h
    ∙ sym (map-changed brief_job (empty_at state.entries) (stepped (step.Empty state.entries)) (λ (j : Job). refl) state.jobs job.0)
jobs-follow state (entry.Cleaned job) notes h =
    ap (λ js. changed (stepped step.Cleaned) js job.0) h
    ∙ sym (map-changed brief_job cleaned (stepped step.Cleaned) (λ (j : Job). refl) state.jobs job.0)
jobs-follow state (entry.Failed job cause) notes h =
    ap (λ js. changed (stepped (step.Failed state.entries)) js job.0) h
    ∙ sym (map-changed brief_job (failed_at state.entries cause) (stepped (step.Failed state.entries))
    (λ (j : Job). ap (λ b. record (brief_job j) { is_failed = b; ended = first_of j.ended state.entries }) (once j.failure cause)) state.jobs job.0)
jobs-follow state (entry.Forgot table write) notes h = h
jobs-follow state (entry.Next txn statement number text) notes h = h
jobs-follow state (entry.Did txn statement wrote) notes h = h
jobs-follow state (entry.Alter txn table) notes h = h

-- ---- what is open

pub differ : (a b : ℕ) → (a ≡ b → ⊥) → (a == b) ≡ false
differ a b apart = by (a == b) refl
  where
    by : (c : Bool) → (a == b) ≡ c → (a == b) ≡ false
    by true e = absurd (apart (eqb-true a b e))
    by false e = e

-- numbers behind this one stay where it is taken out
open-keep : (k m : ℕ) (notes : List TransactionNote) → k < m → filter (other_than k) (open_from m notes) ≡ open_from m notes
open-keep k m [] below = refl
open-keep k m (x ∷ notes) below = by (open-keep k (m + 1) notes (omega arith)) (note_open x)
  where
    apart : (m == k) ≡ false
    apart = differ m k (λ e. absurd (omega (arith, e, below)))

    by : filter (other_than k) (open_from (m + 1) notes) ≡ open_from (m + 1) notes
        → (b : Bool) → filter (other_than k) (open_next b m (open_from (m + 1) notes)) ≡ open_next b m (open_from (m + 1) notes)
    by rest true =
        ap (λ c. if (not c) then m ∷ filter (other_than k) (open_from (m + 1) notes) else filter (other_than k) (open_from (m + 1) notes)) apart
        ∙ ap (λ ns. m ∷ ns) rest
    by rest false = rest

open-ended : (f : TransactionNote → TransactionNote) → ((x : TransactionNote) → note_open (f x) ≡ false)
    → (m j : ℕ) (notes : List TransactionNote) → open_from m (changed_at (while_unended f) notes j) ≡ filter (other_than (m + j)) (open_from m notes)
open-ended f ends m j [] = refl
open-ended f ends m zero (x ∷ notes) = by x.ending refl
  where
    rest : filter (other_than (m + 0)) (open_from (m + 1) notes) ≡ open_from (m + 1) notes
    rest = open-keep (m + 0) (m + 1) notes (omega arith)

    same : (m == m + 0) ≡ true
    same = eq-eqb m (m + 0) (omega arith)

    by : (e : Option End) → x.ending ≡ e
        → open_next (note_open (unended e x (f x))) m (open_from (m + 1) notes) ≡ filter (other_than (m + 0)) (open_next (is_none e) m (open_from (m + 1) notes))
    by None is =
        ap (λ b. open_next b m (open_from (m + 1) notes)) (ends x) ∙ sym rest
        ∙ ap (λ c. if (not c) then m ∷ filter (other_than (m + 0)) (open_from (m + 1) notes) else filter (other_than (m + 0)) (open_from (m + 1) notes)) (sym same)
    by (Some e) is = ap (λ (o : Option End). open_next (is_none o) m (open_from (m + 1) notes)) is ∙ sym rest
open-ended f ends m (suc j) (x ∷ notes) =
    let at : m + 1 + j ≡ m + suc j = omega arith in
    by (open-ended f ends (m + 1) j notes ∙ ap (λ k. filter (other_than k) (open_from (m + 1) notes)) at) (note_open x)
  where
    apart : (m == m + suc j) ≡ false
    apart = differ m (m + suc j) (λ e. absurd (omega (arith, e)))

    by : open_from (m + 1) (changed_at (while_unended f) notes j) ≡ filter (other_than (m + suc j)) (open_from (m + 1) notes)
        → (b : Bool) → open_next b m (open_from (m + 1) (changed_at (while_unended f) notes j)) ≡ filter (other_than (m + suc j)) (open_next b m (open_from (m + 1) notes))
    by rest true =
        ap (λ ns. m ∷ ns) rest
        ∙ ap (λ c. if (not c) then m ∷ filter (other_than (m + suc j)) (open_from (m + 1) notes) else filter (other_than (m + suc j)) (open_from (m + 1) notes)) (sym apart)
    by rest false = rest

open-ended-numbered : (f : TransactionNote → TransactionNote) → ((x : TransactionNote) → note_open (f x) ≡ false)
    → (notes : List TransactionNote) (n : ℕ) → open_from 1 (changed (while_unended f) notes n) ≡ filter (other_than n) (open_from 1 notes)
open-ended-numbered f ends notes zero = sym (open-keep 0 1 notes (omega arith))
open-ended-numbered f ends notes (suc j) = open-ended f ends 1 j notes ∙ ap (λ k. filter (other_than k) (open_from 1 notes)) (omega arith)

-- a change that ends nothing
open-same_at : (f : TransactionNote → TransactionNote) → ((x : TransactionNote) → note_open (f x) ≡ note_open x)
    → (m n : ℕ) (notes : List TransactionNote) → open_from m (changed_at f notes n) ≡ open_from m notes
open-same_at f same m n [] = refl
open-same_at f same m zero (x ∷ notes) = ap (λ b. open_next b m (open_from (m + 1) notes)) (same x)
open-same_at f same m (suc n) (x ∷ notes) = ap (open_next (note_open x) m) (open-same_at f same (m + 1) n notes)

open-same : (f : TransactionNote → TransactionNote) → ((x : TransactionNote) → note_open (f x) ≡ note_open x)
    → (notes : List TransactionNote) (n : ℕ) → open_from 1 (changed f notes n) ≡ open_from 1 notes
open-same f same notes zero = refl
open-same f same notes (suc n) = open-same_at f same 1 n notes

start-same : (place : ℕ) (x : TransactionNote) → note_open (while_unended (started_at place) x) ≡ note_open x
start-same place x = by x.ending refl
  where
    by : (e : Option End) → x.ending ≡ e → note_open (unended e x (started_at place x)) ≡ note_open x
    by None is = refl
    by (Some e) is = refl

open-more : (m : ℕ) (notes : List TransactionNote) → open_from m (notes ++ record { started = None; ending = None } ∷ []) ≡ open_from m notes ++ (m + length notes) ∷ []
open-more m [] = let at : m ≡ m + 0 = omega arith in ap (λ k. k ∷ []) at
open-more m (x ∷ notes) =
    let at : m + 1 + length notes ≡ m + suc (length notes) = omega arith in
    by (open-more (m + 1) notes ∙ ap (λ k. open_from (m + 1) notes ++ k ∷ []) at) (note_open x)
  where
    by : open_from (m + 1) (notes ++ record { started = None; ending = None } ∷ []) ≡ open_from (m + 1) notes ++ (m + suc (length notes)) ∷ []
        → (b : Bool) → open_next b m (open_from (m + 1) (notes ++ record { started = None; ending = None } ∷ [])) ≡ open_next b m (open_from (m + 1) notes) ++ (m + suc (length notes)) ∷ []
    by rest true = ap (λ ns. m ∷ ns) rest
    by rest false = rest

abbrev pub OpenFollows : Notes → Type 0
OpenFollows notes = notes.ongoing ≡ open_from 1 notes.transactions

end-follows : (place : ℕ) (committed : Bool) (txn : ℕ) (notes : Notes) → OpenFollows notes → OpenFollows (ending place committed txn notes)
unfolding ending end_note
end-follows place committed txn notes h =
    ap (filter (other_than txn)) h ∙ sym (open-ended-numbered (ended_at place committed) (λ x. refl) notes.transactions txn)

pub open-follows : (place : ℕ) (event : Entry) (notes : Notes) → OpenFollows notes → OpenFollows (noted place event notes)
unfolding start_note
open-follows place (entry.Boot run) notes h = h
open-follows place (entry.Opened txn session number text) notes h =
    let at : length notes.transactions + 1 ≡ 1 + length notes.transactions = omega arith in
    ap (λ ns. ns ++ (length notes.transactions + 1) ∷ []) h ∙ ap (λ k. open_from 1 notes.transactions ++ k ∷ []) at ∙ sym (open-more 1 notes.transactions)
open-follows place (entry.Start txn statement) notes h =
    h ∙ sym (open-same (while_unended (started_at place)) (start-same place) notes.transactions txn.0)
open-follows place (entry.Given txn table write) notes h = h
open-follows place (entry.Commit txn wrote) notes h = end-follows place true txn.0 notes h
open-follows place (entry.Abort txn cause) notes h = end-follows place false txn.0 notes h
open-follows place (entry.Create txn table) notes h = end-follows place true txn.0 notes h
open-follows place (entry.Drop txn table) notes h = end-follows place true txn.0 notes h
open-follows place (entry.Asked job table partition kind by) notes h = h
open-follows place (entry.Picked job watermark) notes h = h
open-follows place (entry.Published job low high mark) notes h = h
open-follows place (entry.Empty job) notes h = h
open-follows place (entry.Cleaned job) notes h = h
open-follows place (entry.Next txn statement number text) notes h = h
open-follows place (entry.Did txn statement wrote) notes h = h
open-follows place (entry.Alter txn table) notes h = h
open-follows place (entry.Failed job cause) notes h = h
open-follows place (entry.Forgot table write) notes h = h
