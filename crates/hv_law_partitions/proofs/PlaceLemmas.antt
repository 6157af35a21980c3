-- A snapshot has the tables as they were at its place.
use Rattle.std.proofs.Common.{refl, ◌≡◌, ℕ, zero, suc, ◌<◌, ◌≤◌, Option, Some, None, List, [], ◌∷◌, ◌++◌, length, take, sym, ap, ◌∙◌, subst, arith, append_assoc}
use Rattle.std.specs.List.{AllByRecursion}
use Rattle.std.proofs.lemmas.List.{append-nil}
use Rattle.hv_base.specs.declared.ids.Limits.{Limits}
use Rattle.hv_history.specs.declared.entry.Entry.{Entry}
use Rattle.hv_history.specs.declared.entry.Entry.TheVariants as entry
use Rattle.hv_history.specs.declared.state.Ending.TheVariants.{Aborted, Made, Dropped}
use Rattle.hv_history.specs.declared.state.Snapshot.{Snapshot}
use Rattle.hv_history.specs.declared.state.Transaction.{Transaction}
use Rattle.hv_history.specs.State.{State, numbered, nothing_yet, state_of, first_of, opened, started, given_id, committed, ended, acted, after}
use Rattle.hv_history.specs.Legal.{Fits, AllFit}
use Rattle.hv_stands.proofs.Behind.{one-behind, entries-are, one-longer}
use Rattle.hv_stands.proofs.Keeping.{all-open}
use Rattle.hv_stands.proofs.Soundness.{all-mapped, all-more, all-numbered}
use Rattle.hv_law_partitions.specs.Since.{IsTakenAt, SnapshotsAreOfPlaces}

take-front : {A : Type 0} (n : ℕ) (xs ys : List A) → n ≤ length xs → take n (xs ++ ys) ≡ take n xs
take-front zero xs ys under = refl
take-front (suc n) [] ys under = absurd (omega arith)
take-front (suc n) (x ∷ xs) ys under = ap (λ l. x ∷ l) (take-front n xs ys (omega arith))

take-all : {A : Type 0} (xs : List A) → take (length xs) xs ≡ xs
take-all [] = refl
take-all (x ∷ xs) = ap (λ l. x ∷ l) (take-all xs)

TakenBy : List Entry → Option Snapshot → Type 0
TakenBy book None = Unit {0}
TakenBy book (Some snapshot) = IsTakenAt book snapshot

Taken : List Entry → Transaction → Type 0
Taken book t = TakenBy book t.snapshot

taken-longer : (book : List Entry) (event : Entry) (o : Option Snapshot) → TakenBy book o → TakenBy (book ++ event ∷ []) o
unfolding TakenBy
taken-longer book event None h = tt
taken-longer book event (Some snapshot) h =
    let early : snapshot.place < length book = h.early in
    record {
      early = omega (arith, one-longer book event);
      tables_are = h.tables_are ∙ ap (λ (b : List Entry). (state_of b).tables) (sym (take-front snapshot.place book (event ∷ []) (omega arith)));
    }

-- one that is taken now
taken-now : (book : List Entry) (event : Entry) (o : Option Snapshot) → TakenBy (book ++ event ∷ []) o
    → TakenBy (book ++ event ∷ []) (first_of o (record { place = (state_of book).entries; tables = (state_of book).tables; opened = length (state_of book).transactions }))
unfolding TakenBy
taken-now book event (Some snapshot) h = h
taken-now book event None h = record {
  early = let e = entries-are book in omega (arith, e, one-longer book event);
  tables_are = ap (λ (b : List Entry). (state_of b).tables)
      (sym (ap (λ n. take n (book ++ event ∷ [])) (entries-are book) ∙ take-front (length book) book (event ∷ []) (omega arith) ∙ take-all book));
}

taken-after : (limits : Limits) (book : List Entry) (event : Entry) → Fits limits (state_of book) event → AllByRecursion (Taken book) (state_of book).transactions
    → AllByRecursion (Taken (book ++ event ∷ [])) (after (state_of book) event).transactions
unfolding acted Taken TakenBy
taken-after limits book event fits h =
    by event fits (all-mapped (Taken book) (Taken (book ++ event ∷ [])) (λ t k. taken-longer book event t.snapshot k) (state_of book).transactions h)
  where
    by : (e : Entry) → Fits limits (state_of book) e → AllByRecursion (Taken (book ++ event ∷ [])) (state_of book).transactions
        → AllByRecursion (Taken (book ++ event ∷ [])) (after (state_of book) e).transactions
    by (entry.Boot run) fits k = k
    by (entry.Opened txn session number text) fits k =
        all-more (Taken (book ++ event ∷ [])) (state_of book).transactions (opened session number text) k tt
    by (entry.Start txn statement) fits k =
        all-open (Taken (book ++ event ∷ [])) (started (state_of book) statement) (λ t m. taken-now book event t.snapshot m) (state_of book).transactions txn.0 k
    by (entry.Given txn table write) fits k =
        all-open (Taken (book ++ event ∷ [])) (given_id table.0 write.0) (λ t m. m) (state_of book).transactions txn.0 k
    by (entry.Commit txn wrote) fits k =
        all-open (Taken (book ++ event ∷ [])) (committed (state_of book).entries wrote) (λ t m. m) (state_of book).transactions txn.0 k
    by (entry.Abort txn cause) fits k =
        all-open (Taken (book ++ event ∷ [])) (ended (Aborted (state_of book).entries cause)) (λ t m. m) (state_of book).transactions txn.0 k
    by (entry.Create txn table) fits k =
        all-open (Taken (book ++ event ∷ [])) (ended (Made (state_of book).entries table.0)) (λ t m. m) (state_of book).transactions txn.0 k
    by (entry.Drop txn table) fits k =
        all-open (Taken (book ++ event ∷ [])) (ended (Dropped (state_of book).entries table.0)) (λ t m. m) (state_of book).transactions txn.0 k
    by (entry.Asked job table partition kind who) fits k = k
    by (entry.Picked job mark) fits k = k
    by (entry.Published job low high mark) fits k = k
    by (entry.Empty job) fits k = k
    by (entry.Cleaned job) fits k = k
    by (entry.Failed job cause) fits k = k
    by (entry.Forgot table write) fits k = k
    by other fits k = absurd fits

taken-all : (limits : Limits) (book more : List Entry) → AllFit limits (state_of book) more → AllByRecursion (Taken book) (state_of book).transactions
    → AllByRecursion (Taken (book ++ more)) (state_of (book ++ more)).transactions
taken-all limits book [] fit h = subst (λ b. AllByRecursion (Taken b) (state_of b).transactions) (sym (append-nil book)) h
taken-all limits book (event ∷ more) fit h =
    let longer : List Entry = book ++ event ∷ [] in
    let rest : AllFit limits (state_of longer) more = subst (λ s. AllFit limits s more) (sym (one-behind book event)) fit.1 in
    let all = taken-all limits longer more rest
    (subst (λ (s : State). AllByRecursion (Taken longer) s.transactions) (sym (one-behind book event)) (taken-after limits book event fit.0 h)) in
    subst (λ b. AllByRecursion (Taken b) (state_of b).transactions) (append_assoc book (event ∷ []) more) all

taken-by : (book : List Entry) (o : Option Snapshot) (snapshot : Snapshot) → o ≡ Some snapshot → TakenBy book o → IsTakenAt book snapshot
unfolding TakenBy
taken-by book None snapshot e h = cc
taken-by book (Some other) snapshot e h = subst (TakenBy book) e h

pub snapshots-of-places-so : (limits : Limits) (entries : List Entry) (txn : ℕ) (t : Transaction) (snapshot : Snapshot) → AllFit limits nothing_yet entries
    → numbered (state_of entries).transactions txn ≡ Some t → t.snapshot ≡ Some snapshot → IsTakenAt entries snapshot
unfolding Taken
snapshots-of-places-so limits entries txn t snapshot fit at taken =
    taken-by entries t.snapshot snapshot taken (all-numbered (Taken entries) (state_of entries).transactions txn t at (taken-all limits [] entries fit tt))

pub snapshots-of-places : SnapshotsAreOfPlaces
snapshots-of-places limits entries txn t snapshot fit at taken =
    snapshots-of-places-so limits entries txn t snapshot fit at taken
