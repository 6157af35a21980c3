-- What was published before a transaction was opened is so at its snapshot, too: its mark is the number of the transaction that came next.
use Rattle.std.proofs.Common.{refl, ◌≡◌, ◌⊎◌, inl, inr, ℕ, zero, suc, ◌+◌, ◌<◌, ◌≤◌, Option, Some, None, List, [], ◌∷◌, ◌++◌, length, take, sym, ap, ◌∙◌, subst, arith, append_assoc}
use Rattle.std.proofs.Math.Seq.{take-append_seam}
use Rattle.std.proofs.lemmas.List.{append-nil, take-append-le}
use Rattle.hv_base.specs.declared.ids.Limits.{Limits}
use Rattle.hv_history.specs.declared.entry.Entry.{Entry}
use Rattle.hv_history.specs.declared.entry.Entry.TheVariants as entry
use Rattle.hv_history.specs.declared.state.Snapshot.{Snapshot}
use Rattle.hv_history.specs.declared.state.Transaction.{Transaction}
use Rattle.hv_history.specs.State.{State, Job, numbered, changed, first_of, asked_job, picked, published_at, empty_at, failed_at, cleaned, acted, after, state_of}
use Rattle.hv_history.specs.JobsFit.{PublishedFits}
use Rattle.hv_history.specs.Legal.{Fits, AllFit}
use Rattle.hv_law_directories.specs.hv_stands.proofs.Numbers.{one_value, found, numbered-or-last}
use Rattle.hv_law_directories.specs.hv_stands.proofs.Behind.{one-behind, entries-are, one-longer}
use Rattle.hv_law_jobs.proofs.OrderLemmas.{number-there}
use Rattle.hv_law_directories.specs.hv_law_partitions.proofs.StoodLemmas.{changed-from}
use Rattle.hv_law_whole.proofs.OnceLemmas.{Takes, takes-of}

-- ---- what an entry publishes

-- the job of that number is published with that range
abbrev pub WasPublished : State → ℕ → ℕ × ℕ × ℕ → Type 0
WasPublished s k range = (job : Job) × (numbered s.jobs k ≡ Some job) × (job.published ≡ Some range)

-- it was so before, or its mark is the number of the next transaction
abbrev pub Publishes : State → Entry → Type 0
Publishes s event =
    (k : ℕ) (range : ℕ × ℕ × ℕ) → WasPublished (after s event) k range
    → WasPublished s k range ⊎ ((range.2 ≡ length s.transactions + 1) × ((after s event).transactions ≡ s.transactions))

publishes-none : (s : State) (event : Entry) → (after s event).jobs ≡ s.jobs → Publishes s event
publishes-none s event same k range is = inl (is.0, ap (λ js. numbered js k) (sym same) ∙ is.1, is.2)

publishes-changed : (s : State) (event : Entry) (f : Job → Job) (number : ℕ) → ((job : Job) → (f job).published ≡ job.published)
    → (after s event).jobs ≡ changed f s.jobs number → Publishes s event
publishes-changed s event f number same jobs k range is =
    let was = changed-from f s.jobs number k is.0 (ap (λ js. numbered js k) (sym jobs) ∙ is.1) in
    inl (
      was.0,
      was.1,
      elim was.2 [
        | inl kept ↦ ap (λ (job : Job). job.published) (sym kept) ∙ is.2
        | inr new ↦ sym (same was.0) ∙ ap (λ (job : Job). job.published) (sym new.1) ∙ is.2
      ],
    )

publishes-asked : (s : State) (event : Entry) (job : Job) → job.published ≡ None → (after s event).jobs ≡ s.jobs ++ job ∷ [] → Publishes s event
publishes-asked s event job none jobs k range is = elim (numbered-or-last s.jobs job k is.0 (ap (λ js. numbered js k) (sym jobs) ∙ is.1)) [
  | inl old ↦ inl (is.0, old, is.2)
  | inr new ↦ absurd (never (sym none ∙ ap (λ (j : Job). j.published) (sym new.1) ∙ is.2))
]
  where
    never : None ≡ Some range → ⊥
    never e = cc

-- a range that a job has stays, and else it gets the new one
first-range : (o : Option (ℕ × ℕ × ℕ)) (next range : ℕ × ℕ × ℕ) → first_of o next ≡ Some range → (o ≡ Some range) ⊎ (next ≡ range)
first-range None next range e = inr (one_value next range e)
first-range (Some old) next range e = inl e

publishes-one : (s : State) (event : Entry) (number : ℕ) (next : ℕ × ℕ × ℕ) → next.2 ≡ length s.transactions + 1 → (after s event).transactions ≡ s.transactions
    → (after s event).jobs ≡ changed (published_at s.entries next) s.jobs number → Publishes s event
publishes-one s event number next mark same jobs k range is =
    let was = changed-from (published_at s.entries next) s.jobs number k is.0 (ap (λ js. numbered js k) (sym jobs) ∙ is.1) in
    elim was.2 [
      | inl kept ↦ inl (was.0, was.1, ap (λ (job : Job). job.published) (sym kept) ∙ is.2)
      | inr new ↦ elim (first-range was.0.published next range (ap (λ (job : Job). job.published) (sym new.1) ∙ is.2)) [
        | inl old ↦ inl (was.0, was.1, old)
        | inr now ↦ inr (ap (λ (r : ℕ × ℕ × ℕ). r.2) (sym now) ∙ mark, same)
      ]
    ]

pub publishes-of : (limits : Limits) (s : State) (event : Entry) → Fits limits s event → Publishes s event
unfolding acted
publishes-of limits s (entry.Asked job table partition kind by) fits =
    publishes-asked s (entry.Asked job table partition kind by) (asked_job s.entries table.0 partition kind by) refl refl
publishes-of limits s (entry.Published job low high mark) fits =
    let here = found (PublishedFits s low.0 high.0 mark.0) (numbered s.jobs job.0) fits in
    publishes-one s (entry.Published job low high mark) job.0 (low.0, high.0, mark.0) here.2.mark_is refl refl
publishes-of limits s (entry.Picked job mark) fits = publishes-changed s (entry.Picked job mark) (picked mark.0) job.0 (λ j. refl) refl
publishes-of limits s (entry.Empty job) fits = publishes-changed s (entry.Empty job) (empty_at s.entries) job.0 (λ j. refl) refl
publishes-of limits s (entry.Cleaned job) fits = publishes-changed s (entry.Cleaned job) cleaned job.0 (λ j. refl) refl
publishes-of limits s (entry.Failed job cause) fits = publishes-changed s (entry.Failed job cause) (failed_at s.entries cause) job.0 (λ j. refl) refl
publishes-of limits s (entry.Boot run) fits = publishes-none s (entry.Boot run) refl
publishes-of limits s (entry.Opened txn session number text) fits = publishes-none s (entry.Opened txn session number text) refl
publishes-of limits s (entry.Start txn statement) fits = publishes-none s (entry.Start txn statement) refl
publishes-of limits s (entry.Given txn table write) fits = publishes-none s (entry.Given txn table write) refl
publishes-of limits s (entry.Commit txn wrote) fits = publishes-none s (entry.Commit txn wrote) refl
publishes-of limits s (entry.Abort txn cause) fits = publishes-none s (entry.Abort txn cause) refl
publishes-of limits s (entry.Create txn table) fits = publishes-none s (entry.Create txn table) refl
publishes-of limits s (entry.Drop txn table) fits = publishes-none s (entry.Drop txn table) refl
publishes-of limits s (entry.Forgot table write) fits = publishes-none s (entry.Forgot table write) refl
publishes-of limits s (entry.Next txn statement number text) fits = absurd fits
publishes-of limits s (entry.Did txn statement wrote) fits = absurd fits
publishes-of limits s (entry.Alter txn table) fits = absurd fits

-- ---- at each snapshot

pub record IsSeen (book : List Entry) : Type 0 where
  pub placed : (txn : ℕ) (t : Transaction) (snapshot : Snapshot) → numbered (state_of book).transactions txn ≡ Some t → t.snapshot ≡ Some snapshot
      → snapshot.place < length book
  pub was : (txn : ℕ) (t : Transaction) (snapshot : Snapshot) → numbered (state_of book).transactions txn ≡ Some t → t.snapshot ≡ Some snapshot
      → (k : ℕ) (range : ℕ × ℕ × ℕ) → WasPublished (state_of book) k range → range.2 ≤ txn → WasPublished (state_of (take snapshot.place book)) k range

module _ (book : List Entry) (event : Entry) (seen : IsSeen book) (takes : Takes (state_of book) event) (publishes : Publishes (state_of book) event) where
  abbrev s : State
  s = state_of book

  abbrev longer : List Entry
  longer = book ++ event ∷ []

  next-placed : (txn : ℕ) (t : Transaction) (snapshot : Snapshot) → numbered (after s event).transactions txn ≡ Some t → t.snapshot ≡ Some snapshot
      → snapshot.place < length longer
  next-placed txn t snapshot at taken =
      let more = one-longer book event in
      elim (takes txn t snapshot at taken) [
        | inl old ↦ (let below = seen.placed txn old.0 snapshot old.1 old.2 in omega (arith, below, more))
        | inr new ↦
            (let same : snapshot.place ≡ s.entries = ap (λ (sn : Snapshot). sn.place) new.0 in
            let entries = entries-are book in
            omega (arith, same, entries, more))
      ]

  -- at a place of the book the longer one is the same
  place-same : (place : ℕ) → place ≤ length book → state_of (take place longer) ≡ state_of (take place book)
  place-same place within = ap (λ (b : List Entry). state_of b) (take-append-le place book (event ∷ []) within)

  seen-at : (txn : ℕ) (t : Transaction) (snapshot : Snapshot) → numbered (after s event).transactions txn ≡ Some t → t.snapshot ≡ Some snapshot
      → (k : ℕ) (range : ℕ × ℕ × ℕ) → WasPublished s k range → range.2 ≤ txn → WasPublished (state_of (take snapshot.place longer)) k range
  seen-at txn t snapshot at taken k range is low = elim (takes txn t snapshot at taken) [
    | inl old ↦
        let below = seen.placed txn old.0 snapshot old.1 old.2 in
        let same = place-same snapshot.place (omega (arith, below)) in
        subst (λ (state : State). WasPublished state k range) (sym same) (seen.was txn old.0 snapshot old.1 old.2 k range is low)
    | inr new ↦
        let place : snapshot.place ≡ length book = ap (λ (sn : Snapshot). sn.place) new.0 ∙ entries-are book in
        let whole : state_of (take snapshot.place longer) ≡ s =
        ap (λ n. state_of (take n longer)) place ∙ ap (λ (b : List Entry). state_of b) (take-append_seam book (event ∷ []))
        in
        subst (λ (state : State). WasPublished state k range) (sym whole) is
  ]

  next-was : (txn : ℕ) (t : Transaction) (snapshot : Snapshot) → numbered (after s event).transactions txn ≡ Some t → t.snapshot ≡ Some snapshot
      → (k : ℕ) (range : ℕ × ℕ × ℕ) → WasPublished (after s event) k range → range.2 ≤ txn → WasPublished (state_of (take snapshot.place longer)) k range
  next-was txn t snapshot at taken k range is low = elim (publishes k range is) [
    | inl old ↦ seen-at txn t snapshot at taken k range old low
    | inr new ↦ absurd (
        let there = number-there s.transactions txn t (ap (λ ts. numbered ts txn) (sym new.1) ∙ at) in
        let most = there.1 in
        let mark = new.0 in
        omega (arith, most, mark, low)
        )
  ]

  pub seen-next : IsSeen longer
  seen-next = record {
    placed = λ txn t snapshot at taken. next-placed txn t snapshot (ap (λ (state : State). numbered state.transactions txn) (sym (one-behind book event)) ∙ at) taken;
    was = λ txn t snapshot at taken k range is low.
        next-was txn t snapshot (ap (λ (state : State). numbered state.transactions txn) (sym (one-behind book event)) ∙ at) taken k range
        (subst (λ (state : State). WasPublished state k range) (one-behind book event) is) low;
  }

-- ---- books

seen-all : (limits : Limits) (book more : List Entry) → AllFit limits (state_of book) more → IsSeen book → IsSeen (book ++ more)
seen-all limits book [] fit seen = subst IsSeen (sym (append-nil book)) seen
seen-all limits book (event ∷ more) fit seen =
    let longer : List Entry = book ++ event ∷ [] in
    let rest : AllFit limits (state_of longer) more = subst (λ s. AllFit limits s more) (sym (one-behind book event)) fit.1 in
    subst IsSeen (append_assoc book (event ∷ []) more)
    (seen-all limits longer more rest (seen-next book event seen (takes-of limits (state_of book) event fit.0) (publishes-of limits (state_of book) event fit.0)))

nowhere : {A : Type 0} (n : ℕ) (x : A) → numbered {A = A} [] n ≡ Some x → ⊥
nowhere zero x e = cc
nowhere (suc n) x e = cc

pub books-seen : (limits : Limits) (book : List Entry) → AllFit limits (state_of []) book → IsSeen book
books-seen limits book fit =
    seen-all limits [] book fit (record {
      placed = λ txn t snapshot at taken. absurd (nowhere txn t at);
      was = λ txn t snapshot at taken k range is low. absurd (nowhere txn t at);
    })
