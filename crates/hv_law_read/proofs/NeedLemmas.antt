-- What an open transaction needs nobody may take, and it needs it whatever entries come.
use Rattle.std.proofs.Common.{refl, ◌≡◌, ◌⊎◌, inl, inr, ℕ, zero, suc, ◌+◌, ◌<◌, ◌≤◌, ◌==◌, ◌&&◌, nat_eq, Bool, true, false, IsSome, Option, Some, None, List, [], ◌∷◌, ◌++◌, fold, length, sym, ap, ◌∙◌, subst, arith, leb-true, le-leb, true≢false}
use Rattle.std.specs.Cmp.Lexicographic.{pointwise}
use Rattle.std.specs.List.{list_any}
use Rattle.std.proofs.lemmas.Bool.{and_parts, and_from, false_from_ne_true}
use Rattle.std.proofs.lemmas.List.{length-append}
use Rattle.std.proofs.lemmas.List.Sums.{fold-append}
use Rattle.hv_shelf.specs.declared.place.Place.{Place}
use Rattle.hv_rowfile.specs.declared.record.Rec.{Rec}
use Rattle.hv_dirs.specs.declared.names.DirName.{DirName}
use Rattle.hv_dirs.specs.Names.{text_of, write_end}
use Rattle.hv_dirs.proofs.NameLemmas as texts
use Rattle.hv_history.specs.declared.entry.Entry.{Entry}
use Rattle.hv_history.specs.declared.state.Table.{Table}
use Rattle.hv_history.specs.declared.state.Transaction.{Transaction}
use Rattle.hv_history.specs.State.{State, Job, numbered, after, nothing_yet, state_of}
use Rattle.hv_history.specs.Legal.{profile, is_open, Fits, AllFit}
use Rattle.hv_history.specs.Jobs.{is_job_of, is_past_by, is_past}
use Rattle.hv_history.proofs.LastingLaws.{goes-on}
use Rattle.hv_stands.proofs.Numbers.{none_is, same_one, found, numbered-within}
use Rattle.hv_stands.proofs.Soundness.{all-numbered}
use Rattle.hv_stands.proofs.Behind.{entries-are}
use Rattle.hv_jobs.specs.Covers.{covers_by, covers, frees}
use Rattle.hv_law_jobs.specs.Lasting.{JobLater}
use Rattle.hv_law_jobs.proofs.LastLemmas.{jobs-last}
use Rattle.hv_law_jobs.proofs.GrowLemmas.{opened-stays}
use Rattle.hv_law_whole.specs.hv_law_made.specs.Made.{names_in, made_recs, is_named, is_spare, jobs_at}
use Rattle.hv_law_whole.specs.hv_law_made.specs.Named.{HasNames, AllHaveNames}
use Rattle.hv_law_whole.specs.hv_law_made.specs.Laws.{AsksAt, ChangesAt}
use Rattle.hv_law_whole.specs.hv_law_made.specs.Entries.{IsSoundBook}
use Rattle.hv_law_whole.specs.hv_law_made.proofs.NamedLemmas.{same-text, text-same, file-from, recs-are, spare-by}
use Rattle.hv_law_whole.specs.hv_law_made.proofs.UnmadeLemmas.{names-here}
use Rattle.hv_law_whole.specs.hv_law_made.proofs.PastLemmas as past
use Rattle.hv_law_whole.specs.hv_law_made.proofs.GrowLemmas.{recs-nowhere}
use Rattle.hv_law_whole.specs.hv_law_made.proofs.StepLemmas.{numbered-in}
use Rattle.hv_law_whole.specs.hv_law_made.proofs.PublishStands.{numbered-at}
use Rattle.hv_law_whole.specs.hv_law_made.proofs.NameBounds.{all-named}
use Rattle.hv_law_whole.specs.hv_law_made.proofs.BookLemmas.{books-go-on, books-are-sound}
use Rattle.hv_law_whole.specs.hv_law_made.proofs.EntryChanges.{entries-change}
use Rattle.hv_law_visible.specs.Members.{IsIn}
use Rattle.hv_law_visible.proofs.MemberLemmas.{in-filter, from-filter, any-in, in-any}
use Rattle.hv_law_whole.proofs.SeenLemmas.{WasPublished, publishes-of}
use Rattle.hv_law_read.specs.Needs.{is_marked_by, replaces, is_replaced, is_needless_in, is_needless, IsNeededBy, NeededIsntSpare, NeededStands, NeedsLast}

-- ---- by the name of the place's directory, and the job that replaces it

module _ (state : State) (txn : ℕ) (place : Place) (table : Table) (here : numbered state.tables place.table.0 ≡ Some table) where
  pub needless-of : (name : DirName) → IsIn name (names_in table.writes (jobs_at state place)) → place.dir ≡ text_of name → (job : Job) → IsIn job (jobs_at state place)
      → is_marked_by txn job.published ≡ true → covers job name ≡ true → is_needless state txn place ≡ true
  unfolding is_needless
  needless-of name among dir_is job at marked covered =
      ap (is_needless_in state txn place) here
      ∙ any-in (is_replaced txn (jobs_at state place) place.dir) name (names_in table.writes (jobs_at state place)) among
      (and_from (is_named place.dir name) (list_any (replaces txn name) (jobs_at state place)) (text-same (text_of name) place.dir (sym dir_is))
      (any-in (replaces txn name) job (jobs_at state place) at (and_from (is_marked_by txn job.published) (covers job name) marked covered)))

  pub record IsNeedlessBy : Type 0 where
    pub name : DirName
    pub among : IsIn name (names_in table.writes (jobs_at state place))
    pub dir_is : place.dir ≡ text_of name
    pub job : Job
    pub at : IsIn job (jobs_at state place)
    pub marked : is_marked_by txn job.published ≡ true
    pub covered : covers job name ≡ true

  pub needless-by : is_needless state txn place ≡ true → IsNeedlessBy
  unfolding is_needless
  needless-by e =
      let found = in-any (is_replaced txn (jobs_at state place) place.dir) (names_in table.writes (jobs_at state place))
      (sym (ap (is_needless_in state txn place) here) ∙ e) in
      let both = and_parts (is_named place.dir found.0) (list_any (replaces txn found.0) (jobs_at state place)) found.2 in
      let taker = in-any (replaces txn found.0) (jobs_at state place) both.1 in
      let marks = and_parts (is_marked_by txn taker.0.published) (covers taker.0 found.0) taker.2 in
      record {
        name = found.0;
        among = found.1;
        dir_is = sym (same-text (text_of found.0) place.dir both.0);
        job = taker.0;
        at = taker.1;
        marked = marks.0;
        covered = marks.1;
      }

-- ---- nobody may take it

-- what is past has a mark that is at most the number of each one that is open
past-marked : (state : State) (txn : ℕ) (transaction : Transaction) → numbered state.transactions txn ≡ Some transaction → is_open transaction ≡ true
    → (o : Option (ℕ × ℕ × ℕ)) → is_past_by state o ≡ true → is_marked_by txn o ≡ true
past-marked state zero transaction here unended o e = cc
past-marked state (suc k) transaction here unended None e = absurd (true≢false (sym e))
past-marked state (suc k) transaction here unended (Some range) e =
    let most = past.above range.2 1 state.transactions e k (ap past.is_open_one here ∙ unended) in
    le-leb range.2 (suc k) (omega (arith, most))

-- so what is spare an open one doesn't read
pub spare-needless : (state : State) (txn : ℕ) (transaction : Transaction) (place : Place) (table : Table) → numbered state.transactions txn ≡ Some transaction
    → is_open transaction ≡ true → numbered state.tables place.table.0 ≡ Some table → is_spare state place ≡ true → is_needless state txn place ≡ true
spare-needless state txn transaction place table here unended is e =
    let spare = spare-by state place table is e in
    let freeing = in-any (frees state spare.name) (jobs_at state place) spare.freed in
    let both = and_parts (is_past state freeing.0) (covers freeing.0 spare.name) freeing.2 in
    needless-of state txn place table is spare.name spare.among spare.dir_is freeing.0 freeing.1
    (past-marked state txn transaction here unended freeing.0.published both.0) both.1

pub needed-isnt-spare : NeededIsntSpare
needed-isnt-spare state txn transaction place deletes recs here unended needed =
    false_from_ne_true (is_spare state place) (λ e. by (numbered state.tables place.table.0) refl e)
  where
    by : (o : Option Table) → numbered state.tables place.table.0 ≡ o → is_spare state place ≡ true → ⊥
    by None none e = none_is (made_recs state place) (deletes, recs) (recs-nowhere state place none) needed.made
    by (Some table) is e = true≢false (sym (spare-needless state txn transaction place table here unended is e) ∙ needed.needed)

pub needed-stands : NeededStands
needed-stands state files txn transaction place deletes recs sound standing here unended live needed =
    standing.made place deletes recs live (needed-isnt-spare state txn transaction place deletes recs here unended needed) needed.made

-- ---- whatever entries come

-- a published job's range, where its mark is at most that
pub marked-range : (txn : ℕ) (o : Option (ℕ × ℕ × ℕ)) → is_marked_by txn o ≡ true → (range : ℕ × ℕ × ℕ) × (o ≡ Some range) × (range.2 ≤ txn)
marked-range txn None e = absurd (true≢false (sym e))
marked-range txn (Some range) e = (range, refl, leb-true range.2 txn e)

module _ (s : State) (event : Entry) (fits : Fits profile s event) (few : s.entries + 1 < write_end) (sound : IsSoundBook s) (txn : ℕ)
    (opened : IsSome (numbered s.transactions txn)) (place : Place) where
  abbrev next : State
  next = after s event

  names-before : AllHaveNames s
  names-before = all-named s (omega (arith, few)) sound

  names-behind : AllHaveNames next
  names-behind = all-named next few (books-go-on profile s event fits sound)

  changes : ChangesAt s next (AsksAt event s)
  changes = entries-change profile s event fits few sound

  within : txn ≤ length s.transactions
  within = by (numbered s.transactions txn) refl opened
    where
      by : (o : Option Transaction) → numbered s.transactions txn ≡ o → IsSome o → txn ≤ length s.transactions
      by None e some = absurd (true≢false (sym some))
      by (Some t) e some = (numbered-within s.transactions txn t e).1

  -- a job that replaces something did so before
  record DidReplace (job : Job) (name : DirName) : Type 0 where
    was : Job
    at : IsIn was (jobs_at s place)
    marked : is_marked_by txn was.published ≡ true
    covered : covers was name ≡ true

  did-replace : (job : Job) (name : DirName) → IsIn job (jobs_at next place) → is_marked_by txn job.published ≡ true → covers job name ≡ true → DidReplace job name
  did-replace job name among marked covered =
      let p = is_job_of place.table.0 place.partition in
      let kept = from-filter p job next.jobs among in
      let at = numbered-at next.jobs job kept.0 in
      let range = marked-range txn job.published marked in
      by at.0 at.1 kept.1 range.0 range.1 range.2 (publishes-of profile s event fits at.0 range.0 (job, at.1, range.1))
    where
      same : (k : ℕ) → numbered next.jobs k ≡ Some job → is_job_of place.table.0 place.partition job ≡ true → (range : ℕ × ℕ × ℕ) → job.published ≡ Some range
          → range.2 ≤ txn → (was : Job) → numbered s.jobs k ≡ Some was → was.published ≡ Some range → JobLater was job → DidReplace job name
      same k at here range done low was is published later =
          let p = is_job_of place.table.0 place.partition in
          let there : p was ≡ true = sym (λ i. (later.table i == place.table.0) && pointwise nat_eq (later.partition i) place.partition) ∙ here in
          let alike : job.published ≡ was.published = done ∙ sym published in
          record {
            was = was;
            at = in-filter p was s.jobs (numbered-in s.jobs k was is) there;
            marked = sym (ap (is_marked_by txn) alike) ∙ marked;
            covered = sym (λ i. covers_by (later.kind i) (alike i) name) ∙ covered;
          }

      by : (k : ℕ) → numbered next.jobs k ≡ Some job → is_job_of place.table.0 place.partition job ≡ true → (range : ℕ × ℕ × ℕ) → job.published ≡ Some range
          → range.2 ≤ txn → WasPublished s k range ⊎ ((range.2 ≡ length s.transactions + 1) × (next.transactions ≡ s.transactions)) → DidReplace job name
      by k at here range done low (inl was) =
          let lasts = found (JobLater was.0) (numbered next.jobs k) (jobs-last s (event ∷ []) k was.0 was.1) in
          let one : lasts.0 ≡ job = same_one (numbered next.jobs k) lasts.0 job lasts.1 at in
          same k at here range done low was.0 was.1 was.2 (subst (JobLater was.0) one lasts.2)
      by k at here range done low (inr new) = let most = within in let mark = new.0 in absurd (omega (arith, most, mark, low))

  module _ (deletes : Bool) (recs : List Rec) (needed : IsNeededBy s txn place deletes recs) where
    made-then : made_recs next place ≡ Some (deletes, recs)
    made-then = changes.stays place (deletes, recs) needed.made

    needless-then : (o : Option Table) → numbered s.tables place.table.0 ≡ o → (n : Option Table) → numbered next.tables place.table.0 ≡ n
        → is_needless next txn place ≡ true → ⊥
    needless-then None was n is e = none_is (made_recs s place) (deletes, recs) (recs-nowhere s place was) needed.made
    needless-then (Some before) was None is e = none_is (made_recs next place) (deletes, recs) (recs-nowhere next place is) made-then
    needless-then (Some before) was (Some table) is e =
        let has = all-numbered (HasNames s) s.tables place.table.0 before was names-before.tables in
        let has_now = all-numbered (HasNames next) next.tables place.table.0 table is names-behind.tables in
        let of = file-from before.info.shape before.writes place (names_in before.writes (jobs_at s place)) (deletes, recs)
        (sym (recs-are s place before was) ∙ needed.made) in
        let it = needless-by next txn place table is e in
        let same : it.name ≡ of.name =
        texts.text-same it.name of.name (names-here next place table is has_now it.name it.among) (names-here s place before was has of.name of.among)
        (sym it.dir_is ∙ of.dir_is) in
        let old = did-replace it.job of.name it.at it.marked (subst (λ (name : DirName). covers it.job name ≡ true) same it.covered) in
        true≢false (sym (needless-of s txn place before was of.name of.among of.dir_is old.was old.at old.marked old.covered) ∙ needed.needed)

    pub needed-next : IsNeededBy next txn place deletes recs
    needed-next = record {
      made = made-then;
      needed = false_from_ne_true (is_needless next txn place)
          (λ e. needless-then (numbered s.tables place.table.0) refl (numbered next.tables place.table.0) refl e);
    }

needs-go : (more : List Entry) (s : State) (txn : ℕ) (place : Place) (deletes : Bool) (recs : List Rec) → AllFit profile s more
    → s.entries + length more < write_end → IsSoundBook s → IsSome (numbered s.transactions txn) → IsNeededBy s txn place deletes recs
    → IsNeededBy (fold after s more) txn place deletes recs
needs-go [] s txn place deletes recs fit few sound opened needed = needed
needs-go (event ∷ more) s txn place deletes recs fit few sound opened needed =
    let all : s.entries + length (event ∷ more) < write_end = few in
    needs-go more (after s event) txn place deletes recs fit.1 (omega (arith, all)) (books-go-on profile s event fit.0 sound)
    (opened-stays s (after s event) (goes-on s event) txn opened)
    (needed-next s event fit.0 (omega (arith, all)) sound txn opened place deletes recs needed)

pub fit-parts : (s : State) (book more : List Entry) → AllFit profile s (book ++ more) → AllFit profile s book × AllFit profile (fold after s book) more
fit-parts s [] more fit = (tt, fit)
fit-parts s (event ∷ book) more fit = let rest = fit-parts (after s event) book more fit.1 in ((fit.0, rest.0), rest.1)

pub needs-last : NeedsLast
needs-last book more txn place deletes recs fit few opened needed =
    let fits = fit-parts nothing_yet book more fit in
    let entries : (state_of book).entries ≡ length book = entries-are book in
    let both : length (book ++ more) ≡ length book + length more = length-append book more in
    subst (λ s. IsNeededBy s txn place deletes recs) (sym (fold-append after nothing_yet book more))
    (needs-go more (state_of book) txn place deletes recs fits.1 (omega (arith, few, entries, both)) (books-are-sound profile book fits.0) opened needed)
