-- An entry that fits and is true leaves the book legal, its files standing, and what its trail's marks say.
use Rattle.std.proofs.Common.{◌≡◌, ◌⊎◌, inl, inr, ◌+◌, ◌<◌, Some, None, List, [], ◌∷◌, ◌++◌, length, fold, refl, sym, subst, arith}
use Rattle.hv_base.specs.declared.ids.JobId.{JobId}
use Rattle.hv_base.specs.declared.ids.TxnId.{TxnId}
use Rattle.hv_shelf.specs.Disk.{Store}
use Rattle.hv_dirs.specs.Names.{write_end}
use Rattle.hv_history.specs.declared.entry.Entry.{Entry}
use Rattle.hv_history.specs.declared.entry.Entry.TheVariants as entry
use Rattle.hv_history.specs.State.{State, Job, nothing_yet, numbered, after, state_of}
use Rattle.hv_history.specs.Legal.{Fits, IsTruthful, AllTruthful, IsLegal, profile}
use Rattle.hv_house.specs.hv_finals.specs.hv_law_made.specs.Standing.{Standing}
use Rattle.hv_house.specs.hv_finals.specs.hv_law_made.specs.Laws.{IsFiledFor}
use Rattle.hv_house.specs.hv_finals.specs.hv_law_made.proofs.BookLemmas.{books-are-sound}
use Rattle.hv_stands.specs.Running.{HasPut}
use Rattle.hv_stands.specs.Statements.{AllFitting}
use Rattle.hv_stands.proofs.Fitting.{fitting-room, more-fits as fit-next}
use Rattle.hv_law_work.specs.hv_law_marks.specs.hv_law_filed.proofs.QuietEntries.{stands-behind, quiet-entries-stand, other-entries-stand}
use Rattle.hv_law_work.specs.hv_law_marks.specs.hv_law_filed.proofs.Commits.{commits-stand}
use Rattle.hv_house.specs.hv_law_read.specs.hv_law_whole.proofs.CoveredLemmas.{covered-are-listed}
use Rattle.hv_trail.specs.declared.trail.Reader.TheVariants.{Txn}
use Rattle.hv_trail.specs.declared.trail.TrailItem.{TrailItem}
use Rattle.hv_trail.specs.declared.trail.TrailItem.TheVariants.{Noted}
use Rattle.hv_trail.specs.Trail.{book_of, broken}
use Rattle.hv_trail.specs.Kept.{trail_of}
use Rattle.hv_trail.proofs.LastingLaws.{book-append}
use Rattle.hv_law_work.specs.hv_law_marks.proofs.Standing.{noted-marks-stand, changes-are-open, marks-give-files}
use Rattle.hv_law_work.specs.Laws.{SaysCovered}
use Rattle.hv_law_work.proofs.Puts.{gone-is-filed}
use Rattle.hv_law_work.proofs.JobMarks.{noted-job-marks}
use Rattle.hv_house.specs.declared.house.House.{House}
use Rattle.hv_house.specs.House.{IsFaithful}
use Rattle.hv_house.specs.Steps.{IsMarked}
use Rattle.hv_telling.proofs.Few.{few-entries, is-short}
use Rattle.hv_telling.specs.Telling.{StandsByMarks, HasNoId, IsPutAsMeant, IsTrueNow}

-- ---- a legal book and one entry more

truthful-next : (book : List Entry) (s : State) (event : Entry) → AllTruthful s book → IsTruthful (fold after s book) event
    → AllTruthful s (book ++ event ∷ [])
truthful-next [] s event truthful says = (says, tt)
truthful-next (first ∷ book) s event truthful says = (truthful.0, truthful-next book (after s first) event truthful.1 says)

pub legal-next : (book : List Entry) (event : Entry) → IsLegal profile book → Fits profile (state_of book) event → IsTruthful (state_of book) event
    → IsLegal profile (book ++ event ∷ [])
legal-next book event legal fits says = record {
  fit = fit-next profile book nothing_yet event legal.fit fits;
  truthful = truthful-next book nothing_yet event legal.truthful says;
}

-- ---- one that is true now

pub true-says : (book : List Entry) (trail : List TrailItem) (event : Entry) → IsTrueNow book trail event → IsTruthful (state_of book) event
true-says book trail (entry.Commit txn wrote) truly = truly.0
true-says book trail (entry.Create txn table) truly = truly.0
true-says book trail (entry.Drop txn table) truly = truly.0
true-says book trail (entry.Published job low high mark) truly = absurd truly
true-says book trail (entry.Cleaned job) truly = tt
true-says book trail (entry.Forgot table write) truly = absurd truly
true-says book trail event truly = truly

-- no call on files failed for one that commits
abbrev pub IsUnbroken : List TrailItem → Entry → Type 0
IsUnbroken trail (entry.Commit txn wrote) = broken (Txn txn) trail ≡ None
IsUnbroken trail event = Unit {0}

pub marked-unbroken : {D : Type 0} (house : House D) (event : Entry) → IsMarked house event → IsUnbroken (trail_of house.trail) event
marked-unbroken house (entry.Commit txn wrote) marked = marked.unbroken
marked-unbroken house event marked = tt

-- there is room for it
pub near-end : (book : List Entry) (event : Entry) → AllFitting book → Fits profile (state_of book) event → length book + 1 < write_end
near-end book event fit fits = omega (arith, fitting-room book event fit fits)

module _ (trail : List TrailItem) (store : Store) (fit : AllFitting (book_of trail)) (true_ : StandsByMarks trail (book_of trail) store) where
  abbrev book : List Entry
  book = book_of trail

  -- the files of a change that was put as it is meant
  put-files : (txn : TxnId) → length book < write_end → broken (Txn txn) trail ≡ None → (put : IsPutAsMeant book trail txn)
      → HasPut store.tree put.info put.write put.effect
  put-files txn near unbroken put =
      marks-give-files profile trail store.tree txn.0 put.info put.effect put.write (record { fit = fit; few = near }) true_.marks
      (record {
        changing = changes-are-open book put.asking txn.0 put.place put.said put.info put.effect put.write put.under_way put.means;
        unbroken = unbroken;
        marks = put.files;
      })
      put.encoded put.held

  -- what a job covers is said by commits
  says-covered : (which : Job) (job : JobId) → numbered (state_of book).jobs job.0 ≡ Some which → SaysCovered (state_of book) which
  says-covered which job is table table_is name among covered =
      covered-are-listed book job.0 which table name fit true_.faithful.legal.truthful is table_is among covered

  event-stands : (event : Entry) → Fits profile (state_of book) event → IsUnbroken trail event → IsTrueNow book trail event
      → Standing (state_of (book ++ event ∷ [])) store.tree
  event-stands (entry.Commit txn wrote) fits unbroken truly = by truly.1
    where
      near : length book + 1 < write_end
      near = near-end book (entry.Commit txn wrote) fit fits

      by : HasNoId book txn ⊎ IsPutAsMeant book trail txn → Standing (state_of (book ++ entry.Commit txn wrote ∷ [])) store.tree
      by (inl none) =
          quiet-entries-stand book none.asking txn.0 none.place none.said [] (entry.Commit txn wrote) store.tree fit fits none.under_way (refl, refl)
          true_.faithful.stands
      by (inr put) =
          commits-stand book put.asking txn.0 put.place put.said put.info put.effect put.write wrote store.tree fit (omega (arith, near)) fits put.under_way
          put.means (put-files txn (omega (arith, near)) unbroken put) true_.faithful.stands
  event-stands (entry.Create txn table) fits unbroken truly =
      let none : HasNoId book txn = truly.1 in
      quiet-entries-stand book none.asking txn.0 none.place none.said [] (entry.Create txn table) store.tree fit fits none.under_way (refl, refl)
      true_.faithful.stands
  event-stands (entry.Drop txn table) fits unbroken truly =
      let none : HasNoId book txn = truly.1 in
      quiet-entries-stand book none.asking txn.0 none.place none.said [] (entry.Drop txn table) store.tree fit fits none.under_way (refl, refl)
      true_.faithful.stands
  event-stands (entry.Published job low high mark) fits unbroken truly = absurd truly
  event-stands (entry.Cleaned job) fits unbroken truly =
      stands-behind book (entry.Cleaned job) store.tree fit fits
      (gone-is-filed trail store.tree job truly.which
      (few-entries book fit)
      (books-are-sound profile book fit) truly.is truly.live (says-covered truly.which job truly.is) truly.gone true_.faithful.stands true_.jobs)
      true_.faithful.stands
  event-stands (entry.Forgot table write) fits unbroken truly = absurd truly
  event-stands event fits unbroken truly = other-entries-stand book event store.tree fit fits tt true_.faithful.stands

  -- with an entry behind which the files stand it is so
  stood-true : (event : Entry) → Fits profile (state_of book) event → IsTruthful (state_of book) event
      → Standing (state_of (book ++ event ∷ [])) store.tree → StandsByMarks (trail ++ Noted event ∷ []) (book_of (trail ++ Noted event ∷ [])) store
  stood-true event fits says stands = record {
    faithful = subst (λ (entries : List Entry). IsFaithful entries store) (sym (book-append trail (Noted event ∷ []))) (record {
      stands = stands;
      legal = legal-next book event true_.faithful.legal fits says;
    });
    marks = noted-marks-stand profile trail event store.tree fit (near-end book event fit fits) fits true_.faithful.stands true_.marks;
    jobs = noted-job-marks profile trail event store.tree (is-short trail fit) fits true_.faithful.stands true_.jobs;
  }

  -- it stands behind the entry too
  pub noted-true : (event : Entry) → Fits profile (state_of book) event → IsUnbroken trail event → IsTrueNow book trail event
      → StandsByMarks (trail ++ Noted event ∷ []) (book_of (trail ++ Noted event ∷ [])) store
  noted-true event fits unbroken truly =
      stood-true event fits (true-says book trail event truly) (event-stands event fits unbroken truly)

  -- and behind one for which the files are so
  pub filed-true : (event : Entry) → Fits profile (state_of book) event → IsTruthful (state_of book) event → IsFiledFor event (state_of book) store.tree
      → StandsByMarks (trail ++ Noted event ∷ []) (book_of (trail ++ Noted event ∷ [])) store
  filed-true event fits says filed =
      stood-true event fits says (stands-behind book event store.tree fit fits filed true_.faithful.stands)
