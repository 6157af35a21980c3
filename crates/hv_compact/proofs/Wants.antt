-- What a job wants it wants as long as it works, once it was taken up.
use Rattle.std.proofs.Common.{◌≡◌, ◌⊎◌, inl, inr, ◌<◌, ◌+◌, ℕ, Bool, true≢false, Option, Some, List, [], ◌∷◌, ◌++◌, length, fold, refl, sym, ap, ◌∙◌, subst, arith}
use Rattle.std.specs.Prelude.{is_some}
use Rattle.std.proofs.lemmas.List.{length-append}
use Rattle.hv_base.specs.declared.ids.JobId.{JobId}
use Rattle.hv_rowfile.specs.declared.record.Rec.{Rec}
use Rattle.hv_dirs.specs.declared.names.DirName.{DirName}
use Rattle.hv_dirs.specs.Names.{write_end}
use Rattle.hv_history.specs.declared.entry.Entry.{Entry}
use Rattle.hv_history.specs.declared.state.Table.{Table}
use Rattle.hv_history.specs.State.{State, Job, numbered, after, nothing_yet}
use Rattle.hv_history.specs.Legal.{profile, AllFit}
use Rattle.hv_history.specs.Jobs.{pieces_for}
use Rattle.hv_history.specs.Lasting.{IsFront}
use Rattle.hv_stands.proofs.Behind.{entries-are}
use Rattle.hv_law_made.specs.Entries.{IsSoundBook, IsAtWork}
use Rattle.hv_law_made.proofs.BookLemmas.{books-go-on, books-are-sound}
use Rattle.hv_law_visible.specs.Members.{IsIn}
use Rattle.hv_law_work.specs.Laws.{StillWants, IsJustPicked}
use Rattle.hv_law_work.specs.Marks.{WasPicked}
use Rattle.hv_law_work.proofs.Lasting.{picked-stays}
use Rattle.hv_law_work.proofs.Stays.{wants-stay}
use Rattle.hv_trail.specs.declared.trail.TrailItem.{TrailItem}
use Rattle.hv_trail.specs.Trail.{book_of, state_at}
use Rattle.hv_trail.proofs.LastingLaws.{book-append, state-append}
use Rattle.hv_job_acts.specs.hv_acts.specs.Reading.{HasFittingBook}
use Rattle.hv_job_acts.specs.hv_acts.specs.hv_telling.specs.hv_house.specs.hv_law_read.proofs.NeedLemmas.{fit-parts}
use Rattle.hv_compact.specs.Gathering.{Whenever, IsToHave, HasNoFile, MakesOnly, AreDue}

not-just : (s : State) (n : ℕ) → WasPicked s n → IsJustPicked s n → ⊥
not-just s n was just =
    let same : Some was.job ≡ Some just.job = sym was.is ∙ just.is in
    let one : was.job ≡ just.job = cc in
    true≢false (sym was.picked ∙ ap (λ (o : Option ℕ). is_some o) (ap (λ (j : Job). j.watermark) one ∙ just.none))

-- behind entries that fit
wants-go : (more : List Entry) (s : State) (n : ℕ) (job : Job) → AllFit profile s more → s.entries + length more < write_end → IsSoundBook s
    → WasPicked s n → (work : IsAtWork (fold after s more) n job) → StillWants s (fold after s more) n job work
wants-go [] s n job fit few sound was work =
    record { work = work; pieces = refl; finals_are = refl; wants = λ name bucket among. refl }
wants-go (event ∷ more) s n job fit few sound was work =
    let all : s.entries + length (event ∷ more) < write_end = few in
    let next = wants-go more (after s event) n job fit.1 (omega (arith, all)) (books-go-on profile s event fit.0 sound) (picked-stays s event n was) work in
    by next (wants-stay profile s event n job next.work fit.0 (omega (arith, all)) sound)
  where
    by : (next : StillWants (after s event) (fold after (after s event) more) n job work)
        → StillWants s (after s event) n job next.work ⊎ IsJustPicked s n → StillWants s (fold after (after s event) more) n job work
    by next (inr just) = absurd (not-just s n was just)
    by next (inl still) = record {
      work = still.work;
      pieces = next.pieces ∙ still.pieces;
      finals_are = next.finals_are ∙ still.finals_are;
      wants = λ name bucket among.
          next.wants name bucket (subst (IsIn name) (sym still.finals_are) among) ∙ still.wants name bucket among;
    }

-- behind a longer trail
module _ (before now : List TrailItem) (front : IsFront before now) (book : HasFittingBook now) (n : ℕ) (was : WasPicked (state_at before) n) where
  pub state-is : state_at now ≡ fold after (state_at before) (book_of front.more)
  state-is = ap state_at front.is ∙ state-append before front.more

  book-is : book_of now ≡ book_of before ++ book_of front.more
  book-is = ap book_of front.is ∙ book-append before front.more

  pub parts : AllFit profile nothing_yet (book_of before) × AllFit profile (fold after nothing_yet (book_of before)) (book_of front.more)
  parts = fit-parts nothing_yet (book_of before) (book_of front.more) (subst (λ (b : List Entry). AllFit profile nothing_yet b) book-is book.fit)

  pub few-more : (state_at before).entries + length (book_of front.more) < write_end
  few-more =
      let entries = entries-are (book_of before) in
      let both : length (book_of now) ≡ length (book_of before) + length (book_of front.more) =
      ap length book-is ∙ length-append (book_of before) (book_of front.more) in
      let few = book.few in omega (arith, entries, both, few)

  pub was-sound : IsSoundBook (state_at before)
  was-sound = books-are-sound profile (book_of before) parts.0

  still : (job : Job) (work : IsAtWork (fold after (state_at before) (book_of front.more)) n job)
      → StillWants (state_at before) (fold after (state_at before) (book_of front.more)) n job work
  still job work =
      wants-go (book_of front.more) (state_at before) n job parts.1 few-more was-sound was work

  -- of what it wanted
  wanted-so : (P : State → Job → Table → Type 0)
      → ((job : Job) (work : IsAtWork (fold after (state_at before) (book_of front.more)) n job)
      → P (fold after (state_at before) (book_of front.more)) job work.table)
      → (job : Job) (work : IsAtWork (state_at now) n job) → P (state_at now) job work.table
  wanted-so P each =
      subst (λ (s : State). (job : Job) (work : IsAtWork s n job) → P s job work.table) (sym state-is) each

  -- it was there as it is, with the same range
  pub was-so : (job : Job) → IsAtWork (state_at now) n job
      → (numbered (state_at before).jobs n ≡ Some job) × (pieces_for (state_at now) job ≡ pieces_for (state_at before) job)
  was-so =
      wanted-so (λ s j table. (numbered (state_at before).jobs n ≡ Some j) × (pieces_for s j ≡ pieces_for (state_at before) j))
      (λ job work. let it = still job work in (it.work.is, it.pieces))

  to-have : (made : DirName) (deletes : Bool) (bucket : ℕ) (recs : List Rec)
      → ((job : Job) (work : IsAtWork (state_at before) n job) → IsToHave made deletes bucket recs (state_at before) job work.table)
      → (job : Job) (work : IsAtWork (state_at now) n job) → IsToHave made deletes bucket recs (state_at now) job work.table
  to-have made deletes bucket recs has =
      wanted-so (IsToHave made deletes bucket recs)
      (λ job work.
      let it = still job work in
      let had = has job it.work in
      (subst (IsIn made) (sym it.finals_are) had.0, it.wants made bucket had.0 ∙ had.1))

  no-file : (made : DirName) (bucket : ℕ)
      → ((job : Job) (work : IsAtWork (state_at before) n job) → HasNoFile made bucket (state_at before) job work.table)
      → (job : Job) (work : IsAtWork (state_at now) n job) → HasNoFile made bucket (state_at now) job work.table
  no-file made bucket has =
      wanted-so (HasNoFile made bucket)
      (λ job work among.
      let it = still job work in
      let was_in = subst (IsIn made) it.finals_are among in
      it.wants made bucket was_in ∙ has job it.work was_in)

  makes-only : (Is : DirName → Type 0)
      → ((job : Job) (work : IsAtWork (state_at before) n job) → MakesOnly Is (state_at before) job work.table)
      → (job : Job) (work : IsAtWork (state_at now) n job) → MakesOnly Is (state_at now) job work.table
  makes-only Is has =
      wanted-so (MakesOnly Is) (λ job work made among. let it = still job work in has job it.work made (subst (IsIn made) it.finals_are among))

-- ---- so it is whenever it works

pub due-whenever : (trail : List TrailItem) (job : JobId) (made : DirName) (deletes : Bool) (bucket : ℕ) (recs : List Rec)
    → WasPicked (state_at trail) job.0
    → ((j : Job) (work : IsAtWork (state_at trail) job.0 j) → IsToHave made deletes bucket recs (state_at trail) j work.table)
    → AreDue trail job made deletes bucket recs
due-whenever trail job made deletes bucket recs was has = λ now front book j work. to-have trail now front book job.0 was made deletes bucket recs has j work

pub none-whenever : (trail : List TrailItem) (job : JobId) (made : DirName) (bucket : ℕ) → WasPicked (state_at trail) job.0
    → ((j : Job) (work : IsAtWork (state_at trail) job.0 j) → HasNoFile made bucket (state_at trail) j work.table)
    → Whenever trail job (HasNoFile made bucket)
none-whenever trail job made bucket was has = λ now front book j work. no-file trail now front book job.0 was made bucket has j work

pub only-whenever : (trail : List TrailItem) (job : JobId) (Is : DirName → Type 0) → WasPicked (state_at trail) job.0
    → ((j : Job) (work : IsAtWork (state_at trail) job.0 j) → MakesOnly Is (state_at trail) j work.table)
    → Whenever trail job (MakesOnly Is)
only-whenever trail job Is was has = λ now front book j work. makes-only trail now front book job.0 was Is has j work
