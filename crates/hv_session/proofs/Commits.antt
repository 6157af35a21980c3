-- A statement that is ready ends by its commit, by the abort for a conflict, or by its Create or its Drop.
use Rattle.std.proofs.Common.{◌≡◌, inl, inr, ℕ, zero, suc, true, false, Option, Some, None, List, [], ◌∷◌, ◌++◌, length, take, refl, sym, ap, ◌∙◌, subst, arith, Ok, Err, Result}
use Rattle.std.specs.Prelude.{IfOk, IfErr}
use Rattle.std.specs.List.{slice_get}
use Rattle.hv_base.specs.declared.ids.TxnId.{TxnId}
use Rattle.hv_base.specs.declared.ids.TableId.{TableId}
use Rattle.hv_base.specs.declared.ids.Touch.{Touch}
use Rattle.hv_shelf.specs.declared.place.Place.{Place}
use Rattle.hv_shelf.specs.Disk.{Store}
use Rattle.hv_logic.specs.declared.catalog.TableInfo.{TableInfo}
use Rattle.hv_logic.specs.declared.meaning.Meaning.{Meaning}
use Rattle.hv_logic.specs.declared.meaning.Meaning.TheVariants.{Change}
use Rattle.hv_history.specs.declared.entry.Entry.{Entry}
use Rattle.hv_history.specs.declared.entry.Entry.TheVariants as entry
use Rattle.hv_history.specs.declared.entry.Cause.{Cause}
use Rattle.hv_history.specs.declared.entry.Cause.TheVariants as cause
use Rattle.hv_history.specs.declared.state.Snapshot.{Snapshot}
use Rattle.hv_history.specs.State.{state_of, numbered}
use Rattle.hv_history.specs.Legal.{CommitFits, CreateFits, DropFits, IsRunning}
use Rattle.hv_history.specs.Lasting.{IsFront}
use Rattle.hv_history.specs.Answers.{cause_text, conflict_text, committed_text, ok_line, name_of, name_at}
use Rattle.hv_stands.specs.Running.{IsOf, snapshot_at}
use Rattle.hv_stands.specs.Statements.{AllFitting}
use Rattle.hv_stands.proofs.Fitting.{fronts-fit}
use Rattle.hv_stands.proofs.SeeingEnough.{changed-table-stood}
use Rattle.hv_trail.specs.declared.trail.TrailItem.{TrailItem}
use Rattle.hv_trail.specs.Trail.{book_of, state_at}
use Rattle.hv_trail.specs.Steps.{Note, MayEnd}
use Rattle.hv_actor.specs.Acting.{IsLater, AreRows, among, known, Held}
use Rattle.hv_beginning.specs.hv_steps.specs.hv_table_reader.specs.hv_acts.specs.hv_telling.specs.hv_house.specs.declared.fault.HouseFault.{HouseFault}
use Rattle.hv_beginning.specs.hv_steps.specs.hv_table_reader.specs.hv_acts.specs.hv_telling.specs.hv_house.specs.declared.fault.HouseFault.TheVariants as fault
use Rattle.hv_beginning.specs.hv_steps.specs.hv_table_reader.specs.hv_acts.specs.declared.told.ToldHouse.{ToldHouse}
use Rattle.hv_beginning.specs.hv_steps.specs.hv_table_reader.specs.hv_acts.specs.declared.aborted.Aborted.{Aborted}
use Rattle.hv_beginning.specs.hv_steps.specs.hv_table_reader.specs.hv_acts.specs.declared.committing.Committed.{Committed}
use Rattle.hv_beginning.specs.hv_steps.specs.hv_table_reader.specs.hv_acts.specs.declared.committing.Committed.TheVariants as committed
use Rattle.hv_beginning.specs.hv_steps.specs.hv_table_reader.specs.hv_acts.specs.declared.fault.ActFault.{ActFault}
use Rattle.hv_beginning.specs.hv_steps.specs.hv_table_reader.specs.hv_acts.specs.declared.fault.ActFault.TheVariants as act
use Rattle.hv_beginning.specs.hv_steps.specs.hv_table_reader.specs.hv_acts.specs.declared.making.Made.{Made}
use Rattle.hv_beginning.specs.hv_steps.specs.hv_table_reader.specs.hv_acts.specs.Told.{IsWholeOrClosed, seen_in, trail_in, book_in, told_sight}
use Rattle.hv_beginning.specs.hv_steps.specs.hv_table_reader.specs.hv_acts.specs.Answers.{NoTest, FilesTest, Answers, AnswerLeaves, EntryFits, answer_call, answer_outcome, next_table}
use Rattle.hv_beginning.specs.hv_steps.specs.hv_table_reader.specs.hv_acts.specs.Committing.{call_to_commit, adds_commit, CommitAnswers, HasConflicted}
use Rattle.hv_beginning.specs.hv_steps.specs.hv_table_reader.specs.hv_acts.specs.Making.{MakeFits, IsMadeAt}
use Rattle.hv_beginning.specs.hv_steps.specs.hv_table_reader.specs.hv_acts.specs.Dropping.{CanDrop, IsDroppedAt}
use Rattle.hv_beginning.specs.hv_steps.specs.hv_table_reader.specs.hv_acts.specs.Meant.{HasMeant, IsCommitDue}
use Rattle.hv_beginning.specs.hv_steps.specs.hv_table_reader.specs.hv_acts.proofs.Steps.{book-is}
use Rattle.hv_beginning.specs.hv_steps.specs.hv_table_reader.specs.hv_acts.proofs.Meant.{on-way}
use Rattle.hv_beginning.specs.hv_steps.specs.Ending.{KeepsCount, committing, creating, dropping, aborting, HasReplied}
use Rattle.hv_beginning.specs.hv_steps.specs.declared.ready.Ready.{Ready}
use Rattle.hv_beginning.specs.hv_steps.specs.declared.ready.End.TheVariants as last
use Rattle.hv_beginning.specs.hv_steps.proofs.Replied.{commit-replies, abort-replies}
use Rattle.hv_beginning.specs.hv_steps.proofs.Touched.{touch-of-table}
use Rattle.hv_beginning.specs.hv_steps.specs.declared.reply.Done.{Done}
use Rattle.hv_beginning.specs.hv_steps.specs.declared.reply.Done.TheVariants as done
use Rattle.hv_session.specs.Ends.{commit_adds, IsCommitEnd, IsCommitAnswered, committed_reply, create_adds, drop_adds}
use Rattle.hv_beginning.specs.hv_steps.specs.Going.{faults_in, IsOpenHouse, AddsOwn, Goes}
use Rattle.hv_beginning.specs.hv_steps.specs.Leaving.{EndsAct}
use Rattle.hv_beginning.specs.hv_steps.specs.Phases.{IsDueSo, NoCause, AbortsFor, Concludes, AnswersTruly}
use Rattle.hv_beginning.specs.hv_steps.proofs.Joining.{front-more, NamesEnd, why-names, goes-on, held-front}
use Rattle.hv_beginning.specs.hv_steps.proofs.Ends.{open-here, replied-now, ended-now, create-replies, drop-replies}

-- ---- what it means

meant-lasts : (before now : List TrailItem) → IsFront before now → (txn : TxnId) (given : List (ℕ × ℕ)) (means : Meaning) → HasMeant before txn given means
    → HasMeant now txn given means
meant-lasts before now front txn given means has = record { then_ = has.then_; front = front-more has.then_ before now has.front front; was = has.was }

-- its commit is due
pub so-due : (trail : List TrailItem) (txn : TxnId) (wrote : List Touch) (name : List ℕ) (places : List Place) (text : List ℕ) → IsDueSo trail txn wrote name places text
    → IsCommitDue trail txn wrote places
so-due trail txn wrote name places text (inl idle) = inl idle.0
so-due trail txn wrote name places text (inr due) = inr due.0

no-touch : (at : ℕ) (touch : Touch) → slice_get [] at ≡ Some touch → ⊥
no-touch zero touch e = let never : None ≡ Some touch = e in cc
no-touch (suc at) touch e = let never : None ≡ Some touch = e in cc

line-is : (snapshot : Option Snapshot) (by table : ℕ) (partition name : List ℕ) → name_at snapshot table ≡ name
    → cause_text snapshot (cause.Conflict (record { 0 = by }) (record { 0 = table }) partition) ≡ conflict_text by name partition
unfolding cause_text
line-is snapshot by table partition name is = ap (λ (n : List ℕ). conflict_text by n partition) is

module _ (before trail : List TrailItem) (front : IsFront before trail) (txn : TxnId) (wrote : List Touch) (name : List ℕ) (places : List Place) where
  commit-says : (text : List ℕ) → IsDueSo before txn wrote name places text → EntryFits trail (entry.Commit txn wrote)
      → HasReplied (book_of trail ++ committing txn.0 wrote ∷ []) txn.0 text false (Some (length (book_of trail)))
  commit-says text due fits = by due
    where
      book : List Entry
      book = book_of trail

      says : (given : List (ℕ × ℕ)) (means : Meaning) → HasMeant before txn given means → text ≡ committed_text (Some means) wrote
          → HasReplied (book ++ committing txn.0 wrote ∷ []) txn.0 text false (Some (length book))
      says given means has e =
          let open_ = open-here (book_of trail) txn.0 (CommitFits (state_at trail) wrote) (λ t fit. fit.running.unended) fits in
          let on = on-way trail txn given means open_.t (meant-lasts before trail front txn given means has) open_.here open_.unended in
          subst (λ (line : List ℕ). HasReplied (book_of trail ++ committing txn.0 wrote ∷ []) txn.0 line false (Some (length (book_of trail))))
          (ap (λ (m : Option Meaning). committed_text m wrote) on.means_it ∙ sym e)
          (commit-replies (book_of trail) on.asking txn.0 on.place on.said (given ++ on.ids) on.under_way wrote)

      by : IsDueSo before txn wrote name places text → HasReplied (book ++ committing txn.0 wrote ∷ []) txn.0 text false (Some (length book))
      by (inl idle) = says [] idle.0.means idle.0.meant_it idle.1
      by (inr due) =
          let change = due.0 in
          says ((change.info.table.0, change.write) ∷ []) (Change change.info change.effect) change.change due.1

  conflict-says : (text : List ℕ) (aborted : Aborted) → IsDueSo before txn wrote name places text → AllFitting (book_of trail)
      → HasConflicted trail txn wrote name aborted
      → HasReplied (book_of trail ++ aborting txn.0 aborted.cause ∷ []) txn.0 aborted.text true (Some (length (book_of trail)))
  conflict-says text aborted (inl idle) fit met =
      let here : slice_get [] met.conflict.clash.at ≡ Some met.conflict.is.touch =
      subst (λ (ts : List Touch). slice_get ts met.conflict.clash.at ≡ Some met.conflict.is.touch) idle.0.none met.conflict.is.found in
      absurd (no-touch met.conflict.clash.at met.conflict.is.touch here)
  conflict-says text aborted (inr due) fit met =
      let change = due.0 in
      let given : List (ℕ × ℕ) = (change.info.table.0, change.write) ∷ [] in
      let means : Meaning = Change change.info change.effect in
      let book : List Entry = book_of trail in
      let touch = met.conflict.is.touch in
      let open_ = open-here book txn.0 IsRunning (λ t runs. runs.unended) met.runs.0 in
      let on = on-way trail txn given means open_.t (meant-lasts before trail front txn given means change.change) open_.here open_.unended in
      let stood = changed-table-stood (take on.place book) on.said change.info change.effect (fronts-fit book on.place fit) on.means_it in
      let here : touch.table.0 ≡ change.info.table.0 =
      touch-of-table change.info change.effect met.conflict.clash.at touch
      (subst (λ (ts : List Touch). slice_get ts met.conflict.clash.at ≡ Some touch) change.touches met.conflict.is.found) in
      let number : met.table.0 ≡ change.info.table.0 = ap (λ table. table.0) met.conflict.table_is ∙ here in
      let named : name_at (Some (snapshot_at book on.place)) met.table.0 ≡ name =
      ap (λ (n : ℕ). name_of (numbered (state_of (take on.place book)).tables n)) number ∙ ap name_of stood.1
      ∙ ap (λ (i : TableInfo). i.shape.name) stood.2 ∙ sym due.2 in
      let line : cause_text (Some (snapshot_at book on.place)) aborted.cause ≡ aborted.text =
      ap (cause_text (Some (snapshot_at book on.place))) met.cause_is
      ∙ line-is (Some (snapshot_at book on.place)) met.by.0 met.table.0 met.partition name named ∙ sym met.line in
      subst (λ (said : List ℕ). HasReplied (book ++ aborting txn.0 aborted.cause ∷ []) txn.0 said true (Some (length book))) line
      (abort-replies book on.asking txn.0 on.place on.said (given ++ on.ids) on.under_way aborted.cause)

-- ---- its act

module _ (txn : TxnId) (wrote : List Touch) where
  pub commit-ends : (result : Result Committed ActFault) → MayEnd (call_to_commit txn wrote result) (answer_outcome result) → IfErr result EndsAct
  commit-ends (Ok found) may = tt
  commit-ends (Err (act.Ended at)) may = tt
  commit-ends (Err (act.Full entries)) may = tt
  commit-ends (Err (act.Held by)) may = tt
  commit-ends (Err (act.Broken put count)) may = tt
  commit-ends (Err act.Unfit) may = tt
  commit-ends (Err (act.House fault.Store)) may = tt
  commit-ends (Err (act.House fault.NoMemory)) may = tt
  commit-ends (Err (act.House (fault.Failed count))) may = may

  pub commit-book : (result : Result Committed ActFault) → book_of (adds_commit txn wrote result) ≡ commit_adds txn.0 wrote result
  commit-book (Ok (committed.At place)) = refl
  commit-book (Ok (committed.Aborted aborted)) = refl
  commit-book (Err why) = refl

  pub commit-names : (trail : List TrailItem) (name : List ℕ) (places : List Place) (result : Result Committed ActFault) → CommitAnswers trail txn wrote name places result
      → IfErr result (NamesEnd trail txn.0)
  commit-names trail name places (Ok (committed.At place)) answers = tt
  commit-names trail name places (Ok (committed.Aborted aborted)) answers = tt
  commit-names trail name places (Err why) answers = why-names FilesTest trail txn _ why answers

module _ {D : Type 0} (told : D → Option Store) (faults : D → ℕ) (meanwhile : ToldHouse D → ToldHouse D → Type 0)
    (goes : (before now : ToldHouse D) → meanwhile before now → IsLater faults (seen_in before) (seen_in now)) (before now : ToldHouse D)
    (txn : TxnId) (wrote : List Touch) (name : List ℕ) (places : List Place) where
  abbrev pub HeldCommit : Result Committed ActFault → Type 0
  HeldCommit result =
      Held (told_sight told faults) meanwhile before now (λ seen. call_to_commit txn wrote result) (answer_outcome result)
      (λ house after. CommitAnswers house.trail txn wrote name places result × AnswerLeaves told faults txn.0 house after result)

  pub commit-ended : (result : Result Committed ActFault) → HeldCommit result → IfOk result (IsCommitEnd now txn.0 name)
  commit-ended (Ok (committed.At place)) held =
      ended-now (trail_in held.house) (trail_in now) (committing txn.0 wrote) txn.0 place held.step.trail held.does_it.0.place refl
  commit-ended (Ok (committed.Aborted aborted)) held =
      let met = held.does_it.0 in (
        record { by = met.by; table = met.table; partition = met.partition; cause_is = met.cause_is; line = met.line },
        ended-now (trail_in held.house) (trail_in now) (aborting txn.0 aborted.cause) txn.0 aborted.at held.step.trail met.place refl,
      )
  commit-ended (Err why) held = tt

  -- its book fits, since it was open
  house-fits : (house : ToldHouse D) → IsOpenHouse house → IsWholeOrClosed told house.house → AllFitting (book_of (trail_in house))
  house-fits house running kept = subst AllFitting (sym (book-is house.house)) (kept.whole running).ready.fit

  pub commit-answered : (result : Result Committed ActFault) → HeldCommit result → (text : List ℕ) → IsDueSo (trail_in before) txn wrote name places text
      → IfOk result (IsCommitAnswered now txn.0 text)
  commit-answered (Ok (committed.At place)) held text due =
      replied-now (trail_in held.house) (trail_in now) (committing txn.0 wrote) txn.0 text false place held.step.trail held.does_it.0.place
      (commit-says (trail_in before) (trail_in held.house) (held-front told faults meanwhile goes before now _ _ _ held) txn wrote name places text due
      held.does_it.0.fits.fits)
  commit-answered (Ok (committed.Aborted aborted)) held text due =
      replied-now (trail_in held.house) (trail_in now) (aborting txn.0 aborted.cause) txn.0 aborted.text true aborted.at held.step.trail held.does_it.0.place
      (conflict-says (trail_in before) (trail_in held.house) (held-front told faults meanwhile goes before now _ _ _ held) txn wrote name places text aborted due
      (house-fits held.house held.does_it.1 held.kept) held.does_it.0)
  commit-answered (Err why) held text due = tt

-- ---- a table that is made

module _ {D : Type 0} (told : D → Option Store) (faults : D → ℕ) (meanwhile : ToldHouse D → ToldHouse D → Type 0) (before now : ToldHouse D) (txn : TxnId) where
  abbrev pub HeldMake : Result Made ActFault → Type 0
  HeldMake result =
      Held (told_sight told faults) meanwhile before now (λ seen. answer_call (Note (entry.Create txn (next_table seen.trail))) result) (answer_outcome result)
      (λ house after. Answers NoTest house.trail txn (MakeFits house.trail txn) (IsMadeAt house.trail) result × AnswerLeaves told faults txn.0 house after result)

  pub make-replied : (result : Result Made ActFault) → HeldMake result
      → IfOk result (λ (made : Made). HasReplied (book_in now) txn.0 ok_line false (Some made.at))
  make-replied (Ok made) held =
      let trail = trail_in held.house in
      let made_at = held.does_it.0.1 in
      replied-now trail (trail_in now) (creating txn.0 (next_table trail)) txn.0 ok_line false made.at held.step.trail made_at.place
      (create-replies (book_of trail) txn.0 (next_table trail)
      (open-here (book_of trail) txn.0 (CreateFits (state_at trail) (next_table trail).0) (λ t fits. fits.running.unended) held.does_it.0.0.0))
  make-replied (Err why) held = tt

-- ---- a table that is dropped

module _ {D : Type 0} (told : D → Option Store) (faults : D → ℕ) (meanwhile : ToldHouse D → ToldHouse D → Type 0) (before now : ToldHouse D) (txn : TxnId)
    (table : TableId) where
  abbrev pub HeldDrop : Result ℕ ActFault → Type 0
  HeldDrop result =
      Held (told_sight told faults) meanwhile before now (λ seen. answer_call (Note (entry.Drop txn table)) result) (answer_outcome result)
      (λ house after. Answers NoTest house.trail txn (CanDrop house.trail txn table) (IsDroppedAt house.trail) result × AnswerLeaves told faults txn.0 house after result)

  pub drop-replied : (result : Result ℕ ActFault) → HeldDrop result → IfOk result (λ (at : ℕ). HasReplied (book_in now) txn.0 ok_line false (Some at))
  drop-replied (Ok at) held =
      let trail = trail_in held.house in
      replied-now trail (trail_in now) (dropping txn.0 table) txn.0 ok_line false at held.step.trail held.does_it.0.1
      (drop-replies (book_of trail) txn.0 table
      (open-here (book_of trail) txn.0 (DropFits (state_at trail) table.0) (λ t fits. fits.running.unended) held.does_it.0.0.0))
  drop-replied (Err why) held = tt

-- ---- what it comes to

-- an abort for want of memory is one of its ends
pub lacks-concludes : {D : Type 0} (txn : ℕ) (now : ToldHouse D) (ready : Ready) (found : Done) (added : List Entry) → AbortsFor txn now [] NoCause found added
    → Concludes txn now ready found added
lacks-concludes txn now ready (done.Replied reply) added is = (is.0, is.1, inr (inr is.2), is.3)
lacks-concludes txn now ready (done.Gone reply) added is = is

-- and its reply is the answer
pub lacks-answers : {D : Type 0} (told : D → Option Store) (faults : D → ℕ) (B : List TrailItem → Type 0) (meanwhile : ToldHouse D → ToldHouse D → Type 0) (low txn : ℕ)
    (own own' : List ℕ) (before now : ToldHouse D) (Causes : Cause → Type 0) (result : Result Done HouseFault)
    → Goes (among told faults B meanwhile) low txn (known own before) (known own' now) (AbortsFor txn now [] Causes) result → IfOk result (AnswersTruly txn now)
lacks-answers told faults B meanwhile low txn own own' before now Causes (Err why) goes = tt
lacks-answers told faults B meanwhile low txn own own' before now Causes (Ok (done.Gone reply)) goes = goes.done.is.1
lacks-answers told faults B meanwhile low txn own own' before now Causes (Ok (done.Replied reply)) goes = goes.done.is.2.answered

pub commit-answers : {D : Type 0} (txn : ℕ) (now : ToldHouse D) (text : List ℕ) (found : Committed) (reply : Done) → reply ≡ committed_reply text found
    → IsCommitAnswered now txn text found → AnswersTruly txn now reply
commit-answers txn now text (committed.At place) reply e answered = subst (AnswersTruly txn now) (sym e) answered
commit-answers txn now text (committed.Aborted aborted) reply e answered = subst (AnswersTruly txn now) (sym e) answered

pub create-answers : {D : Type 0} (txn : ℕ) (now : ToldHouse D) (text : List ℕ) (at : ℕ) (reply : Done)
    → reply ≡ done.Replied (record { text = text; refused = false; ended = Some at }) → text ≡ ok_line → HasReplied (book_in now) txn ok_line false (Some at)
    → AnswersTruly txn now reply
create-answers txn now text at reply e says answered =
    subst (AnswersTruly txn now) (sym e) (subst (λ (line : List ℕ). HasReplied (book_in now) txn line false (Some at)) (sym says) answered)

module _ {D : Type 0} (told : D → Option Store) (faults : D → ℕ) (B : List TrailItem → Type 0) (rows : AreRows B)
    (meanwhile : ToldHouse D → ToldHouse D → Type 0) (low txn : ℕ) (own own' : List ℕ) (before now : ToldHouse D) where
  -- it was refused by an act that added nothing, and aborted
  pub concludes-without : (own'' : List ℕ) (after : ToldHouse D) (ready : Ready) (result : Result Done HouseFault)
      → AddsOwn faults B txn (known own before) (known own' now) []
      → Goes (among told faults B meanwhile) low txn (known own' now) (known own'' after) (AbortsFor txn after [] NoCause) result
      → Goes (among told faults B meanwhile) low txn (known own before) (known own'' after) (Concludes txn after ready) result
  concludes-without own'' after ready result adds goes =
      goes-on faults B rows told meanwhile low low txn own own' own'' before now after (AbortsFor txn after [] NoCause) (Concludes txn after ready) result (omega arith) adds
      (λ found more is. lacks-concludes txn after ready found more is) goes

  commit-replied : (wrote : List Touch) (name : List ℕ) (put : List Place) (text : List ℕ) (found : Committed)
      → AddsOwn faults B txn (known own before) (known own' now) (commit_adds txn wrote (Ok found)) → IsOpenHouse now → IsCommitEnd now txn name found
      → Goes (among told faults B meanwhile) low txn (known own before) (known own' now)
      (Concludes txn now (record { end = last.Commit wrote name put; text = text })) (Ok (committed_reply text found))
  commit-replied wrote name put text (committed.At place) adds running ended = record {
    done = record {
      added = committing txn wrote ∷ [];
      adds = adds;
      of_it = (refl, tt);
      counts = (tt, tt);
      is = (committing txn wrote, refl, inl (record { text_is = refl; accepted = refl; by = refl }), ended);
      running = running;
    };
    halted = tt;
  }
  commit-replied wrote name put text (committed.Aborted aborted) adds running ended =
      let met = ended.0 in
      record {
        done = record {
          added = aborting txn aborted.cause ∷ [];
          adds = adds;
          of_it = (subst (λ (why : Cause). IsOf txn (aborting txn why)) (sym met.cause_is) refl, tt);
          counts = (subst (λ (why : Cause). KeepsCount low (faults_in faults now) (aborting txn why)) (sym met.cause_is) tt, tt);
          is = (
            aborting txn aborted.cause,
            refl,
            inr (inl (record {
              wrote = wrote;
              name = name;
              put = put;
              end_is = refl;
              by = met.by;
              table = met.table;
              partition = met.partition;
              entry_is = ap (aborting txn) met.cause_is;
              line = met.line;
              refusal = refl;
            })),
            ended.1,
          );
          running = running;
        };
        halted = tt;
      }

  pub concludes-commit : (wrote : List Touch) (name : List ℕ) (put : List Place) (text : List ℕ) (found : Committed) (reply : Done) → reply ≡ committed_reply text found
      → AddsOwn faults B txn (known own before) (known own' now) (commit_adds txn wrote (Ok found)) → IsOpenHouse now → IsCommitEnd now txn name found
      → Goes (among told faults B meanwhile) low txn (known own before) (known own' now)
      (Concludes txn now (record { end = last.Commit wrote name put; text = text })) (Ok reply)
  concludes-commit wrote name put text found reply e adds running ended =
      subst (λ (d : Done). Goes (among told faults B meanwhile) low txn (known own before) (known own' now)
      (Concludes txn now (record { end = last.Commit wrote name put; text = text })) (Ok d))
      (sym e) (commit-replied wrote name put text found adds running ended)

  pub concludes-create : (text : List ℕ) (made : Made) (reply : Done) → reply ≡ done.Replied (record { text = text; refused = false; ended = Some made.at })
      → AddsOwn faults B txn (known own before) (known own' now) (create_adds txn made ∷ []) → IsOpenHouse now
      → HasReplied (book_in now) txn ok_line false (Some made.at)
      → Goes (among told faults B meanwhile) low txn (known own before) (known own' now) (Concludes txn now (record { end = last.Create; text = text }))
      (Ok reply)
  concludes-create text made reply e adds running answered =
      subst (λ (d : Done). Goes (among told faults B meanwhile) low txn (known own before) (known own' now)
      (Concludes txn now (record { end = last.Create; text = text })) (Ok d)) (sym e)
      (record {
        done = record {
          added = create_adds txn made ∷ [];
          adds = adds;
          of_it = (refl, tt);
          counts = (tt, tt);
          is = (create_adds txn made, refl, inl (record { text_is = refl; accepted = refl; by = (made.table, refl) }), answered.ended_at);
          running = running;
        };
        halted = tt;
      })

  pub concludes-drop : (text : List ℕ) (table : TableId) (at : ℕ) (reply : Done) → reply ≡ done.Replied (record { text = text; refused = false; ended = Some at })
      → AddsOwn faults B txn (known own before) (known own' now) (drop_adds txn table at ∷ []) → IsOpenHouse now
      → HasReplied (book_in now) txn ok_line false (Some at)
      → Goes (among told faults B meanwhile) low txn (known own before) (known own' now) (Concludes txn now (record { end = last.Drop table; text = text }))
      (Ok reply)
  concludes-drop text table at reply e adds running answered =
      subst (λ (d : Done). Goes (among told faults B meanwhile) low txn (known own before) (known own' now)
      (Concludes txn now (record { end = last.Drop table; text = text })) (Ok d)) (sym e)
      (record {
        done = record {
          added = drop_adds txn table at ∷ [];
          adds = adds;
          of_it = (refl, tt);
          counts = (tt, tt);
          is = (drop_adds txn table at, refl, inl (record { text_is = refl; accepted = refl; by = refl }), answered.ended_at);
          running = running;
        };
        halted = tt;
      })
