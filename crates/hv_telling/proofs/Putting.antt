-- A put of a file of a change that its statement means.
use Rattle.std.proofs.Common.{ℕ, ◌<◌, true, Option, Some, List, [], ◌∷◌, ◌++◌, length, refl, sym, ap, ◌∙◌, subst, arith}
use Rattle.std.specs.Prelude.{option_map}
use Rattle.hv_base.specs.declared.ids.TxnId.{TxnId}
use Rattle.hv_shelf.specs.declared.place.Place.{Place}
use Rattle.hv_shelf.specs.Disk.{Store, HasFile, TornFile}
use Rattle.hv_dirs.specs.Names.{write_end}
use Rattle.hv_history.specs.declared.entry.Entry.{Entry}
use Rattle.hv_history.specs.State.{numbered}
use Rattle.hv_history.specs.Legal.{profile}
use Rattle.hv_route.specs.declared.files.OutFile.{OutFile}
use Rattle.hv_stands.specs.Files.{ending_of}
use Rattle.hv_stands.specs.Running.{IsOfId}
use Rattle.hv_stands.specs.Statements.{AllFitting}
use Rattle.hv_stands.proofs.Numbers.{numbered-map}
use Rattle.hv_stands.proofs.OwnFiles.{found-given}
use Rattle.hv_law_work.specs.hv_law_marks.specs.hv_law_filed.proofs.OwnChanges.{puts-stand}
use Rattle.hv_house.specs.hv_table_rows.specs.Putting.{bytes_of}
use Rattle.hv_trail.specs.declared.trail.Reader.TheVariants.{Txn}
use Rattle.hv_trail.specs.declared.trail.Mark.TheVariants.{Wrote, Broke}
use Rattle.hv_trail.specs.declared.trail.TrailItem.{TrailItem}
use Rattle.hv_trail.specs.declared.trail.TrailItem.TheVariants.{Marked}
use Rattle.hv_trail.specs.Trail.{book_of, state_at}
use Rattle.hv_trail.specs.Lasting.{IsGiven}
use Rattle.hv_trail.specs.Kept.{trail_of}
use Rattle.hv_law_work.specs.hv_law_marks.specs.Marked.{IsChanging, IsOwnPlace, MarksStand}
use Rattle.hv_law_work.specs.hv_law_marks.specs.Laws.{IsFitting}
use Rattle.hv_law_work.specs.hv_law_marks.proofs.Books.{is-there}
use Rattle.hv_law_work.specs.hv_law_marks.proofs.Standing.{put-marks-stand, broken-marks-stand, changes-are-open, given-places-own}
use Rattle.hv_law_work.specs.Laws.{IsOpenIn}
use Rattle.hv_law_work.proofs.JobMarks.{own-job-marks}
use Rattle.hv_house.specs.declared.house.House.{House}
use Rattle.hv_house.specs.House.{entries_of, IsFaithful}
use Rattle.hv_telling.specs.Telling.{IsToldHouse, StandsByMarks, IsWhole, IsMeantFile}
use Rattle.hv_telling.proofs.Few.{is-short}
use Rattle.hv_telling.proofs.Told.{house-book}
use Rattle.hv_telling.proofs.Puts.{marked-book, KeepsElsewhere, put-elsewhere, torn-elsewhere, PutsTruly}

module _ (trail : List TrailItem) (by : TxnId) (place : Place) (file : OutFile) (fit : AllFitting (book_of trail)) (near : length (book_of trail) < write_end)
    (is : IsMeantFile (book_of trail) by place file) where
  abbrev book : List Entry
  book = book_of trail

  fitting : IsFitting profile trail
  fitting = record { fit = fit; few = near }

  changing : IsChanging (state_at trail) by.0 is.info is.effect is.write
  changing = changes-are-open book is.asking by.0 is.at is.said is.info is.effect is.write is.under_way is.means

  of-id : IsOfId is.info.table.0 is.write place
  of-id =
      subst (IsOfId is.info.table.0 is.write) (sym is.place_is)
      (record { table_is = refl; deletes = file.deletes; statement = 0; dir = refl })

  owner : IsOwnPlace (state_at trail).tables by.0 place
  owner =
      given-places-own profile trail by.0 is.info.table.0 is.write place fit
      (is-there (IsGiven is.info.table.0 is.write) (numbered (state_at trail).transactions by.0) _ is.under_way.here (found-given is.info.table.0 is.write)) of-id

  -- it is open
  unended : IsOpenIn (state_at trail) by.0
  unended =
      numbered-map ending_of (state_at trail).transactions by.0 ∙ ap (option_map ending_of) is.under_way.here

  -- whatever is at the place now
  elsewhere-faithful : (before now : Store) → KeepsElsewhere place before now → IsFaithful book before → IsFaithful book now
  elsewhere-faithful before now keeps faithful = record {
    stands = puts-stand book is.asking by.0 is.at is.said is.info.table.0 is.write before.tree now.tree fit near is.under_way
        (λ other apart. keeps other (λ same. apart (subst (IsOfId is.info.table.0 is.write) (sym same) of-id))) faithful.stands;
    legal = faithful.legal;
  }

  torn-faithful : (before now : Store) → TornFile place before now → IsFaithful book before → IsFaithful book now
  torn-faithful before now torn faithful = elsewhere-faithful before now (torn-elsewhere place before now torn) faithful

  put-true : (before now : Store) → HasFile place (bytes_of file) before now → StandsByMarks trail book before
      → StandsByMarks (trail ++ Marked (Wrote (Txn by) place) ∷ []) (book_of (trail ++ Marked (Wrote (Txn by) place) ∷ [])) now
  put-true before now has true_ = record {
    faithful = subst (λ (entries : List Entry). IsFaithful entries now) (sym (marked-book trail (Wrote (Txn by) place)))
        (elsewhere-faithful before now (put-elsewhere place (bytes_of file) before now has) true_.faithful);
    marks = subst (MarksStand (trail ++ Marked (Wrote (Txn by) place) ∷ [])) (sym has.tree_is)
        (put-marks-stand profile trail before.tree by.0 is.info is.effect is.write place (bytes_of file) fitting changing
        (record { file = file; among = is.is_one; place_is = is.place_is; bytes_are = refl }) true_.marks);
    jobs =
        own-job-marks profile trail before.tree now.tree by.0 place (Marked (Wrote (Txn by) place)) (is-short trail fit) owner refl unended
        (put-elsewhere place (bytes_of file) before now has) true_.jobs;
  }

  torn-true : (count : ℕ) (before now : Store) → TornFile place before now → StandsByMarks trail book before
      → StandsByMarks (trail ++ Marked (Broke (Some (Txn by)) true count) ∷ []) (book_of (trail ++ Marked (Broke (Some (Txn by)) true count) ∷ [])) now
  torn-true count before now torn true_ = record {
    faithful = subst (λ (entries : List Entry). IsFaithful entries now) (sym (marked-book trail (Broke (Some (Txn by)) true count)))
        (torn-faithful before now torn true_.faithful);
    marks = broken-marks-stand profile trail before.tree now.tree by.0 place true count fitting owner (torn-elsewhere place before now torn) true_.marks;
    jobs =
        own-job-marks profile trail before.tree now.tree by.0 place (Marked (Broke (Some (Txn by)) true count)) (is-short trail fit) owner refl unended
        (torn-elsewhere place before now torn) true_.jobs;
  }

  -- so what becomes of a house that is told is right
  pub puts-truly : PutsTruly trail (Txn by) place (bytes_of file)
  puts-truly = record { put = put-true; torn = torn-true; faithful = torn-faithful }

-- ---- in a house

module _ {D : Type 0} (told : D → Option Store) (by : TxnId) (place : Place) (file : OutFile) (before : House D) (whole : IsWhole told before) where
  pub meant-puts : (IsToldHouse told before → IsMeantFile (entries_of before) by place file)
      → IsToldHouse told before → PutsTruly (trail_of before.trail) (Txn by) place (bytes_of file)
  meant-puts meant_ is =
      puts-truly (trail_of before.trail) by place file (subst AllFitting (sym (house-book before)) whole.ready.fit)
      (omega (arith, ap length (house-book before), whole.ready.kept.few))
      (subst (λ (book : List Entry). IsMeantFile book by place file) (sym (house-book before)) (meant_ is))
