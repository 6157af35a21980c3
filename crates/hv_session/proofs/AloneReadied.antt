-- Where others add nothing, a statement that asked for aborts and is ready is under way still, and its end can be noted and is what it means.
use Rattle.std.proofs.Common.{◌≡◌, ◌⊎◌, inl, inr, ℕ, Option, Some, List, [], ◌++◌, take, ◌∷◌, refl, sym, ap, ◌∙◌, subst, append-nil}
use Rattle.std.specs.List.{AllByRecursion}
use Rattle.hv_shelf.specs.Disk.{Store}
use Rattle.hv_ast.specs.declared.statement.Stmt.{Stmt}
use Rattle.hv_logic.specs.declared.meaning.Meaning.{Meaning}
use Rattle.hv_logic.specs.declared.meaning.Meaning.TheVariants.{Change, Make, Unmake, Plain}
use Rattle.hv_history.specs.declared.entry.Entry.{Entry}
use Rattle.hv_history.specs.Answers.{ok_line}
use Rattle.hv_history.specs.declared.state.Transaction.{Transaction}
use Rattle.hv_history.specs.State.{meaning, state_of, nothing_yet}
use Rattle.hv_history.specs.Legal.{Of, IsRunning, HasAsked, AllFit, profile}
use Rattle.hv_stands.specs.Running.{Asking, meant, IsUnderWay}
use Rattle.hv_trail.specs.declared.trail.TrailItem.{TrailItem}
use Rattle.hv_trail.specs.Trail.{book_of, state_at}
use Rattle.hv_beginning.specs.hv_steps.specs.hv_table_reader.specs.hv_acts.specs.hv_telling.specs.hv_house.specs.House.{entries_of}
use Rattle.hv_beginning.specs.hv_steps.specs.hv_table_reader.specs.hv_acts.specs.declared.told.ToldHouse.{ToldHouse}
use Rattle.hv_beginning.specs.hv_steps.specs.hv_table_reader.specs.hv_acts.specs.Told.{IsWholeOrClosed, trail_in}
use Rattle.hv_beginning.specs.hv_steps.specs.hv_table_reader.specs.hv_acts.specs.hv_telling.specs.Telling.{IsToldHouse}
use Rattle.hv_beginning.specs.hv_steps.specs.hv_table_reader.specs.hv_acts.specs.Meant.{IsChangeDue, IsMakeMeant}
use Rattle.hv_beginning.specs.hv_steps.specs.hv_table_reader.specs.hv_acts.proofs.Steps.{book-is}
use Rattle.hv_beginning.specs.hv_steps.specs.hv_table_reader.specs.hv_acts.proofs.Truths.{asked-other, asked-here}
use Rattle.hv_beginning.specs.hv_steps.specs.declared.ready.Way.{Way}
use Rattle.hv_beginning.specs.hv_steps.specs.declared.ready.Ready.{Ready}
use Rattle.hv_beginning.specs.hv_steps.specs.declared.ready.End.{End}
use Rattle.hv_beginning.specs.hv_steps.specs.declared.ready.End.TheVariants as end
use Rattle.hv_beginning.specs.hv_steps.specs.declared.reply.Prepared.TheVariants as prepared
use Rattle.hv_beginning.specs.hv_steps.specs.Ending.{EndCanBeNoted, EndIsTrue, IsReadyToEnd, IsTrulyReady, CanEnd, idle_end}
use Rattle.hv_beginning.specs.hv_steps.specs.Going.{faults_in, Gains}
use Rattle.hv_beginning.specs.hv_steps.specs.Phases.{Prepares, PreparesTo, PreparesAsked, IsDueSo, CanConclude}
use Rattle.hv_beginning.specs.hv_steps.specs.Requests.{IsAskIn}
use Rattle.hv_session.specs.Alone.{AddsNothing, HasGained, IsPreparedAlone, on_its_way}
use Rattle.hv_session.specs.Ways.{AddsInOrder}
use Rattle.hv_beginning.specs.hv_steps.proofs.Shorts.{short_idle}
use Rattle.hv_beginning.specs.hv_steps.proofs.Standing.{means-still}
use Rattle.hv_beginning.specs.hv_steps.proofs.Touched.{nothing-touched}
use Rattle.hv_session.proofs.Orders.{prepared-in-order}
use Rattle.hv_session.proofs.Takings.{never-ended}
use Rattle.hv_session.proofs.AloneAsks.{AsksStand, asks-stand}
use Rattle.hv_session.proofs.AloneBooks.{adds-alone}
use Rattle.hv_session.proofs.AloneEnds.{way-runs}
use Rattle.hv_session.proofs.AlonePrepares.{prepares-alone}
use Rattle.hv_actor.specs.Acting.{known}

-- ---- it has asked for all aborts that its text lists

at-trail : {D : Type 0} (now : ToldHouse D) (P : List Entry → Type 0) → P (entries_of now.house) → P (book_of (trail_in now))
at-trail now P holds = subst P (sym (book-is now.house)) holds

asked-so : {D : Type 0} (told : D → Option Store) (now : ToldHouse D) (way : Way) (last : End) (text : List ℕ) → CanConclude told now way last text → IsToldHouse told now.house
    → Of (state_at (trail_in now)) way.txn.0 IsRunning
    → Of (state_at (trail_in now)) way.txn.0 (λ (t : Transaction). HasAsked (state_at (trail_in now)) way.txn.0 t (meaning t))
asked-so told now way (end.Commit wrote name put) text can is runs = by (can.2 is)
  where
    by : IsDueSo (trail_in now) way.txn wrote name put text
        → Of (state_at (trail_in now)) way.txn.0 (λ (t : Transaction). HasAsked (state_at (trail_in now)) way.txn.0 t (meaning t))
    by (inl idle) = asked-here (trail_in now) way.txn runs wrote idle.0
    by (inr due) =
        let change : IsChangeDue (trail_in now) way.txn wrote put = due.0 in
        asked-other (trail_in now) way.txn runs ((change.info.table.0, change.write) ∷ []) (Change change.info change.effect) change.change refl
asked-so told now way end.Create text can is runs =
    let make : IsMakeMeant (trail_in now) way.txn = can.0 is in
    asked-other (trail_in now) way.txn runs [] (Make make.shape) make.make refl
asked-so told now way (end.Drop table) text can is runs = asked-other (trail_in now) way.txn runs [] (Unmake table) (can.0 is) refl

pub asked-at : {D : Type 0} (told : D → Option Store) (now : ToldHouse D) (way : Way) (asking : Asking) (said : Stmt) (ready : Ready)
    → IsReadyToEnd (entries_of now.house) asking way.txn.0 way.place said ready → CanConclude told now way ready.end ready.text → IsToldHouse told now.house
    → Of (state_of (entries_of now.house)) way.txn.0 (λ (t : Transaction). HasAsked (state_of (entries_of now.house)) way.txn.0 t (meaning t))
asked-at told now way asking said ready stands can is =
    subst (λ (b : List Entry). Of (state_of b) way.txn.0 (λ (t : Transaction). HasAsked (state_of b) way.txn.0 t (meaning t))) (book-is now.house)
    (asked-so told now way ready.end ready.text can is
    (at-trail now (λ (b : List Entry). Of (state_of b) way.txn.0 IsRunning)
    (way-runs (entries_of now.house) asking way.txn.0 way.place said stands.given stands.under_way)))

-- what stands of it
pub record IsReadiedAlone {D : Type 0} (asking : Asking) (said : Stmt) (way : Way) (meaning : Meaning) (before now : ToldHouse D) (ready : Ready) : Type 0 where
  pub stands : IsReadyToEnd (entries_of now.house) asking way.txn.0 way.place said ready
  pub truly : meant (take way.place (entries_of before.house)) said ≡ Some meaning → IsTrulyReady (entries_of now.house) asking way.txn.0 way.place said ready
  pub in_order : meant (take way.place (entries_of before.house)) said ≡ Some meaning → AddsInOrder (entries_of before.house) (entries_of now.house)

module _ {D : Type 0} (told : D → Option Store) (faults : D → ℕ) (B : List TrailItem → Type 0) (none : AddsNothing B) (own own' : List ℕ) (before now : ToldHouse D)
    (way : Way) (said : Stmt) (meaning : Meaning) (kept : IsWholeOrClosed told now.house) (can : CanEnd (entries_of before.house) meaning) (ready : Ready)
    (gains : Gains faults B (faults_in faults before) way.txn.0 (known own before) (known own' now)
    (PreparesAsked way.txn.0 now (IsAskIn now way said) meaning (prepared.Ready ready)))
    (asking : Asking) (under : IsUnderWay (entries_of before.house) asking way.txn.0 way.place said []) where
  abbrev old_book : List Entry
  old_book = entries_of before.house

  -- it asked for none
  prepared-alone : Prepares way.txn.0 now meaning (prepared.Ready ready) gains.added
      → IsPreparedAlone faults (on_its_way asking said way) meaning before now (prepared.Ready ready)
  prepared-alone so =
      prepares-alone told faults B none asking said way own own' before now meaning (prepared.Ready ready) under can kept (record {
        added = gains.added;
        adds = gains.adds;
        of_it = gains.of_it;
        counts = gains.counts;
        is = so;
        running = gains.running;
      })

  unasked : Prepares way.txn.0 now meaning (prepared.Ready ready) gains.added → IsReadiedAlone asking said way meaning before now ready
  unasked so =
      let is : IsPreparedAlone faults (on_its_way asking said way) meaning before now (prepared.Ready ready) = prepared-alone so in
      record {
        stands = is.stands;
        truly = is.truly;
        in_order = λ means. (
          is.prepares.added,
          is.prepares.book,
          prepared-in-order old_book asking way.txn.0 way.place said under meaning means (entries_of now.house) is.prepares.added is.prepares.book is.asked is.prepares.shape,
        );
      }

  -- it asked for these, and comes to nothing else
  module _ (asks : List Entry) (stand : AsksStand asking way.txn.0 way.place said old_book asks) (book : entries_of now.house ≡ old_book ++ asks)
      (plain : meaning ≡ Plain) (end_is : ready.end ≡ idle_end) (text_is : ready.text ≡ ok_line) where
    abbrev asked-stands : IsReadyToEnd (entries_of now.house) asking way.txn.0 way.place said ready
    asked-stands = record {
      given = [];
      under_way = subst (λ (b : List Entry). IsUnderWay b asking way.txn.0 way.place said []) (sym book) stand.under_way;
      can = subst (EndCanBeNoted (entries_of now.house) way.txn.0 []) (sym end_is)
          (record { small = short_idle way.txn.0; touched = nothing-touched; change = inl refl });
    }

    asked-true : (m : Option Meaning) → m ≡ Some Plain → EndIsTrue m [] ready.end ready.text
    asked-true m is =
        subst (λ (o : Option Meaning). EndIsTrue o [] ready.end ready.text) (sym is)
        (subst (λ (e : End). EndIsTrue (Some Plain) [] e ready.text) (sym end_is)
        (record { meant = refl; reply = text_is; files_are = inl (refl, refl) }))

    asked-ready : IsReadiedAlone asking said way meaning before now ready
    asked-ready = record {
      stands = asked-stands;
      truly = λ means. record {
        to_end = asked-stands;
        truly = asked-true (meant (take way.place (entries_of now.house)) said)
            (ap (λ (b : List Entry). meant (take way.place b) said) book ∙ means-still old_book asking way.txn.0 way.place said [] under asks ∙ means
            ∙ ap (λ (m : Meaning). Some m) plain);
      };
      in_order = λ means. (asks, book, stand.in_order);
    }

  gained : HasGained faults before now gains.added
  gained = adds-alone faults B none own own' before now gains.added gains.adds

  all-fit : AllFit profile nothing_yet (entries_of now.house)
  all-fit = (kept.whole gains.running).ready.fit

  asked-by : (asks more : List Entry) → gains.added ≡ asks ++ more → AllByRecursion (IsAskIn now way said) asks → Prepares way.txn.0 now meaning (prepared.Ready ready) more
      → (asks ≡ []) ⊎ (meaning ≡ Plain) → IsReadiedAlone asking said way meaning before now ready
  asked-by asks more is all prepares (inl no_ask) =
      unasked (subst (λ (es : List Entry). Prepares way.txn.0 now meaning (prepared.Ready ready) es) (sym (is ∙ ap (λ (es : List Entry). es ++ more) no_ask)) prepares)
  asked-by asks more is all prepares (inr plain) =
      let so : PreparesTo way.txn.0 Plain ready more = subst (λ (m : Meaning). PreparesTo way.txn.0 m ready more) plain prepares in
      let whole : entries_of now.house ≡ old_book ++ (asks ++ []) =
      gained.book ∙ ap (λ (es : List Entry). old_book ++ es) (is ∙ ap (λ (es : List Entry). asks ++ es) so.0) in
      let stand : AsksStand asking way.txn.0 way.place said old_book asks =
      asks-stand (trail_in now) (subst (AllFit profile nothing_yet) (sym (book-is now.house)) all-fit) asking way.txn.0 way.place said asks old_book []
      (book-is now.house ∙ whole) under all in
      asked-ready asks stand (whole ∙ ap (λ (es : List Entry). old_book ++ es) (append-nil asks)) plain so.1.0 so.1.1

  by-gains : PreparesAsked way.txn.0 now (IsAskIn now way said) meaning (prepared.Ready ready) gains.added → IsReadiedAlone asking said way meaning before now ready
  by-gains (inl is) = asked-by is.0 is.1 is.2 is.3 is.4 is.5
  by-gains (inr is) = absurd (never-ended ready is.0 is.1)

  pub readied-alone : IsReadiedAlone asking said way meaning before now ready
  readied-alone = by-gains gains.is
