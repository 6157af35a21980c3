-- What a held statement can be finished by is so still, whatever others add.
use Rattle.std.proofs.Common.{◌≡◌, inl, inr, ℕ, ◌≤◌, Option, Some, None, List, [], ◌∷◌, length, take, refl, sym, ap, ◌∙◌, subst, length-append, arith}
use Rattle.std.specs.Prelude.{IsSomeAnd}
use Rattle.std.proofs.lemmas.List.{take-append-le}
use Rattle.hv_base.specs.declared.ids.TxnId.{TxnId}
use Rattle.hv_base.specs.declared.ids.Touch.{Touch}
use Rattle.hv_shelf.specs.declared.place.Place.{Place}
use Rattle.hv_shelf.specs.Disk.{Store}
use Rattle.hv_ast.specs.declared.statement.Stmt.{Stmt}
use Rattle.hv_logic.specs.declared.catalog.TableInfo.{TableInfo}
use Rattle.hv_logic.specs.declared.effect.Effect.{Effect}
use Rattle.hv_logic.specs.declared.meaning.Meaning.{Meaning}
use Rattle.hv_logic.specs.declared.meaning.Meaning.TheVariants.{Listing, Change, Make, Unmake, Refused, Twice, RowLimit, PartitionLimit, Plain, Ask}
use Rattle.hv_history.specs.declared.entry.Entry.{Entry}
use Rattle.hv_history.specs.declared.state.Table.{Table}
use Rattle.hv_history.specs.State.{state_of, numbered}
use Rattle.hv_history.specs.Lasting.{IsFront, TableLater}
use Rattle.hv_stands.specs.Running.{Asking, meant}
use Rattle.hv_trail.specs.Trail.{book_of}
use Rattle.hv_trail.proofs.LastingLaws.{goes-on-front}
use Rattle.hv_actor.specs.Acting.{IsLater}
use Rattle.hv_beginning.specs.hv_steps.specs.hv_table_reader.specs.hv_acts.specs.hv_telling.specs.Telling.{IsTold, IsToldHouse}
use Rattle.hv_beginning.specs.hv_steps.specs.hv_table_reader.specs.hv_acts.specs.declared.told.ToldHouse.{ToldHouse}
use Rattle.hv_beginning.specs.hv_steps.specs.hv_table_reader.specs.hv_acts.specs.Told.{seen_in, trail_in, book_in}
use Rattle.hv_beginning.specs.hv_steps.specs.hv_table_reader.specs.hv_acts.proofs.Lasting.{put-lasts, make-lasts, drop-lasts}
use Rattle.hv_beginning.specs.hv_steps.specs.hv_table_reader.specs.hv_acts.proofs.Passed.{asked-lasts}
use Rattle.hv_beginning.specs.hv_steps.specs.Ending.{CanChange, CanEnd}
use Rattle.hv_beginning.specs.hv_steps.specs.declared.ready.Way.{Way}
use Rattle.hv_beginning.specs.hv_steps.specs.declared.ready.End.{End}
use Rattle.hv_beginning.specs.hv_steps.specs.declared.ready.End.TheVariants as end
use Rattle.hv_session.specs.declared.paused.Point.{Point}
use Rattle.hv_session.specs.declared.paused.Point.TheVariants as point
use Rattle.hv_session.specs.declared.paused.Paused.{Paused}
use Rattle.hv_beginning.specs.hv_steps.specs.Going.{WasOnWay}
use Rattle.hv_beginning.specs.hv_steps.specs.Phases.{ComesTo, IsDueSo, CanConclude}
use Rattle.hv_session.specs.Doing.{CanGoOn, CanFinish}
use Rattle.hv_beginning.specs.hv_steps.proofs.Joining.{book-front, front-more, way-lasts, opened-lasts}
use Rattle.hv_beginning.specs.hv_steps.proofs.Ids.{meant-lasts}

module _ {D : Type 0} (told : D → Option Store) (before now : ToldHouse D) (front : IsFront (trail_in before) (trail_in now))
    (earlier : IsToldHouse told now.house → IsToldHouse told before.house) where
  -- ---- what it comes to

  -- a table stays with its description
  change-lasts : (info : TableInfo) (effect : Effect) → CanChange (book_in before) info effect → CanChange (book_in now) info effect
  change-lasts info effect can =
      by (numbered (state_of (book_in now)).tables info.table.0) refl
      ((goes-on-front (trail_in before) (trail_in now) front).history.tables info.table.0 can.table can.here)
    where
      by : (o : Option Table) → numbered (state_of (book_in now)).tables info.table.0 ≡ o → IsSomeAnd o (TableLater can.table) → CanChange (book_in now) info effect
      by None e later = absurd later
      by (Some t) e later = record { table = t; here = e; same = later.info ∙ can.same; within = can.within; fit = can.fit }

  end-lasts : (meaning : Meaning) → CanEnd (book_in before) meaning → CanEnd (book_in now) meaning
  end-lasts (Change info effect) can = change-lasts info effect can
  end-lasts (Listing names rows) can = tt
  end-lasts (Make shape) can = tt
  end-lasts (Unmake table) can = tt
  end-lasts (Refused why) can = tt
  end-lasts (Twice region row) can = can
  end-lasts RowLimit can = tt
  end-lasts PartitionLimit can = tt
  end-lasts Plain can = tt
  end-lasts (Ask asked region kind) can = can

  -- its snapshot stands in the front
  early : (asking : Asking) (way : Way) (said : Stmt) → WasOnWay (trail_in before) asking way said → way.place ≤ length (book_in before)
  early asking way said was =
      subst (λ (book : List Entry). way.place ≤ length book) (sym (book-front was.then_ (trail_in before) was.front))
      (subst (λ (n : ℕ). way.place ≤ n) (sym (length-append (book_of was.then_) (book_of was.front.more))) (omega (arith, was.was.early)))

  means-still : (asking : Asking) (way : Way) (said : Stmt) → WasOnWay (trail_in before) asking way said
      → meant (take way.place (book_in now)) said ≡ meant (take way.place (book_in before)) said
  means-still asking way said was =
      ap (λ (book : List Entry). meant book said)
      (ap (take way.place) (book-front (trail_in before) (trail_in now) front)
      ∙ take-append-le way.place (book_in before) (book_of front.more) (early asking way said was))

  pub comes-lasts : (asking : Asking) (way : Way) (said : Stmt) (meaning : Meaning) → WasOnWay (trail_in before) asking way said
      → ComesTo told before way said meaning → ComesTo told now way said meaning
  comes-lasts asking way said meaning was comes =
      record { can = end-lasts meaning comes.can; truly = λ is. means-still asking way said was ∙ comes.truly (earlier is) }

  -- ---- how it can be concluded

  due-lasts : (txn : TxnId) (wrote : List Touch) (name : List ℕ) (places : List Place) (text : List ℕ)
      → IsDueSo (trail_in before) txn wrote name places text → IsDueSo (trail_in now) txn wrote name places text
  due-lasts txn wrote name places text (inl is) = inl (
    record {
      means = is.0.means;
      meant_it = record {
        then_ = is.0.meant_it.then_;
        front = front-more is.0.meant_it.then_ (trail_in before) (trail_in now) is.0.meant_it.front front;
        was = is.0.meant_it.was;
      };
      touches = is.0.touches;
      none = is.0.none;
      asked = asked-lasts (trail_in before) (trail_in now) front txn is.0.meant_it.was.place is.0.meant_it.was.said is.0.means is.0.asked;
    },
    is.1,
  )
  due-lasts txn wrote name places text (inr is) = inr (
    record {
      info = is.0.info;
      effect = is.0.effect;
      write = is.0.write;
      change = meant-lasts (trail_in before) (trail_in now) front txn ((is.0.info.table.0, is.0.write) ∷ []) (Change is.0.info is.0.effect) is.0.change;
      touches = is.0.touches;
      places_are = is.0.places_are;
      held = is.0.held;
      encoded = is.0.encoded;
    },
    is.1,
    is.2,
  )

  pub concluding-lasts : (way : Way) (last : End) (text : List ℕ) → CanConclude told before way last text → CanConclude told now way last text
  concluding-lasts way (end.Commit wrote name put) text can = (
    can.0,
    put-lasts (trail_in before) (trail_in now) front way.txn wrote put can.1,
    λ is. due-lasts way.txn wrote name put text (can.2 (earlier is)),
  )
  concluding-lasts way end.Create text can = (λ is. make-lasts (trail_in before) (trail_in now) front way.txn (can.0 (earlier is)), can.1)
  concluding-lasts way (end.Drop table) text can = (λ is. drop-lasts (trail_in before) (trail_in now) front way.txn table (can.0 (earlier is)), can.1)

  -- ---- how it can go on

  going-lasts : (way : Way) (said : Stmt) (at : Point) → CanGoOn told before way said at → CanGoOn told now way said at
  going-lasts way said point.Started can = (can.0, way-lasts can.0 way said (trail_in before) (trail_in now) front can.1)
  going-lasts way said (point.Meant meaning) can =
      (can.0, way-lasts can.0 way said (trail_in before) (trail_in now) front can.1, comes-lasts can.0 way said meaning can.1 can.2)
  going-lasts way said (point.Ready ready) can =
      (opened-lasts way.txn.0 (trail_in before) (trail_in now) front can.0, concluding-lasts way ready.end ready.text can.1)

  pub finishing-lasts : (paused : Paused) → CanFinish told before paused → CanFinish told now paused
  finishing-lasts paused can = going-lasts paused.way paused.tree paused.point can

pub later-finishes : {D : Type 0} (told : D → Option Store) (faults : D → ℕ) (before now : ToldHouse D) → IsLater faults (seen_in before) (seen_in now)
    → (paused : Paused) → CanFinish told before paused → CanFinish told now paused
later-finishes told faults before now later paused can =
    finishing-lasts told before now (record { more = later.added; is = later.trail }) (λ is. subst (IsTold told) later.rest.start is) paused can
