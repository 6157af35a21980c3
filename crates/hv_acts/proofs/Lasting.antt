-- What acts ask of a trail is true of every longer one.
use Rattle.std.proofs.Common.{◌≡◌, inl, inr, ℕ, true, false, Option, Some, None, List, [], ◌∷◌, ◌++◌, refl, sym, ap, ◌∙◌, subst, append_assoc}
use Rattle.std.specs.Prelude.{IsSomeAnd, Contains}
use Rattle.std.proofs.lemmas.List.Elements.{Contains-append_left}
use Rattle.hv_base.specs.declared.ids.TxnId.{TxnId}
use Rattle.hv_base.specs.declared.ids.TableId.{TableId}
use Rattle.hv_base.specs.declared.ids.Touch.{Touch}
use Rattle.hv_shelf.specs.declared.place.Place.{Place}
use Rattle.hv_logic.specs.declared.catalog.TableInfo.{TableInfo}
use Rattle.hv_logic.specs.declared.meaning.Meaning.{Meaning}
use Rattle.hv_logic.specs.declared.meaning.Meaning.TheVariants.{Change, Make, Unmake, Ask, Refused, Twice, RowLimit, PartitionLimit}
use Rattle.hv_route.specs.declared.files.OutFile.{OutFile}
use Rattle.hv_history.specs.declared.entry.Cause.{Cause}
use Rattle.hv_history.specs.declared.entry.Cause.TheVariants as cause
use Rattle.hv_history.specs.declared.state.Table.{Table}
use Rattle.hv_history.specs.State.{numbered}
use Rattle.hv_history.specs.Lasting.{IsFront, TableLater}
use Rattle.hv_trail.specs.declared.trail.Reader.TheVariants.{Txn}
use Rattle.hv_trail.specs.declared.trail.Mark.TheVariants.{Broke}
use Rattle.hv_trail.specs.declared.trail.TrailItem.{TrailItem}
use Rattle.hv_trail.specs.declared.trail.TrailItem.TheVariants.{Marked}
use Rattle.hv_trail.specs.Trail.{state_at}
use Rattle.hv_trail.specs.Lasting.{Has, IsGiven}
use Rattle.hv_trail.proofs.LastingLaws.{goes-on-front, lasts, given-keeps}
use Rattle.hv_acts.specs.Answers.{HasItsMark}
use Rattle.hv_acts.specs.Putting.{HasIdFor}
use Rattle.hv_acts.specs.Committing.{IsOfItsChange, CanBePut}
use Rattle.hv_acts.specs.declared.compacting.AskFor.{AskFor}
use Rattle.hv_acts.specs.Compacting.{IsJobDue}
use Rattle.hv_acts.proofs.Passed.{asked-lasts}
use Rattle.hv_acts.specs.Meant.{HasMeant, IsFileMeant, IsIdDue, IsCommitDue, IsMakeMeant, IsDropMeant, IsAbortDue}

same-info : (info : TableInfo) (t u : Table) → TableLater t u → t.info ≡ info → u.info ≡ info
same-info info t u later is = later.info ∙ is

info-stays : (info : TableInfo) (o p : Option Table) → ((t : Table) → o ≡ Some t → IsSomeAnd p (TableLater t))
    → IsSomeAnd o (λ (table : Table). table.info ≡ info) → IsSomeAnd p (λ (table : Table). table.info ≡ info)
info-stays info None p goes is = absurd is
info-stays info (Some t) None goes is = absurd (goes t refl)
info-stays info (Some t) (Some u) goes is = same-info info t u (goes t refl) is

module _ (before now : List TrailItem) (front : IsFront before now) where
  item-lasts : (item : TrailItem) → Contains before item → Contains now item
  item-lasts item has = subst (λ (trail : List TrailItem). Contains trail item) (sym front.is) (Contains-append_left before front.more item has)

  given-lasts : (txn table write : ℕ) → Has before txn (IsGiven table write) → Has now txn (IsGiven table write)
  given-lasts txn table write has = lasts (IsGiven table write) (given-keeps table write) before now txn (goes-on-front before now front) has

  pub mark-lasts : (txn : TxnId) (why : Cause) → HasItsMark before txn why → HasItsMark now txn why
  mark-lasts txn (cause.ReadFault count) has = item-lasts (Marked (Broke (Some (Txn txn)) false count)) has
  mark-lasts txn (cause.WriteFault count) has = item-lasts (Marked (Broke (Some (Txn txn)) true count)) has
  mark-lasts txn (cause.Refused number) has = tt
  mark-lasts txn (cause.Conflict by table partition) has = tt
  mark-lasts txn (cause.Request by) has = tt
  mark-lasts txn cause.Full has = tt
  mark-lasts txn (cause.Twice partition row) has = tt
  mark-lasts txn (cause.Blocked holder) has = tt
  mark-lasts txn (cause.Damaged place) has = tt
  mark-lasts txn cause.RowLimit has = tt
  mark-lasts txn cause.PartitionLimit has = tt
  mark-lasts txn cause.Memory has = tt
  mark-lasts txn cause.Lost has = tt
  mark-lasts txn cause.Rollback has = tt

  pub id-lasts : (by : TxnId) (place : Place) (file : OutFile) → HasIdFor before by place file → HasIdFor now by place file
  id-lasts by place file has = record {
    table = has.table;
    write = has.write;
    given = given-lasts by.0 has.table has.write has.given;
    place_is = has.place_is;
  }

  change-lasts : (txn : TxnId) (wrote : List Touch) (places : List Place) → IsOfItsChange before txn wrote places → IsOfItsChange now txn wrote places
  change-lasts txn wrote places is = record {
    info = is.info;
    here =
        info-stays is.info (numbered (state_at before).tables is.info.table.0) (numbered (state_at now).tables is.info.table.0)
        ((goes-on-front before now front).history.tables is.info.table.0) is.here;
    effect = is.effect;
    write = is.write;
    touches = is.touches;
    given = given-lasts txn.0 is.info.table.0 is.write is.given;
    places_are = is.places_are;
  }

  pub put-lasts : (txn : TxnId) (wrote : List Touch) (places : List Place) → CanBePut before txn wrote places → CanBePut now txn wrote places
  put-lasts txn wrote places (inl none) = inl none
  put-lasts txn wrote places (inr is) = inr (change-lasts txn wrote places is)

  -- what it means
  meant-lasts : (txn : TxnId) (given : List (ℕ × ℕ)) (means : Meaning) → HasMeant before txn given means → HasMeant now txn given means
  meant-lasts txn given means has = record {
    then_ = has.then_;
    front = record {
      more = has.front.more ++ front.more;
      is = front.is ∙ ap (λ (trail : List TrailItem). trail ++ front.more) has.front.is ∙ append_assoc has.then_ has.front.more front.more;
    };
    was = has.was;
  }

  pub file-lasts : (by : TxnId) (place : Place) (file : OutFile) → IsFileMeant before by place file → IsFileMeant now by place file
  file-lasts by place file is = record {
    info = is.info;
    effect = is.effect;
    write = is.write;
    change = meant-lasts by ((is.info.table.0, is.write) ∷ []) (Change is.info is.effect) is.change;
    is_one = is.is_one;
    place_is = is.place_is;
  }

  pub due-lasts : (txn : TxnId) (table : TableId) → IsIdDue before txn table → IsIdDue now txn table
  due-lasts txn table is = record {
    info = is.info;
    effect = is.effect;
    change = meant-lasts txn [] (Change is.info is.effect) is.change;
    of_table = is.of_table;
    some = is.some;
  }

  pub job-lasts : (asked : AskFor) → IsJobDue before asked → IsJobDue now asked
  unfolding meant-lasts
  job-lasts asked is = record {
    ask = meant-lasts asked.by [] (Ask asked.table asked.partition asked.kind) is.ask;
    started = is.started;
  }

  pub commit-lasts : (txn : TxnId) (wrote : List Touch) (places : List Place) → IsCommitDue before txn wrote places → IsCommitDue now txn wrote places
  unfolding meant-lasts
  commit-lasts txn wrote places (inl is) =
      inl (record {
        means = is.means;
        meant_it = meant-lasts txn [] is.means is.meant_it;
        touches = is.touches;
        none = is.none;
        asked = asked-lasts before now front txn is.meant_it.was.place is.meant_it.was.said is.means is.asked;
      })
  commit-lasts txn wrote places (inr is) = inr (record {
    info = is.info;
    effect = is.effect;
    write = is.write;
    change = meant-lasts txn ((is.info.table.0, is.write) ∷ []) (Change is.info is.effect) is.change;
    touches = is.touches;
    places_are = is.places_are;
    held = is.held;
    encoded = is.encoded;
  })

  pub make-lasts : (txn : TxnId) → IsMakeMeant before txn → IsMakeMeant now txn
  make-lasts txn is = record { shape = is.shape; make = meant-lasts txn [] (Make is.shape) is.make }

  pub drop-lasts : (txn : TxnId) (table : TableId) → IsDropMeant before txn table → IsDropMeant now txn table
  drop-lasts txn table is = meant-lasts txn [] (Unmake table) is

  pub abort-lasts : (txn : TxnId) (why : Cause) → IsAbortDue before txn why → IsAbortDue now txn why
  abort-lasts txn (cause.Refused number) is = (is.0, is.1, meant-lasts txn [] (Refused is.0) is.2)
  abort-lasts txn cause.RowLimit is = meant-lasts txn [] RowLimit is
  abort-lasts txn cause.PartitionLimit is = meant-lasts txn [] PartitionLimit is
  abort-lasts txn cause.Memory is = tt
  abort-lasts txn (cause.ReadFault count) is = tt
  abort-lasts txn (cause.WriteFault count) is = tt
  abort-lasts txn (cause.Damaged place) is = tt
  abort-lasts txn (cause.Conflict by table partition) is = absurd is
  abort-lasts txn (cause.Request by) is = absurd is
  abort-lasts txn cause.Full is = absurd is
  abort-lasts txn (cause.Twice partition row) is = meant-lasts txn [] (Twice partition row) is
  abort-lasts txn (cause.Blocked holder) is = absurd is
  abort-lasts txn cause.Lost is = absurd is
  abort-lasts txn cause.Rollback is = absurd is
