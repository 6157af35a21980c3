-- A house between two calls.
use Rattle.std.proofs.Common.{◌≡◌, ◌+◌, ◌<◌, ◌≤◌, Bool, false, Option, Some, None, Result, Ok, Err, OnOk, List, [], ◌∷◌, ◌++◌, length, refl, sym, ap, ◌∙◌, subst, arith, append_assoc, length-append}
use Rattle.std.specs.Prelude.{◌||◌}
use Rattle.hv_base.specs.declared.ids.Limits.{Limits}
use Rattle.hv_base.specs.Told.{Moves}
use Rattle.hv_shelf.specs.Disk.{Store}
use Rattle.hv_history.specs.declared.entry.Entry.{Entry}
use Rattle.hv_history.specs.State.{nothing_yet, state_of}
use Rattle.hv_history.specs.Journal.{place_of, Reads}
use Rattle.hv_history.specs.Legal.{Fits, AllFit}
use Rattle.hv_journal.specs.Appending.{Holds}
use Rattle.hv_trail.specs.Steps.{Call, Outcome, Done, shuts}
use Rattle.hv_stands.specs.Running.{Asking, opening, starting, next_number}
use Rattle.hv_stands.proofs.Fitting.{more-fits, room-within}
use Rattle.hv_house.specs.declared.fault.HouseFault.{HouseFault}
use Rattle.hv_house.specs.declared.fault.HouseFault.TheVariants as fault
use Rattle.hv_house.specs.declared.house.House.{House}
use Rattle.hv_house.specs.Steps.{fault_outcome, GainsBy}
use Rattle.hv_house.specs.House.{entries_of, IsKept, IsReadyWithin, AreNoted, StaysPutWithin, IsAsked, KeepsJournal, BeginFitsWithin, beginning_of}

-- ---- it was only asked, or files were put

module _ {D : Type 0} (limits : Limits) (told : D → Option Store) (before now : House D) where
  same-kept : now.place ≡ before.place → entries_of now ≡ entries_of before → now.trail.closed ≡ before.trail.closed
      → now.trail.starved ≡ before.trail.starved → Holds (told now.shelf) (entries_of before)
      → IsKept told before → IsKept told now
  same-kept place entries closed starved holds kept = record {
    place = place ∙ kept.place ∙ ap place_of (sym entries);
    near = omega (arith, place, kept.near, ap length entries);
    few = omega (arith, kept.few, ap length entries);
    reads = subst (Holds (told now.shelf)) (sym entries) holds;
    running = closed ∙ kept.running;
    fed = starved ∙ kept.fed;
  }

  asked-holds : IsAsked told before now → IsReadyWithin limits told before → Holds (told now.shelf) (entries_of before)
  asked-holds asked ready = subst (λ o. Holds o (entries_of before)) (sym asked.store) ready.kept.reads

  pub asked-ready : IsAsked told before now → now.limits ≡ before.limits → now.trail.closed ≡ before.trail.closed
      → now.trail.starved ≡ before.trail.starved → IsReadyWithin limits told before
      → IsReadyWithin limits told now
  asked-ready asked same closed starved ready = record {
    kept = same-kept asked.place asked.book closed starved (asked-holds asked ready) ready.kept;
    limits_are = same ∙ ready.limits_are;
    within = ready.within;
    fit = subst (AllFit limits nothing_yet) (sym asked.book) ready.fit;
  }

  -- it was read, or that failed
  still-closed : {b : Bool} → IsReadyWithin limits told before → b ≡ before.trail.closed || false → b ≡ before.trail.closed
  still-closed ready same = same ∙ ap (λ c. c || false) ready.kept.running ∙ sym ready.kept.running

  pub read-stays : (call : Call) (why : HouseFault) → IsAsked told before now → GainsBy call (fault_outcome why) before now → IsReadyWithin limits told before → StaysPutWithin limits told why now
  read-stays call fault.NoMemory asked gains ready = asked-ready asked gains.limits (still-closed ready gains.closed) gains.starved ready
  read-stays call (fault.Failed count) asked gains ready = asked-ready asked gains.limits (still-closed ready gains.closed) gains.starved ready
  read-stays call fault.Store asked gains ready = subst (Holds (told now.shelf)) (sym asked.book) (asked-holds asked ready)

  -- a file was put, or that failed
  holds-behind : Moves KeepsJournal (told before.shelf) (told now.shelf) → IsReadyWithin limits told before → Holds (told now.shelf) (entries_of before)
  holds-behind keeps ready = by (told before.shelf) (told now.shelf) keeps ready.kept.reads
    where
      by : (a b : Option Store) → Moves KeepsJournal a b → Holds a (entries_of before) → Holds b (entries_of before)
      by None None keeps holds = tt
      by None (Some t) keeps holds = absurd keeps
      by (Some s) None keeps holds = absurd keeps
      by (Some s) (Some t) keeps holds = subst (Reads (entries_of before)) (sym keeps) holds

  put-kept : {outcome : Outcome} (call : Call) → shuts outcome ≡ false → GainsBy call outcome before now → Moves KeepsJournal (told before.shelf) (told now.shelf)
      → IsReadyWithin limits told before → IsReadyWithin limits told now
  put-kept {outcome = outcome} call open_ gains keeps ready = record {
    kept = same-kept gains.place gains.entries (still-closed ready (gains.closed ∙ ap (λ c. before.trail.closed || c) open_)) gains.starved (holds-behind keeps ready) ready.kept;
    limits_are = gains.limits ∙ ready.limits_are;
    within = ready.within;
    fit = subst (AllFit limits nothing_yet) (sym gains.entries) ready.fit;
  }

  pub put-ready : (call : Call) → GainsBy call Done before now → Moves KeepsJournal (told before.shelf) (told now.shelf) → IsReadyWithin limits told before → IsReadyWithin limits told now
  put-ready call gains keeps ready = put-kept call refl gains keeps ready

  pub put-stays : (call : Call) (why : HouseFault) → GainsBy call (fault_outcome why) before now → Moves KeepsJournal (told before.shelf) (told now.shelf)
      → IsReadyWithin limits told before → StaysPutWithin limits told why now
  put-stays call fault.Store gains keeps ready = subst (Holds (told now.shelf)) (sym gains.entries) (holds-behind keeps ready)
  put-stays call fault.NoMemory gains keeps ready = put-kept call refl gains keeps ready
  put-stays call (fault.Failed count) gains keeps ready = put-kept call refl gains keeps ready

  -- an entry was noted that fits
  pub noted-ready : (event : Entry) → AreNoted told (event ∷ []) before now → now.limits ≡ before.limits → Fits limits (state_of (entries_of before)) event → IsReadyWithin limits told before
      → IsReadyWithin limits told now
  noted-ready event noted same fits ready = record {
    kept = noted.kept;
    limits_are = same ∙ ready.limits_are;
    within = ready.within;
    fit = subst (AllFit limits nothing_yet) (sym noted.entries) (more-fits limits (entries_of before) nothing_yet event ready.fit fits);
  }

  -- and both that begin a statement
  pub begun-ready : (asking : Asking) → AreNoted told (beginning_of (entries_of before) asking) before now → now.limits ≡ before.limits → BeginFitsWithin limits (entries_of before) asking
      → IsReadyWithin limits told before → IsReadyWithin limits told now
  begun-ready asking noted same fits ready =
      let book : List Entry = entries_of before in
      let first : AllFit limits nothing_yet (book ++ opening book asking ∷ []) = more-fits limits book nothing_yet (opening book asking) ready.fit fits.0 in
      let both : AllFit limits nothing_yet ((book ++ opening book asking ∷ []) ++ starting (next_number book) ∷ []) =
      more-fits limits (book ++ opening book asking ∷ []) nothing_yet (starting (next_number book)) first fits.1 in
      record {
        kept = noted.kept;
        limits_are = same ∙ ready.limits_are;
        within = ready.within;
        fit = subst (AllFit limits nothing_yet) (append_assoc book (opening book asking ∷ []) (starting (next_number book) ∷ []) ∙ sym noted.entries) both;
      }

-- ---- of a result

pub on-ok : {T E : Type 0} (result : Result T E) (P Q : Type 0) → (P → Q) → OnOk result P → OnOk result Q
on-ok (Ok x) P Q f h = f h
on-ok (Err why) P Q f h = tt

-- ---- there is room for what fits

pub room-for : (limits : Limits) (book : List Entry) (event : Entry) → limits.entries ≤ 9999999 → AllFit limits nothing_yet book → Fits limits (state_of book) event
    → length book < 9999999
room-for limits book event most fit fits = omega (arith, most, room-within limits book event fit fits)

pub room-begin : (limits : Limits) (book : List Entry) (asking : Asking) → limits.entries ≤ 9999999 → AllFit limits nothing_yet book → BeginFitsWithin limits book asking
    → length book + 2 ≤ 9999999
room-begin limits book asking most fit fits =
    let first : AllFit limits nothing_yet (book ++ opening book asking ∷ []) = more-fits limits book nothing_yet (opening book asking) fit fits.0 in
    let room : length (book ++ opening book asking ∷ []) < limits.entries = room-within limits (book ++ opening book asking ∷ []) (starting (next_number book)) first fits.1 in
    omega (arith, most, room, length-append book (opening book asking ∷ []))
