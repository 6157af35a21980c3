-- A call behind one that made room: what is said of a house with room holds of the house before.
use Rattle.std.proofs.Common.{◌≡◌, ◌≤◌, ℕ, Option, None, Result, Ok, Err, List, [], ◌∷◌, ◌++◌, refl, sym, ap, ◌∙◌, subst}
use Rattle.std.specs.Prelude.{IfOk, IfErr}
use Rattle.hv_base.specs.declared.ids.Limits.{Limits}
use Rattle.hv_base.specs.Faults.{Rose}
use Rattle.hv_shelf.specs.declared.place.DirAt.{DirAt}
use Rattle.hv_shelf.specs.Disk.{Store}
use Rattle.hv_history.specs.declared.entry.Entry.{Entry}
use Rattle.hv_history.specs.State.{state_of}
use Rattle.hv_history.specs.Legal.{Fits}
use Rattle.hv_trail.specs.declared.trail.Renaming.{Renaming}
use Rattle.hv_trail.specs.declared.trail.TrailItem.{TrailItem}
use Rattle.hv_trail.specs.Trail.{woven_from}
use Rattle.hv_trail.specs.Kept.{TrailKept, trail_of}
use Rattle.hv_trail.specs.Steps.{HouseSeen, Call, Outcome, Remove, Publish, Step}
use Rattle.hv_house.specs.declared.fault.HouseFault.{HouseFault}
use Rattle.hv_house.specs.declared.house.House.{House}
use Rattle.hv_house.specs.declared.publishing.PublishFault.{PublishFault}
use Rattle.hv_house.specs.declared.publishing.PublishFault.TheVariants as publish
use Rattle.hv_house.specs.Faults.{HasRisen}
use Rattle.hv_house.specs.House.{entries_of, IsReadyWithin}
use Rattle.hv_house.specs.Steps.{seen_of, outcome_of, IsMarkedIn, IsMarked, RemoveStepWithin}
use Rattle.hv_house.specs.Publishing.{IsRoomy, HasRisenPublishing, publish_outcome, measured, PublishStepWithin, HardPublish}
use Rattle.hv_house.proofs.Ready.{asked-ready}
use Rattle.hv_house.proofs.Steps.{same-trail}

-- room for a mark
pub marked-roomy : {D : Type 0} (before : House D) (trail : TrailKept) → trail.entries ≡ before.trail.entries → trail.marks ≡ before.trail.marks
    → trail.opened ≡ before.trail.opened → trail.closed ≡ before.trail.closed → trail.starved ≡ before.trail.starved
    → IsRoomy before (record { start = before.start; shelf = before.shelf; place = before.place; buffer = before.buffer; trail = trail; limits = before.limits })
marked-roomy before trail entries marks left closed starved = record {
  start = refl;
  shelf = refl;
  place = refl;
  entries = entries;
  marks = marks;
  left = left;
  closed = closed;
  starved = starved;
  limits = refl;
}

module _ {D : Type 0} (told : D → Option Store) (faults : D → ℕ) (before mid now : House D) (roomy : IsRoomy before mid) where
  -- those who act see the same
  pub roomy-seen : seen_of mid ≡ seen_of before
  roomy-seen = λ i. record {
    start = (roomy.start i).value;
    trail = woven_from 0 (roomy.entries i) (roomy.marks i);
    opened = roomy.left i;
    shelf = roomy.shelf i;
    closed = roomy.closed i;
    starved = roomy.starved i;
    limits = roomy.limits i;
  }

  pub step-behind : (call : Call) (outcome : Outcome) → Step told faults call outcome (seen_of mid) (seen_of now)
      → Step told faults call outcome (seen_of before) (seen_of now)
  step-behind call outcome step = subst (λ (seen : HouseSeen D). Step told faults call outcome seen (seen_of now)) roomy-seen step

  pub later-behind : faults mid.shelf ≤ faults now.shelf → faults before.shelf ≤ faults now.shelf
  later-behind later = subst (λ (d : D). faults d ≤ faults now.shelf) roomy.shelf later

  risen-behind : (why : HouseFault) → HasRisen (faults mid.shelf) (faults now.shelf) why → HasRisen (faults before.shelf) (faults now.shelf) why
  risen-behind why risen = subst (λ (d : D). HasRisen (faults d) (faults now.shelf) why) roomy.shelf risen

  err-risen : {T : Type 0} (r : Result T HouseFault) → IfErr r (HasRisen (faults mid.shelf) (faults now.shelf))
      → IfErr r (HasRisen (faults before.shelf) (faults now.shelf))
  err-risen (Ok x) risen = tt
  err-risen (Err why) risen = risen-behind why risen

  publish-risen : (r : Result (Unit {0}) PublishFault) → IfErr r (HasRisenPublishing (faults mid.shelf) (faults now.shelf))
      → IfErr r (HasRisenPublishing (faults before.shelf) (faults now.shelf))
  publish-risen (Ok x) risen = tt
  publish-risen (Err publish.Starved) risen = tt
  publish-risen (Err (publish.House why)) risen = risen-behind why risen

  ok-noted : (r : Result (Unit {0}) PublishFault) (event : Entry) → IfOk r (λ _. entries_of now ≡ entries_of mid ++ event ∷ [])
      → IfOk r (λ _. entries_of now ≡ entries_of before ++ event ∷ [])
  ok-noted (Ok x) event is = is ∙ ap (λ es. es ++ event ∷ []) roomy.entries
  ok-noted (Err why) event is = tt

  err-unnoted : (r : Result (Unit {0}) PublishFault) → IfErr r (λ _. entries_of now ≡ entries_of mid) → IfErr r (λ _. entries_of now ≡ entries_of before)
  err-unnoted (Ok x) is = tt
  err-unnoted (Err why) is = is ∙ roomy.entries

-- it is ready where the one before was
pub roomy-ready : {D : Type 0} (limits : Limits) (told : D → Option Store) (before mid : House D) → IsRoomy before mid → IsReadyWithin limits told before
    → IsReadyWithin limits told mid
roomy-ready limits told before mid roomy ready =
    asked-ready limits told before mid (record { store = ap told roomy.shelf; place = roomy.place; book = roomy.entries }) roomy.limits roomy.closed
    roomy.starved ready

pub roomy-fits : {D : Type 0} (limits : Limits) (before mid : House D) → IsRoomy before mid → (event : Entry) → Fits limits (state_of (entries_of before)) event
    → Fits limits (state_of (entries_of mid)) event
roomy-fits limits before mid roomy event fits = subst (λ (book : List Entry). Fits limits (state_of book) event) (sym roomy.entries) fits

pub roomy-marked : {D : Type 0} (before mid : House D) → IsRoomy before mid → (event : Entry) → IsMarked before event → IsMarked mid event
roomy-marked before mid roomy event marked =
    subst (λ (book : List Entry). IsMarkedIn book (trail_of mid.trail) event) (sym roomy.entries)
    (subst (λ (trail : List TrailItem). IsMarkedIn (entries_of before) trail event) (sym (same-trail before mid roomy.entries roomy.marks)) marked)

pub publish-hard : {D : Type 0} (hard : D → ℕ) (before mid now : House D) → IsRoomy before mid → HardPublish hard mid now → HardPublish hard before now
publish-hard {D = D} hard before mid now roomy step = record {
  later = subst (λ (d : D). hard d ≤ hard now.shelf) roomy.shelf step.later;
  shuts = λ was is. subst (λ (d : D). Rose (hard d) (hard now.shelf)) roomy.shelf (step.shuts (roomy.closed ∙ was) is);
}

pub remove-behind : {D : Type 0} (limits : Limits) (told : D → Option Store) (faults : D → ℕ) (dir : DirAt) (before mid now : House D)
    (roomy : IsRoomy before mid) (result : Result (Unit {0}) HouseFault) → RemoveStepWithin limits told faults dir mid now result
    → RemoveStepWithin limits told faults dir before now result
remove-behind limits told faults dir before mid now roomy result removed = record {
  book = removed.book ∙ roomy.entries;
  ready = removed.ready;
  stays = removed.stays;
  marked = removed.marked;
  step = step-behind told faults before mid now roomy (Remove None dir) (outcome_of result) removed.step;
  cause = record {
    later = later-behind told faults before mid now roomy removed.cause.later;
    failed = err-risen told faults before mid now roomy result removed.cause.failed;
  };
}

pub publish-behind : {D : Type 0} (limits : Limits) (told : D → Option Store) (faults : D → ℕ) (renamings : List Renaming) (event : Entry)
    (before mid now : House D) (roomy : IsRoomy before mid) (result : Result (Unit {0}) PublishFault)
    → PublishStepWithin (measured limits told faults) renamings event mid now result
    → PublishStepWithin (measured limits told faults) renamings event before now result
publish-behind limits told faults renamings event before mid now roomy result published = record {
  ready = published.ready;
  noted = ok-noted told faults before mid now roomy result event published.noted;
  unnoted = err-unnoted told faults before mid now roomy result published.unnoted;
  stays = published.stays;
  ends = published.ends;
  step = step-behind told faults before mid now roomy (Publish renamings event) (publish_outcome result) published.step;
  later = later-behind told faults before mid now roomy published.later;
  failed = publish-risen told faults before mid now roomy result published.failed;
}
