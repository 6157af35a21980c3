-- The write ids that a walk has seen are those of the table, each as often: so what is added up over their events is what the events of the
-- table add up to, whatever is added up. And each part of a tally is a fold of its own over these events.
use Rattle.std.proofs.Common.{◌≡◌, ℕ, ◌+◌, ◌≤◌, Bool, true, false, Option, Some, None, List, [], ◌∷◌, ◌++◌, length, fold, refl, sym, ap, ◌∙◌, arith}
use Rattle.std.specs.Prelude.{if◌then◌else◌, find}
use Rattle.std.proofs.lemmas.List.{length-append}
use Rattle.std.proofs.lemmas.List.Sums.{fold-append}
use Rattle.hv_base.specs.declared.ids.Touch.{Touch}
use Rattle.hv_jobs.specs.hv_history.specs.declared.state.Table.{Table}
use Rattle.hv_jobs.specs.hv_history.specs.declared.state.Ending.{Ending}
use Rattle.hv_jobs.specs.hv_history.specs.declared.state.Ending.TheVariants.{Committed, Aborted, Made, Dropped}
use Rattle.hv_jobs.specs.hv_history.specs.declared.state.Transaction.{Transaction}
use Rattle.hv_jobs.specs.hv_history.specs.State.{State, numbered}
use Rattle.hv_jobs.specs.hv_history.specs.Jobs.{Events, is_touch_of, is_open_one, events_if, events_by, events_at, events_from, events_in, ids_of, is_up_to}
use Rattle.hv_ids.specs.declared.notes.IdNote.{IdNote}
use Rattle.hv_earlier.specs.hv_meta.specs.hv_book.specs.Commits.{wrote_by, wrote_in}
use Rattle.hv_earlier.specs.hv_meta.specs.hv_book.specs.Past.{owners_in, total, total_from}
use Rattle.hv_earlier.specs.hv_meta.specs.hv_book.proofs.IdLaws.{total-append}
use Rattle.hv_tallies.specs.declared.tally.Reach.{Reach}
use Rattle.hv_tallies.specs.declared.tally.Tally.{Tally}
use Rattle.hv_tallies.specs.Tallies.{least, noted_open, counted, tallied, touch_in, visited}
use Rattle.hv_tallies.specs.Walks.{id_weight, IsTally}

-- ---- what a transaction wrote

pub events-wrote : (table : ℕ) (partition : List ℕ) (write : ℕ) (o : Option Transaction)
    → events_at table partition write o ≡ events_if write (touch_in table partition (wrote_in o))
events-wrote table partition write None = refl
events-wrote table partition write (Some t) = by t.ending
  where
    by : (e : Option Ending) → events_by table partition write e ≡ events_if write (touch_in table partition (wrote_by e))
    by None = refl
    by (Some (Committed place wrote)) = refl
    by (Some (Aborted place cause)) = refl
    by (Some (Made place made)) = refl
    by (Some (Dropped place dropped)) = refl

-- a visit, by the touch that was found
pub visit-is : (state : State) (table : ℕ) (partition : List ℕ) (reach : Reach) (tally : Tally) (id : IdNote) (o : Option Touch)
    → o ≡ touch_in table partition (wrote_in (numbered state.transactions id.txn))
    → fold (tallied reach) (noted_open (is_open_one (numbered state.transactions id.txn)) id.write tally) (events_if id.write o)
    ≡ visited state table partition reach tally id
unfolding visited
visit-is state table partition reach tally id o is =
    ap (fold (tallied reach) (noted_open (is_open_one (numbered state.transactions id.txn)) id.write tally))
    (ap (events_if id.write) is ∙ sym (events-wrote table partition id.write (numbered state.transactions id.txn)))

few-if : (write : ℕ) (o : Option Touch) → length (events_if write o) ≤ 1
few-if write None = omega arith
few-if write (Some touch) = omega arith

few-by : (table : ℕ) (partition : List ℕ) (write : ℕ) (e : Option Ending) → length (events_by table partition write e) ≤ 1
few-by table partition write None = omega arith
few-by table partition write (Some (Committed place wrote)) = few-if write (find (is_touch_of table partition) wrote)
few-by table partition write (Some (Aborted place cause)) = omega arith
few-by table partition write (Some (Made place made)) = omega arith
few-by table partition write (Some (Dropped place dropped)) = omega arith

few-at : (table : ℕ) (partition : List ℕ) (write : ℕ) (o : Option Transaction) → length (events_at table partition write o) ≤ 1
few-at table partition write None = omega arith
few-at table partition write (Some t) = few-by table partition write t.ending

-- a write id has one event at most
pub few-events : (ts : List Transaction) (table : ℕ) (partition : List ℕ) (write : ℕ) (owners : List ℕ)
    → length (events_from ts table partition write owners) ≤ length owners
few-events ts table partition write [] = omega arith
few-events ts table partition write (txn ∷ owners) =
    let first = few-at table partition write (numbered ts txn) in
    let rest = few-events ts table partition (write + 1) owners in
    let split = length-append (events_at table partition write (numbered ts txn)) (events_from ts table partition (write + 1) owners) in
    omega (arith, first, rest, split)

-- ---- the events of the ids that were seen

abbrev pub id_events : State → ℕ → List ℕ → IdNote → List Events
id_events state table partition id = events_at table partition id.write (numbered state.transactions id.txn)

abbrev pub gathered : State → ℕ → List ℕ → List IdNote → List Events
gathered state table partition [] = []
gathered state table partition (id ∷ ids) = id_events state table partition id ++ gathered state table partition ids

-- the same ones, each as often
abbrev pub AreSame : List Events → List Events → Type 0
AreSame xs ys = (weight : Events → ℕ) → total weight xs ≡ total weight ys

abbrev pub events_weight : (Events → ℕ) → State → ℕ → List ℕ → ℕ → ℕ → ℕ
events_weight weight state table partition write txn = total weight (events_at table partition write (numbered state.transactions txn))

gathered-total : (weight : Events → ℕ) (state : State) (table : ℕ) (partition : List ℕ) (ids : List IdNote)
    → total weight (gathered state table partition ids) ≡ total (id_weight (events_weight weight state table partition)) ids
gathered-total weight state table partition [] = refl
gathered-total weight state table partition (id ∷ ids) =
    let split = total-append weight (id_events state table partition id) (gathered state table partition ids) in
    let rest = gathered-total weight state table partition ids in
    omega (arith, split, rest)

from-total : (weight : Events → ℕ) (state : State) (table : ℕ) (partition : List ℕ) (write : ℕ) (owners : List ℕ)
    → total weight (events_from state.transactions table partition write owners) ≡ total_from (events_weight weight state table partition) write owners
from-total weight state table partition write [] = refl
from-total weight state table partition write (txn ∷ owners) =
    let split = total-append weight (events_at table partition write (numbered state.transactions txn)) (events_from state.transactions table partition (write + 1) owners) in
    let rest = from-total weight state table partition (write + 1) owners in
    omega (arith, split, rest)

pub owners-same : (o : Option Table) → owners_in o ≡ ids_of o
owners-same None = refl
owners-same (Some table) = refl

pub seen-same : (state : State) (table : ℕ) (partition : List ℕ) (reach : Reach) (tally : Tally) (is : IsTally state table partition reach tally)
    → AreSame (gathered state table partition is.seen) (events_in state table partition)
seen-same state table partition reach tally is weight =
    gathered-total weight state table partition is.seen ∙ is.each (events_weight weight state table partition)
    ∙ ap (total_from (events_weight weight state table partition) 1) (owners-same (numbered state.tables table))
    ∙ sym (from-total weight state table partition 1 (ids_of (numbered state.tables table)))

-- ---- a part of a tally, which open transactions leave as it is

pub open-leaves : {A : Type 0} (p : Tally → A) → ((t : Tally) (o : Option ℕ) → p (record t { unended = o }) ≡ p t)
    → (b : Bool) (write : ℕ) (t : Tally) → p (noted_open b write t) ≡ p t
open-leaves p same true write t = same t (least t.unended write)
open-leaves p same false write t = refl

abbrev pub stepped : {A : Type 0} → (A → Events → A) → Reach → A → Events → A
stepped step reach a e = if is_up_to reach.mark e then step a e else a

if-under : {A B : Type 0} (p : A → B) (b : Bool) (x y : A) → p (if b then x else y) ≡ (if b then p x else p y)
if-under p true x y = refl
if-under p false x y = refl

module _ {A : Type 0} (p : Tally → A) (step : A → Events → A) (reach : Reach) (counts : (t : Tally) (e : Events) → p (counted reach t e) ≡ step (p t) e)
    (leaves : (b : Bool) (write : ℕ) (t : Tally) → p (noted_open b write t) ≡ p t) where
  one-step : (t : Tally) (e : Events) → p (tallied reach t e) ≡ stepped step reach (p t) e
  one-step t e =
      if-under p (is_up_to reach.mark e) (counted reach t e) t ∙ ap (λ a. if is_up_to reach.mark e then a else p t) (counts t e)

  one-id : (es : List Events) (t : Tally) → p (fold (tallied reach) t es) ≡ fold (stepped step reach) (p t) es
  one-id [] t = refl
  one-id (e ∷ es) t = one-id es (tallied reach t e) ∙ ap (λ a. fold (stepped step reach) a es) (one-step t e)

  pub projected : (state : State) (table : ℕ) (partition : List ℕ) (ids : List IdNote) (t : Tally)
      → p (fold (visited state table partition reach) t ids) ≡ fold (stepped step reach) (p t) (gathered state table partition ids)
  unfolding visited
  projected state table partition [] t = refl
  projected state table partition (id ∷ ids) t =
      let is_open = is_open_one (numbered state.transactions id.txn) in
      projected state table partition ids (visited state table partition reach t id)
      ∙ ap (λ a. fold (stepped step reach) a (gathered state table partition ids))
      (one-id (id_events state table partition id) (noted_open is_open id.write t)
      ∙ ap (λ a. fold (stepped step reach) a (id_events state table partition id)) (leaves is_open id.write t))
      ∙ sym (fold-append (stepped step reach) (p t) (id_events state table partition id) (gathered state table partition ids))
