-- A statement whose tables can't be seen is aborted for that.
use Rattle.std.proofs.Common.{◌≡◌, ◌⊎◌, inl, inr, ℕ, ◌+◌, ◌≤◌, Option, Some, List, [], refl, sym, ◌∙◌, subst, arith, length, Ok, Err, Result}
use Rattle.std.specs.Prelude.{IsErrAnd, slice_get}
use Rattle.std.proofs.lemmas.List.{length-append}
use Rattle.hv_bytes.proofs.Lengths.{length-four, length-eight, length-text}
use Rattle.hv_shelf.specs.Disk.{Store}
use Rattle.hv_ast.specs.declared.statement.Stmt.{Stmt}
use Rattle.hv_locks.specs.declared.table.Lock.{Lock}
use Rattle.hv_logic.specs.Names.{names_in}
use Rattle.hv_logic.specs.declared.meaning.Meaning.{Meaning}
use Rattle.hv_history.specs.declared.entry.Entry.{Entry}
use Rattle.hv_history.specs.declared.entry.FilePlace.{FilePlace}
use Rattle.hv_history.specs.declared.entry.Cause.{Cause}
use Rattle.hv_history.specs.declared.entry.Cause.TheVariants as cause
use Rattle.hv_history.specs.Spelling.{place_spelling}
use Rattle.hv_history.specs.Lasting.{IsFront}
use Rattle.hv_stands.specs.Running.{Asking}
use Rattle.hv_trail.specs.declared.trail.TrailItem.{TrailItem}
use Rattle.hv_actor.specs.Acting.{AreRows, among, known}
use Rattle.hv_table_reader.specs.hv_acts.specs.hv_telling.specs.hv_house.specs.declared.fault.HouseFault.{HouseFault}
use Rattle.hv_table_reader.specs.hv_acts.specs.hv_telling.specs.hv_house.specs.declared.fault.HouseFault.TheVariants as fault
use Rattle.hv_table_reader.specs.declared.fault.RowFault.{RowFault}
use Rattle.hv_table_reader.specs.hv_acts.specs.hv_telling.specs.hv_house.specs.House.{IsSmall}
use Rattle.hv_table_reader.specs.hv_acts.specs.hv_telling.specs.Telling.{IsToldHouse}
use Rattle.hv_table_reader.specs.hv_acts.specs.declared.told.ToldHouse.{ToldHouse}
use Rattle.hv_table_reader.specs.hv_acts.specs.Going.{faults_in, IsShutBetween, IsShutNow}
use Rattle.hv_table_reader.specs.hv_acts.specs.Reading.{HasPlace, HasReader}
use Rattle.hv_table_reader.specs.hv_acts.proofs.Readings.{place-lasts, reader-lasts, reader-under-way}
use Rattle.hv_steps.specs.Ending.{aborting}
use Rattle.hv_steps.specs.declared.ready.Way.{Way}
use Rattle.hv_table_reader.specs.Tables.{RisesTo}
use Rattle.hv_steps.specs.declared.reply.Done.{Done}
use Rattle.hv_steps.specs.declared.reply.Done.TheVariants as done
use Rattle.hv_steps.specs.declared.reply.Outcome.{Outcome}
use Rattle.hv_steps.specs.declared.reply.Outcome.TheVariants as outcome
use Rattle.hv_steps.specs.Going.{Goes, WasOnWay}
use Rattle.hv_steps.specs.Phases.{AbortsFor, IsUntoldDamage, ComesTo, Sees}
use Rattle.hv_steps.specs.Seeing.{EndsFor, EndsUnseen, Looks}
use Rattle.hv_steps.proofs.Joining.{front-more, adds-none, told-earlier, gains-as, halts-none, goes-on}

-- ---- short entries

pub small-read : (txn count : ℕ) → IsSmall (aborting txn (cause.ReadFault count))
small-read txn count = grind (arith, length-append, length-eight)

pub small-memory : (txn : ℕ) → IsSmall (aborting txn cause.Memory)
small-memory txn = grind (arith, length-append, length-eight)

pub small-damaged : (txn : ℕ) (place : FilePlace) → length place.partition + length place.dir ≤ 1000 → IsSmall (aborting txn (cause.Damaged place))
unfolding place_spelling
small-damaged txn place short = grind (arith, length-append, length-eight, length-four, length-text)

-- ---- a statement on its way has its place, and reads there

pub way-place : (trail : List TrailItem) (asking : Asking) (way : Way) (said : Stmt) → WasOnWay trail asking way said → HasPlace trail way.place
way-place trail asking way said was =
    place-lasts was.then_ trail was.front way.place (let early = was.was.early in omega (arith, early))

-- and it reads there under each name that it locks
pub way-reader : (before now : List TrailItem) (asking : Asking) (way : Way) (said : Stmt) (index : ℕ) (lock : Lock) → WasOnWay before asking way said
    → IsFront before now → slice_get (names_in said) index ≡ Some lock → HasReader now way.txn way.place lock.name
way-reader before now asking way said index lock was front held =
    reader-lasts was.then_ now (front-more was.then_ before now was.front front) way.txn way.place lock.name
    (reader-under-way was.then_ asking way.txn way.place said [] index lock was.was held)

-- ---- the cause, said in another way

module _ {D : Type 0} (told : D → Option Store) (txn : ℕ) (now : ToldHouse D) where
  aborts-as : (P Q : Cause → Type 0) → ((why : Cause) → P why → Q why ⊎ (why ≡ cause.Memory)) → (found : Done) (added : List Entry)
      → AbortsFor txn now [] P found added → AbortsFor txn now [] Q found added
  aborts-as P Q f (done.Gone reply) added aborts = aborts
  aborts-as P Q f (done.Replied reply) added aborts =
      let abort = aborts.2 in
      (aborts.0, aborts.1, record { why = abort.why; is = by abort.why abort.is; entry_is = abort.entry_is; answered = abort.answered }, aborts.3)
    where
      by : (why : Cause) → P why ⊎ (why ≡ cause.Memory) → Q why ⊎ (why ≡ cause.Memory)
      by why (inl p) = f why p
      by why (inr e) = inr e

  ends-unseen : (why : Cause) → (why ≡ cause.Memory) ⊎ IsUntoldDamage told now why → (found : Outcome) (added : List Entry) → EndsFor txn now why found added
      → EndsUnseen told now txn found added
  ends-unseen why so (outcome.Means meaning) added ends = absurd ends
  ends-unseen why so (outcome.Ended found) added ends = aborts-as (λ of. of ≡ why) (IsUntoldDamage told now) (by so) found added ends
    where
      by : (why ≡ cause.Memory) ⊎ IsUntoldDamage told now why → (of : Cause) → of ≡ why → IsUntoldDamage told now of ⊎ (of ≡ cause.Memory)
      by (inl memory) of is = inr (is ∙ memory)
      by (inr damage) of is = inl (subst (IsUntoldDamage told now) (sym is) damage)

  -- the end of one that can't be seen is what it comes to
  pub sees-ended : (way : Way) (said : Stmt) → txn ≡ way.txn.0 → (found : Outcome) (added : List Entry) → EndsUnseen told now txn found added → Sees told now way said found added
  sees-ended way said same (outcome.Means meaning) added ends = absurd ends
  sees-ended way said same (outcome.Ended found) added ends = subst (λ (n : ℕ). AbortsFor n now [] (IsUntoldDamage told now) found added) same ends

-- ---- what the parts come to

module _ {D : Type 0} (told : D → Option Store) (faults : D → ℕ) (B : List TrailItem → Type 0) (rows : AreRows B) (meanwhile : ToldHouse D → ToldHouse D → Type 0) where
  -- it was ended for this cause, which is one by which its tables can't be seen
  pub goes-unseen : (low txn : ℕ) (own own' : List ℕ) (before now : ToldHouse D) (why : Cause)
      → ((IsToldHouse told now.house → IsToldHouse told before.house) → (why ≡ cause.Memory) ⊎ IsUntoldDamage told now why) → (result : Result Outcome HouseFault)
      → Goes (among told faults B meanwhile) low txn (known own before) (known own' now) (EndsFor txn now why) result
      → Goes (among told faults B meanwhile) low txn (known own before) (known own' now) (EndsUnseen told now txn) result
  goes-unseen low txn own own' before now why so (Ok found) goes = record {
    done = gains-as faults B rows low txn own own' before now (EndsFor txn now why found) (EndsUnseen told now txn found)
        (ends-unseen told txn now why (so (told-earlier faults B rows told own own' before now goes.done.added goes.done.adds)) found) goes.done;
    halted = tt;
  }
  goes-unseen low txn own own' before now why so (Err fault) goes = record { done = tt; halted = goes.halted }

  -- an end is one of what it comes to
  pub goes-ok : (low txn : ℕ) (own own' : List ℕ) (before now : ToldHouse D) (why : Cause) (found : Done)
      → Goes {T = Done} (among told faults B meanwhile) low txn (known own before) (known own' now) (AbortsFor txn now [] (λ of. of ≡ why)) (Ok found)
      → Goes (among told faults B meanwhile) low txn (known own before) (known own' now) (EndsFor txn now why) (Ok (outcome.Ended found))
  goes-ok low txn own own' before now why found goes = record { done = goes.done; halted = tt }

  pub goes-err : {T U : Type 0} (low txn : ℕ) (own own' : List ℕ) (before now : ToldHouse D) (Is : T → List Entry → Type 0) (Js : U → List Entry → Type 0)
      (fault : HouseFault) (r : Result U HouseFault) → IsErrAnd r (λ y. y ≡ fault)
      → Goes (among told faults B meanwhile) low txn (known own before) (known own' now) Is (Err fault)
      → Goes (among told faults B meanwhile) low txn (known own before) (known own' now) Js r
  goes-err low txn own own' before now Is Js fault (Ok x) left goes = absurd left
  goes-err low txn own own' before now Is Js fault (Err y) left goes =
      subst (λ (e : HouseFault). Goes (among told faults B meanwhile) low txn (known own before) (known own' now) Js (Err e)) (sym left)
      (record { done = tt; halted = goes.halted })

  -- the run stops, and nothing was done
  pub goes-shut : {T : Type 0} (low txn : ℕ) (own : List ℕ) (house : ToldHouse D) (Is : T → List Entry → Type 0)
      → IsShutBetween meanwhile ⊎ IsShutNow told txn house → Goes (among told faults B meanwhile) low txn (known own house) (known own house) Is
      (Err fault.Store)
  goes-shut low txn own house Is shut = record {
    done = tt;
    halted = halts-none faults B rows told meanwhile txn own own house house fault.Store (adds-none faults B rows own house) shut;
  }

  module _ (way : Way) (said : Stmt) (own own' : List ℕ) (before now : ToldHouse D) where
    -- it means this
    pub goes-meaning : (meaning : Meaning) → Looks {T = Meaning} (among told faults B meanwhile) way.txn (known own before) (known own' now) (Ok meaning)
        → ComesTo told now way said meaning
        → Goes (among told faults B meanwhile) (faults_in faults before) way.txn.0 (known own before) (known own' now) (Sees told now way said)
        (Ok (outcome.Means meaning))
    goes-meaning meaning looks comes = record {
      done = record { added = []; adds = looks.adds; of_it = tt; counts = tt; is = (refl, comes); running = looks.running };
      halted = tt;
    }

    -- or it was ended, since its tables couldn't be seen
    pub goes-ended : (own'' : List ℕ) (end : ToldHouse D) (result : Result Outcome HouseFault) (why : RowFault)
        → Looks {T = Meaning} (among told faults B meanwhile) way.txn (known own before) (known own' now) (Err why)
        → ((low : ℕ) → low ≤ faults_in faults now → RisesTo low (faults_in faults now) why
        → Goes (among told faults B meanwhile) low way.txn.0 (known own' now) (known own'' end) (EndsUnseen told end way.txn.0) result)
        → Goes (among told faults B meanwhile) (faults_in faults before) way.txn.0 (known own before) (known own'' end) (Sees told end way said) result
    goes-ended own'' end result why looks goes =
        let low : ℕ = faults_in faults before in
        goes-on faults B rows told meanwhile low low way.txn.0 own own' own'' before now end (EndsUnseen told end way.txn.0) (Sees told end way said) result
        (omega arith) looks.adds (sees-ended told way.txn.0 end way said refl) (goes low looks.adds.later.count looks.counts)
