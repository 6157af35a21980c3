-- A write id that is given by an act.
use Rattle.std.proofs.Common.{◌≡◌, inr, ℕ, ◌+◌, ◌≤◌, Bool, true, false, IsTrue, is_none, Option, Some, None, Ok, Err, List, [], ◌∷◌, length, take, ltb-true, refl, sym, ap, ◌∙◌, subst, arith}
use Rattle.std.specs.Prelude.{IsSomeAnd, IsNone, if◌then◌else◌}
use Rattle.hv_base.specs.declared.ids.TxnId.{TxnId}
use Rattle.hv_base.specs.declared.ids.TableId.{TableId}
use Rattle.hv_base.specs.declared.ids.WriteId.{WriteId}
use Rattle.hv_shelf.specs.Disk.{Store}
use Rattle.hv_logic.specs.declared.meaning.Meaning.TheVariants.{Change}
use Rattle.hv_history.specs.declared.entry.Entry.{Entry}
use Rattle.hv_history.specs.declared.entry.Entry.TheVariants as entry
use Rattle.hv_history.specs.declared.entry.Cause.{Cause}
use Rattle.hv_history.specs.declared.entry.Cause.TheVariants as cause
use Rattle.hv_history.specs.declared.state.Ending.{Ending}
use Rattle.hv_history.specs.declared.state.Table.{Table}
use Rattle.hv_history.specs.declared.state.Transaction.{Transaction}
use Rattle.hv_history.specs.State.{State, numbered, given_in}
use Rattle.hv_history.specs.Legal.{Of, IsRunning, GivenFits as IdFits, FullFits, NeedsRoom, CauseIsTrue, profile}
use Rattle.hv_trail.specs.declared.trail.TrailItem.{TrailItem}
use Rattle.hv_stands.specs.Running.{meant, running, snapshot_at}
use Rattle.hv_trail.specs.Trail.{book_of, state_at}
use Rattle.hv_trail.specs.Kept.{trail_of}
use Rattle.hv_trail.specs.Steps.{Note, Done, Step, gains}
use Rattle.hv_telling.specs.hv_house.specs.declared.house.House.{House}
use Rattle.hv_telling.specs.hv_house.specs.declared.fault.HouseFault.{HouseFault}
use Rattle.hv_telling.specs.hv_house.specs.declared.fault.HouseFault.TheVariants as fault
use Rattle.hv_telling.specs.hv_house.specs.Steps.{seen_of, fault_outcome}
use Rattle.hv_telling.specs.Telling.{IsWhole}
use Rattle.hv_acts.specs.declared.aborted.Aborted.{Aborted}
use Rattle.hv_acts.specs.declared.giving.Given.{Given}
use Rattle.hv_acts.specs.declared.giving.Given.TheVariants as given
use Rattle.hv_acts.specs.declared.fault.ActFault.{ActFault}
use Rattle.hv_acts.specs.declared.fault.ActFault.TheVariants as act
use Rattle.hv_book.specs.Briefs.{given_while, given_at}
use Rattle.hv_acts.specs.Answers.{call_behind, act_outcome, NoTest, IsLate, id_behind, next_id, EntryFits, own_entry, EntryStep, aborted_line, own_table}
use Rattle.hv_acts.specs.Aborting.{AbortStep, is_full, abort_of}
use Rattle.hv_acts.specs.Giving.{to_give, RestsOnId, GiveStep}
use Rattle.hv_acts.specs.Meant.{HasAtMost, RunsWith, IsIdDue, IsCauseTrue}
use Rattle.hv_acts.proofs.Steps.{whole-keeps}
use Rattle.hv_acts.proofs.Leaves.{late-leaves}
use Rattle.hv_acts.proofs.Notes.{why-of, why-for, asked-late}
use Rattle.hv_acts.proofs.Truths.{just-given}
use Rattle.hv_acts.proofs.Aborts.{is-full, room-of}

-- ---- what is noted

none-in : (table : ℕ) (ids : List (ℕ × ℕ)) → length ids ≤ 0 → IsNone (given_in table ids)
none-in table [] few = refl
none-in table (id ∷ ids) few = absurd (omega (arith, few))

-- one that is open was given what it holds
none-given : (table : ℕ) (ending : Option Ending) (ids : List (ℕ × ℕ)) → is_none ending ≡ true → length (given_while ending ids) ≤ 0 → IsNone (given_in table ids)
none-given table None ids unended few = none-in table ids few
none-given table (Some ending) ids unended few = cc

next-of : (o : Option Table) → IsSomeAnd o (λ (t : Table). IsTrue t.is_live) → IsSomeAnd o (λ (t : Table). IsTrue t.is_live × (id_behind o ≡ length t.owners + 1))
next-of None lives = absurd lives
next-of (Some t) lives = (lives, refl)

-- where it rests well and there is room its write id fits
rests-give : (trail : List TrailItem) (txn : TxnId) (table : TableId) → (Of (state_at trail) txn.0 (FullFits profile (state_at trail)) → ⊥) → RestsOnId trail txn table
    → EntryFits trail (entry.Given txn table (next_id trail table))
rests-give trail txn table room rests = by (numbered (state_at trail).transactions txn.0) rests.runs.0 rests.runs.1 room
  where
    by : (o : Option Transaction) → IsSomeAnd o IsRunning → length (given_at o) ≤ 0 → (IsSomeAnd o (FullFits profile (state_at trail)) → ⊥)
        → IsSomeAnd o (IdFits profile (state_at trail) table.0 (next_id trail table).0)
    by None runs few room = absurd runs
    by (Some t) runs few room = record {
      running = runs;
      live = next-of (numbered (state_at trail).tables table.0) rests.lives;
      first = none-given table.0 t.ending t.given runs.unended few;
      room = room-of (state_at trail) t runs.unended room;
    }

-- the book has room where one that runs has
pub has-room : (state : State) (o : Option Transaction) → IsSomeAnd o IsRunning → (IsSomeAnd o (FullFits profile state) → ⊥) → is_full state ≡ false
has-room state None runs room = absurd runs
has-room state (Some t) runs room = by (is_full state) refl
  where
    by : (b : Bool) → is_full state ≡ b → is_full state ≡ false
    by true e = absurd (room (record { unended = runs.unended; full = ltb-true _ _ e }))
    by false e = e

give-full : (trail : List TrailItem) (txn : TxnId) (table : TableId) → Of (state_at trail) txn.0 (FullFits profile (state_at trail))
    → to_give trail txn table ≡ entry.Abort txn cause.Full
unfolding to_give
give-full trail txn table full =
    ap (λ b. if b then entry.Abort txn cause.Full else entry.Given txn table (next_id trail table))
    (is-full (state_at trail) (numbered (state_at trail).transactions txn.0) full)

give-free : (trail : List TrailItem) (txn : TxnId) (table : TableId) → RunsWith trail txn 0 → (Of (state_at trail) txn.0 (FullFits profile (state_at trail)) → ⊥)
    → to_give trail txn table ≡ entry.Given txn table (next_id trail table)
unfolding to_give
give-free trail txn table runs room =
    ap (λ b. if b then entry.Abort txn cause.Full else entry.Given txn table (next_id trail table))
    (has-room (state_at trail) (numbered (state_at trail).transactions txn.0) runs.0 room)

-- where a change of rows runs without a write id, it is true that it lacks room for one
pub lack-true : (trail : List TrailItem) (txn : TxnId) (table : TableId) → RunsWith trail txn 0 → IsIdDue trail txn table → IsCauseTrue trail txn cause.Full
lack-true trail txn table runs due =
    let just = just-given trail txn runs.0 [] (Change due.info due.effect) due.change runs.1 in
    let now : Transaction = running just.asking (meant (take just.place (book_of trail)) just.said) (snapshot_at (book_of trail) just.place) [] in
    subst (λ (o : Option Transaction). IsSomeAnd o (CauseIsTrue (state_at trail) cause.Full)) (sym just.under_way.here)
    (inr (subst (NeedsRoom (state_at trail) now) (sym just.means_it) due.some))

-- ---- its step

module _ {D : Type 0} (told : D → Option Store) (faults : D → ℕ) (txn : TxnId) (table : TableId) where
  pub give-aborted : (aborted : Aborted) (before now : House D) → RunsWith (trail_of before.trail) txn 0
      → Of (state_at (trail_of before.trail)) txn.0 (FullFits profile (state_at (trail_of before.trail)))
      → AbortStep told faults (abort_of txn cause.Full (aborted_line cause.Full)) before now (Ok aborted)
      → GiveStep told faults (own_table txn table) before now (Ok (given.Aborted aborted))
  give-aborted aborted before now runs full s = record {
    keeps = s.keeps;
    step = subst (λ (why : Cause). Step told faults (Note (entry.Abort txn why)) Done (seen_of before) (seen_of now)) (sym s.tells.cause_is) s.step;
    answers = record {
      at = record { place = s.tells.place; line = s.tells.line_is ∙ ap aborted_line (sym s.tells.cause_is) };
      cause_is = s.tells.cause_is;
      runs = runs;
      full = full;
    };
    leaves = s.running;
  }

  pub give-halted : (why : HouseFault) (before now : House D) → Of (state_at (trail_of before.trail)) txn.0 (FullFits profile (state_at (trail_of before.trail)))
      → AbortStep told faults (abort_of txn cause.Full (aborted_line cause.Full)) before now (Err why)
      → GiveStep told faults (own_table txn table) before now (Err (act.House why))
  give-halted why before now full s = record {
    keeps = s.keeps;
    step =
        subst (λ (e : Entry). Step told faults (Note e) (fault_outcome why) (seen_of before) (seen_of now)) (sym (give-full (trail_of before.trail) txn table full)) s.step;
    answers = tt;
    leaves = s.leaves;
  }

  pub give-done : (write : WriteId) (before now : House D) → RunsWith (trail_of before.trail) txn 0 → write ≡ next_id (trail_of before.trail) table
      → EntryStep {T = Unit {0}} told faults (own_entry txn (entry.Given txn table (next_id (trail_of before.trail) table))) before now (Ok tt)
      → GiveStep told faults (own_table txn table) before now (Ok (given.Id write))
  give-done write before now runs next s = record { keeps = s.keeps; step = s.step; answers = ((s.answers.0, runs.1), next); leaves = s.leaves }

  pub give-refused : (why : ActFault) (before now : House D) → RunsWith (trail_of before.trail) txn 0
      → (Of (state_at (trail_of before.trail)) txn.0 (FullFits profile (state_at (trail_of before.trail))) → ⊥)
      → EntryStep {T = Unit {0}} told faults (own_entry txn (entry.Given txn table (next_id (trail_of before.trail) table))) before now (Err why)
      → GiveStep told faults (own_table txn table) before now (Err why)
  give-refused why before now runs room s = record {
    keeps = s.keeps;
    step =
        subst (λ (e : Entry). Step told faults (call_behind (Note e) why) (act_outcome why) (seen_of before) (seen_of now))
        (sym (give-free (trail_of before.trail) txn table runs room)) s.step;
    answers = why-for NoTest (trail_of before.trail) txn _ (RestsOnId (trail_of before.trail) txn table) (rests-give (trail_of before.trail) txn table room) why s.answers;
    leaves = s.leaves;
  }

  pub give-late : (why : ActFault) (house : House D) → IsWhole told house → IsLate (trail_of house.trail) txn why → (RunsWith (trail_of house.trail) txn 0 → ⊥)
      → GiveStep told faults (own_table txn table) house house (Err why)
  give-late why house whole late not = record {
    keeps = whole-keeps told house whole;
    step = asked-late told faults (seen_of house) (trail_of house.trail) txn (Note (to_give (trail_of house.trail) txn table)) why late;
    answers = why-of NoTest (trail_of house.trail) txn (RestsOnId (trail_of house.trail) txn table) why late (λ rests. not rests.runs);
    leaves = late-leaves told faults (trail_of house.trail) txn why (seen_of house) (seen_of house) late whole.ready.kept.running;
  }
