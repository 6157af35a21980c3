-- Where others add nothing, a statement that is ready ends as over a house alone.
use Rattle.std.proofs.Common.{◌≡◌, ◌⊎◌, inl, inr, ℕ, Option, List, [], ◌∷◌, ◌++◌, refl, sym, ap, ◌∙◌, subst}
use Rattle.std.specs.List.{AllByRecursion}
use Rattle.hv_shelf.specs.Disk.{Store}
use Rattle.hv_history.specs.declared.entry.Entry.{Entry}
use Rattle.hv_history.specs.declared.entry.Cause.{Cause}
use Rattle.hv_history.specs.declared.entry.Cause.TheVariants as cause
use Rattle.hv_history.specs.State.{state_of}
use Rattle.hv_trail.specs.declared.trail.TrailItem.{TrailItem}
use Rattle.hv_beginning.specs.hv_steps.specs.hv_table_reader.specs.hv_acts.specs.hv_telling.specs.hv_house.specs.House.{entries_of}
use Rattle.hv_beginning.specs.hv_steps.specs.hv_table_reader.specs.hv_acts.specs.declared.told.ToldHouse.{ToldHouse}
use Rattle.hv_beginning.specs.hv_steps.specs.hv_table_reader.specs.hv_acts.proofs.Steps.{book-is}
use Rattle.hv_beginning.specs.hv_steps.specs.Ending.{IsUndamaged, HasEndedAt, HasReplied, aborting}
use Rattle.hv_beginning.specs.hv_steps.specs.hv_table_reader.specs.hv_acts.specs.Meant.{IsNoEnd}
use Rattle.hv_beginning.specs.hv_steps.specs.declared.ready.Ready.{Ready}
use Rattle.hv_beginning.specs.hv_steps.specs.declared.ready.Reply.{Reply}
use Rattle.hv_beginning.specs.hv_steps.specs.declared.ready.End.{End}
use Rattle.hv_beginning.specs.hv_steps.specs.declared.ready.End.TheVariants as end
use Rattle.hv_beginning.specs.hv_steps.specs.declared.reply.Done.TheVariants as done
use Rattle.hv_beginning.specs.hv_steps.specs.Going.{AddsOwn}
use Rattle.hv_beginning.specs.hv_steps.specs.Phases.{ConcludesSo, IsEndBy, NoCause}
use Rattle.hv_session.specs.Alone.{AddsNothing, HasGained, ConcludesAlone}
use Rattle.hv_session.proofs.AloneBooks.{adds-alone}
use Rattle.hv_session.proofs.Orders.{IsOwnEntry}
use Rattle.hv_session.proofs.AloneEnds.{way-runs, runs-open, never-gone, last-named}
use Rattle.hv_actor.specs.Acting.{known}

-- an entry that ends its transaction by itself, and isn't for a damaged file
pub record IsCleanEnd (txn : ℕ) (last : Entry) : Type 0 where
  pub undamaged : IsUndamaged last
  pub ends : IsNoEnd txn last → ⊥
  pub owns : IsOwnEntry last

clean-by : (txn : ℕ) (by_ : End) (last : Entry) → IsEndBy txn by_ last → IsCleanEnd txn last
clean-by txn (end.Commit wrote name put) last is = subst (IsCleanEnd txn) (sym is) (record { undamaged = tt; ends = λ never. never; owns = tt })
clean-by txn end.Create last is = subst (IsCleanEnd txn) (sym is.1) (record { undamaged = tt; ends = λ never. never; owns = tt })
clean-by txn (end.Drop table) last is = subst (IsCleanEnd txn) (sym is) (record { undamaged = tt; ends = λ never. never; owns = tt })

clean-memory : (txn : ℕ) (why : Cause) → why ≡ cause.Memory → IsCleanEnd txn (aborting txn why)
clean-memory txn why is = subst (λ (c : Cause). IsCleanEnd txn (aborting txn c)) (sym is) (record { undamaged = tt; ends = λ never. never; owns = tt })

clean-lacks : (txn : ℕ) (why : Cause) (last : Entry) → last ≡ aborting txn why → NoCause why ⊎ (why ≡ cause.Memory) → IsCleanEnd txn last
clean-lacks txn why last e (inl never) = absurd never
clean-lacks txn why last e (inr lacks) = subst (IsCleanEnd txn) (sym e) (clean-memory txn why lacks)

pub clean-so : {D : Type 0} (txn : ℕ) (now : ToldHouse D) (ready : Ready) (last : Entry) (reply : Reply) → ConcludesSo txn now ready last reply → IsCleanEnd txn last
clean-so txn now ready last reply (inl ends) = clean-by txn ready.end last ends.by
clean-so txn now ready last reply (inr (inl conflict)) = subst (IsCleanEnd txn) (sym conflict.entry_is) (record { undamaged = tt; ends = λ never. never; owns = tt })
clean-so txn now ready last reply (inr (inr abort)) = clean-lacks txn abort.why last abort.entry_is abort.is

module _ {D : Type 0} (told : D → Option Store) (faults : D → ℕ) (B : List TrailItem → Type 0) (none : AddsNothing B) where
  pub concludes-alone : ConcludesAlone told faults B
  concludes-alone asking said place given low txn own own' before now ready (done.Gone reply) way kept gains =
      absurd (never-gone faults B none txn gains.is.1.at own own' before now [] (way-runs (entries_of before.house) asking txn place said given way)
      (subst (λ (added : List Entry). AddsOwn faults B txn (known own before) (known own' now) added) gains.is.0 gains.adds) tt gains.is.1.gone)
  concludes-alone asking said place given low txn own own' before now ready (done.Replied reply) way kept gains =
      let gained : HasGained faults before now gains.added = adds-alone faults B none own own' before now gains.added gains.adds in
      let last : Entry = gains.is.0 in
      let clean : IsCleanEnd txn last = clean-so txn now ready last reply gains.is.2 in
      let book : entries_of now.house ≡ entries_of before.house ++ last ∷ [] = gained.book ∙ ap (λ (xs : List Entry). entries_of before.house ++ xs) gains.is.1 in
      let ended : HasEndedAt (entries_of now.house) txn reply.ended = subst (λ (b : List Entry). HasEndedAt b txn reply.ended) (book-is now.house) gains.is.3 in
      record {
        reply = reply;
        is = refl;
        added = record {
          added = gains.added;
          book = gained.book;
          of_it = gains.of_it;
          counts = gains.counts;
          undamaged = subst (AllByRecursion IsUndamaged) (sym gains.is.1) (clean.undamaged, tt);
          ends = (last, clean.ends, gains.is.1);
        };
        last = last-named (entries_of now.house) (entries_of before.house) txn last reply.ended book (kept.whole gains.running).ready.fit
            (runs-open (state_of (entries_of before.house)) txn (way-runs (entries_of before.house) asking txn place said given way)) ended;
        answered = λ has. subst (λ (b : List Entry). HasReplied b txn reply.text reply.refused reply.ended) (book-is now.house) has;
      }
