-- A script that was done whole, where no count of faults rose and memory was found, leaves its serial history.
use Rattle.std.proofs.Common.{◌≡◌, ℕ, ◌≤◌, List, [], ◌∷◌, sym, ◌∙◌, subst, arith}
use Rattle.std.specs.List.{AllByRecursion}
use Rattle.std.proofs.lemmas.List.{append_cancel_left}
use Rattle.hv_script.specs.Actions.{actions_of}
use Rattle.hv_history.specs.declared.entry.Entry.{Entry}
use Rattle.hv_history.specs.declared.entry.Entry.TheVariants as entry
use Rattle.hv_history.specs.declared.entry.Cause.TheVariants as cause
use Rattle.hv_session.specs.hv_beginning.specs.hv_steps.specs.hv_table_reader.specs.hv_acts.specs.hv_telling.specs.hv_house.specs.Booting.{opening_of}
use Rattle.hv_law_next.specs.Order.{IsSteady, AreSteady}
use Rattle.hv_program.specs.Doing.{Standing}
use Rattle.hv_program.specs.Own.{IsOfRun, Grows}
use Rattle.hv_program.specs.Results.{HasBook}
use Rattle.hv_law_serial.specs.History.{AddsSteadily}
use Rattle.hv_law_serial.specs.Scripts.{IsInMemory, AddsInMemory, history_of, ScriptHistory}
use Rattle.hv_law_serial.proofs.Serially.{serial-history}

module _ (low high : ℕ) (unrisen : high ≤ low) where
  steady-one : (event : Entry) → IsOfRun low high event → IsInMemory event → IsSteady event
  steady-one (entry.Abort id cause.Memory) own remembered = remembered
  steady-one (entry.Abort id (cause.ReadFault count)) own remembered =
      let above = own.counted.0 in let below = own.counted.1 in absurd (omega (arith, above, below, unrisen))
  steady-one (entry.Abort id (cause.WriteFault count)) own remembered =
      let above = own.counted.0 in let below = own.counted.1 in absurd (omega (arith, above, below, unrisen))
  steady-one (entry.Abort id (cause.Damaged place)) own remembered = own.undamaged
  steady-one event own remembered = tt

  steady-all : (events : List Entry) → AllByRecursion (IsOfRun low high) events → AllByRecursion IsInMemory events → AreSteady events
  steady-all [] own remembered = tt
  steady-all (event ∷ events) own remembered = (steady-one event own.0 remembered.0, steady-all events own.1 remembered.1)

  adds-steadily : (start now : List Entry) → Grows low high start now → AddsInMemory start now → AddsSteadily start now
  adds-steadily start now grows remembered added goes =
      let same : grows.more ≡ added = append_cancel_left start grows.more added (sym grows.book_is ∙ goes) in
      subst AreSteady same (steady-all grows.more grows.of_run (remembered grows.more grows.book_is))

pub script-history : ScriptHistory
script-history faults book source written stores refused all calm =
    let start : List Entry = opening_of stores.was.tree book in
    let last : Standing = all.served.last in
    let is : last ≡ history_of stores.was.tree book source.was =
    serial-history start last (actions_of source.was) all.served.output refused all.served.are_done (record {
      legal = all.served.is_book.legal;
      steady = adds-steadily faults.was faults.now calm.unrisen start last.book all.served.is_book.grows calm.in_memory;
      unfailed = calm.unfailed;
      in_memory = calm.replies;
      passes = calm.passes;
    }) in
    record {
      has_book = subst (λ (s : Standing). HasBook s.book stores.now) is all.served.has_book;
      settled = subst (λ (s : Standing). s.waiting ≡ []) is all.settled;
    }
