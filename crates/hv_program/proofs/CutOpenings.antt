-- What an opening that stopped leaves opens again.
use Rattle.std.proofs.Common.{refl, ◌≡◌, inl, inr, List, [], ◌∷◌, ◌++◌, ap, ◌∙◌, append_assoc}
use Rattle.hv_shelf.specs.Disk.{Store}
use Rattle.hv_history.specs.declared.entry.Entry.{Entry}
use Rattle.hv_history.specs.Legal.{profile}
use Rattle.hv_session.specs.hv_beginning.specs.hv_steps.specs.hv_table_reader.specs.hv_acts.specs.hv_telling.specs.hv_house.specs.declared.boot.BootFault.{BootFault}
use Rattle.hv_session.specs.hv_beginning.specs.hv_steps.specs.hv_table_reader.specs.hv_acts.specs.hv_telling.specs.hv_house.specs.declared.boot.BootFault.TheVariants as fault
use Rattle.hv_session.specs.hv_beginning.specs.hv_steps.specs.hv_table_reader.specs.hv_acts.specs.hv_telling.specs.hv_house.specs.Booting.{OpensTo, LeavesOpen, IsOpenStill}
use Rattle.hv_session.specs.hv_beginning.specs.hv_steps.specs.hv_table_reader.specs.hv_acts.specs.hv_telling.specs.Telling.{OpensLater}

-- to the book and a front of its opening
opens-front : (book front : List Entry) (store : Store) → OpensTo (book ++ front) store → OpensLater book store
opens-front book front store opens = record { book = book ++ front; opens = opens; begins = (front, refl) }

left-opens : (why : BootFault) (book front more : List Entry) (store : Store) → LeavesOpen profile why (book ++ front) more store → OpensLater book store
left-opens (fault.BadJournal at) book front more store opens = opens-front book front store opens
left-opens (fault.Full entries) book front more store opens = opens-front book front store opens
left-opens fault.NoMemory book front more store opens = opens-front book front store opens
left-opens fault.Store book front more store (inl opens) = opens-front book front store opens
left-opens fault.Store book front more store (inr next) =
    record { book = (book ++ front) ++ next.0 ∷ []; opens = next.3; begins = (front ++ next.0 ∷ [], append_assoc book front (next.0 ∷ [])) }

pub still-opens : (why : BootFault) (book opening : List Entry) (store : Store) → IsOpenStill profile why book opening store → OpensLater book store
still-opens why book opening store still = left-opens why book still.front still.more store still.leaves

-- ---- a longer book begins with its fronts

pub later-behind : (start added book : List Entry) (store : Store) → book ≡ start ++ added → OpensLater book store → OpensLater start store
later-behind start added book store is later = record {
  book = later.book;
  opens = later.opens;
  begins = (added ++ later.begins.0, later.begins.1 ∙ ap (λ (b : List Entry). b ++ later.begins.0) is ∙ append_assoc start added later.begins.0);
}
