-- What a call that stopped leaves opens again.
use Rattle.std.proofs.Common.{inl, inr, Option, Some, None, IsSomeAnd, List, [], ◌++◌, refl, sym, subst, append-nil}
use Rattle.hv_shelf.specs.Disk.{Store}
use Rattle.hv_history.specs.declared.entry.Entry.{Entry}
use Rattle.hv_history.specs.Journal.{Reads}
use Rattle.hv_history.specs.State.{state_of}
use Rattle.hv_history.specs.Legal.{profile}
use Rattle.hv_house.specs.hv_finals.specs.hv_law_made.proofs.BareJobs.{standing-recovers}
use Rattle.hv_house.specs.hv_finals.specs.hv_law_made.proofs.BookLemmas.{books-are-sound}
use Rattle.hv_journal.specs.Appending.{Holds, KeepsTree}
use Rattle.hv_house.specs.declared.fault.HouseFault.{HouseFault}
use Rattle.hv_house.specs.declared.fault.HouseFault.TheVariants as fault
use Rattle.hv_house.specs.declared.house.House.{House}
use Rattle.hv_house.specs.House.{entries_of, IsFaithful, Leaves, AreHalted}
use Rattle.hv_house.proofs.Boots.{reads-journal}
use Rattle.hv_telling.specs.Telling.{OpensLater, StillOpens}
use Rattle.hv_telling.specs.Laws.{FaithfulIsLeft, WholeOpens}
use Rattle.hv_telling.proofs.Few.{few-entries}
use Rattle.hv_telling.proofs.Told.{both-some, moved-some, same-faithful, true-shown}

-- ---- one store

pub faithful-is-left : FaithfulIsLeft
faithful-is-left book store faithful = record {
  recovers =
      standing-recovers (state_of book) store.tree (few-entries book faithful.legal.fit) (books-are-sound profile book faithful.legal.fit) faithful.stands;
  legal = faithful.legal;
}

pub opens-itself : (book : List Entry) (store : Store) → Reads book store.journal → IsFaithful book store → OpensLater book store
opens-itself book store reads faithful = record {
  book = book;
  opens = record { journal = reads-journal book store.journal reads; left = faithful-is-left book store faithful };
  begins = ([], sym (append-nil book));
}

opens-behind : (book more : List Entry) (store : Store) → Reads (book ++ more) store.journal → IsFaithful (book ++ more) store → OpensLater book store
opens-behind book more store reads faithful = record {
  book = book ++ more;
  opens = record { journal = reads-journal (book ++ more) store.journal reads; left = faithful-is-left (book ++ more) store faithful };
  begins = (more, refl);
}

-- what is left of a call that was to note these entries
left-opens : (why : HouseFault) (book more : List Entry) (s : Store) → Leaves why more (Some s) book → IsFaithful book s
    → IsFaithful (book ++ more) s → OpensLater book s
left-opens fault.NoMemory book more s leaves alone with_them = opens-itself book s leaves alone
left-opens fault.Store book more s (inl reads) alone with_them = opens-itself book s reads alone
left-opens fault.Store book more s (inr reads) alone with_them = opens-behind book more s reads with_them
left-opens (fault.Failed count) book more s leaves alone with_them = absurd leaves

-- told: the files of the book stand, and those of the book with these entries
left-told : (why : HouseFault) (book more : List Entry) (told : Option Store) → Leaves why more told book
    → IsSomeAnd told (λ s. IsFaithful book s × IsFaithful (book ++ more) s) → IsSomeAnd told (OpensLater book)
left-told why book more None leaves both = absurd both
left-told why book more (Some s) leaves both = left-opens why book more s leaves both.0 both.1

-- ---- a house

module _ {D : Type 0} (told : D → Option Store) where
  -- the journal reads to its book
  pub held-opens : (now : House D) → Holds (told now.shelf) (entries_of now) → IsSomeAnd (told now.shelf) (IsFaithful (entries_of now)) → StillOpens told now
  unfolding StillOpens
  held-opens now holds alone =
      both-some (λ (s : Store). Reads (entries_of now) s.journal) (IsFaithful (entries_of now)) (OpensLater (entries_of now)) (told now.shelf)
      (λ s reads faithful. opens-itself (entries_of now) s reads faithful) holds alone

  -- these entries were to be noted
  pub halted-opens : (events : List Entry) (why : HouseFault) (before now : House D) → AreHalted told events why before now
      → IsSomeAnd (told before.shelf) (λ s. IsFaithful (entries_of before) s × IsFaithful (entries_of before ++ events) s) → StillOpens told now
  unfolding StillOpens
  halted-opens events why before now halted both =
      subst (λ (b : List Entry). IsSomeAnd (told now.shelf) (OpensLater b)) (sym halted.entries)
      (left-told why (entries_of before) events (told now.shelf) halted.leaves
      (moved-some KeepsTree _ (λ s. IsFaithful (entries_of before) s × IsFaithful (entries_of before ++ events) s) (told before.shelf) (told now.shelf) halted.tree
      (λ x y kept faithful. (same-faithful (entries_of before) x y kept faithful.0, same-faithful (entries_of before ++ events) x y kept faithful.1)) both))

pub whole-opens : {D : Type 0} → WholeOpens D
whole-opens told house whole is = held-opens told house whole.ready.kept.reads (true-shown told house (whole.truly is))
