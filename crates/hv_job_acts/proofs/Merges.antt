-- What a job merges, as it is asked of a house.
use Rattle.std.proofs.Common.{◌≡◌, ℕ, Option, Some, List, subst}
use Rattle.hv_history.specs.declared.entry.Entry.{Entry}
use Rattle.hv_history.specs.State.{Job, numbered, state_of}
use Rattle.hv_finals.specs.declared.merging.Merge.{Merge}
use Rattle.hv_finals.specs.Finals.{merge_in}
use Rattle.hv_acts.specs.hv_telling.specs.hv_house.specs.declared.house.House.{House}
use Rattle.hv_acts.specs.hv_telling.specs.hv_house.specs.House.{entries_of}

pub merge-at : {D : Type 0} (house : House D) (job : ℕ) (entries : List Entry) (found : Option Merge) → entries ≡ entries_of house
    → ((j : Job) → numbered (state_of entries).jobs job ≡ Some j → found ≡ merge_in (state_of entries) j)
    → (j : Job) → numbered (state_of (entries_of house)).jobs job ≡ Some j → found ≡ merge_in (state_of (entries_of house)) j
merge-at house job entries found are each =
    subst (λ (book : List Entry). (j : Job) → numbered (state_of book).jobs job ≡ Some j → found ≡ merge_in (state_of book) j) are each
