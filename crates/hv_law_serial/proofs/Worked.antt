-- The script worked out by hand, action by action.
use Rattle.std.proofs.Common.{◌≡◌, ℕ, suc, ◌+◌, Option, Some, None, List, [], ◌∷◌, ◌++◌, take, drop, ap, ◌∙◌, arith}
use Rattle.std.specs.Prelude.{true}
use Rattle.hv_base.specs.declared.gate.Stage.{Stage}
use Rattle.hv_base.specs.declared.gate.Stage.TheVariants as stage
use Rattle.hv_history.specs.declared.entry.Entry.{Entry}
use Rattle.hv_history.specs.declared.entry.Entry.TheVariants as entry
use Rattle.hv_history.specs.declared.entry.Cause.TheVariants as cause
use Rattle.hv_history.specs.Asking.{listed_in}
use Rattle.hv_history.specs.State.{numbered, acted, state_of}
use Rattle.hv_law_next.specs.Next.{due, with_one, steps, carried_on, start, abort}
use Rattle.hv_law_next.proofs.Going.{idle}
use Rattle.hv_program.specs.Doing.{Waiting, Standing, asking_of}
use Rattle.hv_program.specs.Running.{beginning}
use Rattle.hv_law_serial.specs.Serial.{text_runs, if_runs, stood, taken_up, released, serial}
use Rattle.hv_law_serial.specs.Worked.{text_by_hand, book_by_hand, one_by_hand, two_by_hand, statement_by_hand, actions_by_hand}

-- one entry is due, and then none
carried : (hold : Option Stage) (txn : ℕ) (book : List Entry) (event : Entry) → due hold (state_of book) txn ≡ Some event
    → due hold (state_of (book ++ event ∷ [])) txn ≡ None → carried_on hold txn book ≡ book ++ event ∷ []
unfolding carried_on
carried hold txn book event next none =
    let n : ℕ = listed_in (numbered (state_of book).transactions txn) in
    let more : 3 + n ≡ suc (2 + n) = omega arith in
    ap (λ k. steps k hold txn book) more
    ∙ ap (λ o. steps (2 + n) hold txn (with_one book o)) next
    ∙ idle (2 + n) hold txn (book ++ event ∷ []) none

abbrev held_one : Waiting
held_one = record { session = one_by_hand.name; txn = 1 }

abbrev made_one : Entry
made_one = entry.Create (record { 0 = 1 }) (record { 0 = 1 })

module _ (runs : text_runs text_by_hand ≡ true)
    (starts : due (Some stage.Start) (state_of (take 1 book_by_hand)) 1 ≡ Some (start 1))
    (held : due (Some stage.Start) (state_of (take 2 book_by_hand)) 1 ≡ None)
    (blocked : due None (state_of (take 3 book_by_hand)) 2 ≡ Some (abort 2 (cause.Blocked (record { 0 = 1 }))))
    (ended : due None (state_of (take 4 book_by_hand)) 2 ≡ None)
    (makes : due None (state_of (take 4 book_by_hand)) 1 ≡ Some made_one)
    (whole : due None (state_of book_by_hand) 1 ≡ None) where
  first : taken_up (beginning []) (asking_of (statement_by_hand one_by_hand 1 (Some stage.Start))) (Some stage.Start)
      ≡ record { book = take 2 book_by_hand; waiting = held_one ∷ [] }
  unfolding acted
  first =
      ap (λ b. if_runs b (beginning []) (asking_of (statement_by_hand one_by_hand 1 (Some stage.Start))) (Some stage.Start)) runs
      ∙ ap (stood [] (asking_of (statement_by_hand one_by_hand 1 (Some stage.Start))) 1) (carried (Some stage.Start) 1 (take 1 book_by_hand) (start 1) starts held)

  abbrev between : Standing
  between = record { book = take 2 book_by_hand; waiting = held_one ∷ [] }

  second : taken_up between (asking_of (statement_by_hand two_by_hand 2 None)) None ≡ record { book = take 4 book_by_hand; waiting = held_one ∷ [] }
  unfolding acted
  second =
      ap (λ b. if_runs b between (asking_of (statement_by_hand two_by_hand 2 None)) None) runs
      ∙ ap (stood (held_one ∷ []) (asking_of (statement_by_hand two_by_hand 2 None)) 2)
      (carried None 2 (take 3 book_by_hand) (abort 2 (cause.Blocked (record { 0 = 1 }))) blocked ended)

  third : released (record { book = take 4 book_by_hand; waiting = held_one ∷ [] }) one_by_hand.name (Some held_one) ≡ record { book = book_by_hand; waiting = [] }
  third = ap (λ (xs : List Entry). record { book = xs; waiting = [] }) (carried None 1 (take 4 book_by_hand) made_one makes whole)

  pub script : serial (beginning []) actions_by_hand ≡ record { book = book_by_hand; waiting = [] }
  script =
      ap (λ (s : Standing). serial s (drop 1 actions_by_hand)) first
      ∙ ap (λ (s : Standing). serial s (drop 2 actions_by_hand)) second
      ∙ third
