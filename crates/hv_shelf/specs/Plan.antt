-- Which calls of a store in memory fail, and what its counts are. Source: this project's profile.

use Rattle.std.specs.Prelude.{◌≡◌, ◌↔◌, ◌≤◌, ◌+◌, ℕ, List, [], ◌∷◌, Contains, slice_index, slice_index_or, slice_set, replicate, refl}
use Rattle.std.specs.Coded.{Coded, code_by, coded×, coded_ℕ, coded_list}
use Rattle.hv_base.specs.Faults.{one_more}
use Rattle.hv_shelf.specs.declared.plan.Op.{Op}
use Rattle.hv_shelf.specs.declared.plan.Op.TheVariants.{JournalLen, JournalRead, JournalWrite, JournalSync, List as ListPlaces, Get, Put, Rename, Remove}
use Rattle.hv_shelf.specs.declared.plan.Fail.{Fail}
use Rattle.hv_shelf.specs.Disk.{Store, store_code}

-- an operation's place among the nine
abbrev pub number_of : Op → ℕ
number_of JournalLen = 0
number_of JournalRead = 1
number_of JournalWrite = 2
number_of JournalSync = 3
number_of ListPlaces = 4
number_of Get = 5
number_of Put = 6
number_of Rename = 7
number_of Remove = 8

-- `fail`: the calls that are to fail. `calls`: how often each operation was called, up to 2^64 - 1.
pub record Plan : Type 0 where
  pub fail : List Fail
  pub calls : List ℕ
  pub faults : ℕ
  pub hard : ℕ

-- how often an operation was called, which is the number of its next call
abbrev pub calls_of : Op → Plan → ℕ
calls_of op plan = slice_index plan.calls (number_of op)

-- the same for each operation, after one more call of this one
abbrev pub calls_after : Op → Plan → List ℕ
calls_after op plan = slice_set plan.calls (number_of op) (one_more (calls_of op plan))

-- no call was made yet
abbrev pub new_plan : List Fail → Plan
new_plan fail = record { fail = fail; calls = replicate 9 0; faults = 0; hard = 0 }

-- The next call of this operation is to fail.
abbrev pub IsDue : Op → Plan → Type 0
IsDue op plan = Contains plan.fail (record { op = op; nth = calls_of op plan })

-- This operation was called: it failed exactly where that call was to fail. Then one fault was
-- counted, and elsewhere none.
pub record IsCall (op : Op) (Fails : Type 0) (before now : Plan) : Type 0 where
  pub due : Fails ↔ IsDue op before
  pub fail_is : now.fail ≡ before.fail
  pub calls_is : now.calls ≡ calls_after op before
  pub fault_is : Fails → now.faults ≡ one_more before.faults
  pub hard_most : now.hard ≤ before.hard + 1
  pub faults_stay : ¬ Fails → now.faults ≡ before.faults
  pub hard_stays : ¬ Fails → now.hard ≡ before.hard

-- A store in memory: what it holds, and its plan of failures.
pub record Memory : Type 0 where
  pub store : Store
  pub plan : Plan

-- ## As data

abbrev pub op_at : ℕ → Op
op_at n =
    slice_index_or
    (JournalLen ∷ JournalRead ∷ JournalWrite ∷ JournalSync ∷ ListPlaces ∷ Get ∷ Put ∷ Rename ∷ [])
    n Remove

pub op_at-number_of : (op : Op) → op_at (number_of op) ≡ op
op_at-number_of JournalLen = refl
op_at-number_of JournalRead = refl
op_at-number_of JournalWrite = refl
op_at-number_of JournalSync = refl
op_at-number_of ListPlaces = refl
op_at-number_of Get = refl
op_at-number_of Put = refl
op_at-number_of Rename = refl
op_at-number_of Remove = refl

abbrev pub fail_code : Coded Fail
fail_code =
    code_by (ℕ × ℕ) (coded× coded_ℕ coded_ℕ)
    (λ f. (number_of f.op, f.nth)) (λ p. record { op = op_at p.0; nth = p.1 })
    (λ f. λ i. record { op = op_at-number_of f.op i; nth = f.nth })

abbrev pub plan_code : Coded Plan
plan_code =
    code_by (List Fail × (List ℕ × (ℕ × ℕ)))
    (coded× (coded_list fail_code) (coded× (coded_list coded_ℕ) (coded× coded_ℕ coded_ℕ)))
    (λ p. (p.fail, (p.calls, (p.faults, p.hard))))
    (λ t. record { fail = t.0; calls = t.1.0; faults = t.1.1.0; hard = t.1.1.1 })
    (λ p. refl)

abbrev pub memory_code : Coded Memory
memory_code =
    code_by (Store × Plan) (coded× store_code plan_code)
    (λ m. (m.store, m.plan)) (λ p. record { store = p.0; plan = p.1 }) (λ m. refl)
