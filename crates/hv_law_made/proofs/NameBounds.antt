-- A book of few enough entries has names for all its directories: write ids are no more than its entries.
use Rattle.std.proofs.Common.{◌≡◌, ℕ, suc, ◌+◌, ◌<◌, ◌≤◌, Bool, true, false, Option, Some, None, List, [], ◌∷◌, length, map, refl, arith}
use Rattle.std.specs.Prelude.{if◌then◌else◌}
use Rattle.std.specs.List.{AllByRecursion}
use Rattle.hv_dirs.specs.Names.{write_end}
use Rattle.hv_stands.specs.hv_history.specs.declared.state.Table.{Table}
use Rattle.hv_stands.specs.hv_history.specs.declared.state.Transaction.{Transaction}
use Rattle.hv_stands.specs.hv_history.specs.declared.state.Written.{Written}
use Rattle.hv_stands.specs.hv_history.specs.State.{State, Job, numbered}
use Rattle.hv_stands.specs.hv_history.specs.Jobs.{is_open_one, ids_of, ended_front}
use Rattle.hv_stands.specs.Files.{ending_of}
use Rattle.hv_stands.specs.Sound.{HasFewOwners, IsOfCommitted, AreOfCommitted}
use Rattle.hv_law_jobs.specs.Sound.{HasSoundRange, IsSoundJob}
use Rattle.hv_law_jobs.proofs.OrderLemmas.{number-there, numbered-all, all-numbers}
use Rattle.hv_law_made.specs.Named.{IsNamedWrite, HasNamedRange, IsNamedJob, HasNames, IsOfTable, AllHaveNames}
use Rattle.hv_law_made.specs.Entries.{IsFewStatement, HasFewStatements, IsSoundBook, BooksHaveNames}

all-both : {A : Type 0} (P Q R : A → Type 0) → ((x : A) → P x → Q x → R x) → (xs : List A) → AllByRecursion P xs → AllByRecursion Q xs → AllByRecursion R xs
all-both P Q R step [] ps qs = tt
all-both P Q R step (x ∷ xs) ps qs = (step x ps.0 qs.0, all-both P Q R step xs ps.1 qs.1)

pub front-most : (ts : List Transaction) (owners : List ℕ) → ended_front ts owners ≤ length owners
front-most ts [] = omega arith
front-most ts (txn ∷ owners) = by (is_open_one (numbered ts txn)) (front-most ts owners)
  where
    by : (b : Bool) → ended_front ts owners ≤ length owners → (if b then 0 else ended_front ts owners + 1) ≤ suc (length owners)
    by true rest = omega arith
    by false rest = omega (arith, rest)

module _ (state : State) (few : state.entries < write_end) (sound : IsSoundBook state) where
  owners-few : (table : ℕ) → length (ids_of (numbered state.tables table)) ≤ state.entries
  owners-few table = by (numbered state.tables table) refl
    where
      by : (o : Option Table) → numbered state.tables table ≡ o → length (ids_of o) ≤ state.entries
      by None is = omega arith
      by (Some t) is = numbered-all (HasFewOwners state.entries) state.tables table t sound.base.tables.few is

  pub named-range : (job : Job) (o : Option (ℕ × ℕ × ℕ)) → HasSoundRange state job o → HasNamedRange o
  named-range job None range = tt
  named-range job (Some r) range =
      let ended = range.ended in
      let front = front-most state.transactions (ids_of (numbered state.tables job.table)) in
      let most = owners-few job.table in
      (range.first, range.order, omega (arith, ended, front, most, few))

  named-job : (k : ℕ) (job : Job) → numbered state.jobs k ≡ Some job → IsNamedJob job
  named-job k job at = named-range job job.published (numbered-all (IsSoundJob state) state.jobs k job sound.jobs.each at).range

  module _ (n : ℕ) (t : Table) (is : numbered state.tables n ≡ Some t) where
    most : length t.owners ≤ state.entries
    most = numbered-all (HasFewOwners state.entries) state.tables n t sound.base.tables.few is

    done : AreOfCommitted (map ending_of state.transactions) t
    done = numbered-all (AreOfCommitted (map ending_of state.transactions)) state.tables n t sound.base.committed is

    named-write : (written : Written) → IsOfCommitted (map ending_of state.transactions) t.owners written → IsFewStatement written → IsNamedWrite written
    named-write written of statement =
        let at = number-there t.owners written.write of.0 of.1 in
        let last = at.1 in
        record {
          write = (at.0, omega (arith, last, most, few));
          statement = statement;
        }

    has-names : HasNames state t
    has-names = record {
      ids = λ write txn e. let last = (number-there t.owners write txn e).1 in omega (arith, last, most, few);
      writes = all-both (IsOfCommitted (map ending_of state.transactions) t.owners) IsFewStatement IsNamedWrite named-write t.writes done
          (numbered-all HasFewStatements state.tables n t sound.statements is);
      committed = done;
      jobs = all-numbers IsNamedJob state.jobs named-job;
    }

  pub all-named : AllHaveNames state
  all-named = record {
    tables = all-numbers (HasNames state) state.tables has-names;
    jobs = all-numbers (IsOfTable state) state.jobs (λ k job at. (numbered-all (IsSoundJob state) state.jobs k job sound.jobs.each at).table);
  }

pub books-have-names : BooksHaveNames
books-have-names state few sound = all-named state few sound
