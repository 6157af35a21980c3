-- A walk goes over the write ids of a table, each once: over those of open transactions in their order, over those that have ended backwards.
use Rattle.std.proofs.Common.{◌≡◌, ℕ, suc, ◌+◌, ◌≤◌, Bool, true, false, Some, List, [], ◌∷◌, ◌++◌, length, map, filter, take, fold, refl, sym, ap, ◌∙◌, subst, arith}
use Rattle.std.specs.Prelude.{◌==◌, if◌then◌else◌}
use Rattle.std.specs.List.{slice_get}
use Rattle.std.proofs.lemmas.Bool.{eq-eqb, ne_eqb}
use Rattle.std.proofs.lemmas.List.Sums.{fold-append}
use Rattle.hv_jobs.specs.hv_history.specs.declared.entry.Entry.{Entry}
use Rattle.hv_jobs.specs.hv_history.specs.State.{state_of}
use Rattle.hv_ids.specs.declared.notes.IdNote.{IdNote}
use Rattle.hv_ids.specs.declared.notes.PlacedId.{PlacedId}
use Rattle.hv_ids.specs.Ids.{table_of, is_in}
use Rattle.hv_links.specs.Links.{last_of, before_of}
use Rattle.hv_earlier.specs.hv_meta.specs.hv_book.specs.Past.{Past, IsPast, total, only_if, weight_in, ended_weight}
use Rattle.hv_earlier.specs.hv_meta.specs.hv_book.proofs.IdLaws.{total-append}
use Rattle.hv_earlier.proofs.WalkLaws.{IsStop, stop-start, stop-step, walk-start, walk-step}
use Rattle.hv_tallies.specs.declared.tally.Tally.{Tally}
use Rattle.hv_tallies.specs.declared.tally.Reach.{Reach}
use Rattle.hv_tallies.specs.Tallies.{no_tally, visited}
use Rattle.hv_tallies.specs.Walks.{id_weight, HasWalked, IsTally}

-- ---- going back

-- so far it has seen what isn't left
pub record IsWalking (visit : Tally → IdNote → Tally) (table : ℕ) (ids : List PlacedId) (number : ℕ) (before now : Tally) : Type 0 where
  pub seen : List IdNote
  pub is : now ≡ fold visit before seen
  pub each : (weight : ℕ → ℕ → ℕ) → total (id_weight weight) seen + total (ended_weight table weight) (take number ids) ≡ total (ended_weight table weight) ids
  pub within : number ≤ length ids
  pub stop : IsStop table ids number

pub other-none : (table : ℕ) (weight : ℕ → ℕ → ℕ) (x : PlacedId) → (x.id.table ≡ table → ⊥) → ended_weight table weight x ≡ 0
other-none table weight x apart = ap (λ b. only_if b (weight x.id.write x.id.txn)) (ne_eqb x.id.table table apart)

pub own-weight : (table : ℕ) (weight : ℕ → ℕ → ℕ) (x : PlacedId) → x.id.table ≡ table → ended_weight table weight x ≡ id_weight weight x.id
own-weight table weight x same = ap (λ b. only_if b (weight x.id.write x.id.txn)) (eq-eqb x.id.table table same)

pub walk-begins : (visit : Tally → IdNote → Tally) (table : ℕ) (ids : List PlacedId) (number : ℕ) (before : Tally)
    → number ≡ last_of table (map table_of ids) → number ≤ length ids → IsWalking visit table ids number before before
walk-begins visit table ids number before is within = record {
  seen = [];
  is = refl;
  each = λ weight.
      let same = ap (λ n. total (ended_weight table weight) (take n ids)) is in
      let start = walk-start (ended_weight table weight) table (other-none table weight) ids in
      omega (arith, same, start);
  within = within;
  stop = subst (IsStop table ids) (sym is) (stop-start table ids);
}

pub walk-goes : (visit : Tally → IdNote → Tally) (table : ℕ) (ids : List PlacedId) (at next : ℕ) (x : PlacedId) (before now after : Tally)
    → IsWalking visit table ids (suc at) before now → slice_get ids at ≡ Some x → next ≡ before_of (suc at) (map table_of ids) → next ≤ at
    → after ≡ visit now x.id → IsWalking visit table ids next before after
walk-goes visit table ids at next x before now after walking got is less visits =
    let same : x.id.table ≡ table = walking.stop at x refl got in
    record {
      seen = walking.seen ++ x.id ∷ [];
      is = visits ∙ ap (λ t. visit t x.id) walking.is ∙ sym (fold-append visit before walking.seen (x.id ∷ []));
      each = λ weight.
          let step = walk-step (ended_weight table weight) table (other-none table weight) ids at x got same in
          let back = ap (λ n. total (ended_weight table weight) (take n ids)) is in
          let split = total-append (id_weight weight) walking.seen (x.id ∷ []) in
          let own = own-weight table weight x same in
          omega (arith, walking.each weight, step, back, split, own);
      within = let within = walking.within in omega (arith, within, less);
      stop = subst (IsStop table ids) (sym is) (stop-step table ids at x got same);
    }

pub walk-ends : (visit : Tally → IdNote → Tally) (table : ℕ) (ids : List PlacedId) (number : ℕ) (before now : Tally)
    → IsWalking visit table ids number before now → number ≡ 0 → HasWalked visit table ids before now
walk-ends visit table ids number before now walking none = record {
  seen = walking.seen;
  is = walking.is;
  each = λ weight.
      let nothing = ap (λ n. total (ended_weight table weight) (take n ids)) none in
      omega (arith, walking.each weight, nothing);
}

-- ---- those of open transactions

pub pending-total : (table : ℕ) (weight : ℕ → ℕ → ℕ) (xs : List IdNote) → total (id_weight weight) (filter (is_in table) xs) ≡ total (weight_in table weight) xs
pending-total table weight [] = refl
pending-total table weight (x ∷ xs) = by (pending-total table weight xs) (x.table == table)
  where
    by : total (id_weight weight) (filter (is_in table) xs) ≡ total (weight_in table weight) xs → (b : Bool) → total (id_weight weight) (if b then x ∷ filter (is_in table) xs else filter (is_in table) xs)
        ≡ only_if b (weight x.write x.txn) + total (weight_in table weight) xs
    by rest true = omega (arith, rest)
    by rest false = omega (arith, rest)

-- ---- all of them

pub all-walked : (entries : List Entry) (table : ℕ) (partition : List ℕ) (reach : Reach) (past : Past) (first second third : Tally) → IsPast entries past
    → first ≡ fold (visited (state_of entries) table partition reach) no_tally (filter (is_in table) past.pending)
    → HasWalked (visited (state_of entries) table partition reach) table past.aborted first second
    → HasWalked (visited (state_of entries) table partition reach) table past.committed second third
    → IsTally (state_of entries) table partition reach third
all-walked entries table partition reach past first second third kept is aborted committed =
    let visit = visited (state_of entries) table partition reach in
    let pending = filter (is_in table) past.pending in
    record {
      seen = pending ++ (aborted.seen ++ committed.seen);
      is =
          committed.is ∙ ap (λ t. fold visit t committed.seen) (aborted.is ∙ ap (λ t. fold visit t aborted.seen) is)
          ∙ sym (fold-append visit (fold visit no_tally pending) aborted.seen committed.seen)
          ∙ sym (fold-append visit no_tally pending (aborted.seen ++ committed.seen));
      each = λ weight.
          let one = total-append (id_weight weight) pending (aborted.seen ++ committed.seen) in
          let two = total-append (id_weight weight) aborted.seen committed.seen in
          let three = pending-total table weight past.pending in
          let whole = kept.ids table weight in
          omega (arith, one, two, three, aborted.each weight, committed.each weight, whole);
    }
