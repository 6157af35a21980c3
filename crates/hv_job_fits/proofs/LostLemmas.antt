-- When an aborted write id may be forgotten.
use Rattle.std.proofs.Common.{◌≡◌, ℕ, zero, suc, ◌+◌, ◌<◌, Option, Some, None, List, [], ◌∷◌, map, filter, length, refl, sym, ap, ◌∙◌, arith, true≢false}
use Rattle.std.specs.Prelude.{if◌then◌else◌, Bool, true, false, not, nat_lt, ◌==◌, ◌&&◌, ◌||◌, ◌↔◌, IsTrue, IsSomeAnd}
use Rattle.std.specs.Option.{option_map}
use Rattle.std.specs.List.{slice_get, list_any, AllByRecursion}
use Rattle.std.proofs.lemmas.Bool.{eq-eqb, ne_eqb, lt-ltb}
use Rattle.std.proofs.lemmas.List.{take_all}
use Rattle.hv_base.specs.declared.ids.Limits.{Limits}
use Rattle.hv_queue.specs.hv_history.specs.declared.entry.Entry.{Entry}
use Rattle.hv_queue.specs.hv_history.specs.declared.state.Table.{Table}
use Rattle.hv_queue.specs.hv_history.specs.declared.state.Transaction.{Transaction}
use Rattle.hv_queue.specs.hv_history.specs.declared.state.Ending.{Ending}
use Rattle.hv_queue.specs.hv_history.specs.declared.state.Ending.TheVariants.{Committed, Aborted, Made, Dropped}
use Rattle.hv_queue.specs.hv_history.specs.State.{State, state_of, numbered}
use Rattle.hv_queue.specs.hv_history.specs.Legal.{HasRoom}
use Rattle.hv_queue.specs.hv_history.specs.Jobs.{is_live_one}
use Rattle.hv_queue.specs.hv_history.specs.JobsFit.{is_aborted_by, is_aborted_one, is_aborted_id, ForgotFits}
use Rattle.hv_ids.specs.declared.notes.IdNote.{IdNote}
use Rattle.hv_ids.specs.declared.notes.PlacedId.{PlacedId}
use Rattle.hv_ids.specs.Ids.{is_in}
use Rattle.hv_queue.specs.hv_tallies.specs.hv_earlier.specs.hv_meta.specs.hv_book.specs.declared.past.ForgotNote.{ForgotNote}
use Rattle.hv_queue.specs.hv_tallies.specs.hv_earlier.specs.hv_meta.specs.hv_book.specs.Briefs.{brief, end_of}
use Rattle.hv_queue.specs.hv_tallies.specs.hv_earlier.specs.hv_meta.specs.hv_book.specs.Past.{Past, IsPast, IsSettled, HasCommitted, owners_in, forgotten_in, forgot_then, forgot_id, total, total_from, only_if, weight_in, ended_weight}
use Rattle.hv_queue.specs.hv_tallies.specs.hv_earlier.specs.hv_meta.specs.hv_book.proofs.TextLaws.{numbered-map}
use Rattle.hv_queue.specs.hv_tallies.specs.hv_earlier.specs.hv_meta.proofs.FactLemmas.{and-left, and-right, and-both, false-is}
use Rattle.hv_queue.specs.hv_tallies.specs.Walks.{id_weight}
use Rattle.hv_queue.specs.hv_tallies.proofs.WalkLemmas.{pending-total}
use Rattle.hv_job_fits.specs.Notes.{is_aborted_end, is_aborted_note, is_lost_in, lost_weight, is_forgot}

-- ---- a transaction's note

aborted-end : (o : Option Ending) → is_aborted_end (option_map end_of o) ≡ is_aborted_by o
aborted-end None = refl
aborted-end (Some (Committed place wrote)) = refl
aborted-end (Some (Aborted place cause)) = refl
aborted-end (Some (Made place table)) = refl
aborted-end (Some (Dropped place table)) = refl

pub aborted-same : (ts : List Transaction) (n : ℕ) → is_aborted_note (numbered (map brief ts) n) ≡ is_aborted_one (numbered ts n)
aborted-same ts n = ap is_aborted_note (numbered-map brief ts n) ∙ by (numbered ts n)
  where
    by : (o : Option Transaction) → is_aborted_note (option_map brief o) ≡ is_aborted_one o
    by None = refl
    by (Some t) = aborted-end t.ending

-- ---- something of a list weighs something

some-weight : (n : ℕ) → nat_lt 0 (1 + n) ≡ true
some-weight n = lt-ltb 0 (1 + n) (omega arith)

or-weight : (a b : ℕ) → (nat_lt 0 a || nat_lt 0 b) ≡ nat_lt 0 (a + b)
or-weight zero b = let same : b ≡ 0 + b = omega arith in ap (λ n. nat_lt 0 n) same
or-weight (suc a) b =
    ap (λ c. c || nat_lt 0 b) (lt-ltb 0 (suc a) (omega arith)) ∙ sym (lt-ltb 0 (suc a + b) (omega arith))

only-weight : (c : Bool) → nat_lt 0 (only_if c 1) ≡ c
only-weight true = some-weight 0
only-weight false = refl

module _ (ts : List Transaction) (write : ℕ) where
  abbrev weight : ℕ → ℕ → ℕ
  weight = lost_weight ts write

  any-weight : (ids : List IdNote) → list_any (is_lost_in ts write) ids ≡ nat_lt 0 (total (id_weight weight) ids)
  any-weight [] = refl
  any-weight (id ∷ ids) =
      ap (λ c. is_lost_in ts write id || c) (any-weight ids)
      ∙ ap (λ c. c || nat_lt 0 (total (id_weight weight) ids)) (sym (only-weight (is_lost_in ts write id)))
      ∙ or-weight (id_weight weight id) (total (id_weight weight) ids)

  -- ---- the write ids of a table

  pub lost-other : (other txn : ℕ) → (other ≡ write → ⊥) → weight other txn ≡ 0
  lost-other other txn apart = ap (λ c. only_if (c && is_aborted_one (numbered ts txn)) 1) (ne_eqb other write apart)

  pub lost-own : (other txn : ℕ) → other ≡ write → weight other txn ≡ only_if (is_aborted_one (numbered ts txn)) 1
  lost-own other txn same = ap (λ c. only_if (c && is_aborted_one (numbered ts txn)) 1) (eq-eqb other write same)

  behind-none : (first : ℕ) (owners : List ℕ) → write < first → total_from weight first owners ≡ 0
  behind-none first [] below = refl
  behind-none first (txn ∷ owners) below =
      let none = lost-other first txn (λ same. absurd (omega (arith, same, below))) in
      let rest = behind-none (first + 1) owners (omega (arith, below)) in
      omega (arith, none, rest)

  owners-at : (m first : ℕ) (owners : List ℕ) → write ≡ first + m → nat_lt 0 (total_from weight first owners) ≡ is_aborted_id ts (slice_get owners m)
  owners-at zero first [] at = refl
  owners-at (suc m) first [] at = refl
  owners-at zero first (txn ∷ owners) at =
      let same : first ≡ write = omega (arith, at) in
      let own = lost-own first txn same in
      let rest = behind-none (first + 1) owners (omega (arith, at)) in
      let whole : total_from weight first (txn ∷ owners) ≡ only_if (is_aborted_one (numbered ts txn)) 1 = omega (arith, own, rest) in
      ap (λ n. nat_lt 0 n) whole ∙ only-weight (is_aborted_one (numbered ts txn))
  owners-at (suc m) first (txn ∷ owners) at =
      let none = lost-other first txn (λ same. absurd (omega (arith, at, same))) in
      let whole : total_from weight first (txn ∷ owners) ≡ total_from weight (first + 1) owners = omega (arith, none) in
      ap (λ n. nat_lt 0 n) whole ∙ owners-at m (first + 1) owners (omega (arith, at))

  owners-lost : (owners : List ℕ) (n : ℕ) → write ≡ n → nat_lt 0 (total_from weight 1 owners) ≡ is_aborted_id ts (numbered owners n)
  owners-lost owners zero at = ap (λ n. nat_lt 0 n) (behind-none 1 owners (omega (arith, at)))
  owners-lost owners (suc m) at = owners-at m 1 owners (omega (arith, at))

-- ---- those of committed transactions weigh nothing

committed-none : (o : Option Ending) (ending : Ending) → o ≡ Some ending → (end_of ending).committed ≡ true → is_aborted_by o ≡ false
committed-none o (Committed place wrote) is committed = ap is_aborted_by is
committed-none o (Aborted place cause) is committed = absurd (true≢false (sym committed))
committed-none o (Made place table) is committed = ap is_aborted_by is
committed-none o (Dropped place table) is committed = ap is_aborted_by is

settled-none : (state : State) (table write : ℕ) (ids : List PlacedId) → AllByRecursion (IsSettled state) ids
    → total (ended_weight table (lost_weight state.transactions write)) ids ≡ 0
settled-none state table write [] all = refl
settled-none state table write (x ∷ ids) all =
    let settled : HasCommitted state x.id.txn x.at = all.0 in
    let alive : is_aborted_one (numbered state.transactions x.id.txn) ≡ false =
    ap is_aborted_one settled.is ∙ committed-none settled.transaction.ending settled.ending settled.ended settled.committed
    in
    let none : ended_weight table (lost_weight state.transactions write) x ≡ 0 =
    ap (λ c. only_if (x.id.table == table) (only_if ((x.id.write == write) && c) 1)) alive ∙ nothing (x.id.table == table) (x.id.write == write)
    in
    omega (arith, none, settled-none state table write ids all.1)
  where
    nothing : (b c : Bool) → only_if b (only_if (c && false) 1) ≡ 0
    nothing true true = refl
    nothing true false = refl
    nothing false true = refl
    nothing false false = refl

-- ---- an aborted one

pub lost-law : (entries : List Entry) (past : Past) (table write : ℕ) → IsPast entries past → (pending ended : Bool)
    → pending ≡ list_any (is_lost_in (state_of entries).transactions write) (filter (is_in table) past.pending)
    → ended ≡ nat_lt 0 (total (ended_weight table (lost_weight (state_of entries).transactions write)) past.aborted)
    → (pending || ended) ≡ is_aborted_id (state_of entries).transactions (numbered (owners_in (numbered (state_of entries).tables table)) write)
lost-law entries past table write kept pending ended pending_is ended_is =
    let ts = (state_of entries).transactions in
    let weight = lost_weight ts write in
    let owners = owners_in (numbered (state_of entries).tables table) in
    let waits : ℕ = total (weight_in table weight) past.pending in
    let aborted : ℕ = total (ended_weight table weight) past.aborted in
    let first : pending ≡ nat_lt 0 waits =
    pending_is ∙ any-weight ts write (filter (is_in table) past.pending) ∙ ap (λ n. nat_lt 0 n) (pending-total table weight past.pending)
    in
    let none = settled-none (state_of entries) table write past.committed kept.settled in
    let ids = kept.ids table weight in
    let whole : waits + aborted ≡ total_from weight 1 owners = omega (arith, none, ids) in
    (λ i. first i || ended_is i) ∙ or-weight waits aborted ∙ ap (λ n. nat_lt 0 n) whole ∙ owners-lost ts write owners write refl

-- ---- one that was forgotten

forgot-any : (position table write : ℕ) (notes : List ForgotNote)
    → list_any (is_forgot position table write) notes ≡ list_any (λ other. other == write) (map forgot_id (filter (forgot_then position table) notes))
forgot-any position table write [] = refl
forgot-any position table write (note ∷ notes) = by (forgot_then position table note) (forgot-any position table write notes)
  where
    by : (c : Bool) → list_any (is_forgot position table write) notes ≡ list_any (λ other. other == write) (map forgot_id (filter (forgot_then position table) notes))
        → ((c && (note.write == write)) || list_any (is_forgot position table write) notes)
        ≡ list_any (λ other. other == write) (map forgot_id (if c then note ∷ filter (forgot_then position table) notes else filter (forgot_then position table) notes))
    by true rest = ap (λ b. (note.write == write) || b) rest
    by false rest = rest

pub forgot-law : (entries : List Entry) (past : Past) (table write position : ℕ) → IsPast entries past → position ≡ length entries → (k : Bool)
    → k ≡ list_any (is_forgot position table write) past.forgotten
    → k ≡ list_any (λ other. other == write) (forgotten_in (numbered (state_of entries).tables table))
forgot-law entries past table write position kept at k is =
    is ∙ ap (λ n. list_any (is_forgot n table write) past.forgotten) at ∙ forgot-any (length entries) table write past.forgotten
    ∙ ap (list_any (λ other. other == write)) (kept.forgotten (length entries) table)
    ∙ ap (λ (xs : List Entry). list_any (λ other. other == write) (forgotten_in (numbered (state_of xs).tables table))) (take_all (length entries) entries (omega arith))

-- ---- all that is asked of a Forgot

module _ (limits : Limits) (state : State) (write : ℕ) (l a k r : Bool) (room : IsTrue r ↔ HasRoom limits state 1) where
  pub forgets-law : (o : Option Table) → l ≡ is_live_one o → a ≡ is_aborted_id state.transactions (numbered (owners_in o) write)
      → k ≡ list_any (λ other. other == write) (forgotten_in o) → (IsTrue (l && (a && (not k && r)))) ↔ IsSomeAnd o (ForgotFits limits state write)
  forgets-law None live aborted kept = (
    λ e. absurd (let both : false ≡ true = sym live ∙ and-left l (a && (not k && r)) e in cc),
    λ h. absurd h,
  )
  forgets-law (Some t) live aborted kept =
      let new = false-is k in (
        λ e.
            let e1 : (a && (not k && r)) ≡ true = and-right l (a && (not k && r)) e in
            let e2 : (not k && r) ≡ true = and-right a (not k && r) e1 in
            record {
              live = sym live ∙ and-left l (a && (not k && r)) e;
              aborted = sym aborted ∙ and-left a (not k && r) e1;
              kept = sym kept ∙ new.0 (and-left (not k) r e2);
              room = room.0 (and-right (not k) r e2);
            },
        λ h.
            let e2 : (not k && r) ≡ true = and-both (not k) r (new.1 (kept ∙ h.kept)) (room.1 h.room) in
            and-both l (a && (not k && r)) (live ∙ h.live) (and-both a (not k && r) (aborted ∙ h.aborted) e2),
      )

-- ---- going back over those that were aborted

pub some-total : (n : ℕ) → 0 < n → true ≡ nat_lt 0 n
some-total n some = sym (lt-ltb 0 n some)

pub none-total : (n : ℕ) → n ≡ 0 → false ≡ nat_lt 0 n
none-total n none = sym (ap (λ m. nat_lt 0 m) none)
