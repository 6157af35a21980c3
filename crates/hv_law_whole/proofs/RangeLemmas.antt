-- A commit says a touch of each partition in which it wrote; so nothing was written there behind the end of a job's range, up to its
-- watermark.
use Rattle.std.proofs.Common.{refl, ◌≡◌, inl, inr, ℕ, zero, suc, ◌+◌, ◌<◌, ◌≤◌, ◌==◌, ◌&&◌, ◌||◌, nat_eq, nat_le, Bool, true, false, is_some, Option, Some, None, List, [], ◌∷◌, ◌++◌, map, filter, option_map, sym, ap, ◌∙◌, subst, arith, eq-eqb, true≢false}
use Rattle.std.specs.Prelude.{if◌then◌else◌, not, find}
use Rattle.std.specs.Cmp.Lexicographic.{pointwise}
use Rattle.std.specs.List.{slice_get, flat_map, list_any}
use Rattle.std.proofs.lemmas.Bool.{and_from, or_left, or_right, leb-true, leb-false}
use Rattle.std.proofs.lemmas.List.Folds.{list_any-append}
use Rattle.hv_base.specs.declared.ids.RowId.{RowId}
use Rattle.hv_base.specs.declared.ids.Touch.{Touch}
use Rattle.hv_base.specs.Sorting.{sorted_by}
use Rattle.hv_logic.specs.declared.effect.Found.{Found}
use Rattle.hv_history.specs.declared.state.Table.{Table}
use Rattle.hv_history.specs.declared.state.Transaction.{Transaction}
use Rattle.hv_history.specs.declared.state.Written.{Written}
use Rattle.hv_history.specs.State.{State, Job, numbered, state_of, content_of}
use Rattle.hv_history.specs.Legal.{profile}
use Rattle.hv_history.specs.Jobs.{greatest, is_job_of, is_touch_of, events_if, events_by, events_at, events_from, ids_of, events_in, write_of, mark_by, pieces_for}
use Rattle.hv_history.specs.Jobs as jobs
use Rattle.hv_law_directories.specs.hv_stands.specs.Sound.{given_of, owners_of, given_among, owner_among, IsSound}
use Rattle.hv_law_directories.specs.hv_stands.proofs.Numbers.{numbered-map}
use Rattle.hv_law_jobs.specs.Sound.{is_of_write}
use Rattle.hv_law_jobs.proofs.CountLemmas.{marked-most, there-most}
use Rattle.hv_law_jobs.proofs.OrderLemmas.{job-of-is}
use Rattle.hv_law_made.specs.Made.{is_up_to}
use Rattle.hv_law_made.proofs.BookLemmas.{books-are-sound}
use Rattle.hv_law_made.proofs.NamedLemmas.{text-same}
use Rattle.hv_law_visible.specs.Members.{IsIn}
use Rattle.hv_law_visible.specs.History as visible
use Rattle.hv_law_visible.specs.History.{Write, is_row}
use Rattle.hv_law_visible.specs.Visible.{by_id}
use Rattle.hv_law_visible.proofs.MemberLemmas.{any-in}
use Rattle.hv_law_directories.specs.hv_law_partitions.specs.Partitions.{id_of, rows_of, write_in, writes_of}
use Rattle.hv_law_directories.specs.hv_law_partitions.proofs.ContentLemmas.{from-rows}
use Rattle.hv_law_directories.specs.hv_law_partitions.proofs.OrderLemmas.{content-in-order}
use Rattle.hv_law_whole.specs.Shown.{JobsAreShown}
use Rattle.hv_law_whole.proofs.OnceLemmas.{IsTouched, books-touched}
use Rattle.hv_law_whole.proofs.KeptLemmas.{jobs-read}

-- ---- a commit with a touch in the partition is among its events

-- one of these touches is of that table and partition
abbrev HasTouch : ℕ → List ℕ → List Touch → Type 0
HasTouch table partition touches = (touch : Touch) × IsIn touch touches × (touch.table.0 ≡ table) × (touch.partition ≡ partition)

found-some : (p : Touch → Bool) (touches : List Touch) → list_any p touches ≡ true → is_some (find p touches) ≡ true
found-some p [] any = any
found-some p (touch ∷ touches) any = by (found-some p touches) (p touch) any
  where
    by : (list_any p touches ≡ true → is_some (find p touches) ≡ true) → (b : Bool) → (b || list_any p touches) ≡ true
        → is_some (if b then Some touch else find p touches) ≡ true
    by rest true any = refl
    by rest false any = rest any

event-if : (write : ℕ) (o : Option Touch) → is_some o ≡ true → list_any (is_of_write write) (events_if write o) ≡ true
event-if write None some = absurd (true≢false (sym some))
event-if write (Some touch) some = or_left (write == write) false (eq-eqb write write refl)

touch-any : (table : ℕ) (partition : List ℕ) (touches : List Touch) → HasTouch table partition touches → list_any (is_touch_of table partition) touches ≡ true
touch-any table partition touches has =
    any-in (is_touch_of table partition) has.0 touches has.1
    (and_from (has.0.table.0 == table) (pointwise nat_eq has.0.partition partition) (eq-eqb has.0.table.0 table has.2) (text-same has.0.partition partition has.3))

any-from : (ts : List Transaction) (table : ℕ) (partition : List ℕ) (write first : ℕ) (owners : List ℕ) (k txn : ℕ) → write ≡ first + k → slice_get owners k ≡ Some txn
    → list_any (is_of_write write) (events_at table partition write (numbered ts txn)) ≡ true
    → list_any (is_of_write write) (events_from ts table partition first owners) ≡ true
any-from ts table partition write first [] k txn number at any = cc
any-from ts table partition write first (owner ∷ owners) zero txn number at any =
    let same : owner ≡ txn = cc in
    let here : write ≡ first = omega (arith, number) in
    let its : list_any (is_of_write write) (events_at table partition first (numbered ts owner)) ≡ true =
    subst (λ n. list_any (is_of_write write) (events_at table partition n (numbered ts owner)) ≡ true) here
    (subst (λ n. list_any (is_of_write write) (events_at table partition write (numbered ts n)) ≡ true) (sym same) any) in
    list_any-append (is_of_write write) (events_at table partition first (numbered ts owner)) (events_from ts table partition (first + 1) owners)
    ∙ or_left (list_any (is_of_write write) (events_at table partition first (numbered ts owner)))
    (list_any (is_of_write write) (events_from ts table partition (first + 1) owners)) its
any-from ts table partition write first (owner ∷ owners) (suc k) txn number at any =
    let next : write ≡ first + 1 + k = omega (arith, number) in
    list_any-append (is_of_write write) (events_at table partition first (numbered ts owner)) (events_from ts table partition (first + 1) owners)
    ∙ or_right (list_any (is_of_write write) (events_at table partition first (numbered ts owner)))
    (list_any (is_of_write write) (events_from ts table partition (first + 1) owners))
    (any-from ts table partition write (first + 1) owners k txn next at any)

module _ (s : State) (number : ℕ) (table : Table) (here : numbered s.tables number ≡ Some table) (partition : List ℕ) where
  event-in : (write txn : ℕ) → numbered table.owners write ≡ Some txn
      → list_any (is_of_write write) (events_at number partition write (numbered s.transactions txn)) ≡ true
      → list_any (is_of_write write) (events_in s number partition) ≡ true
  event-in zero txn at any = cc
  event-in (suc k) txn at any =
      subst (λ o. list_any (is_of_write (suc k)) (events_from s.transactions number partition 1 (ids_of o)) ≡ true) (sym here)
      (any-from s.transactions number partition (suc k) 1 table.owners k txn (omega arith) at any)

  module _ (base : IsSound s) (w : Written) (is : IsTouched s number w) where
    pub owner : numbered table.owners w.write ≡ Some is.txn
    owner =
        sym (ap (λ o. owner_among o w.write) (numbered-map owners_of s.tables number ∙ ap (option_map owners_of) here))
        ∙ base.given.has_owner is.txn number w.write
        (ap (λ o. given_among o number) (numbered-map given_of s.transactions is.txn ∙ ap (option_map given_of) is.here) ∙ is.given)

    its-event : HasTouch number partition is.those → list_any (is_of_write w.write) (events_in s number partition) ≡ true
    its-event has =
        event-in w.write is.txn owner
        (ap (λ o. list_any (is_of_write w.write) (events_at number partition w.write o)) is.here
        ∙ ap (λ e. list_any (is_of_write w.write) (events_by number partition w.write e)) is.ending
        ∙ event-if w.write (find (is_touch_of number partition) is.those)
        (found-some (is_touch_of number partition) is.those (touch-any number partition is.those has)))

    -- so its write id is at most the greatest one up to a mark
    at-most : (mark : ℕ) → w.write ≤ mark → HasTouch number partition is.those
        → w.write ≤ greatest (map write_of (filter (jobs.is_up_to mark) (events_in s number partition)))
    at-most mark up has = there-most w.write mark (events_in s number partition) up (its-event has)

    -- behind that it wrote nothing in the partition
    module _ (mark : ℕ) (up : w.write ≤ mark) (behind : greatest (map write_of (filter (jobs.is_up_to mark) (events_in s number partition))) < w.write) where
      never : HasTouch number partition is.those → ⊥
      never has = let most = at-most mark up has in omega (arith, most, behind)

      none-inserted : (row : Found) → IsIn row (rows_of partition w.inserts) → ⊥
      none-inserted row at =
          let its = from-rows partition row w.inserts at in
          let touch = is.puts row its.0 in
          never (touch.0, touch.1, touch.2, touch.3 ∙ its.1)

      none-deleted : (row : Found) → IsIn row (rows_of partition w.deletes) → ⊥
      none-deleted row at =
          let its = from-rows partition row w.deletes at in
          let touch = is.says row its.0 in
          never (touch.0, touch.1, touch.2, touch.3 ∙ its.1)

-- ---- what is left without writes that wrote nothing

none-left : {A : Type 0} (xs : List A) → ((x : A) → IsIn x xs → ⊥) → xs ≡ []
none-left [] none = refl
none-left (x ∷ xs) none = absurd (none x (inl refl))

module _ {A : Type 0} (g : Write Found → List A) (partition : List ℕ) (mark high : ℕ) (within : high ≤ mark) where
  flat-same : (ws : List Written) → ((w : Written) → IsIn w ws → w.write ≤ mark → high < w.write → g (write_in partition w) ≡ [])
      → flat_map g (writes_of partition (filter (is_up_to mark) ws)) ≡ flat_map g (writes_of partition (filter (is_up_to high) ws))
  flat-same [] none = refl
  flat-same (w ∷ ws) none = by (nat_le w.write mark) refl (nat_le w.write high) refl (flat-same ws (λ v at. none v (inr at)))
    where
      by : (a : Bool) → nat_le w.write mark ≡ a → (b : Bool) → nat_le w.write high ≡ b
          → flat_map g (writes_of partition (filter (is_up_to mark) ws)) ≡ flat_map g (writes_of partition (filter (is_up_to high) ws))
          → flat_map g (writes_of partition (if a then w ∷ filter (is_up_to mark) ws else filter (is_up_to mark) ws))
          ≡ flat_map g (writes_of partition (if b then w ∷ filter (is_up_to high) ws else filter (is_up_to high) ws))
      by true up true under rest = ap (λ xs. g (write_in partition w) ++ xs) rest
      by true up false over rest =
          ap (λ xs. xs ++ flat_map g (writes_of partition (filter (is_up_to mark) ws)))
          (none w (inl refl) (leb-true w.write mark up) (leb-false w.write high over))
          ∙ rest
      by false up true under rest =
          let beyond = leb-false w.write mark up in
          let low = leb-true w.write high under in
          absurd (omega (arith, beyond, low, within))
      by false up false over rest = rest

content-same : (these those : List (Write Found)) → visible.inserts_of these ≡ visible.inserts_of those → visible.deletes_of these ≡ visible.deletes_of those
    → visible.content_of id_of these ≡ visible.content_of id_of those
content-same these those inserts deletes =
    λ i. filter (λ (found : Found). not (list_any (λ (other : RowId). is_row other found.id) (deletes i))) (inserts i)

-- what is left up to a mark is left up to the last write that wrote in the partition
module _ (s : State) (base : IsSound s) (number : ℕ) (table : Table) (here : numbered s.tables number ≡ Some table) (partition : List ℕ) (mark : ℕ)
    (touched : (w : Written) → IsIn w table.writes → IsTouched s number w) where
  abbrev last : ℕ
  last = greatest (map write_of (filter (jobs.is_up_to mark) (events_in s number partition)))

  within : last ≤ mark
  within = marked-most mark (events_in s number partition)

  no-inserts : (w : Written) → IsIn w table.writes → w.write ≤ mark → last < w.write → rows_of partition w.inserts ≡ []
  no-inserts w among up behind =
      none-left (rows_of partition w.inserts) (none-inserted s number table here partition base w (touched w among) mark up behind)

  no-deletes : (w : Written) → IsIn w table.writes → w.write ≤ mark → last < w.write → map id_of (rows_of partition w.deletes) ≡ []
  no-deletes w among up behind =
      ap (map id_of) (none-left (rows_of partition w.deletes) (none-deleted s number table here partition base w (touched w among) mark up behind))

  left-same : rows_of partition (content_of (filter (is_up_to mark) table.writes)) ≡ rows_of partition (content_of (filter (is_up_to last) table.writes))
  left-same =
      sym (content-in-order partition (filter (is_up_to mark) table.writes))
      ∙ ap (sorted_by (by_id id_of))
      (content-same (writes_of partition (filter (is_up_to mark) table.writes)) (writes_of partition (filter (is_up_to last) table.writes))
      (flat-same (λ (w : Write Found). w.inserts) partition mark last within table.writes no-inserts)
      (flat-same (λ (w : Write Found). w.deletes) partition mark last within table.writes no-deletes))
      ∙ content-in-order partition (filter (is_up_to last) table.writes)

-- ---- the law

-- the end of a job's range, of its table and partition and under its watermark
pub end-of-range : (s : State) (key : ℕ) (partition : List ℕ) (mark : ℕ) (job : Job) → is_job_of key partition job ≡ true → job.watermark ≡ Some mark
    → greatest (map write_of (filter (jobs.is_up_to mark) (events_in s key partition))) ≡ (pieces_for s job).high
end-of-range s key partition mark job here picked =
    let its = job-of-is key partition job here in
    λ i. greatest (map write_of (filter (jobs.is_up_to (mark_by (sym picked i))) (events_in s (sym its.0 i) (sym its.1 i))))

pub jobs-shown : JobsAreShown
jobs-shown read entries table partition files tree number mark job of truth is here working picked =
    let s = state_of entries in
    let key = table.info.table.0 in
    let sound = books-are-sound profile entries of.fit in
    jobs-read read entries table partition files tree number mark job of is here working picked
    ∙ left-same s sound.base key table of.here partition mark (λ w among. books-touched profile entries of.fit truth key table w of.here among)
    ∙ ap (λ high. rows_of partition (content_of (filter (is_up_to high) table.writes))) (end-of-range s key partition mark job here picked)
