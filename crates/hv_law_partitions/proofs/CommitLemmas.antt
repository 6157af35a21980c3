-- Each write is committed, and so the list at a place shows all that were committed before it.
use Rattle.std.proofs.Common.{refl, ◌≡◌, inl, inr, ℕ, zero, suc, ◌+◌, ◌==◌, ◌≤◌, Bool, true, false, cond, Option, Some, None, List, [], ◌∷◌, map, filter, option_map, take, sym, ap, ◌∙◌, subst}
use Rattle.std.specs.List.{list_any, slice_get}
use Rattle.hv_base.specs.declared.ids.Limits.{Limits}
use Rattle.hv_wids.specs.WriteIds.{is_valid}
use Rattle.hv_dirs.specs.Choice.{sight_of}
use Rattle.hv_logic.specs.declared.effect.Found.{Found}
use Rattle.hv_history.specs.declared.entry.Entry.{Entry}
use Rattle.hv_history.specs.declared.state.Ending.{Ending}
use Rattle.hv_history.specs.declared.state.Ending.TheVariants as ending
use Rattle.hv_history.specs.declared.state.Table.{Table}
use Rattle.hv_history.specs.declared.state.Transaction.{Transaction}
use Rattle.hv_history.specs.State.{State, numbered, after, nothing_yet, state_of, content_of, content_in}
use Rattle.hv_history.specs.Legal.{AllFit}
use Rattle.hv_earlier.specs.hv_meta.specs.hv_book.specs.Past.{owners_in, forgotten_in}
use Rattle.hv_earlier.specs.Fates as earlier_fates
use Rattle.hv_earlier.specs.declared.fates.Fate as earlier
use Rattle.hv_earlier.specs.declared.fates.Fate.TheVariants as fate
use Rattle.hv_earlier.specs.Lists as lists
use Rattle.hv_stands.specs.Files.{ending_of}
use Rattle.hv_stands.specs.Sound.{IsDone, IsOfCommitted, AreOfCommitted, IsSound}
use Rattle.hv_stands.proofs.Numbers.{one_value, numbered-map, numbered-within}
use Rattle.hv_stands.proofs.Soundness.{all-numbered}
use Rattle.hv_stands.proofs.Keeping.{sound-all, nothing-sound}
use Rattle.hv_law_visible.specs.Members.{IsIn}
use Rattle.hv_law_visible.specs.History as visible
use Rattle.hv_law_visible.specs.History.{Write}
use Rattle.hv_law_visible.specs.Visible.{writes_shown}
use Rattle.hv_law_visible.specs.Snapshots.{Fate, Committed, fate_of, is_seen}
use Rattle.hv_law_visible.proofs.ListLemmas.{valid-same}
use Rattle.hv_law_visible.proofs.MemberLemmas.{from-map}
use Rattle.hv_law_visible.proofs.TakenLemmas.{all-in}
use Rattle.hv_law_partitions.specs.Partitions.{id_of, write_in, writes_of, written_in, writes_in, fate_by, fates_from, fates_in}
use Rattle.hv_law_partitions.specs.Laws.{WritesAreCommitted, ListShowsContent}
use Rattle.hv_law_partitions.proofs.ContentLemmas.{content-of-partition}
use Rattle.hv_law_partitions.proofs.ListLemmas.{list-in}

pub book-sound : (limits : Limits) (entries : List Entry) → AllFit limits nothing_yet entries → IsSound (state_of entries)
book-sound limits entries fit = sound-all limits nothing_yet entries fit nothing-sound

-- the same with jobs
pub book-base : (limits : Limits) (entries : List Entry) → AllFit limits nothing_yet entries → IsSound (state_of entries)
book-base limits entries fit = sound-all limits nothing_yet entries fit nothing-sound

-- ---- of one id

pub done-by : (e : Option Ending) → IsDone (Some e) → earlier_fates.fate_by e ≡ fate.Committed
done-by None done = absurd done
done-by (Some (ending.Committed place wrote)) done = refl
done-by (Some (ending.Aborted place cause)) done = absurd done
done-by (Some (ending.Made place table)) done = absurd done
done-by (Some (ending.Dropped place table)) done = absurd done

pub done-among : (o : Option Transaction) → IsDone (option_map ending_of o) → option_map earlier_fates.fate_of o ≡ Some fate.Committed
done-among None done = absurd done
done-among (Some t) done = ap Some (done-by t.ending done)

done-fate : (ts : List Transaction) (txn : ℕ) → IsDone (numbered (map ending_of ts) txn) → numbered (map earlier_fates.fate_of ts) txn ≡ Some fate.Committed
done-fate ts txn done =
    numbered-map earlier_fates.fate_of ts txn ∙ done-among (numbered ts txn) (subst IsDone (numbered-map ending_of ts txn) done)

committed-by : (b : Bool) (o : Option earlier.Fate) → o ≡ Some fate.Committed → fate_by b o ≡ Committed
committed-by true o e = ap (fate_by true) e
committed-by false o e = ap (fate_by false) e

module _ (fates : List earlier.Fate) (forgotten : List ℕ) where
  committed-slice : (write : ℕ) (owners : List ℕ) (k txn : ℕ) → slice_get owners k ≡ Some txn → numbered fates txn ≡ Some fate.Committed
      → slice_get (fates_from fates forgotten write owners) k ≡ Some Committed
  committed-slice write [] k txn e is = cc
  committed-slice write (owner ∷ owners) zero txn e is =
      ap Some (committed-by (list_any (λ other. other == write) forgotten) (numbered fates owner) (ap (numbered fates) (one_value owner txn e) ∙ is))
  committed-slice write (owner ∷ owners) (suc k) txn e is = committed-slice (write + 1) owners k txn e is

  committed-fate : (owners : List ℕ) (write txn : ℕ) → numbered owners write ≡ Some txn → numbered fates txn ≡ Some fate.Committed
      → fate_of (fates_from fates forgotten 1 owners) write ≡ Some Committed
  committed-fate owners zero txn e is = cc
  committed-fate owners (suc k) txn e is = committed-slice 1 owners k txn e is

-- ---- of a state

pub record IsDoneWrite (fates : List Fate) (w : Write Found) : Type 0 where
  pub counted : 1 ≤ w.write
  pub fate_is : fate_of fates w.write ≡ Some Committed

pub committed-in : (s : State) (table : ℕ) (partition : List ℕ) → IsSound s → (w : Write Found) → IsIn w (writes_in s table partition)
    → IsDoneWrite (fates_in s table) w
committed-in s table partition sound = by (numbered s.tables table) refl
  where
    fates : List earlier.Fate
    fates = map earlier_fates.fate_of s.transactions

    by : (o : Option Table) → numbered s.tables table ≡ o → (w : Write Found) → IsIn w (writes_of partition (written_in o))
        → IsDoneWrite (fates_from fates (forgotten_in o) 1 (owners_in o)) w
    by None is w at = absurd at
    by (Some t) is w at =
        let m = from-map (write_in partition) w t.writes at in
        let all = all-numbered (AreOfCommitted (map ending_of s.transactions)) s.tables table t is sound.committed in
        let one = all-in (IsOfCommitted (map ending_of s.transactions) t.owners) t.writes m.0 all m.1 in
        let done : IsDoneWrite (fates_from fates t.forgotten 1 t.owners) (write_in partition m.0) = record {
          counted = (numbered-within t.owners m.0.write one.0 one.1).0;
          fate_is = committed-fate fates t.forgotten t.owners m.0.write one.0 one.1 (done-fate s.transactions one.0 one.2);
        } in
        subst (IsDoneWrite (fates_from fates t.forgotten 1 t.owners)) m.2 done

pub writes-committed : WritesAreCommitted
writes-committed limits entries table partition fit w at =
    (committed-in (state_of entries) table partition (book-base limits entries fit) w at).fate_is

-- ---- under the list

all-pass : {X : Type 0} (p : X → Bool) (xs : List X) → ((x : X) → IsIn x xs → p x ≡ true) → filter p xs ≡ xs
all-pass p [] h = refl
all-pass p (x ∷ xs) h =
    ap (λ b. cond b (x ∷ filter p xs) (filter p xs)) (h x (inl refl)) ∙ ap (λ ys. x ∷ ys) (all-pass p xs (λ y at. h y (inr at)))

pub all-shown : (s : State) (table : ℕ) (partition : List ℕ) → IsSound s
    → writes_shown (sight_of (lists.list_in s table)) (writes_in s table partition) ≡ writes_in s table partition
all-shown s table partition sound =
    all-pass (λ (w : Write Found). is_valid (lists.list_in s table) w.write) (writes_in s table partition)
    (λ w at.
    let done = committed-in s table partition sound w at in
    ap (λ list. is_valid list w.write) (list-in s table) ∙ valid-same (fates_in s table) w.write done.counted ∙ ap is_seen done.fate_is)

pub content-written : (o : Option Table) → content_of (written_in o) ≡ content_in o
unfolding content_of
content-written None = refl
content-written (Some t) = refl

pub front-fits : (limits : Limits) (entries : List Entry) (s : State) (place : ℕ) → AllFit limits s entries → AllFit limits s (take place entries)
front-fits limits entries s zero fit = tt
front-fits limits [] s (suc place) fit = tt
front-fits limits (event ∷ entries) s (suc place) fit = (fit.0, front-fits limits entries (after s event) place fit.1)

pub list-shows : ListShowsContent
list-shows limits entries place table partition found fit =
    let s : State = state_of (take place entries) in
    let sound = book-base limits (take place entries) (front-fits limits entries nothing_yet place fit) in
    let shown = all-shown s table partition sound in
    let same = content-of-partition partition (written_in (numbered s.tables table)) found in
    let rows = content-written (numbered s.tables table) in (
      λ at. subst (λ xs. IsIn found xs × (found.partition ≡ partition)) rows (same.0 (subst (λ ws. IsIn found (visible.content_of id_of ws)) shown at)),
      λ at. subst (λ ws. IsIn found (visible.content_of id_of ws)) (sym shown) (same.1 (subst (λ xs. IsIn found xs × (found.partition ≡ partition)) (sym rows) at)),
    )
