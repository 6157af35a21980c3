-- The base and the deltas that are worked out by hand.
use Rattle.std.proofs.Common.{refl, ◌≡◌, inl, inr, ℕ, zero, suc, ◌==◌, ◌<◌, ◌≤◌, Some, true, List, [], ◌∷◌, filter, sym, ap, subst, arith}
use Rattle.std.proofs.lemmas.Bool.{and_parts, eqb-true}
use Rattle.std.specs.List.{flat_map}
use Rattle.hv_base.specs.declared.ids.RowId.{RowId}
use Rattle.hv_base.specs.Identifiers.{row_id_cmp}
use Rattle.hv_dirs.specs.Choice.{Delta, Own, Wide, chosen_above}
use Rattle.hv_law_visible.specs.Members.{IsIn}
use Rattle.hv_law_visible.specs.History.{Write, Compaction, Major, has_write, by_deleter, write_of, IsMade}
use Rattle.hv_law_visible.specs.Stands.{Stand, HasDistinctRows}
use Rattle.hv_law_visible.specs.Snapshots.{Committed, fate_of, IsUndone, HaveEnded}
use Rattle.hv_law_visible.specs.Readers.{Reader, IsPast}
use Rattle.hv_law_visible.proofs.MemberLemmas.{from-flat, from-filter}
use Rattle.hv_law_published.specs.State.{HasSeen, IsKept}
use Rattle.hv_law_published.specs.Directories.{DeltaDir, IsLooseDir}
use Rattle.hv_law_published.specs.Laws.{Keeps}
use Rattle.hv_law_published.specs.Worked.{row, itself, writes, all_committed, reader, before, published, ended, first_gone, both_gone, RowsByHand, StepsByHand}
use Rattle.hv_law_published.proofs.EntryLemmas.{ending-keeps}
use Rattle.hv_law_published.proofs.JobLemmas.{job-keeps, removal-keeps}

pub rows-by-hand : RowsByHand
unfolding chosen_above row_id_cmp
rows-by-hand = record {
  early_before = refl;
  early_published = refl;
  late_before = refl;
  late_published = refl;
  late_first_gone = refl;
  late_both_gone = refl;
  chosen_before = refl;
  base_published = refl;
  chosen_published = refl;
}

-- ---- as the commits left it

first : Write RowId
first = record { write = 1; statement = 0; inserts = row 1 ∷ []; deletes = [] }

second : Write RowId
second = record { write = 2; statement = 0; inserts = row 2 ∷ []; deletes = [] }

third : Write RowId
third = record { write = 3; statement = 0; inserts = []; deletes = row 1 ∷ [] }

-- what is so of each of the three
of-three : (P : Write RowId → Type 0) → P first → P second → P third → (w : Write RowId) → IsIn w writes → P w
unfolding first second third
of-three P one two three w (inl e) = subst P e one
of-three P one two three w (inr (inl e)) = subst P e two
of-three P one two three w (inr (inr (inl e))) = subst P e three
of-three P one two three w (inr (inr (inr at))) = absurd at

pub of-one : {A : Type 0} (P : A → Type 0) (x : A) → P x → (y : A) → IsIn y (x ∷ []) → P y
of-one P x is y (inl e) = subst P e is
of-one P x is y (inr at) = absurd at

own-is : (write statement : ℕ) (w : Write RowId) → has_write (Own write statement) w ≡ true → Own w.write w.statement ≡ Own write statement
own-is write statement w is =
    let p = and_parts (w.write == write) (w.statement == statement) is in
    λ i. Own (eqb-true w.write write p.0 i) (eqb-true w.statement statement p.1 i)

-- own directories stand with just their records
Right : {Record : Type 0} → (Write RowId → List Record) → Delta → Type 0
Right {Record} events d = (r : Record) × IsIn r (flat_map events (filter (has_write d) writes))

stand-by-hand : {Record : Type 0} (past : Compaction → Type 0) (foreign : ℕ → Type 0) (events : Write RowId → List Record) (names : List Delta)
    → ((w : Write RowId) → IsIn w writes → (r : Record) → IsIn r (events w) → IsIn (Own w.write w.statement) names)
    → ((d : Delta) → IsIn d names → IsMade [] d × Right events d)
    → Stand past foreign [] (λ d. flat_map events (filter (has_write d) writes)) names (λ d. flat_map events (filter (has_write d) writes))
unfolding Right
stand-by-hand {Record = Record} past foreign events names there right = record {
  each = λ d r made at. inr (placed d r made at, λ s s_in. s_in);
  only = λ d at. let m = right d at in inl (m.0, m.1, inr (λ r has. has));
}
  where
    placed : (d : Delta) (r : Record) → IsMade [] d → IsIn r (flat_map events (filter (has_write d) writes)) → IsIn d names
    placed (Wide low high) r made at = absurd made.1
    placed (Own write statement) r made at =
        let w = from-flat events r (filter (has_write (Own write statement)) writes) at in
        let k = from-filter (has_write (Own write statement)) w.0 writes w.1 in
        subst (λ d. IsIn d names) (own-is write statement w.0 k.1) (there w.0 k.0 r w.2)

distinct-by-hand : HasDistinctRows itself writes
unfolding row_id_cmp
distinct-by-hand = (((λ e. cc), tt), (tt, tt))

before-kept : IsKept itself before
unfolding of-three first second third Right
before-kept = record {
  most = 0;
  knows = record {
    jobs_ended = λ job at. absurd at;
    below = of-one (λ txn. txn < 5) 3 (omega arith);
    are_open = of-one (λ (r : Reader). IsIn r.txn (3 ∷ [])) reader (inl refl);
    seen = λ r job at listed. absurd listed;
  };
  marks = λ job at. absurd at;
  sound = record {
    from_one = of-three (λ w. 1 ≤ w.write) (omega arith) (omega arith) (omega arith);
    carried = λ w found at. of-three (λ v. IsIn found v.inserts → write_of found ≡ v.write)
        (of-one (λ id. write_of id ≡ 1) (row 1) refl found) (of-one (λ id. write_of id ≡ 2) (row 2) refl found) (λ none. absurd none) w at;
    earlier = λ w id at. of-three (λ v. IsIn id v.deletes → write_of id ≤ v.write)
        (λ none. absurd none) (λ none. absurd none) (of-one (λ x. write_of x ≤ 3) (row 1) (omega arith) id) w at;
    minors = λ low high mark at. absurd at;
    majors = λ high mark at. absurd at;
  };
  distinct = distinct-by-hand;
  committed = of-three (λ w. fate_of all_committed w.write ≡ Some Committed) refl refl refl;
  seen = of-one (HasSeen before) reader (
    first ∷ second ∷ [],
    third ∷ [],
    refl,
    record {
      goes = goes;
      were = λ w at. elim at [
        | inl e ↦ subst (λ (v : Write RowId). fate_of reader.before v.write ≡ Some Committed) e refl
        | inr more ↦ of-one (λ (v : Write RowId). fate_of reader.before v.write ≡ Some Committed) second refl w more
      ];
      are = of-one (λ (v : Write RowId). fate_of all_committed v.write ≡ Some Committed) third refl;
      were_not = of-one (λ (v : Write RowId). fate_of reader.before v.write ≡ Some Committed → ⊥) third (λ e. cc);
    },
  );
  stands = record {
    deltas = stand-by-hand (IsPast (3 ∷ [])) (IsUndone all_committed) (λ (w : Write RowId). w.inserts) (Own 1 0 ∷ Own 2 0 ∷ [])
        (of-three (λ w. (r : RowId) → IsIn r w.inserts → IsIn (Own w.write w.statement) (Own 1 0 ∷ Own 2 0 ∷ []))
        (λ r at. inl refl) (λ r at. inr (inl refl)) (λ r none. absurd none))
        (λ d at. elim at [
          | inl e ↦ subst (λ x. IsMade [] x × Right (λ (w : Write RowId). w.inserts) x) e (tt, (row 1, inl refl))
          | inr more ↦ of-one (λ x. IsMade [] x × Right (λ (w : Write RowId). w.inserts) x) (Own 2 0) (tt, (row 2, inl refl)) d more
        ]);
    delete_deltas = stand-by-hand (IsPast (3 ∷ [])) (IsUndone all_committed) by_deleter (Own 3 0 ∷ [])
        (of-three (λ w. (r : RowId × ℕ) → IsIn r (by_deleter w) → IsIn (Own w.write w.statement) (Own 3 0 ∷ []))
        (λ r none. absurd none) (λ r none. absurd none) (λ r at. inl refl))
        (of-one (λ x. IsMade [] x × Right by_deleter x) (Own 3 0) (tt, ((row 1, 3), inl refl)));
    bases = λ base made. absurd made.1;
    only_bases = λ base at. absurd at;
  };
}
  where
    goes : (write : ℕ) → Rattle.hv_law_visible.specs.Snapshots.GoesTo (fate_of reader.before write) (fate_of all_committed write)
    goes zero = tt
    goes (suc zero) = refl
    goes (suc (suc zero)) = refl
    goes (suc (suc (suc n))) = tt

-- ---- the steps

ended-by-hand : HaveEnded all_committed 2
ended-by-hand zero one under = absurd (omega arith)
ended-by-hand (suc zero) one under = (Committed, refl, refl)
ended-by-hand (suc (suc zero)) one under = (Committed, refl, refl)
ended-by-hand (suc (suc (suc n))) one under = absurd (omega arith)

publishing : Keeps itself before published
publishing = job-keeps itself before (Major 2 5) published.tree before-kept (omega arith) ended-by-hand refl
    (record {
      bases = record {
        stay = λ base apart at. absurd at;
        only = λ base apart at. elim at [ inl e ↦ absurd (apart (sym e)) | inr none ↦ none ];
        same = λ base apart. refl;
      };
      deltas = record { stay = λ d apart at. at; only = λ d apart at. at; same = λ d apart. refl };
      delete_deltas = record { stay = λ d apart at. at; only = λ d apart at. at; same = λ d apart. refl };
    })
    (inl refl, λ found. (λ at. at, λ at. at))

not-yet : IsLooseDir published (DeltaDir (Own 1 0)) → ⊥
not-yet loose = of-one (λ job. IsPast (3 ∷ []) job → ⊥) (Major 2 5) (λ past. let m : 5 ≤ 3 = past 3 (inl refl) in omega arith) loose.0 loose.1 loose.2

still-kept : IsKept itself ended
still-kept = (ending-keeps itself published [] [] publishing.kept (λ txn at. absurd at) (λ r at. absurd at)).kept

first-loose : IsLooseDir ended (DeltaDir (Own 1 0))
first-loose = (Major 2 5, inl refl, λ txn at. absurd at, omega arith)

first-going : Keeps itself ended first_gone
first-going = removal-keeps itself ended (DeltaDir (Own 1 0)) first_gone.tree still-kept first-loose (record {
  changes = record {
    bases = record { stay = λ base apart at. at; only = λ base apart at. at; same = λ base apart. refl };
    deltas = record {
      stay = λ d apart at. elim at [ inl e ↦ absurd (apart (ap DeltaDir (sym e))) | inr more ↦ more ];
      only = λ d apart at. inr at;
      same = λ d apart. refl;
    };
    delete_deltas = record { stay = λ d apart at. at; only = λ d apart at. at; same = λ d apart. refl };
  };
  stood = λ at. inl refl;
})

second-loose : IsLooseDir first_gone (DeltaDir (Own 2 0))
second-loose = (Major 2 5, inl refl, λ txn at. absurd at, omega arith)

second-going : Keeps itself first_gone both_gone
second-going = removal-keeps itself first_gone (DeltaDir (Own 2 0)) both_gone.tree first-going.kept second-loose (record {
  changes = record {
    bases = record { stay = λ base apart at. at; only = λ base apart at. at; same = λ base apart. refl };
    deltas = record {
      stay = λ d apart at. elim at [ inl e ↦ absurd (apart (ap DeltaDir (sym e))) | inr more ↦ more ];
      only = λ d apart at. absurd at;
      same = λ d apart. refl;
    };
    delete_deltas = record { stay = λ d apart at. at; only = λ d apart at. at; same = λ d apart. refl };
  };
  stood = λ at. absurd at;
})

pub steps-by-hand : StepsByHand
steps-by-hand = record {
  kept = before-kept;
  publishing = publishing;
  not_yet = not-yet;
  still_kept = still-kept;
  first_loose = first-loose;
  first_going = first-going;
  second_loose = second-loose;
  second_going = second-going;
}
