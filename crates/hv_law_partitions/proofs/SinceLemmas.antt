-- What a partition's history was at a place of a book, and what came since.
use Rattle.std.proofs.Common.{refl, ◌≡◌, ◌⊎◌, inl, inr, ℕ, zero, suc, ◌+◌, ◌==◌, ◌||◌, Bool, true, false, arith, Option, Some, None, List, [], ◌∷◌, ◌++◌, map, take, option_map, fold, sym, ap, ◌∙◌, subst}
use Rattle.std.specs.List.{slice_get, list_any}
use mathlib.Core.List.{map-append}
use Rattle.hv_base.specs.declared.ids.Limits.{Limits}
use Rattle.hv_dirs.specs.Choice.{sight_of}
use Rattle.hv_logic.specs.declared.effect.Found.{Found}
use Rattle.hv_history.specs.declared.entry.Entry.{Entry}
use Rattle.hv_history.specs.declared.entry.Entry.TheVariants as entry
use Rattle.hv_history.specs.declared.state.Ending.{Ending}
use Rattle.hv_history.specs.declared.state.Ending.TheVariants as ending
use Rattle.hv_history.specs.declared.state.Table.{Table}
use Rattle.hv_history.specs.declared.state.Transaction.{Transaction}
use Rattle.hv_history.specs.declared.state.Written.{Written}
use Rattle.hv_history.specs.Lasting.{IsFront, Later, TableLater, GoesOn}
use Rattle.hv_history.specs.Legal.{CommitFits, AllFit, Fits}
use Rattle.hv_history.specs.State.{State, numbered, changed, forgot, nothing_yet, state_of, meaning, written_by, written_to, commits, tables_behind, made_by, acted, after}
use Rattle.hv_history.proofs.LastingLaws.{goes-on, goes-on-all}
use Rattle.hv_earlier.specs.hv_meta.specs.hv_book.specs.Past.{owners_in, forgotten_in}
use Rattle.hv_earlier.specs.Fates as earlier_fates
use Rattle.hv_earlier.specs.declared.fates.Fate as earlier
use Rattle.hv_earlier.specs.Lists as lists
use Rattle.hv_stands.specs.Files.{ending_of}
use Rattle.hv_stands.specs.Sound.{HasOther, AreApart, HasSoundWrites, info_in, given_of, owners_of, given_among, owner_among, IsSingle, IsSound}
use Rattle.hv_stands.proofs.Numbers.{same_one, none_is, found, numbered-map}
use Rattle.hv_stands.proofs.Soundness.{all-numbered}
use Rattle.hv_stands.proofs.Keeping.{still-open, owner-table, sound-after, sound-all, nothing-sound}
use Rattle.hv_law_visible.specs.Members.{IsIn}
use Rattle.hv_law_visible.specs.History as visible
use Rattle.hv_law_visible.specs.History.{Write}
use Rattle.hv_law_visible.specs.Visible.{writes_shown}
use Rattle.hv_law_visible.specs.Snapshots.{Fate, Committed, fate_of, GoesTo, IsSince, list_at}
use Rattle.hv_law_visible.proofs.MemberLemmas.{in-right, from-map}
use Rattle.hv_law_visible.proofs.SnapshotLemmas.{snapshot-shows}
use Rattle.hv_law_visible.proofs.TakenLemmas.{all-in}
use Rattle.hv_law_partitions.specs.Partitions.{id_of, write_in, written_in, writes_in, fate_by, fates_from, fates_in}
use Rattle.hv_law_partitions.specs.Partitions as parts
use Rattle.hv_law_partitions.specs.Since.{PlacesAreSince, ListShowsThen}
use Rattle.hv_law_partitions.proofs.ContentLemmas.{content-of-partition}
use Rattle.hv_law_partitions.proofs.ListLemmas.{list-in}
use Rattle.hv_law_partitions.proofs.CommitLemmas.{book-base, committed-in, content-written}
use Rattle.hv_law_partitions.proofs.SnapshotLemmas.{IsLater, tables-go-on}
use Rattle.hv_law_partitions.proofs.StoodLemmas.{owner-front, WasWritten, kept-was, given-was, dropped-was, made-was, wrote-was, OneWrite, single-writes}

-- ---- a book from a place on

Rest : Limits → State → List Entry → ℕ → Type 0
Rest limits s entries place =
    (rest : List Entry) × (fold after s entries ≡ fold after (fold after s (take place entries)) rest)
    × AllFit limits s (take place entries) × AllFit limits (fold after s (take place entries)) rest

rest-of : (limits : Limits) (s : State) (entries : List Entry) (place : ℕ) → AllFit limits s entries → Rest limits s entries place
unfolding Rest
rest-of limits s entries zero fit = (entries, refl, tt, fit)
rest-of limits s [] (suc place) fit = ([], refl, tt, tt)
rest-of limits s (event ∷ entries) (suc place) fit =
    let m = rest-of limits (after s event) entries place fit.1 in
    (m.0, m.1, (fit.0, m.2), m.3)

-- ---- the fate of an id

is_forgotten : ℕ → List ℕ → Bool
is_forgotten write forgotten = list_any (λ other. other == write) forgotten

slice-fate : (fates : List earlier.Fate) (forgotten : List ℕ) (write : ℕ) (owners : List ℕ) (k : ℕ)
    → slice_get (fates_from fates forgotten write owners) k ≡ option_map (λ txn. fate_by (is_forgotten (write + k) forgotten) (numbered fates txn)) (slice_get owners k)
unfolding is_forgotten
slice-fate fates forgotten write [] k = refl
slice-fate fates forgotten write (txn ∷ owners) zero =
    let same : write ≡ write + 0 = omega arith in
    ap (λ n. Some (fate_by (list_any (λ other. other == n) forgotten) (numbered fates txn))) same
slice-fate fates forgotten write (txn ∷ owners) (suc k) =
    let same : write + 1 + k ≡ write + suc k = omega arith in
    slice-fate fates forgotten (write + 1) owners k
    ∙ ap (λ n. option_map (λ txn. fate_by (list_any (λ other. other == n) forgotten) (numbered fates txn)) (slice_get owners k)) same

fate-of-owner : (fates : List earlier.Fate) (forgotten : List ℕ) (owners : List ℕ) (write : ℕ)
    → fate_of (fates_from fates forgotten 1 owners) write ≡ option_map (λ txn. fate_by (is_forgotten write forgotten) (numbered fates txn)) (numbered owners write)
fate-of-owner fates forgotten owners zero = refl
fate-of-owner fates forgotten owners (suc k) =
    let same : 1 + k ≡ suc k = omega arith in
    slice-fate fates forgotten 1 owners k
    ∙ ap (λ n. option_map (λ txn. fate_by (is_forgotten n forgotten) (numbered fates txn)) (slice_get owners k)) same

owner_in : State → ℕ → ℕ → Option ℕ
owner_in s table write = numbered (owners_in (numbered s.tables table)) write

was_forgotten : State → ℕ → ℕ → Bool
was_forgotten s table write = is_forgotten write (forgotten_in (numbered s.tables table))

fate_owned : State → ℕ → ℕ → Option ℕ → Option Fate
fate_owned s table write o = option_map (λ txn. fate_by (was_forgotten s table write) (numbered (map earlier_fates.fate_of s.transactions) txn)) o

fate-is : (s : State) (table write : ℕ) → fate_of (fates_in s table) write ≡ fate_owned s table write (owner_in s table write)
unfolding owner_in was_forgotten fate_owned
fate-is s table write =
    fate-of-owner (map earlier_fates.fate_of s.transactions) (forgotten_in (numbered s.tables table)) (owners_in (numbered s.tables table)) write

-- an id that was forgotten stays so
any-left : (p : ℕ → Bool) (xs ys : List ℕ) → list_any p xs ≡ true → list_any p (xs ++ ys) ≡ true
any-left p [] ys e = cc
any-left p (x ∷ xs) ys e = by (p x) (any-left p xs ys) e
  where
    by : (b : Bool) → (list_any p xs ≡ true → list_any p (xs ++ ys) ≡ true) → (b || list_any p xs) ≡ true → (b || list_any p (xs ++ ys)) ≡ true
    by true rest e = refl
    by false rest e = rest e

forgotten-later : (s now : State) (table write : ℕ) → GoesOn s now → was_forgotten s table write ≡ true → was_forgotten now table write ≡ true
unfolding was_forgotten is_forgotten
forgotten-later s now table write on = by (numbered s.tables table) refl
  where
    by : (o : Option Table) → numbered s.tables table ≡ o → list_any (λ other. other == write) (forgotten_in o) ≡ true
        → list_any (λ other. other == write) (forgotten_in (numbered now.tables table)) ≡ true
    by None is e = cc
    by (Some t) is e =
        let m = found (TableLater t) (numbered now.tables table) (on.tables table t is) in
        ap (λ o. list_any (λ other. other == write) (forgotten_in o)) m.1 ∙ ap (list_any (λ other. other == write)) m.2.forgotten.is
        ∙ any-left (λ other. other == write) t.forgotten m.2.forgotten.more e

-- an id that was given keeps its transaction
owner-later : (s now : State) (table write txn : ℕ) → GoesOn s now → owner_in s table write ≡ Some txn → owner_in now table write ≡ Some txn
unfolding owner_in
owner-later s now table write txn on = by (numbered s.tables table) refl
  where
    none : (n : ℕ) → numbered {A = ℕ} [] n ≡ Some txn → ⊥
    none zero e = cc
    none (suc n) e = cc

    by : (o : Option Table) → numbered s.tables table ≡ o → numbered (owners_in o) write ≡ Some txn → numbered (owners_in (numbered now.tables table)) write ≡ Some txn
    by None is e = absurd (none write e)
    by (Some t) is e =
        let m = found (TableLater t) (numbered now.tables table) (on.tables table t is) in
        ap (λ o. numbered (owners_in o) write) m.1 ∙ owner-front t.owners m.0.owners write txn m.2.owners e

-- and that is there
owner-there : (s : State) (table write txn : ℕ) → IsSound s → owner_in s table write ≡ Some txn → (t : Transaction) × (numbered s.transactions txn ≡ Some t)
unfolding owner_in
owner-there s table write txn sound e = by (numbered s.transactions txn) refl (sound.given.is_given txn table write (owned (numbered s.tables table) refl e))
  where
    none : (n : ℕ) → numbered {A = ℕ} [] n ≡ Some txn → ⊥
    none zero e = cc
    none (suc n) e = cc

    owned : (o : Option Table) → numbered s.tables table ≡ o → numbered (owners_in o) write ≡ Some txn → owner_among (numbered (map owners_of s.tables) table) write ≡ Some txn
    owned None is e = absurd (none write e)
    owned (Some t) is e = ap (λ o. owner_among o write) (numbered-map owners_of s.tables table ∙ ap (option_map owners_of) is) ∙ e

    by : (o : Option Transaction) → numbered s.transactions txn ≡ o → given_among (numbered (map given_of s.transactions) txn) table ≡ Some write
        → (t : Transaction) × (numbered s.transactions txn ≡ Some t)
    by None is given =
        absurd (none_is (given_among (numbered (map given_of s.transactions) txn) table) write
        (ap (λ o. given_among o table) (numbered-map given_of s.transactions txn ∙ ap (option_map given_of) is)) given)
    by (Some t) is given = (t, is)

fate_by_ending : Bool → Option Ending → Option Fate
fate_by_ending forgotten e = Some (fate_by forgotten (Some (earlier_fates.fate_by e)))

stays : (b c : Bool) → (b ≡ true → c ≡ true) → (e : Ending) → GoesTo (fate_by_ending b (Some e)) (fate_by_ending c (Some e))
unfolding fate_by_ending
stays b c later (ending.Committed place wrote) = refl
stays true true later (ending.Aborted place cause) = refl
stays true false later (ending.Aborted place cause) = let bad : false ≡ true = later refl in cc
stays false true later (ending.Aborted place cause) = inr refl
stays false false later (ending.Aborted place cause) = inl refl
stays b c later (ending.Made place table) = refl
stays b c later (ending.Dropped place table) = refl

goes-by : (t now : Transaction) → Later t now → (b c : Bool) → (b ≡ true → c ≡ true) → (o : Option Ending) → t.ending ≡ o
    → GoesTo (fate_by_ending b o) (fate_by_ending c now.ending)
unfolding fate_by_ending
goes-by t now later b c still None is = tt
goes-by t now later b c still (Some e) is =
    let same : Some e ≡ now.ending = sym is ∙ ap (λ (u : Transaction). u.ending) (sym (later.ending e is)) in
    subst (λ o. GoesTo (fate_by_ending b (Some e)) (fate_by_ending c o)) same (stays b c still e)

owned-fate : (s : State) (table write txn : ℕ) (t : Transaction) → numbered s.transactions txn ≡ Some t
    → fate_owned s table write (Some txn) ≡ fate_by_ending (was_forgotten s table write) t.ending
unfolding fate_owned fate_by_ending
owned-fate s table write txn t at =
    ap (λ o. Some (fate_by (was_forgotten s table write) o)) (numbered-map earlier_fates.fate_of s.transactions txn ∙ ap (option_map earlier_fates.fate_of) at)

unowned : (s : State) (table write : ℕ) → fate_owned s table write None ≡ None
unfolding fate_owned
unowned s table write = refl

fates-go : (s now : State) (table write : ℕ) → IsSound s → GoesOn s now → GoesTo (fate_of (fates_in s table) write) (fate_of (fates_in now table) write)
fates-go s now table write sound on =
    subst (λ f. GoesTo f (fate_of (fates_in now table) write)) (sym (fate-is s table write))
    (subst (GoesTo (fate_owned s table write (owner_in s table write))) (sym (fate-is now table write)) (by (owner_in s table write) refl))
  where
    by : (o : Option ℕ) → owner_in s table write ≡ o → GoesTo (fate_owned s table write o) (fate_owned now table write (owner_in now table write))
    by None is = subst (λ f. GoesTo f (fate_owned now table write (owner_in now table write))) (sym (unowned s table write)) tt
    by (Some txn) is =
        let t = owner-there s table write txn sound is in
        let u = found (Later t.0) (numbered now.transactions txn) (on.transactions txn t.0 t.1) in
        subst (λ f. GoesTo f (fate_owned now table write (owner_in now table write))) (sym (owned-fate s table write txn t.0 t.1))
        (subst (GoesTo (fate_by_ending (was_forgotten s table write) t.0.ending))
        (sym (ap (fate_owned now table write) (owner-later s now table write txn on is) ∙ owned-fate now table write txn u.0 u.1))
        (goes-by t.0 u.0 u.2 (was_forgotten s table write) (was_forgotten now table write) (forgotten-later s now table write on) t.0.ending refl))

-- ---- what was written since

abbrev IsOver : Option (Option Ending) → Type 0
IsOver (Some (Some e)) = Unit {0}
IsOver _ = ⊥

over-later : (s now : State) (n : ℕ) → GoesOn s now → IsOver (numbered (map ending_of s.transactions) n) → IsOver (numbered (map ending_of now.transactions) n)
over-later s now n on over = by (numbered s.transactions n) refl (subst IsOver (numbered-map ending_of s.transactions n) over)
  where
    ends : (t u : Transaction) → Later t u → (o : Option Ending) → t.ending ≡ o → IsOver (Some o) → IsOver (Some u.ending)
    ends t u later None is over = absurd over
    ends t u later (Some e) is over =
        subst (λ o. IsOver (Some o)) (sym is ∙ ap (λ (v : Transaction). v.ending) (sym (later.ending e is))) tt

    by : (o : Option Transaction) → numbered s.transactions n ≡ o → IsOver (option_map ending_of o) → IsOver (numbered (map ending_of now.transactions) n)
    by None is over = absurd over
    by (Some t) is over =
        let u = found (Later t) (numbered now.transactions n) (on.transactions n t is) in
        subst IsOver (sym (numbered-map ending_of now.transactions n ∙ ap (option_map ending_of) u.1)) (ends t u.0 u.2 t.ending refl over)

-- by a transaction that wasn't over
record IsNew (s : State) (table : Table) (written : Written) : Type 0 where
  txn : ℕ
  owner : numbered table.owners written.write ≡ Some txn
  not_over : IsOver (numbered (map ending_of s.transactions) txn) → ⊥

abbrev CameFrom : State → ℕ → Table → Written → Type 0
CameFrom s number table written = WasWritten s.tables number written ⊎ IsNew s table written

commit-came : (s : State) (event : Entry) → IsSound s → (n : ℕ) (t : Transaction) → numbered s.transactions n ≡ Some t → t.ending ≡ None
    → (after s event).tables ≡ tables_behind (commits (Some t)) s.tables
    → (number : ℕ) (next : Table) (written : Written) → numbered (after s event).tables number ≡ Some next → IsIn written next.writes → CameFrom s number next written
commit-came s event sound n t at unended tables number next written now here =
    by (single-writes (map info_in s.tables) t (all-numbered (IsSingle (map info_in s.tables)) s.transactions n t at sound.single))
  where
    not_over : IsOver (numbered (map ending_of s.transactions) n) → ⊥
    not_over over = subst IsOver (numbered-map ending_of s.transactions n ∙ ap (option_map ending_of) at ∙ ap Some unended) over

    by : OneWrite (meaning t) t.given (commits (Some t)) → CameFrom s number next written
    by (inl none) =
        let same : (after s event).tables ≡ s.tables = tables ∙ ap (λ ws. tables_behind ws s.tables) none in
        inl (next, ap (λ ts. numbered ts number) (sym same) ∙ now, here)
    by (inr (info, effect, write, means, given, one)) =
        let x : ℕ × Written = (info.table.0, written_by info.shape write 0 effect) in
        let same : (after s event).tables ≡ changed (written_to x.1) s.tables x.0 = tables ∙ ap (λ ws. tables_behind ws s.tables) one in
        elim (wrote-was x s.tables number next written (ap (λ ts. numbered ts number) (sym same) ∙ now) here) [
          | inl was ↦ inl was
          | inr new ↦
              let there = owner-table (map owners_of s.tables) s.tables info.table.0 write n refl
              (sound.given.has_owner n info.table.0 write
              (ap (λ o. given_among o info.table.0) (numbered-map given_of s.transactions n ∙ ap (option_map given_of) at) ∙ given)) in
              let m = tables-go-on s event info.table.0 there.0 there.1 in
              let is_next : m.0 ≡ next = same_one (numbered (after s event).tables number) m.0 next (ap (numbered (after s event).tables) new.0 ∙ m.1) now in
              let later : IsLater there.0 next = subst (IsLater there.0) is_next m.2 in
              inr (record {
                txn = n;
                owner = subst (λ (w : Written). numbered next.owners w.write ≡ Some n) new.1 (owner-front there.0.owners next.owners write n later.owners there.2);
                not_over = not_over;
              })
        ]

came-from : (limits : Limits) (s : State) (event : Entry) → Fits limits s event → IsSound s
    → (number : ℕ) (next : Table) (written : Written) → numbered (after s event).tables number ≡ Some next → IsIn written next.writes → CameFrom s number next written
unfolding acted
came-from limits s (entry.Boot run) fits sound number next written now here = inl (next, now, here)
came-from limits s (entry.Opened txn session count text) fits sound number next written now here = inl (next, now, here)
came-from limits s (entry.Start txn statement) fits sound number next written now here = inl (next, now, here)
came-from limits s (entry.Given txn table write) fits sound number next written now here = inl (given-was txn.0 table.0 s.tables number next written now here)
came-from limits s (entry.Commit txn wrote) fits sound number next written now here =
    let at = found (CommitFits s wrote) (numbered s.transactions txn.0) fits in
    commit-came s (entry.Commit txn wrote) sound txn.0 at.0 at.1 (still-open at.0 at.2.running.unended) (ap (λ o. tables_behind (commits o) s.tables) at.1)
    number next written now here
came-from limits s (entry.Abort txn cause) fits sound number next written now here = inl (next, now, here)
came-from limits s (entry.Create txn table) fits sound number next written now here =
    inl (made-was s.tables (made_by table.0 (numbered s.transactions txn.0)) refl number next written now here)
came-from limits s (entry.Drop txn table) fits sound number next written now here = inl (dropped-was table.0 s.tables number next written now here)
came-from limits s (entry.Forgot table write) fits sound number next written now here =
    inl (kept-was (forgot write.0) (λ t. refl) table.0 s.tables number next written now here)
came-from limits s (entry.Asked job table partition kind by) fits sound number next written now here = inl (next, now, here)
came-from limits s (entry.Picked job mark) fits sound number next written now here = inl (next, now, here)
came-from limits s (entry.Published job low high mark) fits sound number next written now here = inl (next, now, here)
came-from limits s (entry.Empty job) fits sound number next written now here = inl (next, now, here)
came-from limits s (entry.Cleaned job) fits sound number next written now here = inl (next, now, here)
came-from limits s (entry.Failed job cause) fits sound number next written now here = inl (next, now, here)
came-from limits s event fits sound number next written now here = absurd fits

-- over several entries
abbrev AllCame : State → State → Type 0
AllCame s now = (number : ℕ) (table : Table) (written : Written) → numbered now.tables number ≡ Some table → IsIn written table.writes → CameFrom s number table written

all-came-one : (limits : Limits) (first s : State) (event : Entry) → Fits limits s event → IsSound s
    → ((n : ℕ) → IsOver (numbered (map ending_of first.transactions) n) → IsOver (numbered (map ending_of s.transactions) n))
    → AllCame first s → AllCame first (after s event)
all-came-one limits first s event fits sound over h number next written now here =
    elim (came-from limits s event fits sound number next written now here) [
      | inl was ↦ elim (h number was.0 written was.1 was.2) [
        | inl first_was ↦ inl first_was
        | inr new ↦
            let m = tables-go-on s event number was.0 was.1 in
            let later : IsLater was.0 next = subst (IsLater was.0) (same_one (numbered (after s event).tables number) m.0 next m.1 now) m.2 in
            inr (record { txn = new.txn; owner = owner-front was.0.owners next.owners written.write new.txn later.owners new.owner; not_over = new.not_over })
      ]
      | inr new ↦ inr (record { txn = new.txn; owner = new.owner; not_over = λ o. new.not_over (over new.txn o) })
    ]

all-came : (limits : Limits) (first s : State) (more : List Entry) → AllFit limits s more → IsSound s
    → ((n : ℕ) → IsOver (numbered (map ending_of first.transactions) n) → IsOver (numbered (map ending_of s.transactions) n))
    → AllCame first s → AllCame first (fold after s more)
all-came limits first s [] fit sound over h = h
all-came limits first s (event ∷ more) fit sound over h =
    all-came limits first (after s event) more fit.1 (sound-after limits s event fit.0 sound)
    (λ n o. over-later s (after s event) n (goes-on s event) (over n o))
    (all-came-one limits first s event fit.0 sound over h)

-- ---- the two

committed-over : (s : State) (table write txn : ℕ) → fate_owned s table write (Some txn) ≡ Some Committed → IsOver (numbered (map ending_of s.transactions) txn)
unfolding fate_owned
committed-over s table write txn e =
    subst IsOver (sym (numbered-map ending_of s.transactions txn))
    (by (was_forgotten s table write) (numbered s.transactions txn)
    (ap (λ o. Some (fate_by (was_forgotten s table write) o)) (sym (numbered-map earlier_fates.fate_of s.transactions txn)) ∙ e))
  where
    ends : (b : Bool) (o : Option Ending) → Some (fate_by b (Some (earlier_fates.fate_by o))) ≡ Some Committed → IsOver (Some o)
    ends b None e = cc
    ends b (Some end) e = tt

    by : (b : Bool) (o : Option Transaction) → Some (fate_by b (option_map earlier_fates.fate_of o)) ≡ Some Committed → IsOver (option_map ending_of o)
    by b None e = cc
    by b (Some t) e = ends b t.ending e

unowned-not : (s : State) (table write : ℕ) → fate_owned s table write None ≡ Some Committed → ⊥
unfolding fate_owned
unowned-not s table write e = cc

apart-twice : (xs ys : List Written) (written : Written) → AreApart (xs ++ ys) → IsIn written xs → IsIn written ys → ⊥
apart-twice [] ys written apart at there = absurd at
apart-twice (x ∷ xs) ys written apart (inl e) there =
    all-in (HasOther x.write) (xs ++ ys) written apart.0 (in-right written xs ys there) (ap (λ (w : Written). w.write) (sym e))
apart-twice (x ∷ xs) ys written apart (inr at) there = apart-twice xs ys written apart.1 at there

in-table : (o : Option Table) (written : Written) → IsIn written (written_in o) → (t : Table) × (o ≡ Some t) × IsIn written t.writes
in-table None written at = absurd at
in-table (Some t) written at = (t, refl, at)

module _ (s now : State) (sound : IsSound s) (sound_now : IsSound now) (on : GoesOn s now) (came : AllCame s now) (table : ℕ) where
  writes-front : IsFront (written_in (numbered s.tables table)) (written_in (numbered now.tables table))
  writes-front = by (numbered s.tables table) refl
    where
      by : (o : Option Table) → numbered s.tables table ≡ o → IsFront (written_in o) (written_in (numbered now.tables table))
      by None is = record { more = written_in (numbered now.tables table); is = refl }
      by (Some t) is =
          let m = found (TableLater t) (numbered now.tables table) (on.tables table t is) in
          record { more = m.2.writes.more; is = ap written_in m.1 ∙ m.2.writes.is }

  -- what was written since is of no id that was committed
  not-before : (written : Written) → IsIn written writes-front.more → fate_of (fates_in s table) written.write ≡ Some Committed → ⊥
  unfolding owner_in
  not-before written at committed =
      let here : IsIn written (written_in (numbered now.tables table)) =
      subst (IsIn written) (sym writes-front.is) (in-right written (written_in (numbered s.tables table)) writes-front.more at) in
      let t = in-table (numbered now.tables table) written here in
      let apart : AreApart t.0.writes = (all-numbered HasSoundWrites now.tables table t.0 t.1 sound_now.tables.written).apart in
      let split : t.0.writes ≡ written_in (numbered s.tables table) ++ writes-front.more = ap written_in (sym t.1) ∙ writes-front.is in
      elim (came table t.0 written t.1 t.2) [
        | inl was ↦
            apart-twice (written_in (numbered s.tables table)) writes-front.more written (subst AreApart split apart)
            (subst (IsIn written) (ap written_in (sym was.1)) was.2) at
        | inr new ↦ new.not_over (by new.txn (ap (λ o. numbered (owners_in o) written.write) t.1 ∙ new.owner) (owner_in s table written.write) refl)
      ]
    where
      by : (txn : ℕ) → owner_in now table written.write ≡ Some txn → (o : Option ℕ) → owner_in s table written.write ≡ o
          → IsOver (numbered (map ending_of s.transactions) txn)
      by txn is None was =
          absurd (unowned-not s table written.write (ap (fate_owned s table written.write) (sym was) ∙ sym (fate-is s table written.write) ∙ committed))
      by txn is (Some first) was =
          let same : first ≡ txn = same_one (owner_in now table written.write) first txn (owner-later s now table written.write first on was) is in
          subst (λ n. IsOver (numbered (map ending_of s.transactions) n)) same
          (committed-over s table written.write first (ap (fate_owned s table written.write) (sym was) ∙ sym (fate-is s table written.write) ∙ committed))

  module _ (partition : List ℕ) where
    since : List (Write Found)
    since = parts.writes_of partition writes-front.more

    since-split : writes_in now table partition ≡ writes_in s table partition ++ since
    unfolding since
    since-split =
        ap (parts.writes_of partition) writes-front.is
        ∙ map-append (write_in partition) (written_in (numbered s.tables table)) writes-front.more

    since-is : IsSince (fates_in s table) (fates_in now table) (writes_in s table partition) since
    unfolding since
    since-is = record {
      goes = λ write. fates-go s now table write sound on;
      were = λ w at. (committed-in s table partition sound w at).fate_is;
      are = λ w at. (committed-in now table partition sound_now w (subst (IsIn w) (sym since-split) (in-right w (writes_in s table partition) since at))).fate_is;
      were_not = λ w at committed.
          let m = from-map (write_in partition) w writes-front.more at in
          not-before m.0 m.1 (subst (λ (v : Write Found). fate_of (fates_in s table) v.write ≡ Some Committed) (sym m.2) committed);
    }

-- ---- the laws

pub places-since-so : (limits : Limits) (entries : List Entry) (place table : ℕ) (partition : List ℕ) → AllFit limits nothing_yet entries
    → (more : List (Write Found))
    × (writes_in (state_of entries) table partition ≡ writes_in (state_of (take place entries)) table partition ++ more)
    × IsSince (fates_in (state_of (take place entries)) table) (fates_in (state_of entries) table)
    (writes_in (state_of (take place entries)) table partition) more
unfolding Rest
places-since-so limits entries place table partition fit =
    let m = rest-of limits nothing_yet entries place fit in
    let s : State = state_of (take place entries) in
    let sound : IsSound s = sound-all limits nothing_yet (take place entries) m.2 nothing-sound in
    let end : state_of entries ≡ fold after s m.0 = m.1 in
    let on : GoesOn s (state_of entries) = subst (GoesOn s) (sym end) (goes-on-all m.0 s) in
    let came : AllCame s (state_of entries) = subst (AllCame s) (sym end)
    (all-came limits s s m.0 m.3 sound (λ n o. o) (λ number t written is at. inl (t, is, at))) in
    let sound_now = book-base limits entries fit in (
      since s (state_of entries) sound sound_now on came table partition,
      since-split s (state_of entries) sound sound_now on came table partition,
      since-is s (state_of entries) sound sound_now on came table partition,
    )

pub places-since : PlacesAreSince
places-since limits entries place table partition fit = places-since-so limits entries place table partition fit

pub shown-then-so : (limits : Limits) (entries : List Entry) (place table : ℕ) (partition : List ℕ) → AllFit limits nothing_yet entries
    → writes_shown (sight_of (lists.list_at entries place table)) (writes_in (state_of entries) table partition) ≡ writes_in (state_of (take place entries)) table partition
shown-then-so limits entries place table partition fit =
    let s : State = state_of (take place entries) in
    let m = places-since-so limits entries place table partition fit in
    let sound_now = book-base limits entries fit in
    let all : writes_shown (sight_of (list_at (fates_in s table))) (writes_in s table partition ++ m.0) ≡ writes_in s table partition =
    snapshot-shows (fates_in s table) (fates_in (state_of entries) table) (writes_in s table partition) m.0 m.2
    (λ w at. (committed-in (state_of entries) table partition sound_now w (subst (IsIn w) (sym m.1) at)).counted) in
    ap (λ list. writes_shown (sight_of list) (writes_in (state_of entries) table partition)) (list-in s table)
    ∙ ap (writes_shown (sight_of (list_at (fates_in s table)))) m.1 ∙ all

pub shown-then : (limits : Limits) (entries : List Entry) (place table : ℕ) (partition : List ℕ) → AllFit limits nothing_yet entries
    → writes_shown (sight_of (lists.list_at entries place table)) (writes_in (state_of entries) table partition) ≡ writes_in (state_of (take place entries)) table partition
shown-then limits entries place table partition fit = shown-then-so limits entries place table partition fit

pub list-shows-then : ListShowsThen
list-shows-then limits entries place table partition row fit =
    let s : State = state_of (take place entries) in
    let shown = shown-then limits entries place table partition fit in
    let same = content-of-partition partition (written_in (numbered s.tables table)) row in
    let rows = content-written (numbered s.tables table) in (
      λ at. subst (λ xs. IsIn row xs × (row.partition ≡ partition)) rows (same.0 (subst (λ ws. IsIn row (visible.content_of id_of ws)) shown at)),
      λ at. subst (λ ws. IsIn row (visible.content_of id_of ws)) (sym shown) (same.1 (subst (λ xs. IsIn row xs × (row.partition ≡ partition)) (sym rows) at)),
    )
