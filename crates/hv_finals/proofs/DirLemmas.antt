-- The directories that a job is to make, and those that go of one that is given up, are those of its range.
use Rattle.std.proofs.Common.{◌≡◌, ℕ, Bool, true, false, Some, None, List, [], ◌∷◌, ◌++◌, map, refl, sym, ap, ◌∙◌, subst}
use Rattle.std.specs.Prelude.{if◌then◌else◌}
use Rattle.std.specs.List.{flat_map}
use Rattle.hv_shelf.specs.declared.place.DirAt.{DirAt}
use Rattle.hv_dirs.specs.declared.names.DirName.{DirName}
use Rattle.hv_dirs.specs.Names.{IsNumber, IsPlain, IsName, is_compacted}
use Rattle.hv_history.specs.declared.entry.Entry.{Entry}
use Rattle.hv_history.specs.declared.entry.JobKind.{JobKind}
use Rattle.hv_history.specs.declared.entry.JobKind.TheVariants as kind
use Rattle.hv_history.specs.State.{State, Job, numbered, state_of}
use Rattle.hv_history.specs.Jobs.{Events, pieces_for, events_in}
use Rattle.hv_jobs.specs.Covers.{range_names}
use Rattle.hv_jobs.specs.Covered.{base, wide, has_within}
use Rattle.hv_jobs.specs.Finals.{final_if, final_names, unless_bare, finals_of}
use Rattle.hv_law_made.specs.Opening.{dirs_for, failing_dirs}
use Rattle.hv_book.proofs.IdLaws.{all-numbered}
use Rattle.hv_queue.specs.hv_tallies.specs.Jobs.{asked_at}
use Rattle.hv_queue.specs.hv_tallies.proofs.AskedLemmas.{IsAskedThere, all-asked}
use Rattle.hv_finals.specs.declared.merging.Merge.{Merge}
use Rattle.hv_finals.specs.Finals.{merge_in, dir_in, dirs_in, one_in, wides_in, finals_in, AreFinals, staged_as, range_dirs, AreFailing}
use Rattle.hv_finals.proofs.RangeLemmas.{its_merge, merge-there, merge-none}

-- where its Asked says its partition
asked-there : (entries : List Entry) (n : ℕ) (j : Job) → numbered (state_of entries).jobs n ≡ Some j → asked_at entries j.asked ≡ Some j.partition
asked-there entries n j at = (all-numbered (IsAskedThere entries) (state_of entries).jobs n j (all-asked entries) at).there

-- ---- what it makes

two-mapped : (f : DirName → DirAt) (a b : Bool) (x y : DirName)
    → map f (final_if a x ++ final_if b y) ≡ (if a then f x ∷ [] else []) ++ (if b then f y ∷ [] else [])
two-mapped f true true x y = refl
two-mapped f true false x y = refl
two-mapped f false true x y = refl
two-mapped f false false x y = refl

finals-mapped : (table : ℕ) (partition : List ℕ) (ids : List Events) (k : JobKind) (low high : ℕ)
    → dirs_in table partition (final_names ids k low high) ≡ finals_in table partition ids k low high
finals-mapped table partition ids kind.Minor low high =
    two-mapped (dir_in table partition) (has_within false low high ids) (has_within true low high ids) (wide false low high) (wide true low high)
finals-mapped table partition ids kind.Major low high = refl

pub finals-are : (entries : List Entry) (n : ℕ) (j : Job) (merge : Merge) (dirs : List DirAt) → numbered (state_of entries).jobs n ≡ Some j
    → Some merge ≡ merge_in (state_of entries) j → AreFinals entries merge dirs → dirs ≡ dirs_in j.table j.partition (finals_of (state_of entries) j)
finals-are entries n j merge dirs at is are =
    let state = state_of entries in
    let there = merge-there state j merge is in
    let ids = events_in state j.table j.partition in
    let low = (pieces_for state j).low in
    let high = (pieces_for state j).high in
    let here : AreFinals entries (its_merge state j) dirs = subst (λ (m : Merge). AreFinals entries m dirs) (sym there.1) are in
    here j.partition (asked-there entries n j at)
    ∙ sym (finals-mapped j.table j.partition ids j.kind low high)
    ∙ ap (λ b. dirs_in j.table j.partition (unless_bare b (final_names ids j.kind low high))) (sym there.0)

pub none-made : (state : State) (j : Job) → None ≡ merge_in state j → finals_of state j ≡ []
none-made state j is =
    ap (λ b. unless_bare b (final_names (events_in state j.table j.partition) j.kind (pieces_for state j).low (pieces_for state j).high)) (merge-none state j is)

pub none-finals : (state : State) (j : Job) (dirs : List DirAt) → dirs ≡ [] → None ≡ merge_in state j → dirs ≡ dirs_in j.table j.partition (finals_of state j)
none-finals state j dirs none is = none ∙ ap (dirs_in j.table j.partition) (sym (none-made state j is))

-- what is put behind others
pub minor-put : (table : ℕ) (partition : List ℕ) (ids : List Events) (k : JobKind) (low high : ℕ) (inserted deleted : Bool) (before now : List DirAt)
    → k ≡ kind.Minor → inserted ≡ has_within false low high ids → deleted ≡ has_within true low high ids
    → now ≡ before ++ wides_in table partition inserted deleted low high → now ≡ before ++ finals_in table partition ids k low high
minor-put table partition ids k low high inserted deleted before now is ins del put =
    put
    ∙ ap (λ b. before ++ wides_in table partition b deleted low high) ins
    ∙ ap (λ b. before ++ wides_in table partition (has_within false low high ids) b low high) del
    ∙ ap (λ (x : JobKind). before ++ finals_in table partition ids x low high) (sym is)

pub major-put : (table : ℕ) (partition : List ℕ) (ids : List Events) (k : JobKind) (low high : ℕ) (before now : List DirAt) → k ≡ kind.Major
    → now ≡ before ++ one_in table partition (base high) → now ≡ before ++ finals_in table partition ids k low high
major-put table partition ids k low high before now is put =
    put ∙ ap (λ (x : JobKind). before ++ finals_in table partition ids x low high) (sym is)

pub range-put : (table : ℕ) (partition : List ℕ) (number : ℕ) (k found : JobKind) (low high : ℕ) (before now : List DirAt) → k ≡ found
    → now ≡ before ++ range_dirs table partition number found low high → now ≡ before ++ range_dirs table partition number k low high
range-put table partition number k found low high before now is put =
    put ∙ ap (λ (x : JobKind). before ++ range_dirs table partition number x low high) (sym is)

-- ---- what goes

range-mapped : (number : ℕ) (j : Job) (k : JobKind) (low high : ℕ)
    → range_dirs j.table j.partition number k low high ≡ flat_map (dirs_for number j) (range_names k low high)
range-mapped number j kind.Minor low high = refl
range-mapped number j kind.Major low high = refl

pub failing-are : (entries : List Entry) (n : ℕ) (j : Job) (merge : Merge) (dirs : List DirAt) → numbered (state_of entries).jobs n ≡ Some j
    → Some merge ≡ merge_in (state_of entries) j → AreFailing entries n merge dirs → dirs ≡ failing_dirs (state_of entries) n j
failing-are entries n j merge dirs at is are =
    let state = state_of entries in
    let there = merge-there state j merge is in
    let low = (pieces_for state j).low in
    let high = (pieces_for state j).high in
    let here : AreFailing entries n (its_merge state j) dirs = subst (λ (m : Merge). AreFailing entries n m dirs) (sym there.1) are in
    here j.partition (asked-there entries n j at)
    ∙ range-mapped n j j.kind low high
    ∙ ap (λ b. flat_map (dirs_for n j) (unless_bare b (range_names j.kind low high))) (sym there.0)

pub none-failing : (state : State) (n : ℕ) (j : Job) (dirs : List DirAt) → dirs ≡ [] → None ≡ merge_in state j → dirs ≡ failing_dirs state n j
none-failing state n j dirs none is =
    none
    ∙ ap (λ b. flat_map (dirs_for n j) (unless_bare b (range_names j.kind (pieces_for state j).low (pieces_for state j).high)))
    (sym (merge-none state j is))

-- ---- names

pub staged-named : (number : ℕ) (name : DirName) → IsNumber number → IsPlain name → is_compacted name ≡ true → IsName (staged_as number name)
staged-named number name numbered_ plain made = (numbered_, (name, plain, made, refl))
