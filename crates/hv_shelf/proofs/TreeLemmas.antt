use Rattle.std.proofs.Common.{◌≡◌, ℕ, Bool, true, false, cond, ◌&&◌, List, [], ◌∷◌, ◌++◌, append-nil, get_or, map, filter, Some, None, T, refl, sym, ◌∙◌, ap, subst}
use Rattle.std.specs.declared.cmp.Ordering.TheVariants.{Less}
use Rattle.std.specs.Ordering.{eq_by_cmp, is_eq, is_lt}
use Rattle.std.specs.BTreeMap.{is_at}
use Rattle.std.specs.Map.{lookup, keys_of}
use Rattle.std.specs.List.{AllByRecursion}
use Rattle.std.specs.List.Sorted.{IsStrictlySortedBy}
use Rattle.std.specs.Cmp.{eq_by_cmp_equiv}
use Rattle.std.specs.FinMap as tree
use Rattle.std.specs.FinMap.Entries.{below_all, find-where_key}
use Rattle.std.proofs.lemmas.Bool.{eqb-true}
use Rattle.std.proofs.lemmas.List.Elements.{filter_passes}
use Rattle.std.proofs.lemmas.List.Kept.{IsStrictlySortedBy-filter}
use Rattle.hv_base.specs.declared.ids.TableId.{TableId}
use Rattle.hv_shelf.specs.declared.place.Place.{Place}
use Rattle.hv_shelf.specs.Disk.{places_of, IsListing}
use Rattle.hv_shelf.specs.Laws.{same_tree, alike}
use Rattle.hv_shelf.specs.Places.{place_cmp, place_total, is_of}

abbrev pub Files : Type 0
Files = List (Place × List ℕ)

find-lookup : (place : Place) (es : Files) → tree.find place_cmp place es ≡ lookup (is_at (place_cmp place)) es
find-lookup place [] = refl
find-lookup place (e ∷ es) = ap (cond (is_eq (place_cmp place e.0)) (Some e.1)) (find-lookup place es)

-- what the tree of a map's entries has at a place
pub get-files : (es : Files) (place : Place) → tree.get (tree.from_entries {R = place_cmp} es) place ≡ lookup (is_at (place_cmp place)) es
get-files es place = tree.get-from_entries place_total es place ∙ find-lookup place es

-- ## The entries of the tree are the map's

both : (a b : Bool) → T a → T b → T (a && b)
both true b p q = q
both false b p q = absurd p

is_below : (x : Place) (es : Files) → AllByRecursion (λ y. place_cmp x y ≡ Less) (keys_of es) → T (below_all place_cmp x es)
is_below x [] all = tt
is_below x (e ∷ es) all = both _ _ (subst (λ r. T (is_lt r)) (sym all.0) tt) (is_below x es all.1)

is_sorted : (es : Files) → IsStrictlySortedBy place_cmp (keys_of es) → T (tree.is_sorted place_cmp es)
unfolding IsStrictlySortedBy
is_sorted [] rising = tt
is_sorted (e ∷ es) rising = both _ _ (is_below e.0 es rising.0) (is_sorted es rising.1)

pub entries-files : (es : Files) → IsStrictlySortedBy place_cmp (keys_of es) → tree.entries (tree.from_entries {R = place_cmp} es) ≡ es
entries-files es rising =
    let sorted = is_sorted es rising
    in let same : tree.from_entries {R = place_cmp} es ≡ tree.from_sorted {R = place_cmp} es =
    same_tree _ _ (λ place. tree.get-from_entries place_total es place ∙ sym (tree.get-from_sorted place_cmp es place sorted))
    in ap tree.entries same ∙ tree.entries-from_sorted place_cmp es sorted

-- ## Changes

pub insert-files : (es es' : Files) (place : Place) (bytes : List ℕ) →
    ((other : Place) → lookup (is_at (place_cmp other)) es' ≡ cond (is_eq (place_cmp place other)) (Some bytes) (lookup (is_at (place_cmp other)) es)) →
    tree.from_entries {R = place_cmp} es' ≡ tree.insert (tree.from_entries es) place bytes
insert-files es es' place bytes updates =
    same_tree _ _ (λ other.
    get-files es' other ∙ updates other
    ∙ ap (λ b. cond b (Some bytes) (lookup (is_at (place_cmp other)) es)) ((eq_by_cmp_equiv place_total).symm place other)
    ∙ ap (cond (eq_by_cmp place_cmp other place) (Some bytes)) (sym (get-files es other))
    ∙ sym (tree.get-insert place_total (tree.from_entries es) place bytes other))

-- the files whose places pass the test
pub retain-files : (keeps : Place → Bool) (es es' : Files) → es' ≡ filter (λ e. keeps e.0) es →
    tree.from_entries {R = place_cmp} es' ≡ tree.retain_keys (tree.from_entries es) keeps
retain-files keeps es es' kept =
    same_tree _ _ (λ place.
    tree.get-from_entries place_total es' place
    ∙ ap (tree.find place_cmp place) kept
    ∙ find-where_key place_cmp keeps place (alike keeps place) es
    ∙ ap (λ o. cond (keeps place) o None) (sym (tree.get-from_entries place_total es place))
    ∙ sym (tree.get-retain_keys (tree.from_entries es) keeps place (alike keeps place)))

-- ## Listings

same_table : (table : TableId) (place : Place) → is_of table place ≡ true → place.table ≡ table
same_table table place is = λ i. record { 0 = eqb-true place.table.0 table.0 is i }

pub listing-files : (table : TableId) (es : Files) (places : List Place) → IsStrictlySortedBy place_cmp (keys_of es) →
    places ≡ filter (is_of table) (keys_of es) → IsListing table places
listing-files table es places rising is =
    subst (IsListing table) (sym is) (record {
      of = λ k d within. same_table table (get_or (filter (is_of table) (keys_of es)) k d) (filter_passes (is_of table) (keys_of es) k d within);
      rising = IsStrictlySortedBy-filter place_cmp (is_of table) (keys_of es) rising;
    })

pub places-files : (table : TableId) (es : Files) → IsStrictlySortedBy place_cmp (keys_of es) →
    filter (is_of table) (keys_of es) ≡ places_of table (tree.from_entries {R = place_cmp} es)
places-files table es rising = ap (λ entries. filter (is_of table) (map (λ e. e.0) entries)) (sym (entries-files es rising))

-- what a loop has listed, at its end
pub listed-all : (table : TableId) (listed rest first : List Place) (es : Files) → listed ++ filter (is_of table) rest ≡ filter (is_of table) first →
    rest ≡ [] → first ≡ keys_of es → listed ≡ filter (is_of table) (keys_of es)
listed-all table listed rest first es so_far ended began =
    sym (append-nil listed) ∙ ap (λ r. listed ++ filter (is_of table) r) (sym ended) ∙ so_far ∙ ap (filter (is_of table)) began
