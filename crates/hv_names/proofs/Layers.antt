-- The names of a source by its form.
use Rattle.std.proofs.Common.{◌≡◌, ℕ, suc, ◌<◌, ◌||◌, Bool, true, false, length, get_or, drop, Option, None, Some, List, [], ◌∷◌, ◌++◌, map, refl, sym, ap, ◌∙◌, append_assoc}
use Rattle.std.specs.List.{flat_map, list_any}
use Rattle.std.proofs.Math.Seq.{drop-cons}
use Rattle.std.proofs.lemmas.List.Folds.{list_any-append}
use Rattle.hv_locks.specs.declared.table.Lock.{Lock}
use Rattle.hv_ast.specs.declared.expr.Expr.{Expr}
use Rattle.hv_ast.specs.declared.query.Item.{Item}
use Rattle.hv_ast.specs.declared.query.Key.{Key}
use Rattle.hv_ast.specs.declared.query.Join.{Join}
use Rattle.hv_ast.specs.declared.query.From.{From}
use Rattle.hv_ast.specs.declared.query.Select.{Select}
use Rattle.hv_ast.specs.declared.query.Union.{Union}
use Rattle.hv_ast.specs.declared.query.Query.{Query}
use Rattle.hv_ast.specs.declared.query.Source.{Source}
use Rattle.hv_ast.specs.declared.query.Source.TheOpen.{Source-F}
use Rattle.hv_ast.specs.declared.query.Source.TheShapes
use Rattle.hv_ast.specs.declared.query.Source.TheFolds.{map-Source}
use Rattle.hv_ast.specs.declared.query.Source.TheVariants as source
use Rattle.hv_ast.specs.declared.query.Source.TheVariants.{rolls-Table, rolls-Query}
use Rattle.hv_ast.specs.declared.query.Source.TheViews.{out-Source, roll-Source, out-roll-Source}
use Rattle.hv_logic.specs.Names.{shared, layer_names, source_names, query_names, names_in_maybe, names_of_union, names_of_join}
use Rattle.hv_logic.proofs.NameLemmas.{source_names-out}

flat-mapped : {A B C : Type 0} (f : A → B) (g : B → List C) (h : A → List C) → ((x : A) → g (f x) ≡ h x)
    → (xs : List A) → flat_map g (map f xs) ≡ flat_map h xs
flat-mapped f g h each [] = refl
flat-mapped f g h each (x ∷ xs) = λ i. each x i ++ flat-mapped f g h each xs i

abbrev itself : List Lock → List Lock
itself names = names

join-mapped : (join : Join Source) → names_of_join itself ((TheShapes.former-Source-Query-0-at-6).map Source (List Lock) source_names join) ≡ names_of_join source_names join
join-mapped join = refl

joins-mapped : (joins : List (Join Source))
    → flat_map (names_of_join itself) (map ((TheShapes.former-Source-Query-0-at-6).map Source (List Lock) source_names) joins) ≡ flat_map (names_of_join source_names) joins
joins-mapped joins = flat-mapped _ _ _ join-mapped joins

-- a select with its FROM apart
abbrev from_with : Bool → List Item → Option Expr → List Expr → Option Expr → Option (From Source) → Select Source
from_with distinct items filter group having from =
    record { distinct = distinct; items = items; from = from; filter = filter; group = group; having = having }

union-mapped-with : (all distinct : Bool) (items : List Item) (filter : Option Expr) (group : List Expr) (having : Option Expr) (from : Option (From Source))
    → let union : Union Source = record { all = all; select = from_with distinct items filter group having from } in
    names_of_union itself ((TheShapes.former-Source-Query-0-at-31).map Source (List Lock) source_names union) ≡ names_of_union source_names union
union-mapped-with all distinct items filter group having None = refl
union-mapped-with all distinct items filter group having (Some from) = ap (λ rest. source_names from.source ++ rest) (joins-mapped from.joins)

union-mapped : (union : Union Source)
    → names_of_union itself ((TheShapes.former-Source-Query-0-at-31).map Source (List Lock) source_names union) ≡ names_of_union source_names union
union-mapped union =
    let select = union.select in
    union-mapped-with union.all select.distinct select.items select.filter select.group select.having select.from

unions-mapped : (unions : List (Union Source))
    → flat_map (names_of_union itself) (map ((TheShapes.former-Source-Query-0-at-31).map Source (List Lock) source_names) unions) ≡ flat_map (names_of_union source_names) unions
unions-mapped unions = flat-mapped _ _ _ union-mapped unions

mapped-with : (distinct : Bool) (items : List Item) (filter : Option Expr) (group : List Expr) (having : Option Expr) (from : Option (From Source))
    (unions : List (Union Source)) (order : List Key) (limit : Option ℕ) (alias : List ℕ)
    → let query : Query Source = record { select = from_with distinct items filter group having from; unions = unions; order = order; limit = limit } in
    layer_names (map-Source Source (List Lock) source_names (Source-F.Query query alias)) ≡ query_names query
mapped-with distinct items filter group having None unions order limit alias = unions-mapped unions
mapped-with distinct items filter group having (Some from) unions order limit alias =
    λ i. (source_names from.source ++ joins-mapped from.joins i) ++ unions-mapped unions i

mapped : (query : Query Source) (alias : List ℕ)
    → layer_names (map-Source Source (List Lock) source_names (Source-F.Query query alias)) ≡ query_names query
mapped query alias =
    let select = query.select in
    mapped-with select.distinct select.items select.filter select.group select.having select.from query.unions query.order query.limit alias

at : {s : Source} {layer : Source-F Source} → s ≡ roll-Source layer → out-Source (roll-Source layer) ≡ layer
    → source_names s ≡ layer_names (map-Source Source (List Lock) source_names layer)
at {s = s} is opens = source_names-out s ∙ ap (λ layer. layer_names (map-Source Source (List Lock) source_names layer)) (ap out-Source is ∙ opens)

pub names-Table : (name : List ℕ) (alias : Option (List ℕ)) → source_names (source.Table name alias) ≡ shared name ∷ []
names-Table name alias = at (sym (rolls-Table name alias)) (out-roll-Source (Source-F.Table name alias))

pub names-Query : (query : Query Source) (alias : List ℕ) → source_names (source.Query query alias) ≡ query_names query
names-Query query alias = at (sym (rolls-Query query alias)) (out-roll-Source (Source-F.Query query alias)) ∙ mapped query alias

-- what is put behind `old` for the first select, and then for the unions, are the source's names
pub behind-query : {s : Source} (query : Query Source) (alias : List ℕ) {q : Query Source} {unions : List (Union Source)} (old mid new : List Lock)
    → s ≡ source.Query query alias → q ≡ query → unions ≡ q.unions
    → mid ≡ old ++ names_in_maybe source_names q.select.from
    → new ≡ mid ++ flat_map (names_of_union source_names) unions
    → new ≡ old ++ source_names s
behind-query query alias {q = q} {unions = unions} old mid new is same others first rest =
    rest
    ∙ (λ i. first i ++ flat_map (names_of_union source_names) (others i))
    ∙ append_assoc old (names_in_maybe source_names q.select.from) (flat_map (names_of_union source_names) q.unions)
    ∙ ap (λ (q : Query Source). old ++ query_names q) same
    ∙ ap (λ names. old ++ names) (sym (ap source_names is ∙ names-Query query alias))

pub ruleset layers = (names-Table, names-Query)

-- ---- a question about one of the names

or-false : (b : Bool) → b || false ≡ b
or-false true = refl
or-false false = refl

pub any-Table : (p : Lock → Bool) {s : Source} (name : List ℕ) (alias : Option (List ℕ)) → s ≡ source.Table name alias
    → p (shared name) ≡ list_any p (source_names s)
any-Table p name alias is =
    sym (or-false (p (shared name))) ∙ ap (list_any p) (sym (ap source_names is ∙ names-Table name alias))

any-Query : (p : Lock → Bool) {s : Source} (query : Query Source) (alias : List ℕ) (q : Query Source)
    → s ≡ source.Query query alias → q ≡ query
    → list_any p (source_names s) ≡ (list_any p (names_in_maybe source_names q.select.from) || list_any p (flat_map (names_of_union source_names) q.unions))
any-Query p query alias q is same =
    ap (list_any p) (ap source_names is ∙ names-Query query alias ∙ ap (λ (q : Query Source). query_names q) (sym same))
    ∙ list_any-append p (names_in_maybe source_names q.select.from) (flat_map (names_of_union source_names) q.unions)

pub first-holds : (p : Lock → Bool) {s : Source} (query : Query Source) (alias : List ℕ) (q : Query Source)
    → s ≡ source.Query query alias → q ≡ query → list_any p (names_in_maybe source_names q.select.from) ≡ true → true ≡ list_any p (source_names s)
first-holds p query alias q is same first =
    sym (any-Query p query alias q is same ∙ ap (λ b. b || list_any p (flat_map (names_of_union source_names) q.unions)) first)

-- where the first select has none, the unions say
pub rest-says : (p : Lock → Bool) {s : Source} (query : Query Source) (alias : List ℕ) (q : Query Source) {unions : List (Union Source)} {b : Bool}
    → s ≡ source.Query query alias → q ≡ query → unions ≡ q.unions → list_any p (names_in_maybe source_names q.select.from) ≡ false
    → b ≡ list_any p (flat_map (names_of_union source_names) unions) → b ≡ list_any p (source_names s)
rest-says p query alias q is same others first rest =
    rest
    ∙ ap (λ (us : List (Union Source)). list_any p (flat_map (names_of_union source_names) us)) others
    ∙ sym (any-Query p query alias q is same ∙ ap (λ b. b || list_any p (flat_map (names_of_union source_names) q.unions)) first)

-- in a loop over unions, one whose select has such a name, and the end
pub union-holds : (p : Lock → Bool) (i : ℕ) (union : Union Source) (unions : List (Union Source)) → i < length unions → union ≡ get_or unions i union
    → list_any p (flat_map (names_of_union source_names) (drop i unions)) ≡ list_any p (flat_map (names_of_union source_names) unions)
    → list_any p (names_of_union source_names union) ≡ true → true ≡ list_any p (flat_map (names_of_union source_names) unions)
union-holds p i union unions below item kept holds =
    sym (
    sym kept
    ∙ ap (λ (us : List (Union Source)). list_any p (flat_map (names_of_union source_names) us)) (drop-cons unions i union below)
    ∙ list_any-append p (names_of_union source_names (get_or unions i union)) (flat_map (names_of_union source_names) (drop (suc i) unions))
    ∙ ap (λ (u : Union Source). list_any p (names_of_union source_names u) || list_any p (flat_map (names_of_union source_names) (drop (suc i) unions))) (sym item)
    ∙ ap (λ b. b || list_any p (flat_map (names_of_union source_names) (drop (suc i) unions))) holds
    )
