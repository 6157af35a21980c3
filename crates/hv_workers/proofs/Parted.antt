-- What is made of parts of the rows, put together, is what is made of all.
use Rattle.std.proofs.Common.{◌≡◌, ℕ, Bool, true, false, if◌then◌else◌, List, [], ◌∷◌, ◌++◌, length, map, filter, fold, Option, None, Some, refl, sym, ap, subst, ◌∙◌}
use Rattle.std.specs.Cmp.{IsEquivalence, eq_by_cmp_equiv}
use Rattle.std.specs.Global.{Vec}
use Rattle.std.specs.Result.{IfOk}
use Rattle.std.specs.declared.result.Result.{Result}
use Rattle.std.proofs.lemmas.List.{map-append}
use Rattle.std.proofs.lemmas.List.Elements.{filter-append}
use Rattle.std.proofs.lemmas.List.Sums.{fold-append}
use Rattle.std.proofs.lemmas.Result.{IfOk-weaker}
use Rattle.hv_base.specs.declared.failure.NoMemory.{NoMemory}
use Rattle.hv_value.specs.declared.value.Value.{Value}
use Rattle.hv_value.specs.declared.row.Row.{Row}
use Rattle.hv_value.specs.OrderLaws.{row_cmp_total}
use Rattle.hv_expr.specs.declared.tree.TypedExpr.{TypedExpr}
use Rattle.hv_typing.specs.Grouped.{distinct, keep_new}
use Rattle.hv_typing.specs.Rows.{Frame, is_met, item_row, kept, same_row}
use Rattle.hv_keyed.proofs.PartLaws.{kept_twice}
use Rattle.hv_shuffle.specs.Calls.{JoinsTo}
use Rattle.hv_shuffle.specs.Parts.{AreOfRanges}
use Rattle.hv_shuffle.proofs.PartLemmas.{parts_of_ranges}
use Rattle.hv_shuffle.proofs.ShuffleLemmas.{flat_append, parts_joined}
use Rattle.hv_order.specs.declared.Front.{Front}
use Rattle.hv_order.specs.First.{IsEnough}
use Rattle.hv_order.proofs.OrderKeys.{enough_both}
use Rattle.hv_partial.specs.declared.sum.Sum.{Sum}
use Rattle.hv_partial.specs.Merged.{AreGroupsOf, AreSumsOf}
use Rattle.hv_partial.proofs.MergeLaws.{groups_both, sums_both}
use Rattle.hv_workers.specs.declared.parts.Entry.{Entry}
use Rattle.hv_workers.specs.declared.standing.Standing.{Standing}
use Rattle.hv_workers.specs.Entries.{pair_of, pairs_in}
use Rattle.hv_workers.specs.Standing.{units_in, rows_of_units, frames_standing, frames_between, IsPartly}
use Rattle.hv_exec.proofs.Fronts.{all_do}
use Rattle.hv_workers.proofs.StandingLaws.{all_units, between_units}

-- ---- DISTINCT

row_laws : IsEquivalence same_row
row_laws = eq_by_cmp_equiv row_cmp_total

distinct_again : (rows : List Row) → distinct same_row (distinct same_row rows) ≡ distinct same_row rows
distinct_again rows = kept_twice row_laws [] [] rows

behind_distinct : (rows more : List Row) → distinct same_row (rows ++ more) ≡ fold (keep_new same_row) (distinct same_row rows) (distinct same_row more)
behind_distinct rows more = fold-append (keep_new same_row) [] rows more ∙ sym (kept_twice row_laws (distinct same_row rows) [] more)

distinct_both : (rows more all others : List Row) → distinct same_row rows ≡ distinct same_row all → distinct same_row more ≡ distinct same_row others
    → distinct same_row (rows ++ more) ≡ distinct same_row (all ++ others)
distinct_both rows more all others one two =
    behind_distinct rows more ∙ (λ i. fold (keep_new same_row) (one i) (two i)) ∙ sym (behind_distinct all others)

-- ---- rows that do for a part

partly_none : (once : Bool) (front : Option Front) → IsPartly once front [] []
partly_none true front = refl
partly_none false None = refl
partly_none false (Some front) = refl

partly_both : (once : Bool) (front : Option Front) (rows more all others : List Row) → IsPartly once front rows all → IsPartly once front more others
    → IsPartly once front (rows ++ more) (all ++ others)
partly_both true front rows more all others one two = distinct_both rows more all others one two
partly_both false front rows more all others one two = enough_both front rows more all others one two

pub partly_part : (once : Bool) (front : Option Front) (rows all : List Row) → IsEnough (if once then None else front) rows all → IsPartly once front (kept once rows) all
partly_part true front rows all enough = distinct_again rows ∙ ap (distinct same_row) enough
partly_part false front rows all enough = enough

pub partly_done : (once : Bool) (front : Option Front) (rows all : List Row) → IsPartly once front rows all → IsEnough front (kept once rows) (kept once all)
partly_done true front rows all partly = all_do front (distinct same_row rows) (distinct same_row all) partly
partly_done false front rows all partly = partly

pub kept_enough : (once : Bool) (front : Option Front) (rows all : List Row) → IsEnough (if once then None else front) rows all → IsEnough front (kept once rows) (kept once all)
kept_enough true front rows all enough = all_do front (distinct same_row rows) (distinct same_row all) (ap (distinct same_row) enough)
kept_enough false front rows all enough = enough

-- ---- answers of parts, by a relation that holds of lists put together

module _ {Y : Type 0} (rel : List Frame → List Y → Type 0) (none : rel [] [])
    (both : (us cs : List Frame) (bs ds : List Y) → rel us bs → rel cs ds → rel (us ++ cs) (bs ++ ds)) where
  abbrev gives : List (List Frame) → Result (Vec Y) NoMemory → Type 0
  gives part answer = IfOk answer (λ list. rel (rows_of_units part) list.items)

  pub of_standing : (standing : Standing) (given : ℕ → ℕ → Result (Vec Y) NoMemory → Type 0) (len : ℕ) (answers : List (Result (Vec Y) NoMemory)) (all : List Y)
      → len ≡ length (units_in standing) → AreOfRanges given len answers
      → ((from count : ℕ) (answer : Result (Vec Y) NoMemory) → given from count answer → IfOk answer (λ list. rel (frames_between standing from count) list.items))
      → JoinsTo answers all → rel (frames_standing standing) all
  of_standing standing given len answers all long ranges means joined =
      subst (λ rows. rel rows all) (all_units standing)
      (parts_joined (λ units list. rel (rows_of_units units) list) none
      (λ us cs bs ds one two. subst (λ rows. rel rows (bs ++ ds)) (sym (flat_append us cs)) (both (rows_of_units us) (rows_of_units cs) bs ds one two))
      gives (units_in standing) answers all (λ part list says. says)
      (parts_of_ranges given gives (units_in standing) answers (subst (λ n. AreOfRanges given n answers) long ranges)
      (λ from count answer says. IfOk-weaker answer _ _ (λ list is. subst (λ rows. rel rows list.items) (sym (between_units standing from count)) is) (means from count answer says)))
      joined)

-- ---- items, groups and sums of the rows on which WHERE is true

module _ (condition : Option TypedExpr) where
  abbrev pub made_of : Bool → Option Front → List TypedExpr → List Frame → List Row → Type 0
  made_of once front items rows made = IsPartly once front made (map (item_row items) (filter (is_met condition) rows))

  pub made_none : (once : Bool) (front : Option Front) (items : List TypedExpr) → made_of once front items [] []
  made_none once front items = partly_none once front

  pub made_both : (once : Bool) (front : Option Front) (items : List TypedExpr) (us cs : List Frame) (bs ds : List Row)
      → made_of once front items us bs → made_of once front items cs ds → made_of once front items (us ++ cs) (bs ++ ds)
  made_both once front items us cs bs ds one two =
      subst (IsPartly once front (bs ++ ds))
      (sym (ap (map (item_row items)) (filter-append (is_met condition) us cs) ∙ map-append (item_row items) (filter (is_met condition) us) (filter (is_met condition) cs)))
      (partly_both once front bs ds (map (item_row items) (filter (is_met condition) us)) (map (item_row items) (filter (is_met condition) cs)) one two)

  abbrev pub grouped_of : List Sum → List TypedExpr → List Frame → List (Row × (Option Frame × List Value)) → Type 0
  grouped_of sums keys rows found = AreGroupsOf sums keys (filter (is_met condition) rows) found

  pub grouped_both : (sums : List Sum) (keys : List TypedExpr) (us cs : List Frame) (bs ds : List (Row × (Option Frame × List Value)))
      → grouped_of sums keys us bs → grouped_of sums keys cs ds → grouped_of sums keys (us ++ cs) (bs ++ ds)
  grouped_both sums keys us cs bs ds one two =
      subst (λ rows. AreGroupsOf sums keys rows (bs ++ ds)) (sym (filter-append (is_met condition) us cs))
      (groups_both sums keys (filter (is_met condition) us) (filter (is_met condition) cs) bs ds one two)

  abbrev pub entered_of : List Sum → List TypedExpr → List Frame → List Entry → Type 0
  entered_of sums keys rows entries = grouped_of sums keys rows (pairs_in entries)

  pub entered_both : (sums : List Sum) (keys : List TypedExpr) (us cs : List Frame) (bs ds : List Entry)
      → entered_of sums keys us bs → entered_of sums keys cs ds → entered_of sums keys (us ++ cs) (bs ++ ds)
  entered_both sums keys us cs bs ds one two =
      subst (λ (found : List (Row × (Option Frame × List Value))). grouped_of sums keys (us ++ cs) found) (sym (map-append pair_of bs ds))
      (grouped_both sums keys us cs (pairs_in bs) (pairs_in ds) one two)

  abbrev pub summed_of : List Sum → List Frame → List (Option Frame × List Value) → Type 0
  summed_of sums rows parts = AreSumsOf sums (filter (is_met condition) rows) parts

  pub summed_both : (sums : List Sum) (us cs : List Frame) (bs ds : List (Option Frame × List Value))
      → summed_of sums us bs → summed_of sums cs ds → summed_of sums (us ++ cs) (bs ++ ds)
  summed_both sums us cs bs ds one two =
      subst (λ rows. AreSumsOf sums rows (bs ++ ds)) (sym (filter-append (is_met condition) us cs))
      (sums_both sums (filter (is_met condition) us) (filter (is_met condition) cs) bs ds one two)
