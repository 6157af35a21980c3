-- What fills a meaning is a listing, in place of nothing: every other meaning stays as it is over the tables.
use Rattle.std.proofs.Common.{◌≡◌, ◌⊎◌, true, false, inl, inr, ℕ, Option, Some, None, List, refl, sym, ◌∙◌, subst}
use Rattle.hv_value.specs.declared.row.Row.{Row}
use Rattle.hv_meaning.specs.hv_typing.specs.hv_logic.specs.declared.catalog.TableInfo.{TableInfo}
use Rattle.hv_meaning.specs.hv_typing.specs.hv_logic.specs.declared.effect.Effect.{Effect}
use Rattle.hv_meaning.specs.hv_typing.specs.hv_logic.specs.declared.meaning.Meaning.{Meaning}
use Rattle.hv_meaning.specs.hv_typing.specs.hv_logic.specs.declared.meaning.Meaning.TheVariants.{Refused, Listing, Change, Make, Unmake, Ask, Plain, Twice, RowLimit, PartitionLimit}
use Rattle.hv_history.specs.declared.shown.Shown.{Shown}
use Rattle.hv_history.specs.Shown.{filled, is_plain}

abbrev Fills : Option Shown → Option Meaning → Type 0
Fills o m = (filled o m ≡ m) ⊎ ((shown : Shown) × (filled o m ≡ Some (Listing shown.names shown.rows)))

filled-or : (o : Option Shown) (m : Option Meaning) → Fills o m
filled-or None m = inl refl
filled-or (Some shown) None = inl refl
filled-or (Some shown) (Some (Refused why)) = inl refl
filled-or (Some shown) (Some (Listing names rows)) = inl refl
filled-or (Some shown) (Some (Change info effect)) = inl refl
filled-or (Some shown) (Some (Make shape)) = inl refl
filled-or (Some shown) (Some (Unmake table)) = inl refl
filled-or (Some shown) (Some (Ask table region kind)) = inl refl
filled-or (Some shown) (Some Plain) = inr (shown, refl)
filled-or (Some shown) (Some (Twice region row)) = inl refl
filled-or (Some shown) (Some RowLimit) = inl refl
filled-or (Some shown) (Some PartitionLimit) = inl refl

-- a fact of meanings that listings have
pub filled-is : (P : Option Meaning → Type 0) → ((names : List (List ℕ)) (rows : List Row) → P (Some (Listing names rows)))
    → (o : Option Shown) (m : Option Meaning) → P m → P (filled o m)
filled-is P listing o m h = by (filled-or o m)
  where
    by : Fills o m → P (filled o m)
    by (inl same) = subst P (sym same) h
    by (inr (shown, is)) = subst P (sym is) (listing shown.names shown.rows)

-- a change is one over the tables
pub filled-change : (o : Option Shown) (m : Option Meaning) (info : TableInfo) (effect : Effect) → filled o m ≡ Some (Change info effect)
    → m ≡ Some (Change info effect)
filled-change o m info effect e = by (filled-or o m)
  where
    by : Fills o m → m ≡ Some (Change info effect)
    by (inl same) = sym same ∙ e
    by (inr (shown, is)) = let both : Some (Listing shown.names shown.rows) ≡ Some (Change info effect) = sym is ∙ e in cc

-- what is listed comes in place of nothing, and of nothing else
pub filled-plain : (shown : Shown) (m : Meaning) → is_plain m ≡ true → filled (Some shown) (Some m) ≡ Some (Listing shown.names shown.rows)
filled-plain shown (Refused why) is = cc
filled-plain shown (Listing names rows) is = cc
filled-plain shown (Change info effect) is = cc
filled-plain shown (Make shape) is = cc
filled-plain shown (Unmake table) is = cc
filled-plain shown (Ask table region kind) is = cc
filled-plain shown Plain is = refl
filled-plain shown (Twice region row) is = cc
filled-plain shown RowLimit is = cc
filled-plain shown PartitionLimit is = cc

pub filled-other : (shown : Shown) (m : Meaning) → is_plain m ≡ false → filled (Some shown) (Some m) ≡ Some m
filled-other shown (Refused why) is = refl
filled-other shown (Listing names rows) is = refl
filled-other shown (Change info effect) is = refl
filled-other shown (Make shape) is = refl
filled-other shown (Unmake table) is = refl
filled-other shown (Ask table region kind) is = refl
filled-other shown Plain is = cc
filled-other shown (Twice region row) is = refl
filled-other shown RowLimit is = refl
filled-other shown PartitionLimit is = refl
