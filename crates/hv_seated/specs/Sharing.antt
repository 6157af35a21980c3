-- A house that seats take in turn: what of it never changes, and how it goes on.
use Rattle.std.specs.Prelude.{◌≡◌, ℕ}
use Rattle.std.proofs.Common.{sym, ap, ◌∙◌}
use mathlib.Core.List.{IsPrefix}
use Rattle.hv_base.specs.declared.ids.Limits.{Limits}
use Rattle.hv_trail.specs.Steps.{HouseSeen}
use Rattle.hv_actor.specs.Acting.{IsLater}
use Rattle.hv_actor.specs.Rows.{later_itself}
use Rattle.hv_actor.proofs.Weaving.{later-further}
use Rattle.hv_seated.specs.declared.shared.Shared.{Shared}
use Rattle.hv_seated.specs.declared.shared.Origin.{Origin}

abbrev pub as_origin : {D : Type 0} → D → ℕ → Limits → Origin D
as_origin start opened limits = record { start = start; opened = opened; limits = limits }

-- what no call changes
abbrev pub origin_of : {D : Type 0} → HouseSeen D → Origin D
origin_of seen = as_origin seen.start seen.opened seen.limits

module _ {D H : Type 0} (faults : D → ℕ) (seen : H → HouseSeen D) where
  -- the house goes on
  abbrev pub IsSharedLater : Shared D H → Shared D H → Type 0
  IsSharedLater before now = IsLater faults (seen before.house) (seen now.house)

  pub shared_itself : (x : Shared D H) → IsSharedLater x x
  shared_itself x = later_itself faults (seen x.house)

  pub shared_further : (x y z : Shared D H) → IsSharedLater x y → IsSharedLater y z → IsSharedLater x z
  shared_further x y z first next = later-further faults (seen x.house) (seen y.house) (seen z.house) first next

  pub same_origin : (x y : Shared D H) → IsSharedLater x y → origin_of (seen x.house) ≡ origin_of (seen y.house)
  same_origin x y later =
      let before : HouseSeen D = seen x.house in
      let now : HouseSeen D = seen y.house in
      ap (λ (start : D). as_origin start before.opened before.limits) (sym later.rest.start)
      ∙ ap (λ (opened : ℕ). as_origin now.start opened before.limits) (sym later.rest.opened)
      ∙ ap (λ (limits : Limits). as_origin now.start now.opened limits) (sym later.rest.limits)

  pub shared_begins : (x y : Shared D H) → IsSharedLater x y → IsPrefix (seen x.house).trail (seen y.house).trail
  shared_begins x y later = (later.added, sym later.trail)
