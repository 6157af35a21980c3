-- Which items of a list are of one group, from the last one back.
use Rattle.std.specs.Prelude.{◌≡◌, ℕ, zero, suc, ◌+◌, ◌-◌, ◌<◌, ◌≤◌, ◌==◌, Bool, true, false, Option, Some, None, List, [], ◌∷◌, ◌++◌, length, map, take, vec_len, vec_capacity}
use Rattle.std.specs.List.{slice_get, AllByRecursion}
use Rattle.std.specs.Global.{Vec}
use Rattle.hv_links.specs.declared.links.Link.{Link}

-- The group of each item, how many groups there are, and how many items and groups more there is room for.
pub record Linked : Type 0 where
  pub groups : List ℕ
  pub count : ℕ
  pub item_room : ℕ
  pub group_room : ℕ

-- the number behind, or 1 where the first one is of the group
abbrev pub later : Bool → ℕ → ℕ
later here (suc n) = suc (suc n)
later true zero = 1
later false zero = 0

-- the number of the last item of this group, from 1; 0 where there is none
abbrev pub last_of : ℕ → List ℕ → ℕ
last_of group [] = 0
last_of group (first ∷ groups) = later (first == group) (last_of group groups)

abbrev pub last_before : Option ℕ → List ℕ → ℕ
last_before None front = 0
last_before (Some group) front = last_of group front

-- the number of the last item before that one which is of its group
abbrev pub before_of : ℕ → List ℕ → ℕ
before_of zero groups = 0
before_of (suc at) groups = last_before (slice_get groups at) (take at groups)

-- ---- how they are kept

abbrev pub group_of : Link → ℕ
group_of link = link.group

abbrev pub linked : Vec Link → Vec ℕ → Linked
linked links lasts = record {
  groups = map group_of links.items;
  count = length lasts.items;
  item_room = vec_capacity links - vec_len links;
  group_room = vec_capacity lasts - vec_len lasts;
}

-- each item leads to the one of its group before it, where these stand before the first
abbrev pub AreChained : List ℕ → List Link → Type 0
AreChained front [] = Unit {0}
AreChained front (link ∷ links) = (link.before ≡ last_of link.group front) × AreChained (front ++ link.group ∷ []) links

-- these are the last ones of the groups from this number on
abbrev pub AreLasts : ℕ → List ℕ → List ℕ → Type 0
AreLasts group groups [] = Unit {0}
AreLasts group groups (last ∷ lasts) = (last ≡ last_of group groups) × AreLasts (group + 1) groups lasts

abbrev pub IsThere : ℕ → Link → Type 0
IsThere count link = (0 < link.group) × (link.group ≤ count)

pub record AreLinked (links : List Link) (lasts : List ℕ) : Type 0 where
  pub chained : AreChained [] links
  pub last : AreLasts 1 (map group_of links) lasts
  pub there : AllByRecursion (IsThere (length lasts)) links
