-- The query whose sources are replaced by what a function gives of them; nothing else of it changes.
use Rattle.std.specs.Prelude.{map, Option, None, Some}
use Rattle.hv_typing.specs.declared.tree.TypedJoin.{TypedJoin}
use Rattle.hv_typing.specs.declared.tree.TypedFrom.{TypedFrom}
use Rattle.hv_typing.specs.declared.tree.TypedSelect.{TypedSelect}
use Rattle.hv_typing.specs.declared.tree.TypedUnion.{TypedUnion}
use Rattle.hv_typing.specs.declared.tree.TypedQuery.{TypedQuery}

module _ {X Y : Type 0} (f : X → Y) where
  abbrev pub mapped_join : TypedJoin X → TypedJoin Y
  mapped_join join = record { kind = join.kind; source = f join.source; width = join.width; on = join.on }

  abbrev pub mapped_from : TypedFrom X → TypedFrom Y
  mapped_from from = record {
    source = f from.source;
    width = from.width;
    joins = map mapped_join from.joins;
    laterals = from.laterals;
  }

  abbrev pub mapped_sources : Option (TypedFrom X) → Option (TypedFrom Y)
  mapped_sources None = None
  mapped_sources (Some from) = Some (mapped_from from)

  abbrev pub mapped_select : TypedSelect X → TypedSelect Y
  mapped_select select = record {
    distinct = select.distinct;
    items = select.items;
    from = mapped_sources select.from;
    filter = select.filter;
    groups = select.groups;
  }

  abbrev pub mapped_union : TypedUnion X → TypedUnion Y
  mapped_union next = record { all = next.all; select = mapped_select next.select }

  abbrev pub mapped_query : TypedQuery X → TypedQuery Y
  mapped_query query = record {
    select = mapped_select query.select;
    unions = map mapped_union query.unions;
    order = query.order;
    limit = query.limit;
    columns = query.columns;
  }
