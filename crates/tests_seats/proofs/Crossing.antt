-- Which statements may cross threads: all of them. `search` by itself runs out of steps at a query, so each layer has its lemma here, and the two types that hold themselves are tied by `fix_send`.
--     expr_send, source_field, query_field, stmt_field      of each as a field      trees      these, for `search (trees, sendable, crosses) depth 40` where a call asks it of what holds one
--     expr_row, source_row, query_row, stmt_row      of each alone
use denote.RattleType.{RattleType}
use denote.Param.Send.{IsSend, sendable}
use denote.Enum.Declared as E
use denote.Hole.Fix.{holes}
use denote.Hole.FixSend.{fix_send, Sends}
use Rattle.std.proofs.Crossing.{crosses}
use Rattle.hv_ast.specs.contracts.expr.Expr as expr
use Rattle.hv_ast.specs.contracts.expr.Operation as operation
use Rattle.hv_ast.specs.contracts.expr.When as when
use Rattle.hv_base.specs.contracts.boxed.Boxed as boxed
use Rattle.hv_base.specs.contracts.list.List as list
use Rattle.hv_ast.specs.contracts.query.Key as key
use Rattle.hv_ast.specs.contracts.query.Window as window
use Rattle.hv_ast.specs.contracts.query.Item as item
use Rattle.hv_ast.specs.contracts.query.Lateral as lateral
use Rattle.hv_ast.specs.contracts.query.Join as join
use Rattle.hv_ast.specs.contracts.query.From as from
use Rattle.hv_ast.specs.contracts.query.Select as select
use Rattle.hv_ast.specs.contracts.query.Union as union
use Rattle.hv_ast.specs.contracts.query.Source as source
use Rattle.hv_ast.specs.contracts.query.Query as query
use Rattle.hv_ast.specs.contracts.change.PartitionItem as partition_item
use Rattle.hv_ast.specs.contracts.change.Rows as rows
use Rattle.hv_ast.specs.contracts.change.Insert as insert
use Rattle.hv_ast.specs.contracts.change.Assignment as assignment
use Rattle.hv_ast.specs.contracts.change.Update as update
use Rattle.hv_ast.specs.contracts.change.Delete as delete
use Rattle.hv_ast.specs.contracts.change.MergeAction as action
use Rattle.hv_ast.specs.contracts.change.MergeClause as clause
use Rattle.hv_ast.specs.contracts.change.Merge as merge
use Rattle.hv_ast.specs.contracts.change.Truncate as truncate
use Rattle.hv_ast.specs.contracts.table.ColumnDefinition as column
use Rattle.hv_ast.specs.contracts.table.CreateTable as create
use Rattle.hv_ast.specs.contracts.table.AddColumns as add
use Rattle.hv_ast.specs.contracts.table.Compact as compact
use Rattle.hv_ast.specs.contracts.table.CreateView as view
use Rattle.hv_ast.specs.contracts.statement.Stmt as stmt

boxed_send : (T : RattleType) → IsSend T → IsSend (boxed.the_field T).row
boxed_send T s = search (sendable, crosses) depth 40

list_send : (T : RattleType) → IsSend T → IsSend (list.the_field T).row
list_send T s = search (sendable, crosses) depth 40

operation_send : (E : RattleType) → IsSend E → IsSend (operation.the_field E).row
operation_send E s = search (sendable, crosses) depth 40

when_send : (E : RattleType) → IsSend E → IsSend (when.the_field E).row
when_send E s = search (sendable, crosses) depth 40

expr_layer : (h : _ → RattleType) → IsSend (h expr.the_member) → IsSend (E.row (expr.the_layer h))
expr_layer h s = search (boxed_send, list_send, operation_send, when_send, sendable, crosses) depth 40 fits 30000

expr_held : (i : _) → IsSend (holes expr.the_ring i)
expr_held = fix_send expr.the_ring (expr.by_members (λ i. Sends expr.the_ring i) (record { send = λ h all. expr_layer h (all expr.the_member) }))

expr_hole : IsSend expr.the_hole
expr_hole = expr_held expr.the_member

pub expr_send : IsSend (expr.the_field).row
expr_send = let s = expr_hole in search (boxed_send, list_send, operation_send, when_send, sendable, crosses) depth 40 fits 30000

pub expr_row : IsSend expr.the_row
expr_row = let s = expr_send in search (sendable, crosses) depth 40

key_send : IsSend (key.the_field).row
key_send = let e = expr_send in search (sendable, crosses) depth 40

window_send : IsSend (window.the_field).row
window_send = let e = expr_send in let a = key_send in search (sendable, crosses) depth 40

item_send : IsSend (item.the_field).row
item_send = let e = expr_send in let a = window_send in search (sendable, crosses) depth 40

lateral_send : IsSend (lateral.the_field).row
lateral_send = let e = expr_send in search (sendable, crosses) depth 40

module _ (S : RattleType) (s : IsSend S) where
  join_send : IsSend ((join.the_field S).row)
  join_send = let e = expr_send in search (sendable, crosses) depth 40

  from_send : IsSend ((from.the_field S).row)
  from_send = let a = join_send in let b = lateral_send in search (sendable, crosses) depth 40

  select_send : IsSend ((select.the_field S).row)
  select_send = let e = expr_send in let a = from_send in let b = item_send in search (sendable, crosses) depth 40

  union_send : IsSend ((union.the_field S).row)
  union_send = let a = select_send in search (sendable, crosses) depth 40

  query_send : IsSend ((query.the_field S).row)
  query_send = let e = expr_send in let a = select_send in let b = union_send in let c = key_send in search (sendable, crosses) depth 40

source_layer : (h : _ → RattleType) → IsSend (h source.the_member) → IsSend (E.row (source.the_layer h))
source_layer h s = let q = query_send (h source.the_member) s in search (boxed_send, sendable, crosses) depth 40 fits 30000

source_held : (i : _) → IsSend (holes source.the_ring i)
source_held = fix_send source.the_ring (source.by_members (λ i. Sends source.the_ring i) (record { send = λ h all. source_layer h (all source.the_member) }))

source_hole : IsSend source.the_hole
source_hole = source_held source.the_member

pub source_field : IsSend (source.the_field).row
source_field = let q = query_send source.the_hole source_hole in search (boxed_send, sendable, crosses) depth 40 fits 30000

pub source_row : IsSend source.the_row
source_row = let q = source_field in search (sendable, crosses) depth 40 fits 30000

pub query_field : IsSend (query.the_field source.the_row).row
query_field = query_send source.the_row source_row

pub query_row : IsSend (query.the_row source.the_row)
query_row = let q = query_field in search (sendable, crosses) depth 40

partition_item_send : IsSend (partition_item.the_field).row
partition_item_send = let e = expr_send in search (sendable, crosses) depth 40

rows_send : IsSend (rows.the_field).row
rows_send = let e = expr_send in let q = query_field in search (sendable, crosses) depth 40

insert_send : IsSend (insert.the_field).row
insert_send = let a = rows_send in let b = partition_item_send in search (sendable, crosses) depth 40

assignment_send : IsSend (assignment.the_field).row
assignment_send = let e = expr_send in search (sendable, crosses) depth 40

update_send : IsSend (update.the_field).row
update_send = let e = expr_send in let a = assignment_send in search (sendable, crosses) depth 40

delete_send : IsSend (delete.the_field).row
delete_send = let e = expr_send in search (sendable, crosses) depth 40

action_send : IsSend (action.the_field).row
action_send = let e = expr_send in let a = assignment_send in search (sendable, crosses) depth 40

clause_send : IsSend (clause.the_field).row
clause_send = let e = expr_send in let a = action_send in search (sendable, crosses) depth 40

merge_send : IsSend (merge.the_field).row
merge_send = let e = expr_send in let a = clause_send in let s = source_field in search (sendable, crosses) depth 40

truncate_send : IsSend (truncate.the_field).row
truncate_send = let a = partition_item_send in search (sendable, crosses) depth 40

column_send : IsSend (column.the_field).row
column_send = search (sendable, crosses) depth 40

create_send : IsSend (create.the_field).row
create_send = let a = column_send in search (sendable, crosses) depth 40 fits 30000

add_send : IsSend (add.the_field).row
add_send = let a = column_send in search (sendable, crosses) depth 40

compact_send : IsSend (compact.the_field).row
compact_send = let a = partition_item_send in search (sendable, crosses) depth 40

create_view_send : IsSend (view.the_field).row
create_view_send = let q = query_field in search (sendable, crosses) depth 40

pub stmt_field : IsSend (stmt.the_field).row
stmt_field =
    let a = query_field in
    let b = insert_send in
    let c = update_send in
    let d = delete_send in
    let e = merge_send in
    let f = create_send in
    let g = add_send in
    let h = truncate_send in
    let i = compact_send in
    let j = create_view_send in
    search (sendable, crosses) depth 40 fits 30000

pub stmt_row : IsSend stmt.the_row
stmt_row = let s = stmt_field in search (sendable, crosses) depth 40

pub ruleset trees = (expr_send, source_field, query_field, stmt_field)
