-- Texts with their tree or their fault, worked out by hand: SET texts, and which fault comes first.
use Rattle.std.specs.Prelude.{◌≡◌, List, [], ◌∷◌, map, Option, Some, None, codes}
use Rattle.hv_ast.specs.declared.statement.Stmt.{Stmt}
use Rattle.hv_ast.specs.declared.statement.Stmt.TheVariants as stmt
use Rattle.hv_ast.specs.Tokens.{Text}
use Rattle.hv_grammar.specs.Texts.{TextFault, BadCharacter, OpenString, WideNumber, Syntax, tree_of, fault_of}
use Rattle.hv_grammar.specs.WorkedQueries.{all, from}

abbrev pub HaveTrees : List (Text × Option Stmt) → Type 0
HaveTrees rows = map (λ row. tree_of row.0) rows ≡ map (λ row. row.1) rows

abbrev pub HaveFaults : List (Text × Option TextFault) → Type 0
HaveFaults rows = map (λ row. fault_of row.0) rows ≡ map (λ row. row.1) rows

abbrev pub set : Text → Text → Option Stmt
set key value = Some (stmt.Set (record { key = key; value = value }))

unfoldable pub settings : List (Text × Option Stmt)
settings =
    (codes "SET hive.support.concurrency=true", set (codes "hive.support.concurrency") (codes "true"))
    ∷ (codes "SET hive.enforce.bucketing=true", set (codes "hive.enforce.bucketing") (codes "true"))
    ∷ (codes "SET hive.exec.dynamic.partition.mode=nonstrict", set (codes "hive.exec.dynamic.partition.mode") (codes "nonstrict"))
    ∷ (
      codes "SET hive.txn.manager=org.apache.hadoop.hive.ql.lockmgr.DbTxnManager",
      set (codes "hive.txn.manager") (codes "org.apache.hadoop.hive.ql.lockmgr.DbTxnManager"),
    )
    ∷ (codes "SET hive.compactor.initiator.on=true", set (codes "hive.compactor.initiator.on") (codes "true"))
    ∷ (codes " -- first\n  sEt  A b =  c  d\t\n", set (codes "A b") (codes "c  d"))
    ∷ (codes "SET k=", set (codes "k") [])
    ∷ (codes "SET k=a=b", set (codes "k") (codes "a=b"))
    ∷ (codes "SET k='a' -- b", set (codes "k") (codes "'a' -- b"))
    ∷ (codes "SET=k=v", None)
    ∷ (codes "SET k", None)
    ∷ (codes "SET =v", None)
    ∷ (codes "SET", None)
    ∷ (codes "SETS k=v", None)
    ∷ (codes "`set` k=v", None)
    ∷ (codes "SELECT * FROM t", Some (stmt.Query (all (from (codes "t")))))
    ∷ []

unfoldable pub faults : List (Text × Option TextFault)
faults =
    (codes "SELECT * FROM t", None)
    ∷ (codes "SET k='", None)
    ∷ (codes "SET =v", Some Syntax)
    ∷ (codes "SELECT 'open", Some (OpenString 7))
    ∷ (codes "SELECT ; 'open", Some (BadCharacter 7))
    ∷ (codes "SELECT 9223372036854775808 ; 'open", Some (WideNumber 7))
    ∷ (codes "SELECT", Some Syntax)
    ∷ (codes "", Some Syntax)
    ∷ []
