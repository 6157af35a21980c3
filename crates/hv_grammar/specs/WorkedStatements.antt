-- Texts of statements that are no queries, with their trees, worked out by hand from the grammar.
use Rattle.std.specs.Prelude.{Bool, true, false, List, [], ◌∷◌, Option, Some, None, codes}
use Rattle.hv_ast.specs.declared.types.ScalarName.TheVariants as scalar
use Rattle.hv_ast.specs.declared.types.TypeName.{TypeName}
use Rattle.hv_ast.specs.declared.types.TypeName.TheVariants as type
use Rattle.hv_ast.specs.declared.expr.Literal.TheVariants as l
use Rattle.hv_ast.specs.declared.expr.Binary.TheVariants as binary
use Rattle.hv_ast.specs.declared.expr.Arithmetic.TheVariants as arithmetic
use Rattle.hv_ast.specs.declared.expr.Expr.{Expr}
use Rattle.hv_ast.specs.declared.expr.Expr.TheVariants as e
use Rattle.hv_ast.specs.declared.query.Item.TheVariants as i
use Rattle.hv_ast.specs.declared.query.Source.TheVariants as source
use Rattle.hv_ast.specs.declared.change.PartitionItem.{PartitionItem}
use Rattle.hv_ast.specs.declared.change.Rows.{Rows}
use Rattle.hv_ast.specs.declared.change.Rows.TheVariants as given
use Rattle.hv_ast.specs.declared.change.Assignment.{Assignment}
use Rattle.hv_ast.specs.declared.change.MergeAction.{MergeAction}
use Rattle.hv_ast.specs.declared.change.MergeAction.TheVariants as action
use Rattle.hv_ast.specs.declared.change.MergeClause.{MergeClause}
use Rattle.hv_ast.specs.declared.table.ColumnDefinition.{ColumnDefinition}
use Rattle.hv_ast.specs.declared.table.CompactionKind.{CompactionKind}
use Rattle.hv_ast.specs.declared.table.CompactionKind.TheVariants as compaction
use Rattle.hv_ast.specs.declared.statement.Show.TheVariants as shown
use Rattle.hv_ast.specs.declared.statement.Stmt.TheVariants as stmt
use Rattle.hv_ast.specs.Tokens.{Text}
use Rattle.hv_grammar.specs.StatementReading.{Answer, found}
use Rattle.hv_grammar.specs.Worked.{a, b, c, d, number, string, operation}
use Rattle.hv_grammar.specs.WorkedQueries.{refused, from, all, one, key}

-- ---- trees, in short

abbrev pub t : Text
t = codes "t"

abbrev pub item : Text → Option Expr → PartitionItem
item name value = record { name = name; value = value }

abbrev pub insert : Bool → List PartitionItem → List Text → Rows → Answer
insert overwrite partition columns rows =
    found (stmt.Insert (record { overwrite = overwrite; table = t; partition = partition; columns = columns; rows = rows }))

abbrev pub set : Text → Expr → Assignment
set column value = record { column = column; value = value }

abbrev pub clause : Option Expr → MergeAction → MergeClause
clause condition action = record { condition = condition; action = action }

abbrev pub column : Text → TypeName → ColumnDefinition
column name kind = record { name = name; kind = kind; comment = None }

abbrev pub int : TypeName
int = type.Scalar scalar.Int

abbrev pub text : TypeName
text = type.Scalar scalar.String

-- CREATE TABLE t with these columns, and nothing else
abbrev pub create : List ColumnDefinition → Answer
create columns =
    found (stmt.CreateTable (record {
      if_absent = false;
      table = t;
      columns = columns;
      comment = None;
      partitions = [];
      clustering = None;
      stored = false;
      properties = [];
    }))

-- ---- INSERT

unfoldable pub inserts : List (Text × Answer)
inserts =
    (codes "INSERT INTO t VALUES (1, 'x'), (2, NULL)", insert false [] [] (given.Values ((number 1 ∷ string (codes "x") ∷ []) ∷ (number 2 ∷ e.Literal l.Null ∷ []) ∷ [])))
    ∷ (codes "INSERT INTO TABLE t SELECT * FROM u", insert false [] [] (given.Query (all (from (codes "u")))))
    ∷ (
      codes "INSERT OVERWRITE TABLE t PARTITION (k = 1 + 2, ds) (a, b) SELECT * FROM u",
      insert true
          (item (codes "k") (Some (e.Chain (number 1) (operation arithmetic.Add (number 2) ∷ []))) ∷ item (codes "ds") None ∷ [])
          (codes "a" ∷ codes "b" ∷ []) (given.Query (all (from (codes "u")))),
    )
    ∷ (codes "INSERT INTO t (a) VALUES (1)", insert false [] (codes "a" ∷ []) (given.Values ((number 1 ∷ []) ∷ [])))
    ∷ refused (codes "INSERT t VALUES (1)")
    ∷ refused (codes "INSERT OVERWRITE t VALUES (1)")
    ∷ refused (codes "INSERT INTO t")
    ∷ refused (codes "INSERT INTO t VALUES")
    ∷ refused (codes "INSERT INTO t VALUES ()")
    ∷ refused (codes "INSERT INTO t VALUES (1) (2)")
    ∷ refused (codes "INSERT INTO t VALUES (1),")
    ∷ refused (codes "INSERT INTO t VALUES 1")
    ∷ refused (codes "INSERT INTO t () VALUES (1)")
    ∷ refused (codes "INSERT INTO t PARTITION () VALUES (1)")
    ∷ refused (codes "INSERT INTO t PARTITION (k == 1) VALUES (1)")
    ∷ refused (codes "INSERT INTO t (a) PARTITION (k) VALUES (1)")
    ∷ refused (codes "INSERT INTO t VALUES (1) SELECT a")
    ∷ []

-- ---- UPDATE, DELETE, TRUNCATE

unfoldable pub changes : List (Text × Answer)
changes = (
  codes "UPDATE t SET a = 1, b = b + 1 WHERE c = d",
  found (stmt.Update (record {
    table = t;
    assignments = set (codes "a") (number 1) ∷ set (codes "b") (e.Chain b (operation arithmetic.Add (number 1) ∷ [])) ∷ [];
    filter = Some (e.Binary binary.Equal c d);
  })),
)
    ∷ (codes "UPDATE t SET a = b = c", found (stmt.Update (record { table = t; assignments = set (codes "a") (e.Binary binary.Equal b c) ∷ []; filter = None })))
    ∷ refused (codes "UPDATE t SET")
    ∷ refused (codes "UPDATE t SET a")
    ∷ refused (codes "UPDATE t SET a == 1")
    ∷ refused (codes "UPDATE t SET a = 1,")
    ∷ refused (codes "UPDATE t WHERE c SET a = 1")
    ∷ refused (codes "UPDATE SET a = 1")
    ∷ (codes "DELETE FROM t WHERE a", found (stmt.Delete (record { table = t; filter = Some a })))
    ∷ (codes "DELETE FROM default.t", found (stmt.Delete (record { table = t; filter = None })))
    ∷ refused (codes "DELETE t")
    ∷ refused (codes "DELETE FROM t a")
    ∷ refused (codes "DELETE FROM t WHERE")
    ∷ (codes "TRUNCATE TABLE t PARTITION (k = 1)", found (stmt.Truncate (record { table = t; partition = item (codes "k") (Some (number 1)) ∷ [] })))
    ∷ (codes "TRUNCATE t", found (stmt.Truncate (record { table = t; partition = [] })))
    ∷ refused (codes "TRUNCATE TABLE")
    ∷ refused (codes "TRUNCATE t PARTITION k = 1")
    ∷ []

-- ---- MERGE

unfoldable pub merges : List (Text × Answer)
merges = (
  codes "MERGE INTO t AS x USING u y ON a WHEN MATCHED AND b AND c THEN DELETE WHEN MATCHED THEN UPDATE SET a = 1, b = 2 WHEN NOT MATCHED AND d THEN INSERT VALUES (1, b)",
  found (stmt.Merge (record {
    table = t;
    alias = Some (codes "x");
    source = source.Table (codes "u") (Some (codes "y"));
    on = a;
    clauses =
        clause (Some (e.And (b ∷ c ∷ []))) action.Delete
        ∷ clause None (action.Update (set (codes "a") (number 1) ∷ set (codes "b") (number 2) ∷ []))
        ∷ clause (Some d) (action.Insert (number 1 ∷ b ∷ []))
        ∷ [];
  })),
)
    ∷ (
      codes "MERGE INTO t USING (SELECT * FROM u) s ON a = b WHEN NOT MATCHED THEN INSERT VALUES (a)",
      found (stmt.Merge (record {
        table = t;
        alias = None;
        source = source.Query (all (from (codes "u"))) (codes "s");
        on = e.Binary binary.Equal a b;
        clauses = clause None (action.Insert (a ∷ [])) ∷ [];
      })),
    )
    ∷ refused (codes "MERGE INTO t USING u ON a")
    ∷ refused (codes "MERGE INTO t USING u WHEN MATCHED THEN DELETE")
    ∷ refused (codes "MERGE INTO t ON a USING u WHEN MATCHED THEN DELETE")
    ∷ refused (codes "MERGE t USING u ON a WHEN MATCHED THEN DELETE")
    ∷ refused (codes "MERGE INTO t USING u ON a WHEN MATCHED DELETE")
    ∷ refused (codes "MERGE INTO t USING u ON a WHEN MATCHED THEN INSERT VALUES (1)")
    ∷ refused (codes "MERGE INTO t USING u ON a WHEN NOT MATCHED THEN DELETE")
    ∷ refused (codes "MERGE INTO t USING u ON a WHEN NOT MATCHED THEN INSERT VALUES (1), (2)")
    ∷ refused (codes "MERGE INTO t USING u ON a WHEN MATCHED THEN UPDATE a = 1")
    ∷ []

-- ---- CREATE TABLE and DROP TABLE

unfoldable pub tables : List (Text × Answer)
tables =
    (codes "CREATE TABLE t (a INT, s STRING)", create (column (codes "a") int ∷ column (codes "s") text ∷ []))
    ∷ (
      codes "CREATE TABLE t (location INT, comment STRING, default ARRAY<BIGINT>)",
      create (column (codes "location") int ∷ column (codes "comment") text ∷ column (codes "default") (type.Array scalar.BigInt) ∷ []),
    )
    ∷ (
      codes "CREATE TABLE IF NOT EXISTS t (a INT COMMENT 'x', b DATE) COMMENT 'y' PARTITIONED BY (k STRING, ds INT) CLUSTERED BY (a, b) INTO 4 BUCKETS STORED AS ORC TBLPROPERTIES ('transactional' = 'true', 'p' = 'q')",
      found (stmt.CreateTable (record {
        if_absent = true;
        table = t;
        columns = record { name = codes "a"; kind = int; comment = Some (codes "x") } ∷ column (codes "b") (type.Scalar scalar.Date) ∷ [];
        comment = Some (codes "y");
        partitions = column (codes "k") text ∷ column (codes "ds") int ∷ [];
        clustering = Some (record { columns = codes "a" ∷ codes "b" ∷ []; count = 4 });
        stored = true;
        properties = record { key = codes "transactional"; value = codes "true" } ∷ record { key = codes "p"; value = codes "q" } ∷ [];
      })),
    )
    ∷ refused (codes "CREATE TABLE t")
    ∷ refused (codes "CREATE TABLE t ()")
    ∷ refused (codes "CREATE t (a INT)")
    ∷ refused (codes "CREATE TABLE t (a)")
    ∷ refused (codes "CREATE TABLE t (a INT,)")
    ∷ refused (codes "CREATE TABLE t (a `int`)")
    ∷ refused (codes "CREATE TABLE t (a ARRAY<ARRAY<INT>>)")
    ∷ refused (codes "CREATE TABLE IF EXISTS t (a INT)")
    ∷ refused (codes "CREATE TABLE t (a INT) STORED AS ORC CLUSTERED BY (a) INTO 4 BUCKETS")
    ∷ refused (codes "CREATE TABLE t (a INT) CLUSTERED BY (a)")
    ∷ refused (codes "CREATE TABLE t (a INT) CLUSTERED BY (a) INTO x BUCKETS")
    ∷ refused (codes "CREATE TABLE t (a INT) STORED AS TEXTFILE")
    ∷ refused (codes "CREATE TABLE t (a INT) TBLPROPERTIES ()")
    ∷ refused (codes "CREATE TABLE t (a INT) TBLPROPERTIES ('p' == 'q')")
    ∷ refused (codes "CREATE TABLE t (a INT) COMMENT y")
    ∷ (codes "DROP TABLE IF EXISTS t PURGE", found (stmt.DropTable (record { if_exists = true; table = t; purge = true })))
    ∷ (codes "DROP TABLE t", found (stmt.DropTable (record { if_exists = false; table = t; purge = false })))
    ∷ refused (codes "DROP t")
    ∷ refused (codes "DROP TABLE t IF EXISTS")
    ∷ refused (codes "DROP TABLE IF NOT EXISTS t")
    ∷ []

-- ---- SHOW, DESCRIBE, ALTER TABLE COMPACT, ABORT TRANSACTIONS, EXPLAIN

abbrev pub compact : List PartitionItem → CompactionKind → Answer
compact partition kind = found (stmt.Compact (record { table = t; partition = partition; kind = kind }))

unfoldable pub asked : List (Text × Answer)
asked =
    (codes "SHOW TABLES", found (stmt.Show shown.Tables))
    ∷ (codes "SHOW PARTITIONS default.t", found (stmt.Show (shown.Partitions t)))
    ∷ (codes "SHOW TRANSACTIONS", found (stmt.Show shown.Transactions))
    ∷ (codes "SHOW LOCKS", found (stmt.Show shown.Locks))
    ∷ (codes "SHOW COMPACTIONS", found (stmt.Show shown.Compactions))
    ∷ refused (codes "SHOW")
    ∷ refused (codes "SHOW PARTITIONS")
    ∷ refused (codes "SHOW TABLES t")
    ∷ refused (codes "SHOW `tables`")
    ∷ (codes "DESCRIBE t", found (stmt.Describe t))
    ∷ refused (codes "DESCRIBE")
    ∷ refused (codes "DESC t")
    ∷ (codes "ALTER TABLE t COMPACT 'major'", compact [] compaction.Major)
    ∷ (codes "ALTER TABLE t PARTITION (k = 'x') COMPACT 'MiNor'", compact (item (codes "k") (Some (string (codes "x"))) ∷ []) compaction.Minor)
    ∷ refused (codes "ALTER TABLE t COMPACT")
    ∷ refused (codes "ALTER TABLE t COMPACT major")
    ∷ refused (codes "ALTER TABLE t COMPACT 'full'")
    ∷ refused (codes "ALTER TABLE t COMPACT 'major' PARTITION (k = 'x')")
    ∷ (codes "ABORT TRANSACTIONS 7 12", found (stmt.AbortTransactions (7 ∷ 12 ∷ [])))
    ∷ refused (codes "ABORT TRANSACTIONS")
    ∷ refused (codes "ABORT TRANSACTIONS 7, 12")
    ∷ refused (codes "ABORT 7")
    ∷ (codes "EXPLAIN FORMATTED SELECT * FROM t", found (stmt.Explain (all (from t))))
    ∷ refused (codes "EXPLAIN SELECT * FROM t")
    ∷ refused (codes "EXPLAIN FORMATTED DELETE FROM t")
    ∷ refused (codes "SET a = b")
    ∷ refused (codes "t")
    ∷ []

-- ---- a day's work of a data engineer

unfoldable pub realistic : List (Text × Answer)
realistic = (
  codes "CREATE TABLE sales (id INT, item STRING, qty INT) PARTITIONED BY (ds STRING) CLUSTERED BY (id) INTO 4 BUCKETS STORED AS ORC TBLPROPERTIES ('transactional'='true')",
  found (stmt.CreateTable (record {
    if_absent = false;
    table = codes "sales";
    columns = column (codes "id") int ∷ column (codes "item") text ∷ column (codes "qty") int ∷ [];
    comment = None;
    partitions = column (codes "ds") text ∷ [];
    clustering = Some (record { columns = codes "id" ∷ []; count = 4 });
    stored = true;
    properties = record { key = codes "transactional"; value = codes "true" } ∷ [];
  })),
)
    ∷ (
      codes "INSERT INTO TABLE sales PARTITION (ds) VALUES (1,'pen',3,'2024-01-01'),(2,'ink',1,'2024-01-02'),(5,'cap',2,'2024-01-01')",
      found (stmt.Insert (record {
        overwrite = false;
        table = codes "sales";
        partition = item (codes "ds") None ∷ [];
        columns = [];
        rows = given.Values (
            (number 1 ∷ string (codes "pen") ∷ number 3 ∷ string (codes "2024-01-01") ∷ [])
            ∷ (number 2 ∷ string (codes "ink") ∷ number 1 ∷ string (codes "2024-01-02") ∷ [])
            ∷ (number 5 ∷ string (codes "cap") ∷ number 2 ∷ string (codes "2024-01-01") ∷ [])
            ∷ []);
      })),
    )
    ∷ (
      codes "UPDATE sales SET qty = qty + 1 WHERE ds = '2024-01-01' AND item = 'pen'",
      found (stmt.Update (record {
        table = codes "sales";
        assignments = set (codes "qty") (e.Chain (e.Column None (codes "qty")) (operation arithmetic.Add (number 1) ∷ [])) ∷ [];
        filter = Some (e.And (
            e.Binary binary.Equal (e.Column None (codes "ds")) (string (codes "2024-01-01"))
            ∷ e.Binary binary.Equal (e.Column None (codes "item")) (string (codes "pen"))
            ∷ []));
      })),
    )
    ∷ (
      codes "SELECT ds, COUNT(*) AS n, SUM(qty) AS q FROM sales GROUP BY ds ORDER BY ds",
      found (stmt.Query (record {
        select = record {
          distinct = false;
          items =
              one (e.Column None (codes "ds"))
              ∷ i.One e.CountRows (Some (codes "n"))
              ∷ i.One (e.Call (codes "sum") false (e.Column None (codes "qty") ∷ [])) (Some (codes "q"))
              ∷ [];
          from = Some (from (codes "sales"));
          filter = None;
          group = e.Column None (codes "ds") ∷ [];
          having = None;
        };
        unions = [];
        order = key (e.Column None (codes "ds")) false ∷ [];
        limit = None;
      })),
    )
    ∷ []
