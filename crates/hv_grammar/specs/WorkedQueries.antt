-- Texts of queries with their trees, worked out by hand from the grammar.
use Rattle.std.specs.Prelude.{◌≡◌, Bool, true, false, List, [], ◌∷◌, map, Option, Some, None, Ok, Err, codes}
use Rattle.hv_ast.specs.declared.expr.Binary.TheVariants as binary
use Rattle.hv_ast.specs.declared.expr.Expr.{Expr}
use Rattle.hv_ast.specs.declared.expr.Expr.TheVariants as e
use Rattle.hv_ast.specs.declared.query.Key.{Key}
use Rattle.hv_ast.specs.declared.query.Item.{Item}
use Rattle.hv_ast.specs.declared.query.Item.TheVariants as i
use Rattle.hv_ast.specs.declared.query.JoinKind.{JoinKind}
use Rattle.hv_ast.specs.declared.query.JoinKind.TheVariants as j
use Rattle.hv_ast.specs.declared.query.Explode.{Explode}
use Rattle.hv_ast.specs.declared.query.Explode.TheVariants as x
use Rattle.hv_ast.specs.declared.query.Lateral.{Lateral}
use Rattle.hv_ast.specs.declared.query.Source.{Source}
use Rattle.hv_ast.specs.declared.query.Source.TheVariants as s
use Rattle.hv_ast.specs.declared.query.Join.{Join}
use Rattle.hv_ast.specs.declared.query.From.{From}
use Rattle.hv_ast.specs.declared.query.Select.{Select}
use Rattle.hv_ast.specs.declared.query.Union.{Union}
use Rattle.hv_ast.specs.declared.query.Query.{Query}
use Rattle.hv_ast.specs.declared.statement.Stmt.TheVariants as stmt
use Rattle.hv_ast.specs.Tokens.{Text, Tokens, tokens_of}
use Rattle.hv_grammar.specs.StatementReading.{Answer, found, syntax, statement_of}
use Rattle.hv_grammar.specs.Worked.{a, b, c, d, number}

-- ---- what a text is

abbrev pub answer_in : Tokens → Answer
answer_in (Ok tokens) = statement_of tokens
answer_in (Err fault) = syntax

-- the statement that a text is, from its first token to its last
unfoldable pub statement_in : Text → Answer
statement_in text = answer_in (tokens_of text)

abbrev pub AreStatements : List (Text × Answer) → Type 0
AreStatements rows = map (λ row. statement_in row.0) rows ≡ map (λ row. row.1) rows

-- a text that is no statement
abbrev pub refused : Text → Text × Answer
refused text = (text, syntax)

-- ---- trees, in short

abbrev pub one : Expr → Item
one value = i.One value None

abbrev pub table : Text → Source
table name = s.Table name None

abbrev pub from : Text → From Source
from name = record { source = table name; joins = []; laterals = [] }

abbrev pub select : List Item → Option (From Source) → Select Source
select items source = record { distinct = false; items = items; from = source; filter = None; group = []; having = None }

abbrev pub query : Select Source → Query Source
query first = record { select = first; unions = []; order = []; limit = None }

-- SELECT * FROM
abbrev pub all : From Source → Query Source
all source = query (select (i.All ∷ []) (Some source))

abbrev pub is : Query Source → Answer
is tree = found (stmt.Query tree)

abbrev pub key : Expr → Bool → Key
key value descending = record { expr = value; descending = descending }

abbrev pub join : JoinKind → Text → Option Expr → Join Source
join kind name on = record { kind = kind; source = table name; on = on }

abbrev pub lateral : Bool → Expr → Text → Explode → Lateral
lateral outer array alias explode = record { outer = outer; array = array; alias = alias; explode = explode }

abbrev pub union : Bool → Select Source → Union Source
union all select = record { all = all; select = select }

-- ---- a select's own clauses

unfoldable pub selects : List (Text × Answer)
selects =
    (codes "SELECT * FROM t", is (all (from (codes "t"))))
    ∷ (codes "select 1", is (query (select (one (number 1) ∷ []) None)))
    ∷ (codes "SELECT ALL a FROM t", is (query (select (one a ∷ []) (Some (from (codes "t"))))))
    ∷ (
      codes "SELECT t.*, a AS x, b y, c FROM t",
      is (query (select
          (i.AllOf (codes "t") ∷ i.One a (Some (codes "x")) ∷ i.One b (Some (codes "y")) ∷ one c ∷ [])
          (Some (from (codes "t"))))),
    )
    ∷ (codes "SELECT t.a FROM t", is (query (select (one (e.Column (Some (codes "t")) (codes "a")) ∷ []) (Some (from (codes "t"))))))
    ∷ (
      codes "SELECT DISTINCT a FROM t u WHERE a > 1 GROUP BY a, b HAVING c ORDER BY a DESC, b ASC, d LIMIT 3",
      is (record {
        select = record {
          distinct = true;
          items = one a ∷ [];
          from = Some (record { source = s.Table (codes "t") (Some (codes "u")); joins = []; laterals = [] });
          filter = Some (e.Binary binary.Greater a (number 1));
          group = a ∷ b ∷ [];
          having = Some c;
        };
        unions = [];
        order = key a true ∷ key b false ∷ key d false ∷ [];
        limit = Some 3;
      }),
    )
    ∷ (codes "SELECT a WHERE b", is (query (record { distinct = false; items = one a ∷ []; from = None; filter = Some b; group = []; having = None })))
    ∷ (codes "SELECT * FROM t LIMIT 0", is (record { select = select (i.All ∷ []) (Some (from (codes "t"))); unions = []; order = []; limit = Some 0 }))
    ∷ []

-- ---- names: a database, words that are keywords elsewhere, identifiers in backquotes

unfoldable pub names : List (Text × Answer)
names =
    (codes "SELECT * FROM default.t", is (all (from (codes "t"))))
    ∷ (codes "SELECT * FROM default", is (all (from (codes "default"))))
    ∷ (codes "SELECT * FROM default.default", is (all (from (codes "default"))))
    ∷ (codes "SELECT * FROM tables", is (all (from (codes "tables"))))
    ∷ (codes "SELECT location FROM t", is (query (select (one (e.Column None (codes "location")) ∷ []) (Some (from (codes "t"))))))
    ∷ (codes "SELECT desc asc FROM show", is (query (select (i.One (e.Column None (codes "desc")) (Some (codes "asc")) ∷ []) (Some (from (codes "show"))))))
    ∷ (codes "SELECT * FROM `from`", is (all (from (codes "from"))))
    ∷ (
      codes "SELECT * FROM t SEMI JOIN u ON a",
      is (all (record {
        source = s.Table (codes "t") (Some (codes "semi"));
        joins = join j.Inner (codes "u") (Some a) ∷ [];
        laterals = [];
      })),
    )
    ∷ refused (codes "SELECT * FROM from")
    ∷ refused (codes "SELECT a from FROM t FROM u")
    ∷ refused (codes "SELECT * FROM `default`.t")
    ∷ refused (codes "SELECT * FROM other.t")
    ∷ refused (codes "SELECT * FROM default.")
    ∷ []

-- ---- sources

unfoldable pub sources : List (Text × Answer)
sources = (
  codes "SELECT * FROM a, b JOIN c ON d INNER JOIN e CROSS JOIN f LEFT JOIN g ON a RIGHT OUTER JOIN h ON b FULL JOIN k ON c LEFT SEMI JOIN m ON d",
  is (all (record {
    source = table (codes "a");
    joins =
        join j.Cross (codes "b") None
        ∷ join j.Inner (codes "c") (Some d)
        ∷ join j.Inner (codes "e") None
        ∷ join j.Cross (codes "f") None
        ∷ join j.Left (codes "g") (Some a)
        ∷ join j.Right (codes "h") (Some b)
        ∷ join j.Full (codes "k") (Some c)
        ∷ join j.LeftSemi (codes "m") (Some d)
        ∷ [];
    laterals = [];
  })),
)
    ∷ (
      codes "SELECT * FROM (SELECT a FROM t) AS u",
      is (all (record { source = s.Query (query (select (one a ∷ []) (Some (from (codes "t"))))) (codes "u"); joins = []; laterals = [] })),
    )
    ∷ (
      codes "SELECT * FROM t LEFT OUTER JOIN (SELECT * FROM u) v ON a",
      is (all (record {
        source = table (codes "t");
        joins = record { kind = j.Left; source = s.Query (all (from (codes "u"))) (codes "v"); on = Some a } ∷ [];
        laterals = [];
      })),
    )
    ∷ (
      codes "SELECT * FROM t LATERAL VIEW EXPLODE(a) x LATERAL VIEW EXPLODE(b) y AS c LATERAL VIEW OUTER POSEXPLODE(d) z AS p, q WHERE a",
      is (query (record {
        distinct = false;
        items = i.All ∷ [];
        from = Some (record {
          source = table (codes "t");
          joins = [];
          laterals =
              lateral false a (codes "x") (x.Elements None)
              ∷ lateral false b (codes "y") (x.Elements (Some (codes "c")))
              ∷ lateral true d (codes "z") (x.Positions (codes "p") (codes "q"))
              ∷ [];
        });
        filter = Some a;
        group = [];
        having = None;
      })),
    )
    ∷ []

-- ---- unions: ORDER BY and LIMIT are the whole query's

unfoldable pub unions : List (Text × Answer)
unions = (
  codes "SELECT a UNION ALL SELECT b UNION SELECT c UNION DISTINCT SELECT d ORDER BY a LIMIT 1",
  is (record {
    select = select (one a ∷ []) None;
    unions = union true (select (one b ∷ []) None) ∷ union false (select (one c ∷ []) None) ∷ union false (select (one d ∷ []) None) ∷ [];
    order = key a false ∷ [];
    limit = Some 1;
  }),
)
    ∷ refused (codes "SELECT a ORDER BY a UNION SELECT b")
    ∷ refused (codes "SELECT a LIMIT 1 UNION SELECT b")
    ∷ refused (codes "SELECT a UNION b")
    ∷ refused (codes "SELECT a UNION")
    ∷ []

-- ---- one piece missing, or pieces swapped

unfoldable pub broken : List (Text × Answer)
broken =
    refused (codes "")
    ∷ refused (codes "SELECT")
    ∷ refused (codes "SELECT FROM t")
    ∷ refused (codes "SELECT * FROM")
    ∷ refused (codes "SELECT a, FROM t")
    ∷ refused (codes "SELECT a b c FROM t")
    ∷ refused (codes "SELECT * x FROM t")
    ∷ refused (codes "SELECT * FROM t x y")
    ∷ refused (codes "SELECT * FROM t WHERE")
    ∷ refused (codes "SELECT * FROM t GROUP a")
    ∷ refused (codes "SELECT * FROM t HAVING a GROUP BY b")
    ∷ refused (codes "SELECT * FROM t GROUP BY a WHERE b")
    ∷ refused (codes "SELECT * FROM t ORDER BY")
    ∷ refused (codes "SELECT * FROM t ORDER BY a DESC ASC")
    ∷ refused (codes "SELECT * FROM t LIMIT 1 ORDER BY a")
    ∷ refused (codes "SELECT * FROM t LIMIT a")
    ∷ refused (codes "SELECT * FROM t LIMIT 1 2")
    ∷ refused (codes "SELECT * FROM t LEFT JOIN u")
    ∷ refused (codes "SELECT * FROM t LEFT u ON a")
    ∷ refused (codes "SELECT * FROM t CROSS JOIN u ON a")
    ∷ refused (codes "SELECT * FROM t, u ON a")
    ∷ refused (codes "SELECT * FROM (SELECT a FROM t)")
    ∷ refused (codes "SELECT * FROM (SELECT a FROM t u")
    ∷ refused (codes "SELECT * FROM t LATERAL VIEW EXPLODE(a)")
    ∷ refused (codes "SELECT * FROM t LATERAL VIEW POSEXPLODE(a) x AS p")
    ∷ refused (codes "SELECT * FROM t LATERAL VIEW EXPLODE(a) x, u")
    ∷ refused (codes "SELECT * FROM t )")
    ∷ refused (codes "SELECT DISTINCT ALL a FROM t")
    ∷ []
