-- The parts that are known here: marks and words, names, literals, rows, and what an INSERT has before them.
use Rattle.std.proofs.Common.{◌≡◌, inl, inr, ℕ, zero, ◌^◌, Bool, true, false, cond, nat_lt, Option, Some, None, List, [], ◌∷◌, ◌++◌, pos, map, arith, refl, sym, ap, ◌∙◌, subst, codes}
use Rattle.std.specs.Char.{to_ascii_lowercase}
use Rattle.std.specs.Str.Parse.{digits_value}
use Rattle.hv_ast.specs.declared.token.Token.{Token}
use Rattle.hv_ast.specs.declared.token.Lexeme.{Lexeme}
use Rattle.hv_ast.specs.declared.token.Lexeme.TheVariants as lexeme
use Rattle.hv_ast.specs.declared.token.Symbol.TheVariants as symbol
use Rattle.hv_ast.specs.declared.expr.Literal.{Literal}
use Rattle.hv_ast.specs.declared.expr.Literal.TheVariants as l
use Rattle.hv_ast.specs.declared.expr.Unary.TheVariants as unary
use Rattle.hv_ast.specs.declared.expr.Expr.{Expr}
use Rattle.hv_ast.specs.declared.expr.Expr.TheVariants as e
use Rattle.hv_ast.specs.declared.change.PartitionItem.{PartitionItem}
use Rattle.hv_ast.specs.declared.change.Rows.TheVariants as rows_from
use Rattle.hv_ast.specs.declared.statement.Stmt.TheVariants as stmt
use Rattle.hv_ast.specs.Tokens.{Text, number_of}
use Rattle.hv_grammar.specs.declared.kind.Kind.{Kind}
use Rattle.hv_grammar.specs.declared.kind.Kind.TheVariants as k
use Rattle.hv_grammar.specs.Kinds.{kind_of, symbol_kind, word_kind, words, reserved, placed}
use Rattle.hv_grammar.specs.Choices as c
use Rattle.hv_grammar.specs.Nesting.{stays, turn_of, too_deep}
use Rattle.hv_grammar.specs.Rules.{Rule}
use Rattle.hv_grammar.specs.Rules as rule
use Rattle.hv_grammar.specs.Grammar as g
use Rattle.hv_grammar.specs.QueryGrammar as q
use Rattle.hv_grammar.specs.StatementGrammar as st
use Rattle.hv_values_text.specs.Fronts.{IsMark, IsSingle, IsWord, IsName, literal_of, digits_of, IsNumber, IsQuoted}
use Rattle.hv_values_text.specs.Parts.{IsPart, flat, flat_query}
use Rattle.hv_values_text.proofs.Begun.{Begins, mark_begins, open_front, close_front, comma_front, equal_front, minus_front, word_begins, keyword_begins, number_begins, quoted_begins}
use Rattle.hv_values_text.proofs.Joined.{part_give, part_same, part_map, part_pair, part_held, part_word, part_bracketed, part_one, part_more}
use Rattle.hv_values_text.proofs.Lone.{primary_lone, negative_lone}

-- ---- marks

pub opens : {text rest : Text} → IsMark 40 text rest → Begins (lexeme.Symbol symbol.Open) text rest
opens {text = text} {rest = rest} is = mark_begins 40 symbol.Open text rest (omega arith) is (λ at. open_front at rest)

pub closes : {text rest : Text} → IsMark 41 text rest → Begins (lexeme.Symbol symbol.Close) text rest
closes {text = text} {rest = rest} is = mark_begins 41 symbol.Close text rest (omega arith) is (λ at. close_front at rest)

pub comma : {levels : ℕ} {text rest : Text} → IsMark 44 text rest → IsPart levels (rule.word k.Comma) tt text rest
unfolding kind_of symbol_kind
comma {text = text} {rest = rest} is = part_word k.Comma (mark_begins 44 symbol.Comma text rest (omega arith) is (λ at. comma_front at rest)) refl refl

equals : {levels : ℕ} {text rest : Text} → IsSingle 61 text rest → IsPart levels (rule.word k.Equal) tt text rest
unfolding kind_of symbol_kind
equals {text = text} {rest = rest} is = part_word k.Equal (mark_begins 61 symbol.Equal text rest (omega arith) is.0 (λ at. equal_front at rest is.1)) refl refl

minus : {levels : ℕ} {text rest : Text} → IsSingle 45 text rest → IsPart levels (rule.one_of c.sign) unary.Minus text rest
unfolding kind_of symbol_kind
minus {text = text} {rest = rest} is =
    part_held (λ token. c.sign (kind_of token.what)) unary.Minus
    (mark_begins 45 symbol.Minus text rest (omega arith) is.0 (λ at. minus_front at rest is.1)) (λ at. refl) refl

-- ---- words

insert_kind : word_kind (codes "insert") ≡ k.Insert
unfolding words reserved placed
insert_kind = refl

into_kind : word_kind (codes "into") ≡ k.Into
unfolding words reserved placed
into_kind = refl

table_kind : word_kind (codes "table") ≡ k.Table
unfolding words reserved placed
table_kind = refl

partition_kind : word_kind (codes "partition") ≡ k.Partition
unfolding words reserved placed
partition_kind = refl

values_kind : word_kind (codes "values") ≡ k.Values
unfolding words reserved placed
values_kind = refl

null_kind : word_kind (codes "null") ≡ k.Null
unfolding words reserved placed
null_kind = refl

true_kind : word_kind (codes "true") ≡ k.True
unfolding words reserved placed
true_kind = refl

false_kind : word_kind (codes "false") ≡ k.False
unfolding words reserved placed
false_kind = refl

date_kind : word_kind (codes "date") ≡ k.Date
unfolding words reserved placed
date_kind = refl

-- a word that is a keyword of this kind, and that is written in lower case
keyword : {levels : ℕ} {text rest : Text} (kind : Kind) (word : Text) → map to_ascii_lowercase word ≡ word → word_kind word ≡ kind → turn_of kind ≡ stays
    → IsWord word text rest → IsPart levels (rule.word kind) tt text rest
unfolding kind_of
keyword {text = text} {rest = rest} kind word lower is turn seen =
    part_word kind (keyword_begins word text rest seen) (ap word_kind lower ∙ is) turn

pub name_part : {levels : ℕ} {name text rest : Text} → IsName name text rest → IsPart levels g.name name text rest
unfolding kind_of
name_part {name = name} {text = text} {rest = rest} is =
    part_held (g.word_by c.is_name) name
    (subst (λ (spelled : Text). Begins (lexeme.Word spelled) text rest) (sym is.1) (word_begins text rest is.0 is.3))
    (λ at. ap (λ (kind : Kind). cond (c.is_name kind) (Some name) None) is.2) (ap turn_of is.2)

-- ---- literals

-- a primary alone is an expression
flat_part : {levels : ℕ} {text rest : Text} (tree : Expr) → IsPart levels (g.primary (g.expr zero)) tree text rest → IsPart levels flat tree text rest
unfolding g.expr
flat_part tree part = part_map flat tree part (λ from to s. primary_lone (g.expr zero) tree from to s)

-- a number or a text in quotes
literal_primary : {levels : ℕ} {text rest : Text} {what : Lexeme} (p : Rule Expr) (value : Literal) → Begins what text rest → c.literal_in what ≡ Some value
    → turn_of (kind_of what) ≡ stays → IsPart levels (g.primary p) (e.Literal value) text rest
unfolding g.primary
literal_primary p value begins holds turn =
    part_map (g.primary p) (e.Literal value) (part_held (λ token. c.literal_in token.what) value begins (λ at. holds) turn)
    (λ from to s. inl (value, to, s, (refl, refl)))

by_size : (small : Bool) (value : ℕ) → c.literal_in (cond small (lexeme.Int (pos value)) (lexeme.Big (pos value))) ≡ Some (cond small (l.Int (pos value)) (l.Big (pos value)))
by_size true value = refl
by_size false value = refl

kind_by_size : (small : Bool) (value : ℕ) → kind_of (cond small (lexeme.Int (pos value)) (lexeme.Big (pos value))) ≡ k.Number
unfolding kind_of
kind_by_size true value = refl
kind_by_size false value = refl

number_held : (value : ℕ) → c.literal_in (number_of value) ≡ Some (literal_of value)
number_held value = by_size (nat_lt value (2 ^ 31)) value

number_stays : (value : ℕ) → turn_of (kind_of (number_of value)) ≡ stays
number_stays value = ap turn_of (kind_by_size (nat_lt value (2 ^ 31)) value)

number_primary : {levels : ℕ} {literal : Literal} {text rest : Text} (p : Rule Expr) → IsNumber literal text rest
    → IsPart levels (g.primary p) (e.Literal literal) text rest
number_primary {literal = literal} {text = text} {rest = rest} p is =
    literal_primary p literal (number_begins literal text rest is)
    (number_held (digits_value 10 (digits_of text)) ∙ ap (λ (found : Literal). Some found) (sym is.2)) (number_stays (digits_value 10 (digits_of text)))

pub number_part : {levels : ℕ} {literal : Literal} {text rest : Text} → IsNumber literal text rest → IsPart levels flat (e.Literal literal) text rest
number_part {literal = literal} is = flat_part (e.Literal literal) (number_primary (g.expr zero) is)

negated : {levels : ℕ} {literal : Literal} {text mid rest : Text} → IsSingle 45 text mid → IsNumber literal mid rest
    → IsPart levels flat (e.Unary unary.Minus (e.Literal literal)) text rest
unfolding g.expr
negated {literal = literal} sign is =
    part_pair flat (e.Unary unary.Minus (e.Literal literal)) (minus sign) (number_primary (g.expr zero) is)
    (λ from between to first last. negative_lone (g.expr zero) (e.Literal literal) from between to first last)

pub negative_part : {levels : ℕ} {literal : Literal} {operand : Expr} {text mid rest : Text} → IsSingle 45 text mid → IsNumber literal mid rest
    → operand ≡ e.Literal literal → IsPart levels flat (e.Unary unary.Minus operand) text rest
negative_part sign is same = part_same (negated sign is) (ap (λ (operand : Expr). e.Unary unary.Minus operand) same)

pub quoted_part : {levels : ℕ} {content text rest : Text} → IsQuoted content text rest → IsPart levels flat (e.Literal (l.Str content)) text rest
unfolding kind_of
quoted_part {content = content} {text = text} {rest = rest} is =
    flat_part (e.Literal (l.Str content)) (literal_primary (g.expr zero) (l.Str content) (quoted_begins content text rest is) refl refl)

pub date_part : {levels : ℕ} {content text mid rest : Text} → IsWord (codes "date") text mid → IsQuoted content mid rest
    → IsPart levels flat (e.Literal (l.Date content)) text rest
unfolding g.primary kind_of
date_part {content = content} {mid = mid} {rest = rest} seen is =
    flat_part (e.Literal (l.Date content))
    (part_pair (g.primary (g.expr zero)) (e.Literal (l.Date content)) (keyword k.Date (codes "date") refl date_kind refl seen)
    (part_held (λ token. c.string_in token.what) content (quoted_begins content mid rest is) (λ at. refl) refl)
    (λ from between to first last. inr (inl (tt, between, first, (content, to, last, (refl, refl))))))

pub true_part : {levels : ℕ} {text rest : Text} → IsWord (codes "true") text rest → IsPart levels flat (e.Literal (l.Bool true)) text rest
unfolding g.primary
true_part seen =
    flat_part (e.Literal (l.Bool true))
    (part_map (g.primary (g.expr zero)) (e.Literal (l.Bool true)) (keyword k.True (codes "true") refl true_kind refl seen)
    (λ from to s. inr (inr (inl (tt, to, s, (refl, refl))))))

pub false_part : {levels : ℕ} {text rest : Text} → IsWord (codes "false") text rest → IsPart levels flat (e.Literal (l.Bool false)) text rest
unfolding g.primary
false_part seen =
    flat_part (e.Literal (l.Bool false))
    (part_map (g.primary (g.expr zero)) (e.Literal (l.Bool false)) (keyword k.False (codes "false") refl false_kind refl seen)
    (λ from to s. inr (inr (inr (inl (tt, to, s, (refl, refl)))))))

pub null_part : {levels : ℕ} {text rest : Text} → IsWord (codes "null") text rest → IsPart levels flat (e.Literal l.Null) text rest
unfolding g.primary
null_part seen =
    flat_part (e.Literal l.Null)
    (part_map (g.primary (g.expr zero)) (e.Literal l.Null) (keyword k.Null (codes "null") refl null_kind refl seen)
    (λ from to s. inr (inr (inr (inr (inl (tt, to, s, (refl, refl))))))))

-- ---- rows and columns

-- `expr {, expr}` as the rule of its name
pub list_first : {levels : ℕ} {tree : Expr} {all : List Expr} {text rest : Text} → IsPart levels flat tree text rest → all ≡ tree ∷ [] → IsPart levels (g.list flat) all text rest
unfolding g.list
list_first part same = part_one k.Comma part same

pub list_more : {levels : ℕ} {tree : Expr} {all longer : List Expr} {text mid next rest : Text} → IsPart levels (g.list flat) all text mid → IsMark 44 mid next
    → IsPart levels flat tree next rest → longer ≡ all ++ tree ∷ [] → IsPart levels (g.list flat) longer text rest
unfolding g.list
list_more rows mark part same = part_more k.Comma rows (comma mark) part same

pub names_first : {levels : ℕ} {name : Text} {all : List Text} {text rest : Text} → IsName name text rest → all ≡ name ∷ [] → IsPart levels st.names all text rest
unfolding st.names
names_first is same = part_one k.Comma (name_part is) same

pub names_more : {levels : ℕ} {name : Text} {all longer : List Text} {text mid next rest : Text} → IsPart levels st.names all text mid → IsMark 44 mid next
    → IsName name next rest → longer ≡ all ++ name ∷ [] → IsPart levels st.names longer text rest
unfolding st.names
names_more rows mark is same = part_more k.Comma rows (comma mark) (name_part is) same

-- rows of what has a rule of its own
pub rows_first : {A : Type 0} {levels : ℕ} {p : Rule A} {one : A} {all : List A} {text rest : Text} → IsPart levels p one text rest → all ≡ one ∷ []
    → IsPart levels (rule.separated k.Comma p) all text rest
rows_first part same = part_one k.Comma part same

pub rows_more : {A : Type 0} {levels : ℕ} {p : Rule A} {one : A} {all longer : List A} {text mid next rest : Text} → IsPart levels (rule.separated k.Comma p) all text mid
    → IsMark 44 mid next → IsPart levels p one next rest → longer ≡ all ++ one ∷ [] → IsPart levels (rule.separated k.Comma p) longer text rest
rows_more rows mark part same = part_more k.Comma rows (comma mark) part same

pub row_part : {values : List Expr} {text inner last rest : Text} → IsMark 40 text inner → IsPart 0 (g.list flat) values inner last → IsMark 41 last rest
    → IsPart 1 (st.row flat flat_query) values text rest
unfolding st.row
row_part first values last = part_bracketed (opens first) values (closes last)

pub columns_part : {names : List Text} {text inner last rest : Text} → IsMark 40 text inner → IsPart 0 st.names names inner last → IsMark 41 last rest
    → IsPart 1 (st.column_names flat flat_query) names text rest
unfolding st.column_names
columns_part {names = names} first inside last =
    part_map (st.column_names flat flat_query) names (part_bracketed (opens first) inside (closes last)) (λ from to s. inl s)

pub no_columns : (text : Text) → IsPart 1 (st.column_names flat flat_query) [] text text
unfolding st.column_names
no_columns text = part_map (st.column_names flat flat_query) [] (part_give {A = List Text} [] text) (λ from to s. inr s)

-- ---- partitions

pub no_value : (text : Text) → IsPart 0 (rule.perhaps k.Equal flat) None text text
no_value text = part_map (rule.perhaps k.Equal flat) None (part_give {A = Option Expr} None text) (λ from to s. inr s)

pub some_value : {tree : Expr} {text mid rest : Text} → IsSingle 61 text mid → IsPart 0 flat tree mid rest → IsPart 0 (rule.perhaps k.Equal flat) (Some tree) text rest
some_value {tree = tree} mark part =
    part_pair (rule.perhaps k.Equal flat) (Some tree) (equals mark) part (λ from between to first last. inl (tt, between, first, (tree, to, last, (refl, refl))))

pub item_part : {name : Text} {value : Option Expr} {text mid rest : Text} → IsName name text mid → IsPart 0 (rule.perhaps k.Equal flat) value mid rest
    → IsPart 0 (st.partition_item flat flat_query) (record { name = name; value = value }) text rest
unfolding st.partition_item
item_part {name = name} {value = value} is part =
    part_pair (st.partition_item flat flat_query) (record { name = name; value = value }) (name_part is) part
    (λ from between to first last. (name, between, first, (value, to, last, (refl, refl))))

pub no_partition : (text : Text) → IsPart 1 (st.partition flat flat_query) [] text text
unfolding st.partition
no_partition text = part_map (st.partition flat flat_query) [] (part_give {A = List PartitionItem} [] text) (λ from to s. inr s)

pub partition_part : {items : List PartitionItem} {text mid inner last rest : Text} → IsWord (codes "partition") text mid → IsMark 40 mid inner
    → IsPart 0 (rule.separated k.Comma (st.partition_item flat flat_query)) items inner last → IsMark 41 last rest
    → IsPart 1 (st.partition flat flat_query) items text rest
unfolding st.partition
partition_part {items = items} seen first inside last =
    part_pair (st.partition flat flat_query) items (keyword k.Partition (codes "partition") refl partition_kind refl seen)
    (part_bracketed (opens first) inside (closes last)) (λ from between to word s. inl (tt, between, word, s))

-- ---- INSERT

pub into_part : {text rest : Text} → IsWord (codes "into") text rest → IsPart 1 (st.overwrite flat flat_query) false text rest
unfolding st.overwrite
into_part seen =
    part_map (st.overwrite flat flat_query) false (keyword k.Into (codes "into") refl into_kind refl seen)
    (λ from to s. inr (tt, to, s, (false, to, inr (refl, refl), (refl, refl))))

pub into_table_part : {text mid rest : Text} → IsWord (codes "into") text mid → IsWord (codes "table") mid rest → IsPart 1 (st.overwrite flat flat_query) false text rest
unfolding st.overwrite
into_table_part seen table =
    part_pair (st.overwrite flat flat_query) false (keyword k.Into (codes "into") refl into_kind refl seen)
    (keyword k.Table (codes "table") refl table_kind refl table)
    (λ from between to first last. inr (tt, between, first, (true, to, inl (tt, to, last, (refl, refl)), (refl, refl))))

inserted_part : {rows : List (List Expr)} {text mid rest : Text} → IsWord (codes "values") text mid
    → IsPart 1 (rule.separated k.Comma (st.row flat flat_query)) rows mid rest → IsPart 1 (st.inserted flat flat_query) (rows_from.Values rows) text rest
unfolding st.inserted
inserted_part {rows = rows} seen part =
    part_pair (st.inserted flat flat_query) (rows_from.Values rows) (keyword k.Values (codes "values") refl values_kind refl seen) part
    (λ from between to first last. inl (tt, between, first, (rows, to, last, (refl, refl))))

table_part : {table text rest : Text} → IsName table text rest → IsPart 1 q.table_name table text rest
unfolding q.table_name
table_part {table = table} is = part_map q.table_name table (name_part is) (λ from to s. inr s)

linked : (room : ℕ) (one two three : List Token) → too_deep room one ≡ too_deep room two → too_deep room two ≡ too_deep room three
    → too_deep room one ≡ too_deep room three
linked room one two three first second = first ∙ second

pub insert_part : {table : Text} {items : List PartitionItem} {names : List Text} {rows : List (List Expr)} {text into name partition columns values first rest : Text}
    → IsWord (codes "insert") text into → IsPart 1 (st.overwrite flat flat_query) false into name → IsName table name partition
    → IsPart 1 (st.partition flat flat_query) items partition columns → IsPart 1 (st.column_names flat flat_query) names columns values
    → IsWord (codes "values") values first → IsPart 1 (rule.separated k.Comma (st.row flat flat_query)) rows first rest
    → IsPart 1 (st.statement_over flat flat_query)
    (stmt.Insert (record { overwrite = false; table = table; partition = items; columns = names; rows = rows_from.Values rows })) text rest
unfolding st.insert st.statement_over
insert_part {table = table} {items = items} {names = names} {rows = rows} {text = whole} {name = named} {values = valued} seen into name partition columns values found =
    let one = keyword {levels = 1} {text = whole} k.Insert (codes "insert") refl insert_kind refl seen in
    let three = table_part {text = named} name in
    let six = inserted_part {text = valued} values found in
    record {
      place = λ at. six.place (columns.place (partition.place (three.place (into.place (one.place at)))));
      written = λ at later e.
          let at_into : ℕ = one.place at in
          let at_name : ℕ = into.place at_into in
          let at_partition : ℕ = three.place at_name in
          let at_columns : ℕ = partition.place at_partition in
          let at_values : ℕ = columns.place at_columns in
          let sixth = six.written at_values later e in
          let fifth = columns.written at_columns sixth.0 sixth.1 in
          let fourth = partition.written at_partition fifth.0 fifth.1 in
          let third = three.written at_name fourth.0 fourth.1 in
          let second = into.written at_into third.0 third.1 in
          let first = one.written at second.0 second.1 in (
            first.0,
            first.1,
            record {
              spelled = inr (inl (
                tt,
                second.0,
                first.2.spelled,
                (
                  false,
                  third.0,
                  second.2.spelled,
                  (
                    table,
                    fourth.0,
                    third.2.spelled,
                    (items, fifth.0, fourth.2.spelled, (names, sixth.0, fifth.2.spelled, (rows_from.Values rows, later, sixth.2.spelled, (refl, refl)))),
                  ),
                ),
              ));
              nests = λ room fits.
                  linked room first.0 second.0 later (first.2.nests room fits)
                  (linked room second.0 third.0 later (second.2.nests room fits)
                  (linked room third.0 fourth.0 later (third.2.nests room fits)
                  (linked room fourth.0 fifth.0 later (fourth.2.nests room fits)
                  (linked room fifth.0 sixth.0 later (fifth.2.nests room fits) (sixth.2.nests room fits)))));
            },
          );
    }
