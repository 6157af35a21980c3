-- A word is a name exactly where it isn't reserved.
use Rattle.std.proofs.Common.{◌≡◌, Bool, true, false, not, ◌||◌, cond, List, [], ◌∷◌, ◌++◌, refl, ap}
use Rattle.std.specs.List.{list_any, list_all}
use Rattle.std.specs.Str.{bytes_eq}
use Rattle.std.proofs.lemmas.Bool.{and_parts}
use Rattle.hv_ast.specs.Tokens.{Text}
use Rattle.hv_grammar.specs.declared.kind.Kind.{Kind}
use Rattle.hv_grammar.specs.declared.kind.Kind.TheVariants as k
use Rattle.hv_grammar.specs.Kinds.{look_up, reserved, placed, words, word_kind, is_reserved}
use Rattle.hv_grammar.specs.Choices.{is_name}
use Rattle.hv_parse_expr.proofs.Found.{look_up_kind}

-- where the first rows are of no names, and the rows behind them and the other kind of names
no_names : (rows behind : List (Text × Kind)) (other : Kind) (word : Text)
    → list_all (λ row. not (is_name row.1)) rows ≡ true → list_all (λ row. is_name row.1) behind ≡ true → is_name other ≡ true
    → not (is_name (look_up (rows ++ behind) other word)) ≡ list_any (λ row. bytes_eq row.0 word) rows
no_names [] behind other word none all last = ap not (look_up_kind is_name behind other word all last)
no_names (row ∷ rows) behind other word none all last =
    let parts = and_parts (not (is_name row.1)) (list_all (λ row. not (is_name row.1)) rows) none in
    by_found (no_names rows behind other word parts.1 all last) parts.0 (bytes_eq row.0 word)
  where
    by_found : not (is_name (look_up (rows ++ behind) other word)) ≡ list_any (λ row. bytes_eq row.0 word) rows → not (is_name row.1) ≡ true → (found : Bool)
        → not (is_name (cond found row.1 (look_up (rows ++ behind) other word))) ≡ (found || list_any (λ row. bytes_eq row.0 word) rows)
    by_found others is true = is
    by_found others is false = others

pub reserved_are_no_names : (word : Text) → not (is_name (word_kind word)) ≡ is_reserved word
unfolding words reserved placed
reserved_are_no_names word = no_names reserved placed k.Name word refl refl refl
