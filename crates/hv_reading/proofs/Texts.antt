-- A text's tree and its fault: of a SET text by its own rule, of another by its tokens.
use Rattle.std.proofs.Common.{◌≡◌, inl, inr, true, false, Option, Some, None, Ok, Err, List, refl, sym, ap, ◌∙◌}
use Rattle.std.specs.Option.{is_some, option_map, option_and_then}
use Rattle.hv_ast.specs.declared.token.Token.{Token}
use Rattle.hv_ast.specs.declared.statement.Stmt.{Stmt}
use Rattle.hv_ast.specs.declared.statement.Stmt.TheVariants as s
use Rattle.hv_ast.specs.declared.statement.Setting.{Setting}
use Rattle.hv_built.specs.Built.{IsBuilt}
use Rattle.hv_ast.specs.Tokens.{Text, Tokens, tokens_of}
use Rattle.hv_grammar.specs.Settings.{behind_set, setting_in}
use Rattle.hv_grammar.specs.StatementReading.{statement_of}
use Rattle.hv_grammar.specs.Texts as texts
use Rattle.hv_grammar.specs.Texts.{tree_of, tree_by, tree_in, fault_of, fault_by, fault_in, setting_fault}
use Rattle.hv_built.specs.Running.{IsRefusedFor}
use Rattle.hv_parse_expr.specs.declared.fault.ParseFault.{ParseFault}
use Rattle.hv_parse_expr.specs.declared.fault.ParseFault.TheVariants as parsing
use Rattle.hv_parse_stmt.specs.Told as parsed
use Rattle.hv_parse_stmt.specs.Told.{TellsSetting}
use Rattle.hv_lex.specs.Lexed as lexed
use Rattle.hv_lex.specs.declared.fault.LexFault.{LexFault}
use Rattle.hv_lex.specs.declared.fault.LexFault.TheVariants as lexing
use Rattle.hv_reading.specs.declared.fault.TextFault.{TextFault}
use Rattle.hv_reading.specs.declared.fault.TextFault.TheVariants.{BadCharacter, OpenString, WideNumber, Syntax, Nesting, NoMemory}
use Rattle.hv_reading.specs.Faults.{IsTold, IsFaultOf, IsRefusalOf, of_lexing, of_parsing}

told-more : (P Q : texts.TextFault → Type 0) (fault : TextFault) → ((f : texts.TextFault) → P f → Q f) → IsTold P fault → IsTold Q fault
told-more P Q (BadCharacter at) more told = more _ told
told-more P Q (OpenString at) more told = more _ told
told-more P Q (WideNumber at) more told = more _ told
told-more P Q Syntax more told = more _ told
told-more P Q (Nesting at) more told = more _ told
told-more P Q NoMemory more told = tt

-- ---- SET texts

setting-read : (setting : Option Setting) (tree : Stmt) → TellsSetting setting (Ok tree) → option_map s.Set setting ≡ Some tree
setting-read (Some setting) tree told = ap Some (sym told)
setting-read None tree told = absurd told

setting-refused : (setting : Option Setting) (fault : ParseFault) → TellsSetting setting (Err fault)
    → IsTold (λ f. setting_fault setting ≡ Some f) (of_parsing fault)
setting-refused (Some setting) parsing.NoMemory told = tt
setting-refused (Some setting) parsing.Syntax told = absurd told
setting-refused (Some setting) (parsing.Nesting at) told = absurd told
setting-refused None parsing.NoMemory told = tt
setting-refused None parsing.Syntax told = refl
setting-refused None (parsing.Nesting at) told = absurd told

set-read : (set : Option Text) (tokens : Tokens) (tree : Stmt) → is_some set ≡ true
    → TellsSetting (option_and_then setting_in set) (Ok tree) → tree_by set tokens ≡ Some tree
set-read (Some rest) tokens tree some told = setting-read (setting_in rest) tree told
set-read None tokens tree some told = cc

set-refused : (set : Option Text) (tokens : Tokens) (fault : ParseFault) → is_some set ≡ true
    → TellsSetting (option_and_then setting_in set) (Err fault) → IsTold (λ f. fault_by set tokens ≡ Some f) (of_parsing fault)
set-refused (Some rest) tokens fault some told = setting-refused (setting_in rest) fault told
set-refused None tokens fault some told = absurd (cc)

pub tree-set : (text : Text) (tree : Stmt) → is_some (behind_set text) ≡ true
    → TellsSetting (option_and_then setting_in (behind_set text)) (Ok tree) → tree_of text ≡ Some tree
unfolding tree_of
tree-set text tree some told = set-read (behind_set text) (tokens_of text) tree some told

pub fault-set : (text : Text) (fault : ParseFault) → is_some (behind_set text) ≡ true
    → TellsSetting (option_and_then setting_in (behind_set text)) (Err fault) → IsFaultOf (of_parsing fault) text
unfolding fault_of
fault-set text fault some told = set-refused (behind_set text) (tokens_of text) fault some told

-- ---- the others

none-of : {A : Type 0} (o : Option A) → is_some o ≡ false → o ≡ None
none-of None e = refl
none-of (Some x) e = cc

tokens-refused : (tokens : List Token) (fault : ParseFault) → parsed.Tells (statement_of tokens) (Err fault)
    → IsTold (λ f. fault_by None (Ok tokens) ≡ Some f) (of_parsing fault)
tokens-refused tokens (parsing.Nesting at) told = ap fault_in told
tokens-refused tokens parsing.Syntax told = ap fault_in told
tokens-refused tokens parsing.NoMemory told = tt

lexing-refused : (tokens : Tokens) (fault : LexFault) → lexed.Tells fault tokens
    → IsTold (λ f. fault_by None tokens ≡ Some f) (of_lexing fault)
lexing-refused tokens (lexing.BadCharacter at) told = ap (fault_by None) told
lexing-refused tokens (lexing.OpenString at) told = ap (fault_by None) told
lexing-refused tokens (lexing.WideNumber at) told = ap (fault_by None) told
lexing-refused tokens lexing.NoMemory told = tt

-- the tree and the fault of a text that is no SET text are those of its tokens
tree-by : (text : Text) (tokens : Tokens) → is_some (behind_set text) ≡ false → tokens_of text ≡ tokens → tree_of text ≡ tree_by None tokens
unfolding tree_of
tree-by text tokens none lexed = ap (λ o. tree_by o (tokens_of text)) (none-of (behind_set text) none) ∙ ap (tree_by None) lexed

fault-by : (text : Text) (tokens : Tokens) → is_some (behind_set text) ≡ false → tokens_of text ≡ tokens → fault_of text ≡ fault_by None tokens
unfolding fault_of
fault-by text tokens none lexed = ap (λ o. fault_by o (tokens_of text)) (none-of (behind_set text) none) ∙ ap (fault_by None) lexed

pub tree-tokens : (text : Text) (tokens : List Token) (tree : Stmt) → is_some (behind_set text) ≡ false → tokens_of text ≡ Ok tokens
    → parsed.Tells (statement_of tokens) (Ok tree) → tree_of text ≡ Some tree
tree-tokens text tokens tree none lexed told = tree-by text (Ok tokens) none lexed ∙ ap tree_in told

pub fault-tokens : (text : Text) (tokens : List Token) (fault : ParseFault) → is_some (behind_set text) ≡ false → tokens_of text ≡ Ok tokens
    → parsed.Tells (statement_of tokens) (Err fault) → IsFaultOf (of_parsing fault) text
fault-tokens text tokens fault none lexed told =
    told-more (λ f. fault_by None (Ok tokens) ≡ Some f) (λ f. fault_of text ≡ Some f) (of_parsing fault)
    (λ f h. fault-by text (Ok tokens) none lexed ∙ h) (tokens-refused tokens fault told)

pub fault-lexing : (text : Text) (fault : LexFault) → is_some (behind_set text) ≡ false → lexed.Tells fault (tokens_of text)
    → IsFaultOf (of_lexing fault) text
fault-lexing text fault none told =
    told-more (λ f. fault_by None (tokens_of text) ≡ Some f) (λ f. fault_of text ≡ Some f) (of_lexing fault)
    (λ f h. fault-by text (tokens_of text) none refl ∙ h) (lexing-refused (tokens_of text) fault told)

-- ---- what runs

pub refused : (text : Text) (fault : TextFault) → IsFaultOf fault text → IsRefusalOf fault text
refused text fault told = told-more (λ f. fault_of text ≡ Some f) (IsRefusedFor text) fault (λ f h. inl h) told

pub unbuilt : (text : Text) (tree : Stmt) → tree_of text ≡ Some tree → (IsBuilt tree → ⊥) → IsRefusalOf Syntax text
unbuilt text tree is not_built = inr (refl, record { tree = tree; read = is; unbuilt = not_built })
