-- Parts of a text, one after another, as the grammar's rules put them together.
use Rattle.std.proofs.Common.{◌≡◌, ℕ, zero, suc, ◌≤◌, Option, Some, List, [], ◌∷◌, ◌++◌, arith, refl, sym, ap, ◌∙◌, subst}
use Rattle.hv_ast.specs.declared.token.Token.{Token}
use Rattle.hv_ast.specs.declared.token.Lexeme.{Lexeme}
use Rattle.hv_ast.specs.declared.token.Lexeme.TheVariants as lexeme
use Rattle.hv_ast.specs.declared.token.Symbol.TheVariants as symbol
use Rattle.hv_ast.specs.Tokens.{Text, after_token}
use Rattle.hv_grammar.specs.declared.kind.Kind.{Kind}
use Rattle.hv_grammar.specs.Kinds.{kind_of, symbol_kind}
use Rattle.hv_grammar.specs.Nesting.{Turn, stays, turn_of, turned, too_deep}
use Rattle.hv_grammar.specs.Rules.{Rule}
use Rattle.hv_grammar.specs.Rules as rule
use Rattle.hv_values_text.specs.Parts.{IsPart}
use Rattle.hv_values_text.proofs.Begun.{Begins}

-- ---- nothing, one thing, and one thing after another

pub part_give : {A : Type 0} {levels : ℕ} (a : A) (text : Text) → IsPart levels (rule.give a) a text text
part_give a text = record {
  place = λ at. at;
  written = λ at later e. (later, e, record { spelled = (refl, refl); nests = λ room fits. refl });
}

pub part_map : {A B : Type 0} {levels : ℕ} {p : Rule A} {a : A} {text rest : Text} (q : Rule B) (b : B)
    → IsPart levels p a text rest → ((from to : List Token) → p a from to → q b from to) → IsPart levels q b text rest
part_map q b part turns = record {
  place = part.place;
  written = λ at later e.
      let it = part.written at later e in
      (it.0, it.1, record { spelled = turns it.0 later it.2.spelled; nests = it.2.nests });
}

pub part_pair : {A B C : Type 0} {levels : ℕ} {p : Rule A} {q : Rule B} {a : A} {b : B} {text mid rest : Text} (r : Rule C) (c : C)
    → IsPart levels p a text mid → IsPart levels q b mid rest
    → ((from between to : List Token) → p a from between → q b between to → r c from to) → IsPart levels r c text rest
part_pair r c one other joins = record {
  place = λ at. other.place (one.place at);
  written = λ at later e.
      let last = other.written (one.place at) later e in
      let first = one.written at last.0 last.1 in (
        first.0,
        first.1,
        record {
          spelled = joins first.0 last.0 later first.2.spelled last.2.spelled;
          nests = λ room fits. first.2.nests room fits ∙ last.2.nests room fits;
        },
      );
}

-- a part's value by another name
pub part_same : {A : Type 0} {levels : ℕ} {p : Rule A} {a b : A} {text rest : Text} → IsPart levels p a text rest → b ≡ a → IsPart levels p b text rest
part_same {A = A} {levels = levels} {p = p} {text = text} {rest = rest} part same = subst (λ (z : A). IsPart levels p z text rest) (sym same) part

-- a part for which no level is needed
pub part_deep : {A : Type 0} {p : Rule A} {a : A} {text rest : Text} → IsPart 0 p a text rest → IsPart 1 p a text rest
part_deep part = record {
  place = part.place;
  written = λ at later e.
      let it = part.written at later e in
      (it.0, it.1, record { spelled = it.2.spelled; nests = λ room fits. it.2.nests room (omega arith) });
}

-- ---- a token

stays_put : (what : Lexeme) (at room : ℕ) (later : List Token) → turn_of (kind_of what) ≡ stays
    → too_deep room (record { what = what; at = at } ∷ later) ≡ too_deep room later
stays_put what at room later turn = ap (λ (t : Turn). turned t room at (λ left. too_deep left later)) turn

pub part_held : {A : Type 0} {levels : ℕ} {what : Lexeme} {text rest : Text} (value : Token → Option A) (a : A)
    → Begins what text rest → ((at : ℕ) → value (record { what = what; at = at }) ≡ Some a) → turn_of (kind_of what) ≡ stays
    → IsPart levels (rule.held value) a text rest
part_held {what = what} value a it is turn = record {
  place = it.to;
  written = λ at later e.
      let one : Token = record { what = what; at = it.place at } in (
        one ∷ later,
        it.next at ∙ ap (after_token one) e,
        record {
          spelled = (one, is (it.place at), refl);
          nests = λ room fits. stays_put what (it.place at) room later turn;
        },
      );
}

pub part_word : {levels : ℕ} {what : Lexeme} {text rest : Text} (kind : Kind) → Begins what text rest → kind_of what ≡ kind → turn_of kind ≡ stays
    → IsPart levels (rule.word kind) tt text rest
part_word {what = what} kind it is turn = record {
  place = it.to;
  written = λ at later e.
      let one : Token = record { what = what; at = it.place at } in (
        one ∷ later,
        it.next at ∙ ap (after_token one) e,
        record {
          spelled = (one, is, refl);
          nests = λ room fits. stays_put what (it.place at) room later (ap turn_of is ∙ turn);
        },
      );
}

-- ---- brackets

-- a level that is opened and closed
nests_closed : (opened closed room : ℕ) (mid later : List Token) → 1 ≤ room
    → ((left : ℕ) → too_deep left mid ≡ too_deep left (record { what = lexeme.Symbol symbol.Close; at = closed } ∷ later))
    → too_deep room (record { what = lexeme.Symbol symbol.Open; at = opened } ∷ mid) ≡ too_deep room later
unfolding kind_of symbol_kind
nests_closed opened closed zero mid later some inside = absurd (omega arith)
nests_closed opened closed (suc room) mid later some inside = inside room

bracketed : {A : Type 0} (p : Rule A) (a : A) (opened closed : ℕ) (mid later : List Token)
    → p a mid (record { what = lexeme.Symbol symbol.Close; at = closed } ∷ later)
    → rule.bracketed p a (record { what = lexeme.Symbol symbol.Open; at = opened } ∷ mid) later
unfolding kind_of symbol_kind
bracketed p a opened closed mid later s =
    let close_it : Token = record { what = lexeme.Symbol symbol.Close; at = closed } in
    (tt, mid, (record { what = lexeme.Symbol symbol.Open; at = opened }, refl, refl), (a, close_it ∷ later, s, (tt, later, (close_it, refl, refl), (refl, refl))))

pub part_bracketed : {A : Type 0} {p : Rule A} {a : A} {text inner last rest : Text}
    → Begins (lexeme.Symbol symbol.Open) text inner → IsPart 0 p a inner last → Begins (lexeme.Symbol symbol.Close) last rest
    → IsPart 1 (rule.bracketed p) a text rest
part_bracketed {p = p} {a = a} opens inside closes = record {
  place = λ at. closes.to (inside.place (opens.to at));
  written = λ at later e.
      let within : ℕ = opens.to at in
      let closed : ℕ = closes.place (inside.place within) in
      let open_it : Token = record { what = lexeme.Symbol symbol.Open; at = opens.place at } in
      let close_it : Token = record { what = lexeme.Symbol symbol.Close; at = closed } in
      let it = inside.written within (close_it ∷ later) (closes.next (inside.place within) ∙ ap (after_token close_it) e) in (
        open_it ∷ it.0,
        opens.next at ∙ ap (after_token open_it) it.1,
        record {
          spelled = bracketed p a (opens.place at) closed it.0 later it.2.spelled;
          nests = λ room fits. nests_closed (opens.place at) closed room it.0 later fits (λ left. it.2.nests left (omega arith));
        },
      );
}

-- ---- rows

-- an item after a mark
abbrev pub Marked : {A : Type 0} → Kind → Rule A → Rule A
Marked mark p = λ b from to. (u : Unit {0}) × (between : List Token) × rule.word mark u from between × p b between to

many_more : {A : Type 0} (r : Rule A) (all : List A) (one : A) (from mid to : List Token) → rule.many r all from mid → r one mid to
    → rule.many r (all ++ one ∷ []) from to
many_more r [] one from mid to rows item = (to, subst (λ (t : List Token). r one t to) (sym rows) item, refl)
many_more r (first ∷ all) one from mid to rows item = (rows.0, rows.1, many_more r all one rows.0 mid to rows.2 item)

separated_more : {A : Type 0} (mark : Kind) (p : Rule A) (all : List A) (one : A) (from mid next to : List Token)
    → rule.separated mark p all from mid → rule.word mark tt mid next → p one next to → rule.separated mark p (all ++ one ∷ []) from to
separated_more {A = A} mark p all one from mid next to rows comma item =
    let rest = rows.3 in
    let others : rule.many (Marked mark p) rest.0 rows.1 mid = subst (λ (t : List Token). rule.many (Marked mark p) rest.0 rows.1 t) rest.3.1 rest.2 in
    (rows.0, rows.1, rows.2, (rest.0 ++ one ∷ [], to, many_more (Marked mark p) rest.0 one rows.1 mid to others (tt, next, comma, item), (ap (λ (l : List A). l ++ one ∷ []) rest.3.0, refl)))

pub part_one : {A : Type 0} {levels : ℕ} {p : Rule A} {a : A} {all : List A} {text rest : Text} (mark : Kind)
    → IsPart levels p a text rest → all ≡ a ∷ [] → IsPart levels (rule.separated mark p) all text rest
part_one {A = A} {levels = levels} {p = p} {a = a} {text = text} {rest = rest} mark part same =
    subst (λ (l : List A). IsPart levels (rule.separated mark p) l text rest) (sym same)
    (part_map (rule.separated mark p) (a ∷ []) part (λ from to s. (a, to, s, ([], to, refl, (refl, refl)))))

pub part_more : {A : Type 0} {levels : ℕ} {p : Rule A} {all longer : List A} {one : A} {text mid next rest : Text} (mark : Kind)
    → IsPart levels (rule.separated mark p) all text mid → IsPart levels (rule.word mark) tt mid next → IsPart levels p one next rest
    → longer ≡ all ++ one ∷ [] → IsPart levels (rule.separated mark p) longer text rest
part_more {A = A} {levels = levels} {p = p} {all = all} {one = one} {text = text} {rest = rest} mark rows comma item same =
    subst (λ (l : List A). IsPart levels (rule.separated mark p) l text rest) (sym same) (record {
      place = λ at. item.place (comma.place (rows.place at));
      written = λ at later e.
          let third = item.written (comma.place (rows.place at)) later e in
          let second = comma.written (rows.place at) third.0 third.1 in
          let first = rows.written at second.0 second.1 in (
            first.0,
            first.1,
            record {
              spelled = separated_more mark p all one first.0 second.0 third.0 later first.2.spelled second.2.spelled third.2.spelled;
              nests = λ room fits. first.2.nests room fits ∙ second.2.nests room fits ∙ third.2.nests room fits;
            },
          );
    })
