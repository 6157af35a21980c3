use Rattle.std.proofs.Common.{refl, ◌∙◌}
use Rattle.hv_script.specs.Actions.{actions_of}
use Rattle.hv_program.proofs.Fine.{fine-actions}
use Rattle.hv_program.proofs.Whole.{Headline-words, Headline-unread, Headline-memory, Headline-refused, Headline-served}
use Rattle.hv_program.proofs.Refusing.{refuses-words, refuses-read, refuses-served, refuses-script, refuses-memory, tells-refused, no-command, a-command, said-words, refused-line}
use Rattle.hv_program.proofs.Blaming.{causes-words, causes-read, causes-script, causes-memory, causes-served, completes}
use Rattle.hv_program.proofs.program.hive.Goals as goal

pub returns-then-is_none : goal.returns-then-is_none
returns-then-is_none g c =
    let none = no-command c.read_run.result _ c.is_none.result c.read_run.ensures.value c.is_none.ensures c.if-is_none.true in
    let line = said-words _ _ _ _ _ c.said.ensures.said in
    let refused = refuses-words _ _ _ _ none refl refl _ _ line in
    let causes = causes-words _ _ _ _ _ _ _ line in
    record {
      headline = Headline-words _ _ _ _ _ _ _ _ _ _ none c.said.ensures.heard line;
      refused = refused;
      faults = causes;
      complete = completes _ _ _ _ _ _ _ _ _ refused causes;
    }

pub returns-in-Err : goal.returns-in-Err
returns-in-Err g c =
    let some = a-command c.read_run.result _ c.is_none.result c.read_run.ensures.value c.is_none.ensures c.if-is_none.false in
    let refused = refuses-read _ _ _ _ c.in-Err.stop some c.status.ensures refl refl c.in-Err.ensures.why in
    let causes = causes-read _ _ _ _ c.in-Err.stop c.status.ensures c.in-Err.ensures.why c.in-Err.ensures.blames in
    record {
      headline = Headline-unread _ _ _ _ _ _ _ _ c.in-Err.stop c.in-Err.ensures.tells c.status.ensures c.in-Err.ensures.why;
      refused = refused;
      faults = causes;
      complete = completes _ _ _ _ _ _ _ _ _ refused causes;
    }

pub serve-requires : goal.serve-requires
serve-requires g c = record { fine = fine-actions c.deref.result.now _ (c.as_slice.ensures ∙ c.in-Ok-read_actions.ensures.read.1) }

pub returns-in-Ok-read_actions : goal.returns-in-Ok-read_actions
returns-in-Ok-read_actions g c =
    let some = a-command c.read_run.result _ c.is_none.result c.read_run.ensures.value c.is_none.ensures c.if-is_none.false in
    let fine = tells-refused c.in-Ok.bytes.items c.deref.result.now _ _ _ c.deref.ensures.value c.in-Ok.ensures.taken c.in-Ok-read_actions.ensures.read.0 in
    let refused = refuses-served _ _ _ _ some fine c.serve.ensures.opened in
    let causes = causes-served _ _ _ _ _ c.serve.ensures.opened.only c.serve.ensures.blames c.serve.ensures.hard in
    record {
      headline = Headline-served _ _ _ c.in-Ok.bytes.items c.deref.result.now c.as_slice.result.now _ _ _ _ _ _ _ c.deref.ensures.value c.in-Ok.ensures.taken
          c.in-Ok-read_actions.ensures.read.0 (c.as_slice.ensures ∙ c.in-Ok-read_actions.ensures.read.1) c.in-Ok.ensures.tells c.serve.ensures.heard c.serve.ensures.served;
      refused = refused;
      faults = causes;
      complete = completes _ _ _ _ _ _ _ _ _ refused causes;
    }

pub returns-in-Err-Refused : goal.returns-in-Err-Refused
returns-in-Err-Refused g c =
    let some = a-command c.read_run.result _ c.is_none.result c.read_run.ensures.value c.is_none.ensures c.if-is_none.false in
    let at = tells-refused c.in-Ok.bytes.items c.deref.result.now _ _ _ c.deref.ensures.value c.in-Ok.ensures.taken
    (refused-line c.deref.result.now (actions_of c.deref.result.now) c.in-Err-Refused.field-0 c.in-Err-Refused.line c.in-Err-Refused.field-0-is c.in-Err-Refused.ensures.read) in
    let refused = refuses-script _ _ _ _ c.in-Err-Refused.line some at refl _ _ c.refused_script.ensures.said in
    let causes = causes-script _ _ _ _ _ _ _ c.refused_script.ensures.said in
    record {
      headline = Headline-refused _ _ _ _ _ _ _ _ _ _ _ c.in-Err-Refused.line some at c.in-Ok.ensures.tells c.refused_script.ensures.heard c.refused_script.ensures.said;
      refused = refused;
      faults = causes;
      complete = completes _ _ _ _ _ _ _ _ _ refused causes;
    }

pub returns : goal.returns
returns g c =
    let some = a-command c.read_run.result _ c.is_none.result c.read_run.ensures.value c.is_none.ensures c.if-is_none.false in
    let refused = refuses-memory _ _ _ _ some c.status-in-Err-NoMemory.ensures in
    let causes = causes-memory _ _ _ _ c.status-in-Err-NoMemory.ensures in
    record {
      headline = Headline-memory _ _ _ _ _ _ _ _ c.in-Ok.ensures.tells c.status-in-Err-NoMemory.ensures;
      refused = refused;
      faults = causes;
      complete = completes _ _ _ _ _ _ _ _ _ refused causes;
    }
