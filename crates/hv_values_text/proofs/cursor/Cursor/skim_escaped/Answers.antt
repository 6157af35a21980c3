use Rattle.hv_values_text.proofs.cursor.Cursor.skim_escaped.Goals as goal

pub returns-clause-front : goal.returns-clause-front
returns-clause-front c = record { content = c.in_ok-content.content; stands = c.in_ok-content.ensures.front }
