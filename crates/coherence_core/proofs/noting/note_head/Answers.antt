use Rattle.std.proofs.Common.{◌∙◌, sym}
use Rattle.std.proofs.lemmas.Bool.{false_from_ne_true}
use Rattle.cover_rules.specs.Coverage.{deletes}
use Rattle.coherence_core.proofs.noting.note_head.Goals as goal

pub returns-in-Ok-note-clause-notes : goal.returns-in-Ok-note-clause-notes
returns-in-Ok-note-clause-notes c = record {
  agree = λ files is. c.a_noted_head_agrees.ensures.agrees c.args.key.now c.in-Ok.head 0 c.args.pages.now c.note.new.self files c.in-Ok-note.ensures.ok (is ∙ sym c.in-Ok.ensures);
  apart = λ level inv off. c.a_noted_head_agrees.ensures.covered c.args.key.now c.in-Ok.head 0 c.args.pages.now c.note.new.self level inv c.in-Ok-note.ensures.ok (false_from_ne_true (deletes inv c.args.key.now) off);
}
