use Rattle.coherence_core.proofs.noting.note_hit.Goals as goal

pub returns-in-Ok-clause-notes : goal.returns-in-Ok-clause-notes
returns-in-Ok-clause-notes c = record {
  agree = λ files is. c.a_counted_hit_agrees.ensures.agrees c.args.key.now c.args.body.now _ is.0 c.args.pages.now c.hit.new.self files c.in-Ok.ensures.ok is.1.0 is.1.1;
  apart = λ level inv off. c.a_counted_hit_agrees.ensures.covered c.args.key.now c.args.body.now _ c.args.pages.now c.hit.new.self level inv c.in-Ok.ensures.ok;
}

pub returns-in-Err-clause-notes : goal.returns-in-Err-clause-notes
returns-in-Err-clause-notes c =
    let fewer = c.forgotten_notes_agree.ensures.lost c.args.key.now _ c.args.pages.now c.hit.new.self c.in-Err.ensures.err in
    record {
      agree = λ files is. c.fewer_notes_agree.ensures.agrees c.args.pages.now c.hit.new.self files fewer;
      apart = λ level inv off. c.fewer_notes_agree.ensures.covered c.args.pages.now c.hit.new.self level inv fewer;
    }
