use Rattle.coherence_core.proofs.noting.keep_asked.Goals as goal

pub returns-in-Ok-clause-notes : goal.returns-in-Ok-clause-notes
returns-in-Ok-clause-notes c = λ files.
    let fewer = c.forgotten_notes_agree.ensures.asked c.args.key.now _ c.args.pages.now c.note_asked.new.self c.in-Ok.ensures.ok in
    record {
      agree = c.fewer_notes_agree.ensures.agrees c.args.pages.now c.note_asked.new.self files fewer;
      apart = λ level inv. c.fewer_notes_agree.ensures.covered c.args.pages.now c.note_asked.new.self level inv fewer;
    }

pub returns-in-Err-clause-notes : goal.returns-in-Err-clause-notes
returns-in-Err-clause-notes c = λ files.
    let fewer = c.forgotten_notes_agree.ensures.lost c.args.key.now _ c.args.pages.now c.note_asked.new.self c.in-Err.ensures.err in
    record {
      agree = c.fewer_notes_agree.ensures.agrees c.args.pages.now c.note_asked.new.self files fewer;
      apart = λ level inv. c.fewer_notes_agree.ensures.covered c.args.pages.now c.note_asked.new.self level inv fewer;
    }
