use Rattle.replay_text.proofs.HandleLaws.{handles_tell}
use Rattle.replay_text.proofs.PageLaws.{keys_tell}
use Rattle.replay_text.proofs.Telling.{transcript_alone, transcript_tells}
use Rattle.replay_text.proofs.laws.a_transcript_tells_its_events.Goals as goal

pub returns-clause-told : goal.returns-clause-told
returns-clause-told c =
    let words = c.segments_and_their_spelling.ensures in
    let mangling = c.mangling_and_unmangling.ensures in
    transcript_tells (keys_tell c.a_page_has_one_key.ensures.own words.path words.mangled words.pieces words.back words.spelled)
    (handles_tell mangling.back mangling.one words.path words.mangled words.back)

pub returns-clause-alone : goal.returns-clause-alone
returns-clause-alone c = transcript_alone
