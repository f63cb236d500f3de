use Rattle.sling_dispatch.proofs.WritableLemmas.{session-writable}
use Rattle.sling_dispatch.proofs.laws.a_transcript_tells_its_session.Goals as goal

pub returns : goal.returns
returns c read other s t left right a b first second one two same =
    let writable = session-writable c.notes_name_pages.ensures c.statuses_are_short.ensures.rendered c.statuses_are_short.ensures.error in
    c.a_transcript_tells_its_events.ensures.told _ _ (writable read s left a first one) (writable other t right b second two) same
