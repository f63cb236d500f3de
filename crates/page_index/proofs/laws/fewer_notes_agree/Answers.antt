use Rattle.page_index.specs.Notes.{page_noted, stamp_noted}
use Rattle.page_index.proofs.AgreementLemmas.{covered_by, fewer_agrees, none_stays}
use Rattle.page_index.proofs.laws.fewer_notes_agree.Goals as goal

pub returns-clause-agrees : goal.returns-clause-agrees
returns-clause-agrees c = fewer_agrees

pub returns-clause-covered : goal.returns-clause-covered
returns-clause-covered c = λ old new level inv fewer. covered_by level inv old new
    (λ key del none. none_stays (page_noted old key) (page_noted new key) (fewer.pages key) none)
    (λ folder has none. none_stays (stamp_noted old folder) (stamp_noted new folder) (fewer.stamps folder) none)
