use Rattle.std.proofs.Common.{sym, ◌∙◌}
use Rattle.std.proofs.lemmas.Option.{none-some}
use Rattle.page_index.specs.Notes.{page_noted}
use Rattle.page_index.proofs.AgreementLemmas.{agrees_by, no_note, none_in_head}
use Rattle.page_index.proofs.laws.no_notes_agree_with_any_files.Goals as goal

pub returns-clause-agrees : goal.returns-clause-agrees
returns-clause-agrees c = λ index files bare.
    agrees_by index files (λ key good. no_note files key (page_noted index key) (bare.pages key)) (λ folder stamp good is. absurd (none-some stamp (sym (bare.stamps folder) ∙ is)))

pub returns-clause-covered : goal.returns-clause-covered
returns-clause-covered c = λ index level inv bare. record {
  pages = λ key good del. none_in_head (page_noted index key) (bare.pages key);
  stamps = λ folder good has. bare.stamps folder;
}
