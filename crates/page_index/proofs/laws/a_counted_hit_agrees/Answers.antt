use Rattle.std.proofs.Common.{ap, option_map}
use Rattle.page_index.specs.Held.{after_hit}
use Rattle.page_index.specs.Notes.{page_noted}
use Rattle.page_index.proofs.AgreementLemmas.{counted_agrees}
use Rattle.page_index.proofs.IndexLemmas.{set_agrees, set_covered}
use Rattle.page_index.proofs.laws.a_counted_hit_agrees.Goals as goal

pub returns-clause-agrees : goal.returns-clause-agrees
returns-clause-agrees c = λ key body bytes page old new files sets here is agrees.
    set_agrees key bytes (option_map (after_hit body) (page_noted old key)) old new files sets
    (λ good before. counted_agrees files key (c.a_page_is_its_head_and_its_body.ensures files key) page body here is (page_noted old key) before) agrees

pub returns-clause-covered : goal.returns-clause-covered
returns-clause-covered c = λ key body bytes old new level inv sets covered.
    set_covered key bytes (option_map (after_hit body) (page_noted old key)) old new level inv sets (λ del none. ap (option_map (after_hit body)) none) covered
