use Rattle.std.proofs.Common.{Some, sym, ◌∙◌}
use Rattle.std.proofs.lemmas.Bool.{true≢false}
use Rattle.page_index.specs.Held.{fresh_note}
use Rattle.page_index.proofs.AgreementLemmas.{fresh_agrees}
use Rattle.page_index.proofs.IndexLemmas.{set_agrees, set_covered}
use Rattle.page_index.proofs.laws.a_noted_head_agrees.Goals as goal

pub returns-clause-agrees : goal.returns-clause-agrees
returns-clause-agrees c = λ key head bytes old new files sets is agrees. set_agrees key bytes (Some (fresh_note key head)) old new files sets (λ good before. fresh_agrees files key head is) agrees

pub returns-clause-covered : goal.returns-clause-covered
returns-clause-covered c = λ key head bytes old new level inv sets stays covered. set_covered key bytes (Some (fresh_note key head)) old new level inv sets (λ del none. absurd (true≢false (sym del ∙ stays))) covered
