use Rattle.std.proofs.Common.{◌&&◌, ◌∙◌, not, ap, option_map}
use Rattle.sp_base.proofs.BoolLemmas.{and_false}
use Rattle.stat_files.specs.Outdated.{is_older, outdates_page}
use Rattle.stat_files.specs.Stamps.{stamp_in, stamp_or_greatest}
use Rattle.stat_files.proofs.StampOrder.{greatest_not_older}
use Rattle.stat_files.proofs.laws.what_outdates_a_page.Goals as goal

pub returns-clause-same : goal.returns-clause-same
returns-clause-same c = λ stamp. ap not (c.stamps_are_in_order.ensures.same stamp)

pub returns-clause-newer : goal.returns-clause-newer
returns-clause-newer c = λ stat page e. ap not (c.stamps_are_in_order.ensures.apart page stat e)

pub returns-clause-older : goal.returns-clause-older
returns-clause-older c = λ stat page e. ap not e

pub returns-clause-foreign : goal.returns-clause-foreign
returns-clause-foreign c = λ level files key bytes page epoch count found foreign.
    ap (λ o. outdates_page (option_map stamp_in o) page) found ∙ ap (λ read. not (is_older (stamp_or_greatest read) page)) foreign ∙ ap not (greatest_not_older page epoch count)

pub returns-clause-missing : goal.returns-clause-missing
returns-clause-missing c = λ level auto files key page none. ap (λ o. auto && outdates_page (option_map stamp_in o) page) none ∙ and_false auto
