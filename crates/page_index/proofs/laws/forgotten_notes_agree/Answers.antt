use Rattle.std.proofs.Common.{◌≡◌, true, inl, inr, ⊎_elim}
use Rattle.cover_rules.specs.Coverage.{deletes}
use Rattle.page_index.specs.Notes.{page_noted}
use Rattle.std.proofs.lemmas.Bool.{cases_Bool}
use Rattle.page_index.proofs.AgreementLemmas.{none_in_head}
use Rattle.page_index.proofs.IndexLemmas.{fewer_by_page, fewer_by_stamp}
use Rattle.page_index.proofs.laws.forgotten_notes_agree.Goals as goal

pub returns-clause-page : goal.returns-clause-page
returns-clause-page c = λ key old new forgets. fewer_by_page key old new (inr forgets.here) (λ other differ. inl (forgets.others other differ)) forgets.stamps

pub returns-clause-stamp : goal.returns-clause-stamp
returns-clause-stamp c = λ folder old new forgets. fewer_by_stamp folder old new (inr forgets.here) (λ other differ. inl (forgets.others other differ)) forgets.pages

pub returns-clause-covered : goal.returns-clause-covered
returns-clause-covered c = λ level inv old new forgets. record {
  pages = λ key. ⊎_elim (λ (del : deletes inv key ≡ true). inr (forgets.deleted key del)) (λ stays. inl (forgets.others key stays)) (cases_Bool (deletes inv key));
  stamps = forgets.stamps;
}

pub returns-clause-none_covered : goal.returns-clause-none_covered
returns-clause-none_covered c = λ level inv old new forgets. record {
  pages = λ key good del. none_in_head (page_noted new key) (forgets.deleted key del);
  stamps = λ folder good has. forgets.touched folder has;
}

pub returns-clause-lost : goal.returns-clause-lost
returns-clause-lost c = λ key bytes old new sets. fewer_by_page key old new (inr sets.here) (λ other differ. ⊎_elim (λ e. inl e) (λ fell. inr fell.1) (sets.others other differ)) sets.stamps

pub returns-clause-lost_stamp : goal.returns-clause-lost_stamp
returns-clause-lost_stamp c = λ folder old new sets. fewer_by_stamp folder old new (inr sets.here) (λ other differ. ⊎_elim (λ e. inl e) (λ fell. inr fell.1) (sets.others other differ)) sets.pages

pub returns-clause-asked : goal.returns-clause-asked
returns-clause-asked c = λ key bytes old new sets. fewer_by_page key old new (inl sets.here) (λ other differ. ⊎_elim (λ e. inl e) (λ fell. inr fell.1) (sets.others other differ)) sets.stamps
