use Rattle.std.proofs.Common.{◌<◌, ◌≤◌, inl, inr, ⊎_elim, refl, arith}
use Rattle.std.proofs.lemmas.Bool.{cases_lt}
use Rattle.sp_base.specs.Limits.{greatest_u64}
use Rattle.stat_files.proofs.laws.a_foreign_stamp_is_the_greatest.Goals as goal

pub returns-clause-foreign : goal.returns-clause-foreign
returns-clause-foreign c = refl

pub returns-clause-greatest : goal.returns-clause-greatest
returns-clause-greatest c = λ stamp epoch count.
    ⊎_elim (λ (lt : stamp.epoch < greatest_u64). inl lt)
    (λ (le : greatest_u64 ≤ stamp.epoch). inr (omega (arith, le, epoch), omega (arith, count)))
    (cases_lt stamp.epoch greatest_u64)
