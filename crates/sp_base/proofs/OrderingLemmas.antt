-- What an ordering is by its tests, and the order of paths.
use Rattle.std.proofs.Common.{T, refl, subst, sym, true, ◌≡◌}
use Rattle.std.specs.Cmp.{IsTotalOrder}
use Rattle.std.specs.Cmp.Lexicographic.{lists_total, nat_list_cmp_total}
use Rattle.std.specs.FinMap.{IsAntisymmetric, nat_cmp-IsAntisymmetric, slice_cmp-IsAntisymmetric}
use Rattle.std.specs.Ordering.{is_eq, is_lt}
use Rattle.std.specs.declared.cmp.Ordering.{Ordering}
use Rattle.std.specs.declared.cmp.Ordering.TheVariants.{Equal, Greater, Less}
use Rattle.std.proofs.lemmas.Bool.{false≢true}
use Rattle.sp_base.specs.Paths.{by_path}

pub less_from_test : (o : Ordering) → is_lt o ≡ true → o ≡ Less
less_from_test Less e = refl
less_from_test Equal e = absurd (false≢true e)
less_from_test Greater e = absurd (false≢true e)

pub equal_from_test : (o : Ordering) → is_eq o ≡ true → o ≡ Equal
equal_from_test Less h = absurd (false≢true h)
equal_from_test Equal h = refl
equal_from_test Greater h = absurd (false≢true h)

pub less_from_T : (o : Ordering) → T (is_lt o) → o ≡ Less
less_from_T Less p = refl
less_from_T Equal p = absurd p
less_from_T Greater p = absurd p

pub T_from_less : (o : Ordering) → o ≡ Less → T (is_lt o)
T_from_less o e = subst (λ r. T (is_lt r)) (sym e) tt

pub by_path_total : IsTotalOrder by_path
by_path_total = lists_total nat_list_cmp_total

pub by_path_exact : IsAntisymmetric by_path
by_path_exact = slice_cmp-IsAntisymmetric (slice_cmp-IsAntisymmetric nat_cmp-IsAntisymmetric)
