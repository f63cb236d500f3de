-- A name and at most 63 segments of a path make a path.
use Rattle.std.proofs.Common.{◌≡◌, ◌≢◌, ◌≤◌, ℕ, List, [], ◌∷◌, true, T, Result, Ok, Err, length, refl, sym, ap, subst, arith}
use Rattle.std.specs.List.{list_all}
use Rattle.sp_base.specs.declared.path.PathFault.{PathFault}
use Rattle.sp_base.specs.declared.path.PathFault.TheVariants.{NotAbsolute, EmptySegment, DotSegment, LongSegment, TooDeep, NoMemory}
use Rattle.sp_base.specs.Paths.{seg_ok, is_path, unless_fault, join_of}
use Rattle.sp_base.proofs.BoolLemmas.{T_both, T_first}
use Rattle.sp_base.proofs.PathLemmas.{no_fault}
use Rattle.content_json.specs.Names.{is_content_name}

pub name_and_path : (name : List ℕ) (rest : List (List ℕ)) → is_content_name name ≡ true → is_path rest ≡ true → length rest ≤ 63
    → join_of (name ∷ []) rest ≡ Ok (name ∷ rest)
name_and_path name rest plain path few =
    ap (λ o. unless_fault o (name ∷ rest)) (no_fault (name ∷ rest) (T_both _ _ (T_first (seg_ok name) _ (subst T (sym plain) tt)) (T_first (list_all seg_ok rest) _ (subst T (sym path) tt))) (omega (arith, few)))

-- where a path may be made memory alone can run out
pub memory_alone : (fault : PathFault) (made : Result (List (List ℕ)) PathFault) (path : List (List ℕ)) → made ≡ Ok path → (fault ≢ NoMemory → made ≡ Err fault) → fault ≡ NoMemory
memory_alone NotAbsolute made path is h = absurd (let never = h (λ same. cc) in cc)
memory_alone EmptySegment made path is h = absurd (let never = h (λ same. cc) in cc)
memory_alone DotSegment made path is h = absurd (let never = h (λ same. cc) in cc)
memory_alone (LongSegment place) made path is h = absurd (let never = h (λ same. cc) in cc)
memory_alone TooDeep made path is h = absurd (let never = h (λ same. cc) in cc)
memory_alone NoMemory made path is h = refl
