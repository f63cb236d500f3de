-- Calls that the cache may make, one after the other.
use Rattle.std.proofs.Common.{◌≡◌, ⊎_elim, Bool, true, false, List, [], ◌∷◌, ◌++◌, Option, Some, Ok, Err, refl, sym, ◌∙◌, ap}
use Rattle.std.specs.Prelude.{IfErr, IfOk, Result}
use Rattle.std.specs.List.{AllByRecursion}
use Rattle.std.proofs.lemmas.List.{append-nil, append_assoc}
use Rattle.std.proofs.lemmas.Option.{same_Some}
use Rattle.sp_outside.specs.Calls.{Call, MadeFirst, told_call, told_calls}
use Rattle.docroot_format.specs.Faults.{IsOneCall}
use Rattle.docroot_format.specs.declared.fault.FileFault.{FileFault}
use Rattle.docroot_format.specs.declared.fault.FileFault.TheVariants.{Disk, NoMemory}
use Rattle.cache_files.specs.Pages.{IsCallLeft}
use Rattle.docroot_changes.specs.DocrootCalls.{IsDocrootCall, MakesDocrootCalls}

-- ---- one after the other

pub makes_none : (calls : Option (List Call)) → MakesDocrootCalls calls calls
makes_none calls = ([], (tt, refl))

pub makes_one : (before : Option (List Call)) (call : Call) → IsDocrootCall call → MakesDocrootCalls before (told_call before call)
makes_one before call may = (call ∷ [], ((may, tt), refl))

told_more : (calls more : List Call) (before : Option (List Call)) → told_calls before (calls ++ more) ≡ told_calls (told_calls before calls) more
told_more [] more before = refl
told_more (call ∷ calls) more before = told_more calls more (told_call before call)

pub docroot_calls_append : (calls more : List Call) → AllByRecursion IsDocrootCall calls → AllByRecursion IsDocrootCall more → AllByRecursion IsDocrootCall (calls ++ more)
docroot_calls_append [] more first then = then
docroot_calls_append (call ∷ calls) more first then = (first.0, docroot_calls_append calls more first.1 then)

pub makes_more : (before between after : Option (List Call)) → MakesDocrootCalls before between → MakesDocrootCalls between after → MakesDocrootCalls before after
makes_more before between after first then =
    (first.0 ++ then.0, (docroot_calls_append first.0 then.0 first.1.0 then.1.0, then.1.1 ∙ ap (λ told. told_calls told then.0) first.1.1 ∙ sym (told_more first.0 then.0 before)))

told_some : (calls before : List Call) → told_calls (Some before) calls ≡ Some (before ++ calls)
told_some [] before = ap Some (sym (append-nil before))
told_some (call ∷ calls) before = told_some calls (before ++ call ∷ []) ∙ ap Some (append_assoc before (call ∷ []) calls)

pub makes_told : (before after : List Call) → MakesDocrootCalls (Some before) (Some after) → (made : List Call) × (AllByRecursion IsDocrootCall made × (after ≡ before ++ made))
makes_told before after makes = (makes.0, (makes.1.0, same_Some after (before ++ makes.0) (makes.1.1 ∙ told_some makes.0 before)))

-- ---- what calls on files say of the calls of the disk

-- whether it was answered Ok or not, the cache may make the call
abbrev pub MayMake : (Bool → Call) → Type 0
MayMake call = (answered : Bool) → IsDocrootCall (call answered)

pub first_made : (calls : List (Bool → Call)) → AllByRecursion MayMake calls → (old new : Option (List Call)) → MadeFirst old new calls → MakesDocrootCalls old new
first_made [] may old new e = ([], (tt, e))
first_made (call ∷ calls) may old new made = ⊎_elim (λ e. ([], (tt, e)))
    (λ more. ⊎_elim (λ e. (call false ∷ [], ((may.0 false, tt), e)))
    (λ rest. makes_more old (told_call old (call true)) new (makes_one old (call true) (may.0 true)) (first_made calls may.1 (told_call old (call true)) new rest)) more) made

pub left_made : (call : Bool → Call) → MayMake call → (asked made : Option (List Call)) (fault : FileFault) → IsCallLeft asked made call fault → MakesDocrootCalls asked made
left_made call may asked made fault left = ⊎_elim (λ w. ([], (tt, w.1)))
    (λ more. ⊎_elim (λ e. (call false ∷ [], ((may false, tt), e))) (λ w. (call true ∷ [], ((may true, tt), w.1))) more) left

pub read_made : (call : Bool → Call) → MayMake call → {T : Type 0} (result : Result T FileFault) (asked made : Option (List Call)) → IfOk result (λ _. made ≡ told_call asked (call true)) → IfErr result (IsCallLeft asked made call)
    → MakesDocrootCalls asked made
read_made call may (Ok value) asked made ok err = (call true ∷ [], ((may true, tt), ok))
read_made call may (Err fault) asked made ok err = left_made call may asked made fault err

pub one_made : (call : Bool → Call) → MayMake call → {T : Type 0} (result : Result T FileFault) (asked made : Option (List Call)) → IsOneCall asked made call result → MakesDocrootCalls asked made
one_made call may (Ok value) asked made e = (call true ∷ [], ((may true, tt), e))
one_made call may (Err Disk) asked made e = (call false ∷ [], ((may false, tt), e))
one_made call may (Err NoMemory) asked made left = ⊎_elim (λ e. ([], (tt, e))) (λ e. (call false ∷ [], ((may false, tt), e))) left
