-- What the calls of a disk leave of the files that aren't its own: those that its folder keeps for itself, and those that a killed process left.
use Rattle.std.proofs.Common.{◌≡◌, ◌≢◌, ◌≤◌, ◌-◌, ◌&&◌, not, ◌++◌, inl, inr, ℕ, Bool, true, false, cond, List, Option, Some, None, take, length, refl, sym, ◌∙◌, ap, subst, arith}
use Rattle.std.specs.Prelude.{IfSome}
use Rattle.std.specs.Cmp.Lexicographic.{nat_list_cmp_total}
use Rattle.std.specs.FinMap.{get, get-insert, get-remove}
use Rattle.std.specs.Option.{is_some}
use Rattle.std.specs.Ordering.{eq_by_cmp}
use Rattle.std.proofs.lemmas.Bool.{false_from_ne_true, true≢false}
use Rattle.std.proofs.lemmas.Bool.Decides.{Decides-eqb}
use Rattle.std.proofs.lemmas.List.{append_assoc}
use Rattle.std.proofs.lemmas.Slice.Eq.{ends_is}
use Rattle.sp_base.specs.Names.{by_name}
use Rattle.sp_outside.specs.FileNames.{beside_ending, is_below, is_beside, is_inside, is_left, is_own, own_ending}
use Rattle.sp_outside.specs.Files.{Files, IsOldOrNew, file_at, told_with, told_without}
use Rattle.sp_outside.specs.FolderFiles.{FolderState, HasNoFault, HasNoneLeft, IsCleaned, IsNamesOf, IsOwnKept, WhileTold, boot_file}
use Rattle.sp_outside.specs.NameIndex.{IsLeftGone, IsLeftTaken, IsRestKept}
use Rattle.sp_outside.specs.declared.disk.DiskFault.{DiskFault}
use Rattle.sp_outside.proofs.Begun.{outside_of_left, while_map, while_same, while_then}
use Rattle.sp_outside.proofs.Left.{none_stays}
use Rattle.sp_outside.proofs.NameSets.{one_key}

-- ---- the names of the folder's own files

own_beside : (name : List ℕ) → is_own name ≡ true → is_beside name ≡ true
own_beside name own =
    let front = take (length name - length own_ending) name in
    let whole : name ≡ front ++ own_ending = (ends_is Decides-eqb name own_ending _ refl).0 own in
    (ends_is Decides-eqb name beside_ending _ refl).1 (front ++ beside_ending) (whole ∙ sym (append_assoc front beside_ending beside_ending))

none_inside : (a b : Bool) → a ≡ true → not a && b ≡ false
none_inside true b e = refl
none_inside false b e = absurd (true≢false (sym e))

own_outside : (name : List ℕ) → is_own name ≡ true → is_inside name ≡ false
own_outside name own = none_inside (is_beside name) (is_below name) (own_beside name own)

none_left : (a b c : Bool) → b ≡ true → a && (not b && c) ≡ false
none_left true true c e = refl
none_left false true c e = refl
none_left a false c e = absurd (true≢false (sym e))

own_not_left : (name : List ℕ) → is_own name ≡ true → is_left name ≡ false
own_not_left name own = none_left (is_beside name) (is_own name) (is_below name) own

not_boot : (name : List ℕ) → is_left name ≡ true → name ≢ boot_file
not_boot name left same = true≢false (sym left ∙ ap is_left same)

-- ---- what the folder keeps for itself

pub own_same : (old new : Option Files) → new ≡ old → WhileTold IsOwnKept old new
own_same old new same = while_same IsOwnKept old new (λ files name own apart. refl) same

pub own_then : (first now next : Option Files) → WhileTold IsOwnKept first now → WhileTold IsOwnKept now next → WhileTold IsOwnKept first next
own_then first now next = while_then IsOwnKept IsOwnKept IsOwnKept first now next (λ a b c one two name own apart. two name own apart ∙ one name own apart)

pub own_of_rest : (old new : Option Files) → WhileTold IsRestKept old new → WhileTold IsOwnKept old new
own_of_rest old new = while_map IsRestKept IsOwnKept old new (λ a b rest name own apart. rest name (own_outside name own) apart)

pub own_of_left : (old new : Option Files) → WhileTold IsLeftTaken old new → WhileTold IsOwnKept old new
own_of_left old new = while_map IsLeftTaken IsOwnKept old new (λ a b taken name own apart. taken.kept name (own_not_left name own))

own_put : (old : Option Files) (name bytes : List ℕ) → is_inside name ≡ true → WhileTold IsOwnKept old (told_with old name bytes)
own_put None name bytes inside = tt
own_put (Some files) name bytes inside = λ q own apart.
    get-insert nat_list_cmp_total files name bytes q ∙ ap (λ b. cond b (Some bytes) (get files q)) (false_from_ne_true (eq_by_cmp by_name q name) (λ same.
    true≢false (sym inside ∙ sym (ap is_inside (one_key q name same)) ∙ own_outside q own)))

own_removal : (old : Option Files) (name : List ℕ) → is_inside name ≡ true → WhileTold IsOwnKept old (told_without old name)
own_removal None name inside = tt
own_removal (Some files) name inside = λ q own apart.
    get-remove nat_list_cmp_total files name q ∙ ap (λ b. cond b None (get files q)) (false_from_ne_true (eq_by_cmp by_name q name) (λ same.
    true≢false (sym inside ∙ sym (ap is_inside (one_key q name same)) ∙ own_outside q own)))

pub own_with : (old new : Option Files) (name bytes : List ℕ) → is_inside name ≡ true → new ≡ told_with old name bytes → WhileTold IsOwnKept old new
own_with old new name bytes inside is = subst (WhileTold IsOwnKept old) (sym is) (own_put old name bytes inside)

pub own_with_or_not : (old new : Option Files) (name bytes : List ℕ) (fault : DiskFault) → is_inside name ≡ true → IsOldOrNew old (told_with old name bytes) new fault → WhileTold IsOwnKept old new
own_with_or_not old new name bytes fault inside (inl same) = own_same old new same
own_with_or_not old new name bytes fault inside (inr is) = own_with old new name bytes inside is.1

pub own_without : (old new : Option Files) (name : List ℕ) → is_inside name ≡ true → new ≡ told_without old name → WhileTold IsOwnKept old new
own_without old new name inside is = subst (WhileTold IsOwnKept old) (sym is) (own_removal old name inside)

pub own_without_or_not : (old new : Option Files) (name : List ℕ) (fault : DiskFault) → is_inside name ≡ true → IsOldOrNew old (told_without old name) new fault → WhileTold IsOwnKept old new
own_without_or_not old new name fault inside (inl same) = own_same old new same
own_without_or_not old new name fault inside (inr is) = own_without old new name inside is.1

-- ---- what a killed process left

no_value : {X : Type 0} (o : Option X) (x : X) → o ≡ Some x → o ≢ None
no_value o x is none = true≢false (ap is_some (sym is ∙ none))

none_is_left : (found : List (List ℕ)) (walked begun last : Files) → IsNamesOf walked found → IsRestKept walked begun → IsLeftTaken begun last → IsLeftGone found last → HasNoneLeft last
none_is_left found walked begun last names rest taken gone name left =
    elim (file_at walked name) as (λ o. file_at walked name ≡ o → file_at last name ≡ None) [
      | None ↦ λ is. taken.fewer name (rest name (outside_of_left name left) (not_boot name left) ∙ is)
      | Some bytes ↦ λ is. gone name ((names name).1 (no_value (file_at walked name) bytes is)) left
    ] refl

pub tidy : (found : List (List ℕ)) (walked begun last : Option Files) → IfSome walked (λ files. IsNamesOf files found) → WhileTold IsRestKept walked begun → WhileTold IsLeftTaken begun last
    → IfSome last (IsLeftGone found) → IfSome last HasNoneLeft
tidy found None None None names rest taken gone = tt
tidy found None None (Some c) names rest taken gone = absurd taken
tidy found None (Some b) last names rest taken gone = absurd rest
tidy found (Some a) None last names rest taken gone = absurd rest
tidy found (Some a) (Some b) None names rest taken gone = absurd taken
tidy found (Some a) (Some b) (Some c) names rest taken gone = none_is_left found a b c names rest taken gone

put_left : (told : Option Files) (name bytes : List ℕ) → is_inside name ≡ true → IfSome told HasNoneLeft → IfSome (told_with told name bytes) HasNoneLeft
put_left None name bytes inside none = tt
put_left (Some files) name bytes inside none = λ q left.
    get-insert nat_list_cmp_total files name bytes q ∙ ap (λ b. cond b (Some bytes) (get files q)) (false_from_ne_true (eq_by_cmp by_name q name) (λ same.
    true≢false (sym inside ∙ sym (ap is_inside (one_key q name same)) ∙ outside_of_left q left))) ∙ none q left

pub tidy_with : (old new : Option Files) (name bytes : List ℕ) → is_inside name ≡ true → new ≡ told_with old name bytes → IfSome old HasNoneLeft → IfSome new HasNoneLeft
tidy_with old new name bytes inside is none = subst (λ told. IfSome told HasNoneLeft) (sym is) (put_left old name bytes inside none)

removal_left : (told : Option Files) (name : List ℕ) → IfSome told HasNoneLeft → IfSome (told_without told name) HasNoneLeft
removal_left None name none = tt
removal_left (Some files) name none = λ q left. none_stays files name q (none q left)

pub tidy_without : (old new : Option Files) (name : List ℕ) → new ≡ told_without old name → IfSome old HasNoneLeft → IfSome new HasNoneLeft
tidy_without old new name is none = subst (λ told. IfSome told HasNoneLeft) (sym is) (removal_left old name none)

-- ---- the steps of a call

-- the files that a folder keeps for itself, while a disk begins
pub own_begun : (first walked begun : Option Files) → walked ≡ first → WhileTold IsRestKept walked begun → WhileTold IsOwnKept first begun
own_begun first walked begun same rest = own_then first walked begun (own_same first walked same) (own_of_rest walked begun rest)

pub own_found : (first walked begun opened last : Option Files) → walked ≡ first → WhileTold IsRestKept walked begun → opened ≡ begun → WhileTold IsLeftTaken opened last → WhileTold IsOwnKept first last
own_found first walked begun opened last same rest is taken =
    own_then first opened last (own_then first begun opened (own_begun first walked begun same rest) (own_same begun opened is)) (own_of_left opened last taken)

-- a state that is seen as another
pub own_seen : (first known opened : Option Files) → opened ≡ known → WhileTold IsOwnKept first known → WhileTold IsOwnKept first opened
own_seen first known opened is own = subst (WhileTold IsOwnKept first) (sym is) own

pub own_after : (first known opened last : Option Files) → opened ≡ known → WhileTold IsOwnKept first known → WhileTold IsOwnKept opened last → WhileTold IsOwnKept first last
own_after first known opened last is own more = own_then first opened last (own_seen first known opened is own) more

-- the call that reads the names
pub cleaned_found : (found : List (List ℕ)) (walked begun opened last : Option Files) → IfSome walked (λ files. IsNamesOf files found) → WhileTold IsRestKept walked begun → opened ≡ begun
    → WhileTold IsLeftTaken opened last → IfSome last (IsLeftGone found) → IfSome last HasNoneLeft
cleaned_found found walked begun opened last names rest is taken gone = tidy found walked opened last names (subst (WhileTold IsRestKept walked) (sym is) rest) taken gone

pub fault_free : (first walked begun opened last : ℕ) → first ≤ walked → walked ≤ begun → opened ≡ begun → opened ≤ last → HasNoFault first last → HasNoFault opened last
fault_free first walked begun opened last a b c d none = (omega (arith, a, b, c, d, none.0), omega (arith, a, b, c, d, none.0, none.1))

-- a later step of a call, which leaves no fewer faults
pub cleaned_then : (first known : FolderState) (faults : ℕ) (below : Option Files) → IsCleaned first known → first.faults ≤ known.faults → known.faults ≤ faults
    → (IfSome known.below HasNoneLeft → IfSome below HasNoneLeft) → first.is_known ≡ false → HasNoFault first.faults faults → IfSome below HasNoneLeft
cleaned_then first known faults below cleaned a b more unknown none = more (cleaned unknown (omega (arith, a, b, none.0), none.1))

pub tidy_seen : (known new : Option Files) → new ≡ known → IfSome known HasNoneLeft → IfSome new HasNoneLeft
tidy_seen known new is none = subst (λ told. IfSome told HasNoneLeft) (sym is) none
