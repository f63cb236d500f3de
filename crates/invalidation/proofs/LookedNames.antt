-- How many names a slice looked at, from what its parts make of the files.
use Rattle.std.proofs.Common.{◌≡◌, ◌≢◌, ◌≤◌, ◌+◌, ⊎_elim, ℕ, Bool, true, false, not, ◌&&◌, List, Option, Some, None, is_some, length, sym, ◌∙◌, ap, arith}
use Rattle.std.proofs.lemmas.Bool.{and_from, and_parts, not-true, or_left, true≢false}
use Rattle.std.proofs.lemmas.List.{take_all}
use Rattle.sp_base.specs.Texts.{Text}
use Rattle.sp_base.proofs.OptionLemmas.{none_from_test, test_from_there, there_from_test}
use Rattle.sp_outside.specs.Files.{Files, file_at}
use Rattle.cover_rules.specs.Pages.{page_key_of}
use Rattle.cover_rules.specs.declared.invalidation.Invalidation.{Invalidation}
use Rattle.cover_rules.specs.declared.stamp.Stamp.{Stamp}
use Rattle.docroot_format.specs.Deletions.{begins_with_any, deleted_prefixes}
use Rattle.docroot_format.specs.Names.{is_page_file}
use Rattle.docroot_changes.specs.Changes.{count_names}
use Rattle.invalidation.specs.Slices.{IsHandlePage, IsListedPage, SliceLooked, is_passed, is_to_look_at, place_or_start, slice_names}
use Rattle.invalidation.specs.Walks.{IsBegun, Opened, TakesFiles, WalkedOn}
use Rattle.invalidation.specs.declared.place.WalkPlace.{WalkPlace}
use Rattle.invalidation.specs.declared.purge.PurgeStep.TheVariants.{More, Done}
use Rattle.invalidation.proofs.CountedFiles.{count_none, count_parts, count_within}
use Rattle.invalidation.proofs.PrefixLemmas.{handle_page_apart}
use Rattle.invalidation.proofs.SliceFacts.{NameLaws, stat_no_page}
use Rattle.invalidation.proofs.TakenFiles.{stays_gone, stays_there}

-- ---- the opening of a flush

-- no file of the page at the handle is to look at
handle_page : (inv : Invalidation) (name : Text) → NameLaws inv → IsHandlePage inv name → begins_with_any (deleted_prefixes inv) name ≡ false
handle_page inv name laws is =
    handle_page_apart inv is.0 name (sym laws.mangled ∙ sym (ap page_key_of is.1.1.0) ∙ is.1.0.own) is.1.1.1

-- what was to look at is there still, since the page at the handle is none of it
still_there : (level : ℕ) (inv : Invalidation) (stamp : Stamp) (old mid : Files) → NameLaws inv → Opened level inv stamp old mid → (name : Text) → begins_with_any (deleted_prefixes inv) name ≡ true → file_at old name ≢ None → file_at mid name ≢ None
still_there level inv stamp old mid laws o name begins held =
    stays_there (IsHandlePage inv) 2 o.between mid name o.takes (λ is. true≢false (sym begins ∙ handle_page inv name laws is))
    (λ none. ⊎_elim (λ e. held (sym e ∙ none)) (λ w. ⊎_elim (λ never. never.0) (λ s. there_from_test (file_at o.between name) (ap is_some s.1) none) w) (o.touches.files name))

-- what is there only since is no page's
new_no_page : (level : ℕ) (inv : Invalidation) (stamp : Stamp) (old mid : Files) → Opened level inv stamp old mid → (name : Text) → file_at old name ≡ None → file_at mid name ≢ None → is_page_file name ≡ false
new_no_page level inv stamp old mid o name none held = ⊎_elim
    (λ e. ⊎_elim (λ d. absurd (held (e ∙ d ∙ none))) (λ w. ⊎_elim (λ never. absurd never.0) (λ s. ap is_page_file s.0.1.1 ∙ stat_no_page s.0.0) w) (o.touches.files name))
    (λ w. absurd (held w.1)) (o.takes.files name)

-- the names that begin with these, and that a walk from this place has to look at
abbrev Ahead : Invalidation → Option WalkPlace → Text → Bool
Ahead inv place = is_to_look_at (deleted_prefixes inv) place

-- what is to look at as the walk begins: what was, and what the slice wrote
begun_ahead : (level : ℕ) (inv : Invalidation) (stamp : Stamp) (place : Option WalkPlace) (seen : ℕ) (old mid new : Files) → NameLaws inv → IsBegun level inv stamp place old mid → TakesFiles (IsListedPage (deleted_prefixes inv)) seen mid new
    → count_names (Ahead inv place) mid ≡ count_names (Ahead inv place) old + count_names (λ name. Ahead inv place name && not (is_some (file_at old name))) new
begun_ahead level inv stamp None seen old mid new laws o walk =
    let p = Ahead inv None in
    let there = λ (name : Text). is_some (file_at old name) in
    let begins = λ (name : Text) (is : p name ≡ true). (and_parts (begins_with_any (deleted_prefixes inv) name) _ is).0 in
    let parts = count_parts p there mid in
    let were = count_within (λ name. p name && there name) p mid old (λ name both held. let w = and_parts (p name) (there name) both in (w.0, there_from_test (file_at old name) w.1)) in
    let are = count_within p (λ name. p name && there name) old mid
    (λ name is held. (and_from (p name) (there name) is (test_from_there (file_at old name) held), still_there level inv stamp old mid laws o name (begins name is) held)) in
    let fresh = λ (name : Text). p name && not (there name) in
    let stay = count_within fresh fresh mid new (λ name both held. (
      both,
      stays_there (IsListedPage (deleted_prefixes inv)) seen mid new name walk
          (λ page. true≢false (sym page.0 ∙ new_no_page level inv stamp old mid o name (none_from_test (file_at old name) (not-true (there name) (and_parts (p name) (not (there name)) both).1)) held)) held,
    )) in
    let came = count_within fresh fresh new mid (λ name both held. (both, λ none. held (stays_gone (IsListedPage (deleted_prefixes inv)) seen mid new name walk none))) in
    omega (arith, parts, were, are, stay, came)
begun_ahead level inv stamp (Some place) seen old mid new laws same walk =
    let p = Ahead inv (Some place) in
    let none = count_none (λ name. p name && not (is_some (file_at old name))) new
    (λ name both held. held (stays_gone (IsListedPage (deleted_prefixes inv)) seen mid new name walk
    (ap (λ files. file_at files name) same ∙ none_from_test (file_at old name) (not-true (is_some (file_at old name)) (and_parts (p name) _ both).1)))) in
    let old_ones = ap (count_names p) same in
    omega (arith, none, old_ones)

-- ---- the walk

-- a walk that is through with all prefixes passed each name
pub end_passed : (prefixes : List Text) (now : WalkPlace) (name : Text) → length prefixes ≤ now.prefix → begins_with_any prefixes name ≡ true → is_passed prefixes now name ≡ true
end_passed prefixes now name end begins = or_left _ _ (ap (λ (ps : List Text). begins_with_any ps name) (take_all now.prefix prefixes end) ∙ begins)

none_ahead : (prefixes : List Text) (now : WalkPlace) (files : Files) → length prefixes ≤ now.prefix → count_names (is_to_look_at prefixes (Some now)) files ≡ 0
none_ahead prefixes now files end = count_none (is_to_look_at prefixes (Some now)) files
    (λ name is held. let w = and_parts (begins_with_any prefixes name) (not (is_passed prefixes now name)) is in true≢false (sym (end_passed prefixes now name end w.0) ∙ not-true _ w.1))

pub looked_more : (level : ℕ) (inv : Invalidation) (stamp : Stamp) (place : Option WalkPlace) (old mid new : Files) (now : WalkPlace) → NameLaws inv → IsBegun level inv stamp place old mid → WalkedOn (deleted_prefixes inv) (place_or_start place) now true mid new
    → SliceLooked (record { level = level; inv = inv; stamp = stamp; place = place }) (record { level = level; inv = inv; stamp = stamp; place = Some now }) More old new
looked_more level inv stamp place old mid new now laws begun walked =
    let first = begun_ahead level inv stamp place slice_names old mid new laws begun walked.takes in
    let walk = walked.ahead in
    omega (arith, first, walk)

pub looked_done : (level : ℕ) (inv : Invalidation) (stamp : Stamp) (place : Option WalkPlace) (old mid new : Files) (now : WalkPlace) → NameLaws inv → IsBegun level inv stamp place old mid → WalkedOn (deleted_prefixes inv) (place_or_start place) now false mid new
    → SliceLooked (record { level = level; inv = inv; stamp = stamp; place = place }) (record { level = level; inv = inv; stamp = stamp; place = Some now }) Done old new
looked_done level inv stamp place old mid new now laws begun walked =
    let first = begun_ahead level inv stamp place walked.0 old mid new laws begun walked.1.0.takes in
    let walk = walked.1.0.ahead in
    let end = none_ahead (deleted_prefixes inv) now new walked.1.1.0 in
    let few = walked.1.1.1 in
    (omega (arith, first, walk, end, few), end)
