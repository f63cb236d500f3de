-- What a slice leaves, from its parts: the opening of the flush, where it is the first, and a walk.
use Rattle.std.proofs.Common.{◌≡◌, ◌≤◌, ◌+◌, ◌⊎◌, inl, inr, ⊎_elim, ℕ, Bool, true, false, [], Option, Some, None, Ok, Err, refl, sym, ◌∙◌, ap, arith, subst}
use Rattle.std.specs.Prelude.{IsTrue, IsSome, IfOk, Contains, Result}
use Rattle.std.specs.Result.{IsErr}
use Rattle.std.proofs.lemmas.Bool.{true≢false}
use Rattle.sp_base.specs.Texts.{Segments, Text}
use Rattle.sp_outside.specs.Files.{Files}
use Rattle.cover_rules.specs.Coverage.{deletes, handle_of, touched_of}
use Rattle.cover_rules.specs.Pages.{IsPageKey, page_path}
use Rattle.cover_rules.specs.declared.invalidation.Invalidation.{Invalidation}
use Rattle.cover_rules.specs.declared.page.PageKey.{PageKey}
use Rattle.cover_rules.specs.declared.stamp.Stamp.{Stamp}
use Rattle.docroot_format.specs.Deletions.{deleted_prefixes}
use Rattle.docroot_format.specs.declared.fault.FileFault.{FileFault}
use Rattle.docroot_format.specs.declared.fault.FileFault.TheVariants.{Disk, NoMemory as OutOfMemory}
use Rattle.cache_files.specs.Changes.{KeepsPages}
use Rattle.cache_files.specs.Pages.{page_at, page_body_name}
use Rattle.cache_files.proofs.PageFiles.{no_page_without_body}
use Rattle.stat_files.specs.Stamps.{stamp_at}
use Rattle.docroot_changes.specs.Changes.{IsStampFolder, Told, count_names}
use Rattle.invalidation.specs.Slices.{IsBehindPlace, IsHandlePage, IsListedPage, IsSlice, IsTakenFor, IsTakenFrom, Progress, SliceLeft, SliceLooked, SliceRemoves, files_taken, folders_of, is_passed, is_to_look_at, most_added, place_or_start, slice_names, stamps_written}
use Rattle.invalidation.specs.Walks.{AreTouched, IsBegun, IsTakenFirst, SliceChange, TakesFiles, Walked, WalkedOn, handle_files, purge_step_of}
use Rattle.invalidation.specs.declared.place.WalkPlace.{WalkPlace}
use Rattle.invalidation.specs.declared.purge.Purge.{Purge}
use Rattle.invalidation.specs.declared.purge.PurgeStep.{PurgeStep}
use Rattle.invalidation.specs.declared.purge.PurgeStep.TheVariants.{More, Done}
use Rattle.invalidation.proofs.Chains.{told_as, told_both, told_then}
use Rattle.invalidation.proofs.LookedNames.{end_passed, looked_done, looked_more}
use Rattle.invalidation.proofs.RemovedFiles.{removed_all, removed_behind, starts_at_none}
use Rattle.invalidation.proofs.SliceFacts.{NameLaws, head_left, number_left, order_left, page_left, stamp_left}
use Rattle.invalidation.proofs.TakenFiles.{takes_as, takes_then}
use Rattle.invalidation.proofs.Touching.{touches_none}

-- ---- the folders of a slice

none_in : (f : Segments) → Contains [] f → ⊥
none_in f has = omega (arith, has.1)

touched_by : (level : ℕ) (inv : Invalidation) (place : Option WalkPlace) (f : Segments) → Contains (folders_of level inv place) f → Contains (touched_of level inv) f
touched_by level inv None f has = has
touched_by level inv (Some place) f has = absurd (none_in f has)

none_later : (level : ℕ) (inv : Invalidation) (place : Option WalkPlace) (f : Segments) → IsSome place → Contains (folders_of level inv place) f → ⊥
none_later level inv None f some has = true≢false (sym some)
none_later level inv (Some place) f some has = none_in f has

-- the folders are touched before a page goes
first_of : (level : ℕ) (inv : Invalidation) (stamp : Stamp) (place : Option WalkPlace) (old mid new : Files) → KeepsPages old mid → ((f : Segments) → stamp_at new f ≡ stamp_at mid f) → AreTouched (folders_of level inv place) stamp mid ⊎ (new ≡ mid)
    → IsSome place ⊎ (KeepsPages old new ⊎ ((f : Segments) → IsStampFolder f → Contains (touched_of level inv) f → stamp_at new f ≡ Some stamp))
first_of level inv stamp (Some place) old mid new pages same first = inl refl
first_of level inv stamp None old mid new pages same first = inr (⊎_elim (λ t. inr (λ f ok has. same f ∙ t f ok has)) (λ e. inl (subst (KeepsPages old) (sym e) pages)) first)

taken_from : (inv : Invalidation) (place : Option WalkPlace) (name : Text) → IsTakenFrom inv place name → IsTakenFor inv name
taken_from inv None name taken = taken
taken_from inv (Some place) name taken = inr taken

-- a slice, from how it changed the files, and what it left
pub slice_is : (before after : Purge) (step : PurgeStep) (old new : Files) → NameLaws before.inv → SliceChange (IsTakenFrom before.inv before.place) (folders_of before.level before.inv before.place) (most_added before) (files_taken before.place) before.stamp old new
    → SliceLeft before after step old new × (SliceLooked before after step old new × SliceRemoves before after step old new) → IsSlice before after step old new
slice_is before after step old new laws change left =
    let inv = before.inv in
    let most = files_taken before.place in
    let mid = change.between in
    let t = change.touches in
    let takes = takes_as (IsTakenFrom inv before.place) (IsTakenFor inv) most most mid new (omega arith) (taken_from inv before.place) change.takes in
    let stamps = stamp_left inv most mid new laws takes in
    let number = number_left inv most mid new laws takes in
    record {
      sliced = record {
        drops = λ key page. ⊎_elim (λ e. inl (e ∙ (t.pages key page).page)) (λ w. inr w) (page_left inv most mid new laws takes key page);
        touches = λ f ok. ⊎_elim (λ e. inl (stamps f ∙ e)) (λ w. inr (touched_by before.level inv before.place f w.0, stamps f ∙ w.1)) (t.stamps f ok);
      };
      heads = λ key page. ⊎_elim (λ e. inl (e ∙ (t.pages key page).head)) (λ w. inr w) (head_left inv most mid new laws takes key page);
      files = λ name. ⊎_elim
          (λ e. ⊎_elim (λ d. inl (e ∙ d)) (λ w. ⊎_elim (λ none. absurd none.0) (λ s. inr (inr (s.0, e ∙ s.1))) w) (t.files name))
          (λ w. inr (inl w)) (change.takes.files name);
      number = record { held = number.held ∙ t.number.held; next = number.next ∙ t.number.next };
      order = λ le held. order_left inv most mid new laws takes (t.order le held);
      later = λ begun f ok. ⊎_elim (λ e. stamps f ∙ e) (λ w. absurd (none_later before.level inv before.place f begun w.0)) (t.stamps f ok);
      stamps_first = first_of before.level inv before.stamp before.place old mid new t.pages stamps change.first;
      names = λ test. (let one = t.names test in let two = takes.names test in omega (arith, one, two));
      taken = λ test. (let one = t.loses test in let two = takes.loses test in omega (arith, one, two));
      left = left.0;
      looked = left.1.0;
      removed = left.1.1;
    }

-- ---- how a slice changed the files

as_handle : (inv : Invalidation) (most few : ℕ) (a b : Files) → few ≤ most → TakesFiles (IsHandlePage inv) few a b → TakesFiles (IsTakenFor inv) most a b
as_handle inv most few a b le takes = takes_as (IsHandlePage inv) (IsTakenFor inv) few most a b le (λ name h. inl h) takes

as_listed : (inv : Invalidation) (most few : ℕ) (a b : Files) → few ≤ most → TakesFiles (IsListedPage (deleted_prefixes inv)) few a b → TakesFiles (IsTakenFor inv) most a b
as_listed inv most few a b le takes = takes_as (IsListedPage (deleted_prefixes inv)) (IsTakenFor inv) few most a b le (λ name l. inr l) takes

opening_takes : (inv : Invalidation) (place : Option WalkPlace) (few : ℕ) (a b : Files) → few ≤ files_taken place → TakesFiles (IsTakenFirst inv place) few a b → TakesFiles (IsTakenFrom inv place) (files_taken place) a b
opening_takes inv None few a b le takes = as_handle inv (files_taken None) few a b le takes
opening_takes inv (Some place) few a b le takes = takes_as (λ name. ⊥) (IsListedPage (deleted_prefixes inv)) few (files_taken (Some place)) a b le (λ name none. absurd none) takes

-- where it was stopped before the walk
pub change_opening : (level : ℕ) (inv : Invalidation) (stamp : Stamp) (place : Option WalkPlace) (few : ℕ) (old new : Files) → few ≤ files_taken place → SliceChange (IsTakenFirst inv place) (folders_of level inv place) (stamps_written level place) few stamp old new
    → SliceChange (IsTakenFrom inv place) (folders_of level inv place) (stamps_written level place) (files_taken place) stamp old new
change_opening level inv stamp place few old new le c = record { between = c.between; touches = c.touches; takes = opening_takes inv place few c.between new le c.takes; first = c.first }

-- after a walk, whether it was stopped or not
pub change_walk : (level : ℕ) (inv : Invalidation) (stamp : Stamp) (place : Option WalkPlace) (old mid new : Files) → IsBegun level inv stamp place old mid → TakesFiles (IsListedPage (deleted_prefixes inv)) slice_names mid new
    → SliceChange (IsTakenFrom inv place) (folders_of level inv place) (stamps_written level place) (files_taken place) stamp old new
change_walk level inv stamp None old mid new o takes = record {
  between = o.between;
  touches = o.touches;
  takes = takes_as (IsTakenFor inv) (IsTakenFor inv) (2 + 64) 66 o.between new (omega arith) (λ name h. h)
      (takes_then (IsTakenFor inv) 2 64 o.between mid new (as_handle inv 2 2 o.between mid (omega arith) o.takes) (as_listed inv 64 64 mid new (omega arith) takes));
  first = inl o.touched;
}
change_walk level inv stamp (Some place) old mid new same takes = record {
  between = old;
  touches = touches_none [] 0 stamp old;
  takes = subst (λ f. TakesFiles (IsListedPage (deleted_prefixes inv)) 64 f new) same takes;
  first = inl (λ f ok has. absurd (none_in f has));
}

-- ---- how far it is

record After (level : ℕ) (inv : Invalidation) (stamp : Stamp) (place : Option WalkPlace) (old mid : Files) : Type 0 where
  touched : (f : Segments) → IsStampFolder f → Contains (touched_of level inv) f → stamp_at mid f ≡ Some stamp
  gone : (key : PageKey) → IsPageKey key → deletes inv key ≡ true → (page_path key ≡ handle_of inv) ⊎ IsTrue (is_passed (deleted_prefixes inv) (place_or_start place) (page_body_name key)) → page_at mid key ≡ None

after_begun : (level : ℕ) (inv : Invalidation) (stamp : Stamp) (place : Option WalkPlace) (old mid : Files) → NameLaws inv → IsBegun level inv stamp place old mid
    → Progress (record { level = level; inv = inv; stamp = stamp; place = place }) (page_at old) (stamp_at old) → After level inv stamp place old mid
after_begun level inv stamp None old mid laws o progress = record {
  touched = λ f ok has. stamp_left inv 2 o.between mid laws (as_handle inv 2 2 o.between mid (omega arith) o.takes) f ∙ o.touched f ok has;
  gone = λ key page del behind. ⊎_elim (λ path. no_page_without_body mid key (o.gone (page_body_name key) (key, (page, (path, inl refl))))) (λ passed. absurd (starts_at_none (deleted_prefixes inv) (page_body_name key) (laws.body_page key page) passed)) behind;
}
after_begun level inv stamp (Some place) old mid laws same progress = record {
  touched = λ f ok has. ap (λ files. stamp_at files f) same ∙ progress.touched refl f ok has;
  gone = λ key page del behind. ap (λ files. page_at files key) same ∙ progress.gone key page del behind;
}

walked_touched : (level : ℕ) (inv : Invalidation) (stamp : Stamp) (place : Option WalkPlace) (seen : ℕ) (old mid new : Files) (now : WalkPlace) → NameLaws inv → After level inv stamp place old mid → Walked (deleted_prefixes inv) (place_or_start place) now seen mid new
    → (f : Segments) → IsStampFolder f → Contains (touched_of level inv) f → stamp_at new f ≡ Some stamp
walked_touched level inv stamp place seen old mid new now laws after walked f ok has = stamp_left inv seen mid new laws (as_listed inv seen seen mid new (omega arith) walked.takes) f ∙ after.touched f ok has

walked_gone : (level : ℕ) (inv : Invalidation) (stamp : Stamp) (place : Option WalkPlace) (seen : ℕ) (old mid new : Files) (now : WalkPlace) → NameLaws inv → After level inv stamp place old mid → Walked (deleted_prefixes inv) (place_or_start place) now seen mid new
    → (key : PageKey) → IsPageKey key → deletes inv key ≡ true → IsBehindPlace inv (Some now) key → page_at new key ≡ None
walked_gone level inv stamp place seen old mid new now laws after walked key page del behind =
    let still = λ (none : page_at mid key ≡ None). ⊎_elim (λ e. e ∙ none) (λ w. w.1) (page_left inv seen mid new laws (as_listed inv seen seen mid new (omega arith) walked.takes) key page) in
    ⊎_elim (λ path. still (after.gone key page del (inl path)))
    (λ passed. ⊎_elim (λ before. still (after.gone key page del (inr before))) (λ none. no_page_without_body new key none) (walked.passed (page_body_name key) (laws.body_page key page) passed)) behind

-- ---- how many names are to look at

ahead_of : (level : ℕ) (inv : Invalidation) (stamp : Stamp) (place : Option WalkPlace) (seen : ℕ) (old mid new : Files) (now : WalkPlace) → IsBegun level inv stamp place old mid → Walked (deleted_prefixes inv) (place_or_start place) now seen mid new
    → count_names (is_to_look_at (deleted_prefixes inv) (Some now)) new + seen ≤ count_names (is_to_look_at (deleted_prefixes inv) place) old + stamps_written level place
ahead_of level inv stamp None seen old mid new now o walked =
    let prefixes = deleted_prefixes inv in
    let all = is_to_look_at prefixes None in
    let walk = walked.ahead in
    let taken = o.takes.names all in
    let stamps = o.touches.names all in
    omega (arith, walk, taken, stamps)
ahead_of level inv stamp (Some place) seen old mid new now same walked =
    let walk = walked.ahead in
    let old_ones = ap (count_names (is_to_look_at (deleted_prefixes inv) (Some place))) same in
    omega (arith, walk, old_ones)

-- ---- what it left

pub left_more : (level : ℕ) (inv : Invalidation) (stamp : Stamp) (place : Option WalkPlace) (old mid new : Files) (now : WalkPlace) → NameLaws inv → IsBegun level inv stamp place old mid → WalkedOn (deleted_prefixes inv) (place_or_start place) now true mid new
    → SliceLeft (record { level = level; inv = inv; stamp = stamp; place = place }) (record { level = level; inv = inv; stamp = stamp; place = Some now }) More old new
left_more level inv stamp place old mid new now laws begun walked = (
  refl,
  λ progress.
      let after = after_begun level inv stamp place old mid laws begun progress in
      record {
        touched = λ has_begun. walked_touched level inv stamp place slice_names old mid new now laws after walked;
        gone = walked_gone level inv stamp place slice_names old mid new now laws after walked;
      },
  ahead_of level inv stamp place slice_names old mid new now begun walked,
)

pub left_done : (level : ℕ) (inv : Invalidation) (stamp : Stamp) (place : Option WalkPlace) (old mid new : Files) (now : WalkPlace) → NameLaws inv → IsBegun level inv stamp place old mid → WalkedOn (deleted_prefixes inv) (place_or_start place) now false mid new
    → SliceLeft (record { level = level; inv = inv; stamp = stamp; place = place }) (record { level = level; inv = inv; stamp = stamp; place = Some now }) Done old new
left_done level inv stamp place old mid new now laws begun walked = λ progress.
    let prefixes = deleted_prefixes inv in
    let seen = walked.0 in
    let walk = walked.1.0 in
    let after = after_begun level inv stamp place old mid laws begun progress in (
      walked_touched level inv stamp place seen old mid new now laws after walk,
      λ key page del. walked_gone level inv stamp place seen old mid new now laws after walk key page del
          (⊎_elim (λ path. inl path) (λ begins. inr (end_passed prefixes now (page_body_name key) walked.1.1.0 begins)) ((laws.body_deleted key page).0 del)),
    )

-- ---- a slice, by the files that the disk tells

abbrev AfterSlice : Purge → ℕ → Invalidation → Stamp → WalkPlace → PurgeStep → Files → Files → Type 0
AfterSlice before level inv stamp now step old new = SliceLeft before (record { level = level; inv = inv; stamp = stamp; place = Some now }) step old new
    × (SliceLooked before (record { level = level; inv = inv; stamp = stamp; place = Some now }) step old new × SliceRemoves before (record { level = level; inv = inv; stamp = stamp; place = Some now }) step old new)

same_left : (before : Purge) (level : ℕ) (inv : Invalidation) (stamp : Stamp) (now : WalkPlace) (step : PurgeStep) (old new : Files) → level ≡ before.level → inv ≡ before.inv → stamp ≡ before.stamp
    → AfterSlice before before.level before.inv before.stamp now step old new → AfterSlice before level inv stamp now step old new
same_left before level inv stamp now step old new a b d left =
    subst (λ l. AfterSlice before l inv stamp now step old new) (sym a)
    (subst (λ i. AfterSlice before before.level i stamp now step old new) (sym b)
    (subst (λ s. AfterSlice before before.level before.inv s now step old new) (sym d) left))

walk_left : (before : Purge) (level : ℕ) (inv : Invalidation) (stamp : Stamp) (now : WalkPlace) (more : Bool) (old mid new : Files) → level ≡ before.level → inv ≡ before.inv → stamp ≡ before.stamp → NameLaws before.inv
    → IsBegun before.level before.inv before.stamp before.place old mid → WalkedOn (deleted_prefixes before.inv) (place_or_start before.place) now more mid new → AfterSlice before level inv stamp now (purge_step_of (Ok more)) old new
walk_left before level inv stamp now true old mid new a b d laws begun walked = same_left before level inv stamp now More old new a b d (
  left_more before.level before.inv before.stamp before.place old mid new now laws begun walked,
  (
    looked_more before.level before.inv before.stamp before.place old mid new now laws begun walked,
    removed_behind before.level before.inv before.stamp before.place slice_names old mid new now begun walked,
  ),
)
walk_left before level inv stamp now false old mid new a b d laws begun walked = same_left before level inv stamp now Done old new a b d (
  left_done before.level before.inv before.stamp before.place old mid new now laws begun walked,
  (
    looked_done before.level before.inv before.stamp before.place old mid new now laws begun walked,
    removed_all before.level before.inv before.stamp before.place old mid new now begun walked,
  ),
)

fault_left : (before after : Purge) (fault : FileFault) (old new : Files) → SliceLeft before after (purge_step_of (Err fault)) old new × (SliceLooked before after (purge_step_of (Err fault)) old new × SliceRemoves before after (purge_step_of (Err fault)) old new)
fault_left before after Disk old new = (tt, (tt, tt))
fault_left before after OutOfMemory old new = (tt, (tt, tt))

pub told_slice : (before : Purge) (level : ℕ) (inv : Invalidation) (stamp : Stamp) (now : WalkPlace) → level ≡ before.level → inv ≡ before.inv → stamp ≡ before.stamp → NameLaws before.inv → (r : Result Bool FileFault) (x y z : Option Files)
    → Told (IsBegun before.level before.inv before.stamp before.place) x y → Told (TakesFiles (IsListedPage (deleted_prefixes before.inv)) slice_names) y z
    → IfOk r (λ more. Told (WalkedOn (deleted_prefixes before.inv) (place_or_start before.place) now more) y z)
    → Told (IsSlice before (record { level = level; inv = inv; stamp = stamp; place = Some now }) (purge_step_of r)) x z
told_slice before level inv stamp now a b d laws (Ok more) x y z begun takes walked =
    let prefixes = deleted_prefixes before.inv in
    let after : Purge = record { level = level; inv = inv; stamp = stamp; place = Some now } in
    let walk = TakesFiles (IsListedPage prefixes) slice_names in
    let on = WalkedOn prefixes (place_or_start before.place) now more in
    told_then (IsBegun before.level before.inv before.stamp before.place) (λ m n. walk m n × on m n) (IsSlice before after (purge_step_of (Ok more))) x y z
    (λ old mid new p q. slice_is before after (purge_step_of (Ok more)) old new laws (change_walk before.level before.inv before.stamp before.place old mid new p q.0)
    (walk_left before level inv stamp now more old mid new a b d laws p q.1)) begun (told_both walk on (λ m n. walk m n × on m n) y z (λ m n p q. (p, q)) takes walked)
told_slice before level inv stamp now a b d laws (Err fault) x y z begun takes walked =
    let after : Purge = record { level = level; inv = inv; stamp = stamp; place = Some now } in
    told_then (IsBegun before.level before.inv before.stamp before.place) (TakesFiles (IsListedPage (deleted_prefixes before.inv)) slice_names) (IsSlice before after (purge_step_of (Err fault))) x y z
    (λ old mid new p q. slice_is before after (purge_step_of (Err fault)) old new laws (change_walk before.level before.inv before.stamp before.place old mid new p q) (fault_left before after fault old new)) begun takes

few_taken : (place : Option WalkPlace) → handle_files place ≤ files_taken place
few_taken None = omega arith
few_taken (Some place) = omega arith

-- where it was stopped before the walk
told_stopped : (before after : Purge) → NameLaws before.inv → (fault : FileFault) (x y : Option Files)
    → Told (SliceChange (IsTakenFirst before.inv before.place) (folders_of before.level before.inv before.place) (most_added before) (handle_files before.place) before.stamp) x y → Told (IsSlice before after (purge_step_of (Err fault))) x y
told_stopped before after laws fault x y changes =
    told_as (SliceChange (IsTakenFirst before.inv before.place) (folders_of before.level before.inv before.place) (most_added before) (handle_files before.place) before.stamp) (IsSlice before after (purge_step_of (Err fault))) x y
    (λ old new change. slice_is before after (purge_step_of (Err fault)) old new laws
    (change_opening before.level before.inv before.stamp before.place (handle_files before.place) old new (few_taken before.place) change) (fault_left before after fault old new)) changes

pub told_given_up : (before after : Purge) → NameLaws before.inv → (r : Result Bool FileFault) → IsErr r → (x y : Option Files)
    → Told (SliceChange (IsTakenFirst before.inv before.place) (folders_of before.level before.inv before.place) (most_added before) (handle_files before.place) before.stamp) x y → Told (IsSlice before after (purge_step_of r)) x y
told_given_up before after laws (Ok more) err x y changes = absurd (cc (err))
told_given_up before after laws (Err fault) err x y changes = told_stopped before after laws fault x y changes
