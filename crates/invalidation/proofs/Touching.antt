-- Folders that are touched one after the other.
use Rattle.std.proofs.Common.{◌≡◌, ◌<◌, ◌≤◌, ◌+◌, ◌⊎◌, inl, inr, ⊎_elim, ℕ, Bool, true, false, cond, ◌++◌, List, [], ◌∷◌, Option, Some, None, Ok, Err, get_or, length, take, refl, sym, ◌∙◌, ap, subst, arith}
use Rattle.std.specs.Prelude.{Contains, IfErr, OnOk, Result}
use Rattle.std.specs.Cmp.Lexicographic.{nat_list_cmp_total}
use Rattle.std.specs.FinMap.{get-insert}
use Rattle.std.specs.List.{AllByRecursion, prefix_len, take_while}
use Rattle.std.specs.Ordering.{eq_by_cmp}
use Rattle.std.proofs.lemmas.List.{length-take, take_all, take_more}
use Rattle.sp_base.specs.Bytes.{AreBytes}
use Rattle.sp_base.specs.Names.{by_name}
use Rattle.sp_base.specs.Paths.{mangled_segs, parent_of}
use Rattle.sp_base.specs.Texts.{Segments, Text}
use Rattle.sp_base.proofs.ListLemmas.{last_or_before}
use Rattle.sp_base.proofs.OrderingLemmas.{equal_from_test}
use Rattle.sp_base.proofs.TextLemmas.{one_text_or_two}
use Rattle.sp_outside.specs.Files.{Files, file_at, with_file}
use Rattle.sp_outside.proofs.HeldNames.{same_name}
use Rattle.cover_rules.specs.Coverage.{handle_of, lineage, touched_of}
use Rattle.cover_rules.specs.Pages.{is_folder_segment}
use Rattle.cover_rules.specs.declared.invalidation.Invalidation.{Invalidation}
use Rattle.cover_rules.specs.declared.stamp.Stamp.{Stamp}
use Rattle.cover_rules.proofs.TouchLemmas.{length-lineage}
use Rattle.docroot_format.specs.Faults.{IsLeftByFault}
use Rattle.docroot_format.specs.Names.{stat_name}
use Rattle.docroot_format.specs.Texts.{stat_text}
use Rattle.docroot_format.specs.declared.fault.FileFault.{FileFault}
use Rattle.cache_files.specs.Changes.{KeepsPages}
use Rattle.stat_files.specs.Stamps.{files_with_stamp, stamp_at, told_with_stamp}
use Rattle.docroot_changes.specs.Changes.{IsStampFolder, StampSet, Told}
use Rattle.docroot_changes.proofs.CountedNames.{kept_file, more_names, same_files}
use Rattle.docroot_changes.proofs.ToldFiles.{told_made}
use Rattle.invalidation.specs.Slices.{IsStatOf}
use Rattle.invalidation.specs.Walks.{AreTouched, TouchedTo, Touches}
use Rattle.invalidation.proofs.Chains.{either, told_same}

abbrev Untaken : Text → Type 0
Untaken name = ⊥

-- ---- one touch

first : {A : Type 0} (x : A) → Contains (x ∷ []) x
first x = (0, omega arith, refl)

only : (x y : Segments) → Contains (x ∷ []) y → y ≡ x
only x y has = ⊎_elim (λ none. absurd (omega (arith, none.1))) (λ e. e) (last_or_before [] x y has)

-- different folders have different .stat files
abbrev pub StatsApart : Type 0
StatsApart = (folder other : Segments) → AllByRecursion AreBytes folder → AllByRecursion AreBytes other → stat_name folder ≡ stat_name other → mangled_segs folder ≡ mangled_segs other

written : (old : Files) (folder : Segments) (text name : Text) (b : Bool) → eq_by_cmp by_name name (stat_name folder) ≡ b
    → (file_at (with_file old (stat_name folder) text) name ≡ file_at old name) ⊎ ((⊥ × (file_at (with_file old (stat_name folder) text) name ≡ None)) ⊎ (IsStatOf (folder ∷ []) name × (file_at (with_file old (stat_name folder) text) name ≡ Some text)))
written old folder text name true e =
    inr (inr ((folder, (first folder, same_name name (stat_name folder) (equal_from_test (by_name name (stat_name folder)) e))), get-insert nat_list_cmp_total old (stat_name folder) text name ∙ ap (λ b. cond b (Some text) (file_at old name)) e))
written old folder text name false e = inl (get-insert nat_list_cmp_total old (stat_name folder) text name ∙ ap (λ b. cond b (Some text) (file_at old name)) e)

touched_one : StatsApart → (old : Files) (folder : Segments) (stamp : Stamp) → IsStampFolder folder → StampSet folder stamp old (files_with_stamp old folder stamp) → Touches (folder ∷ []) 1 stamp old (files_with_stamp old folder stamp)
touched_one apart old folder stamp may set = record {
  pages = set.beside.pages;
  stamps = λ other ok. ⊎_elim
      (λ same.
      let is : other ≡ folder = sym ok.docroot.0 ∙ apart other folder ok.bytes may.bytes same ∙ may.docroot.0 in
      inr (subst (λ f. Contains (folder ∷ []) f) (sym is) (first folder), ap (stamp_at (files_with_stamp old folder stamp)) is ∙ set.here))
      (λ differ. inl (set.beside.stamps other ok (λ e. differ (ap stat_name e)))) (one_text_or_two (stat_name other) (stat_name folder));
  files = λ name. written old folder (stat_text stamp) name (eq_by_cmp by_name name (stat_name folder)) refl;
  number = set.beside.number;
  order = set.order;
  names = set.names;
  loses = kept_file old (stat_name folder) (stat_text stamp);
}

pub touches_none : (folders : List Segments) (most : ℕ) (stamp : Stamp) (files : Files) → Touches folders most stamp files files
touches_none folders most stamp files = record {
  pages = λ key page. record { page = refl; head = refl };
  stamps = λ folder ok. inl refl;
  files = λ name. inl refl;
  number = record { held = refl; next = refl };
  order = λ le held. held;
  names = same_files files most;
  loses = λ test. omega arith;
}

-- what a touch sets of files, each by itself
abbrev pub TouchSets : Segments → Stamp → Type 0
TouchSets folder stamp = (old : Files) → StampSet folder stamp old (files_with_stamp old folder stamp)

pub told_touches : StatsApart → (folder : Segments) (stamp : Stamp) → IsStampFolder folder → TouchSets folder stamp → {T : Type 0} (r : Result T FileFault) (x y : Option Files) → OnOk r (y ≡ told_with_stamp x folder stamp)
    → IfErr r (IsLeftByFault x (told_with_stamp x folder stamp) y) → Told (Touches (folder ∷ []) 1 stamp) x y
told_touches apart folder stamp may sets r x y ok err =
    let P = Touches (folder ∷ []) 1 stamp in
    let made = told_made P (λ files. files_with_stamp files folder stamp) x y (λ old. touched_one apart old folder stamp may (sets old)) in
    either r (y ≡ told_with_stamp x folder stamp) (Told P x y) (IsLeftByFault x (told_with_stamp x folder stamp) y) made
    (λ fault left. ⊎_elim (λ same. told_same P x y (touches_none (folder ∷ []) 1 stamp) same) (λ w. made w.1) left) ok err

pub told_touched : (folder : Segments) (stamp : Stamp) → TouchSets folder stamp → {T : Type 0} (r : Result T FileFault) (x y : Option Files) → OnOk r (y ≡ told_with_stamp x folder stamp) → OnOk r (Told (λ a b. AreTouched (folder ∷ []) stamp b) x y)
told_touched folder stamp sets (Ok t) x y ok =
    told_made (λ a b. AreTouched (folder ∷ []) stamp b) (λ files. files_with_stamp files folder stamp) x y (λ old other may has. ap (stamp_at (files_with_stamp old folder stamp)) (only folder other has) ∙ (sets old).here) ok
told_touched folder stamp sets (Err e) x y ok = ok

-- ---- touches that follow each other

same_pages : (a b c : Files) → KeepsPages a b → KeepsPages b c → KeepsPages a c
same_pages a b c first then = λ key page. record { page = (then key page).page ∙ (first key page).page; head = (then key page).head ∙ (first key page).head }

pub touches_then : (folders : List Segments) (m n : ℕ) (stamp : Stamp) (a b c : Files) → Touches folders m stamp a b → Touches folders n stamp b c → Touches folders (m + n) stamp a c
touches_then folders m n stamp a b c first then = record {
  pages = same_pages a b c first.pages then.pages;
  stamps = λ folder ok. ⊎_elim (λ e. ⊎_elim (λ d. inl (e ∙ d)) (λ w. inr (w.0, e ∙ w.1)) (first.stamps folder ok)) (λ w. inr w) (then.stamps folder ok);
  files = λ name. ⊎_elim (λ e. ⊎_elim (λ d. inl (e ∙ d)) (λ w. ⊎_elim (λ none. absurd none.0) (λ s. inr (inr (s.0, e ∙ s.1))) w) (first.files name)) (λ w. inr w) (then.files name);
  number = record { held = then.number.held ∙ first.number.held; next = then.number.next ∙ first.number.next };
  order = λ le held. then.order (subst (λ n. stamp.epoch ≤ n) (sym first.number.held) le) (first.order le held);
  names = more_names m n a b c first.names then.names;
  loses = λ test. (let one = first.loses test in let two = then.loses test in omega (arith, one, two));
}

pub touches_as : (some all : List Segments) (m n : ℕ) (stamp : Stamp) (a b : Files) → m ≤ n → ((folder : Segments) → Contains some folder → Contains all folder) → Touches some m stamp a b → Touches all n stamp a b
touches_as some all m n stamp a b le has touches = record {
  pages = touches.pages;
  stamps = λ folder ok. ⊎_elim (λ e. inl e) (λ w. inr (has folder w.0, w.1)) (touches.stamps folder ok);
  files = λ name. ⊎_elim (λ e. inl e) (λ w. inr (⊎_elim (λ none. absurd none.0) (λ s. inr ((s.0.0, (has s.0.0 s.0.1.0, s.0.1.1)), s.1)) w)) (touches.files name);
  number = touches.number;
  order = touches.order;
  names = λ test. (let more = touches.names test in omega (arith, more, le));
  loses = touches.loses;
}

at_of : (folders : List Segments) (i : ℕ) (folder other : Segments) → i < length folders → get_or folders i folder ≡ folder → Contains (folder ∷ []) other → Contains folders other
at_of folders i folder other lt at has = subst (λ f. Contains folders f) (sym (only folder other has)) (i, lt, at)

pub touched_more : (folders : List Segments) (i : ℕ) (folder : Segments) (stamp : Stamp) → i < length folders → get_or folders i folder ≡ folder → (a b c : Files) → TouchedTo folders i stamp a b
    → Touches (folder ∷ []) 1 stamp b c × AreTouched (folder ∷ []) stamp c → TouchedTo folders (i + 1) stamp a c
touched_more folders i folder stamp lt at a b c done then =
    let one = touches_as (folder ∷ []) folders 1 1 stamp b c (omega arith) (λ other. at_of folders i folder other lt at) then.0 in
    record {
      touches = touches_then folders i 1 stamp a b c done.touches one;
      touched = λ other ok has. ⊎_elim
          (λ before. ⊎_elim (λ e. e ∙ done.touched other ok before) (λ w. w.1) (one.stamps other ok))
          (λ same. then.1 other ok (subst (λ f. Contains (folder ∷ []) f) (sym same) (first folder)))
          (last_or_before (take i folders) folder other (subst (λ (l : List Segments). Contains l other) (take_more folders i folder lt ∙ ap (λ f. take i folders ++ f ∷ []) at) has));
    }

pub touched_none : (folders : List Segments) (stamp : Stamp) (files : Files) → TouchedTo folders 0 stamp files files
touched_none folders stamp files = record { touches = touches_none folders 0 stamp files; touched = λ folder ok has. absurd (omega (arith, has.1)) }

pub touched_stopped : (folders : List Segments) (i : ℕ) (folder : Segments) (stamp : Stamp) → i < length folders → get_or folders i folder ≡ folder → (a b c : Files) → TouchedTo folders i stamp a b → Touches (folder ∷ []) 1 stamp b c
    → Touches folders (length folders) stamp a c
touched_stopped folders i folder stamp lt at a b c done then =
    touches_as folders folders (i + 1) (length folders) stamp a c (omega (arith, lt)) (λ f has. has)
    (touches_then folders i 1 stamp a b c done.touches (touches_as (folder ∷ []) folders 1 1 stamp b c (omega arith) (λ other. at_of folders i folder other lt at) then))

pub touched_all : (folders : List Segments) (i : ℕ) (stamp : Stamp) → i ≡ length folders → (a b : Files) → TouchedTo folders i stamp a b → Touches folders (length folders) stamp a b × AreTouched folders stamp b
touched_all folders i stamp end a b done = (
  touches_as folders folders i (length folders) stamp a b (omega (arith, end)) (λ f has. has) done.touches,
  λ folder ok has. done.touched folder ok (subst (λ (l : List Segments). Contains l folder) (sym (take_all i folders (omega (arith, end)))) has),
)

-- ---- how many folders are touched

few_of : (only : Bool) (level : ℕ) (segs : Segments) → length segs ≤ level → length (cond only [] (lineage segs)) ≤ level + 1
few_of true level segs few = omega arith
few_of false level segs few = (let e = length-lineage segs in omega (arith, e, few))

pub few_touched : (level : ℕ) (inv : Invalidation) → length (touched_of level inv) ≤ level + 1
few_touched level inv =
    let above = parent_of (handle_of inv) in
    let first = take level above in
    few_of inv.only level (take_while is_folder_segment first)
    (omega (arith, length-take (prefix_len is_folder_segment first) first, length-take level above))
