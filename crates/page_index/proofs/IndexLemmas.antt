-- What the calls make of the notes, and what changes of the files leave of them.
use Rattle.std.proofs.Common.{◌≡◌, ◌≢◌, ◌⊎◌, ◌≤◌, ℕ, true, false, cond, Bor, Option, Some, None, inl, inr, ⊎_elim, length, option_map, refl, sym, ◌∙◌, ap, subst, arith}
use Rattle.std.specs.Option.{option_or}
use Rattle.std.specs.Prelude.{Contains, is_some}
use Rattle.std.proofs.lemmas.Bool.{cases_Bool, true≢false}
use Rattle.std.proofs.lemmas.Option.{same_Some}
use Rattle.sp_base.specs.Texts.{Segments}
use Rattle.sp_outside.specs.Files.{Files}
use Rattle.cover_rules.specs.Coverage.{deletes, touched_of}
use Rattle.cover_rules.specs.Pages.{IsPageKey}
use Rattle.cover_rules.specs.declared.invalidation.Invalidation.{Invalidation}
use Rattle.cover_rules.specs.declared.page.PageKey.{PageKey}
use Rattle.cover_rules.specs.declared.stamp.Stamp.{Stamp}
use Rattle.stat_files.specs.Stamps.{stamp_at}
use Rattle.docroot_changes.specs.Changes.{BesideNumber, BesidePage, BesideStamp, IsStampFolder}
use Rattle.page_index.specs.Agreement.{Agrees, ChangesCovered, HasNoneCovered}
use Rattle.page_index.specs.Effects.{ForgetsPage, ForgetsStamp, IsFewer, SetsPage, SetsStamp}
use Rattle.page_index.specs.Held.{HeldNotes, HeldStamps, has_room, held_note, place_of_key, same_folder, same_key, weight_of}
use Rattle.page_index.specs.Limits.{longest_kept, most_young}
use Rattle.page_index.specs.Notes.{held_stamp, page_noted, stamp_noted}
use Rattle.page_index.specs.declared.index.PageIndex.{PageIndex}
use Rattle.page_index.specs.declared.page_note.PageNote.{PageNote}
use Rattle.page_index.proofs.AgreementLemmas.{PageAgrees, agrees_by, covered_by, files_agree, none_from_head, none_stays, pages_of, same_note, same_or_no_stamp, same_or_none}
use Rattle.page_index.proofs.HeldLemmas.{no_room, this_place}
use Rattle.page_index.proofs.StampLemmas.{gone_here}
use Rattle.page_index.proofs.KeyLemmas.{folder_apart, folder_is, folder_itself, key_apart, key_is, key_itself}

-- ---- one key, and the others

pub this_or_other : (key other : PageKey) → (other ≡ key) ⊎ (other ≢ key)
this_or_other key other = ⊎_elim
    (λ (same : same_key key other ≡ true). inl (sym (key_is key other same)))
    (λ (apart : same_key key other ≡ false). inr (λ is. true≢false (sym (key_itself key) ∙ ap (λ k. same_key key k) (sym is) ∙ apart)))
    (cases_Bool (same_key key other))

pub this_or_another : (folder other : Segments) → (other ≡ folder) ⊎ (other ≢ folder)
this_or_another folder other = ⊎_elim
    (λ (same : same_folder folder other ≡ true). inl (sym (folder_is folder other same)))
    (λ (apart : same_folder folder other ≡ false). inr (λ is. true≢false (sym (folder_itself folder) ∙ ap (λ f. same_folder folder f) (sym is) ∙ apart)))
    (cases_Bool (same_folder folder other))

pub each_page : (P : PageKey → Type 0) (key : PageKey) → P key → ((other : PageKey) → other ≢ key → P other) → (k : PageKey) → P k
each_page P key here others k = ⊎_elim (λ is. subst P (sym is) here) (λ differ. others k differ) (this_or_other key k)

pub each_folder : (P : Segments → Type 0) (folder : Segments) → P folder → ((other : Segments) → other ≢ folder → P other) → (f : Segments) → P f
each_folder P folder here others f = ⊎_elim (λ is. subst P (sym is) here) (λ differ. others f differ) (this_or_another folder f)

pub fewer_by_page : (key : PageKey) (old new : PageIndex) → (page_noted new key ≡ page_noted old key) ⊎ (page_noted new key ≡ None)
    → ((other : PageKey) → other ≢ key → (page_noted new other ≡ page_noted old other) ⊎ (page_noted new other ≡ None)) → ((folder : Segments) → stamp_noted new folder ≡ stamp_noted old folder) → IsFewer old new
fewer_by_page key old new here others stamps = record {
  pages = each_page (λ k. (page_noted new k ≡ page_noted old k) ⊎ (page_noted new k ≡ None)) key here others;
  stamps = λ folder. inl (stamps folder);
}

pub fewer_by_stamp : (folder : Segments) (old new : PageIndex) → (stamp_noted new folder ≡ stamp_noted old folder) ⊎ (stamp_noted new folder ≡ None)
    → ((other : Segments) → other ≢ folder → (stamp_noted new other ≡ stamp_noted old other) ⊎ (stamp_noted new other ≡ None)) → ((key : PageKey) → page_noted new key ≡ page_noted old key) → IsFewer old new
fewer_by_stamp folder old new here others pages = record {
  pages = λ key. inl (pages key);
  stamps = each_folder (λ f. (stamp_noted new f ≡ stamp_noted old f) ⊎ (stamp_noted new f ≡ None)) folder here others;
}

-- ---- a note that is set

stays : {A : Type 0} (o p : Option A) (W : Type 0) → (p ≡ o) ⊎ (W × (p ≡ None)) → (p ≡ o) ⊎ (p ≡ None)
stays o p W (inl e) = inl e
stays o p W (inr fell) = inr fell.1

pub set_agrees : (key : PageKey) (bytes : ℕ) (note : Option PageNote) (old new : PageIndex) (files : Files) → SetsPage key bytes note old new
    → (IsPageKey key → PageAgrees files key (page_noted old key) → PageAgrees files key note) → Agrees old files → Agrees new files
set_agrees key bytes note old new files sets noted agrees =
    let before = pages_of old files agrees in
    agrees_by new files
    (each_page (λ k. IsPageKey k → PageAgrees files k (page_noted new k)) key
    (λ good. same_note files key note (page_noted new key) sets.here (noted good (before key good)))
    (λ other differ good. same_or_none files other (page_noted old other) (page_noted new other) (stays _ _ _ (sets.others other differ)) (before other good)))
    (λ folder stamp good is. agrees.stamps folder stamp good (sym (sets.stamps folder) ∙ is))

pub set_covered : (key : PageKey) (bytes : ℕ) (set : Option PageNote) (old new : PageIndex) (level : ℕ) (inv : Invalidation) → SetsPage key bytes set old new
    → (deletes inv key ≡ true → page_noted old key ≡ None → set ≡ None) → HasNoneCovered level inv old → HasNoneCovered level inv new
set_covered key bytes set old new level inv sets none =
    covered_by level inv old new
    (each_page (λ k. deletes inv k ≡ true → page_noted old k ≡ None → page_noted new k ≡ None) key
    (λ del before. sets.here ∙ none del before)
    (λ other differ del before. none_stays (page_noted old other) (page_noted new other) (stays _ _ _ (sets.others other differ)) before))
    (λ folder has before. sets.stamps folder ∙ before)

pub stamp_agrees : (folder : Segments) (stamp : Option Stamp) (old new : PageIndex) (files : Files) → SetsStamp folder (Some stamp) old new → stamp_at files folder ≡ stamp → Agrees old files → Agrees new files
stamp_agrees folder stamp old new files sets at agrees =
    agrees_by new files
    (λ key good. same_note files key (page_noted old key) (page_noted new key) (sets.pages key) (pages_of old files agrees key good))
    (each_folder (λ f. (s : Option Stamp) → IsStampFolder f → stamp_noted new f ≡ Some s → stamp_at files f ≡ s) folder
    (λ s good is. at ∙ same_Some stamp s (sym sets.here ∙ is))
    (λ other differ s good is. same_or_no_stamp (stamp_noted old other) (stamp_noted new other) s (stamp_at files other) (stays _ _ _ (sets.others other differ)) (agrees.stamps other s good) is))

pub stamp_covered : (folder : Segments) (stamp : Option Stamp) (old new : PageIndex) (level : ℕ) (inv : Invalidation) → SetsStamp folder (Some stamp) old new → (Contains (touched_of level inv) folder → ⊥)
    → HasNoneCovered level inv old → HasNoneCovered level inv new
stamp_covered folder stamp old new level inv sets apart =
    covered_by level inv old new
    (λ key del before. sets.pages key ∙ before)
    (each_folder (λ f. Contains (touched_of level inv) f → stamp_noted old f ≡ None → stamp_noted new f ≡ None) folder
    (λ has before. absurd (apart has))
    (λ other differ has before. none_stays (stamp_noted old other) (stamp_noted new other) (stays _ _ _ (sets.others other differ)) before))

-- ---- what changes of the files leave

pub beside_page : (index : PageIndex) (key : PageKey) (old new : Files) → BesidePage key old new → page_noted index key ≡ None → Agrees index old → Agrees index new
beside_page index key old new beside none =
    files_agree index old new
    (λ other good. ⊎_elim (λ is. inl (ap (page_noted index) is ∙ none)) (λ differ. let same = beside.pages other good differ in inr (same.page, same.head)) (this_or_other key other))
    (λ folder good. inr (beside.stamps folder good.bytes))

pub beside_stamp : (index : PageIndex) (folder : Segments) (old new : Files) → BesideStamp folder old new → stamp_noted index folder ≡ None → Agrees index old → Agrees index new
beside_stamp index folder old new beside none =
    files_agree index old new
    (λ key good. let same = beside.pages key good in inr (same.page, same.head))
    (λ other good. ⊎_elim (λ is. inl (ap (stamp_noted index) is ∙ none)) (λ differ. inr (beside.stamps other good differ)) (this_or_another folder other))

pub beside_number : (index : PageIndex) (old new : Files) → BesideNumber old new → Agrees index old → Agrees index new
beside_number index old new beside =
    files_agree index old new (λ key good. let same = beside.pages key good in inr (same.page, same.head)) (λ folder good. inr (beside.stamps folder good.bytes))

pub beside_covered : (index : PageIndex) (level : ℕ) (inv : Invalidation) (old new : Files) → ChangesCovered level inv old new → HasNoneCovered level inv index → Agrees index old → Agrees index new
beside_covered index level inv old new changes covered =
    files_agree index old new
    (λ key good. ⊎_elim
    (λ page. ⊎_elim (λ head. inr (page, head)) (λ del. inl (none_from_head (page_noted index key) (covered.pages key good del))) (changes.heads key good))
    (λ del. inl (none_from_head (page_noted index key) (covered.pages key good del))) (changes.pages key good))
    (λ folder good. ⊎_elim (λ same. inr same) (λ has. inl (covered.stamps folder good has)) (changes.stamps folder good))

-- ---- notes in two generations

pub taken : (key : PageKey) (old new : PageIndex) → held_note new.young (place_of_key key) key ≡ None → held_note new.older (place_of_key key) key ≡ None
    → ((at : ℕ) (other : PageKey) → same_key key other ≡ false → held_note new.young at other ≡ held_note old.young at other)
    → ((at : ℕ) (other : PageKey) → same_key key other ≡ false → held_note new.older at other ≡ held_note old.older at other) → new.stamps ≡ old.stamps → ForgetsPage key old new
taken key old new young older beside behind same = record {
  here = ap (λ x. option_or x (held_note new.older (place_of_key key) key)) young ∙ older;
  others = λ other differ. (let apart = key_apart key other differ in λ i. option_or (beside (place_of_key other) other apart i) (behind (place_of_key other) other apart i));
  stamps = λ folder. ap (λ s. held_stamp s folder) same;
}

pub fell : (young older : Option PageNote) → (young ≡ option_or young older) ⊎ (young ≡ None)
fell None older = inr refl
fell (Some note) older = inl refl

-- the notes after room was made for so many bytes
abbrev pub HasMadeRoom : ℕ → PageIndex → PageIndex → Type 0
HasMadeRoom bytes old mid = (key : PageKey) → (page_noted mid key ≡ page_noted old key) ⊎ ((has_room old.young bytes ≡ false) × (page_noted mid key ≡ None))

-- a note that was put into the younger generation, of which no other generation has one at its place
pub settled : (old mid new : PageIndex) (note : PageNote) (place bytes : ℕ) → place ≡ place_of_key note.key → HasMadeRoom bytes old mid → mid.stamps ≡ old.stamps → new.stamps ≡ mid.stamps
    → held_note new.young place note.key ≡ Some note → ((other : PageKey) → same_key note.key other ≡ false → held_note new.young place other ≡ None)
    → ((at : ℕ) (other : PageKey) → at ≢ place → held_note new.young at other ≡ held_note mid.young at other) → ((other : PageKey) → held_note new.older place other ≡ None)
    → ((at : ℕ) (other : PageKey) → at ≢ place → held_note new.older at other ≡ held_note mid.older at other) → SetsPage note.key bytes (Some note) old new
settled old mid new note place bytes at room same also here displaced beside gone behind = record {
  here = ap (λ x. option_or x (held_note new.older (place_of_key note.key) note.key)) (subst (λ p. held_note new.young p note.key ≡ Some note) at here);
  others = λ other differ. ⊎_elim
      (λ one.
      let young : held_note new.young (place_of_key other) other ≡ None = subst (λ p. held_note new.young p other ≡ None) (sym one) (displaced other (key_apart note.key other differ)) in
      let older : held_note new.older (place_of_key other) other ≡ None = subst (λ p. held_note new.older p other ≡ None) (sym one) (gone other) in
      inr (inr (one ∙ at), ap (λ x. option_or x (held_note new.older (place_of_key other) other)) young ∙ older))
      (λ away.
      let stays : page_noted new other ≡ page_noted mid other = λ i. option_or (beside (place_of_key other) other away i) (behind (place_of_key other) other away i) in
      ⊎_elim (λ e. inl (stays ∙ e)) (λ w. inr (inl w.0, stays ∙ w.1)) (room other))
      (this_place place (place_of_key other));
  stamps = λ folder. ap (λ s. held_stamp s folder) (also ∙ same);
}

-- a note that found no memory
pub unsettled : (old mid new : PageIndex) (key : PageKey) (bytes : ℕ) → HasMadeRoom bytes old mid → page_noted old key ≡ None → mid.stamps ≡ old.stamps → new.stamps ≡ mid.stamps
    → ((k : PageKey) → page_noted new k ≡ page_noted mid k) → SetsPage key bytes None old new
unsettled old mid new key bytes room absent same also stays = record {
  here = stays key ∙ ⊎_elim (λ e. e ∙ absent) (λ w. w.1) (room key);
  others = λ other differ. ⊎_elim (λ e. inl (stays other ∙ e)) (λ w. inr (inl w.0, stays other ∙ w.1)) (room other);
  stamps = λ folder. ap (λ s. held_stamp s folder) (also ∙ same);
}

-- a page that was forgotten, and of which something is noted then
pub then_set : (old mid new : PageIndex) (key : PageKey) (less more : ℕ) (set : Option PageNote) → ForgetsPage key old mid → length mid.young.notes ≤ length old.young.notes → mid.young.bytes ≡ old.young.bytes
    → less ≤ more → SetsPage key less set mid new → SetsPage key more set old new
then_set old mid new key less more set forgets fewer same le sets = record {
  here = sets.here;
  others = λ other differ. ⊎_elim
      (λ e. inl (e ∙ forgets.others other differ))
      (λ w. inr (⊎_elim (λ full. inl (no_room old.young mid.young less more fewer same le full)) (λ one. inr one) w.0, w.1))
      (sets.others other differ);
  stamps = λ folder. sets.stamps folder ∙ forgets.stamps folder;
}

pub forgotten_set : (old mid : PageIndex) (key : PageKey) (bytes : ℕ) → ForgetsPage key old mid → SetsPage key bytes None old mid
forgotten_set old mid key bytes forgets = record { here = forgets.here; others = λ other differ. inl (forgets.others other differ); stamps = forgets.stamps }

-- the note of a page was taken out, and it or another of the page was put back
pub taken_set : (old mid new : PageIndex) (key : PageKey) (note : PageNote) (o : Option PageNote) → ForgetsPage key old mid → length mid.young.notes ≤ length old.young.notes → mid.young.bytes ≡ old.young.bytes
    → note.key ≡ key → weight_of note ≤ longest_kept → SetsPage note.key (weight_of note) o mid new → SetsPage key longest_kept o old new
taken_set old mid new key note o forgets fewer same is le sets = then_set old mid new key (weight_of note) longest_kept o forgets fewer same le (subst (λ k. SetsPage k (weight_of note) o mid new) is sets)

-- where nothing is lent there is nothing
pub none_lent : (r : Option (Bor PageNote)) → is_some r ≡ false → option_map (λ x. x.now) r ≡ None
none_lent None e = refl
none_lent (Some x) e = absurd (true≢false e)

-- the note of the older generation is the one that is noted, where the younger has none
pub in_older : (index : PageIndex) (key : PageKey) (o : Option PageNote) → held_note index.young (place_of_key key) key ≡ None → held_note index.older (place_of_key key) key ≡ o → page_noted index key ≡ o
in_older index key o young older = ap (λ x. option_or x (held_note index.older (place_of_key key) key)) young ∙ older

-- ---- stamps

pub stamp_set : (folder : Segments) (stamp : Option (Option Stamp)) (old new : PageIndex) (mid : HeldStamps) → ((other : Segments) → held_stamp mid other ≡ cond (same_folder folder other) None (held_stamp old.stamps other))
    → length mid.young ≤ length old.stamps.young → held_stamp new.stamps folder ≡ stamp
    → ((other : Segments) → same_folder folder other ≡ false → (held_stamp new.stamps other ≡ held_stamp mid other) ⊎ ((most_young ≤ length mid.young) × (held_stamp new.stamps other ≡ None)))
    → new.young ≡ old.young → new.older ≡ old.older → SetsStamp folder stamp old new
stamp_set folder stamp old new mid forgets fewer here others young older = record {
  here = here;
  others = λ other differ.
      let apart = folder_apart folder other differ in
      let before : held_stamp mid other ≡ held_stamp old.stamps other = forgets other ∙ ap (λ b. cond b None (held_stamp old.stamps other)) apart in
      ⊎_elim (λ e. inl (e ∙ before)) (λ w. inr (omega (arith, w.0, fewer), w.1)) (others other apart);
  pages = λ key. λ i. option_or (held_note (young i) (place_of_key key) key) (held_note (older i) (place_of_key key) key);
}

pub stamp_forgotten : (folder : Segments) (old new : PageIndex) → ((other : Segments) → held_stamp new.stamps other ≡ cond (same_folder folder other) None (held_stamp old.stamps other)) → new.young ≡ old.young → new.older ≡ old.older
    → ForgetsStamp folder old new
stamp_forgotten folder old new forgets young older = record {
  here = forgets folder ∙ gone_here folder (held_stamp old.stamps folder);
  others = λ other differ. forgets other ∙ ap (λ b. cond b None (held_stamp old.stamps other)) (folder_apart folder other differ);
  pages = λ key. λ i. option_or (held_note (young i) (place_of_key key) key) (held_note (older i) (place_of_key key) key);
}

pub stamp_lost : (folder : Segments) (old new : PageIndex) → ForgetsStamp folder old new → SetsStamp folder None old new
stamp_lost folder old new forgets = record { here = forgets.here; others = λ other differ. inl (forgets.others other differ); pages = forgets.pages }

-- the notes after that of the older generation was taken out
abbrev pub with_older : PageIndex → HeldNotes → PageIndex
with_older index older = record { young = index.young; older = older; stamps = index.stamps }

pub taken_older : (key : PageKey) (place : ℕ) (old : PageIndex) (older : HeldNotes) → place ≡ place_of_key key → held_note old.young place key ≡ None → held_note older place key ≡ None
    → ((at : ℕ) (other : PageKey) → same_key key other ≡ false → held_note older at other ≡ held_note old.older at other) → ForgetsPage key old (with_older old older)
taken_older key place old older is young gone others =
    taken key old (with_older old older) (subst (λ p. held_note old.young p key ≡ None) is young) (subst (λ p. held_note older p key ≡ None) is gone) (λ at other apart. refl) others refl

pub noted_older : (key : PageKey) (place : ℕ) (index : PageIndex) (o : Option PageNote) → place ≡ place_of_key key → held_note index.young place key ≡ None → held_note index.older place key ≡ o → page_noted index key ≡ o
noted_older key place index o is young older = in_older index key o (subst (λ p. held_note index.young p key ≡ None) is young) (subst (λ p. held_note index.older p key ≡ o) is older)
