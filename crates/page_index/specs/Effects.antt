-- What the calls make of the notes.
use Rattle.std.specs.Prelude.{◌≡◌, ◌≢◌, ◌⊎◌, ◌≤◌, ℕ, false, Contains, Option, None, IsTrue, length}
use Rattle.sp_base.specs.Texts.{Segments}
use Rattle.cover_rules.specs.Coverage.{deletes, touched_of}
use Rattle.cover_rules.specs.declared.invalidation.Invalidation.{Invalidation}
use Rattle.cover_rules.specs.declared.page.PageKey.{PageKey}
use Rattle.cover_rules.specs.declared.stamp.Stamp.{Stamp}
use Rattle.page_index.specs.Held.{has_room, place_of_key, HeldStamps}
use Rattle.page_index.specs.Limits.{most_young}
use Rattle.page_index.specs.Notes.{page_noted, stamp_noted, held_stamp}
use Rattle.page_index.specs.declared.index.PageIndex.{PageIndex}
use Rattle.page_index.specs.declared.page_note.PageNote.{PageNote}

-- nothing is noted
pub record IsBare (index : PageIndex) : Type 0 where
  pub pages : (key : PageKey) → page_noted index key ≡ None
  pub stamps : (folder : Segments) → stamp_noted index folder ≡ None

-- each note was there before
pub record IsFewer (old new : PageIndex) : Type 0 where
  pub pages : (key : PageKey) → (page_noted new key ≡ page_noted old key) ⊎ (page_noted new key ≡ None)
  pub stamps : (folder : Segments) → (stamp_noted new folder ≡ stamp_noted old folder) ⊎ (stamp_noted new folder ≡ None)

-- A page's note may fall where one with so many bytes comes in for another key: where the younger generation is full, so that the older one
-- falls, or where the two keys have one hash.
abbrev pub MayFall : PageIndex → ℕ → PageKey → PageKey → Type 0
MayFall index bytes key other = (has_room index.young bytes ≡ false) ⊎ (place_of_key other ≡ place_of_key key)

-- the notes of other keys' pages are as they were, or fell
abbrev pub OtherPagesStay : PageIndex → PageIndex → ℕ → PageKey → Type 0
OtherPagesStay old new bytes key = (other : PageKey) → other ≢ key → (page_noted new other ≡ page_noted old other) ⊎ (MayFall old bytes key other × (page_noted new other ≡ None))

-- The note of a key's page is this, or it has none; the notes of other pages are as they were, or fell for so many bytes. Each stamp is noted as before.
pub record SetsPage (key : PageKey) (bytes : ℕ) (note : Option PageNote) (old new : PageIndex) : Type 0 where
  pub here : page_noted new key ≡ note
  pub others : OtherPagesStay old new bytes key
  pub stamps : (folder : Segments) → stamp_noted new folder ≡ stamp_noted old folder

-- the notes of other folders' stamps are as they were, or fell since the younger generation is full
abbrev pub OtherStampsStay : PageIndex → PageIndex → Segments → Type 0
OtherStampsStay old new folder = (other : Segments) → other ≢ folder → (stamp_noted new other ≡ stamp_noted old other) ⊎ ((most_young ≤ length old.stamps.young) × (stamp_noted new other ≡ None))

-- The note of a folder's stamp is this, or it has none; the notes of other folders are as they were, or fell. Each page is noted as before.
pub record SetsStamp (folder : Segments) (stamp : Option (Option Stamp)) (old new : PageIndex) : Type 0 where
  pub here : stamp_noted new folder ≡ stamp
  pub others : OtherStampsStay old new folder
  pub pages : (key : PageKey) → page_noted new key ≡ page_noted old key

-- the key's page isn't noted, and all else is noted as before
pub record ForgetsPage (key : PageKey) (old new : PageIndex) : Type 0 where
  pub here : page_noted new key ≡ None
  pub others : (other : PageKey) → other ≢ key → page_noted new other ≡ page_noted old other
  pub stamps : (folder : Segments) → stamp_noted new folder ≡ stamp_noted old folder

-- the folder's stamp isn't noted, and all else is noted as before
pub record ForgetsStamp (folder : Segments) (old new : PageIndex) : Type 0 where
  pub here : stamp_noted new folder ≡ None
  pub others : (other : Segments) → other ≢ folder → stamp_noted new other ≡ stamp_noted old other
  pub pages : (key : PageKey) → page_noted new key ≡ page_noted old key

-- No page is noted that the invalidation deletes, and no stamp that it touches. Other pages are noted as before; other stamps may be forgotten.
pub record ForgetsCovered (level : ℕ) (inv : Invalidation) (old new : PageIndex) : Type 0 where
  pub deleted : (key : PageKey) → IsTrue (deletes inv key) → page_noted new key ≡ None
  pub others : (key : PageKey) → deletes inv key ≡ false → page_noted new key ≡ page_noted old key
  pub touched : (folder : Segments) → Contains (touched_of level inv) folder → stamp_noted new folder ≡ None
  pub stamps : (folder : Segments) → (stamp_noted new folder ≡ stamp_noted old folder) ⊎ (stamp_noted new folder ≡ None)

-- each page's note is as it was, or fell for so many bytes, since the younger generation is full
abbrev pub PagesStayOrFall : ℕ → PageIndex → PageIndex → Type 0
PagesStayOrFall bytes old new = (key : PageKey) → (page_noted new key ≡ page_noted old key) ⊎ ((has_room old.young bytes ≡ false) × (page_noted new key ≡ None))

-- the folder's stamp is held as it was, or fell since the younger generation is full
abbrev pub StampStaysOrFalls : Segments → HeldStamps → HeldStamps → Type 0
StampStaysOrFalls folder old new = (held_stamp new folder ≡ held_stamp old folder) ⊎ ((most_young ≤ length old.young) × (held_stamp new folder ≡ None))
