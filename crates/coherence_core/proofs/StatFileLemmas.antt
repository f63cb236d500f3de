-- Which .stat files a call leaves as they were, and that each is of its form still.
use Rattle.std.proofs.Common.{◌≡◌, ◌≢◌, ◌<◌, ◌≤◌, ◌^◌, ℕ, false, List, [], ◌∷◌, Option, Some, None, IsSome, IsTrue, inl, inr, refl, sym, ◌∙◌, ap, subst, arith, ⊎_elim, unwrap_or}
use Rattle.std.proofs.lemmas.Bool.{true≢false}
use Rattle.std.specs.Option.{option_and_then}
use Rattle.sp_base.specs.Texts.{Text}
use Rattle.sp_outside.specs.Files.{Files, file_at}
use Rattle.cover_rules.specs.declared.page.PageKey.{PageKey}
use Rattle.cover_rules.specs.declared.stamp.Stamp.{Stamp}
use Rattle.cover_rules.specs.declared.invalidation.Invalidation.{Invalidation}
use Rattle.docroot_format.specs.Names.{epoch_name, is_stat_file}
use Rattle.docroot_format.specs.Readings.{epoch_of, stat_of}
use Rattle.docroot_format.specs.Texts.{stat_text}
use Rattle.cache_files.specs.Changes.{KeepsFiles}
use Rattle.cache_files.specs.Epochs.{epoch_held}
use Rattle.cache_files.specs.Pages.{page_body_name, page_head_name}
use Rattle.invalidation.specs.Slices.{ChangesFiles}
use Rattle.cache_ids.specs.Ids.{FlushId}
use Rattle.cache_log.specs.Entries.{LogEntry, Asked, Begun, Session, stamps_drawn}
use Rattle.cache_log.specs.Limits.{most_stamps}
use Rattle.coherence_core.specs.Holds.{AreStatsFormed, KeepsStatFiles}
use Rattle.coherence_core.specs.StampTies.{IsFlushStamp}

-- ---- .stat files that stay

-- a .stat file's name isn't that of another file
pub stat_is_no : (name other : Text) → IsTrue (is_stat_file name) → is_stat_file other ≡ false → name ≢ other
stat_is_no name other is none e = true≢false (sym is ∙ ap is_stat_file e ∙ none)

-- where each file stays but for the two of a page
pub kept_beside_page : (old new : Files) (key : PageKey) → is_stat_file (page_head_name key) ≡ false → is_stat_file (page_body_name key) ≡ false → KeepsFiles old new key → KeepsStatFiles old new
kept_beside_page old new key head body keeps name is = keeps name (stat_is_no name (page_head_name key) is head) (stat_is_no name (page_body_name key) is body)

pub kept_formed : (old new : Files) → KeepsStatFiles old new → AreStatsFormed old → AreStatsFormed new
kept_formed old new keeps formed name bytes is at = formed name bytes is (sym (keeps name is) ∙ at)

-- ---- what a flush writes

-- what is taken of texts: that of a stamp reads, and the number of a session has 64 bits
pub record TextLaws : Type 0 where
  pub stat : (stamp : Stamp) → stamp.epoch < 2 ^ 64 → stamp.count < 2 ^ 64 → stat_of (stat_text stamp) ≡ Some stamp
  pub fits : (text : Text) (epoch : ℕ) → epoch_of text ≡ Some epoch → (0 < epoch) × (epoch < 2 ^ 64)

held_fits : (o : Option Text) → ((text : Text) (epoch : ℕ) → epoch_of text ≡ Some epoch → (0 < epoch) × (epoch < 2 ^ 64)) → unwrap_or (option_and_then epoch_of o) 0 < 2 ^ 64
held_fits None fits = omega arith
held_fits (Some text) fits = of_read (epoch_of text) refl
  where
    of_read : (r : Option ℕ) → epoch_of text ≡ r → unwrap_or r 0 < 2 ^ 64
    of_read None e = omega arith
    of_read (Some epoch) e = (fits text epoch e).1

-- the count of a flush's stamp is that of the draws before it, in its session
stamp_counted : (log : List LogEntry) (v : FlushId) (inv : Invalidation) (s : Stamp) → IsFlushStamp log v inv s → s.count ≤ stamps_drawn log
stamp_counted [] v inv s is = absurd is
stamp_counted (Begun w i ∷ log) v inv s (inl is) = let same : s.count ≡ stamps_drawn log = ap (λ (x : Stamp). x.count) is.2 in omega (arith, same)
stamp_counted (Begun w i ∷ log) v inv s (inr is) = let rest : s.count ≤ stamps_drawn log = stamp_counted log v inv s is in omega (arith, rest)
stamp_counted (Asked m k ∷ log) v inv s is = let rest : s.count ≤ stamps_drawn log = stamp_counted log v inv s is in omega (arith, rest)
stamp_counted (Session e ∷ log) v inv s is = absurd is
stamp_counted (x ∷ log) v inv s is = stamp_counted log v inv s is

count_fits : (count drawn told : ℕ) → count ≤ told → drawn ≡ told → drawn ≤ most_stamps → count < 2 ^ 64
count_fits count drawn told le same few = omega (arith, le, same, few)

epoch_fits : (epoch held : ℕ) → epoch ≤ held → held < 2 ^ 64 → epoch < 2 ^ 64
epoch_fits epoch held le lt = omega (arith, le, lt)

-- the text of a flush's stamp reads
pub flush_reads : TextLaws → (files : Files) (s : Stamp) (drawn : ℕ) (log : List LogEntry) (v : FlushId) (inv : Invalidation) → s.epoch ≤ epoch_held files → IsFlushStamp log v inv s → drawn ≡ stamps_drawn log → drawn ≤ most_stamps → IsSome (stat_of (stat_text s))
flush_reads texts files s drawn log v inv low is same few =
    let epoch : s.epoch < 2 ^ 64 = epoch_fits s.epoch (epoch_held files) low (held_fits (file_at files epoch_name) texts.fits) in
    let count : s.count < 2 ^ 64 = count_fits s.count drawn (stamps_drawn log) (stamp_counted log v inv s is) same few in
    subst (λ (o : Option Stamp). IsSome o) (sym (texts.stat s epoch count)) refl

some_text : (text bytes : Text) (o : Option Text) → o ≡ Some text → o ≡ Some bytes → text ≡ bytes
some_text text bytes o is at = cc (is, at)

-- where each file stays, goes, or gets a text that reads
pub slice_formed : (IsTaken IsStamped : Text → Type 0) (stamp : Stamp) (old new : Files) → IsSome (stat_of (stat_text stamp)) → ChangesFiles IsTaken IsStamped stamp old new → AreStatsFormed old → AreStatsFormed new
slice_formed IsTaken IsStamped stamp old new reads changes formed name bytes is at = ⊎_elim
    (λ same. formed name bytes is (sym same ∙ at))
    (λ other. ⊎_elim
    (λ gone. absurd (cc (gone.1, at)))
    (λ set. subst (λ (text : Text). IsSome (stat_of text)) (some_text (stat_text stamp) bytes (file_at new name) set.1 at) reads)
    other)
    (changes name)
