-- Notes of stamps.
use Rattle.std.proofs.Common.{◌≡◌, ◌⊎◌, ◌≤◌, ◌<◌, ◌+◌, ℕ, Bool, true, false, cond, get_or, List, Option, Some, None, inl, inr, ⊎_elim, length, refl, sym, ◌∙◌, ap, arith}
use Rattle.std.specs.Map.{lookup}
use Rattle.std.specs.Option.{option_or}
use Rattle.std.proofs.lemmas.Bool.{cases_lt}
use Rattle.std.proofs.lemmas.List.{get_or_default}
use Rattle.sp_base.specs.Texts.{Segments}
use Rattle.cover_rules.specs.declared.stamp.Stamp.{Stamp}
use Rattle.page_index.specs.Held.{HeldStamps, same_folder}
use Rattle.page_index.specs.Notes.{held_stamp}
use Rattle.page_index.proofs.KeyLemmas.{folder_itself}

abbrev pub StampNotes : Type 0
StampNotes = List (Segments × Option Stamp)

abbrev pub stamp_in_notes : StampNotes → Segments → Option (Option Stamp)
stamp_in_notes notes folder = lookup (same_folder folder) notes

both_gone : (b : Bool) (x y : Option (Option Stamp)) → option_or (cond b None x) (cond b None y) ≡ cond b None (option_or x y)
both_gone true x y = refl
both_gone false x y = refl

pub forgotten_in_both : (folder other : Segments) (young older now then : StampNotes)
    → stamp_in_notes now other ≡ cond (same_folder folder other) None (stamp_in_notes young other) → stamp_in_notes then other ≡ cond (same_folder folder other) None (stamp_in_notes older other)
    → option_or (stamp_in_notes now other) (stamp_in_notes then other) ≡ cond (same_folder folder other) None (option_or (stamp_in_notes young other) (stamp_in_notes older other))
forgotten_in_both folder other young older now then first second =
    ap (λ x. option_or x (stamp_in_notes then other)) first ∙ ap (λ y. option_or (cond (same_folder folder other) None (stamp_in_notes young other)) y) second
    ∙ both_gone (same_folder folder other) (stamp_in_notes young other) (stamp_in_notes older other)

-- what was forgotten stays forgotten, and so does a folder that is forgotten now
pub gone_here : (folder : Segments) (o : Option (Option Stamp)) → cond (same_folder folder folder) None o ≡ None
gone_here folder o = ap (λ b. cond b None o) (folder_itself folder)

none_or_none : (b : Bool) (o : Option (Option Stamp)) → o ≡ None → cond b None o ≡ None
none_or_none true o e = refl
none_or_none false o e = e

same_or_none : (b : Bool) (o : Option (Option Stamp)) → (cond b None o ≡ o) ⊎ (cond b None o ≡ None)
same_or_none true o = inr refl
same_or_none false o = inl refl

-- ---- folders that are forgotten one after the other

-- of these folders the first so many were gone through
pub record ForgottenTo (folders : List Segments) (seen : ℕ) (old new : HeldStamps) : Type 0 where
  pub gone : (k : ℕ) (folder : Segments) → k < seen → get_or folders k folder ≡ folder → held_stamp new folder ≡ None
  pub fewer : (folder : Segments) → (held_stamp new folder ≡ held_stamp old folder) ⊎ (held_stamp new folder ≡ None)

pub forgotten_none : (folders : List Segments) (stamps : HeldStamps) → ForgottenTo folders 0 stamps stamps
forgotten_none folders stamps = record { gone = λ k folder lt at. absurd (omega (arith, lt)); fewer = λ folder. inl refl }

pub forgotten_more : (folders : List Segments) (seen : ℕ) (item : Segments) (old mid new : HeldStamps) → seen < length folders → get_or folders seen item ≡ item → ForgottenTo folders seen old mid
    → ((other : Segments) → held_stamp new other ≡ cond (same_folder item other) None (held_stamp mid other)) → ForgottenTo folders (seen + 1) old new
forgotten_more folders seen item old mid new lt at before forgets = record {
  gone = λ k folder small there. ⊎_elim
      (λ (earlier : k < seen). forgets folder ∙ none_or_none (same_folder item folder) (held_stamp mid folder) (before.gone k folder earlier there))
      (λ (late : seen ≤ k).
      let now : k ≡ seen = omega (arith, small, late) in
      let same : folder ≡ item = sym there ∙ ap (λ j. get_or folders j folder) now ∙ get_or_default folders seen folder item lt ∙ at in
      forgets folder ∙ ap (λ f. cond (same_folder item f) None (held_stamp mid folder)) same ∙ gone_here item (held_stamp mid folder))
      (cases_lt k seen);
  fewer = λ folder. ⊎_elim
      (λ same. ⊎_elim (λ e. inl (forgets folder ∙ same ∙ e)) (λ e. inr (forgets folder ∙ same ∙ e)) (before.fewer folder))
      (λ none. inr (forgets folder ∙ none)) (same_or_none (same_folder item folder) (held_stamp mid folder));
}

-- ---- a generation that falls

pub falls : (young older : StampNotes) (folder : Segments) → (stamp_in_notes young folder ≡ option_or (stamp_in_notes young folder) (stamp_in_notes older folder)) ⊎ (stamp_in_notes young folder ≡ None)
falls young older folder = by (stamp_in_notes young folder)
  where
    by : (o : Option (Option Stamp)) → (o ≡ option_or o (stamp_in_notes older folder)) ⊎ (o ≡ None)
    by None = inr refl
    by (Some stamp) = inl refl

pub put_beside : (folder other : Segments) (young older now : StampNotes) (stamp : Option Stamp) → stamp_in_notes now other ≡ cond (same_folder folder other) (Some stamp) (stamp_in_notes young other)
    → same_folder folder other ≡ false → option_or (stamp_in_notes now other) (stamp_in_notes older other) ≡ option_or (stamp_in_notes young other) (stamp_in_notes older other)
put_beside folder other young older now stamp updates apart =
    ap (λ x. option_or x (stamp_in_notes older other)) (updates ∙ ap (λ b. cond b (Some stamp) (stamp_in_notes young other)) apart)
