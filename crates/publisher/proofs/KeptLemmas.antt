-- What is kept after one more reading.
use Rattle.std.proofs.Common.{◌≡◌, ◌⊎◌, inl, inr, ℕ, Bool, true, false, cond, List, Some, OnOk, OnErr, Ok, Err, refl, sym, ◌∙◌, ap}
use Rattle.std.specs.Prelude.{Result, option_map}
use Rattle.std.proofs.lemmas.Map.Views.{tells_apart}
use Rattle.std.proofs.lemmas.Option.{same_Some}
use Rattle.sp_base.specs.PathExact.{exact_paths}
use Rattle.resource_tree.specs.Content.{Content, same_path}
use Rattle.script_rank.specs.Ranking.{script_text}
use Rattle.publisher.specs.declared.templates.Reading.{Reading}
use Rattle.publisher.specs.Kept.{KeptReadings, reading_at}
use Rattle.publisher.specs.Readings.{reading_of}

-- a reading that is kept was kept before, or is the new one
abbrev pub IsOldOrNew : KeptReadings → List (List ℕ) → Reading → List (List ℕ) → Reading → Type 0
IsOldOrNew old script reading path kept = (reading_at old path ≡ Some kept) ⊎ ((path ≡ script) × (kept ≡ reading))

put_cases : (b : Bool) (old : KeptReadings) (script : List (List ℕ)) (reading : Reading) (path : List (List ℕ)) (kept : Reading) → same_path script path ≡ b
    → cond b (Some reading) (reading_at old path) ≡ Some kept → IsOldOrNew old script reading path kept
put_cases true old script reading path kept same is = inr (sym (tells_apart exact_paths script path same), sym (same_Some reading kept is))
put_cases false old script reading path kept same is = inl is

pub old_or_new : {A E : Type 0} (r : Result A E) (Put : Type 0) (old new : KeptReadings) (script : List (List ℕ)) (reading : Reading) → OnOk r Put
    → (Put → (q : List (List ℕ)) → reading_at new q ≡ cond (same_path script q) (Some reading) (reading_at old q)) → OnErr r (new ≡ old)
    → (path : List (List ℕ)) (kept : Reading) → reading_at new path ≡ Some kept → IsOldOrNew old script reading path kept
old_or_new (Ok x) Put old new script reading put look_ups same path kept is =
    put_cases (same_path script path) old script reading path kept refl (sym (look_ups put path) ∙ is)
old_or_new (Err e) Put old new script reading put look_ups same path kept is = inl (ap (λ (k : KeptReadings). reading_at k path) (sym same) ∙ is)

-- the new one is that of its script
pub new_is : (tree : Content) (script path : List (List ℕ)) (text : List ℕ) (reading kept : Reading) → script_text tree script ≡ Some text → reading ≡ reading_of text
    → (path ≡ script) × (kept ≡ reading) → option_map reading_of (script_text tree path) ≡ Some kept
new_is tree script path text reading kept is read new =
    ap (λ p. option_map reading_of (script_text tree p)) new.0 ∙ ap (option_map reading_of) is ∙ ap (λ (r : Reading). Some r) (sym read ∙ sym new.1)
